use Rattle.std.proofs.Common.{◌≡◌, ◌∙◌}
use Rattle.std.specs.Ordering.{ordering_then, bool_cmp}
use Rattle.type_arena.specs.Term.{strings_of, functions_of}
use Rattle.type_normal.specs.Free.{name_cmp, function_cmp}
use Rattle.type_normal.specs.Members.{members_cmp}
use Rattle.type_ops.proofs.CompareFacts.{then_all}
use Rattle.type_ops.proofs.SetFacts.{strings_compare, functions_compare}
use Rattle.type_ops.proofs.comparing.compare_free.Goals as goal

pub returns : goal.returns
returns c =
    let s : c.compare_sets.result ≡ members_cmp name_cmp (strings_of c.args.a.now.strings) (strings_of c.args.b.now.strings) = c.compare_sets.ensures ∙ strings_compare c.args.a.now.strings c.args.b.now.strings in
    let f : c.compare_sets-2.result ≡ members_cmp function_cmp (functions_of c.args.a.now.functions) (functions_of c.args.b.now.functions) = c.compare_sets-2.ensures ∙ functions_compare c.args.a.now.functions c.args.b.now.functions in
    let n = c.cmp.ensures in
    let t = c.cmp-2.ensures in
    let u = c.cmp-3.ensures in
    let m = c.cmp-4.ensures in
    let o = c.cmp-5.ensures in
    then_all _ _ _ _ _ _ _ _ _ _ _ _ _ c.then.ensures c.then-2.ensures c.then-3.ensures c.then-4.ensures c.then-5.ensures c.then-6.ensures
    ∙ (λ i. ordering_then (n i) (ordering_then (t i) (ordering_then (u i) (ordering_then (m i) (ordering_then (o i) (ordering_then (s i) (f i)))))))
