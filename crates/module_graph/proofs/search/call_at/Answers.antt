use Rattle.std.proofs.Common.{◌≡◌, ◌<◌, ◌≤◌, length, ap, sym, ◌∙◌, arith, List, refl, Bor}
use Rattle.std.specs.Prelude.{slice_get, Option, None, Some, is_some}
use Rattle.std.specs.Option.{option_copied}
use Rattle.module_graph.specs.declared.node.Call.{Call}
use Rattle.module_graph.specs.declared.node.Node.{Node}
use Rattle.module_graph.specs.Requires.{calls_at}
use Rattle.module_graph.proofs.Lists.{calls_at-index, read-item}
use Rattle.module_graph.proofs.search.call_at.Goals as goal

is_some-copied : {X : Type 0} (r : Option (Bor X)) → is_some (option_copied r) ≡ is_some r
is_some-copied None = refl
is_some-copied (Some x) = refl

pub returns-clause-call : goal.returns-clause-call
returns-clause-call c =
    let calls : calls_at c.args.nodes.now c.args.file ≡ c.index-nodes-file.result.calls = calls_at-index c.args.nodes.now c.args.file c.index-nodes-file.result c.index-nodes-file.is c.requires in
    let lent : c.as_slice.result.now ≡ calls_at c.args.nodes.now c.args.file = c.as_slice.ensures ∙ (ap (λ (n : Node). n.calls) (sym c.index-nodes-file.is) ∙ sym calls) in
    let found : option_copied c.get.result ≡ slice_get c.as_slice.result.now c.args.place =
    read-item c.as_slice.result.now c.args.place (option_copied c.get.result) (is_some-copied c.get.result ∙ c.get.ensures.lookup.0) (c.get.ensures.lookup.4 (omega arith)) in
    c.copied.ensures ∙ (found ∙ ap (λ (l : List Call). slice_get l c.args.place) lent)
