use Rattle.std.proofs.Common.{◌≡◌, ◌∙◌}
use Rattle.std.specs.Prelude.{◌||◌}
use Rattle.type_arena.proofs.CloneLemmas.{same_strings, same_functions}
use Rattle.type_normal.specs.Free.{name_cmp}
use Rattle.type_ops.specs.Joined.{fn_cmp}
use Rattle.type_ops.specs.Sets.{either_among}
use Rattle.type_ops.proofs.joining.either_part.Goals as goal

pub returns : goal.returns
returns c =
    let s1 = same_strings c.args.a.now.strings c.in_ok-clone.field-0 c.in_ok-clone.ensures.cases in
    let s2 = same_strings c.args.b.now.strings c.in_ok-clone-2.field-0 c.in_ok-clone-2.ensures.cases in
    let f1 = same_functions c.args.a.now.functions c.in_ok-clone-3.field-0 c.in_ok-clone-3.ensures.cases in
    let f2 = same_functions c.args.b.now.functions c.in_ok-clone-4.field-0 c.in_ok-clone-4.ensures.cases in
    let s : c.in_ok-strings.strings ≡ either_among name_cmp c.args.a.now.strings c.args.b.now.strings = c.in_ok-strings.ensures ∙ (λ i. either_among name_cmp (s1 i) (s2 i)) in
    let f : c.in_ok-functions.functions ≡ either_among fn_cmp c.args.a.now.functions c.args.b.now.functions = c.in_ok-functions.ensures ∙ (λ i. either_among fn_cmp (f1 i) (f2 i)) in
    λ i. record {
      nil = c.args.a.now.nil || c.args.b.now.nil;
      truth = c.args.a.now.truth || c.args.b.now.truth;
      falsity = c.args.a.now.falsity || c.args.b.now.falsity;
      number = c.args.a.now.number || c.args.b.now.number;
      other = c.args.a.now.other || c.args.b.now.other;
      strings = s i;
      functions = f i;
      rows = c.args.rows;
    }
