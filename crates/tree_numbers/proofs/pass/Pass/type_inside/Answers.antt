use Rattle.std.proofs.Common.{sym, ap, ◌∙◌}
use Rattle.luau_tree.specs.View.{view_type}
use Rattle.tree_numbers.specs.Numbered.{of_type}
use Rattle.tree_numbers.proofs.Marking.{marked_gives}
use Rattle.tree_numbers.proofs.pass.Pass.type_inside.Goals as goal

pub returns : goal.returns
returns g c =
    ap (λ t. of_type t c.args.numbers.now) c.in_ok-spans.ensures
    ∙ marked_gives c.in_ok-spans.spans (view_type c.in_ok-spans.inner) (view_type c.in_ok-inner.inner) _ _ c.in_ok-inner.ensures
    ∙ ap (λ t. (t, c.type_form.new.numbers)) (sym c.in_ok-with_marks.ensures)
