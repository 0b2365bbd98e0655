use Rattle.std.proofs.Common.{◌≡◌, length}
use Rattle.luau_tree.specs.View.{view_type}
use Rattle.tree_numbers.specs.Marks.{marked}
use Rattle.tree_numbers.proofs.types.with_marks.Given as goal

-- the marks that are still to be put
abbrev pub invariant-loop-span : goal.invariant-loop-span
invariant-loop-span l = marked l.fn.spans (view_type l.fn.typ) ≡ marked l.rest (view_type l.done)

abbrev pub decreases-loop-span : goal.decreases-loop-span
decreases-loop-span l = length l.rest
