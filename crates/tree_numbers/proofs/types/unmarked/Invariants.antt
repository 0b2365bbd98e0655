use Rattle.std.proofs.Common.{◌≡◌}
use Rattle.luau_tree.specs.View.{view_type}
use Rattle.tree_numbers.specs.Marks.{marked}
use Rattle.tree_numbers.proofs.types.unmarked.Given as goal

-- the marks that were taken off, and what is left
abbrev pub invariant-loop : goal.invariant-loop
invariant-loop l = view_type l.fn.typ ≡ marked l.spans (view_type l.inner)
