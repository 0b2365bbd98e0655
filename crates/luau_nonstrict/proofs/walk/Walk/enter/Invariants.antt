use Rattle.std.proofs.Common.{◌≤◌}
use Rattle.luau_nonstrict.specs.Visible.{StaysVisible}
use Rattle.luau_nonstrict.proofs.walk.Walk.enter.Given as goal

abbrev pub invariant-loop-entry : goal.invariant-loop-entry
invariant-loop-entry g l =
    (goal.iterator-loop-entry g).can_next l.entry-iterator ×
    (goal.iterator-loop-entry g).is_finite l.entry-iterator ×
    (l.self.turns ≤ l.initial.self.turns) ×
    StaysVisible l.self
