use Rattle.std.proofs.Common.{◌≡◌, ◌≤◌, List}
use Rattle.luau_tree.specs.View.{view_type}
use Rattle.annotations.specs.Lowered.{Known, raw}
use Rattle.type_lower.specs.Joined.{marked}
use Rattle.type_lower.specs.Weight.{weight}
use Rattle.type_lower.proofs.marks.unmarked.Given as goal

-- the marks so far were taken off
abbrev pub invariant-loop : goal.invariant-loop
invariant-loop l = record {
  same : (known : List Known) → marked l.marks (raw known (view_type l.inner)) ≡ raw known (view_type l.initial.inner);
  lighter : weight (view_type l.inner) ≤ weight (view_type l.initial.inner);
  counted : l.marks ≤ l.counter;
}
