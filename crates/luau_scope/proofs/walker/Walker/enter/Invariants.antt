use Rattle.std.proofs.Common.{◌≡◌, ◌-◌, ◌≤◌, length}
use Rattle.luau_tree.specs.View.{view_binds}
use Rattle.luau_scope.specs.Steps.{after_entries}
use Rattle.luau_scope.proofs.walker.Walker.enter.Given as goal

abbrev pub invariant-loop-rest : goal.invariant-loop-rest
invariant-loop-rest l = record {
  within : l.outside ≤ length l.self.scope;
  left : after_entries l.within (length l.self.scope - l.outside) (view_binds l.rest) l.left l.self
      ≡ after_entries l.within (length l.initial.self.scope - l.outside) (view_binds l.initial.rest) l.initial.left l.initial.self;
}

abbrev pub decreases-loop-rest : goal.decreases-loop-rest
decreases-loop-rest l = length l.rest
