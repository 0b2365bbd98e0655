use Rattle.std.proofs.Common.{refl, ap}
use Rattle.luau_scope.specs.declared.findings.Findings.{Findings}
use Rattle.luau_scope.specs.Steps.{added}
use Rattle.luau_scope.proofs.walker.Walker.leave_loop.Goals as goal

pub returns-in-Without : goal.returns-in-Without
unfolding added
returns-in-Without c = rw c.in-Without.is (ap (λ (f : Findings). record c.args.self.now { found = f }) c.refuse.ensures)

pub returns-in-Repeat : goal.returns-in-Repeat
unfolding added
returns-in-Repeat c = rw c.in-Repeat.is refl

pub returns-in-Other : goal.returns-in-Other
unfolding added
returns-in-Other c = rw c.in-Other.is refl
