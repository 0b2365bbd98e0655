use Rattle.std.proofs.Common.{refl, ap}
use Rattle.luau_scope.specs.declared.findings.Findings.{Findings}
use Rattle.luau_scope.specs.Steps.{added}
use Rattle.luau_scope.proofs.walker.Walker.refuse_if.Goals as goal

pub returns-then-test : goal.returns-then-test
unfolding added
returns-then-test c = rw c.if-test.true (ap (λ (f : Findings). record c.args.self.now { found = f }) c.refuse.ensures)

pub returns-else-test : goal.returns-else-test
unfolding added
returns-else-test c = rw c.if-test.false refl
