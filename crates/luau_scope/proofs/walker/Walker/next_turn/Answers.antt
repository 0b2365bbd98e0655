use Rattle.std.proofs.Common.{◌∙◌, refl, ap, ℕ}
use Rattle.std.proofs.lemmas.Result.{on_ok_weaker}
use Rattle.luau_scope.specs.declared.findings.Findings.{Findings}
use Rattle.luau_scope.specs.Found.{Continues}
use Rattle.luau_scope.specs.Steps.{added, step}
use Rattle.luau_scope.proofs.walker.Walker.next_turn.Goals as goal

pub returns-in-Without : goal.returns-in-Without
unfolding added
returns-in-Without c = rw c.in-Without.is (ap (λ (f : Findings). record c.args.self.now { found = f }) c.refuse.ensures)

pub returns-in_ok-before-in-Repeat : goal.returns-in_ok-before-in-Repeat
unfolding added
returns-in_ok-before-in-Repeat c = rw c.in-Repeat.is (on_ok_weaker c.postpone.result (λ e. ap (λ (f : Findings). record c.args.self.now { found = f }) (e ∙ ap (λ (n : ℕ). step (Continues c.args.at n) c.args.self.now.found) c.in_ok-before-in-Repeat.ensures)) c.postpone.ensures)

pub returns-in-Other : goal.returns-in-Other
unfolding added
returns-in-Other c = rw c.in-Other.is refl
