use Rattle.std.proofs.Common.{sym, ap}
use Rattle.luau_scope.specs.Steps.{run}
use Rattle.luau_tree.specs.View.{view_block}
use Rattle.luau_scope.proofs.AfterStats.{no_block, a_block}
use Rattle.luau_scope.proofs.Pushes.{pushed}
use Rattle.luau_scope.proofs.walker.Walker.last.Goals as goal

pub returns-in-None : goal.returns-in-None
returns-in-None c = rw c.in-None.is (ap (run c.args.tasks.now) (sym (no_block c.args.within c.args.self.now)))

pub returns-in-Some : goal.returns-in-Some
returns-in-Some c = pushed c.push.result _ _ _ _ _ _ c.push.ensures.ok (rw c.in-Some.is (ap (run c.args.tasks.now) (sym (a_block c.args.within (view_block c.in-Some.block) c.args.self.now))))
