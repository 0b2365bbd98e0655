use Rattle.std.proofs.Common.{sym, ap}
use Rattle.luau_scope.specs.Steps.{run}
use Rattle.luau_tree.specs.View.{view_type}
use Rattle.luau_scope.proofs.AfterTypes.{no_type, a_type}
use Rattle.luau_scope.proofs.Pushes.{pushed}
use Rattle.luau_scope.proofs.walker.Walker.maybe_type.Goals as goal

pub returns-in-None : goal.returns-in-None
returns-in-None c = rw c.in-None.is (ap (run c.args.tasks.now) (sym (no_type c.args.within c.args.self.now)))

pub returns-in-Some : goal.returns-in-Some
returns-in-Some c = pushed c.push.result _ _ _ _ _ _ c.push.ensures.ok (rw c.in-Some.is (ap (run c.args.tasks.now) (sym (a_type c.args.within (view_type c.in-Some.typ) c.args.self.now))))
