use Rattle.std.proofs.Common.{◌∙◌}
use Rattle.luau_tree.specs.View.{view_expr}
use Rattle.luau_scope.specs.Finds as finds
use Rattle.luau_scope.specs.Steps.{around_in}
use Rattle.std.proofs.lemmas.Result.{IfOk-weaker}
use Rattle.luau_scope.proofs.Uses.{loader_named, unnamed_loader}
use Rattle.luau_scope.proofs.walker.Walker.loads_modules.Goals as goal

pub returns-in-None : goal.returns-in-None
returns-in-None c = unnamed_loader (around_in c.args.self.now c.args.within) (finds.kind_of (view_expr c.args.callee.now)) c.in-None.ensures

pub returns-in-Some : goal.returns-in-Some
returns-in-Some c =
    IfOk-weaker c.is_loader.result _ _ (λ loads e. e ∙ loader_named (around_in c.args.self.now c.args.within) (finds.kind_of (view_expr c.args.callee.now)) _ c.in-Some.ensures) c.is_loader.ensures
