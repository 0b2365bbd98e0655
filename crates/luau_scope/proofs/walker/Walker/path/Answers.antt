use Rattle.std.proofs.Common.{◌∙◌}
use Rattle.std.proofs.lemmas.Result.{on_ok_weaker}
use Rattle.luau_tree.specs.View.{view_expr}
use Rattle.luau_scope.specs.Finds as finds
use Rattle.luau_scope.specs.Steps.{around_in}
use Rattle.luau_scope.proofs.Uses.{path_named, unnamed_path}
use Rattle.luau_scope.proofs.walker.Walker.path.Goals as goal

pub returns-in-None : goal.returns-in-None
returns-in-None c = unnamed_path c.args.within c.args.at (finds.kind_of (view_expr c.args.base.now)) c.args.field.now c.args.self.now c.in-None.ensures

pub returns-in-Some : goal.returns-in-Some
returns-in-Some c =
    on_ok_weaker c.field.result (λ e. e ∙ path_named (around_in c.args.self.now c.args.within) c.args.at (finds.kind_of (view_expr c.args.base.now)) _ c.args.field.now c.args.self.now c.in-Some.ensures) c.field.ensures
