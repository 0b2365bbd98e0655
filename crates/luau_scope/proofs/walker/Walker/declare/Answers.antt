use Rattle.std.proofs.Common.{ℕ, List, sym, ap, ◌∙◌}
use Rattle.std.proofs.lemmas.Result.{on_ok_weaker}
use Rattle.luau_tree.specs.Tree.{Bind}
use Rattle.luau_tree.specs.declared.tree.ExprKind.TheViews as part
use Rattle.luau_scope.specs.declared.findings.Findings.{Findings}
use Rattle.luau_scope.specs.Found.{Declares}
use Rattle.luau_scope.specs.Steps.{added, after_declared, step}
use Rattle.luau_scope.proofs.Layers.{bind_layer}
use Rattle.luau_scope.proofs.walker.Walker.declare.Goals as goal

pub returns : goal.returns
unfolding after_declared added
returns c =
    on_ok_weaker c.declare.result (λ e.
    ap (λ (f : Findings). record c.args.self.now { found = f }) (e ∙ ap (λ (name : List ℕ). step (Declares name (part.out-Bind c.args.bind.now).span c.args.within.function c.args.given) c.args.self.now.found) c.in_ok-name.ensures)
    ∙ ap (λ (b : Bind). after_declared c.args.within c.args.given b c.args.self.now) (sym (bind_layer c.args.bind.now))) c.declare.ensures
