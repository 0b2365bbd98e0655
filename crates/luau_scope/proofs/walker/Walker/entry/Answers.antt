use Rattle.std.proofs.Common.{[], ◌∷◌, ◌++◌, sym, ap, ◌∙◌}
use Rattle.std.proofs.lemmas.Result.{on_ok_weaker}
use Rattle.luau_tree.specs.Tree.{Bind}
use Rattle.luau_tree.specs.declared.tree.ExprKind.TheViews as part
use Rattle.luau_scope.specs.declared.walker.Walker.{Walker}
use Rattle.luau_scope.specs.Found.{Scope, Visible}
use Rattle.luau_scope.specs.Steps.{after_entry}
use Rattle.luau_scope.proofs.Layers.{bind_layer}
use Rattle.luau_scope.proofs.walker.Walker.entry.Goals as goal

pub returns : goal.returns
unfolding after_entry
returns c =
    let local : Visible = record { name = (part.out-Bind c.args.bind.now).name; local = c.args.number; function = c.args.within.function } in
    on_ok_weaker c.enter.result (λ e.
    ap (λ (scope : Scope). record c.refuse_if.new.self { scope = scope }) e
    ∙ ap (λ (u : Walker). record u { scope = u.scope ++ local ∷ [] }) c.refuse_if.ensures
    ∙ ap (λ (b : Bind). after_entry c.args.within c.args.own b c.args.number c.args.self.now) (sym (bind_layer c.args.bind.now))) c.enter.ensures
