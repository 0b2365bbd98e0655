use Rattle.std.proofs.Common.{sym, ◌∙◌}
use Rattle.std.proofs.lemmas.Result.{on_ok_weaker}
use Rattle.luau_scope.specs.Found.{meant}
use Rattle.luau_scope.proofs.Uses.{builtin_field, is_held, local_field, other_field}
use Rattle.luau_scope.proofs.walker.Walker.field.Goals as goal

pub returns-then-is_some : goal.returns-then-is_some
returns-then-is_some c =
    local_field c.args.within c.args.at c.args.name.now c.args.field.now c.args.self.now
    (sym c.if-is_some.true ∙ is_held (meant c.args.self.now.scope c.args.name.now) _ _ c.meant.ensures c.is_some.ensures)

pub returns-then-not-has : goal.returns-then-not-has
returns-then-not-has c =
    other_field c.args.within c.args.at c.args.name.now c.args.field.now _ c.args.self.now
    (sym c.if-is_some.false ∙ is_held (meant c.args.self.now.scope c.args.name.now) _ _ c.meant.ensures c.is_some.ensures)
    c.in_ok-path.ensures (sym c.if-not-has.true ∙ c.has.ensures)

pub returns : goal.returns
returns c =
    on_ok_weaker c.mean.result (λ e. builtin_field c.args.within c.args.at c.args.name.now c.args.field.now _ c.args.self.now _
    (sym c.if-is_some.false ∙ is_held (meant c.args.self.now.scope c.args.name.now) _ _ c.meant.ensures c.is_some.ensures)
    c.in_ok-path.ensures (sym c.if-not-has.false ∙ c.has.ensures) e) c.mean.ensures
