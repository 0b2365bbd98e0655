use Rattle.std.proofs.Common.{ℕ, ◌-◌, List, [], ◌∷◌, ◌++◌, length, take, drop, sym, ap, ◌∙◌}
use Rattle.std.specs.Prelude.{Option}
use Rattle.luau_tree.specs.declared.names.ExprId.{ExprId}
use Rattle.luau_tree.specs.declared.tree as code
use Rattle.luau_tree.specs.declared.tree.ExprKind.TheViews as part
use Rattle.luau_tree.specs.Tree as plain
use Rattle.luau_tree.specs.View.{view_bind, view_binds, view_exprs, view_maybe_type}
use Rattle.luau_scope.specs.declared.walker.Walker.{Walker}
use Rattle.luau_scope.specs.Finds.{first_value}
use Rattle.luau_scope.specs.Steps.{after_declared, after_locals, after_maybe_type, run}
use Rattle.luau_scope.proofs.AfterLocals.{all_declared}
use Rattle.luau_scope.proofs.Pushes.{before, pushed}
use Rattle.luau_scope.proofs.Splits.{none_of}
use Rattle.luau_scope.proofs.VisitLocals.{locals_visit}
use Rattle.luau_scope.proofs.walker.Walker.locals.Goals as goal

pub returns-in_default : goal.returns-in_default
returns-in_default c =
    pushed c.push-in_default.result _ _ _ _ _ _ c.push-in_default.ensures.ok (before _ _ _ _ c.in_ok-push.ensures.ok
    ∙ ap (run c.args.tasks.now) (sym (all_declared c.args.within (view_binds c.args.locals.all.now) (view_exprs c.args.locals.given.now) (view_exprs c.args.locals.values.now) c.args.locals.numbers c.args.self.now))
    ∙ ap (λ (xs : List code.Bind.Bind). run c.args.tasks.now (after_locals c.args.within (view_binds c.args.locals.all.now) (view_binds xs) (view_exprs c.args.locals.given.now) (view_exprs c.args.locals.values.now) c.args.locals.numbers c.args.self.now)) (sym (none_of c.args.locals.rest.now c.in_default.len_below)))

pub returns : goal.returns
returns c =
    let rest = take (length c.args.locals.rest.now - 1) (drop 1 c.args.locals.rest.now) in
    let values = view_exprs c.args.locals.values.now in
    let bind = view_bind c.bind-item.result in
    let given = view_exprs c.args.locals.given.now in
    let typed : Walker → Walker = λ (u : Walker). after_maybe_type c.args.within (view_maybe_type (part.out-Bind c.bind-item.result).typ) u in
    pushed c.push-4.result _ _ _ _ _ _ c.push-4.ensures.ok (before _ _ _ _ c.in_ok-push-3.ensures.ok
    ∙ ap (λ (ns : List ℕ). run c.args.tasks.now (after_locals c.args.within (view_binds c.args.locals.all.now) (view_binds rest) (view_exprs c.first_given-given.result.1.now) values ns (typed c.declare.new.self))) c.in_ok-push-2.ensures.ok
    ∙ ap (λ (n : ℕ). run c.args.tasks.now (after_locals c.args.within (view_binds c.args.locals.all.now) (view_binds rest) (view_exprs c.first_given-given.result.1.now) values (c.args.locals.numbers ++ n ∷ []) (typed c.declare.new.self))) c.in_ok-number.ensures
    ∙ ap (λ (u : Walker). run c.args.tasks.now (after_locals c.args.within (view_binds c.args.locals.all.now) (view_binds rest) (view_exprs c.first_given-given.result.1.now) values (c.args.locals.numbers ++ length c.args.self.now.found.locals ∷ []) (typed u))) c.in_ok-declare.ensures
    ∙ ap (λ (g : Option ExprId). run c.args.tasks.now (after_locals c.args.within (view_binds c.args.locals.all.now) (view_binds rest) (view_exprs c.first_given-given.result.1.now) values (c.args.locals.numbers ++ length c.args.self.now.found.locals ∷ []) (typed (after_declared c.args.within g bind c.args.self.now)))) c.first_given-given.ensures.first
    ∙ ap (λ (es : plain.Exprs). run c.args.tasks.now (after_locals c.args.within (view_binds c.args.locals.all.now) (view_binds rest) es values (c.args.locals.numbers ++ length c.args.self.now.found.locals ∷ []) (typed (after_declared c.args.within (first_value given) bind c.args.self.now)))) c.first_given-given.ensures.others
    ∙ ap (run c.args.tasks.now) (sym (locals_visit c.args.within (view_binds c.args.locals.all.now) c.args.locals.rest.now c.bind-item.result given values c.args.locals.numbers c.args.self.now c.in-len1-up.len_at_least c.bind-item.is)))
