use Rattle.std.proofs.Common.{ℕ, List, sym, ap, ◌∙◌}
use Rattle.std.proofs.lemmas.Result.{on_ok_weaker}
use Rattle.luau_tree.specs.declared.tree as code
use Rattle.luau_tree.specs.declared.tree.ExprKind.TheViews as part
use Rattle.luau_tree.specs.Tree.{GenFor, Local, no_exprs}
use Rattle.luau_tree.specs.View.{view_arms, view_binds, view_block, view_body, view_expr, view_exprs, view_gens, view_maybe_block, view_maybe_type, view_type}
use Rattle.luau_scope.specs.declared.within.Within.{Within}
use Rattle.luau_scope.specs.declared.walker.Walker.{Walker}
use Rattle.luau_scope.specs.Steps.{after_aims, after_arms, after_block, after_body, after_expr, after_exprs, after_gens, after_maybe_block, after_maybe_type, after_stat, after_targets, after_type, run}
use Rattle.luau_scope.proofs.Pushes.{before, pushed}
use Rattle.luau_scope.proofs.VisitStats.{assign_stat_visit, break_stat_visit, call_stat_visit, compound_stat_visit, continue_stat_visit, do_stat_visit, function_stat_visit, gen_for_stat_visit, if_stat_visit, local_function_visit, local_stat_visit, num_for_stat_visit, repeat_stat_visit, return_stat_visit, type_alias_stat_visit, type_function_stat_visit, while_stat_visit}
use Rattle.luau_scope.proofs.walker.Walker.stat.Goals as goal

pub returns-in_ok-push-in-Assign : goal.returns-in_ok-push-in-Assign
returns-in_ok-push-in-Assign c =
    pushed c.push-in-Assign.result _ _ _ _ _ _ c.push-in-Assign.ensures.ok (before _ _ _ _ c.in_ok-push-in-Assign.ensures.ok
    ∙ ap (λ (xs : List code.Expr.Expr). run c.args.tasks.now (after_exprs c.args.within (view_exprs xs) (after_targets c.args.within c.new-earlier.result (view_exprs c.as_slice-in-Assign.result.now) c.args.self.now))) c.as_slice.ensures
    ∙ ap (λ (xs : List code.Expr.Expr). run c.args.tasks.now (after_exprs c.args.within (view_exprs c.in-Assign.values) (after_targets c.args.within c.new-earlier.result (view_exprs xs) c.args.self.now))) c.as_slice-in-Assign.ensures
    ∙ ap (λ (xs : List ℕ). run c.args.tasks.now (after_exprs c.args.within (view_exprs c.in-Assign.values) (after_targets c.args.within xs (view_exprs c.in-Assign.targets) c.args.self.now))) c.new-earlier.ensures
    ∙ ap (run c.args.tasks.now) (sym (assign_stat_visit c.args.within c.args.span c.args.kind.now c.in-Assign.targets c.in-Assign.values c.args.self.now c.in-Assign.is)))

pub returns-in_ok-push-in-Compound-2 : goal.returns-in_ok-push-in-Compound-2
returns-in_ok-push-in-Compound-2 c =
    pushed c.push-in-Compound-3.result _ _ _ _ _ _ c.push-in-Compound-3.ensures.ok (before _ _ _ _ c.in_ok-push-in-Compound-2.ensures.ok
    ∙ before _ _ _ _ c.in_ok-push-in-Compound.ensures.ok
    ∙ ap (λ (xs : List ℕ). run c.args.tasks.now (after_expr c.args.within (view_expr c.in-Compound.value) (after_aims c.args.within xs (view_expr c.in-Compound.target) no_exprs (after_expr c.args.within (view_expr c.in-Compound.target) c.args.self.now)))) c.new-earlier-in-Compound.ensures
    ∙ ap (run c.args.tasks.now) (sym (compound_stat_visit c.args.within c.args.span c.args.kind.now c.in-Compound.target _ c.in-Compound.value c.args.self.now c.in-Compound.is)))

pub returns-in-CallStat : goal.returns-in-CallStat
returns-in-CallStat c =
    pushed c.push-in-CallStat.result _ _ _ _ _ _ c.push-in-CallStat.ensures.ok (ap (run c.args.tasks.now) (sym (call_stat_visit c.args.within c.args.span c.args.kind.now c.in-CallStat.e c.args.self.now c.in-CallStat.is)))

pub returns-in-Do : goal.returns-in-Do
returns-in-Do c =
    pushed c.push-in-Do.result _ _ _ _ _ _ c.push-in-Do.ensures.ok (ap (run c.args.tasks.now) (sym (do_stat_visit c.args.within c.args.span c.args.kind.now c.in-Do.body c.args.self.now c.in-Do.is)))

pub returns-in_ok-push-in-While : goal.returns-in_ok-push-in-While
returns-in_ok-push-in-While c =
    pushed c.push-in-While-2.result _ _ _ _ _ _ c.push-in-While-2.ensures.ok (before _ _ _ _ c.in_ok-push-in-While.ensures.ok
    ∙ ap (λ (xs : Within). run c.args.tasks.now (after_block xs (view_block c.in-While.body) (after_expr c.args.within (view_expr c.in-While.cond) c.args.self.now))) c.in_loop.ensures
    ∙ ap (run c.args.tasks.now) (sym (while_stat_visit c.args.within c.args.span c.args.kind.now c.in-While.cond c.in-While.body c.args.self.now c.in-While.is)))

pub returns-in-Repeat : goal.returns-in-Repeat
returns-in-Repeat c =
    on_ok_weaker c.repeat.result (λ e. e c.args.span
    ∙ ap (run c.args.tasks.now) (sym (repeat_stat_visit c.args.within c.args.span c.args.kind.now c.in-Repeat.body c.in-Repeat.cond c.args.self.now c.in-Repeat.is))) c.repeat.ensures

pub returns-in_ok-push-in-If : goal.returns-in_ok-push-in-If
returns-in_ok-push-in-If c =
    pushed c.push-in-If-2.result _ _ _ _ _ _ c.push-in-If-2.ensures.ok (before _ _ _ _ c.in_ok-push-in-If.ensures.ok
    ∙ ap (λ (xs : List code.Arm.Arm). run c.args.tasks.now (after_maybe_block c.args.within (view_maybe_block c.in-If.last) (after_arms c.args.within (view_arms xs) c.args.self.now))) c.as_slice-in-If.ensures
    ∙ ap (run c.args.tasks.now) (sym (if_stat_visit c.args.within c.args.span c.args.kind.now c.in-If.arms c.in-If.last c.args.self.now c.in-If.is)))

pub returns-in-NumFor : goal.returns-in-NumFor
returns-in-NumFor c =
    on_ok_weaker c.num_for.result (λ e. e c.args.span
    ∙ ap (run c.args.tasks.now) (sym (num_for_stat_visit c.args.within c.args.span c.args.kind.now c.in-NumFor.bind c.in-NumFor.from c.in-NumFor.to c.in-NumFor.step c.in-NumFor.body c.args.self.now c.in-NumFor.is))) c.num_for.ensures

pub returns-in-GenFor : goal.returns-in-GenFor
returns-in-GenFor c =
    on_ok_weaker c.gen_for.result (λ e. e c.args.span
    ∙ ap (λ (xs : List code.Bind.Bind). run c.args.tasks.now (after_stat c.args.within c.args.span (GenFor (view_binds xs) (view_exprs c.as_slice-in-GenFor-2.result.now) (view_block c.in-GenFor.body)) c.args.self.now)) c.as_slice-in-GenFor.ensures
    ∙ ap (λ (xs : List code.Expr.Expr). run c.args.tasks.now (after_stat c.args.within c.args.span (GenFor (view_binds c.in-GenFor.binds) (view_exprs xs) (view_block c.in-GenFor.body)) c.args.self.now)) c.as_slice-in-GenFor-2.ensures
    ∙ ap (run c.args.tasks.now) (sym (gen_for_stat_visit c.args.within c.args.span c.args.kind.now c.in-GenFor.binds c.in-GenFor.values c.in-GenFor.body c.args.self.now c.in-GenFor.is))) c.gen_for.ensures

pub returns-in_ok-push-in-Function-2 : goal.returns-in_ok-push-in-Function-2
returns-in_ok-push-in-Function-2 c =
    pushed c.push-in-Function-3.result _ _ _ _ _ _ c.push-in-Function-3.ensures.ok (before _ _ _ _ c.in_ok-push-in-Function-2.ensures.ok
    ∙ before _ _ _ _ c.in_ok-push-in-Function.ensures.ok
    ∙ ap (run c.args.tasks.now) (sym (function_stat_visit c.args.within c.args.span c.args.kind.now c.in-Function.path c.in-Function.method c.in-Function.body c.args.self.now c.in-Function.is)))

pub returns-in_ok-push-in-LocalFunction : goal.returns-in_ok-push-in-LocalFunction
returns-in_ok-push-in-LocalFunction c =
    pushed c.push-in-LocalFunction-2.result _ _ _ _ _ _ c.push-in-LocalFunction-2.ensures.ok (before _ _ _ _ c.in_ok-push-in-LocalFunction.ensures.ok
    ∙ ap (λ (u : Walker). run c.args.tasks.now (after_body c.args.within (view_body c.in-LocalFunction.body) (after_maybe_type c.args.within (view_maybe_type (part.out-Bind c.in-LocalFunction.name).typ) u))) c.in_ok-own_bind-in-LocalFunction.ensures
    ∙ ap (run c.args.tasks.now) (sym (local_function_visit c.args.within c.args.span c.args.kind.now c.in-LocalFunction.name c.in-LocalFunction.body c.args.self.now c.in-LocalFunction.is)))

pub returns-in-Local : goal.returns-in-Local
returns-in-Local c =
    on_ok_weaker c.local_stat.result (λ e. e c.args.span
    ∙ ap (λ (xs : List code.Bind.Bind). run c.args.tasks.now (after_stat c.args.within c.args.span (Local (view_binds xs) (view_exprs c.as_slice-in-Local-2.result.now)) c.args.self.now)) c.as_slice-in-Local.ensures
    ∙ ap (λ (xs : List code.Expr.Expr). run c.args.tasks.now (after_stat c.args.within c.args.span (Local (view_binds c.in-Local.binds) (view_exprs xs)) c.args.self.now)) c.as_slice-in-Local-2.ensures
    ∙ ap (run c.args.tasks.now) (sym (local_stat_visit c.args.within c.args.span c.args.kind.now c.in-Local.binds c.in-Local.values c.args.self.now c.in-Local.is))) c.local_stat.ensures

pub returns-in_ok-push-in-TypeAlias : goal.returns-in_ok-push-in-TypeAlias
returns-in_ok-push-in-TypeAlias c =
    pushed c.push-in-TypeAlias-2.result _ _ _ _ _ _ c.push-in-TypeAlias-2.ensures.ok (before _ _ _ _ c.in_ok-push-in-TypeAlias.ensures.ok
    ∙ ap (λ (xs : List code.Gen.Gen). run c.args.tasks.now (after_type c.args.within (view_type c.in-TypeAlias.typ) (after_gens c.args.within (view_gens xs) c.args.self.now))) c.as_slice-in-TypeAlias.ensures
    ∙ ap (run c.args.tasks.now) (sym (type_alias_stat_visit c.args.within c.args.span c.args.kind.now _ _ c.in-TypeAlias.generics c.in-TypeAlias.typ c.args.self.now c.in-TypeAlias.is)))

pub returns-in-TypeFunction : goal.returns-in-TypeFunction
returns-in-TypeFunction c =
    pushed c.push-in-TypeFunction.result _ _ _ _ _ _ c.push-in-TypeFunction.ensures.ok (ap (λ (u : Walker). run c.args.tasks.now (after_body c.args.within (view_body c.in-TypeFunction.body) u)) c.refuse_if.ensures
    ∙ ap (run c.args.tasks.now) (sym (type_function_stat_visit c.args.within c.args.span c.args.kind.now _ _ c.in-TypeFunction.body c.args.self.now c.in-TypeFunction.is)))

pub returns-in-Return : goal.returns-in-Return
returns-in-Return c =
    pushed c.push-in-Return.result _ _ _ _ _ _ c.push-in-Return.ensures.ok (ap (λ (xs : List code.Expr.Expr). run c.args.tasks.now (after_exprs c.args.within (view_exprs xs) c.args.self.now)) c.as_slice-in-Return.ensures
    ∙ ap (run c.args.tasks.now) (sym (return_stat_visit c.args.within c.args.span c.args.kind.now c.in-Return.values c.args.self.now c.in-Return.is)))

pub returns-in-Break : goal.returns-in-Break
returns-in-Break c = ap (run c.args.tasks.now) (c.leave_loop.ensures ∙ sym (break_stat_visit c.args.within c.args.span c.args.kind.now c.args.self.now c.in-Break.is))

pub returns-in-Continue : goal.returns-in-Continue
returns-in-Continue c = on_ok_weaker c.next_turn.result (λ e. ap (run c.args.tasks.now) (e ∙ sym (continue_stat_visit c.args.within c.args.span c.args.kind.now c.args.self.now c.in-Continue.is))) c.next_turn.ensures
