use Rattle.std.proofs.Common.{List}
use Rattle.luau_tree.specs.declared.tree as code
use Rattle.luau_tree.specs.declared.tree.ExprKind.TheViews as part
use Rattle.luau_tree.specs.View.{view_binds, view_gens, view_maybe_type, view_stats, view_varargs}
use Rattle.std.proofs.Common.{ap, ◌∙◌}
use Rattle.luau_scope.specs.Steps.{after_close, after_gens, after_maybe_type, after_params, after_stats, after_varargs, run}
use Rattle.luau_scope.proofs.Pushes.{before, pushed}
use Rattle.luau_scope.proofs.VisitBlocks.{body_visit, inside}
use Rattle.luau_scope.proofs.walker.Walker.body.Goals as goal

pub returns : goal.returns
returns c =
    let i = inside (part.out-Body c.args.body.now).id c.is_some.result c.len-depth.result in
    let block = view_stats (part.out-Block (part.out-Body c.args.body.now).block).stats in
    pushed c.push-6.result _ _ _ _ _ _ c.push-6.ensures.ok (before _ _ _ _ c.in_ok-push-5.ensures.ok
    ∙ before _ _ _ _ c.in_ok-push-4.ensures.ok
    ∙ before _ _ _ _ c.in_ok-push-3.ensures.ok
    ∙ before _ _ _ _ c.in_ok-push-2.ensures.ok
    ∙ before _ _ _ _ c.in_ok-push.ensures.ok
    ∙ ap (λ (xs : List code.Stat.Stat). run c.args.tasks.now (after_close c.len-depth.result (after_stats i (view_stats xs) (after_maybe_type i (view_maybe_type (part.out-Body c.args.body.now).result) (after_varargs i (view_varargs (part.out-Body c.args.body.now).vararg) (after_params i (view_binds c.as_slice-2.result.now) (after_gens i (view_gens c.as_slice-3.result.now) c.args.self.now))))))) c.as_slice.ensures
    ∙ ap (λ (xs : List code.Bind.Bind). run c.args.tasks.now (after_close c.len-depth.result (after_stats i block (after_maybe_type i (view_maybe_type (part.out-Body c.args.body.now).result) (after_varargs i (view_varargs (part.out-Body c.args.body.now).vararg) (after_params i (view_binds xs) (after_gens i (view_gens c.as_slice-3.result.now) c.args.self.now))))))) c.as_slice-2.ensures
    ∙ ap (λ (xs : List code.Gen.Gen). run c.args.tasks.now (after_close c.len-depth.result (after_stats i block (after_maybe_type i (view_maybe_type (part.out-Body c.args.body.now).result) (after_varargs i (view_varargs (part.out-Body c.args.body.now).vararg) (after_params i (view_binds (part.out-Body c.args.body.now).params) (after_gens i (view_gens xs) c.args.self.now))))))) c.as_slice-3.ensures
    ∙ ap (run c.args.tasks.now) (body_visit c.args.within c.args.body.now c.is_some.result c.len-depth.result c.args.self.now (cc) c.len-depth.ensures))
