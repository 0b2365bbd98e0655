use Rattle.std.proofs.Common.{ap, ◌∙◌, arith}
use Rattle.luau_tree.specs.declared.tree as code
use Rattle.luau_tree.specs.Tree as plain
use Rattle.std.proofs.lemmas.Result.{on_ok_weaker}
use Rattle.std.specs.Prelude.{Option}
use Rattle.luau_tree.specs.View.{view_bind, view_block, view_expr, view_maybe_expr}
use Rattle.infer_plan.specs.Weights.{maybe_weight}
use Rattle.infer_plan.proofs.stats.numeric_loop.Goals as goal

pub returns-in-None-clause-work : goal.returns-in-None-clause-work
returns-in-None-clause-work c = on_ok_weaker c.number_loop.result (λ made rules span work is. made rules span work (is ∙ ap (λ (m : Option code.Expr.Expr). plain.the_stat span (plain.NumFor (view_bind c.args.bind.now) (view_expr c.args.from.now) (view_expr c.args.to.now) (view_maybe_expr m) (view_block c.args.body.now))) c.in-None.is)) c.number_loop.ensures.work

pub returns-in-None-clause-light : goal.returns-in-None-clause-light
returns-in-None-clause-light c = on_ok_weaker c.number_loop.result (λ light. omega (arith, light, ap (λ (m : Option code.Expr.Expr). maybe_weight (view_maybe_expr m)) c.in-None.is)) c.number_loop.ensures.light

pub returns-in-Some-clause-work : goal.returns-in-Some-clause-work
returns-in-Some-clause-work c = on_ok_weaker c.stepped_loop.result (λ made rules span work is. made rules span work (is ∙ ap (λ (m : Option code.Expr.Expr). plain.the_stat span (plain.NumFor (view_bind c.args.bind.now) (view_expr c.args.from.now) (view_expr c.args.to.now) (view_maybe_expr m) (view_block c.args.body.now))) c.in-Some.is)) c.stepped_loop.ensures.work

pub returns-in-Some-clause-light : goal.returns-in-Some-clause-light
returns-in-Some-clause-light c = on_ok_weaker c.stepped_loop.result (λ light. omega (arith, light, ap (λ (m : Option code.Expr.Expr). maybe_weight (view_maybe_expr m)) c.in-Some.is)) c.stepped_loop.ensures.light
