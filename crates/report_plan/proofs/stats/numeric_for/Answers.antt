use Rattle.std.proofs.Common.{◌≡◌, ap, sym, subst, ◌∙◌}
use Rattle.std.specs.Prelude.{Option}
use Rattle.std.proofs.lemmas.Result.{on_ok_weaker}
use Rattle.luau_tree.specs.declared.tree as code
use Rattle.luau_tree.specs.declared.position.Span.{Span}
use Rattle.luau_tree.specs.Tree as plain
use Rattle.luau_tree.specs.View.{view_block, view_expr, view_maybe_expr, view_stat}
use Rattle.report_work.specs.Statements.{with_stat}
use Rattle.report_plan.specs.Puts.{Puts}
use Rattle.report_plan.specs.Weights.{stat_kind_weight}
use Rattle.report_plan.proofs.stats.numeric_for.Goals as goal

pub returns-in-None : goal.returns-in-None
returns-in-None c =
    on_ok_weaker c.number_loop.result
    (λ p. subst (λ (step : Option code.Expr.Expr). (span : Span) (bind : plain.Bind) → view_stat c.args.s.now ≡ plain.the_stat span (plain.NumFor bind (view_expr c.args.from.now) (view_expr c.args.to.now) (view_maybe_expr step) (view_block c.args.body.now))
    → Puts c.args.tasks.now.items c.number_loop.new.tasks.items (λ rules seen. with_stat rules seen (view_stat c.args.s.now)) (stat_kind_weight (plain.NumFor bind (view_expr c.args.from.now) (view_expr c.args.to.now) (view_maybe_expr step) (view_block c.args.body.now)))) (sym c.in-None.is) p)
    c.number_loop.ensures

pub returns-in-Some : goal.returns-in-Some
returns-in-Some c =
    on_ok_weaker c.stepped_loop.result
    (λ p. subst (λ (step : Option code.Expr.Expr). (span : Span) (bind : plain.Bind) → view_stat c.args.s.now ≡ plain.the_stat span (plain.NumFor bind (view_expr c.args.from.now) (view_expr c.args.to.now) (view_maybe_expr step) (view_block c.args.body.now))
    → Puts c.args.tasks.now.items c.stepped_loop.new.tasks.items (λ rules seen. with_stat rules seen (view_stat c.args.s.now)) (stat_kind_weight (plain.NumFor bind (view_expr c.args.from.now) (view_expr c.args.to.now) (view_maybe_expr step) (view_block c.args.body.now)))) (sym c.in-Some.is) p)
    c.stepped_loop.ensures
