use Rattle.std.proofs.Common.{ℕ, List, sym, subst}
use Rattle.std.specs.Prelude.{Option}
use Rattle.std.proofs.lemmas.Result.{on_ok_weaker}
use Rattle.luau_tree.specs.declared.position.Span.{Span}
use Rattle.luau_tree.specs.Tree as plain
use Rattle.luau_tree.specs.View.{view_body, view_expr}
use Rattle.report_work.specs.Statements.{with_stat}
use Rattle.report_plan.specs.Puts.{Puts}
use Rattle.report_plan.specs.Weights.{stat_kind_weight}
use Rattle.report_plan.proofs.stats.function_stat.Goals as goal

pub returns-in-None : goal.returns-in-None
returns-in-None c =
    on_ok_weaker c.plain_function.result
    (λ p. subst (λ (name : Option (List ℕ)). (span : Span) → Puts c.args.tasks.now.items c.plain_function.new.tasks.items
    (λ rules seen. with_stat rules seen (plain.the_stat span (plain.FunctionStat (view_expr c.args.path.now) name (view_body c.args.body.now)))) (stat_kind_weight (plain.FunctionStat (view_expr c.args.path.now) name (view_body c.args.body.now)))) (sym c.in-None.is) p)
    c.plain_function.ensures

pub returns-in-Some : goal.returns-in-Some
returns-in-Some c =
    on_ok_weaker c.method.result
    (λ p. subst (λ (name : Option (List ℕ)). (span : Span) → Puts c.args.tasks.now.items c.method.new.tasks.items
    (λ rules seen. with_stat rules seen (plain.the_stat span (plain.FunctionStat (view_expr c.args.path.now) name (view_body c.args.body.now)))) (stat_kind_weight (plain.FunctionStat (view_expr c.args.path.now) name (view_body c.args.body.now)))) (sym c.in-Some.is) p)
    c.method.ensures
