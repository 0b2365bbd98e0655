use Rattle.std.proofs.Common.{ℕ, List, sym, ap, ◌∙◌}
use Rattle.luau_tree.specs.Tree as plain
use Rattle.std.proofs.lemmas.Result.{on_ok_weaker}
use Rattle.std.specs.Prelude.{Option}
use Rattle.luau_tree.specs.View.{view_body, view_expr}
use Rattle.report_rules.specs.Effects.{function_target}
use Rattle.infer_plan.specs.Run.{run}
use Rattle.infer_plan.specs.Steps.{with_stat}
use Rattle.infer_plan.proofs.stats.function_or_method.Goals as goal

pub returns-in-None-clause-work : goal.returns-in-None-clause-work
returns-in-None-clause-work c = on_ok_weaker c.function_stat.result (λ made rules span work is. made rules span work (is ∙ ap (function_target rules (view_expr c.args.path.now)) c.in-None.is) ∙ ap (λ (m : Option (List ℕ)). run rules c.args.tasks.now.items (with_stat rules (plain.the_stat span (plain.FunctionStat (view_expr c.args.path.now) m (view_body c.args.body.now))) work)) (sym c.in-None.is)) c.function_stat.ensures.work

pub returns-in-Some-clause-work : goal.returns-in-Some-clause-work
returns-in-Some-clause-work c = on_ok_weaker c.method_stat.result (λ made rules span work is. made rules span c.in-Some.field-0 work (is ∙ ap (function_target rules (view_expr c.args.path.now)) c.in-Some.is) ∙ ap (λ (m : Option (List ℕ)). run rules c.args.tasks.now.items (with_stat rules (plain.the_stat span (plain.FunctionStat (view_expr c.args.path.now) m (view_body c.args.body.now))) work)) (sym c.in-Some.is)) c.method_stat.ensures.work
