use Rattle.std.proofs.Common.{ap, ◌∙◌, arith}
use Rattle.std.proofs.lemmas.Result.{on_ok_weaker}
use Rattle.luau_tree.specs.View.{view_block}
use Rattle.infer_plan.specs.Run.{run}
use Rattle.infer_plan.proofs.StatForms.{do_form}
use Rattle.infer_plan.proofs.stats.do_block.Goals as goal

pub returns-clause-work : goal.returns-clause-work
returns-clause-work c = on_ok_weaker c.plan.result (λ made rules span work. made rules work ∙ ap (run rules c.args.tasks.now.items) (do_form rules span (view_block c.args.body.now) work)) c.plan.ensures.work

pub returns-clause-light : goal.returns-clause-light
returns-clause-light c = on_ok_weaker c.plan.result (λ light. omega (arith, light)) c.plan.ensures.light
