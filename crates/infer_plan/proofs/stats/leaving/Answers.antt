use Rattle.std.proofs.Common.{refl, ap, ◌∙◌, arith}
use Rattle.std.proofs.lemmas.Result.{on_ok_weaker}
use Rattle.luau_tree.specs.Tree.{Break, Continue}
use Rattle.infer_plan.specs.Run.{run}
use Rattle.infer_plan.proofs.StatForms.{still_form}
use Rattle.infer_plan.proofs.stats.leaving.Goals as goal

pub returns-clause-breaks : goal.returns-clause-breaks
returns-clause-breaks c = on_ok_weaker c.plan.result (λ made rules span work. made rules work ∙ ap (run rules c.args.tasks.now.items) (still_form rules span Break work refl refl)) c.plan.ensures.work

pub returns-clause-continues : goal.returns-clause-continues
returns-clause-continues c = on_ok_weaker c.plan.result (λ made rules span work. made rules work ∙ ap (run rules c.args.tasks.now.items) (still_form rules span Continue work refl refl)) c.plan.ensures.work

pub returns-clause-light : goal.returns-clause-light
returns-clause-light c = on_ok_weaker c.plan.result (λ light. omega (arith, light)) c.plan.ensures.light
