use Rattle.std.proofs.Common.{refl, ap, ◌∙◌, arith}
use Rattle.std.proofs.lemmas.Result.{on_ok_weaker}
use Rattle.luau_tree.specs.Tree.{TypeAlias, TypeFunction}
use Rattle.infer_plan.specs.Run.{run}
use Rattle.infer_plan.proofs.StatForms.{still_form}
use Rattle.infer_plan.proofs.stats.type_stat.Goals as goal

pub returns-clause-alias : goal.returns-clause-alias
returns-clause-alias c = on_ok_weaker c.plan.result (λ made rules span exported name generics syntax work. made rules work ∙ ap (run rules c.args.tasks.now.items) (still_form rules span (TypeAlias exported name generics syntax) work refl refl)) c.plan.ensures.work

pub returns-clause-function : goal.returns-clause-function
returns-clause-function c = on_ok_weaker c.plan.result (λ made rules span exported name body work. made rules work ∙ ap (run rules c.args.tasks.now.items) (still_form rules span (TypeFunction exported name body) work refl refl)) c.plan.ensures.work

pub returns-clause-light : goal.returns-clause-light
returns-clause-light c = on_ok_weaker c.plan.result (λ light. omega (arith, light)) c.plan.ensures.light
