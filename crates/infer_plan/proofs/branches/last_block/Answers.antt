use Rattle.std.proofs.Common.{sym, ap, ◌∙◌, arith}
use Rattle.luau_tree.specs.declared.tree as code
use Rattle.std.proofs.lemmas.Result.{on_ok_weaker}
use Rattle.std.specs.Prelude.{Option}
use Rattle.luau_tree.specs.View.{view_maybe_block}
use Rattle.infer_plan.specs.Run.{run}
use Rattle.infer_plan.specs.Steps.{at_last}
use Rattle.infer_plan.specs.Weights.{last_weight}
use Rattle.infer_plan.proofs.branches.last_block.Goals as goal

pub returns-in-None-clause-work : goal.returns-in-None-clause-work
returns-in-None-clause-work c = on_ok_weaker c.plan.result (λ made rules work. made rules work ∙ ap (λ (m : Option code.Block.Block). run rules c.args.tasks.now.items (at_last rules (view_maybe_block m) work)) (sym c.in-None.is)) c.plan.ensures.work

pub returns-in-None-clause-light : goal.returns-in-None-clause-light
returns-in-None-clause-light c = on_ok_weaker c.plan.result (λ light. omega (arith, light, ap (λ (m : Option code.Block.Block). last_weight (view_maybe_block m)) (sym c.in-None.is))) c.plan.ensures.light

pub returns-in-Some-clause-work : goal.returns-in-Some-clause-work
returns-in-Some-clause-work c = on_ok_weaker c.plan-in-Some.result (λ made rules work. made rules work ∙ ap (λ (m : Option code.Block.Block). run rules c.args.tasks.now.items (at_last rules (view_maybe_block m) work)) (sym c.in-Some.is)) c.plan-in-Some.ensures.work

pub returns-in-Some-clause-light : goal.returns-in-Some-clause-light
returns-in-Some-clause-light c = on_ok_weaker c.plan-in-Some.result (λ light. omega (arith, light, ap (λ (m : Option code.Block.Block). last_weight (view_maybe_block m)) (sym c.in-Some.is))) c.plan-in-Some.ensures.light
