use Rattle.std.proofs.Common.{[], ◌≡◌, List, sym, ap, ◌∙◌, arith}
use Rattle.infer_plan.specs.declared.task.Task.TheVariants as a_task
use Rattle.rule_state.specs.Work.{work_of}
use Rattle.infer_plan.specs.Run.{run, act}
use Rattle.infer_plan.specs.Weights.{weights}
use Rattle.type_infer.proofs.Kept.{empty}
use Rattle.infer_plan.specs.declared.task.Task.{Task}
use Rattle.std.proofs.Common.{subst}
use Rattle.type_infer.specs.Under.{IsUnder}
use Rattle.infer_plan.proofs.Plans.{before, weights_last}
use Rattle.rule_work.specs.Around.{Around}
use Rattle.type_infer.proofs.walk.walk.Goals as goal

pub loop-task-preserved : goal.loop-task-preserved
loop-task-preserved c =
    λ rules under.
    let inv = c.loop-task.invariant rules under in
    let there : IsUnder c.args.facts.now (work_of c.loop-task.state).around rules = subst (λ (around : Around). IsUnder c.args.facts.now around rules) (sym inv.1) under in
    let went = c.in_ok-go.ensures.work rules there in
    (went.same ∙ sym (before rules c.pop.new.self.items c.loop-task.tasks.items c.in-Some.task (work_of c.loop-task.state) c.in-Some.ensures.items) ∙ inv.0, went.around ∙ inv.1)

pub loop-task-smaller : goal.loop-task-smaller
loop-task-smaller c =
    omega (arith, c.in_ok-go.ensures.light, ap weights c.in-Some.ensures.items, weights_last c.pop.new.self.items c.in-Some.task)

pub returns : goal.returns
returns c =
    λ rules under.
    let none : c.loop-task.tasks.items ≡ [] = empty c.loop-task.tasks.items (omega (arith, c.loop-task.tasks.ok.0, c.in_default.ensures.cases.0)) in
    ap (λ (tasks : List Task). run rules tasks (work_of c.loop-task.state)) (sym none)
    ∙ (c.loop-task.invariant rules under).0
    ∙ before rules c.new-tasks.result.items c.push.new.self.items (a_task.Block c.args.block) (work_of c.args.state.now) c.in_ok-push.ensures.items
    ∙ ap (λ (tasks : List Task). run rules tasks (act rules (a_task.Block c.args.block) (work_of c.args.state.now))) c.new-tasks.ensures.items
