use Rattle.std.proofs.Common.{◌≡◌}
use Rattle.report_rules.specs.Rules.{Rules}
use Rattle.rule_state.specs.Work.{work_of}
use Rattle.infer_plan.specs.Run.{run}
use Rattle.infer_plan.specs.Weights.{weights}
use Rattle.type_infer.specs.Under.{IsUnder}
use Rattle.type_infer.proofs.walk.walk.Given as goal

-- the tasks that are left make of what is at hand what the first one makes of what was at hand
abbrev pub invariant-loop-task : goal.invariant-loop-task
invariant-loop-task l = (rules : Rules) → IsUnder l.facts (work_of l.initial.state).around rules
    → (run rules l.tasks.items (work_of l.state) ≡ run rules l.initial.tasks.items (work_of l.initial.state)) × ((work_of l.state).around ≡ (work_of l.initial.state).around)

abbrev pub decreases-loop-task : goal.decreases-loop-task
decreases-loop-task l = weights l.tasks.items
