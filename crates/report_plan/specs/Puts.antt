-- Tasks that were put before those that were there.
use Rattle.std.specs.Prelude.{◌≡◌, ◌≤◌, ℕ, ◌+◌, List}
use Rattle.report_rules.specs.Rules.{Rules}
use Rattle.report_rules.specs.Seen.{Seen}
use Rattle.report_work.specs.Work.{Work}
use Rattle.report_plan.specs.declared.task.Task.{Task}
use Rattle.report_plan.specs.Run.{run}
use Rattle.report_plan.specs.Weights.{weights}

-- what a part of a module makes of what is at hand
abbrev pub Part : Type 0
Part = Rules → List Seen → Work → Work

-- the new tasks do what a part does, and then what the old ones do; and they weigh no more than the old ones and a load
pub record Puts (old new : List Task) (part : Part) (load : ℕ) : Type 0 where
  pub work : (rules : Rules) (seen : List Seen) (work : Work) → run rules seen new work ≡ run rules seen old (part rules seen work)
  pub light : weights new ≤ weights old + load
