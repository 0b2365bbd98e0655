-- Rules, and what stays while they are applied.
use Rattle.std.specs.Prelude.{◌≡◌, ℕ, List, map, option_map}
use Rattle.module_reading.specs.ReadRules.{typed_builtin}
use Rattle.report_rules.specs.Rules.{Rules}
use Rattle.module_facts.specs.declared.facts.Facts.{Facts}
use Rattle.rule_work.specs.Around.{Around}
use Rattle.rule_work.specs.Work.{Work}
use Rattle.infer_plan.specs.Read.{IsReadBy}
use Rattle.infer_plan.specs.Run.{act, run}
use Rattle.infer_plan.specs.declared.task.Task.{Task}

-- the rules are those of a module that was read so, in its home, with these builtins, and with what its static requires give
pub record IsUnder (facts : Facts) (around : Around) (rules : Rules) : Type 0 where
  pub read : IsReadBy facts rules
  pub home : rules.reading.home ≡ around.home
  pub builtins : rules.table ≡ map typed_builtin around.builtins
  pub imports : (id : ℕ) → around.imports id ≡ option_map (λ other. rules.import id) (rules.reading.required id)

-- a task was done: the tasks that are left make of what is at hand what they all made of what was at hand before
pub record Went (rules : Rules) (task : Task) (tasks left : List Task) (before after : Work) : Type 0 where
  pub same : run rules left after ≡ run rules tasks (act rules task before)
  pub around : after.around ≡ before.around
