use Rattle.std.proofs.Common.{ℕ, List, ap}
use Rattle.std.specs.Prelude.{Option}
use Rattle.rule_work.specs.Moves.{valued}
use Rattle.infer_plan.specs.Steps.{element}
use Rattle.infer_plan.proofs.exprs.element_task.Goals as goal

pub returns-in-Some-clause-work : goal.returns-in-Some-clause-work
returns-in-Some-clause-work c = let named = rw c.in-Some.is at c.name_of_key.ensures in λ rules work. ap (λ (name : Option (List ℕ)). valued (element name work.value) work) named

pub returns-in-None-clause-work : goal.returns-in-None-clause-work
returns-in-None-clause-work c = let named = rw c.in-None.is at c.name_of_key.ensures in λ rules work. ap (λ (name : Option (List ℕ)). valued (element name work.value) work) named
