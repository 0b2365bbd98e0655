use Rattle.std.proofs.Common.{refl}
use Rattle.module_reading.proofs.Small.{same_declared, unassigned}
use Rattle.module_reading.proofs.laws.rules_say_what_runs_say.Goals as goal

pub returns-clause-annotations : goal.returns-clause-annotations
returns-clause-annotations c = λ paths home block leads table import function index heap value. refl

pub returns-clause-table : goal.returns-clause-table
returns-clause-table c = λ paths home block leads table import path. same_declared table path

pub returns-clause-unassigned : goal.returns-clause-unassigned
returns-clause-unassigned c = unassigned
