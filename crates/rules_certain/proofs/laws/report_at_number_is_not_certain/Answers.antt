use Rattle.rules_certain.specs.Calls.{modules_from}
use Rattle.rules_certain.proofs.NumberRuns.{number_is_not_certain}
use Rattle.rules_certain.proofs.RunOf.{all_read}
use Rattle.rules_certain.proofs.laws.report_at_number_is_not_certain.Goals as goal

pub returns-clause-readings : goal.returns-clause-readings
returns-clause-readings c = number_is_not_certain

pub returns-clause-modules : goal.returns-clause-modules
returns-clause-modules c = λ modules at k calls. number_is_not_certain modules (modules_from 1 modules) at k calls (all_read 1 modules)
