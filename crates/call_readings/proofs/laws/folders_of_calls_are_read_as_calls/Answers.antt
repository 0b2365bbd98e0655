use Rattle.call_readings.proofs.CallNames.{all_read, certain_so}
use Rattle.call_readings.proofs.laws.folders_of_calls_are_read_as_calls.Goals as goal

pub returns-clause-read : goal.returns-clause-read
returns-clause-read c = all_read

pub returns-clause-certain : goal.returns-clause-certain
returns-clause-certain c = certain_so
