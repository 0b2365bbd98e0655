use Rattle.luau_values.proofs.HeapFacts.{write_keeps_fields}
use Rattle.luau_values.proofs.laws.names_stand_once.Goals as goal

pub returns-clause-write : goal.returns-clause-write
returns-clause-write c = write_keeps_fields
