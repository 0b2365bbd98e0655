use Rattle.decl_tables.proofs.Faultless.{table_ascends}
use Rattle.decl_tables.proofs.laws.tables_are_in_order.Goals as goal

pub returns : goal.returns
returns c = table_ascends
