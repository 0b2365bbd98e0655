use Rattle.normal_rules.proofs.Tables.{standard_normal}
use Rattle.normal_rules.proofs.laws.the_standard_table_is_normal.Goals as goal

pub returns : goal.returns
returns c = standard_normal
