use Rattle.normal_rules.proofs.Tables.{table_normal}
use Rattle.normal_rules.proofs.Written.{annotation_normal}
use Rattle.normal_rules.proofs.laws.rules_of_modules_have_normal_types.Goals as goal

pub returns-clause-written : goal.returns-clause-written
returns-clause-written c = annotation_normal

pub returns-clause-all : goal.returns-clause-all
returns-clause-all c = λ uses locals sites home block leads table import all given. record {
  builtins = table_normal table all;
  annotations = annotation_normal block;
  imports = given;
}
