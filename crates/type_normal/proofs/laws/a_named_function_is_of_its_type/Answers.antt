use Rattle.type_normal.proofs.KindFacts.{builtin_is_in, literal_is_in}
use Rattle.type_normal.proofs.laws.a_named_function_is_of_its_type.Goals as goal

pub returns-clause-builtins : goal.returns-clause-builtins
returns-clause-builtins c = builtin_is_in

pub returns-clause-literals : goal.returns-clause-literals
returns-clause-literals c = literal_is_in
