use Rattle.decl_tables.proofs.Faultless.{is_declared, no_require, no_library}
use Rattle.decl_tables.proofs.laws.tables_have_what_is_declared.Goals as goal

pub returns-clause-declared : goal.returns-clause-declared
returns-clause-declared c = is_declared

pub returns-clause-kept_back : goal.returns-clause-kept_back
returns-clause-kept_back c = no_require

pub returns-clause-libraries : goal.returns-clause-libraries
returns-clause-libraries c = no_library
