use Rattle.std.proofs.Common.{refl}
use Rattle.builtin_table.specs.Standard.{standard, standard_paths}
use Rattle.builtin_table.proofs.Ascending.{ascending_from}
use Rattle.builtin_table.proofs.laws.paths_stand_in_order.Goals as goal

pub returns-clause-ascending : goal.returns-clause-ascending
unfolding standard standard_paths
returns-clause-ascending c = ascending_from standard_paths refl

pub returns-clause-count : goal.returns-clause-count
unfolding standard standard_paths
returns-clause-count c = refl

pub returns-clause-kept_back : goal.returns-clause-kept_back
unfolding standard standard_paths
returns-clause-kept_back c = refl

pub returns-clause-libraries : goal.returns-clause-libraries
unfolding standard standard_paths
returns-clause-libraries c = refl
