use Rattle.module_graph.proofs.Levelling.{listed-at, checked-listed}
use Rattle.module_graph.proofs.laws.levels_list_checked_modules.Goals as goal

pub returns-clause-listed : goal.returns-clause-listed
returns-clause-listed c = λ files plan is file level needs e. listed-at plan.fates plan.levels is.levels file level needs e

pub returns-clause-checked : goal.returns-clause-checked
returns-clause-checked c = λ files plan is file level modules e has. checked-listed plan.fates plan.levels is.levels file level modules e has
