use Rattle.folder_plan.proofs.Folder.{is_certain}
use Rattle.folder_plan.proofs.laws.planned_modules_are_certain.Goals as goal

pub returns : goal.returns
returns c = λ table files plan paths accepted is. is_certain table files plan is accepted paths
