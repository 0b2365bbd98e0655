use Rattle.folder_plan.proofs.Folder.{is_folder}
use Rattle.folder_plan.proofs.laws.planned_modules_are_a_folder.Goals as goal

pub returns : goal.returns
returns c = λ table files plan paths accepted is. is_folder table files plan is accepted paths
