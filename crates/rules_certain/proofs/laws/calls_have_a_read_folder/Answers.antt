use Rattle.rules_certain.proofs.FolderOf.{folder_of}
use Rattle.rules_certain.proofs.RunOf.{all_read}
use Rattle.rules_certain.proofs.laws.calls_have_a_read_folder.Goals as goal

pub returns : goal.returns
returns c = λ builtins modules declared. (folder_of builtins modules declared, all_read 1 modules)
