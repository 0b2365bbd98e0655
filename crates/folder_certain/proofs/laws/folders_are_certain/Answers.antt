use Rattle.folder_certain.proofs.Texts.{folder_certain, texts_certain}
use Rattle.folder_certain.proofs.laws.folders_are_certain.Goals as goal

pub returns-clause-trees : goal.returns-clause-trees
returns-clause-trees c = folder_certain

pub returns-clause-texts : goal.returns-clause-texts
returns-clause-texts c = texts_certain
