use Rattle.tree_depths.proofs.Marked.{marked_deep}
use Rattle.tree_depths.proofs.laws.marked_types_are_deep.Goals as goal

pub returns : goal.returns
returns c = marked_deep
