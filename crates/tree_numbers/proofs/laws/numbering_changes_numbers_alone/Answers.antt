use Rattle.tree_numbers.specs.Counting.{first}
use Rattle.tree_numbers.proofs.Same.{same_block}
use Rattle.tree_numbers.proofs.laws.numbering_changes_numbers_alone.Goals as goal

pub returns : goal.returns
returns c block = same_block block first
