use Rattle.std.proofs.Common.{◌≡◌, sym, ap, ◌∙◌}
use Rattle.luau_tree.specs.Tree.{Block}
use Rattle.tree_numbers.specs.Erased.{erased_block}
use Rattle.tree_numbers.specs.Counting.{first}
use Rattle.tree_numbers.specs.Numbered.{numbered}
use Rattle.tree_numbers.proofs.Same.{same_block, again_block}
use Rattle.tree_numbers.proofs.laws.numbers_depend_on_no_numbers.Goals as goal

-- a tree's numbers without those that were there
alone : (block : Block) → numbered (erased_block block) ≡ numbered block
alone block i = (again_block block first i).0

pub returns-clause-erased : goal.returns-clause-erased
returns-clause-erased c = alone

pub returns-clause-twice : goal.returns-clause-twice
returns-clause-twice c block = sym (alone (numbered block)) ∙ ap numbered (same_block block first) ∙ alone block
