-- What `parse` answers.
use Rattle.std.specs.Prelude.{◌≡◌, ℕ, List}
use Rattle.luau_tree.specs.Tree.{Block}
use Rattle.module_reader.specs.Parsed.{HasBareTree}
use Rattle.tree_numbers.specs.Numbered.{numbered}

-- This is the tree of a text, with its numbers.
abbrev pub HasTree : List ℕ → Block → Type 0
HasTree text b = (bare : Block) × HasBareTree text bare × (b ≡ numbered bare)
