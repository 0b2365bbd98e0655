-- Texts: which tree a text has, or which fault.
use Rattle.std.specs.Prelude.{ℕ, List, Result, Ok, Err}
use Rattle.luau_tree.specs.Tree.{Block}
use Rattle.luau_grammar.specs.declared.error.ParseError.{ParseError}
use Rattle.module_reader.specs.Texts.{bare_tree_of}
use Rattle.tree_numbers.specs.Numbered.{numbered}

-- a tree with its numbers, or a fault
abbrev pub with_numbers : Result Block ParseError → Result Block ParseError
with_numbers (Ok b) = Ok (numbered b)
with_numbers (Err fault) = Err fault

-- The tree of a text, with its numbers, or the first fault of the text.
abbrev pub tree_of : List ℕ → Result Block ParseError
tree_of text = with_numbers (bare_tree_of text)
