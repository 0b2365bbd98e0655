-- Texts: which tree a text has, without numbers, or which fault.
use Rattle.std.specs.Prelude.{ℕ, List, Result, Ok, Err}
use Rattle.luau_tree.specs.Tree.{Block}
use Rattle.luau_lex.specs.declared.token.LexError.{LexError}
use Rattle.luau_lex.specs.Tokens.{Tok, tokens_of}
use Rattle.luau_grammar.specs.declared.error.ParseError.{ParseError}
use Rattle.luau_grammar.specs.declared.error.ParseError.TheVariants.{Lex}
use Rattle.luau_grammar.specs.Modules.{before}
use Rattle.luau_grammar.specs.Reading.{Outcome, strictly}
use Rattle.luau_grammar.specs.ReadModules.{module_with, max_depth}

-- what the parser of modules gives for these tokens of a text
abbrev pub read_module : List ℕ → List Tok → Outcome Block
read_module text ts = module_with (strictly text) max_depth (before ts)

-- the tree that was read, without the place behind it
abbrev pub tree_in : Outcome Block → Result Block ParseError
tree_in (Ok found) = Ok found.0
tree_in (Err fault) = Err fault

-- the tree of a text with these tokens, or with this fault of its tokens
abbrev pub tree_by : List ℕ → Result (List Tok) LexError → Result Block ParseError
tree_by text (Ok ts) = tree_in (read_module text ts)
tree_by text (Err fault) = Err (Lex fault)

-- The tree of a text, whose expressions and bodies have no numbers yet, or its first fault.
abbrev pub bare_tree_of : List ℕ → Result Block ParseError
bare_tree_of text = tree_by text (tokens_of text)
