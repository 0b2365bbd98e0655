-- Words of the laws: what the program's parser reads, and how many trees a list of tokens has.
use Rattle.std.specs.Prelude.{◌≡◌, ℕ, ◌≤◌, true, List, Ok}
use Rattle.luau_tree.specs.Tree.{Block}
use Rattle.luau_lex.specs.Tokens.{Tok}
use Rattle.luau_grammar.specs.Places.{Place, Rules}
use Rattle.luau_grammar.specs.Modules.{IsBare, before}
use Rattle.luau_grammar.specs.Reading.{strictly}
use Rattle.luau_grammar.specs.ReadModules.{module_with, max_depth}

-- the program's parser reads this block from the tokens of a text
abbrev pub IsRead : List ℕ → List Tok → Block → Type 0
IsRead text ts b = (q : Place) × (module_with (strictly text) max_depth (before ts) ≡ Ok (b, q))

-- tokens stand at levels up to this one
abbrev pub StandUpTo : Rules → ℕ → Type 0
StandUpTo rules limit = (t : Tok) (at : ℕ) → rules.may_stand t at ≡ true → at ≤ limit

-- a list of tokens has at most one tree
abbrev pub HasOneTreeAtMost : Rules → List Tok → Type 0
HasOneTreeAtMost rules ts = (b c : Block) → IsBare rules ts b → IsBare rules ts c → b ≡ c
