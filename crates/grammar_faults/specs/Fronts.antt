-- Lists of tokens that begin a list with a tree, and those that begin none.
use Rattle.std.specs.Prelude.{ℕ, ◌≤◌, ◌<◌, List, [], ◌∷◌, ◌++◌}
use Rattle.luau_tree.specs.Tree.{Block}
use Rattle.luau_lex.specs.Tokens.{Tok}
use Rattle.luau_grammar.specs.declared.error.ParseError.{ParseError}
use Rattle.luau_grammar.specs.declared.error.ParseError.TheVariants.{Lex, NoMemory, Unexpected, UnexpectedEnd, AmbiguousCall, Nesting}
use Rattle.luau_grammar.specs.Places.{Rules}
use Rattle.luau_grammar.specs.Modules.{IsBare}

-- a list of tokens that begins a list with a tree
abbrev pub IsFront : Rules → List Tok → Type 0
IsFront rules front = (rest : List Tok) × (b : Block) × IsBare rules (front ++ rest) b

-- a list of tokens that begins no list with a tree
abbrev pub BeginsNone : Rules → List Tok → Type 0
BeginsNone rules front = IsFront rules front → ⊥

-- tokens begin at an offset or behind it
abbrev pub BeginFrom : ℕ → List Tok → Type 0
BeginFrom at [] = Unit {0}
BeginFrom at (t ∷ ts) = (at ≤ t.span.start) × BeginFrom at ts

-- a fault at a token that begins before an offset
abbrev pub StandsBefore : ℕ → ParseError → Type 0
StandsBefore bound (Unexpected at) = at < bound
StandsBefore bound (AmbiguousCall at) = at < bound
StandsBefore bound (Nesting at) = at < bound
StandsBefore bound (UnexpectedEnd at) = ⊥
StandsBefore bound (Lex e) = ⊥
StandsBefore bound NoMemory = ⊥
