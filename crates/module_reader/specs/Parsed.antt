-- What the parser of modules answers for a text.
use Rattle.std.specs.Prelude.{◌≡◌, ◌≢◌, ℕ, List, Option, Some, None, Result, Ok, Err}
use Rattle.luau_tree.specs.Tree.{Block}
use Rattle.luau_tree.specs.View.{view_module}
use Rattle.luau_tree.specs.declared.tree.Module.{Module}
use Rattle.luau_lex.specs.Tokens.{Tok}
use Rattle.luau_lex.specs.declared.token.LexError.{LexError}
use Rattle.luau_lex.specs.Lexed.{Lexed}
use Rattle.luau_grammar.specs.declared.error.ParseError.{ParseError}
use Rattle.luau_grammar.specs.declared.error.ParseError.TheVariants.{Lex, NoMemory}
use Rattle.luau_grammar.specs.Places.{Place}
use Rattle.luau_grammar.specs.Modules.{IsBare, strict}
use Rattle.luau_grammar.specs.Reading.{Outcome}

-- A text has tokens, and they have this tree, whose expressions and bodies have no numbers yet.
abbrev pub HasBareTree : List ℕ → Block → Type 0
HasBareTree text b = (ts : List Tok) × Lexed text ts None × IsBare (strict text) ts b

-- A text has tokens, and they have no tree.
abbrev pub HasNoTree : List ℕ → Type 0
HasNoTree text = (ts : List Tok) × Lexed text ts None × ((b : Block) → IsBare (strict text) ts b → ⊥)

-- The tokens of a text stop at the fault that this error is.
abbrev pub IsLexFault : List ℕ → ParseError → Type 0
IsLexFault text e = (fault : LexError) × (ts : List Tok) × Lexed text ts (Some fault) × (e ≡ Lex fault)

-- A result is what a parser of modules gives, unless memory ran out.
abbrev pub IsRead : Outcome Block → Result Module ParseError → Type 0
IsRead outcome (Ok m) = (q : Place) × (outcome ≡ Ok (view_module m, q))
IsRead outcome (Err e) = e ≢ NoMemory → outcome ≡ Err e
