-- The fault of a text.
use Rattle.std.specs.Prelude.{◌⊎◌, ℕ, List, None}
use Rattle.luau_lex.specs.Tokens.{Tok}
use Rattle.luau_lex.specs.Lexed.{Lexed}
use Rattle.luau_grammar.specs.declared.error.ParseError.{ParseError}
use Rattle.module_reader.specs.Parsed.{IsLexFault}
use Rattle.fault_places.specs.Faults.{IsFault}

-- A text has no tokens, for this fault; or this is the fault of its tokens.
abbrev pub IsFaultOf : List ℕ → ParseError → Type 0
IsFaultOf text e = IsLexFault text e ⊎ ((ts : List Tok) × Lexed text ts None × IsFault text ts e)
