-- The tokens of a text stand in order.
use Rattle.std.proofs.Common.{ℕ, ◌≤◌, List, [], ◌∷◌, arith}
use Rattle.std.specs.Prelude.{Option, drop}
use Rattle.luau_lex.specs.declared.token.LexError.{LexError}
use Rattle.luau_lex.specs.Tokens.{Tok}
use Rattle.luau_lex.specs.Places.{StandInOrder, first_line_len}
use Rattle.luau_lex.specs.Lexed.{Lexed}
use Rattle.grammar_laws.specs.Laws.{AreInOrder}

in_order : (ts : List Tok) (low at : ℕ) (text : List ℕ) → low ≤ at → StandInOrder at text ts → AreInOrder low ts
in_order [] low at text l h = tt
in_order (t ∷ ts) low at text l h =
    let a : at ≤ t.span.start = h.0 in
    (omega arith, h.1, in_order ts t.span.end t.span.end _ (omega arith) h.4)

pub lexed_in_order : (text : List ℕ) (ts : List Tok) (fault : Option LexError) → Lexed text ts fault → AreInOrder 0 ts
lexed_in_order text ts fault h = in_order ts 0 (first_line_len text) (drop (first_line_len text) text) (omega arith) h.in_order
