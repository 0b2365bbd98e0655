-- What the code's places and results are, seen as plain data.
use Rattle.std.specs.Prelude.{◌≡◌, ◌≢◌, ℕ, List, map, Option, Some, None, Result, Ok, Err, ◌≤◌, length}
use Rattle.luau_lex.specs.Tokens.{seen_token}
use Rattle.luau_lex.specs.declared.token.Token.{Token}
use Rattle.luau_grammar.specs.declared.error.ParseError.{ParseError}
use Rattle.luau_grammar.specs.declared.error.ParseError.TheVariants.{NoMemory}
use Rattle.phrase_reader.specs.declared.tokens.Tokens.{Tokens}
use Rattle.phrase_reader.specs.declared.listed.Listed as code
use Rattle.luau_grammar.specs.Phrases.{Listed}
use Rattle.luau_tree.specs.Tree.{TypeSyntax}
use Rattle.luau_tree.specs.declared.tree.TypeSyntax as written
use Rattle.luau_tree.specs.View.{view_type}
use Rattle.luau_grammar.specs.Places.{Place}
use Rattle.luau_grammar.specs.Reading.{Outcome}

abbrev pub place_of : Tokens → Place
place_of t = record { ahead = map seen_token t.ahead.now; last = t.last; level = t.level }

-- What a function answered, seen by a view, and where it stands then, is what a parser gives, unless memory ran out.
abbrev pub Reads : {A B : Type 0} → (A → B) → Outcome B → Result A ParseError → Tokens → Type 0
Reads view outcome (Ok x) new = outcome ≡ Ok (view x, place_of new)
Reads view outcome (Err e) new = e ≢ NoMemory → outcome ≡ Err e

-- a value that is seen as it is
abbrev pub itself : {A : Type 0} → A → A
itself x = x

-- a list in parentheses
abbrev pub seen_listed : code.Listed → Listed
seen_listed l = record { start = l.start; end = l.end; types = map view_type l.types; named = l.named; tailed = l.tailed }

abbrev pub maybe_listed : Option code.Listed → Option Listed
maybe_listed None = None
maybe_listed (Some l) = Some (seen_listed l)

-- a type that may be missing
abbrev pub seen_option : Option written.TypeSyntax → Option TypeSyntax
seen_option None = None
seen_option (Some t) = Some (view_type t)
