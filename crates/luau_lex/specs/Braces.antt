-- Which braces are open between the tokens of a text, and which tokens they allow.
use Rattle.std.specs.Prelude.{◌≡◌, ℕ, Bool, true, false, ◌==◌, List, [], ◌∷◌, drop, slice_index, if◌then◌else◌, Option, Some, None, is_some}
use Rattle.luau_lex.specs.declared.token.Kind.{Kind}
use Rattle.luau_lex.specs.declared.token.Kind.TheVariants.{Name, Word, Numeral, Quoted, Long, Whole, Begin, Mid, End, Sign}
use Rattle.luau_lex.specs.declared.piece.Open.{Open}
use Rattle.luau_lex.specs.declared.piece.Open.TheVariants.{Brace, Part}
use Rattle.luau_lex.specs.Bytes.{brace, closing_brace}
use Rattle.luau_lex.specs.Token.{Tok}

-- The open braces behind a token, from the innermost to the outermost. The first part of an
-- interpolated string opens one and its last closes it; so do the signs of braces.
abbrev pub braces_by : Kind → ℕ → ℕ → List Open → List Open
braces_by Begin start first opens = Part start ∷ opens
braces_by End start first opens = drop 1 opens
braces_by Sign start first opens =
    if first == brace then Brace ∷ opens
    else (if first == closing_brace then drop 1 opens else opens)
braces_by Name start first opens = opens
braces_by Word start first opens = opens
braces_by Numeral start first opens = opens
braces_by Quoted start first opens = opens
braces_by Long start first opens = opens
braces_by Whole start first opens = opens
braces_by Mid start first opens = opens

abbrev pub braces_behind : Tok → List Open → List Open
braces_behind t opens = braces_by t.kind t.span.start (slice_index t.bytes 0) opens

-- where the interpolated string begins that a closing brace goes on with, where the innermost open
-- brace is one's
abbrev pub string_open : List Open → Option ℕ
string_open [] = None
string_open (Brace ∷ opens) = None
string_open (Part start ∷ opens) = Some start

-- the kinds that go on with an interpolated string
abbrev pub goes_on_with_string : Kind → Bool
goes_on_with_string Mid = true
goes_on_with_string End = true
goes_on_with_string Name = false
goes_on_with_string Word = false
goes_on_with_string Numeral = false
goes_on_with_string Quoted = false
goes_on_with_string Long = false
goes_on_with_string Whole = false
goes_on_with_string Begin = false
goes_on_with_string Sign = false

-- A token of this kind may stand within these braces: one that goes on with an interpolated string
-- only where the innermost is a string's.
abbrev pub MayStand : List Open → Kind → Type 0
MayStand opens kind = goes_on_with_string kind ≡ true → is_some (string_open opens) ≡ true

-- Each token may stand within the braces that are open before it, and a closing brace is a sign
-- only where the innermost open one is no string's.
abbrev pub MatchBraces : List Open → List Tok → Type 0
MatchBraces opens [] = Unit {0}
MatchBraces opens (t ∷ ts) =
    MayStand opens t.kind
    × (t.kind ≡ Sign → slice_index t.bytes 0 ≡ closing_brace → string_open opens ≡ None)
    × MatchBraces (braces_behind t opens) ts
