-- No token could be longer at its place.
use Rattle.std.specs.Prelude.{◌≡◌, ◌≢◌, ℕ, ◌-◌, ◌<◌, ◌≤◌, Bool, true, false, List, [], ◌∷◌, length, take, drop, slice_index}
use Rattle.luau_lex.specs.declared.token.Kind.{Kind}
use Rattle.luau_lex.specs.declared.token.Kind.TheVariants.{Name, Word, Numeral, Quoted, Long, Whole, Begin, Mid, End, Sign}
use Rattle.luau_lex.specs.declared.piece.Open.{Open}
use Rattle.luau_lex.specs.Braces.{braces_behind, MayStand}
use Rattle.luau_lex.specs.Bytes.{minus, brace}
use Rattle.luau_lex.specs.Forms.{HasForm, NoneOpens}
use Rattle.luau_lex.specs.Numerals.{IsNumeralWord}
use Rattle.luau_lex.specs.Token.{Tok}

-- no longer front of the text than of n bytes is a token that may stand there
abbrev pub NoLongerToken : List Open → List ℕ → ℕ → Type 0
NoLongerToken opens text n =
    (kind : Kind) (m : ℕ) → n < m → m ≤ length text → MayStand opens kind →
    HasForm kind (take m text) → ⊥

-- no longer front of the text than of n bytes looks like a numeral
abbrev pub NoLongerWord : List ℕ → ℕ → Type 0
NoLongerWord text n = (m : ℕ) → n < m → m ≤ length text → IsNumeralWord (take m text) → ⊥

-- no comment begins at the front
abbrev pub NoComment : List ℕ → Type 0
NoComment text = (behind : List ℕ) → text ≢ minus ∷ minus ∷ behind

-- No token of the text whose rest from this offset on is given could be longer at its place, within
-- the braces that are open there. A numeral is the whole word, and none stands where a comment
-- begins.
abbrev pub AreLongest : List Open → ℕ → List ℕ → List Tok → Type 0
AreLongest opens at text [] = Unit {0}
AreLongest opens at text (t ∷ ts) =
    NoLongerToken opens (drop (t.span.start - at) text) (t.span.end - t.span.start)
    × (t.kind ≡ Numeral → NoLongerWord (drop (t.span.start - at) text) (t.span.end - t.span.start))
    × NoComment (drop (t.span.start - at) text)
    × AreLongest (braces_behind t opens) t.span.end (drop (t.span.end - at) text) ts

-- the kinds that leave an interpolated string for an expression
abbrev pub leaves_string : Kind → Bool
leaves_string Begin = true
leaves_string Mid = true
leaves_string Name = false
leaves_string Word = false
leaves_string Numeral = false
leaves_string Quoted = false
leaves_string Long = false
leaves_string Whole = false
leaves_string End = false
leaves_string Sign = false

-- No sign stands where a long bracket opens, and no brace directly behind the one that leaves an
-- interpolated string, in the text whose rest from this offset on is given.
abbrev pub StandClear : ℕ → List ℕ → List Tok → Type 0
StandClear at text [] = Unit {0}
StandClear at text (t ∷ ts) =
    (t.kind ≡ Sign → NoneOpens (drop (t.span.start - at) text))
    × (leaves_string t.kind ≡ true → slice_index (drop (t.span.end - at) text) 0 ≢ brace)
    × StandClear t.span.end (drop (t.span.end - at) text) ts
