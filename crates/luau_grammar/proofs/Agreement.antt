-- What it is for a parser to read what a relation of the grammar says, in both directions.
use Rattle.std.specs.Prelude.{◌≡◌, ℕ, ◌≤◌, length, true, Option, Some, None, Ok}
use Rattle.luau_lex.specs.Tokens.{Tok}
use Rattle.luau_grammar.specs.Places.{Place}
use Rattle.luau_grammar.specs.Phrases.{Phrases, Listed}
use Rattle.luau_grammar.specs.Reading.{Setting, Parser, Readers}
use Rattle.luau_grammar.specs.ReadPhrases as phrases

-- tokens stand at levels up to the limit
abbrev pub Bounded : Setting → Type 0
Bounded set = (t : Tok) (at : ℕ) → set.rules.may_stand t at ≡ true → at ≤ set.limit

-- What a parser reads is what a relation says.
abbrev pub Sound : {A : Type 0} → (Place → Place → A → Type 0) → Parser A → Type 0
Sound {A} Is r = (p q : Place) (x : A) → r p ≡ Ok (x, q) → Is p q x

-- A place behind another, at this level or deeper.
pub record Reached (low : ℕ) (p q : Place) : Type 0 where
  pub level : low ≤ q.level
  pub ahead : length q.ahead ≤ length p.ahead

-- What a relation says of places at this level or deeper, a parser reads.
abbrev pub Complete : ℕ → {A : Type 0} → (Place → Place → A → Type 0) → Parser A → Type 0
Complete low {A} Is r = (p q : Place) (x : A) → low ≤ p.level → Is p q x → (r p ≡ Ok (x, q)) × Reached low p q

-- a relation at levels where something may be opened
abbrev pub Within : {A : Type 0} → Setting → (Place → Place → A → Type 0) → Place → Place → A → Type 0
Within set Is p q x = (p.level ≤ set.limit) × Is p q x

-- The parsers of phrases that hold one another read what these relations say.
pub record SoundPhrases (set : Setting) (inner : Phrases) (readers : Readers) : Type 0 where
  pub exp : Sound (inner.exp) (phrases.expression set readers)
  pub typ : (begun : Option Listed) → Sound (inner.typ begun) (phrases.typ set readers begun)
  pub block : Sound (inner.block) (phrases.block set readers)

-- They read all that these relations say of places at a level or deeper. A block, and a type behind a list in
-- parentheses, may have no token of its own, so their levels are said.
pub record CompletePhrases (low : ℕ) (set : Setting) (inner : Phrases) (readers : Readers) : Type 0 where
  pub exp : Complete low (inner.exp) (phrases.expression set readers)
  pub typ : Complete low (inner.typ None) (phrases.typ set readers None)
  pub begun : (l : Listed) → Complete low (Within set (inner.typ (Some l))) (phrases.typ set readers (Some l))
  pub block : Complete low (Within set (inner.block)) (phrases.block set readers)
