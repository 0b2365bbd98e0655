-- The induction on how deep phrases stand in one another, and what follows for modules.
use Rattle.std.proofs.Common.{ℕ, zero, suc, ◌+◌, ◌≤◌, refl, arith}
use Rattle.std.specs.Prelude.{Option, Some, None}
use Rattle.luau_tree.specs.Tree.{Expr}
use Rattle.luau_grammar.specs.Places.{Place, symbol, raised}
use Rattle.luau_grammar.specs.Phrases.{Phrases, Listed}
use Rattle.luau_grammar.specs.Types.{IsType}
use Rattle.luau_grammar.specs.Expressions.{IsExpression}
use Rattle.luau_grammar.specs.Statements.{IsBlock}
use Rattle.luau_grammar.specs.Statements as statements
use Rattle.luau_grammar.specs.Modules.{phrases}
use Rattle.luau_grammar.specs.Reading.{Setting, Readers}
use Rattle.luau_grammar.specs.ReadPhrases as parse
use Rattle.luau_grammar.specs.ReadTypes.{type_inside}
use Rattle.luau_grammar.specs.ReadExpressions.{expression_inside}
use Rattle.luau_grammar.specs.ReadStatements.{block_inside}
use Rattle.luau_grammar.specs.ReadModules.{too_deep, readers}
use Rattle.luau_grammar.proofs.Agreement.{Bounded, Sound, Complete, SoundPhrases, CompletePhrases}
use Rattle.luau_grammar.proofs.Primitives.{takes_bounded, reads_ok, reads_err, reads_if, phrase_sound, phrase_complete}
use Rattle.luau_grammar.proofs.PlainPhrases.{PlainPhrases, expression_begins, phrases_plain}
use Rattle.luau_grammar.proofs.CompleteTypes.{type_bounded}

-- What the parsers of the phrases' insides read is in the grammar, where that holds of the phrases in them.
pub record SoundFamilies (set : Setting) : Type 1 where
  pub exp : (inner : Phrases) (given : Readers) → SoundPhrases set inner given
      → Sound (IsExpression set.rules inner) (expression_inside set given)
  pub typ : (inner : Phrases) (given : Readers) → SoundPhrases set inner given → (begun : Option Listed)
      → Sound (IsType set.rules inner begun) (type_inside set given begun)
  pub block : (inner : Phrases) (given : Readers) → SoundPhrases set inner given
      → Sound (IsBlock set.rules inner) (block_inside set given)

-- They read all that is in the grammar, where that holds of the phrases in them.
pub record CompleteFamilies (set : Setting) : Type 1 where
  pub exp : (low : ℕ) (inner : Phrases) (given : Readers) → PlainPhrases inner → CompletePhrases low set inner given
      → Complete low (IsExpression set.rules inner) (expression_inside set given)
  pub typ : (low : ℕ) (inner : Phrases) (given : Readers) → PlainPhrases inner → CompletePhrases low set inner given → (begun : Option Listed)
      → Complete low (IsType set.rules inner begun) (type_inside set given begun)
  pub block : (low : ℕ) (inner : Phrases) (given : Readers) → PlainPhrases inner → CompletePhrases low set inner given
      → Complete low (IsBlock set.rules inner) (block_inside set given)

-- an expression begins with a token, so at a level up to the limit
expression_bounded : (set : Setting) (inner : Phrases) → Bounded set → (p q : Place) (e : Expr) → IsExpression set.rules inner p q e
    → p.level ≤ set.limit
expression_bounded set inner bounded p q e h =
    let first = expression_begins set.rules inner p q e h in
    takes_bounded set p first.behind first.first bounded first.takes

flat_block : (set : Setting) (inner : Phrases) → Sound (IsBlock set.rules inner) (too_deep set).block
unfolding too_deep
flat_block set inner p = reads_if (statements.begins (symbol p)) (λ _. reads_err _) (λ e. reads_ok _ (e, refl))

sound_flat : (set : Setting) → SoundPhrases set (phrases set.rules 1) (readers set 0)
unfolding readers too_deep parse.expression parse.typ parse.block
sound_flat set =
    let inner = phrases set.rules 0 in
    record {
      exp = phrase_sound set {Is = IsExpression set.rules inner} _ _ (λ p. reads_err _);
      typ = λ begun. phrase_sound set {Is = IsType set.rules inner begun} _ _ (λ p. reads_err _);
      block = phrase_sound set {Is = IsBlock set.rules inner} _ _ (flat_block set inner);
    }

pub sound_at : (set : Setting) → SoundFamilies set → (deep : ℕ) → SoundPhrases set (phrases set.rules (suc deep)) (readers set deep)
unfolding readers parse.expression parse.typ parse.block
sound_at set all zero = sound_flat set
sound_at set all (suc deep) =
    let below = sound_at set all deep in
    let inner = phrases set.rules (suc deep) in
    record {
      exp = phrase_sound set _ _ (all.exp inner (readers set deep) below);
      typ = λ begun. phrase_sound set _ _ (all.typ inner (readers set deep) below begun);
      block = phrase_sound set _ _ (all.block inner (readers set deep) below);
    }

too_low : {A : Type 0} (set : Setting) (low level : ℕ) → set.limit + 2 ≤ low + 0 → low ≤ level → level ≤ set.limit → A
too_low set low level e l m = absurd (omega arith)

complete_none : (set : Setting) (deep low : ℕ) → CompletePhrases low set (phrases set.rules 0) (readers set deep)
complete_none set deep low = record {
  exp = λ p q x l h. absurd h;
  typ = λ p q x l h. absurd h;
  begun = λ b p q x l h. absurd h.1;
  block = λ p q x l h. absurd h.1;
}

complete_flat : (set : Setting) → Bounded set → (held low : ℕ) → set.limit + 2 ≤ low + 0
    → CompletePhrases low set (phrases set.rules (suc held)) (readers set 0)
complete_flat set bounded held low e =
    let inner = phrases set.rules held in
    record {
      exp = λ p q x l h. too_low set low p.level e l (let m = expression_bounded set inner bounded (raised p) h.0 x h.1 in omega arith);
      typ = λ p q x l h. too_low set low p.level e l (let m = type_bounded set inner bounded (raised p) h.0 x h.1 in omega arith);
      begun = λ b p q x l h. too_low set low p.level e l h.0;
      block = λ p q x l h. too_low set low p.level e l h.0;
    }

pub complete_at : (set : Setting) → Bounded set → CompleteFamilies set → (deep held low : ℕ) → set.limit + 2 ≤ low + deep
    → CompletePhrases low set (phrases set.rules held) (readers set deep)
unfolding readers parse.expression parse.typ parse.block
complete_at set bounded all zero zero low e = complete_none set zero low
complete_at set bounded all (suc deep) zero low e = complete_none set (suc deep) low
complete_at set bounded all zero (suc held) low e = complete_flat set bounded held low e
complete_at set bounded all (suc deep) (suc held) low e =
    let inner = phrases set.rules held in
    let given = readers set deep in
    let plain = phrases_plain set.rules held in
    let below = complete_at set bounded all deep held (low + 1) (omega arith) in
    record {
      exp = λ p q x l h.
          let m = expression_bounded set inner bounded (raised p) h.0 x h.1 in
          phrase_complete set low _ _ (all.exp (low + 1) inner given plain below) p q x l (omega arith, h);
      typ = λ p q x l h.
          let m = type_bounded set inner bounded (raised p) h.0 x h.1 in
          phrase_complete set low _ _ (all.typ (low + 1) inner given plain below None) p q x l (omega arith, h);
      begun = λ b. phrase_complete set low _ _ (all.typ (low + 1) inner given plain below (Some b));
      block = phrase_complete set low _ _ (all.block (low + 1) inner given plain below);
    }
