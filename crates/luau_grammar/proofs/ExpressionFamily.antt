-- The parser of expressions reads what the grammar says, and all of it, where those of the phrases in them do.
use Rattle.std.specs.Prelude.{ℕ}
use Rattle.luau_grammar.specs.Phrases.{Phrases}
use Rattle.luau_grammar.specs.Expressions.{IsExpression}
use Rattle.luau_grammar.specs.Reading.{Setting, Readers}
use Rattle.luau_grammar.specs.ReadExpressions.{expression_inside}
use Rattle.luau_grammar.proofs.Agreement.{Bounded, Sound, Complete, SoundPhrases, CompletePhrases}
use Rattle.luau_grammar.proofs.PlainPhrases.{PlainPhrases}
use Rattle.luau_grammar.proofs.SoundOperators.{expression_sound_by}
use Rattle.luau_grammar.proofs.CompleteOperators.{expression_complete_by}
use Rattle.luau_grammar.proofs.SoundExpressions.{assertion_sound}
use Rattle.luau_grammar.proofs.CompleteExpressions.{assertion_complete}

module _ (set : Setting) (bounded : Bounded set) where
  pub expression_inside_sound : (inner : Phrases) (readers : Readers) → SoundPhrases set inner readers
      → Sound (IsExpression set.rules inner) (expression_inside set readers)
  expression_inside_sound inner readers sound =
      expression_sound_by set inner readers (assertion_sound set inner readers sound bounded)

  pub expression_inside_complete : (low : ℕ) (inner : Phrases) (readers : Readers) → PlainPhrases inner
      → CompletePhrases low set inner readers → Complete low (IsExpression set.rules inner) (expression_inside set readers)
  expression_inside_complete low inner readers plain complete =
      expression_complete_by low set inner readers bounded (assertion_complete low set inner readers complete bounded plain)
