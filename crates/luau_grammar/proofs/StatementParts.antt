-- What statements take from the parsers of lists, types, expressions and bodies.
use Rattle.std.proofs.Common.{◌≡◌, ℕ, suc, ◌≤◌, Bool, false, List, length}
use Rattle.std.specs.Prelude.{Option}
use Rattle.luau_tree.specs.declared.position.Span.{Span}
use Rattle.luau_tree.specs.Tree.{Expr}
use Rattle.luau_tree.specs.View.{exprs}
use Rattle.luau_grammar.specs.Places.{Place}
use Rattle.luau_grammar.specs.Phrases.{Phrases}
use Rattle.luau_grammar.specs.Types as types
use Rattle.luau_grammar.specs.Expressions as expressions
use Rattle.luau_grammar.specs.Expressions.{begins_suffix}
use Rattle.luau_grammar.specs.Reading.{Setting, Readers}
use Rattle.luau_grammar.specs.ReadTypes as written
use Rattle.luau_grammar.specs.ReadExpressions as values
use Rattle.luau_grammar.proofs.Agreement.{Sound, Complete}

-- a prefix that takes each suffix behind it
abbrev pub IsWholePrefix : (set : Setting) → Phrases → Place → Place → Expr → Type 0
IsWholePrefix set inner p q e = expressions.IsPrefix set.rules inner p q e × (begins_suffix q ≡ false)

abbrev pub AreValues : (set : Setting) → Phrases → Place → Place → List Expr → Type 0
AreValues set inner p q es = expressions.AreExpressions set.rules inner p q (exprs es)

-- attributes, so many
abbrev pub AreAttributes : (set : Setting) → Phrases → Place → Place → Unit {0} → Type 0
AreAttributes set inner p q _ = (n : ℕ) × expressions.AreAttributes set.rules inner n p q

pub record SoundParts (set : Setting) (inner : Phrases) (given : Readers) : Type 0 where
  pub prefix : Sound (IsWholePrefix set inner) (values.prefix set given)
  pub several : Sound (AreValues set inner) (values.expressions set given)
  pub bind : Sound (expressions.IsBind set.rules inner) (values.bind set given)
  pub body : (method : Option Span) → Sound (expressions.IsBody set.rules inner method) (values.body set given method)
  pub attributes : Sound (AreAttributes set inner) (values.attributes set given)
  pub generics : (may : Bool) → Sound (types.AreGenerics set.rules inner may) (written.generics set given may)

pub record CompleteParts (low : ℕ) (set : Setting) (inner : Phrases) (given : Readers) : Type 0 where
  pub prefix : Complete low (IsWholePrefix set inner) (values.prefix set given)
  pub several : Complete low (AreValues set inner) (values.expressions set given)
  pub bind : Complete low (expressions.IsBind set.rules inner) (values.bind set given)
  pub body : (method : Option Span) → Complete low (expressions.IsBody set.rules inner method) (values.body set given method)
  pub attributes : Complete low (AreAttributes set inner) (values.attributes set given)
  pub generics : (may : Bool) → Complete low (types.AreGenerics set.rules inner may) (written.generics set given may)
  pub shorter : (p q : Place) (e : Expr) → low ≤ p.level → IsWholePrefix set inner p q e → suc (length q.ahead) ≤ length p.ahead
