-- The parsers of phrases that hold one another, where none may stand and where some may.
use Rattle.std.proofs.Common.{◌≡◌, ℕ, zero, suc, refl, arith}
use Rattle.std.specs.Prelude.{Option, Err}
use Rattle.luau_grammar.specs.Places.{Place}
use Rattle.luau_grammar.specs.Phrases.{Listed}
use Rattle.luau_grammar.specs.Reading.{Setting, deep_refusal}
use Rattle.luau_grammar.specs.ReadTypes.{type_inside}
use Rattle.luau_grammar.specs.ReadExpressions.{expression_inside}
use Rattle.luau_grammar.specs.ReadStatements.{block_inside}
use Rattle.luau_grammar.specs.ReadModules.{readers, too_deep}

pub no_expression : (set : Setting) (n : ℕ) (p : Place) → n ≡ 0 → (readers set n).exp p ≡ Err (deep_refusal set p)
unfolding readers too_deep
no_expression set zero p z = refl
no_expression set (suc n) p z = absurd (omega arith)

pub no_type : (set : Setting) (n : ℕ) (begun : Option Listed) (p : Place) → n ≡ 0 → (readers set n).typ begun p ≡ Err (deep_refusal set p)
unfolding readers too_deep
no_type set zero begun p z = refl
no_type set (suc n) begun p z = absurd (omega arith)

pub no_block : (set : Setting) (n : ℕ) (p : Place) → n ≡ 0 → (readers set n).block p ≡ (too_deep set).block p
unfolding readers
no_block set zero p z = refl
no_block set (suc n) p z = absurd (omega arith)

pub an_expression : (set : Setting) (n m : ℕ) (p : Place) → n ≡ suc m → (readers set n).exp p ≡ expression_inside set (readers set m) p
unfolding readers
an_expression set n m p e = rw e refl

pub a_type : (set : Setting) (n m : ℕ) (begun : Option Listed) (p : Place) → n ≡ suc m → (readers set n).typ begun p ≡ type_inside set (readers set m) begun p
unfolding readers
a_type set n m begun p e = rw e refl

pub a_block : (set : Setting) (n m : ℕ) (p : Place) → n ≡ suc m → (readers set n).block p ≡ block_inside set (readers set m) p
unfolding readers
a_block set n m p e = rw e refl
