-- The parser of a module depends on what it takes, so a fault at a token is the fault of each list with the same prefix.
use Rattle.std.proofs.Common.{◌≡◌, ℕ, zero, suc, ◌+◌, ◌≤◌, List, ◌∷◌, ◌++◌, refl, sym, ◌∙◌, ap, subst, inl, inr, Ok, Err, arith}
use Rattle.luau_tree.specs.Tree.{Block}
use Rattle.luau_tree.specs.Tree as tree
use Rattle.luau_lex.specs.Tokens.{Tok}
use Rattle.luau_grammar.specs.declared.error.ParseError.{ParseError}
use Rattle.luau_grammar.specs.declared.error.ParseError.TheVariants.{Lex, NoMemory, Unexpected, UnexpectedEnd, AmbiguousCall, Nesting}
use Rattle.luau_grammar.specs.declared.symbol.Symbol.TheVariants as s
use Rattle.luau_grammar.specs.Places.{Place}
use Rattle.luau_grammar.specs.Statements as statements
use Rattle.luau_grammar.specs.Modules.{IsBare, before}
use Rattle.luau_grammar.specs.Reading.{Setting, Outcome}
use Rattle.luau_grammar.specs.ReadModules.{module_with, readers, too_deep}
use Rattle.luau_grammar.proofs.Agreement.{Bounded}
use Rattle.luau_grammar.proofs.Families.{bare_is_read}
use Rattle.grammar_faults.specs.Fronts.{BeginFrom, StandsBefore}
use Rattle.grammar_faults.proofs.Local.{Tails, Near, Far, Local, IsLate, both, choose, least, done, peeks_sees, peeks_symbol, peeks_of}
use Rattle.grammar_faults.proofs.LocalTokens.{refuses, refuses_deep}
use Rattle.grammar_faults.proofs.LocalTypes.{LocalReaders, block_local, type_inside_local, type_begun_local}
use Rattle.grammar_faults.proofs.LocalOperators.{expression_inside_local}
use Rattle.grammar_faults.proofs.LocalStatements.{block_inside_local}

module _ (set : Setting) (w : Tails) where
  pub deep_local : LocalReaders w (too_deep set)
  unfolding too_deep
  deep_local = record {
    exp = refuses_deep set 1;
    typ = refuses_deep set 1;
    begun = λ l. refuses_deep set 0;
    block = choose (peeks_of statements.begins peeks_symbol) (refuses_deep set 0) (done tree.no_stats);
  }

  pub readers_local : (deep : ℕ) → LocalReaders w (readers set deep)
  unfolding readers
  readers_local zero = deep_local
  readers_local (suc deep) = record {
    exp = expression_inside_local set (readers set deep) w (readers_local deep);
    typ = type_inside_local set (readers set deep) w (readers_local deep);
    begun = type_begun_local set (readers set deep) w (readers_local deep);
    block = block_inside_local set (readers set deep) w (readers_local deep);
  }

  pub module_local : (deep : ℕ) → Local w 0 (module_with set deep)
  unfolding module_with
  module_local deep =
      least 0 refl (both (block_local set (readers set deep) w (readers_local deep)) (λ b. choose (peeks_sees s.Stop) (done b) (refuses set 0)))

near_early : (w : Tails) (o r : Outcome Block) (e : ParseError) → Near w o r → o ≡ Err e → (IsLate w.bound e → ⊥) → r ≡ Err e
near_early w (Ok x) r e h d early = absurd (let c : Ok x ≡ Err e = d in cc)
near_early w (Err f) (Ok y) e (inl h) d early = absurd h
near_early w (Err f) (Err g) e (inl h) d early = ap (λ z. Err z) (sym h) ∙ d
near_early w (Err f) r e (inr h) d early = absurd (early (subst (λ o. Far {A = Block} w.bound o) d h.0))

-- The same fault in each list that goes on alike up to the token behind it.
pub same_fault : (set : Setting) (w : Tails) (deep : ℕ) (first : Tok) (front : List Tok) (e : ParseError) → (IsLate w.bound e → ⊥)
    → module_with set deep (before (first ∷ (front ++ w.token ∷ w.one))) ≡ Err e
    → module_with set deep (before (first ∷ (front ++ w.token ∷ w.other))) ≡ Err e
same_fault set w deep first front e early h =
    near_early w (module_with set deep (before (first ∷ (front ++ w.token ∷ w.one)))) (module_with set deep (before (first ∷ (front ++ w.token ∷ w.other)))) e
    ((module_local set w deep).near (before (first ∷ (front ++ w.token ∷ w.one))) (before (first ∷ (front ++ w.token ∷ w.other)))
    (record { token = first; between = front; one = refl; other = refl; last = refl; level = refl })) h early

early : (bound : ℕ) (e : ParseError) → StandsBefore bound e → IsLate bound e → ⊥
early bound (Unexpected at) h l = absurd (omega arith)
early bound (UnexpectedEnd at) h l = h
early bound (AmbiguousCall at) h l = absurd (omega arith)
early bound (Nesting at) h l = absurd (omega arith)
early bound (Lex f) h l = h
early bound NoMemory h l = h

pub a_fault_stands : (set : Setting) (deep bound : ℕ) (first t : Tok) (front one other : List Tok) (e : ParseError)
    → StandsBefore bound e → BeginFrom bound (t ∷ one) → BeginFrom bound (t ∷ other)
    → module_with set deep (before (first ∷ (front ++ t ∷ one))) ≡ Err e → module_with set deep (before (first ∷ (front ++ t ∷ other))) ≡ Err e
a_fault_stands set deep bound first t front one other e h l m =
    same_fault set (record { bound = bound; token = t; one = one; other = other; one_late = l; other_late = m }) deep first front e (early bound e h)

refused : (o : Outcome Block) (x : Block × Place) (e : ParseError) → o ≡ Ok x → o ≡ Err e → ⊥
refused o x e h k = absurd (let both : Ok x ≡ Err e = sym h ∙ k in cc)

pub a_fault_leaves_no_tree : (set : Setting) → Bounded set → (deep bound : ℕ) → set.limit + 2 ≤ deep → (first t : Tok) (front one other : List Tok) (e : ParseError)
    → StandsBefore bound e → BeginFrom bound (t ∷ one) → BeginFrom bound (t ∷ other)
    → module_with set deep (before (first ∷ (front ++ t ∷ one))) ≡ Err e
    → (b : Block) → IsBare set.rules (first ∷ (front ++ t ∷ other)) b → ⊥
a_fault_leaves_no_tree set bounded deep bound d first t front one other e h l m k b i =
    let r = bare_is_read set bounded deep d (first ∷ (front ++ t ∷ other)) b i in
    refused (module_with set deep (before (first ∷ (front ++ t ∷ other)))) (b, r.0) e r.1 (a_fault_stands set deep bound first t front one other e h l m k)
