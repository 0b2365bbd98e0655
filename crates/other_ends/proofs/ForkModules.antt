-- The parser of a module depends on what it takes, so a fault at a token is the fault of each list with the same prefix.
use Rattle.std.proofs.Common.{◌≡◌, ℕ, zero, suc, ◌+◌, ◌≤◌, ◌<◌, List, [], ◌∷◌, ◌++◌, refl, sym, ◌∙◌, subst, inl, inr, Ok, Err, arith, leb-true, true, false, true≢false, append_assoc}
use Rattle.std.specs.Prelude.{nat_le}
use Rattle.luau_tree.specs.Tree.{Block}
use Rattle.luau_tree.specs.Tree as tree
use Rattle.luau_lex.specs.Tokens.{Tok}
use Rattle.luau_grammar.specs.declared.error.ParseError.{ParseError}
use Rattle.luau_grammar.specs.declared.error.ParseError.TheVariants.{Unexpected, UnexpectedEnd, AmbiguousCall, Nesting}
use Rattle.luau_grammar.specs.declared.symbol.Symbol.TheVariants as s
use Rattle.luau_grammar.specs.Places.{Place}
use Rattle.luau_grammar.specs.Statements as statements
use Rattle.luau_grammar.specs.Modules.{IsBare, before}
use Rattle.luau_grammar.specs.Reading as read
use Rattle.luau_grammar.specs.Reading.{Setting, Outcome}
use Rattle.luau_grammar.specs.ReadModules.{module_with, readers, too_deep}
use Rattle.luau_grammar.proofs.Agreement.{Bounded}
use Rattle.luau_grammar.proofs.Families.{bare_is_read}
use Rattle.grammar_faults.specs.Fronts.{BeginFrom, StandsBefore}
use Rattle.grammar_faults.proofs.LocalModules.{a_fault_stands}
use Rattle.other_ends.specs.Settings.{IsByLevels}
use Rattle.other_ends.proofs.Fork.{Fork, NextLate, NotAt, Near, Far, Forked, Names, Dotted, Link, perhaps, deep_missed, here, IsLate, Deep, both, choose, least, done, peeks_sees, peeks_symbol, peeks_of}
use Rattle.other_ends.proofs.ForkTokens.{refuses, refuses_deep}
use Rattle.other_ends.proofs.ForkTypes.{ForkReaders, block_forked, type_inside_forked, type_begun_forked, type_inside_names, type_inside_before_dot}
use Rattle.other_ends.proofs.ForkOperators.{expression_inside_forked, expression_inside_names, expression_inside_before_dot}
use Rattle.other_ends.proofs.ForkStatements.{block_inside_forked}

module _ (set : Setting) (w : Fork) (link : Link set w) where
  deep_names : {A : Type 0} → Names {A = A} false w (λ p. Err (read.deep_refusal set p))
  unfolding read.deep_refusal
  deep_names {A = A} = record { taken = λ e ts l m b z. inr tt; deep = λ e ts l m b z. deep_missed {A = A} w.upto w.bound (Err (read.deep_refusal set (here w.token ts l m))) tt }

  deep_dotted : {A : Type 0} → Dotted {A = A} w (λ p. Err (read.deep_refusal set p))
  unfolding read.deep_refusal
  deep_dotted = record { aside = λ e d l m. inr tt }

  deep_forked : ForkReaders set w (too_deep set)
  unfolding too_deep
  deep_forked = record {
    link = link;
    exp = refuses_deep set 1;
    typ = refuses_deep set 1;
    begun = λ l. refuses_deep set 0;
    block = choose (peeks_of statements.begins peeks_symbol) (refuses_deep set 0) (done tree.no_stats);
    exp_named = deep_names;
    typ_named = deep_names;
    exp_dotted = deep_dotted;
    typ_dotted = deep_dotted;
  }

  readers_forked : (deep : ℕ) → ForkReaders set w (readers set deep)
  unfolding readers
  readers_forked zero = deep_forked
  readers_forked (suc deep) = record {
    link = link;
    exp = expression_inside_forked set (readers set deep) w (readers_forked deep);
    typ = type_inside_forked set (readers set deep) w (readers_forked deep);
    begun = type_begun_forked set (readers set deep) w (readers_forked deep);
    block = block_inside_forked set (readers set deep) w (readers_forked deep);
    exp_named = perhaps (expression_inside_names set (readers set deep) w (readers_forked deep));
    typ_named = perhaps (type_inside_names set (readers set deep) w (readers_forked deep));
    exp_dotted = expression_inside_before_dot set (readers set deep) w (readers_forked deep);
    typ_dotted = type_inside_before_dot set (readers set deep) w (readers_forked deep);
  }

  pub module_forked : (deep : ℕ) → Forked w 0 (module_with set deep)
  unfolding module_with
  module_forked deep =
      least 0 refl (both (block_forked set (readers set deep) w (readers_forked deep)) (λ b. choose (peeks_sees s.Stop) (done b) (refuses set 0)))

  -- the parser over both lists
  both_lists : (deep : ℕ) (front : List Tok) → Near w (module_with set deep (before (front ++ w.token ∷ w.one))) (module_with set deep (before (front ++ w.token ∷ w.other)))
  both_lists deep front =
      (module_forked deep).near (before (front ++ w.token ∷ w.one)) (before (front ++ w.token ∷ w.other)) (record { between = front; one = refl; other = refl; last = refl; level = refl })

same_error : (o : Outcome Block) (d e : ParseError) → o ≡ Err d → o ≡ Err e → d ≡ e
same_error o d e h k = cc

no_way : (w : Fork) (o r : Outcome Block) (e : ParseError) (x : Block × Place) → Near w o r → o ≡ Err e → r ≡ Ok x → (IsLate w.bound e → ⊥) → (Deep e → ⊥) → ⊥
no_way w (Ok y) r e x n h k early flat = absurd (cc)
no_way w (Err d) (Err c) e x n h k early flat = absurd (cc)
no_way w (Err d) (Ok y) e x (inl n) h k early flat = n
no_way w (Err d) (Ok y) e x (inr (inl n)) h k early flat = early (subst (IsLate w.bound) (same_error (Err d) d e refl h) n.0)
no_way w (Err d) (Ok y) e x (inr (inr (inl n))) h k early flat = flat (subst Deep (same_error (Err d) d e refl h) n)
no_way w (Err d) (Ok y) e x (inr (inr (inr n))) h k early flat = n.0

passed_too : (w : Fork) (o r : Outcome Block) (e : ParseError) → Near w o r → o ≡ Err e → IsLate w.bound e → (Deep e → ⊥) → (NotAt w.one e → ⊥) → Far w.bound r
passed_too w (Ok y) r e n h late flat there = absurd (cc)
passed_too w (Err d) (Ok y) e (inl n) h late flat there = absurd n
passed_too w (Err d) (Err c) e (inl n) h late flat there = subst (IsLate w.bound) (sym (same_error (Err d) d e refl h) ∙ n) late
passed_too w (Err d) r e (inr (inl n)) h late flat there = n.1
passed_too w (Err d) r e (inr (inr (inl n))) h late flat there = absurd (flat (subst Deep (same_error (Err d) d e refl h) n))
passed_too w (Err d) r e (inr (inr (inr n))) h late flat there = absurd (there (subst (λ z. NotAt w.one z) (same_error (Err d) d e refl h) n.1))

-- What is passed in the one list is passed in the other, where the fault is not that something stands too deep, and not
-- at the token behind.
pub passed_alike : (set : Setting) (w : Fork) → Link set w → (deep : ℕ) (front : List Tok) (e : ParseError) → IsLate w.bound e → (Deep e → ⊥) → (NotAt w.one e → ⊥)
    → module_with set deep (before (front ++ w.token ∷ w.one)) ≡ Err e → Far w.bound (module_with set deep (before (front ++ w.token ∷ w.other)))
passed_alike set w link deep front e late flat there h =
    passed_too w (module_with set deep (before (front ++ w.token ∷ w.one))) (module_with set deep (before (front ++ w.token ∷ w.other))) e (both_lists set w link deep front) h late flat there

late_token : (t : Tok) → t.span.start + 1 ≤ t.span.start → ⊥
late_token t h = absurd (omega arith)

module _ (set : Setting) (by_levels : IsByLevels set) (deep : ℕ) (enough : set.limit + 2 ≤ deep) (t : Tok) (front one other : List Tok)
    (one_late : BeginFrom (t.span.start + 1) one) (other_late : BeginFrom (t.span.start + 1) other) (one_next : NextLate one) where
  abbrev fork : Fork
  fork = record { bound = t.span.start + 1; stands = λ m. nat_le m set.limit; upto = true; token = t; one = one; other = other; one_late = one_late; other_late = other_late; one_next = one_next; dotted = λ e. absurd (true≢false e) }

  abbrev link : Link set fork
  link = record { stands = λ m. by_levels t m; level = λ _ m. refl }

  bounded : Bounded set
  bounded u m h = leb-true m set.limit (sym (by_levels u m) ∙ h)

  refused_too : (e : ParseError) → (IsLate (t.span.start + 1) e → ⊥) → (Deep e → ⊥) → module_with set deep (before (front ++ t ∷ one)) ≡ Err e → (b : Block) → IsBare set.rules (front ++ t ∷ other) b → ⊥
  refused_too e early flat h b tree =
      let r = bare_is_read set bounded deep enough (front ++ t ∷ other) b tree in
      no_way fork (module_with set deep (before (front ++ t ∷ one))) (module_with set deep (before (front ++ t ∷ other))) e (b, r.0) (both_lists set fork link deep front) h r.1 early flat

  unexpected_next : module_with set deep (before (front ++ t ∷ one)) ≡ Err (Unexpected t.span.start) → (b : Block) → IsBare set.rules (front ++ t ∷ other) b → ⊥
  unexpected_next h b = refused_too (Unexpected t.span.start) (late_token t) (λ z. z) h b

  ambiguous_next : module_with set deep (before (front ++ t ∷ one)) ≡ Err (AmbiguousCall t.span.start) → (b : Block) → IsBare set.rules (front ++ t ∷ other) b → ⊥
  ambiguous_next h b = refused_too (AmbiguousCall t.span.start) (late_token t) (λ z. z) h b

  -- A token behind which the first token, or the end, is unexpected is passed whatever stands behind it.
  pub passed_whatever_follows : (e : ParseError) → IsLate (t.span.start + 1) e → (Deep e → ⊥) → (NotAt one e → ⊥) → module_with set deep (before (front ++ t ∷ one)) ≡ Err e
      → Far (t.span.start + 1) (module_with set deep (before (front ++ t ∷ other)))
  passed_whatever_follows e late flat there h =
      passed_too fork (module_with set deep (before (front ++ t ∷ one))) (module_with set deep (before (front ++ t ∷ other))) e (both_lists set fork link deep front) h late flat there

-- ---- tokens that stand behind the next don't matter

shortened : (set : Setting) (deep : ℕ) (t u : Tok) (front us : List Tok) (e : ParseError) → StandsBefore (t.span.start + 1) e → BeginFrom (t.span.start + 1) (u ∷ us)
    → module_with set deep (before (front ++ t ∷ u ∷ us)) ≡ Err e → module_with set deep (before (front ++ t ∷ u ∷ [])) ≡ Err e
shortened set deep t u [] us e d l h = a_fault_stands set deep (t.span.start + 1) t u [] us [] e d l (l.0, tt) h
shortened set deep t u (v ∷ vs) us e d l h =
    subst (λ z. module_with set deep (before (v ∷ z)) ≡ Err e) (append_assoc vs (t ∷ []) (u ∷ []))
    (a_fault_stands set deep (t.span.start + 1) v u (vs ++ t ∷ []) us [] e d l (l.0, tt)
    (subst (λ z. module_with set deep (before (v ∷ z)) ≡ Err e) (sym (append_assoc vs (t ∷ []) (u ∷ us))) h))

module _ (set : Setting) (by_levels : IsByLevels set) (deep : ℕ) (enough : set.limit + 2 ≤ deep) (t : Tok) (front : List Tok) where
  pub unexpected_whatever_follows : (one other : List Tok) → BeginFrom (t.span.start + 1) one → BeginFrom (t.span.start + 1) other → module_with set deep (before (front ++ t ∷ one)) ≡ Err (Unexpected t.span.start)
      → (b : Block) → IsBare set.rules (front ++ t ∷ other) b → ⊥
  unexpected_whatever_follows [] other l k h b = unexpected_next set by_levels deep enough t front [] other l k tt h b
  unexpected_whatever_follows (u ∷ us) other l k h b =
      unexpected_next set by_levels deep enough t front (u ∷ []) other (l.0, tt) k tt
      (shortened set deep t u front us (Unexpected t.span.start) (let x : t.span.start < t.span.start + 1 = omega arith in x) l h) b

  pub ambiguous_whatever_follows : (one other : List Tok) → BeginFrom (t.span.start + 1) one → BeginFrom (t.span.start + 1) other → module_with set deep (before (front ++ t ∷ one)) ≡ Err (AmbiguousCall t.span.start)
      → (b : Block) → IsBare set.rules (front ++ t ∷ other) b → ⊥
  ambiguous_whatever_follows [] other l k h b = ambiguous_next set by_levels deep enough t front [] other l k tt h b
  ambiguous_whatever_follows (u ∷ us) other l k h b =
      ambiguous_next set by_levels deep enough t front (u ∷ []) other (l.0, tt) k tt
      (shortened set deep t u front us (AmbiguousCall t.span.start) (let x : t.span.start < t.span.start + 1 = omega arith in x) l h) b

  not_deep : (o : Outcome Block) → Far (t.span.start + 1) o → o ≡ Err (Nesting t.span.start) → ⊥
  not_deep (Ok x) h e = absurd (cc)
  not_deep (Err d) h e = late_token t (subst (IsLate (t.span.start + 1)) (same_error (Err d) d (Nesting t.span.start) refl e) h)

  pub never_too_deep : (u : Tok) (us other : List Tok) → BeginFrom (t.span.start + 1) (u ∷ us) → BeginFrom (u.span.start + 1) us → BeginFrom (t.span.start + 1) other
      → module_with set deep (before (front ++ t ∷ u ∷ us)) ≡ Err (Unexpected u.span.start) → module_with set deep (before (front ++ t ∷ other)) ≡ Err (Nesting t.span.start) → ⊥
  never_too_deep u us other l n k h =
      not_deep (module_with set deep (before (front ++ t ∷ other)))
      (passed_whatever_follows set by_levels deep enough t front (u ∷ us) other l k n (Unexpected u.span.start) l.0 (λ z. z) (λ z. z refl) h)

  pub never_too_deep_at_the_end : (n : ℕ) (other : List Tok) → BeginFrom (t.span.start + 1) other → module_with set deep (before (front ++ t ∷ [])) ≡ Err (UnexpectedEnd n)
      → module_with set deep (before (front ++ t ∷ other)) ≡ Err (Nesting t.span.start) → ⊥
  never_too_deep_at_the_end n other k h =
      not_deep (module_with set deep (before (front ++ t ∷ other)))
      (passed_whatever_follows set by_levels deep enough t front [] other tt k tt (UnexpectedEnd n) tt (λ z. z) (λ z. z) h)
