-- Where the reports of a module stand in its text.
use Rattle.std.proofs.Common.{◌≡◌, ◌==◌, ◌≤◌, ℕ, suc, Bool, true, false, not, if◌then◌else◌, List, [], ◌∷◌, ◌++◌, Option, Some, map, option_map, refl, ap, ◌∙◌, arith, cond}
use Rattle.std.proofs.lemmas.Bool.Decides.{nat_tests}
use Rattle.std.specs.List.{find}
use Rattle.std.proofs.lemmas.Bool.{ne_eqb}
use Rattle.luau_tree.specs.declared.names.Place.{Place}
use Rattle.luau_tree.specs.declared.position.Span.{Span}
use Rattle.luau_tree.specs.Tree.{Block, more_stats, Expr}
use Rattle.luau_tree.specs.Nodes.{expr_start, exprs_in, expr_number, expr_span, span_at}
use Rattle.rules_certain.specs.Literal.{Literal, NilLiteral, TruthLiteral, NumberLiteral, StrLiteral, is_number}
use Rattle.rules_certain.specs.Calls.{Written, stat_of, block_of, after_call}
use Rattle.rules_certain.specs.Reports.{place, argument_of, reports_in}
use Rattle.nonstrict_cli.specs.Form.{offsets_of, offsets_at}

-- a call with another literal
abbrev with_literal : Written → Literal → Written
with_literal w l = record { literal = l; statement = w.statement; call = w.call; callee = w.callee; library = w.library; argument = w.argument }

-- the span of the first of four expressions that is meant, or of one behind them
abbrev first_of : {A : Type 0} → Bool → Bool → Bool → Bool → A → A → A → A → Option A → Option A
first_of b c d e w x y z later = cond b (Some w) (cond c (Some x) (cond d (Some y) (cond e (Some z) later)))

spans_of_four : (b c d e : Bool) (w x y z : Expr) (later : Option Expr) → option_map expr_span (first_of b c d e w x y z later) ≡ first_of b c d e (expr_span w) (expr_span x) (expr_span y) (expr_span z) (option_map expr_span later)
spans_of_four true c d e w x y z later = refl
spans_of_four false true d e w x y z later = refl
spans_of_four false false true e w x y z later = refl
spans_of_four false false false true w x y z later = refl
spans_of_four false false false false w x y z later = refl

-- where an expression of a call's statement stands, or one behind it
span_in_call : (n first : ℕ) (w : Written) (l : Literal) (rest : Block) → span_at (more_stats (stat_of first (with_literal w l)) rest) n
    ≡ first_of (first == n) (suc first == n) (suc (suc first) == n) (suc (suc (suc first)) == n) w.call w.callee w.library w.argument (span_at rest n)
span_in_call n first w NilLiteral rest = spans_of_four (first == n) (suc first == n) (suc (suc first) == n) (suc (suc (suc first)) == n) _ _ _ _ (find (λ e. expr_number e == n) (exprs_in rest))
span_in_call n first w (TruthLiteral true) rest = spans_of_four (first == n) (suc first == n) (suc (suc first) == n) (suc (suc (suc first)) == n) _ _ _ _ (find (λ e. expr_number e == n) (exprs_in rest))
span_in_call n first w (TruthLiteral false) rest = spans_of_four (first == n) (suc first == n) (suc (suc first) == n) (suc (suc (suc first)) == n) _ _ _ _ (find (λ e. expr_number e == n) (exprs_in rest))
span_in_call n first w (NumberLiteral text) rest = spans_of_four (first == n) (suc first == n) (suc (suc first) == n) (suc (suc (suc first)) == n) _ _ _ _ (find (λ e. expr_number e == n) (exprs_in rest))
span_in_call n first w (StrLiteral bytes) rest = spans_of_four (first == n) (suc first == n) (suc (suc first) == n) (suc (suc (suc first)) == n) _ _ _ _ (find (λ e. expr_number e == n) (exprs_in rest))

same : (n : ℕ) → (n == n) ≡ true
same n = grind (arith, nat_tests)

-- numbers that differ
differ : (a b : ℕ) → (a ≡ b → ⊥) → (a == b) ≡ false
differ a b d = ne_eqb a b d

none_of : {A : Type 0} (b c d e : Bool) (w x y z : A) (later : Option A) → b ≡ false → c ≡ false → d ≡ false → e ≡ false → first_of b c d e w x y z later ≡ later
none_of b c d e w x y z later p q r s = cc

the_fourth : {A : Type 0} (b c d e : Bool) (w x y z : A) (later : Option A) → b ≡ false → c ≡ false → d ≡ false → e ≡ true → first_of b c d e w x y z later ≡ Some z
the_fourth b c d e w x y z later p q r s = cc

-- the literal stands at the call's fourth expression
here : (first : ℕ) (w : Written) (calls : List Written) → expr_start (block_of first (w ∷ calls)) (argument_of first) ≡ Some w.argument.start
here first w calls = ap (option_map (λ (s : Span). s.start)) (span_in_call n first w w.literal (block_of (after_call first) calls)
    ∙ the_fourth (first == n) (suc first == n) (suc (suc first) == n) (n == n) w.call w.callee w.library w.argument (span_at (block_of (after_call first) calls) n)
    (differ first n (λ e. absurd (omega (arith, e)))) (differ (suc first) n (λ e. absurd (omega (arith, e)))) (differ (suc (suc first)) n (λ e. absurd (omega (arith, e)))) (same n))
  where
    n : ℕ
    n = suc (suc (suc first))

-- what stands behind a call stands where it would without the call
behind : (first id : ℕ) (w : Written) (calls : List Written) → after_call first ≤ id → expr_start (block_of first (w ∷ calls)) (place id) ≡ expr_start (block_of (after_call first) calls) (place id)
behind first id w calls l = ap (option_map (λ (s : Span). s.start)) (span_in_call id first w w.literal (block_of (after_call first) calls)
    ∙ none_of (first == id) (suc first == id) (suc (suc first) == id) (suc (suc (suc first)) == id) w.call w.callee w.library w.argument (span_at (block_of (after_call first) calls) id)
    (differ first id (λ e. absurd (omega (arith, e, l)))) (differ (suc first) id (λ e. absurd (omega (arith, e, l)))) (differ (suc (suc first)) id (λ e. absurd (omega (arith, e, l)))) (differ (suc (suc (suc first))) id (λ e. absurd (omega (arith, e, l)))))

-- where the reports of a list of calls begin, by the tree of a list that has one more in front
starts_behind : (at first n : ℕ) (w : Written) (calls later : List Written) → after_call first ≤ n
    → map (λ (r : ℕ × Place). expr_start (block_of first (w ∷ calls)) r.1) (reports_in at n later) ≡ map (λ (r : ℕ × Place). expr_start (block_of (after_call first) calls) r.1) (reports_in at n later)
starts_behind at first n w calls [] l = refl
starts_behind at first n w calls (v ∷ later) l = by_test (is_number v.literal) (starts_behind at first (after_call n) w calls later (omega (arith, l)))
  where
    by_test : (b : Bool) → map (λ (r : ℕ × Place). expr_start (block_of first (w ∷ calls)) r.1) (reports_in at (after_call n) later) ≡ map (λ (r : ℕ × Place). expr_start (block_of (after_call first) calls) r.1) (reports_in at (after_call n) later)
        → map (λ (r : ℕ × Place). expr_start (block_of first (w ∷ calls)) r.1) (if b then reports_in at (after_call n) later else (at, argument_of n) ∷ reports_in at (after_call n) later)
        ≡ map (λ (r : ℕ × Place). expr_start (block_of (after_call first) calls) r.1) (if b then reports_in at (after_call n) later else (at, argument_of n) ∷ reports_in at (after_call n) later)
    by_test true e = e
    by_test false e = ap (λ x. x ∷ map (λ (r : ℕ × Place). expr_start (block_of first (w ∷ calls)) r.1) (reports_in at (after_call n) later)) (behind first (suc (suc (suc n))) w calls (omega (arith, l)))
        ∙ ap (λ xs. expr_start (block_of (after_call first) calls) (argument_of n) ∷ xs) e

-- the reports of some calls begin where the literals do that aren't numbers
pub starts_of_reports : (at first : ℕ) (calls : List Written) → map (λ (r : ℕ × Place). expr_start (block_of first calls) r.1) (reports_in at first calls) ≡ map Some (offsets_of calls)
starts_of_reports at first [] = refl
starts_of_reports at first (w ∷ calls) = by_test (is_number w.literal) (starts_behind at first (after_call first) w calls calls (omega arith) ∙ starts_of_reports at (after_call first) calls)
  where
    by_test : (b : Bool) → map (λ (r : ℕ × Place). expr_start (block_of first (w ∷ calls)) r.1) (reports_in at (after_call first) calls) ≡ map Some (offsets_of calls)
        → map (λ (r : ℕ × Place). expr_start (block_of first (w ∷ calls)) r.1) (if b then reports_in at (after_call first) calls else (at, argument_of first) ∷ reports_in at (after_call first) calls)
        ≡ map Some (offsets_at w.argument.start (not b) ++ offsets_of calls)
    by_test true e = e
    by_test false e = ap (λ x. x ∷ map (λ (r : ℕ × Place). expr_start (block_of first (w ∷ calls)) r.1) (reports_in at (after_call first) calls)) (here first w calls)
        ∙ ap (λ xs. Some w.argument.start ∷ xs) e
