-- Where a long bracket closes, by index.
use Rattle.std.proofs.Common.{◌≡◌, ℕ, zero, suc, ◌<◌, true, false, cond, List, [], ◌∷◌, length, drop, Bool, Option, subst, Some, None, ap, ◌∙◌, refl, arith}
use Rattle.std.specs.Prelude.{option_map}
use Rattle.luau_lex.specs.Computed.Brackets.{closes, closing_place}

-- it closes at the first place where it can
pub closing_found : (signs : ℕ) (xs : List ℕ) (i : ℕ) → i < length xs → ((k : ℕ) → k < i → closes signs (drop k xs) ≡ false) → closes signs (drop i xs) ≡ true → closing_place signs xs ≡ Some i
unfolding closing_place
closing_found signs [] i short before here = absurd (omega arith)
closing_found signs (x ∷ xs) zero short before here = ap (λ b. cond b (Some 0) (option_map (λ n. suc n) (closing_place signs xs))) here
closing_found signs (x ∷ xs) (suc i) short before here =
    ap (λ b. cond b (Some 0) (option_map (λ n. suc n) (closing_place signs xs))) (before 0 (omega arith))
    ∙ ap (option_map (λ n. suc n)) (closing_found signs xs i (omega arith) (λ k h. before (suc k) (omega arith)) here)

-- it doesn't close where it can close nowhere
pub closing_missing : (signs : ℕ) (xs : List ℕ) → ((k : ℕ) → k < length xs → closes signs (drop k xs) ≡ false) → closing_place signs xs ≡ None
unfolding closing_place
closing_missing signs [] nowhere = refl
closing_missing signs (x ∷ xs) nowhere =
    ap (λ b. cond b (Some 0) (option_map (λ n. suc n) (closing_place signs xs))) (nowhere 0 (omega arith))
    ∙ ap (option_map (λ n. suc n)) (closing_missing signs xs (λ k h. nowhere (suc k) (omega arith)))

there_behind : (signs place x : ℕ) (xs : List ℕ) (o : Option ℕ) → closing_place signs xs ≡ o → ((k : ℕ) → closing_place signs xs ≡ Some k → closes signs (drop k xs) ≡ true) → option_map (λ n. suc n) o ≡ Some place → closes signs (drop place (x ∷ xs)) ≡ true
there_behind signs place x xs None found more is = cc
there_behind signs zero x xs (Some k) found more is = cc
there_behind signs (suc place) x xs (Some k) found more is = let same : k ≡ place = cc in subst (λ n. closes signs (drop n xs) ≡ true) same (more k found)

there_at : (signs place x : ℕ) (xs : List ℕ) (b : Bool) → closes signs (x ∷ xs) ≡ b → ((k : ℕ) → closing_place signs xs ≡ Some k → closes signs (drop k xs) ≡ true) → cond b (Some 0) (option_map (λ n. suc n) (closing_place signs xs)) ≡ Some place → closes signs (drop place (x ∷ xs)) ≡ true
there_at signs zero x xs true h more is = h
there_at signs (suc place) x xs true h more is = cc
there_at signs place x xs false h more is = there_behind signs place x xs (closing_place signs xs) refl more is

-- it closes where it is said to
pub closes_there : (signs place : ℕ) (text : List ℕ) → closing_place signs text ≡ Some place → closes signs (drop place text) ≡ true
unfolding closing_place
closes_there signs place [] is = cc
closes_there signs place (x ∷ xs) is = there_at signs place x xs (closes signs (x ∷ xs)) refl (λ k. closes_there signs k xs) is

before_behind : (signs place k : ℕ) (xs : List ℕ) (o : Option ℕ) → closing_place signs xs ≡ o → ((p j : ℕ) → closing_place signs xs ≡ Some p → j < p → closes signs (drop j xs) ≡ false) → option_map (λ n. suc n) o ≡ Some place → suc k < place → closes signs (drop k xs) ≡ false
before_behind signs place k xs None found more is lt = cc
before_behind signs place k xs (Some p) found more is lt = let same : suc p ≡ place = cc in more p k found (omega arith)

before_at : (signs place k x : ℕ) (xs : List ℕ) (b : Bool) → closes signs (x ∷ xs) ≡ b → ((p j : ℕ) → closing_place signs xs ≡ Some p → j < p → closes signs (drop j xs) ≡ false) → cond b (Some 0) (option_map (λ n. suc n) (closing_place signs xs)) ≡ Some place → k < place → closes signs (drop k (x ∷ xs)) ≡ false
before_at signs place k x xs true h more is lt = let same : 0 ≡ place = cc in absurd (omega arith)
before_at signs place zero x xs false h more is lt = h
before_at signs place (suc k) x xs false h more is lt = before_behind signs place k xs (closing_place signs xs) refl more is lt

-- it closes nowhere before
pub closes_not_before : (signs place k : ℕ) (text : List ℕ) → closing_place signs text ≡ Some place → k < place → closes signs (drop k text) ≡ false
unfolding closing_place
closes_not_before signs place k [] is lt = cc
closes_not_before signs place k (x ∷ xs) is lt = before_at signs place k x xs (closes signs (x ∷ xs)) refl (λ p j. closes_not_before signs p j xs) is lt

never_at : (signs x k : ℕ) (xs : List ℕ) (b : Bool) (o : Option ℕ) → closes signs (x ∷ xs) ≡ b → closing_place signs xs ≡ o → ((j : ℕ) → closing_place signs xs ≡ None → closes signs (drop j xs) ≡ false) → cond b (Some 0) (option_map (λ n. suc n) o) ≡ None → closes signs (drop k (x ∷ xs)) ≡ false
never_at signs x k xs true o h is more none = cc
never_at signs x k xs false (Some n) h is more none = cc
never_at signs x zero xs false None h is more none = h
never_at signs x (suc k) xs false None h is more none = more k is

closes_none : (signs : ℕ) → closes signs [] ≡ false
unfolding closes
closes_none signs = refl

drop_none : (k : ℕ) → ◌≡◌ {A = List ℕ} (drop k []) []
drop_none zero = refl
drop_none (suc k) = refl

-- where it closes nowhere, no place closes it
pub closes_never : (signs k : ℕ) (text : List ℕ) → closing_place signs text ≡ None → closes signs (drop k text) ≡ false
unfolding closing_place
closes_never signs k [] none = ap (closes signs) (drop_none k) ∙ closes_none signs
closes_never signs k (x ∷ xs) none = never_at signs x k xs (closes signs (x ∷ xs)) (closing_place signs xs) refl refl (λ j. closes_never signs j xs) none
