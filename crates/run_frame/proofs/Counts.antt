-- How often an activation reached a reported place, and what that says of what a run logs.
use Rattle.std.proofs.Common.{◌≡◌, ◌≢◌, ℕ, zero, suc, ◌+◌, Bool, true, false, ◌&&◌, ◌||◌, ◌==◌, if◌then◌else◌, List, [], ◌∷◌, ◌++◌, refl, sym, ◌∙◌, subst, arith, Contains}
use Rattle.std.specs.List.{list_any}
use Rattle.luau_tree.specs.declared.names.Place.{Place}
use Rattle.luau_tree.specs.declared.names.Place.TheVariants.{Expr as ExprPlace, Param as ParamPlace}
use Rattle.luau_run.specs.Program.{Program}
use Rattle.luau_run.specs.Machine.{Event, Reach, Leave}
use Rattle.luau_run.specs.Run.{trace}
use Rattle.luau_run.specs.Certain.{IsNotLeft, StaysAt, Certain}
use Rattle.run_frame.specs.Analysis.{Analysis}

-- ---- reported places

-- whether two places are the same
abbrev pub same_place : Place → Place → Bool
same_place (ExprPlace m) (ExprPlace n) = m.0 == n.0
same_place (ParamPlace f i) (ParamPlace g j) = (f.0 == g.0) && (i == j)
same_place _ _ = false

-- whether a place of a module is among some reports
abbrev pub is_among : List (ℕ × Place) → ℕ → Place → Bool
is_among reports m p = list_any (λ (r : ℕ × Place). (r.0 == m) && same_place r.1 p) reports

abbrev pub is_reported : Analysis → ℕ → Place → Bool
is_reported an m p = is_among an.reports m p

itself : (n : ℕ) → (n == n) ≡ true
itself n = grind arith

same_refl : (p : Place) → same_place p p ≡ true
same_refl (ExprPlace m) = itself m.0
same_refl (ParamPlace f i) = rw (itself f.0, itself i) refl

pub contained : (reports : List (ℕ × Place)) (m : ℕ) (p : Place) → Contains reports (m, p) → is_among reports m p ≡ true
contained [] m p (k, l, e) = absurd (omega arith)
contained (r ∷ reports) m p (zero, l, e) = first_one (subst (λ (x : ℕ × Place). (x.0 == m) && same_place x.1 p ≡ true) (sym e) (rw (itself m, same_refl p) refl))
  where
    first_one : (r.0 == m) && same_place r.1 p ≡ true → ((r.0 == m) && same_place r.1 p) || is_among reports m p ≡ true
    first_one h = rw h refl
contained (r ∷ reports) m p (suc k, l, e) = later (contained reports m p (k, omega arith, e))
  where
    or_true : (b : Bool) → b || true ≡ true
    or_true true = refl
    or_true false = refl

    later : is_among reports m p ≡ true → ((r.0 == m) && same_place r.1 p) || is_among reports m p ≡ true
    later h = rw h (or_true ((r.0 == m) && same_place r.1 p))

-- ---- counts

-- one where both hold
abbrev both : Bool → Bool → ℕ
both p q = if p && q then 1 else 0

-- how often an activation reached a reported place
abbrev pub reached : Analysis → ℕ → List Event → ℕ
reached an a [] = 0
reached an a (Reach b m place ∷ events) = both (b == a) (is_reported an m place) + reached an a events
reached an a (Leave b ∷ events) = reached an a events

pub reached_append : (an : Analysis) (a : ℕ) (xs ys : List Event) → reached an a (xs ++ ys) ≡ reached an a xs + reached an a ys
reached_append an a [] ys = omega arith
reached_append an a (Reach b m place ∷ xs) ys = omega (arith, reached_append an a xs ys)
reached_append an a (Leave b ∷ xs) ys = reached_append an a xs ys

-- one more where its place is reported
abbrev pub one_if : Bool → ℕ
one_if b = if b then 1 else 0

pub reached_own : (an : Analysis) (a m : ℕ) (p : Place) (xs : List Event) → reached an a (xs ++ Reach a m p ∷ []) ≡ reached an a xs + one_if (is_reported an m p)
reached_own an a m p xs = reached_append an a xs (Reach a m p ∷ []) ∙ rw (itself a) (omega arith)

pub reached_other : (an : Analysis) (a b m : ℕ) (p : Place) (xs : List Event) → b ≢ a → reached an a (xs ++ Reach b m p ∷ []) ≡ reached an a xs
reached_other an a b m p xs n = reached_append an a xs (Reach b m p ∷ []) ∙ rw (differ b a n) (omega arith)
  where
    differ : (i j : ℕ) → i ≢ j → (i == j) ≡ false
    differ i j k = grind arith

pub reached_leave : (an : Analysis) (a b : ℕ) (xs : List Event) → reached an a (xs ++ Leave b ∷ []) ≡ reached an a xs
reached_leave an a b xs = reached_append an a xs (Leave b ∷ []) ∙ omega arith

-- ---- traces that stay

not_left_reach : (a b m : ℕ) (place : Place) (xs : List Event) → IsNotLeft a xs → IsNotLeft a (xs ++ Reach b m place ∷ [])
not_left_reach a b m place [] h = tt
not_left_reach a b m place (Reach c n q ∷ xs) h = not_left_reach a b m place xs h
not_left_reach a b m place (Leave c ∷ xs) h = (h.0, not_left_reach a b m place xs h.1)

-- a place may be reached at any time
pub stays_reach : (reports : List (ℕ × Place)) (b m : ℕ) (place : Place) (xs : List Event) → StaysAt reports xs → StaysAt reports (xs ++ Reach b m place ∷ [])
stays_reach reports b m place [] h = (λ c. tt, tt)
stays_reach reports b m place (Reach a n q ∷ xs) h = (λ c. not_left_reach a b m place xs (h.0 c), stays_reach reports b m place xs h.1)
stays_reach reports b m place (Leave a ∷ xs) h = stays_reach reports b m place xs h

not_left_leave : (a b : ℕ) (xs : List Event) → b ≢ a → IsNotLeft a xs → IsNotLeft a (xs ++ Leave b ∷ [])
not_left_leave a b [] n h = (n, tt)
not_left_leave a b (Reach c m q ∷ xs) n h = not_left_leave a b xs n h
not_left_leave a b (Leave c ∷ xs) n h = (h.0, not_left_leave a b xs n h.1)

-- an activation that reached no reported place may be left
pub stays_leave : (an : Analysis) (b : ℕ) (xs : List Event) → reached an b xs ≡ 0 → StaysAt an.reports xs → StaysAt an.reports (xs ++ Leave b ∷ [])
stays_leave an b [] z h = tt
stays_leave an b (Reach a m place ∷ xs) z h = (λ c. not_left_leave a b xs (other c) (h.0 c), stays_leave an b xs (omega (arith, z)) h.1)
  where
    same : (p q : Bool) → p ≡ true → q ≡ true → both p q + reached an b xs ≡ 0 → ⊥
    same true true e k n = absurd (omega (arith, n))
    same true false e k n = cc
    same false q e k n = cc

    other : Contains an.reports (m, place) → b ≢ a
    other c e = same (a == b) (is_reported an m place) (subst (λ (n : ℕ). (a == n) ≡ true) (sym e) (itself a)) (contained an.reports m place c) z
stays_leave an b (Leave a ∷ xs) z h = stays_leave an b xs z h

-- ---- fewer reports

pub fewer_stay : (reports fewer : List (ℕ × Place)) → ((r : ℕ × Place) → Contains fewer r → Contains reports r) → (xs : List Event) → StaysAt reports xs → StaysAt fewer xs
fewer_stay reports fewer f [] h = tt
fewer_stay reports fewer f (Reach a m place ∷ xs) h = (λ c. h.0 (f (m, place) c), fewer_stay reports fewer f xs h.1)
fewer_stay reports fewer f (Leave a ∷ xs) h = fewer_stay reports fewer f xs h

pub fewer_certain : (program : Program) (reports fewer : List (ℕ × Place)) → ((r : ℕ × Place) → Contains fewer r → Contains reports r)
    → Certain program reports → Certain program fewer
fewer_certain program reports fewer f h entry steps tape = fewer_stay reports fewer f (trace program entry steps tape) (h entry steps tape)
