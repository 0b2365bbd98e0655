-- What holds of the ticket machine after every list of draws.
use Rattle.std.proofs.Common.{◌≡◌, ◌≢◌, ℕ, zero, suc, ◌+◌, ◌<◌, ◌≤◌, Bool, true, false, cond, List, [], ◌∷◌, ◌++◌, length, get_or, Some, refl, sym, ap, ◌∙◌, subst, arith}
use Rattle.std.specs.Prelude.{◌==◌, nat_lt, fold, flat_map, All, slice_get}
use Rattle.std.specs.List.Sorted.{IsStrictlyIncreasing}
use Rattle.std.proofs.lemmas.Bool.Decides.{nat_tests}
use Rattle.std.proofs.lemmas.Grind.{flat_map-append}
use Rattle.std.proofs.lemmas.List.Elements.{All-head, All-tail, All-nil, All-push, All-weaker, All-contains}
use Rattle.level_workers.specs.Numbers.{times, EachBelow, numbers_below, below}
use Rattle.level_workers.specs.Machine.{Machine, opening, draw, after, all_found, HasMet, AllHaveMet}
use Rattle.level_workers.proofs.NumberLemmas.{tell, times-append, EachBelow-next, EachBelow-below}
use Rattle.level_workers.proofs.MachineLemmas.{times-draw}

next-draws : (draws : List ℕ) (m : Machine) → (fold draw m draws).next ≡ m.next + length draws
next-draws [] m = omega arith
next-draws (seat ∷ draws) m = omega (arith, next-draws draws (draw m seat))

pub next-after : (draws : List ℕ) → (after draws).next ≡ length draws
next-after draws = omega (arith, next-draws draws opening)

-- a draw by one of the first n seats adds the next number to what these found
times-all_draw : (x n : ℕ) (m : Machine) (seat : ℕ) → times x (all_found n (draw m seat)) ≡ times x (all_found n m) + cond (nat_lt seat n) (tell (m.next == x)) 0
times-all_draw x zero m seat = (let l : nat_lt seat 0 ≡ false = grind (arith, nat_tests) in ap (λ b. 0 + cond b (tell (m.next == x)) 0) (sym l))
times-all_draw x (suc n) m seat =
    let i = times-all_draw x n m seat in
    let t = times-draw x m seat n in
    let a = times-append x (all_found n (draw m seat)) ((draw m seat).found n) in
    let b = times-append x (all_found n m) (m.found n) in
    let c = ap (times x) (last (draw m seat).found n) in
    let d = ap (times x) (last m.found n) in
    grind (arith, nat_tests)
  where
    last : (f : ℕ → List ℕ) (k : ℕ) → flat_map f (numbers_below (suc k)) ≡ flat_map f (numbers_below k) ++ f k
    last f k = flat_map-append f (numbers_below k) (k ∷ []) ∙ ap (λ l. flat_map f (numbers_below k) ++ l) (Rattle.std.proofs.Common.append-nil (f k))

each_draws : (n : ℕ) (draws : List ℕ) (m : Machine) → All (λ seat. seat < n) draws → EachBelow m.next (all_found n m) → EachBelow (fold draw m draws).next (all_found n (fold draw m draws))
each_draws n [] m seats each = each
each_draws n (seat ∷ draws) m seats each =
    let low = All-head (λ s. s < n) seat draws seats in
    each_draws n draws (draw m seat) (All-tail (λ s. s < n) seat draws seats)
    (EachBelow-next m.next (all_found n m) (all_found n (draw m seat)) each (λ x. let t = times-all_draw x n m seat in grind (arith, nat_tests)))

-- nothing was found before the first draw
none_found : (n x : ℕ) → times x (all_found n opening) ≡ 0
none_found zero x = refl
none_found (suc n) x = ap (times x) (flat_map-append opening.found (numbers_below n) (n ∷ [])) ∙ (times-append x (all_found n opening) [] ∙ (let i = none_found n x in omega arith))

pub each_found : (n : ℕ) (draws : List ℕ) → All (λ seat. seat < n) draws → EachBelow (after draws).next (all_found n (after draws))
each_found n draws seats = each_draws n draws opening seats (λ x. let e = none_found n x in grind (arith, nat_tests))

-- what a seat found stays
times-kept : (x seat : ℕ) (draws : List ℕ) (m : Machine) → times x (m.found seat) ≤ times x ((fold draw m draws).found seat)
times-kept x seat [] m = omega arith
times-kept x seat (other ∷ draws) m = let k = times-kept x seat draws (draw m other) in let t = times-draw x m other seat in omega arith

found_there : (draws : List ℕ) (m : Machine) (k seat : ℕ) → slice_get draws k ≡ Some seat → 0 < times (m.next + k) ((fold draw m draws).found seat)
found_there [] m k seat e = absurd (cc)
found_there (other ∷ draws) m zero seat e =
    let same : other ≡ seat = (cc) in
    let kept = times-kept (m.next + 0) seat draws (draw m other) in
    let t = times-draw (m.next + 0) m other seat in
    grind (arith, nat_tests)
found_there (other ∷ draws) m (suc k) seat e =
    let i = found_there draws (draw m other) k seat e in
    subst (λ x. 0 < times x ((fold draw m (other ∷ draws)).found seat)) (let s : m.next + 1 + k ≡ m.next + suc k = omega arith in s) i

pub draw_found : (draws : List ℕ) (k seat : ℕ) → slice_get draws k ≡ Some seat → 0 < times k ((after draws).found seat)
draw_found draws k seat e = subst (λ x. 0 < times x ((after draws).found seat)) (Rattle.std.proofs.Common.zero-add k) (found_there draws opening k seat e)

-- one step further on
step_on : (x : ℕ) (xs : List ℕ) (k : ℕ) → (get_or xs k 0 < get_or xs (k + 1) 0 → get_or (x ∷ xs) (suc k) 0 < get_or (x ∷ xs) (suc k + 1) 0) × (get_or (x ∷ xs) (suc k) 0 < get_or (x ∷ xs) (suc k + 1) 0 → get_or xs k 0 < get_or xs (k + 1) 0)
step_on x xs k =
    let e : suc k + 1 ≡ suc (k + 1) = omega arith in
    let same : get_or (x ∷ xs) (suc k + 1) 0 ≡ get_or xs (k + 1) 0 = ap (λ m. get_or (x ∷ xs) m 0) e in
    ((λ h. subst (λ m. get_or xs k 0 < m) (sym same) h), (λ h. subst (λ m. get_or xs k 0 < m) same h))

rises-tail : (x : ℕ) (xs : List ℕ) → IsStrictlyIncreasing (x ∷ xs) → IsStrictlyIncreasing xs
rises-tail x xs rises k l = (step_on x xs k).1 (rises (suc k) (omega arith))

rises-push : (xs : List ℕ) (n : ℕ) → IsStrictlyIncreasing xs → All (λ k. k < n) xs → IsStrictlyIncreasing (xs ++ n ∷ [])
rises-push [] n rises low k l = absurd (omega arith)
rises-push (x ∷ []) n rises low zero l = low 0 0 (omega arith)
rises-push (x ∷ []) n rises low (suc k) l = absurd (omega arith)
rises-push (x ∷ y ∷ ys) n rises low zero l = rises 0 (omega arith)
rises-push (x ∷ y ∷ ys) n rises low (suc k) l =
    (step_on x (y ∷ ys ++ n ∷ []) k).0 (rises-push (y ∷ ys) n (rises-tail x (y ∷ ys) rises) (All-tail (λ i. i < n) x (y ∷ ys) low) k (omega arith))

-- the finds of each seat rise, and are below the next number
abbrev AreInOrder : Machine → Type 0
AreInOrder m = (seat : ℕ) → IsStrictlyIncreasing (m.found seat) × All (λ k. k < m.next) (m.found seat)

order_draw : (m : Machine) (seat : ℕ) → AreInOrder m → AreInOrder (draw m seat)
order_draw m seat order other = one (other == seat)
  where
    one : (b : Bool) → IsStrictlyIncreasing (cond b (m.found other ++ m.next ∷ []) (m.found other)) × All (λ k. k < m.next + 1) (cond b (m.found other ++ m.next ∷ []) (m.found other))
    one true = (
      rises-push (m.found other) m.next (order other).0 (order other).1,
      All-push (λ k. k < m.next + 1) (m.found other) m.next (All-weaker (λ k. k < m.next) (λ k. k < m.next + 1) (λ k l. omega arith) (m.found other) (order other).1) (omega arith),
    )
    one false = ((order other).0, All-weaker (λ k. k < m.next) (λ k. k < m.next + 1) (λ k l. omega arith) (m.found other) (order other).1)

order_draws : (draws : List ℕ) (m : Machine) → AreInOrder m → AreInOrder (fold draw m draws)
order_draws [] m order = order
order_draws (seat ∷ draws) m order = order_draws draws (draw m seat) (order_draw m seat order)

pub order_after : (draws : List ℕ) → AreInOrder (after draws)
order_after draws = order_draws draws opening (λ seat. ((λ k l. absurd (omega arith)), All-nil (λ k. k < 0)))

-- where some seat found a number that is not below the limit, the limit was reached
reached : (limit : ℕ) (draws : List ℕ) (seat : ℕ) → HasMet limit ((after draws).found seat) → limit ≤ (after draws).next
reached limit draws seat met =
    let k = met.1 in
    let low : k < (after draws).next = All-contains (λ i. i < (after draws).next) ((after draws).found seat) k (order_after draws seat).1 (met.0, met.2, met.3) in
    omega (arith, met.4)

pub all_drawn : (n limit : ℕ) (draws : List ℕ) → 1 ≤ n → AllHaveMet n limit draws → EachBelow limit (below limit (all_found n (after draws)))
all_drawn n limit draws one met = EachBelow-below (after draws).next limit (all_found n (after draws)) (reached limit draws 0 (met.met 0 (omega arith))) (each_found n draws met.seats)
