-- The ticket machine, draw by draw.
use Rattle.std.proofs.Common.{◌≡◌, ◌≢◌, ℕ, ◌+◌, Bool, true, false, cond, List, [], ◌∷◌, ◌++◌, map, refl, sym, ap, arith}
use Rattle.std.specs.Prelude.{◌==◌, if◌then◌else◌, fold}
use Rattle.std.proofs.lemmas.Bool.Decides.{nat_tests}
use Rattle.std.proofs.lemmas.List.Sums.{fold_push}
use Rattle.level_workers.specs.Numbers.{times}
use Rattle.level_workers.specs.Machine.{Machine, opening, draw, after}
use Rattle.level_workers.proofs.NumberLemmas.{tell, times-push}

pub after-push : (draws : List ℕ) (seat : ℕ) → after (draws ++ seat ∷ []) ≡ draw (after draws) seat
after-push draws seat = fold_push draw opening draws seat

-- what a seat found after one more draw, with each number as often
pub times-draw : (x : ℕ) (m : Machine) (seat other : ℕ) → times x ((draw m seat).found other) ≡ times x (m.found other) + cond (other == seat) (tell (m.next == x)) 0
times-draw x m seat other = one (other == seat)
  where
    one : (b : Bool) → times x (cond b (m.found other ++ m.next ∷ []) (m.found other)) ≡ times x (m.found other) + cond b (tell (m.next == x)) 0
    one true = times-push x (m.found other) m.next
    one false = omega arith

-- the draws of a seat count for another
abbrev pub counted_for : ℕ → ℕ → ℕ → ℕ
counted_for into other seat = if seat == other then into else seat

-- m' is m where what other found counts for into
pub record IsJoined (into other : ℕ) (m m' : Machine) : Type 0 where
  pub next : m'.next ≡ m.next
  pub into_found : (x : ℕ) → times x (m'.found into) ≡ times x (m.found into) + times x (m.found other)
  pub other_found : m'.found other ≡ []
  pub apart_found : (seat : ℕ) → seat ≢ into → seat ≢ other → m'.found seat ≡ m.found seat

eq_test : (a b : ℕ) → a ≡ b → (a == b) ≡ true
eq_test a b e = grind (arith, nat_tests)

ne_test : (a b : ℕ) → a ≢ b → (a == b) ≡ false
ne_test a b e = grind (arith, nat_tests)

pub IsJoined-draw : (into other : ℕ) (m m' : Machine) → into ≢ other → IsJoined into other m m' → (seat : ℕ) → IsJoined into other (draw m seat) (draw m' (counted_for into other seat))
IsJoined-draw into other m m' apart j seat = record {
  next = ap (λ k. k + 1) j.next;
  into_found = λ x. found x;
  other_found = quiet (seat == other) refl;
  apart_found = λ far f g. rest far f g (seat == other) refl;
}
  where
    found : (x : ℕ) → times x ((draw m' (counted_for into other seat)).found into) ≡ times x ((draw m seat).found into) + times x ((draw m seat).found other)
    found x =
        let a = times-draw x m' (counted_for into other seat) into in
        let b = times-draw x m seat into in
        let c = times-draw x m seat other in
        let i = j.into_found x in
        let n = j.next in
        grind (arith, nat_tests)

    quiet : (b : Bool) → (seat == other) ≡ b → cond (other == cond b into seat) (m'.found other ++ m'.next ∷ []) (m'.found other) ≡ []
    quiet true e = rw (ne_test other into (λ s. apart (sym s))) j.other_found
    quiet false e = let ne : other ≢ seat = grind (arith, nat_tests) in rw (ne_test other seat ne) j.other_found

    rest : (far : ℕ) → far ≢ into → far ≢ other → (b : Bool) → (seat == other) ≡ b
        → cond (far == cond b into seat) (m'.found far ++ m'.next ∷ []) (m'.found far) ≡ cond (far == seat) (m.found far ++ m.next ∷ []) (m.found far)
    rest far f g true e =
        let ne : far ≢ seat = grind (arith, nat_tests) in
        rw (ne_test far into f, ne_test far seat ne) (j.apart_found far f g)
    rest far f g false e = rw (j.apart_found far f g, j.next) refl

pub IsJoined-draws : (into other : ℕ) → into ≢ other → (draws : List ℕ) (m m' : Machine) → IsJoined into other m m' → IsJoined into other (fold draw m draws) (fold draw m' (map (counted_for into other) draws))
IsJoined-draws into other apart [] m m' j = j
IsJoined-draws into other apart (seat ∷ draws) m m' j = IsJoined-draws into other apart draws (draw m seat) (draw m' (counted_for into other seat)) (IsJoined-draw into other m m' apart j seat)

pub IsJoined-after : (into other : ℕ) → into ≢ other → (draws : List ℕ) → IsJoined into other (after draws) (after (map (counted_for into other) draws))
IsJoined-after into other apart draws = IsJoined-draws into other apart draws opening opening record { next = refl; into_found = λ x. refl; other_found = refl; apart_found = λ seat f g. refl }
