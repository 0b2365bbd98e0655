-- Many steps in a row, by two settings side by side.
use Rattle.std.proofs.Common.{ℕ, zero, suc, ◌≤◌, Bool, List, [], ◌∷◌, ◌++◌, length, refl, inl}
use Rattle.std.specs.Prelude.{Ok}
use Rattle.luau_grammar.specs.declared.symbol.Symbol.TheVariants as s
use Rattle.luau_grammar.specs.Places.{Place, sees}
use Rattle.luau_grammar.specs.Reading.{Parser, and_then, refuse, repeats, repeat, another, separated_from, separated}
use Rattle.grammar_faults.specs.Fronts.{BeginFrom}
use Rattle.grammar_faults.proofs.Local.{Far, far_then, far_if}
use Rattle.wider_rules.proofs.Beside.{Pair, top, late, Stands, Rel, Beside, rel_then, rel_if, both, done}
use Rattle.wider_rules.proofs.BesideTokens.{refuses, token}

module _ (f : Pair) (lo hi : ℕ) {S : Type 0} (goes : S → Place → Bool) (one other : S → Parser S) (step : (x : S) → Beside f lo hi hi (one x) (other x)) where
  abbrev low : ℕ → S → Parser S
  low n = repeats f.low goes one n

  abbrev high : ℕ → S → Parser S
  high n = repeats f.high goes other n

  low_late : (n : ℕ) (x : S) (p : Place) → BeginFrom (late f) p.ahead → Far (late f) (low n x p)
  unfolding repeats
  low_late zero x p b = far_if (late f) (goes x p) (refuse f.low p) (Ok (x, p)) ((refuses f {A = S} {lo = lo} {hi = hi} {end = hi}).low_far p b) b
  low_late (suc n) x p b = far_if (late f) (goes x p) (and_then (one x p) (low n)) (Ok (x, p)) (far_then (late f) (low n) (one x p) ((step x).low_far p b) (λ y a. low_late n y a)) b

  high_late : (n : ℕ) (x : S) (p : Place) → BeginFrom (late f) p.ahead → Far (late f) (high n x p)
  unfolding repeats
  high_late zero x p b = far_if (late f) (goes x p) (refuse f.high p) (Ok (x, p)) ((refuses f {A = S} {lo = lo} {hi = hi} {end = hi}).high_far p b) b
  high_late (suc n) x p b = far_if (late f) (goes x p) (and_then (other x p) (high n)) (Ok (x, p)) (far_then (late f) (high n) (other x p) ((step x).high_far p b) (λ y a. high_late n y a)) b

  steps_rel : (n : ℕ) (x : S) (p : Place) → Stands f lo hi p → Rel f lo hi (low n x p) (high n x p)
  unfolding repeats
  steps_rel zero x p i =
      rel_if f lo hi (goes x p) (refuse f.low p) (Ok (x, p)) (refuse f.high p) (Ok (x, p)) (λ _. (refuses f {A = S} {lo = lo} {hi = hi} {end = hi}).alike p i) (λ _. inl (refl, i))
  steps_rel (suc n) x p i =
      rel_if f lo hi (goes x p) (and_then (one x p) (low n)) (Ok (x, p)) (and_then (other x p) (high n)) (Ok (x, p))
      (λ _. rel_then f lo hi lo hi (low n) (high n) (one x p) (other x p) ((step x).alike p i) (λ y q j. steps_rel n y q j) (λ y a. low_late n y a) (λ y a. high_late n y a))
      (λ _. inl (refl, i))

  pub steps : (x : S) → Beside f lo hi hi (repeat f.low goes one x) (repeat f.high goes other x)
  steps x = record {
    alike = λ p i. steps_rel (length p.ahead) x p i;
    low_far = λ p b. low_late (length p.ahead) x p b;
    high_far = λ p b. high_late (length p.ahead) x p b;
  }

module _ (f : Pair) {lo hi : ℕ} (floor : f.low.limit ≤ hi) (ceil : hi ≤ top f) {A : Type 0} {item other : Parser A} (h : Beside f lo hi hi item other) where
  pub one_more : (found : List A) → Beside f lo hi hi (another f.low item found) (another f.high other found)
  one_more found = both f (token f floor ceil s.Comma) (λ _. both f h (λ x. done f (found ++ x ∷ [])))

  pub listed_from : (found : List A) → Beside f lo hi hi (separated_from f.low item found) (separated_from f.high other found)
  unfolding separated_from
  listed_from found = steps f lo hi (λ _ p. sees s.Comma p) (another f.low item) (another f.high other) one_more found

  pub in_list : Beside f lo hi hi (separated f.low item) (separated f.high other)
  unfolding separated
  in_list = both f h (λ x. listed_from (x ∷ []))
