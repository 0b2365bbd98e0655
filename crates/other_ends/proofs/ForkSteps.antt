-- Many steps in a row depend on what they take.
use Rattle.std.proofs.Common.{◌≡◌, ℕ, zero, suc, ◌+◌, ◌≤◌, Bool, List, [], ◌∷◌, ◌++◌, length, refl, ap, subst, inl, arith, length-append}
use Rattle.std.specs.Prelude.{Ok, Err}
use Rattle.luau_grammar.specs.declared.symbol.Symbol.TheVariants as s
use Rattle.luau_grammar.specs.Places.{Place, sees}
use Rattle.luau_grammar.specs.Reading.{Setting, Parser, Outcome, and_then, refuse, repeats, repeat, another, separated_from, separated}
use Rattle.grammar_faults.specs.Fronts.{BeginFrom}
use Rattle.other_ends.proofs.Fork.{Fork, SamePlace, Near, Far, Shorter, Forked, Peeks, near_then, near_if, far_then, far_if, shorter_then, shorter_if, both, least, done, peeks_sees}
use Rattle.other_ends.proofs.ForkTokens.{refuses, token}

-- a step that took a token left fewer
pub taken_of : {A : Type 0} (k n : ℕ) (p q : Place) (x : A) (o : Outcome A) → o ≡ Ok (x, q) → Shorter k p o → length p.ahead ≤ n + k → length q.ahead ≤ n
taken_of k n p q x o e h l =
    let t : length q.ahead + k ≤ length p.ahead = subst (Shorter k p) e h in
    omega arith

some_ahead : (w : Fork) (p q : Place) → SamePlace w p q → length p.ahead ≤ 0 → ⊥
some_ahead w p q i l =
    let e : length p.ahead ≡ length (i.between ++ w.token ∷ w.one) = ap length i.one in
    let d : length (i.between ++ w.token ∷ w.one) ≡ length i.between + length (w.token ∷ w.one) = length-append i.between (w.token ∷ w.one) in
    absurd (omega arith)

other_ahead : (w : Fork) (p q : Place) → SamePlace w p q → length q.ahead ≤ 0 → ⊥
other_ahead w p q i l =
    let e : length q.ahead ≡ length (i.between ++ w.token ∷ w.other) = ap length i.other in
    let d : length (i.between ++ w.token ∷ w.other) ≡ length i.between + length (w.token ∷ w.other) = length-append i.between (w.token ∷ w.other) in
    absurd (omega arith)

pub weaker : {S : Type 0} (p : Place) (o : Outcome S) → Shorter 1 p o → Shorter 0 p o
weaker p (Ok x) h = omega arith
weaker p (Err e) h = tt

module _ (set : Setting) (w : Fork) {S : Type 0} (goes : S → Place → Bool) (step : S → Parser S) where
  abbrev again : ℕ → S → Parser S
  again n = repeats set goes step n

  pub steps_far : ((x : S) → Forked w 1 (step x)) → (m : ℕ) (x : S) (b : ℕ) (p : Place) → BeginFrom b p.ahead → Far b (again m x p)
  unfolding repeats
  steps_far h zero x b p l = far_if b (goes x p) (refuse set p) (Ok (x, p)) ((refuses set {w = w} {A = S} 0).one b p l) l
  steps_far h (suc m) x b p l =
      far_if b (goes x p) (and_then (step x p) (again m)) (Ok (x, p)) (far_then b (again m) (step x p) ((h x).one b p l) (λ y a. steps_far h m y b a)) l

  steps_near : ((x : S) → Peeks w (goes x)) → ((x : S) → Forked w 1 (step x))
      → (m n : ℕ) (x : S) (p q : Place) → length p.ahead ≤ m → length q.ahead ≤ n → SamePlace w p q → Near w (again m x p) (again n x q)
  unfolding repeats
  steps_near t h zero n x p q l k i = absurd (some_ahead w p q i l)
  steps_near t h (suc m) zero x p q l k i = absurd (other_ahead w p q i k)
  steps_near t h (suc m) (suc n) x p q l k i =
      near_if w (goes x p) (goes x q) (and_then (step x p) (again m)) (and_then (step x q) (again n)) (Ok (x, p)) (Ok (x, q)) (t x p q i)
      (λ _. near_then w (again m) (again n) (step x p) (step x q) ((h x).near p q i)
      (λ y a b d e j. steps_near t h m n y a b
      (taken_of 1 m p a y (step x p) d ((h x).takes p) (omega arith))
      (taken_of 1 n q b y (step x q) e ((h x).takes q) (omega arith)) j)
      (λ y b a. steps_far h m y b a) (λ y b a. steps_far h n y b a))
      (λ _. inl (refl, i))

  steps_takes : ((x : S) → Forked w 1 (step x)) → (m : ℕ) (x : S) (p : Place) → Shorter 0 p (again m x p)
  unfolding repeats
  steps_takes h zero x p = shorter_if 0 p (goes x p) (refuse set p) (Ok (x, p)) tt (omega arith)
  steps_takes h (suc m) x p =
      shorter_if 0 p (goes x p) (and_then (step x p) (again m)) (Ok (x, p))
      (shorter_then 0 0 p (again m) (step x p) (weaker p (step x p) ((h x).takes p)) (λ y a. steps_takes h m y a)) (omega arith)

module _ (set : Setting) {w : Fork} {S : Type 0} (goes : S → Place → Bool) (step : S → Parser S) where
  pub steps : ((x : S) → Peeks w (goes x)) → ((x : S) → Forked w 1 (step x)) → (x : S) → Forked w 0 (repeat set goes step x)
  steps t h x = record {
    near = λ p q i. steps_near set w goes step t h (length p.ahead) (length q.ahead) x p q (omega arith) (omega arith) i;
    one = λ b p l. steps_far set w goes step h (length p.ahead) x b p l;
    takes = λ p. steps_takes set w goes step h (length p.ahead) x p;
  }

module _ (set : Setting) {w : Fork} {A : Type 0} {item : Parser A} (h : Forked w 1 item) where
  pub one_more : (found : List A) → Forked w 1 (another set item found)
  one_more found = least 1 refl (both (token set s.Comma) (λ _. both h (λ x. done (found ++ x ∷ []))))

  pub listed_from : (found : List A) → Forked w 0 (separated_from set item found)
  unfolding separated_from
  listed_from found = steps set (λ _ p. sees s.Comma p) (another set item) (λ _. peeks_sees s.Comma) one_more found

  pub in_list : Forked w 1 (separated set item)
  unfolding separated
  in_list = least 1 refl (both h (λ x. listed_from (x ∷ [])))
