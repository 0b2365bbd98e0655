-- Locals that are added to those that were collected.
use Rattle.std.proofs.Common.{◌≡◌, ℕ, ◌+◌, ◌<◌, ◌≤◌, ◌==◌, Bool, true, false, ◌||◌, List, [], ◌∷◌, ◌++◌, map, length, get_or, drop, refl, sym, ap, ◌∙◌, eq-eqb, eqb-true}
use Rattle.std.proofs.lemmas.List.{at_drop_all}
use Rattle.luau_tree.specs.declared.names.LocalId.{LocalId}
use Rattle.luau_run.specs.ReadFolder.{is_among}
use Rattle.module_facts.specs.Touched.{Adds}
use Rattle.module_facts.proofs.Loops.{or_assoc, rest_read}

abbrev numbers : List LocalId → List ℕ
numbers locals = map (λ l. l.0) locals

pub or_false : (b : Bool) → (b || false) ≡ b
or_false true = refl
or_false false = refl

pub or_swap : (a b c d : Bool) → ((a || b) || (c || d)) ≡ ((a || c) || (b || d))
or_swap true b c d = refl
or_swap false true true d = refl
or_swap false true false d = refl
or_swap false false true d = refl
or_swap false false false d = refl

pub or_rotate : (a b c : Bool) → (a || (b || c)) ≡ (b || (a || c))
or_rotate true true c = refl
or_rotate true false c = refl
or_rotate false true c = refl
or_rotate false false c = refl

pub same_swapped : (a b : ℕ) → (a == b) ≡ (b == a)
same_swapped a b = by_tests (a == b) (b == a) refl refl
  where
    by_tests : (p q : Bool) → (a == b) ≡ p → (b == a) ≡ q → p ≡ q
    by_tests true true e f = refl
    by_tests true false e f = let t : (b == a) ≡ true = eq-eqb b a (sym (eqb-true a b e)) in cc
    by_tests false true e f = let t : (a == b) ≡ true = eq-eqb a b (sym (eqb-true b a f)) in cc
    by_tests false false e f = refl

among_pushed : (n : ℕ) (xs : List LocalId) (l : LocalId) → is_among n (numbers (xs ++ l ∷ [])) ≡ (is_among n (numbers xs) || (n == l.0))
among_pushed n [] l = or_false (n == l.0)
among_pushed n (x ∷ xs) l = ap (λ b. (n == x.0) || b) (among_pushed n xs l) ∙ sym (or_assoc (n == x.0) (is_among n (numbers xs)) (n == l.0))

pub adds_none : (xs : List LocalId) → Adds (λ local. false) xs xs
adds_none xs = record { among = λ n. sym (or_false (is_among n (numbers xs))) }

pub adds_one : (xs : List LocalId) (l : LocalId) → Adds (λ local. l.0 == local) xs (xs ++ l ∷ [])
adds_one xs l = record { among = λ n. among_pushed n xs l ∙ ap (λ b. is_among n (numbers xs) || b) (same_swapped n l.0) }

pub adds_pushed : (xs ys : List LocalId) (l : LocalId) → ys ≡ xs ++ l ∷ [] → Adds (λ local. l.0 == local) xs ys
adds_pushed xs ys l e = record { among = λ n. ap (λ (zs : List LocalId). is_among n (numbers zs)) e ∙ (adds_one xs l).among n }

pub adds_both : (t u : ℕ → Bool) (xs ys zs : List LocalId) → Adds t xs ys → Adds u ys zs → Adds (λ n. t n || u n) xs zs
adds_both t u xs ys zs a b = record {
  among = λ n. b.among n ∙ ap (λ c. c || u n) (a.among n) ∙ or_assoc (is_among n (numbers xs)) (t n) (u n);
}

pub adds_same : (t u : ℕ → Bool) (xs ys : List LocalId) → ((n : ℕ) → t n ≡ u n) → Adds t xs ys → Adds u xs ys
adds_same t u xs ys e a = record { among = λ n. a.among n ∙ ap (λ c. is_among n (numbers xs) || c) (e n) }

-- the old locals and those of the whole list are the locals so far and those of the rest
pub record Rest {X : Type 0} (F : List X → ℕ → Bool) (xs : List X) (i : ℕ) (old now : List LocalId) : Type 0 where
  pub same : (n : ℕ) → (is_among n (numbers old) || F xs n) ≡ (is_among n (numbers now) || F (drop i xs) n)

pub rest_first : {X : Type 0} (F : List X → ℕ → Bool) (xs : List X) (old : List LocalId) → Rest F xs 0 old old
rest_first F xs old = record { same = λ n. refl }

pub rest_more : {X : Type 0} (F : List X → ℕ → Bool) (p : X → ℕ → Bool) → ((x : X) (xs : List X) (n : ℕ) → F (x ∷ xs) n ≡ (p x n || F xs n))
    → (xs : List X) (i : ℕ) (x : X) (old now later : List LocalId) → i < length xs → x ≡ get_or xs i x → Rest F xs i old now → Adds (p x) now later → Rest F xs (i + 1) old later
rest_more F p step xs i x old now later lt is r a = record {
  same = λ n.
      rest_read (λ ys. is_among n (numbers now) || F ys n) xs i x (is_among n (numbers old) || F xs n) lt is (r.same n)
      ∙ ap (λ b. is_among n (numbers now) || b) (step x (drop (i + 1) xs) n)
      ∙ sym (or_assoc (is_among n (numbers now)) (p x n) (F (drop (i + 1) xs) n))
      ∙ ap (λ b. b || F (drop (i + 1) xs) n) (sym (a.among n));
}

pub rest_done : {X : Type 0} (F : List X → ℕ → Bool) → ((n : ℕ) → F [] n ≡ false) → (xs : List X) (i : ℕ) (old now : List LocalId) → length xs ≤ i → Rest F xs i old now → Adds (F xs) old now
rest_done F none xs i old now ge r = record {
  among = λ n.
      sym (r.same n ∙ at_drop_all (λ ys. is_among n (numbers now) || F ys n) xs i ge ∙ ap (λ b. is_among n (numbers now) || b) (none n) ∙ or_false (is_among n (numbers now)));
}
