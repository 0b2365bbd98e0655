-- Outputs by their numbers are the plain list.
use Rattle.std.proofs.Common.{◌≡◌, ℕ, zero, suc, ◌+◌, ◌<◌, ◌≤◌, Bool, true, false, cond, ◌&&◌, ◌⊎◌, inl, inr, ⊎_elim, List, [], ◌∷◌, ◌++◌, map, length, get_or, Option, Some, refl, sym, ap, ◌∙◌, subst, arith, zero-add}
use Rattle.std.specs.Prelude.{◌==◌, sum_by, count_by, nat_lt, nat_le, slice_get, find}
use Rattle.std.specs.List.{filter_map, cons_option}
use Rattle.std.specs.Option.{option_map}
use Rattle.std.proofs.lemmas.Bool.Decides.{nat_tests}
use Rattle.std.proofs.lemmas.List.{length-map, get_or-map, length_push}
use Rattle.std.proofs.lemmas.List.Sums.{sum_by-cons}
use Rattle.std.proofs.lemmas.List.Sorted.{All-permutation, sum_by-IsPermutation}
use Rattle.std.proofs.lemmas.List.Elements.{All-head, All-tail, filter_map-append}
use Rattle.level_workers.specs.Numbers.{times, EachBelow, numbers_below}
use Rattle.level_workers.specs.Outputs.{IsPlainList, numbers_of, AllGiven, output_of, placed, InOrder}
use Rattle.level_workers.proofs.NumberLemmas.{tell, times-cons, count_by-cons, count_by-append, count_by-EachBelow}

times-somewhere : (x : ℕ) (xs : List ℕ) → 0 < times x xs → (k : ℕ) × (k < length xs) × (get_or xs k 0 ≡ x)
times-somewhere x [] some = absurd (omega arith)
times-somewhere x (y ∷ ys) some = one (y == x) refl (times-cons x y ys) (λ more. times-somewhere x ys more)
  where
    one : (b : Bool) → (y == x) ≡ b → times x (y ∷ ys) ≡ tell (y == x) + times x ys → (0 < times x ys → (k : ℕ) × (k < length ys) × (get_or ys k 0 ≡ x)) → (k : ℕ) × (k < length (y ∷ ys)) × (get_or (y ∷ ys) k 0 ≡ x)
    one true e t rest = (0, omega arith, grind (arith, nat_tests))
    one false e t rest =
        let more : 0 < times x ys = grind (arith, nat_tests) in
        let r = rest more in
        (suc r.0, omega arith, r.2)

-- numbers that do not fall, and are those from a on and below n, each once, are in their places
rising_at : (a n : ℕ) (xs : List ℕ) → ((x : ℕ) → times x xs ≡ tell (nat_le a x && nat_lt x n)) → ((i j : ℕ) → i ≤ j → j < length xs → get_or xs i 0 ≤ get_or xs j 0) → (k : ℕ) → k < length xs → get_or xs k 0 ≡ a + k
rising_at a n [] each rising k l = absurd (omega arith)
rising_at a n (y ∷ ys) each rising k l = go k l (λ rest k' l'. rising_at (a + 1) n ys rest (λ i j le lt. rising (suc i) (suc j) (omega arith) (omega arith)) k' l')
  where
    from_y : (a ≤ y) × (y < n)
    from_y = let t = times-cons y y ys in let e = each y in (grind (arith, nat_tests), grind (arith, nat_tests))

    first : y ≡ a
    first =
        let e = each a in
        let some : 0 < times a (y ∷ ys) = (let f = from_y in grind (arith, nat_tests)) in
        let at = times-somewhere a (y ∷ ys) some in
        let le = rising 0 at.0 (omega arith) at.1 in
        let f = from_y in
        omega arith

    rest_each : (x : ℕ) → times x ys ≡ tell (nat_le (a + 1) x && nat_lt x n)
    rest_each x = let t = times-cons x y ys in let e = each x in let f = first in let r = from_y in grind (arith, nat_tests)

    go : (i : ℕ) → i < length (y ∷ ys) → (((x : ℕ) → times x ys ≡ tell (nat_le (a + 1) x && nat_lt x n)) → (k' : ℕ) → k' < length ys → get_or ys k' 0 ≡ a + 1 + k') → get_or (y ∷ ys) i 0 ≡ a + i
    go zero l' ih = let f = first in omega arith
    go (suc i) l' ih = let f = ih rest_each i (omega arith) in omega arith

length-EachBelow : (n : ℕ) (xs : List ℕ) → EachBelow n xs → length xs ≡ n
length-EachBelow n xs each = sym (all xs) ∙ count_by-EachBelow (λ _. true) n xs each ∙ below_n n
  where
    all : (ys : List ℕ) → count_by (λ _. true) ys ≡ length ys
    all [] = refl
    all (y ∷ ys) = omega (arith, count_by-cons (λ _. true) y ys, all ys)

    below_n : (m : ℕ) → count_by (λ _. true) (numbers_below m) ≡ m
    below_n zero = refl
    below_n (suc m) = omega (arith, count_by-append (λ _. true) (numbers_below m) (m ∷ []), count_by-cons (λ _. true) m [], below_n m)

module _ {A : Type 0} where
  some_element : (xs : List A) (j : ℕ) → j < length xs → A
  some_element [] j l = absurd (omega arith)
  some_element (x ∷ xs) j l = x

  get_push : (xs : List A) (y : A) (k : ℕ) (x : A) → slice_get (xs ++ y ∷ []) k ≡ Some x → (slice_get xs k ≡ Some x) ⊎ ((k ≡ length xs) × (y ≡ x))
  get_push [] y zero x e = inr (refl, (cc))
  get_push [] y (suc k) x e = absurd (cc)
  get_push (z ∷ xs) y zero x e = inl e
  get_push (z ∷ xs) y (suc k) x e = ⊎_elim (λ t. inl t) (λ (t : (k ≡ length xs) × (y ≡ x)). inr (ap suc t.0, t.1)) (get_push xs y k x e)

module _ {A : Type 0} where
  -- how often a number stands beside outputs, as a sum over these
  abbrev beside : ℕ → List (ℕ × A) → ℕ
  beside x outputs = sum_by (λ (o : ℕ × A). tell (o.0 == x)) outputs

  times-beside : (x : ℕ) (outputs : List (ℕ × A)) → times x (numbers_of outputs) ≡ beside x outputs
  times-beside x [] = refl
  times-beside x (o ∷ outputs) = omega (arith, times-cons x o.0 (numbers_of outputs), sum_by-cons (λ (p : ℕ × A). tell (p.0 == x)) o outputs, times-beside x outputs)

  output_at : (outputs : List (ℕ × A)) (k : ℕ) (x : A) → slice_get (map (λ (o : ℕ × A). o.1) outputs) k ≡ Some x → (k < length outputs) × (((get_or outputs k (0, x)).1) ≡ x)
  output_at [] k x e = absurd (cc)
  output_at (o ∷ outputs) zero x e = (omega arith, (cc))
  output_at (o ∷ outputs) (suc k) x e = let r = output_at outputs k x e in (omega arith, r.1)

  module _ (gives : ℕ → A → Type 0) (n : ℕ) where
    pub InOrder-plain : (outputs : List (ℕ × A)) (xs : List A) → EachBelow n (numbers_of outputs) → AllGiven gives outputs → InOrder outputs xs → IsPlainList gives n xs
    InOrder-plain outputs xs each given order = record {
      len = ap length order.outputs_are ∙ length-map ys (λ (o : ℕ × A). o.1) ∙ sym (length-map ys (λ (o : ℕ × A). o.0)) ∙ length-EachBelow n (numbers_of ys) each';
      each = λ k x e. place k x (subst (λ l. slice_get l k ≡ Some x) order.outputs_are e);
    }
      where
        ys : List (ℕ × A)
        ys = order.sorted

        each' : EachBelow n (numbers_of order.sorted)
        each' x = times-beside x order.sorted ∙ sum_by-IsPermutation (λ (o : ℕ × A). tell (o.0 == x)) outputs order.sorted order.moved ∙ sym (times-beside x outputs) ∙ each x

        rising : (i j : ℕ) → i ≤ j → j < length (numbers_of order.sorted) → get_or (numbers_of order.sorted) i 0 ≤ get_or (numbers_of order.sorted) j 0
        rising i j le lt =
            let short : j < length order.sorted = omega (arith, length-map order.sorted (λ (o : ℕ × A). o.0)) in
            let d : ℕ × A = some_element order.sorted j short in
            let at_i = get_or-map (λ (o : ℕ × A). o.0) order.sorted i d 0 (omega arith) in
            let at_j = get_or-map (λ (o : ℕ × A). o.0) order.sorted j d 0 short in
            omega (arith, order.rising i j d le short)

        from_zero : (x : ℕ) → times x (numbers_of order.sorted) ≡ tell (nat_le 0 x && nat_lt x n)
        from_zero x = let e = each' x in grind (arith, nat_tests)

        place : (k : ℕ) (x : A) → slice_get (map (λ (o : ℕ × A). o.1) order.sorted) k ≡ Some x → gives k x
        place k x e =
            let at = output_at order.sorted k x e in
            let d : ℕ × A = (0, x) in
            let given' = All-permutation (λ (o : ℕ × A). gives o.0 o.1) outputs order.sorted order.moved given in
            let number : (get_or order.sorted k d).0 ≡ k =
            sym (get_or-map (λ (o : ℕ × A). o.0) order.sorted k d 0 at.0)
            ∙ (rising_at 0 n (numbers_of order.sorted) from_zero rising k (omega (arith, at.0, length-map order.sorted (λ (o : ℕ × A). o.0))) ∙ zero-add k) in
            subst (λ m. gives m x) number (subst (λ y. gives (get_or order.sorted k d).0 y) at.1 (given' k d at.0))

    plain_push : (m : ℕ) (xs : List A) (y : A) → IsPlainList gives m xs → gives m y → IsPlainList gives (suc m) (xs ++ y ∷ [])
    plain_push m xs y plain given = record {
      len = omega (arith, length_push xs y, plain.len);
      each = λ k x e. ⊎_elim
          (λ (old : slice_get xs k ≡ Some x). plain.each k x old)
          (λ (new : (k ≡ length xs) × (y ≡ x)). subst (λ z. gives k z) new.1 (subst (λ j. gives j y) (sym (new.0 ∙ plain.len)) given))
          (get_push xs y k x e);
    }

    found : (outputs : List (ℕ × A)) (k : ℕ) → 0 < times k (numbers_of outputs) → AllGiven gives outputs → (x : A) × (output_of outputs k ≡ Some x) × gives k x
    found [] k some given = absurd (omega arith)
    found (o ∷ outputs) k some given =
        one (o.0 == k) refl (times-cons k o.0 (numbers_of outputs)) (λ more. found outputs k more (All-tail (λ (p : ℕ × A). gives p.0 p.1) o outputs given))
      where
        one : (b : Bool) → (o.0 == k) ≡ b → times k (numbers_of (o ∷ outputs)) ≡ tell (o.0 == k) + times k (numbers_of outputs)
            → (0 < times k (numbers_of outputs) → (x : A) × (output_of outputs k ≡ Some x) × gives k x)
            → (x : A) × (option_map (λ (p : ℕ × A). p.1) (cond b (Some o) (find (λ (p : ℕ × A). p.0 == k) outputs)) ≡ Some x) × gives k x
        one true e t rest =
            let same : o.0 ≡ k = grind (arith, nat_tests) in
            (o.1, refl, subst (λ j. gives j o.1) same (All-head (λ (p : ℕ × A). gives p.0 p.1) o outputs given))
        one false e t rest = rest (grind (arith, nat_tests))

    -- a list that is made number by number
    filled : (h : ℕ → Option A) (m : ℕ) → ((k : ℕ) → k < m → (x : A) × (h k ≡ Some x) × gives k x) → IsPlainList gives m (filter_map h (numbers_below m))
    filled h zero has = record { len = refl; each = λ k x e. absurd (cc) }
    filled h (suc m) has =
        let last = has m (omega arith) in
        let rest = filled h m (λ k lt. has k (omega arith)) in
        let made : filter_map h (numbers_below m) ++ last.0 ∷ [] ≡ filter_map h (numbers_below (suc m)) =
        ap (λ o. filter_map h (numbers_below m) ++ cons_option o []) (sym last.1) ∙ sym (filter_map-append h (numbers_below m) (m ∷ [])) in
        subst (IsPlainList gives (suc m)) made (plain_push m (filter_map h (numbers_below m)) last.0 rest last.2)

    pub placed_plain : (outputs : List (ℕ × A)) → EachBelow n (numbers_of outputs) → AllGiven gives outputs → IsPlainList gives n (placed n outputs)
    placed_plain outputs each given = filled (output_of outputs) n (λ k lt. found outputs k (let e = each k in grind (arith, nat_tests)) given)
