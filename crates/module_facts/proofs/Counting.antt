-- Loops that know how many items of the rest pass, and tell of each item whether one behind it does.
use Rattle.std.proofs.Common.{◌≡◌, ℕ, suc, ◌+◌, ◌-◌, ◌<◌, ◌≤◌, Bool, true, false, ◌||◌, cond, List, [], ◌∷◌, ◌++◌, length, get_or, drop, refl, sym, ap, ◌∙◌, arith, append_assoc, inl, inr}
use Rattle.std.specs.Prelude.{count_by, nat_lt}
use Rattle.std.proofs.lemmas.Bool.Decides.{leb_tells}
use Rattle.std.proofs.lemmas.List.{at_drop_all}
use Rattle.std.proofs.lemmas.List.Sums.{sum_by-cons}
use Rattle.module_facts.proofs.Loops.{rest_read}

count_first : {X : Type 0} (p : X → Bool) (x : X) (xs : List X) → count_by p (x ∷ xs) ≡ cond (p x) 1 0 + count_by p xs
count_first p x xs = sum_by-cons (λ y. cond (p y) 1 0) x xs

-- some item passes where one counts one
pub any_counted : {X : Type 0} (F : List X → Bool) (p : X → Bool) → F [] ≡ false → ((x : X) (xs : List X) → F (x ∷ xs) ≡ (p x || F xs)) → (xs : List X) → F xs ≡ nat_lt 0 (count_by p xs)
any_counted F p none step [] = none
any_counted F p none step (x ∷ xs) = step x xs ∙ by_test (p x) (any_counted F p none step xs) ∙ ap (nat_lt 0) (sym (count_first p x xs))
  where
    positive : (n : ℕ) → true ≡ nat_lt 0 (1 + n)
    positive n = elim (leb_tells 1 (1 + n)) [ inl t ↦ sym t.0 | inr t ↦ absurd (omega (arith, t.1)) ]

    by_test : (b : Bool) → F xs ≡ nat_lt 0 (count_by p xs) → (b || F xs) ≡ nat_lt 0 (cond b 1 0 + count_by p xs)
    by_test true h = positive (count_by p xs)
    by_test false h = h ∙ ap (nat_lt 0) (omega arith)

-- how many items of the rest pass, and what is told so far
pub record Counted {X : Type 0} (p : X → Bool) (L : List X → List Bool) (xs : List X) (i left : ℕ) (later : List Bool) : Type 0 where
  pub count : left ≡ count_by p (drop i xs)
  pub made : later ++ L (drop i xs) ≡ L xs

pub counted_first : {X : Type 0} (p : X → Bool) (L : List X → List Bool) (xs : List X) (left : ℕ) (later : List Bool) → left ≡ count_by p xs → later ≡ [] → Counted p L xs 0 left later
counted_first p L xs left later e n = record { count = e; made = ap (λ (bs : List Bool). bs ++ L xs) n }

-- once an item is read, so many are left
pub left_behind : {X : Type 0} (p : X → Bool) (L : List X → List Bool) (xs : List X) (i left : ℕ) (later : List Bool) (x : X) → i < length xs → x ≡ get_or xs i x → Counted p L xs i left later
    → left ≡ cond (p x) 1 0 + count_by p (drop (i + 1) xs)
left_behind p L xs i left later x lt is c = rest_read (count_by p) xs i x left lt is c.count ∙ count_first p x (drop (i + 1) xs)

pub left_yes : {X : Type 0} (p : X → Bool) (L : List X → List Bool) (xs : List X) (i left : ℕ) (later : List Bool) (x : X) (r : Bool) → i < length xs → x ≡ get_or xs i x → Counted p L xs i left later
    → r ≡ p x → r ≡ true → left ≡ 1 + count_by p (drop (i + 1) xs)
left_yes p L xs i left later x r lt is c e t = left_behind p L xs i left later x lt is c ∙ ap (λ b. cond b 1 0 + count_by p (drop (i + 1) xs)) (sym e ∙ t)

pub left_no : {X : Type 0} (p : X → Bool) (L : List X → List Bool) (xs : List X) (i left : ℕ) (later : List Bool) (x : X) (r : Bool) → i < length xs → x ≡ get_or xs i x → Counted p L xs i left later
    → r ≡ p x → r ≡ false → left ≡ count_by p (drop (i + 1) xs)
left_no p L xs i left later x r lt is c e f =
    let zero_more : left ≡ 0 + count_by p (drop (i + 1) xs) = left_behind p L xs i left later x lt is c ∙ ap (λ b. cond b 1 0 + count_by p (drop (i + 1) xs)) (sym e ∙ f) in omega arith

-- one more item is told
pub counted_more : {X : Type 0} (p : X → Bool) (L : List X → List Bool) → ((x : X) (xs : List X) → L (x ∷ xs) ≡ nat_lt 0 (count_by p xs) ∷ L xs)
    → (xs : List X) (i left now : ℕ) (later : List Bool) (x : X) (b : Bool) → i < length xs → x ≡ get_or xs i x → Counted p L xs i left later
    → now ≡ count_by p (drop (i + 1) xs) → b ≡ nat_lt 0 now → Counted p L xs (i + 1) now (later ++ b ∷ [])
counted_more p L step xs i left now later x b lt is c e t = record {
  count = e;
  made =
      append_assoc later (b ∷ []) (L (drop (i + 1) xs))
      ∙ ap (λ (d : Bool). later ++ d ∷ L (drop (i + 1) xs)) (t ∙ ap (nat_lt 0) e)
      ∙ sym (rest_read (λ ys. later ++ L ys) xs i x (L xs) lt is (sym c.made) ∙ ap (λ (bs : List Bool). later ++ bs) (step x (drop (i + 1) xs)));
}

append_nothing : (bs : List Bool) → bs ++ [] ≡ bs
append_nothing [] = refl
append_nothing (b ∷ bs) = ap (λ (cs : List Bool). b ∷ cs) (append_nothing bs)

pub counted_all : {X : Type 0} (p : X → Bool) (L : List X → List Bool) → L [] ≡ [] → (xs : List X) (i left : ℕ) (later : List Bool) → length xs ≤ i → Counted p L xs i left later → later ≡ L xs
counted_all p L none xs i left later ge c =
    sym (append_nothing later) ∙ ap (λ (bs : List Bool). later ++ bs) (sym (at_drop_all L xs i ge ∙ none)) ∙ c.made

-- the same, where a call says how many are left behind the item
pub counted_step : {X : Type 0} (p : X → Bool) (L : List X → List Bool) → ((x : X) (xs : List X) → L (x ∷ xs) ≡ nat_lt 0 (count_by p xs) ∷ L xs)
    → (xs : List X) (i left now : ℕ) (later told : List Bool) (x : X) (b : Bool) → i < length xs → x ≡ get_or xs i x → Counted p L xs i left later
    → (cond (p x) 1 0 ≤ left → left ≡ cond (p x) 1 0 + now) → b ≡ nat_lt 0 now → told ≡ later ++ b ∷ [] → Counted p L xs (i + 1) now told
counted_step p L step xs i left now later told x b lt is c says t e =
    let all : left ≡ cond (p x) 1 0 + count_by p (drop (i + 1) xs) = left_behind p L xs i left later x lt is c in
    let told_left : left ≡ cond (p x) 1 0 + now = says (omega arith) in
    let same : now ≡ count_by p (drop (i + 1) xs) = omega arith in
    let more : Counted p L xs (i + 1) now (later ++ b ∷ []) = counted_more p L step xs i left now later x b lt is c same t in
    record { count = more.count; made = ap (λ (bs : List Bool). bs ++ L (drop (i + 1) xs)) e ∙ more.made }
