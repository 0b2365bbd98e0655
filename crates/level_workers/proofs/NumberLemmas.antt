-- How often numbers stand in lists.
use Rattle.std.proofs.Common.{◌≡◌, ℕ, zero, suc, ◌+◌, ◌-◌, ◌<◌, ◌≤◌, Bool, true, false, not, cond, List, [], ◌∷◌, ◌++◌, length, refl, ap, ◌∙◌, get_or, arith}
use Rattle.std.specs.Prelude.{◌==◌, nat_lt, nat_le, count_by, filter}
use Rattle.std.proofs.lemmas.Bool.Decides.{nat_tests}
use Rattle.std.proofs.lemmas.List.Sums.{sum_by-cons, sum_by-append, length-filter}
use Rattle.level_workers.specs.Numbers.{times, EachBelow, numbers_below, below, past}

-- 1 where the test holds, and else 0
abbrev pub tell : Bool → ℕ
tell b = cond b 1 0

pub count_by-cons : {A : Type 0} (p : A → Bool) (x : A) (xs : List A) → count_by p (x ∷ xs) ≡ tell (p x) + count_by p xs
count_by-cons p x xs = sum_by-cons (λ y. tell (p y)) x xs

pub count_by-append : {A : Type 0} (p : A → Bool) (xs ys : List A) → count_by p (xs ++ ys) ≡ count_by p xs + count_by p ys
count_by-append p xs ys = sum_by-append (λ y. tell (p y)) xs ys

pub times-cons : (x y : ℕ) (ys : List ℕ) → times x (y ∷ ys) ≡ tell (y == x) + times x ys
times-cons x y ys = count_by-cons (λ z. z == x) y ys

pub times-append : (x : ℕ) (xs ys : List ℕ) → times x (xs ++ ys) ≡ times x xs + times x ys
times-append x xs ys = count_by-append (λ z. z == x) xs ys

pub times-push : (x : ℕ) (xs : List ℕ) (n : ℕ) → times x (xs ++ n ∷ []) ≡ times x xs + tell (n == x)
times-push x xs n = omega (arith, times-append x xs (n ∷ []), times-cons x n [])

-- one more number, the next
pub EachBelow-next : (n : ℕ) (xs ys : List ℕ) → EachBelow n xs → ((x : ℕ) → times x ys ≡ times x xs + tell (n == x)) → EachBelow (n + 1) ys
EachBelow-next n xs ys each more x = one (times x ys) (times x xs) (more x) (each x)
  where
    one : (a b : ℕ) → a ≡ b + tell (n == x) → b ≡ tell (nat_lt x n) → a ≡ tell (nat_lt x (n + 1))
    one a b e k = grind (arith, nat_tests)

pub EachBelow-same : (n : ℕ) (xs ys : List ℕ) → EachBelow n xs → ((x : ℕ) → times x ys ≡ times x xs) → EachBelow n ys
EachBelow-same n xs ys each same x = same x ∙ each x

nothing : (b : Bool) → ◌≡◌ {A = ℕ} 0 (cond b 0 0)
nothing true = refl
nothing false = refl

-- those below the limit, each as often
pub times-below : (limit x : ℕ) (xs : List ℕ) → times x (below limit xs) ≡ cond (nat_lt x limit) (times x xs) 0
times-below limit x [] = nothing (nat_lt x limit)
times-below limit x (y ∷ ys) = one (nat_lt y limit) refl (times-below limit x ys)
  where
    one : (b : Bool) → nat_lt y limit ≡ b → times x (below limit ys) ≡ cond (nat_lt x limit) (times x ys) 0 → times x (cond b (y ∷ below limit ys) (below limit ys)) ≡ cond (nat_lt x limit) (times x (y ∷ ys)) 0
    one true e i = let t = times-cons x y (below limit ys) in let u = times-cons x y ys in grind (arith, nat_tests)
    one false e i = let u = times-cons x y ys in grind (arith, nat_tests)

pub EachBelow-below : (n limit : ℕ) (xs : List ℕ) → limit ≤ n → EachBelow n xs → EachBelow limit (below limit xs)
EachBelow-below n limit xs le each x = let t = times-below limit x xs in let e = each x in one (times x (below limit xs)) (times x xs) t e
  where
    one : (a b : ℕ) → a ≡ cond (nat_lt x limit) b 0 → b ≡ tell (nat_lt x n) → a ≡ tell (nat_lt x limit)
    one a b e k = grind (arith, nat_tests)

-- without one number
abbrev pub without : ℕ → List ℕ → List ℕ
without n xs = filter (λ y. not (y == n)) xs

times-without : (n x : ℕ) (xs : List ℕ) → times x (without n xs) ≡ cond (n == x) 0 (times x xs)
times-without n x [] = nothing (n == x)
times-without n x (y ∷ ys) = one (y == n) refl (times-without n x ys)
  where
    one : (b : Bool) → (y == n) ≡ b → times x (without n ys) ≡ cond (n == x) 0 (times x ys) → times x (cond (not b) (y ∷ without n ys) (without n ys)) ≡ cond (n == x) 0 (times x (y ∷ ys))
    one true e i = let u = times-cons x y ys in grind (arith, nat_tests)
    one false e i = let t = times-cons x y (without n ys) in let u = times-cons x y ys in grind (arith, nat_tests)

count_by-without : (p : ℕ → Bool) (n : ℕ) (xs : List ℕ) → count_by p xs ≡ count_by p (without n xs) + cond (p n) (times n xs) 0
count_by-without p n [] = none (p n)
  where
    none : (b : Bool) → ◌≡◌ {A = ℕ} 0 (0 + cond b 0 0)
    none true = refl
    none false = refl
count_by-without p n (y ∷ ys) = one (y == n) refl (count_by-without p n ys)
  where
    one : (b : Bool) → (y == n) ≡ b → count_by p ys ≡ count_by p (without n ys) + cond (p n) (times n ys) 0 → count_by p (y ∷ ys) ≡ count_by p (cond (not b) (y ∷ without n ys) (without n ys)) + cond (p n) (times n (y ∷ ys)) 0
    one true e i =
        let u = times-cons n y ys in
        let k = count_by-cons p y ys in
        let same : y ≡ n = grind (arith, nat_tests) in
        let at : p y ≡ p n = ap p same in
        grind (arith, nat_tests)
    one false e i =
        let u = times-cons n y ys in
        let k = count_by-cons p y ys in
        let t = count_by-cons p y (without n ys) in
        grind (arith, nat_tests)

none_below_zero : (xs : List ℕ) → EachBelow 0 xs → xs ≡ []
none_below_zero [] each = refl
none_below_zero (y ∷ ys) each = let e = each y in let t = times-cons y y ys in absurd (grind (arith, nat_tests))

-- of a list that has each number below n once, as many pass a test as of these numbers
pub count_by-EachBelow : (p : ℕ → Bool) (n : ℕ) (xs : List ℕ) → EachBelow n xs → count_by p xs ≡ count_by p (numbers_below n)
count_by-EachBelow p zero xs each = ap (count_by p) (none_below_zero xs each)
count_by-EachBelow p (suc n) xs each =
    let rest : EachBelow n (without n xs) = λ x. less x in
    let i = count_by-EachBelow p n (without n xs) rest in
    let c = count_by-without p n xs in
    let a = count_by-append p (numbers_below n) (n ∷ []) in
    let o = count_by-cons p n [] in
    let here : times n xs ≡ 1 = (let e = each n in grind (arith, nat_tests)) in
    last (count_by p xs) (count_by p (without n xs)) (count_by p (numbers_below n)) (count_by p (numbers_below n ++ n ∷ [])) (count_by p (n ∷ [])) (p n) (times n xs) c i a o here
  where
    less : (x : ℕ) → times x (without n xs) ≡ tell (nat_lt x n)
    less x = let t = times-without n x xs in let e = each x in grind (arith, nat_tests)

    last : (a b c d e : ℕ) (q : Bool) (k : ℕ) → a ≡ b + cond q k 0 → b ≡ c → d ≡ c + e → e ≡ tell q + 0 → k ≡ 1 → a ≡ d
    last a b c d e true k h i j l m = omega arith
    last a b c d e false k h i j l m = omega arith

count_by-past : (limit n : ℕ) → count_by (λ x. nat_le limit x) (numbers_below n) ≡ n - limit
count_by-past limit zero = omega arith
count_by-past limit (suc n) =
    let i = count_by-past limit n in
    let a = count_by-append (λ x. nat_le limit x) (numbers_below n) (n ∷ []) in
    let o = count_by-cons (λ x. nat_le limit x) n [] in
    grind (arith, nat_tests)

pub length-past : (limit n : ℕ) (xs : List ℕ) → EachBelow n xs → length (past limit xs) ≡ n - limit
length-past limit n xs each = length-filter (λ x. nat_le limit x) xs ∙ count_by-EachBelow (λ x. nat_le limit x) n xs each ∙ count_by-past limit n

pub length-past-append : (limit : ℕ) (xs ys : List ℕ) → length (past limit (xs ++ ys)) ≡ length (past limit xs) + length (past limit ys)
length-past-append limit xs ys =
    let p = λ (x : ℕ). nat_le limit x in
    omega (arith, length-filter p (xs ++ ys), length-filter p xs, length-filter p ys, count_by-append p xs ys)

-- what stands in a list stands there at least once
pub times-at : (xs : List ℕ) (k d : ℕ) → k < length xs → 0 < times (get_or xs k d) xs
times-at [] k d l = absurd (omega arith)
times-at (x ∷ xs) zero d l = let t = times-cons x x xs in grind (arith, nat_tests)
times-at (x ∷ xs) (suc k) d l = omega (arith, times-cons (get_or xs k d) x xs, times-at xs k d (omega arith))
