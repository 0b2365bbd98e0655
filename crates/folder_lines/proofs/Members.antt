-- What is in a list, in its values under a function, and in what a test keeps of it.
use Rattle.std.proofs.Common.{◌≡◌, zero, suc, Bool, true, false, if◌then◌else◌, ◌⊎◌, inl, inr, List, [], ◌∷◌, ◌++◌, map, filter, refl, ap, sym, ◌∙◌, arith, Contains}

-- an element is the first one or one behind it
pub first_or_later : {X : Type 0} (y : X) (ys : List X) (x : X) → Contains (y ∷ ys) x → (y ≡ x) ⊎ Contains ys x
first_or_later y ys x (zero, l, e) = inl e
first_or_later y ys x (suc k, l, e) = inr (k, omega (arith, l), e)

pub first : {X : Type 0} (y : X) (ys : List X) (x : X) → y ≡ x → Contains (y ∷ ys) x
first y ys x e = (zero, omega arith, e)

pub later : {X : Type 0} (y : X) (ys : List X) (x : X) → Contains ys x → Contains (y ∷ ys) x
later y ys x c = (suc c.0, omega (arith, c.1), c.2)

pub none_there : {X : Type 0} (x : X) → Contains [] x → ⊥
none_there x c = absurd (omega (arith, c.1))

-- an element of two lists is in one of them
pub in_either : {X : Type 0} (xs ys : List X) (x : X) → Contains (xs ++ ys) x → Contains xs x ⊎ Contains ys x
in_either [] ys x c = inr c
in_either (y ∷ xs) ys x c = by_place (first_or_later y (xs ++ ys) x c) (λ k. in_either xs ys x k)
  where
    by_rest : Contains xs x ⊎ Contains ys x → Contains (y ∷ xs) x ⊎ Contains ys x
    by_rest (inl k) = inl (later y xs x k)
    by_rest (inr k) = inr k

    by_place : (y ≡ x) ⊎ Contains (xs ++ ys) x → (Contains (xs ++ ys) x → Contains xs x ⊎ Contains ys x) → Contains (y ∷ xs) x ⊎ Contains ys x
    by_place (inl e) again = inl (first y xs x e)
    by_place (inr k) again = by_rest (again k)

-- the value of an element is among the values
pub among_values : {X Y : Type 0} (f : X → Y) (xs : List X) (x : X) → Contains xs x → Contains (map f xs) (f x)
among_values f [] x c = absurd (none_there x c)
among_values f (y ∷ xs) x c = by_place (first_or_later y xs x c) (λ k. among_values f xs x k)
  where
    by_place : (y ≡ x) ⊎ Contains xs x → (Contains xs x → Contains (map f xs) (f x)) → Contains (f y ∷ map f xs) (f x)
    by_place (inl e) again = first (f y) (map f xs) (f x) (ap f e)
    by_place (inr k) again = later (f y) (map f xs) (f x) (again k)

-- each value is that of an element
pub value_of_one : {X Y : Type 0} (f : X → Y) (xs : List X) (v : Y) → Contains (map f xs) v → (x : X) × Contains xs x × (f x ≡ v)
value_of_one f [] v c = absurd (none_there v c)
value_of_one f (y ∷ xs) v c = by_place (first_or_later (f y) (map f xs) v c) (λ k. value_of_one f xs v k)
  where
    by_place : (f y ≡ v) ⊎ Contains (map f xs) v → (Contains (map f xs) v → (x : _) × Contains xs x × (f x ≡ v)) → (x : _) × Contains (y ∷ xs) x × (f x ≡ v)
    by_place (inl e) again = (y, first y xs y refl, e)
    by_place (inr k) again = let found = again k in (found.0, later y xs found.0 found.1, found.2)

-- an element that passes the test is kept
pub kept : {X : Type 0} (p : X → Bool) (xs : List X) (x : X) → Contains xs x → p x ≡ true → Contains (filter p xs) x
kept p [] x c e = absurd (none_there x c)
kept p (y ∷ xs) x c e = by_place (first_or_later y xs x c) (λ k. kept p xs x k e)
  where
    by_test : (b : Bool) → p y ≡ b → Contains (filter p xs) x → Contains (if b then y ∷ filter p xs else filter p xs) x
    by_test true t k = later y (filter p xs) x k
    by_test false t k = k

    by_first : (b : Bool) → b ≡ true → y ≡ x → Contains (if b then y ∷ filter p xs else filter p xs) x
    by_first true t same = first y (filter p xs) x same
    by_first false t same = cc

    by_place : (y ≡ x) ⊎ Contains xs x → (Contains xs x → Contains (filter p xs) x) → Contains (filter p (y ∷ xs)) x
    by_place (inl same) again = by_first (p y) (ap p same ∙ e) same
    by_place (inr k) again = by_test (p y) refl (again k)

-- what is kept is an element that passes the test
pub passes : {X : Type 0} (p : X → Bool) (xs : List X) (x : X) → Contains (filter p xs) x → Contains xs x × (p x ≡ true)
passes p [] x c = absurd (none_there x c)
passes p (y ∷ xs) x c = by_test (p y) refl (λ k. passes p xs x k) c
  where
    by_place : p y ≡ true → (y ≡ x) ⊎ Contains (filter p xs) x → (Contains (filter p xs) x → Contains xs x × (p x ≡ true)) → Contains (y ∷ xs) x × (p x ≡ true)
    by_place t (inl same) again = (first y xs x same, sym (ap p same) ∙ t)
    by_place t (inr k) again = (later y xs x (again k).0, (again k).1)

    by_test : (b : Bool) → p y ≡ b → (Contains (filter p xs) x → Contains xs x × (p x ≡ true)) → Contains (if b then y ∷ filter p xs else filter p xs) x → Contains (y ∷ xs) x × (p x ≡ true)
    by_test true t again kept_there = by_place t (first_or_later y (filter p xs) x kept_there) again
    by_test false t again kept_there = (later y xs x (again kept_there).0, (again kept_there).1)
