-- Sets that are finite or leave out finitely many members. Their lists are kept in order, each member once.
use Rattle.std.specs.Prelude.{Bool, true, false, not, ◌&&◌, List, [], ◌∷◌, ◌++◌, filter}
use Rattle.std.specs.List.{list_any}
use Rattle.std.specs.declared.cmp.Ordering.{Ordering}
use Rattle.std.specs.declared.cmp.Ordering.TheVariants.{Less, Equal, Greater}
use Rattle.std.specs.Ordering.{is_eq, is_lt}
use Rattle.std.specs.Cmp.Lexicographic.{slice_cmp}
use Rattle.type_arena.specs.Term.{Members, only, all_but}

-- one of three, as an order has it
abbrev pub by_order : {X : Type 0} → Ordering → X → X → X → X
by_order Less less equal greater = less
by_order Equal less equal greater = equal
by_order Greater less equal greater = greater

-- a list in order with one more member, unless it is there
abbrev pub put : {X : Type 0} → (X → X → Ordering) → X → List X → List X
put cmp x [] = x ∷ []
put cmp x (y ∷ ys) = by_order (cmp x y) (x ∷ y ∷ ys) (y ∷ ys) (y ∷ put cmp x ys)

-- the members of a list in order, each once
abbrev pub in_order : {X : Type 0} → (X → X → Ordering) → List X → List X
in_order cmp [] = []
in_order cmp (x ∷ xs) = put cmp x (in_order cmp xs)

-- whether a list has a member
abbrev pub has_member : {X : Type 0} → (X → X → Ordering) → X → List X → Bool
has_member cmp x xs = list_any (λ y. is_eq (cmp x y)) xs

-- the members of the one list that the other has, and those that it hasn't
abbrev pub common : {X : Type 0} → (X → X → Ordering) → List X → List X → List X
common cmp xs ys = filter (λ x. has_member cmp x ys) xs

abbrev pub less : {X : Type 0} → (X → X → Ordering) → List X → List X → List X
less cmp xs ys = filter (λ x. not (has_member cmp x ys)) xs

-- whether a set has a member
abbrev pub is_member : {X : Type 0} → (X → X → Ordering) → X → Members X → Bool
is_member cmp x (only xs) = has_member cmp x xs
is_member cmp x (all_but xs) = not (has_member cmp x xs)

-- what is in one of two sets
abbrev pub either_set : {X : Type 0} → (X → X → Ordering) → Members X → Members X → Members X
either_set cmp (only xs) (only ys) = only (in_order cmp (xs ++ ys))
either_set cmp (only xs) (all_but ys) = all_but (less cmp ys xs)
either_set cmp (all_but xs) (only ys) = all_but (less cmp xs ys)
either_set cmp (all_but xs) (all_but ys) = all_but (common cmp xs ys)

-- what is in both of two sets
abbrev pub both_sets : {X : Type 0} → (X → X → Ordering) → Members X → Members X → Members X
both_sets cmp (only xs) (only ys) = only (common cmp xs ys)
both_sets cmp (only xs) (all_but ys) = only (less cmp xs ys)
both_sets cmp (all_but xs) (only ys) = only (less cmp ys xs)
both_sets cmp (all_but xs) (all_but ys) = all_but (in_order cmp (xs ++ ys))

-- what isn't in a set
abbrev pub outside : {X : Type 0} → Members X → Members X
outside (only xs) = all_but xs
outside (all_but xs) = only xs

-- whether no member is in a set, by its form
abbrev pub is_no_set : {X : Type 0} → Members X → Bool
is_no_set (only []) = true
is_no_set (only (x ∷ xs)) = false
is_no_set (all_but xs) = false

-- whether all members are in a set, by its form
abbrev pub is_whole_set : {X : Type 0} → Members X → Bool
is_whole_set (all_but []) = true
is_whole_set (all_but (x ∷ xs)) = false
is_whole_set (only xs) = false

-- how two sets compare: finite ones come first, and then the first members decide that differ
abbrev pub members_cmp : {X : Type 0} → (X → X → Ordering) → Members X → Members X → Ordering
members_cmp cmp (only xs) (only ys) = slice_cmp cmp xs ys
members_cmp cmp (only xs) (all_but ys) = Less
members_cmp cmp (all_but xs) (only ys) = Greater
members_cmp cmp (all_but xs) (all_but ys) = slice_cmp cmp xs ys

-- whether each member of a list comes before the next
abbrev pub is_in_order : {X : Type 0} → (X → X → Ordering) → List X → Bool
is_in_order cmp [] = true
is_in_order cmp (x ∷ []) = true
is_in_order cmp (x ∷ y ∷ ys) = is_lt (cmp x y) && is_in_order cmp (y ∷ ys)

-- the list of a set
abbrev pub listed : {X : Type 0} → Members X → List X
listed (only xs) = xs
listed (all_but xs) = xs
