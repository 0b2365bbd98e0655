-- Sets of strings and functions, as nodes have them and as types do.
use Rattle.std.proofs.Common.{◌≡◌, ℕ, Bool, true, false, not, List, [], ◌∷◌, ◌++◌, refl, sym, ap, ◌∙◌, subst}
use Rattle.std.specs.Prelude.{◌⊎◌, ◌||◌, Contains, filter, if◌then◌else◌}
use Rattle.std.proofs.Common.{inl, inr}
use Rattle.std.proofs.lemmas.List.Elements.{Contains-append_cases}
use Rattle.std.specs.Ordering.{is_eq}
use Rattle.std.specs.declared.cmp.Ordering.{Ordering}
use Rattle.std.specs.declared.cmp.Ordering.TheVariants.{Less, Equal, Greater}
use Rattle.type_arena.specs.Homes.{homes_in, literal_homes}
use Rattle.type_arena.specs.Term.{Members, only, all_but, Function, strings_of, function_of, functions_in, functions_of}
use Rattle.type_arena.specs.declared.node.Among.{Among}
use Rattle.type_arena.specs.declared.node.Among.TheVariants.{Only, AllBut}
use Rattle.type_arena.specs.declared.node.FnName.{FnName}
use Rattle.type_arena.specs.declared.node.FnName.TheVariants.{Builtin, Literal}
use Rattle.type_normal.specs.Members.{by_order, put, in_order, has_member, common, less, either_set, both_sets, members_cmp}
use Rattle.type_normal.specs.Free.{name_cmp, function_cmp}
use Rattle.type_ops.specs.Joined.{fn_cmp}
use Rattle.type_ops.specs.Sets.{put_all, either_among, both_among, among_cmp}
use Rattle.type_ops.proofs.PlaceFacts.{put_all_nothing, put_all_both}
use Rattle.std.specs.Ordering.{ordering_then}
use Rattle.std.specs.Cmp.Lexicographic.{slice_cmp}
use Rattle.type_ops.proofs.FlatFacts.{flat, flat_append, flat_in_order, flat_filter, home_of_name, homes_flat}

pub fn_order : (a b : FnName) → fn_cmp a b ≡ function_cmp (function_of a) (function_of b)
fn_order (Builtin p) (Builtin q) = refl
fn_order (Builtin p) (Literal h n) = refl
fn_order (Literal h n) (Builtin p) = refl
fn_order (Literal h n) (Literal k m) = refl

-- names of functions, read as functions
put_by : (x y : FnName) (ys : List FnName) (o : Ordering) → functions_in (put fn_cmp x ys) ≡ put function_cmp (function_of x) (functions_in ys)
    → functions_in (by_order o (x ∷ y ∷ ys) (y ∷ ys) (y ∷ put fn_cmp x ys))
    ≡ by_order o (function_of x ∷ function_of y ∷ functions_in ys) (function_of y ∷ functions_in ys) (function_of y ∷ put function_cmp (function_of x) (functions_in ys))
put_by x y ys Less ih = refl
put_by x y ys Equal ih = refl
put_by x y ys Greater ih = ap (λ zs. function_of y ∷ zs) ih

names_put : (x : FnName) (ys : List FnName) → functions_in (put fn_cmp x ys) ≡ put function_cmp (function_of x) (functions_in ys)
names_put x [] = refl
names_put x (y ∷ ys) =
    put_by x y ys (fn_cmp x y) (names_put x ys)
    ∙ ap (λ (o : Ordering). by_order o (function_of x ∷ function_of y ∷ functions_in ys) (function_of y ∷ functions_in ys) (function_of y ∷ put function_cmp (function_of x) (functions_in ys))) (fn_order x y)

names_in_order : (xs : List FnName) → functions_in (in_order fn_cmp xs) ≡ in_order function_cmp (functions_in xs)
names_in_order [] = refl
names_in_order (x ∷ xs) = names_put x (in_order fn_cmp xs) ∙ ap (put function_cmp (function_of x)) (names_in_order xs)

names_append : (xs ys : List FnName) → functions_in (xs ++ ys) ≡ functions_in xs ++ functions_in ys
names_append [] ys = refl
names_append (x ∷ xs) ys = ap (λ zs. function_of x ∷ zs) (names_append xs ys)

names_has : (x : FnName) (ys : List FnName) → has_member fn_cmp x ys ≡ has_member function_cmp (function_of x) (functions_in ys)
names_has x [] = refl
names_has x (y ∷ ys) =
    ap (λ (o : Ordering). is_eq o || has_member fn_cmp x ys) (fn_order x y)
    ∙ ap (λ (b : Bool). is_eq (function_cmp (function_of x) (function_of y)) || b) (names_has x ys)

filter_by : (q : Function → Bool) (p : FnName → Bool) (x : FnName) (xs : List FnName) (b : Bool) → functions_in (filter p xs) ≡ filter q (functions_in xs)
    → functions_in (if b then x ∷ filter p xs else filter p xs) ≡ (if b then function_of x ∷ filter q (functions_in xs) else filter q (functions_in xs))
filter_by q p x xs true ih = ap (λ zs. function_of x ∷ zs) ih
filter_by q p x xs false ih = ih

names_filter : (p : FnName → Bool) (q : Function → Bool) → ((x : FnName) → p x ≡ q (function_of x)) → (xs : List FnName) → functions_in (filter p xs) ≡ filter q (functions_in xs)
names_filter p q same [] = refl
names_filter p q same (x ∷ xs) =
    filter_by q p x xs (p x) (names_filter p q same xs)
    ∙ ap (λ (b : Bool). if b then function_of x ∷ filter q (functions_in xs) else filter q (functions_in xs)) (same x)

names_common : (xs ys : List FnName) → functions_in (common fn_cmp xs ys) ≡ common function_cmp (functions_in xs) (functions_in ys)
names_common xs ys = names_filter (λ x. has_member fn_cmp x ys) (λ f. has_member function_cmp f (functions_in ys)) (λ x. names_has x ys) xs

names_less : (xs ys : List FnName) → functions_in (less fn_cmp xs ys) ≡ less function_cmp (functions_in xs) (functions_in ys)
names_less xs ys = names_filter (λ x. not (has_member fn_cmp x ys)) (λ f. not (has_member function_cmp f (functions_in ys))) (λ x. ap not (names_has x ys)) xs

names_all : (xs ys : List FnName) → functions_in (in_order fn_cmp (xs ++ ys)) ≡ in_order function_cmp (functions_in xs ++ functions_in ys)
names_all xs ys = names_in_order (xs ++ ys) ∙ ap (in_order function_cmp) (names_append xs ys)

pub either_functions : (a b : Among FnName) → functions_of (either_among fn_cmp a b) ≡ either_set function_cmp (functions_of a) (functions_of b)
either_functions (Only xs) (Only ys) = ap only (names_all xs ys)
either_functions (Only xs) (AllBut ys) = ap all_but (names_less ys xs)
either_functions (AllBut xs) (Only ys) = ap all_but (names_less xs ys)
either_functions (AllBut xs) (AllBut ys) = ap all_but (names_common xs ys)

pub both_functions : (a b : Among FnName) → functions_of (both_among fn_cmp a b) ≡ both_sets function_cmp (functions_of a) (functions_of b)
both_functions (Only xs) (Only ys) = ap only (names_common xs ys)
both_functions (Only xs) (AllBut ys) = ap only (names_less xs ys)
both_functions (AllBut xs) (Only ys) = ap only (names_less ys xs)
both_functions (AllBut xs) (AllBut ys) = ap all_but (names_all xs ys)

pub either_strings : (a b : Among (List ℕ)) → strings_of (either_among name_cmp a b) ≡ either_set name_cmp (strings_of a) (strings_of b)
either_strings (Only xs) (Only ys) = refl
either_strings (Only xs) (AllBut ys) = refl
either_strings (AllBut xs) (Only ys) = refl
either_strings (AllBut xs) (AllBut ys) = refl

pub both_strings : (a b : Among (List ℕ)) → strings_of (both_among name_cmp a b) ≡ both_sets name_cmp (strings_of a) (strings_of b)
both_strings (Only xs) (Only ys) = refl
both_strings (Only xs) (AllBut ys) = refl
both_strings (AllBut xs) (Only ys) = refl
both_strings (AllBut xs) (AllBut ys) = refl

-- their literals have no new homes
homes_kept : (p : FnName → Bool) (xs : List FnName) (h : ℕ) → Contains (homes_in (filter p xs)) h → Contains (homes_in xs) h
homes_kept p xs h k =
    subst (λ (zs : List ℕ). Contains zs h) (sym (homes_flat xs)) (flat_filter home_of_name h p xs (subst (λ (zs : List ℕ). Contains zs h) (homes_flat (filter p xs)) k))

homes_all : (xs ys : List FnName) (h : ℕ) → Contains (homes_in (in_order fn_cmp (xs ++ ys))) h → Contains (homes_in xs) h ⊎ Contains (homes_in ys) h
homes_all xs ys h k =
    let one : Contains (flat home_of_name (in_order fn_cmp (xs ++ ys))) h = subst (λ (zs : List ℕ). Contains zs h) (homes_flat (in_order fn_cmp (xs ++ ys))) k in
    let two : Contains (flat home_of_name (xs ++ ys)) h = flat_in_order fn_cmp home_of_name h (xs ++ ys) one in
    go (Contains-append_cases (flat home_of_name xs) (flat home_of_name ys) h (subst (λ (zs : List ℕ). Contains zs h) (flat_append home_of_name xs ys) two))
  where
    go : Contains (flat home_of_name xs) h ⊎ Contains (flat home_of_name ys) h → Contains (homes_in xs) h ⊎ Contains (homes_in ys) h
    go (inl m) = inl (subst (λ (zs : List ℕ). Contains zs h) (sym (homes_flat xs)) m)
    go (inr m) = inr (subst (λ (zs : List ℕ). Contains zs h) (sym (homes_flat ys)) m)

pub either_homes : (a b : Among FnName) (h : ℕ) → Contains (literal_homes (either_among fn_cmp a b)) h → Contains (literal_homes a) h ⊎ Contains (literal_homes b) h
either_homes (Only xs) (Only ys) h k = homes_all xs ys h k
either_homes (Only xs) (AllBut ys) h k = inr (homes_kept (λ x. not (has_member fn_cmp x xs)) ys h k)
either_homes (AllBut xs) (Only ys) h k = inl (homes_kept (λ x. not (has_member fn_cmp x ys)) xs h k)
either_homes (AllBut xs) (AllBut ys) h k = inl (homes_kept (λ x. has_member fn_cmp x ys) xs h k)

pub both_homes : (a b : Among FnName) (h : ℕ) → Contains (literal_homes (both_among fn_cmp a b)) h → Contains (literal_homes a) h ⊎ Contains (literal_homes b) h
both_homes (Only xs) (Only ys) h k = inl (homes_kept (λ x. has_member fn_cmp x ys) xs h k)
both_homes (Only xs) (AllBut ys) h k = inl (homes_kept (λ x. not (has_member fn_cmp x ys)) xs h k)
both_homes (AllBut xs) (Only ys) h k = inr (homes_kept (λ x. not (has_member fn_cmp x xs)) ys h k)
both_homes (AllBut xs) (AllBut ys) h k = homes_all xs ys h k

-- how sets compare
names_compare : (xs ys : List FnName) → slice_cmp fn_cmp xs ys ≡ slice_cmp function_cmp (functions_in xs) (functions_in ys)
names_compare [] [] = refl
names_compare [] (y ∷ ys) = refl
names_compare (x ∷ xs) [] = refl
names_compare (x ∷ xs) (y ∷ ys) = let first = fn_order x y in let rest = names_compare xs ys in λ i. ordering_then (first i) (rest i)

pub functions_compare : (a b : Among FnName) → among_cmp fn_cmp a b ≡ members_cmp function_cmp (functions_of a) (functions_of b)
functions_compare (Only xs) (Only ys) = names_compare xs ys
functions_compare (Only xs) (AllBut ys) = refl
functions_compare (AllBut xs) (Only ys) = refl
functions_compare (AllBut xs) (AllBut ys) = names_compare xs ys

pub strings_compare : (a b : Among (List ℕ)) → among_cmp name_cmp a b ≡ members_cmp name_cmp (strings_of a) (strings_of b)
strings_compare (Only xs) (Only ys) = refl
strings_compare (Only xs) (AllBut ys) = refl
strings_compare (AllBut xs) (Only ys) = refl
strings_compare (AllBut xs) (AllBut ys) = refl

-- the members of two lists, put into an empty one
pub all_made : {X : Type 0} (cmp : X → X → Ordering) (xs ys vx vy none first second : List X) → vx ≡ xs → vy ≡ ys → none ≡ [] → first ≡ put_all cmp vy none → second ≡ put_all cmp vx first
    → second ≡ in_order cmp (xs ++ ys)
all_made cmp xs ys vx vy none first second ex ey en ef es =
    es ∙ ap (λ zs. put_all cmp zs first) ex
    ∙ ap (put_all cmp xs) (ef ∙ ap (λ zs. put_all cmp zs none) ey ∙ ap (put_all cmp ys) en ∙ put_all_nothing cmp ys)
    ∙ put_all_both cmp xs ys
