-- What the members of a list have, after the list was put in order or filtered.
use Rattle.std.proofs.Common.{◌≡◌, ℕ, Bool, true, false, List, [], ◌∷◌, ◌++◌, refl, sym, ap, ◌∙◌, subst, append_assoc}
use Rattle.std.specs.Prelude.{◌⊎◌, Contains, filter, if◌then◌else◌}
use Rattle.std.proofs.Common.{inl, inr}
use Rattle.std.proofs.lemmas.List.Elements.{Contains-append_left, Contains-append_right, Contains-append_cases}
use Rattle.std.specs.declared.cmp.Ordering.{Ordering}
use Rattle.std.specs.declared.cmp.Ordering.TheVariants.{Less, Equal, Greater}
use Rattle.type_arena.specs.Homes.{homes_in}
use Rattle.type_arena.specs.Store.{field_types, row_types}
use Rattle.type_arena.specs.declared.node.FnName.{FnName}
use Rattle.type_arena.specs.declared.node.FnName.TheVariants.{Builtin, Literal}
use Rattle.type_arena.specs.declared.node.Row.{Row}
use Rattle.type_arena.specs.declared.node.TypeRef.{TypeRef}
use Rattle.type_normal.specs.Members.{by_order, put, in_order}

-- all that the members of a list have
abbrev pub flat : {X Y : Type 0} → (X → List Y) → List X → List Y
flat one [] = []
flat one (x ∷ xs) = one x ++ flat one xs

pub flat_append : {X Y : Type 0} (one : X → List Y) (xs ys : List X) → flat one (xs ++ ys) ≡ flat one xs ++ flat one ys
flat_append one [] ys = refl
flat_append one (x ∷ xs) ys = ap (λ zs. one x ++ zs) (flat_append one xs ys) ∙ sym (append_assoc (one x) (flat one xs) (flat one ys))

module _ {X Y : Type 0} (cmp : X → X → Ordering) (one : X → List Y) (z : Y) where
  later_put : (x y : X) (ys : List X) → (Contains (flat one (put cmp x ys)) z → Contains (one x ++ flat one ys) z)
      → Contains (one y) z ⊎ Contains (flat one (put cmp x ys)) z → Contains (one x ++ (one y ++ flat one ys)) z
  later_put x y ys ih (inl h) = Contains-append_right (one x) (one y ++ flat one ys) z (Contains-append_left (one y) (flat one ys) z h)
  later_put x y ys ih (inr h) = go (Contains-append_cases (one x) (flat one ys) z (ih h))
    where
      go : Contains (one x) z ⊎ Contains (flat one ys) z → Contains (one x ++ (one y ++ flat one ys)) z
      go (inl k) = Contains-append_left (one x) (one y ++ flat one ys) z k
      go (inr k) = Contains-append_right (one x) (one y ++ flat one ys) z (Contains-append_right (one y) (flat one ys) z k)

  put_by : (x y : X) (ys : List X) (o : Ordering) → (Contains (flat one (put cmp x ys)) z → Contains (one x ++ flat one ys) z)
      → Contains (flat one (by_order o (x ∷ y ∷ ys) (y ∷ ys) (y ∷ put cmp x ys))) z → Contains (one x ++ (one y ++ flat one ys)) z
  put_by x y ys Less ih h = h
  put_by x y ys Equal ih h = Contains-append_right (one x) (one y ++ flat one ys) z h
  put_by x y ys Greater ih h = later_put x y ys ih (Contains-append_cases (one y) (flat one (put cmp x ys)) z h)

  pub flat_put : (x : X) (ys : List X) → Contains (flat one (put cmp x ys)) z → Contains (one x ++ flat one ys) z
  flat_put x [] h = h
  flat_put x (y ∷ ys) h = put_by x y ys (cmp x y) (flat_put x ys) h

  order_by : (x : X) (xs : List X) → (Contains (flat one (in_order cmp xs)) z → Contains (flat one xs) z) → Contains (one x) z ⊎ Contains (flat one (in_order cmp xs)) z → Contains (one x ++ flat one xs) z
  order_by x xs ih (inl k) = Contains-append_left (one x) (flat one xs) z k
  order_by x xs ih (inr k) = Contains-append_right (one x) (flat one xs) z (ih k)

  pub flat_in_order : (xs : List X) → Contains (flat one (in_order cmp xs)) z → Contains (flat one xs) z
  flat_in_order [] h = h
  flat_in_order (x ∷ xs) h = order_by x xs (flat_in_order xs) (Contains-append_cases (one x) (flat one (in_order cmp xs)) z (flat_put x (in_order cmp xs) h))

filter_by : {X Y : Type 0} (one : X → List Y) (z : Y) (p : X → Bool) (x : X) (xs : List X) (b : Bool) → (Contains (flat one (filter p xs)) z → Contains (flat one xs) z)
    → Contains (flat one (if b then x ∷ filter p xs else filter p xs)) z → Contains (one x ++ flat one xs) z
filter_by one z p x xs true ih h = go (Contains-append_cases (one x) (flat one (filter p xs)) z h)
  where
    go : Contains (one x) z ⊎ Contains (flat one (filter p xs)) z → Contains (one x ++ flat one xs) z
    go (inl k) = Contains-append_left (one x) (flat one xs) z k
    go (inr k) = Contains-append_right (one x) (flat one xs) z (ih k)
filter_by one z p x xs false ih h = Contains-append_right (one x) (flat one xs) z (ih h)

pub flat_filter : {X Y : Type 0} (one : X → List Y) (z : Y) (p : X → Bool) (xs : List X) → Contains (flat one (filter p xs)) z → Contains (flat one xs) z
flat_filter one z p [] h = h
flat_filter one z p (x ∷ xs) h = filter_by one z p x xs (p x) (flat_filter one z p xs) h

-- the references in rows, and the homes of literals, are of this form
abbrev pub row_refs : Row → List TypeRef
row_refs row = field_types row.fields

pub row_types_flat : (rows : List Row) → row_types rows ≡ flat row_refs rows
row_types_flat [] = refl
row_types_flat (row ∷ rows) = ap (λ zs. field_types row.fields ++ zs) (row_types_flat rows)

abbrev pub home_of_name : FnName → List ℕ
home_of_name (Builtin path) = []
home_of_name (Literal home number) = home ∷ []

pub homes_flat : (names : List FnName) → homes_in names ≡ flat home_of_name names
homes_flat [] = refl
homes_flat (Builtin path ∷ names) = homes_flat names
homes_flat (Literal home number ∷ names) = ap (λ zs. home ∷ zs) (homes_flat names)

-- rows that are put in order have no new references
pub put_row_refs : (cmp : Row → Row → Ordering) (row : Row) (rows : List Row) (child : TypeRef) → Contains (row_types (put cmp row rows)) child → Contains (field_types row.fields ++ row_types rows) child
put_row_refs cmp row rows child h =
    subst (λ (zs : List TypeRef). Contains (field_types row.fields ++ zs) child) (sym (row_types_flat rows))
    (flat_put cmp row_refs child row rows (subst (λ (zs : List TypeRef). Contains zs child) (row_types_flat (put cmp row rows)) h))

pub in_order_refs : (cmp : Row → Row → Ordering) (rows : List Row) (child : TypeRef) → Contains (row_types (in_order cmp rows)) child → Contains (row_types rows) child
in_order_refs cmp rows child h =
    subst (λ (zs : List TypeRef). Contains zs child) (sym (row_types_flat rows))
    (flat_in_order cmp row_refs child rows (subst (λ (zs : List TypeRef). Contains zs child) (row_types_flat (in_order cmp rows)) h))

pub append_refs : (xs ys : List Row) → row_types (xs ++ ys) ≡ row_types xs ++ row_types ys
append_refs [] ys = refl
append_refs (row ∷ xs) ys = ap (λ zs. field_types row.fields ++ zs) (append_refs xs ys) ∙ sym (append_assoc (field_types row.fields) (row_types xs) (row_types ys))
