-- Normal forms that operations keep.
use Rattle.std.proofs.Common.{◌≡◌, ℕ, Bool, true, false, not, List, [], ◌∷◌, ◌++◌, refl, sym, ap, ◌∙◌}
use Rattle.std.specs.Prelude.{◌&&◌, ◌||◌, filter, if◌then◌else◌}
use Rattle.std.specs.Str.{bytes_eq}
use Rattle.std.specs.declared.cmp.Ordering.{Ordering}
use Rattle.std.specs.declared.cmp.Ordering.TheVariants.{Less, Equal, Greater}
use Rattle.std.specs.Ordering.{is_lt, bool_cmp, ordering_then, ordering_reverse}
use Rattle.std.specs.Cmp.{IsTotalOrder, bool_cmp_total}
use Rattle.std.proofs.lemmas.Cmp.{lists_total}
use Rattle.type_arena.specs.Term.{Members, only, all_but, Free, Term, term, Rows, no_rows, more_rows, Fields, no_fields, more_fields}
use Rattle.type_normal.specs.Members.{by_order, put, in_order, has_member, either_set, both_sets, outside, members_cmp, is_in_order, listed}
use Rattle.type_normal.specs.Free.{name_cmp, function_cmp, either_free, both_free, outside_free, free_cmp, is_normal_free}
use Rattle.type_normal.specs.Rows.{names_cmp, term_cmp, rows_cmp, types_cmp, row_cmp, put_row, put_rows, rows_in_order, any_table, is_empty, is_unknown, has_empty, known_fields, put_normal, names_in_order, comes_first, is_normal, are_normal_rows, are_normal_fields}
use Rattle.type_normal.specs.Operations.{union, put_field, meet_each, meet, meet_rows, meet_fields, other_tables, not_free}
use Rattle.type_normal.specs.HeapFree.{heap_free_row, strip, strip_rows, fields_list, strip_at, strip_rows_at, widen, widen_rows, widen_fields, widen_at, widen_rows_at, widen_fields_at}
use Rattle.type_normal.specs.Cut.{is_small, has_any_table, few_values, cut_down, many_values, cut_up}
use Rattle.type_normal.proofs.HoldsFacts.{left, right, both}
use Rattle.type_normal.proofs.OrderFacts.{Separates, first_ties, second_ties, truth_ties, name_ties, members_ties, free_ties, term_ties, names_total, functions_total}

-- orders that turn round
reverse_then : (a b : Ordering) → ordering_reverse (ordering_then a b) ≡ ordering_then (ordering_reverse a) (ordering_reverse b)
reverse_then Less b = refl
reverse_then Equal b = refl
reverse_then Greater b = refl

then_turn : (a b c d : Ordering) → a ≡ ordering_reverse c → b ≡ ordering_reverse d → ordering_then a b ≡ ordering_reverse (ordering_then c d)
then_turn a b c d p q = (λ i. ordering_then (p i) (q i)) ∙ sym (reverse_then c d)

members_turn : {X : Type 0} (cmp : X → X → Ordering) → IsTotalOrder cmp → (a b : Members X) → members_cmp cmp a b ≡ ordering_reverse (members_cmp cmp b a)
members_turn cmp total (only xs) (only ys) = (lists_total total).antisymm xs ys
members_turn cmp total (only xs) (all_but ys) = refl
members_turn cmp total (all_but xs) (only ys) = refl
members_turn cmp total (all_but xs) (all_but ys) = (lists_total total).antisymm xs ys

free_turn : (a b : Free) → free_cmp a b ≡ ordering_reverse (free_cmp b a)
free_turn a b =
    then_turn _ _ _ _ (bool_cmp_total.antisymm a.nil b.nil)
    (then_turn _ _ _ _ (bool_cmp_total.antisymm a.truth b.truth)
    (then_turn _ _ _ _ (bool_cmp_total.antisymm a.falsity b.falsity)
    (then_turn _ _ _ _ (bool_cmp_total.antisymm a.number b.number)
    (then_turn _ _ _ _ (bool_cmp_total.antisymm a.other b.other)
    (then_turn _ _ _ _ (members_turn name_cmp names_total a.strings b.strings) (members_turn function_cmp functions_total a.functions b.functions))))))

names_turn : (fs gs : Fields) → names_cmp fs gs ≡ ordering_reverse (names_cmp gs fs)
names_turn no_fields no_fields = refl
names_turn no_fields (more_fields q u gs) = refl
names_turn (more_fields p t fs) no_fields = refl
names_turn (more_fields p t fs) (more_fields q u gs) = then_turn _ _ _ _ (names_total.antisymm p q) (names_turn fs gs)

mutual
  term_turn : (t u : Term) → term_cmp t u ≡ ordering_reverse (term_cmp u t)
  term_turn (term f r) (term g s) = then_turn _ _ _ _ (free_turn f g) (rows_turn r s)

  rows_turn : (r s : Rows) → rows_cmp r s ≡ ordering_reverse (rows_cmp s r)
  rows_turn no_rows no_rows = refl
  rows_turn no_rows (more_rows c gs s) = refl
  rows_turn (more_rows b fs r) no_rows = refl
  rows_turn (more_rows b fs r) (more_rows c gs s) =
      then_turn _ _ _ _ (bool_cmp_total.antisymm b c) (then_turn _ _ _ _ (names_turn fs gs) (then_turn _ _ _ _ (types_turn fs gs) (rows_turn r s)))

  types_turn : (fs gs : Fields) → types_cmp fs gs ≡ ordering_reverse (types_cmp gs fs)
  types_turn no_fields no_fields = refl
  types_turn no_fields (more_fields q u gs) = refl
  types_turn (more_fields p t fs) no_fields = refl
  types_turn (more_fields p t fs) (more_fields q u gs) = then_turn _ _ _ _ (term_turn t u) (types_turn fs gs)

row_turn : (b c : Bool) (fs gs : Fields) → row_cmp b fs c gs ≡ ordering_reverse (row_cmp c gs b fs)
row_turn b c fs gs = then_turn _ _ _ _ (bool_cmp_total.antisymm b c) (then_turn _ _ _ _ (names_turn fs gs) (types_turn fs gs))

-- what comes after comes before, turned round
turned_lt : (a b : Ordering) → b ≡ ordering_reverse a → a ≡ Greater → is_lt b ≡ true
turned_lt a b e f = ap is_lt (e ∙ ap ordering_reverse f)

lt_is : (o : Ordering) → is_lt o ≡ true → o ≡ Less
lt_is Less e = refl
lt_is Equal e = cc
lt_is Greater e = cc

-- lists in order
module _ {X : Type 0} (cmp : X → X → Ordering) (total : IsTotalOrder cmp) where
  before : X → List X → Bool
  before x [] = true
  before x (y ∷ ys) = is_lt (cmp x y)

  order_cons : (x : X) (ys : List X) → before x ys ≡ true → is_in_order cmp ys ≡ true → is_in_order cmp (x ∷ ys) ≡ true
  unfolding before
  order_cons x [] b o = refl
  order_cons x (y ∷ ys) b o = both _ _ b o

  order_first : (x : X) (ys : List X) → is_in_order cmp (x ∷ ys) ≡ true → before x ys ≡ true
  unfolding before
  order_first x [] o = refl
  order_first x (y ∷ ys) o = left _ _ o

  order_rest : (x : X) (ys : List X) → is_in_order cmp (x ∷ ys) ≡ true → is_in_order cmp ys ≡ true
  order_rest x [] o = refl
  order_rest x (y ∷ ys) o = right _ _ o

  before_by : (z x y : X) (ys : List X) (o : Ordering) → is_lt (cmp z x) ≡ true → is_lt (cmp z y) ≡ true → before z (by_order o (x ∷ y ∷ ys) (y ∷ ys) (y ∷ put cmp x ys)) ≡ true
  unfolding before
  before_by z x y ys Less a b = a
  before_by z x y ys Equal a b = b
  before_by z x y ys Greater a b = b

  before_put : (z x : X) (ys : List X) → is_lt (cmp z x) ≡ true → before z ys ≡ true → before z (put cmp x ys) ≡ true
  unfolding before
  before_put z x [] a b = a
  before_put z x (y ∷ ys) a b = before_by z x y ys (cmp x y) a b

  put_by : (x y : X) (ys : List X) (o : Ordering) → cmp x y ≡ o → is_in_order cmp (y ∷ ys) ≡ true → is_in_order cmp (put cmp x ys) ≡ true
      → is_in_order cmp (by_order o (x ∷ y ∷ ys) (y ∷ ys) (y ∷ put cmp x ys)) ≡ true
  put_by x y ys Less e o ih = both _ _ (ap is_lt e) o
  put_by x y ys Equal e o ih = o
  put_by x y ys Greater e o ih = order_cons y (put cmp x ys) (before_put y x ys (turned_lt (cmp x y) (cmp y x) (total.antisymm y x) e) (order_first y ys o)) ih

  put_sorted : (x : X) (ys : List X) → is_in_order cmp ys ≡ true → is_in_order cmp (put cmp x ys) ≡ true
  put_sorted x [] o = refl
  put_sorted x (y ∷ ys) o = put_by x y ys (cmp x y) refl o (put_sorted x ys (order_rest y ys o))

  pub sorted : (xs : List X) → is_in_order cmp (in_order cmp xs) ≡ true
  sorted [] = refl
  sorted (x ∷ xs) = put_sorted x (in_order cmp xs) (sorted xs)

  before_later : (x y : X) (ys : List X) → is_lt (cmp x y) ≡ true → before y ys ≡ true → before x ys ≡ true
  unfolding before
  before_later x y [] a b = refl
  before_later x y (z ∷ zs) a b = ap is_lt (total.trans x y z (lt_is (cmp x y) a) (lt_is (cmp y z) b))

  filter_first_by : (p : X → Bool) (x y : X) (ys : List X) (b : Bool) → is_lt (cmp x y) ≡ true → before x (filter p ys) ≡ true → before x (if b then y ∷ filter p ys else filter p ys) ≡ true
  unfolding before
  filter_first_by p x y ys true a ih = a
  filter_first_by p x y ys false a ih = ih

  filter_first : (p : X → Bool) (x : X) (ys : List X) → before x ys ≡ true → is_in_order cmp ys ≡ true → before x (filter p ys) ≡ true
  unfolding before
  filter_first p x [] b o = refl
  filter_first p x (y ∷ ys) b o = filter_first_by p x y ys (p y) b (filter_first p x ys (before_later x y ys b (order_first y ys o)) (order_rest y ys o))

  filter_by : (p : X → Bool) (x : X) (xs : List X) (b : Bool) → before x (filter p xs) ≡ true → is_in_order cmp (filter p xs) ≡ true → is_in_order cmp (if b then x ∷ filter p xs else filter p xs) ≡ true
  filter_by p x xs true a ih = order_cons x (filter p xs) a ih
  filter_by p x xs false a ih = ih

  pub filtered : (p : X → Bool) (xs : List X) → is_in_order cmp xs ≡ true → is_in_order cmp (filter p xs) ≡ true
  filtered p [] o = refl
  filtered p (x ∷ xs) o = filter_by p x xs (p x) (filter_first p x xs (order_first x xs o) (order_rest x xs o)) (filtered p xs (order_rest x xs o))

  pub either_sorted : (a b : Members X) → is_in_order cmp (listed a) ≡ true → is_in_order cmp (listed b) ≡ true → is_in_order cmp (listed (either_set cmp a b)) ≡ true
  either_sorted (only xs) (only ys) a b = sorted (xs ++ ys)
  either_sorted (only xs) (all_but ys) a b = filtered (λ x. not (has_member cmp x xs)) ys b
  either_sorted (all_but xs) (only ys) a b = filtered (λ x. not (has_member cmp x ys)) xs a
  either_sorted (all_but xs) (all_but ys) a b = filtered (λ x. has_member cmp x ys) xs a

  pub both_sorted : (a b : Members X) → is_in_order cmp (listed a) ≡ true → is_in_order cmp (listed b) ≡ true → is_in_order cmp (listed (both_sets cmp a b)) ≡ true
  both_sorted (only xs) (only ys) a b = filtered (λ x. has_member cmp x ys) xs a
  both_sorted (only xs) (all_but ys) a b = filtered (λ x. not (has_member cmp x ys)) xs a
  both_sorted (all_but xs) (only ys) a b = filtered (λ x. not (has_member cmp x xs)) ys b
  both_sorted (all_but xs) (all_but ys) a b = sorted (xs ++ ys)

  pub outside_sorted : (a : Members X) → is_in_order cmp (listed a) ≡ true → is_in_order cmp (listed (outside a)) ≡ true
  outside_sorted (only xs) a = a
  outside_sorted (all_but xs) a = a

-- free parts
either_normal : (a b : Free) → is_normal_free a ≡ true → is_normal_free b ≡ true → is_normal_free (either_free a b) ≡ true
either_normal a b p q =
    both _ _ (either_sorted name_cmp names_total a.strings b.strings (left _ _ p) (left _ _ q))
    (either_sorted function_cmp functions_total a.functions b.functions (right (is_in_order name_cmp (listed a.strings)) _ p) (right (is_in_order name_cmp (listed b.strings)) _ q))

both_normal : (a b : Free) → is_normal_free a ≡ true → is_normal_free b ≡ true → is_normal_free (both_free a b) ≡ true
both_normal a b p q =
    both _ _ (both_sorted name_cmp names_total a.strings b.strings (left _ _ p) (left _ _ q))
    (both_sorted function_cmp functions_total a.functions b.functions (right (is_in_order name_cmp (listed a.strings)) _ p) (right (is_in_order name_cmp (listed b.strings)) _ q))

outside_normal : (a : Free) → is_normal_free a ≡ true → is_normal_free (outside_free a) ≡ true
outside_normal a p =
    both _ _ (outside_sorted name_cmp names_total a.strings (left _ _ p)) (outside_sorted function_cmp functions_total a.functions (right (is_in_order name_cmp (listed a.strings)) _ p))

-- one row in normal form, and a row that is put among rows
abbrev pub normal_row : Fields → Bool
normal_row fs = names_in_order fs && are_normal_fields fs

first_by : (c b d : Bool) (hs fs gs : Fields) (r : Rows) (o : Ordering) → is_lt (row_cmp c hs b fs) ≡ true → is_lt (row_cmp c hs d gs) ≡ true
    → comes_first c hs (by_order o (more_rows b fs (more_rows d gs r)) (more_rows d gs r) (more_rows d gs (put_row b fs r))) ≡ true
first_by c b d hs fs gs r Less x y = x
first_by c b d hs fs gs r Equal x y = y
first_by c b d hs fs gs r Greater x y = y

first_put : (c b : Bool) (hs fs : Fields) (r : Rows) → is_lt (row_cmp c hs b fs) ≡ true → comes_first c hs r ≡ true → comes_first c hs (put_row b fs r) ≡ true
first_put c b hs fs no_rows x y = x
first_put c b hs fs (more_rows d gs r) x y = first_by c b d hs fs gs r (row_cmp b fs d gs) x y

put_row_by : (b d : Bool) (fs gs : Fields) (r : Rows) (o : Ordering) → row_cmp b fs d gs ≡ o → normal_row fs ≡ true → are_normal_rows (more_rows d gs r) ≡ true → are_normal_rows (put_row b fs r) ≡ true
    → are_normal_rows (by_order o (more_rows b fs (more_rows d gs r)) (more_rows d gs r) (more_rows d gs (put_row b fs r))) ≡ true
put_row_by b d fs gs r Less e n all ih = both _ _ n (both _ _ (ap is_lt e) all)
put_row_by b d fs gs r Equal e n all ih = all
put_row_by b d fs gs r Greater e n all ih =
    both _ _ (left _ _ all) (both _ _ (first_put d b gs fs r (turned_lt (row_cmp b fs d gs) (row_cmp d gs b fs) (row_turn d b gs fs) e) (left _ _ (right (normal_row gs) _ all))) ih)

pub put_row_normal : (b : Bool) (fs : Fields) (r : Rows) → normal_row fs ≡ true → are_normal_rows r ≡ true → are_normal_rows (put_row b fs r) ≡ true
put_row_normal b fs no_rows n all = both _ _ n refl
put_row_normal b fs (more_rows d gs r) n all =
    put_row_by b d fs gs r (row_cmp b fs d gs) refl n all (put_row_normal b fs r n (right (comes_first d gs r) _ (right (normal_row gs) _ all)))

put_rows_normal : (r s : Rows) → are_normal_rows r ≡ true → are_normal_rows s ≡ true → are_normal_rows (put_rows r s) ≡ true
put_rows_normal no_rows s p q = q
put_rows_normal (more_rows b fs r) s p q =
    put_row_normal b fs (put_rows r s) (left _ _ p) (put_rows_normal r s (right (comes_first b fs r) _ (right (normal_row fs) _ p)) q)

pub union_normal : (t u : Term) → is_normal t ≡ true → is_normal u ≡ true → is_normal (union t u) ≡ true
union_normal (term f r) (term g s) p q =
    both _ _ (either_normal f g (left _ _ p) (left _ _ q))
    (put_rows_normal r (rows_in_order s) (right (is_normal_free f) _ p) (put_rows_normal s no_rows (right (is_normal_free g) _ q) refl))

-- names of fields in order
abbrev pub names_first : List ℕ → Fields → Bool
names_first p no_fields = true
names_first p (more_fields q u fs) = is_lt (name_cmp p q)

pub names_cons : (p : List ℕ) (t : Term) (fs : Fields) → names_first p fs ≡ true → names_in_order fs ≡ true → names_in_order (more_fields p t fs) ≡ true
names_cons p t no_fields a b = refl
names_cons p t (more_fields q u fs) a b = both _ _ a b

pub names_head : (p : List ℕ) (t : Term) (fs : Fields) → names_in_order (more_fields p t fs) ≡ true → names_first p fs ≡ true
names_head p t no_fields a = refl
names_head p t (more_fields q u fs) a = left _ _ a

pub names_tail : (p : List ℕ) (t : Term) (fs : Fields) → names_in_order (more_fields p t fs) ≡ true → names_in_order fs ≡ true
names_tail p t no_fields a = refl
names_tail p t (more_fields q u fs) a = right (is_lt (name_cmp p q)) _ a

pub names_later : (p q : List ℕ) (fs : Fields) → is_lt (name_cmp p q) ≡ true → names_first q fs ≡ true → names_first p fs ≡ true
names_later p q no_fields a b = refl
names_later p q (more_fields s u fs) a b = ap is_lt (names_total.trans p q s (lt_is (name_cmp p q) a) (lt_is (name_cmp q s) b))

-- whether each field has a type in normal form
abbrev pub each_normal : Fields → Bool
each_normal no_fields = true
each_normal (more_fields p t fs) = is_normal t && each_normal fs

pub fields_each : (fs : Fields) → are_normal_fields fs ≡ true → each_normal fs ≡ true
fields_each no_fields e = refl
fields_each (more_fields p t fs) e = both _ _ (left _ _ e) (fields_each fs (right (not (is_empty t || is_unknown t)) _ (right (is_normal t) _ e)))

-- the fields that are known
known_by : (p : List ℕ) (t : Term) (fs : Fields) (e u : Bool) → is_empty t ≡ e → is_unknown t ≡ u → e || has_empty fs ≡ false → is_normal t ≡ true → are_normal_fields (known_fields fs) ≡ true
    → are_normal_fields (if u then known_fields fs else more_fields p t (known_fields fs)) ≡ true
known_by p t fs e true ee eu lacks n ih = ih
known_by p t fs true false ee eu lacks n ih = cc
known_by p t fs false false ee eu lacks n ih = both _ _ n (both _ _ (λ i. not (ee i || eu i)) ih)

or_right : (a b : Bool) → a || b ≡ false → b ≡ false
or_right true b e = cc
or_right false b e = e

known_normal : (fs : Fields) → each_normal fs ≡ true → has_empty fs ≡ false → are_normal_fields (known_fields fs) ≡ true
known_normal no_fields n e = refl
known_normal (more_fields p t fs) n e =
    known_by p t fs (is_empty t) (is_unknown t) refl refl e (left _ _ n) (known_normal fs (right (is_normal t) _ n) (or_right (is_empty t) _ e))

known_first_by : (p q : List ℕ) (t : Term) (fs : Fields) (b : Bool) → is_lt (name_cmp p q) ≡ true → names_first p (known_fields fs) ≡ true → names_first p (if b then known_fields fs else more_fields q t (known_fields fs)) ≡ true
known_first_by p q t fs true a ih = ih
known_first_by p q t fs false a ih = a

known_first : (p : List ℕ) (fs : Fields) → names_first p fs ≡ true → names_in_order fs ≡ true → names_first p (known_fields fs) ≡ true
known_first p no_fields a b = refl
known_first p (more_fields q t fs) a b =
    known_first_by p q t fs (is_unknown t) a (known_first p fs (names_later p q fs a (names_head q t fs b)) (names_tail q t fs b))

known_names_by : (p : List ℕ) (t : Term) (fs : Fields) (b : Bool) → names_first p (known_fields fs) ≡ true → names_in_order (known_fields fs) ≡ true → names_in_order (if b then known_fields fs else more_fields p t (known_fields fs)) ≡ true
known_names_by p t fs true a ih = ih
known_names_by p t fs false a ih = names_cons p t (known_fields fs) a ih

known_names : (fs : Fields) → names_in_order fs ≡ true → names_in_order (known_fields fs) ≡ true
known_names no_fields a = refl
known_names (more_fields p t fs) a =
    known_names_by p t fs (is_unknown t) (known_first p fs (names_head p t fs a) (names_tail p t fs a)) (known_names fs (names_tail p t fs a))

put_normal_by : (b : Bool) (fs : Fields) (r : Rows) (e : Bool) → has_empty fs ≡ e → names_in_order fs ≡ true → each_normal fs ≡ true → are_normal_rows r ≡ true → are_normal_rows (if e then r else put_row b (known_fields fs) r) ≡ true
put_normal_by b fs r true h n each all = all
put_normal_by b fs r false h n each all = put_row_normal b (known_fields fs) r (both _ _ (known_names fs n) (known_normal fs each h)) all

pub put_normal_normal : (b : Bool) (fs : Fields) (r : Rows) → names_in_order fs ≡ true → each_normal fs ≡ true → are_normal_rows r ≡ true → are_normal_rows (put_normal b fs r) ≡ true
put_normal_normal b fs r n each all = put_normal_by b fs r (has_empty fs) refl n each all

-- a field that is put among fields
field_first_by : (p n q : List ℕ) (t u : Term) (w : Term → Term) (fs : Fields) (o : Ordering) → is_lt (name_cmp p n) ≡ true → is_lt (name_cmp p q) ≡ true
    → names_first p (by_order o (more_fields n t (more_fields q u fs)) (more_fields q (w u) fs) (more_fields q u (put_field n t w fs))) ≡ true
field_first_by p n q t u w fs Less a b = a
field_first_by p n q t u w fs Equal a b = b
field_first_by p n q t u w fs Greater a b = b

field_first : (p n : List ℕ) (t : Term) (w : Term → Term) (fs : Fields) → is_lt (name_cmp p n) ≡ true → names_first p fs ≡ true → names_first p (put_field n t w fs) ≡ true
field_first p n t w no_fields a b = a
field_first p n t w (more_fields q u fs) a b = field_first_by p n q t u w fs (name_cmp n q) a b

field_names_by : (n q : List ℕ) (t u : Term) (w : Term → Term) (fs : Fields) (o : Ordering) → name_cmp n q ≡ o → names_in_order (more_fields q u fs) ≡ true → names_in_order (put_field n t w fs) ≡ true
    → names_in_order (by_order o (more_fields n t (more_fields q u fs)) (more_fields q (w u) fs) (more_fields q u (put_field n t w fs))) ≡ true
field_names_by n q t u w fs Less e a ih = both _ _ (ap is_lt e) a
field_names_by n q t u w fs Equal e a ih = names_cons q (w u) fs (names_head q u fs a) (names_tail q u fs a)
field_names_by n q t u w fs Greater e a ih =
    names_cons q u (put_field n t w fs) (field_first q n t w fs (turned_lt (name_cmp n q) (name_cmp q n) (names_total.antisymm q n) e) (names_head q u fs a)) ih

pub field_names : (n : List ℕ) (t : Term) (w : Term → Term) (fs : Fields) → names_in_order fs ≡ true → names_in_order (put_field n t w fs) ≡ true
field_names n t w no_fields a = refl
field_names n t w (more_fields q u fs) a = field_names_by n q t u w fs (name_cmp n q) refl a (field_names n t w fs (names_tail q u fs a))

field_each_by : (n q : List ℕ) (t u : Term) (w : Term → Term) (fs : Fields) (o : Ordering) → is_normal t ≡ true → is_normal u ≡ true → is_normal (w u) ≡ true → each_normal fs ≡ true → each_normal (put_field n t w fs) ≡ true
    → each_normal (by_order o (more_fields n t (more_fields q u fs)) (more_fields q (w u) fs) (more_fields q u (put_field n t w fs))) ≡ true
field_each_by n q t u w fs Less x y z a ih = both _ _ x (both _ _ y a)
field_each_by n q t u w fs Equal x y z a ih = both _ _ z a
field_each_by n q t u w fs Greater x y z a ih = both _ _ y ih

pub field_each : (n : List ℕ) (t : Term) (w : Term → Term) (fs : Fields) → is_normal t ≡ true → ((u : Term) → is_normal u ≡ true → is_normal (w u) ≡ true) → each_normal fs ≡ true → each_normal (put_field n t w fs) ≡ true
field_each n t w no_fields x k a = both _ _ x refl
field_each n t w (more_fields q u fs) x k a =
    field_each_by n q t u w fs (name_cmp n q) x (left _ _ a) (k u (left _ _ a)) (right (is_normal u) _ a) (field_each n t w fs x k (right (is_normal u) _ a))

pub meet_names : (fs gs : Fields) → names_in_order fs ≡ true → names_in_order gs ≡ true → names_in_order (meet_fields fs gs) ≡ true
meet_names no_fields gs a b = b
meet_names (more_fields p t fs) gs a b = field_names p t (meet t) (meet_fields fs gs) (meet_names fs gs (names_tail p t fs a) b)

each_row : (b : Bool) (w : Fields → Fields) (s further : Rows) → ((gs : Fields) → normal_row gs ≡ true → names_in_order (w gs) ≡ true) → ((gs : Fields) → normal_row gs ≡ true → each_normal (w gs) ≡ true)
    → are_normal_rows s ≡ true → are_normal_rows further ≡ true → are_normal_rows (meet_each b w s further) ≡ true
each_row b w no_rows further n k a f = f
each_row b w (more_rows c gs s) further n k a f =
    put_normal_normal (b || c) (w gs) (meet_each b w s further) (n gs (left _ _ a)) (k gs (left _ _ a))
    (each_row b w s further n k (right (comes_first c gs s) _ (right (normal_row gs) _ a)) f)

mutual
  pub meet_normal : (t u : Term) → is_normal t ≡ true → is_normal u ≡ true → is_normal (meet t u) ≡ true
  meet_normal (term f r) (term g s) p q =
      both _ _ (both_normal f g (left _ _ p) (left _ _ q)) (meet_rows_normal r s (right (is_normal_free f) _ p) (right (is_normal_free g) _ q))

  meet_rows_normal : (r s : Rows) → are_normal_rows r ≡ true → are_normal_rows s ≡ true → are_normal_rows (meet_rows r s) ≡ true
  meet_rows_normal no_rows s p q = refl
  meet_rows_normal (more_rows b fs r) s p q =
      each_row b (meet_fields fs) s (meet_rows r s)
      (λ gs n. meet_names fs gs (left _ _ (left (normal_row fs) _ p)) (left _ _ n))
      (λ gs n. meet_each_normal fs gs (fields_each fs (right (names_in_order fs) _ (left (normal_row fs) _ p))) (fields_each gs (right (names_in_order gs) _ n)))
      q (meet_rows_normal r s (right (comes_first b fs r) _ (right (normal_row fs) _ p)) q)

  pub meet_each_normal : (fs gs : Fields) → each_normal fs ≡ true → each_normal gs ≡ true → each_normal (meet_fields fs gs) ≡ true
  meet_each_normal no_fields gs a b = b
  meet_each_normal (more_fields p t fs) gs a b =
      field_each p t (meet t) (meet_fields fs gs) (left _ _ a) (λ u k. meet_normal t u (left _ _ a) k) (meet_each_normal fs gs (right (is_normal t) _ a) b)

-- types that are widened
widen_first : (p : List ℕ) (fs : Fields) → names_first p fs ≡ true → names_first p (widen_fields fs) ≡ true
widen_first p no_fields a = refl
widen_first p (more_fields q t fs) a = a

widen_names : (fs : Fields) → names_in_order fs ≡ true → names_in_order (widen_fields fs) ≡ true
widen_names no_fields a = refl
widen_names (more_fields p t fs) a = names_cons p (widen t) (widen_fields fs) (widen_first p fs (names_head p t fs a)) (widen_names fs (names_tail p t fs a))

mutual
  pub widen_normal : (t : Term) → is_normal t ≡ true → is_normal (widen t) ≡ true
  widen_normal (term f r) p = both _ _ (left _ _ p) (widen_rows_normal r (right (is_normal_free f) _ p))

  widen_rows_normal : (r : Rows) → are_normal_rows r ≡ true → are_normal_rows (widen_rows r) ≡ true
  widen_rows_normal no_rows p = refl
  widen_rows_normal (more_rows true fs r) p =
      put_normal_normal true (widen_fields fs) (widen_rows r) (widen_names fs (left _ _ (left (normal_row fs) _ p)))
      (widen_each fs (right (names_in_order fs) _ (left (normal_row fs) _ p))) (widen_rows_normal r (right (comes_first true fs r) _ (right (normal_row fs) _ p)))
  widen_rows_normal (more_rows false fs r) p =
      put_row_normal false no_fields (widen_rows r) refl (widen_rows_normal r (right (comes_first false fs r) _ (right (normal_row fs) _ p)))

  widen_each : (fs : Fields) → are_normal_fields fs ≡ true → each_normal (widen_fields fs) ≡ true
  widen_each no_fields p = refl
  widen_each (more_fields q t fs) p = both _ _ (widen_normal t (left _ _ p)) (widen_each fs (right (not (is_empty t || is_unknown t)) _ (right (is_normal t) _ p)))

at_first_by : (n p q : List ℕ) (b : Bool) (t : Term) (fs : Fields) (lost : Bool) → is_lt (name_cmp p q) ≡ true → names_first p (widen_fields_at n b fs) ≡ true
    → names_first p (if lost then widen_fields_at n b fs else more_fields q (widen_at n t) (widen_fields_at n b fs)) ≡ true
at_first_by n p q b t fs true a ih = ih
at_first_by n p q b t fs false a ih = a

at_first : (n p : List ℕ) (b : Bool) (fs : Fields) → names_first p fs ≡ true → names_in_order fs ≡ true → names_first p (widen_fields_at n b fs) ≡ true
at_first n p b no_fields a o = refl
at_first n p b (more_fields q t fs) a o =
    at_first_by n p q b t fs (not b && bytes_eq q n) a (at_first n p b fs (names_later p q fs a (names_head q t fs o)) (names_tail q t fs o))

at_names_by : (n p : List ℕ) (b : Bool) (t : Term) (fs : Fields) (lost : Bool) → names_first p (widen_fields_at n b fs) ≡ true → names_in_order (widen_fields_at n b fs) ≡ true
    → names_in_order (if lost then widen_fields_at n b fs else more_fields p (widen_at n t) (widen_fields_at n b fs)) ≡ true
at_names_by n p b t fs true a ih = ih
at_names_by n p b t fs false a ih = names_cons p (widen_at n t) (widen_fields_at n b fs) a ih

at_names : (n : List ℕ) (b : Bool) (fs : Fields) → names_in_order fs ≡ true → names_in_order (widen_fields_at n b fs) ≡ true
at_names n b no_fields o = refl
at_names n b (more_fields p t fs) o =
    at_names_by n p b t fs (not b && bytes_eq p n) (at_first n p b fs (names_head p t fs o) (names_tail p t fs o)) (at_names n b fs (names_tail p t fs o))

at_each_by : (n p : List ℕ) (b : Bool) (t : Term) (fs : Fields) (lost : Bool) → is_normal (widen_at n t) ≡ true → each_normal (widen_fields_at n b fs) ≡ true
    → each_normal (if lost then widen_fields_at n b fs else more_fields p (widen_at n t) (widen_fields_at n b fs)) ≡ true
at_each_by n p b t fs true a ih = ih
at_each_by n p b t fs false a ih = both _ _ a ih

mutual
  pub widen_at_normal : (n : List ℕ) (t : Term) → is_normal t ≡ true → is_normal (widen_at n t) ≡ true
  widen_at_normal n (term f r) p = both _ _ (left _ _ p) (at_rows_normal n r (right (is_normal_free f) _ p))

  at_rows_normal : (n : List ℕ) (r : Rows) → are_normal_rows r ≡ true → are_normal_rows (widen_rows_at n r) ≡ true
  at_rows_normal n no_rows p = refl
  at_rows_normal n (more_rows b fs r) p =
      put_normal_normal b (widen_fields_at n b fs) (widen_rows_at n r) (at_names n b fs (left _ _ (left (normal_row fs) _ p)))
      (at_each n b fs (right (names_in_order fs) _ (left (normal_row fs) _ p))) (at_rows_normal n r (right (comes_first b fs r) _ (right (normal_row fs) _ p)))

  at_each : (n : List ℕ) (b : Bool) (fs : Fields) → are_normal_fields fs ≡ true → each_normal (widen_fields_at n b fs) ≡ true
  at_each n b no_fields p = refl
  at_each n b (more_fields q t fs) p =
      at_each_by n q b t fs (not b && bytes_eq q n) (widen_at_normal n t (left _ _ p)) (at_each n b fs (right (not (is_empty t || is_unknown t)) _ (right (is_normal t) _ p)))

-- complements, and types that are cut
other_normal : (r : Rows) → are_normal_rows (other_tables r) ≡ true
other_normal no_rows = refl
other_normal (more_rows b fs r) = refl

pub not_free_normal : (t : Term) → is_normal t ≡ true → is_normal (not_free t) ≡ true
not_free_normal (term f r) p = both _ _ (outside_normal f (left _ _ p)) (other_normal r)

few_by : (b : Bool) → are_normal_rows (if b then any_table else no_rows) ≡ true
few_by true = refl
few_by false = refl

few_normal : (t : Term) → is_normal t ≡ true → is_normal (few_values t) ≡ true
few_normal (term f r) p = both _ _ (left _ _ p) (few_by (has_any_table r))

many_normal : (t : Term) → is_normal t ≡ true → is_normal (many_values t) ≡ true
many_normal (term f r) p = both _ _ (left _ _ p) refl

down_by : (t : Term) (b : Bool) → is_normal t ≡ true → is_normal (if b then t else few_values t) ≡ true
down_by t true p = p
down_by t false p = few_normal t p

up_by : (t : Term) (b : Bool) → is_normal t ≡ true → is_normal (if b then t else many_values t) ≡ true
up_by t true p = p
up_by t false p = many_normal t p

pub cut_down_normal : (t : Term) → is_normal t ≡ true → is_normal (cut_down t) ≡ true
cut_down_normal t p = down_by t (is_small t) p

pub cut_up_normal : (t : Term) → is_normal t ≡ true → is_normal (cut_up t) ≡ true
cut_up_normal t p = up_by t (is_small t) p

-- what comes before what comes before comes before
trans_then : (a b c d e f : Ordering) → (a ≡ Less → b ≡ Less → c ≡ Less) → (a ≡ Equal → c ≡ b) → (b ≡ Equal → c ≡ a) → (d ≡ Less → e ≡ Less → f ≡ Less)
    → ordering_then a d ≡ Less → ordering_then b e ≡ Less → ordering_then c f ≡ Less
trans_then Less Less c d e f t p q s x y = ap (λ (o : Ordering). ordering_then o f) (t refl refl)
trans_then Less Equal c d e f t p q s x y = ap (λ (o : Ordering). ordering_then o f) (q refl)
trans_then Less Greater c d e f t p q s x y = cc
trans_then Equal Less c d e f t p q s x y = ap (λ (o : Ordering). ordering_then o f) (p refl)
trans_then Equal Equal c d e f t p q s x y = ap (λ (o : Ordering). ordering_then o f) (p refl) ∙ s x y
trans_then Equal Greater c d e f t p q s x y = cc
trans_then Greater b c d e f t p q s x y = cc

step : {X : Type 0} (cmp : X → X → Ordering) → Separates cmp → ((x y z : X) → cmp x y ≡ Less → cmp y z ≡ Less → cmp x z ≡ Less) → (x y z : X) (d e f : Ordering)
    → (d ≡ Less → e ≡ Less → f ≡ Less) → ordering_then (cmp x y) d ≡ Less → ordering_then (cmp y z) e ≡ Less → ordering_then (cmp x z) f ≡ Less
step cmp ties trans x y z d e f s = trans_then (cmp x y) (cmp y z) (cmp x z) d e f (trans x y z) (λ k. ap (λ w. cmp w z) (ties x y k)) (λ k. ap (cmp x) (sym (ties y z k))) s

members_trans : {X : Type 0} (cmp : X → X → Ordering) → IsTotalOrder cmp → (a b c : Members X) → members_cmp cmp a b ≡ Less → members_cmp cmp b c ≡ Less → members_cmp cmp a c ≡ Less
members_trans cmp total (only xs) (only ys) (only zs) p q = (lists_total total).trans xs ys zs p q
members_trans cmp total (only xs) (only ys) (all_but zs) p q = refl
members_trans cmp total (only xs) (all_but ys) (only zs) p q = cc
members_trans cmp total (only xs) (all_but ys) (all_but zs) p q = refl
members_trans cmp total (all_but xs) (only ys) c p q = cc
members_trans cmp total (all_but xs) (all_but ys) (only zs) p q = cc
members_trans cmp total (all_but xs) (all_but ys) (all_but zs) p q = (lists_total total).trans xs ys zs p q

free_trans : (a b c : Free) → free_cmp a b ≡ Less → free_cmp b c ≡ Less → free_cmp a c ≡ Less
free_trans a b c =
    step bool_cmp truth_ties bool_cmp_total.trans a.nil b.nil c.nil _ _ _
    (step bool_cmp truth_ties bool_cmp_total.trans a.truth b.truth c.truth _ _ _
    (step bool_cmp truth_ties bool_cmp_total.trans a.falsity b.falsity c.falsity _ _ _
    (step bool_cmp truth_ties bool_cmp_total.trans a.number b.number c.number _ _ _
    (step bool_cmp truth_ties bool_cmp_total.trans a.other b.other c.other _ _ _
    (step (members_cmp name_cmp) (members_ties name_cmp name_ties) (members_trans name_cmp names_total) a.strings b.strings c.strings _ _ _
    (members_trans function_cmp functions_total a.functions b.functions c.functions))))))

names_left : (fs gs hs : Fields) → names_cmp fs gs ≡ Equal → names_cmp fs hs ≡ names_cmp gs hs
names_left no_fields no_fields hs e = refl
names_left no_fields (more_fields q u gs) hs e = cc
names_left (more_fields p t fs) no_fields hs e = cc
names_left (more_fields p t fs) (more_fields q u gs) no_fields e = refl
names_left (more_fields p t fs) (more_fields q u gs) (more_fields s v hs) e =
    let x = name_ties p q (first_ties _ _ e) in
    let y = names_left fs gs hs (second_ties (name_cmp p q) _ e) in
    λ i. ordering_then (name_cmp (x i) s) (y i)

names_right : (fs gs hs : Fields) → names_cmp gs hs ≡ Equal → names_cmp fs hs ≡ names_cmp fs gs
names_right fs no_fields no_fields e = refl
names_right fs no_fields (more_fields s v hs) e = cc
names_right fs (more_fields q u gs) no_fields e = cc
names_right no_fields (more_fields q u gs) (more_fields s v hs) e = refl
names_right (more_fields p t fs) (more_fields q u gs) (more_fields s v hs) e =
    let x = sym (name_ties q s (first_ties _ _ e)) in
    let y = names_right fs gs hs (second_ties (name_cmp q s) _ e) in
    λ i. ordering_then (name_cmp p (x i)) (y i)

names_trans : (fs gs hs : Fields) → names_cmp fs gs ≡ Less → names_cmp gs hs ≡ Less → names_cmp fs hs ≡ Less
names_trans no_fields no_fields hs p q = cc
names_trans no_fields (more_fields n u gs) no_fields p q = cc
names_trans no_fields (more_fields n u gs) (more_fields s v hs) p q = refl
names_trans (more_fields m t fs) no_fields hs p q = cc
names_trans (more_fields m t fs) (more_fields n u gs) no_fields p q = cc
names_trans (more_fields m t fs) (more_fields n u gs) (more_fields s v hs) p q =
    step name_cmp name_ties names_total.trans m n s _ _ _ (names_trans fs gs hs) p q

types_left : (fs gs hs : Fields) → types_cmp fs gs ≡ Equal → types_cmp fs hs ≡ types_cmp gs hs
types_left no_fields no_fields hs e = refl
types_left no_fields (more_fields q u gs) hs e = cc
types_left (more_fields p t fs) no_fields hs e = cc
types_left (more_fields p t fs) (more_fields q u gs) no_fields e = refl
types_left (more_fields p t fs) (more_fields q u gs) (more_fields s v hs) e =
    let x = term_ties t u (first_ties _ _ e) in
    let y = types_left fs gs hs (second_ties (term_cmp t u) _ e) in
    λ i. ordering_then (term_cmp (x i) v) (y i)

types_right : (fs gs hs : Fields) → types_cmp gs hs ≡ Equal → types_cmp fs hs ≡ types_cmp fs gs
types_right fs no_fields no_fields e = refl
types_right fs no_fields (more_fields s v hs) e = cc
types_right fs (more_fields q u gs) no_fields e = cc
types_right no_fields (more_fields q u gs) (more_fields s v hs) e = refl
types_right (more_fields p t fs) (more_fields q u gs) (more_fields s v hs) e =
    let x = sym (term_ties u v (first_ties _ _ e)) in
    let y = types_right fs gs hs (second_ties (term_cmp u v) _ e) in
    λ i. ordering_then (term_cmp t (x i)) (y i)

mutual
  term_trans : (t u v : Term) → term_cmp t u ≡ Less → term_cmp u v ≡ Less → term_cmp t v ≡ Less
  term_trans (term f r) (term g s) (term h o) p q = step free_cmp free_ties free_trans f g h _ _ _ (rows_trans r s o) p q

  rows_trans : (r s o : Rows) → rows_cmp r s ≡ Less → rows_cmp s o ≡ Less → rows_cmp r o ≡ Less
  rows_trans no_rows no_rows o p q = cc
  rows_trans no_rows (more_rows c gs s) no_rows p q = cc
  rows_trans no_rows (more_rows c gs s) (more_rows d hs o) p q = refl
  rows_trans (more_rows b fs r) no_rows o p q = cc
  rows_trans (more_rows b fs r) (more_rows c gs s) no_rows p q = cc
  rows_trans (more_rows b fs r) (more_rows c gs s) (more_rows d hs o) p q =
      step bool_cmp truth_ties bool_cmp_total.trans b c d _ _ _
      (trans_then (names_cmp fs gs) (names_cmp gs hs) (names_cmp fs hs) _ _ _ (names_trans fs gs hs) (names_left fs gs hs) (names_right fs gs hs)
      (trans_then (types_cmp fs gs) (types_cmp gs hs) (types_cmp fs hs) _ _ _ (types_trans fs gs hs) (types_left fs gs hs) (types_right fs gs hs) (rows_trans r s o))) p q

  types_trans : (fs gs hs : Fields) → types_cmp fs gs ≡ Less → types_cmp gs hs ≡ Less → types_cmp fs hs ≡ Less
  types_trans no_fields no_fields hs p q = cc
  types_trans no_fields (more_fields n u gs) no_fields p q = cc
  types_trans no_fields (more_fields n u gs) (more_fields s v hs) p q = refl
  types_trans (more_fields m t fs) no_fields hs p q = cc
  types_trans (more_fields m t fs) (more_fields n u gs) no_fields p q = cc
  types_trans (more_fields m t fs) (more_fields n u gs) (more_fields s v hs) p q =
      trans_then (term_cmp t u) (term_cmp u v) (term_cmp t v) _ _ _ (term_trans t u v) (λ k. ap (λ (w : Term). term_cmp w v) (term_ties t u k)) (λ k. ap (term_cmp t) (sym (term_ties u v k))) (types_trans fs gs hs) p q

row_trans : (b c d : Bool) (fs gs hs : Fields) → row_cmp b fs c gs ≡ Less → row_cmp c gs d hs ≡ Less → row_cmp b fs d hs ≡ Less
row_trans b c d fs gs hs =
    step bool_cmp truth_ties bool_cmp_total.trans b c d _ _ _
    (trans_then (names_cmp fs gs) (names_cmp gs hs) (names_cmp fs hs) _ _ _ (names_trans fs gs hs) (names_left fs gs hs) (names_right fs gs hs) (types_trans fs gs hs))

-- rows that are dropped
rows_later : (b c : Bool) (fs gs : Fields) (r : Rows) → is_lt (row_cmp b fs c gs) ≡ true → comes_first c gs r ≡ true → comes_first b fs r ≡ true
rows_later b c fs gs no_rows p q = refl
rows_later b c fs gs (more_rows d hs r) p q = ap is_lt (row_trans b c d fs gs hs (lt_is (row_cmp b fs c gs) p) (lt_is (row_cmp c gs d hs) q))

first_kept : (b c : Bool) (fs gs : Fields) (rest : Rows) (keep : Bool) → is_lt (row_cmp b fs c gs) ≡ true → comes_first b fs rest ≡ true → comes_first b fs (if keep then more_rows c gs rest else rest) ≡ true
first_kept b c fs gs rest true p q = p
first_kept b c fs gs rest false p q = q

rows_kept_by : (c : Bool) (gs : Fields) (rest : Rows) (keep : Bool) → normal_row gs ≡ true → comes_first c gs rest ≡ true → are_normal_rows rest ≡ true → are_normal_rows (if keep then more_rows c gs rest else rest) ≡ true
rows_kept_by c gs rest true n p q = both _ _ n (both _ _ p q)
rows_kept_by c gs rest false n p q = q

strip_first : (b : Bool) (fs : Fields) (r : Rows) → comes_first b fs r ≡ true → are_normal_rows r ≡ true → comes_first b fs (strip_rows r) ≡ true
strip_first b fs no_rows p n = refl
strip_first b fs (more_rows c gs r) p n =
    first_kept b c fs gs (strip_rows r) (heap_free_row c gs) p
    (strip_first b fs r (rows_later b c fs gs r p (left _ _ (right (normal_row gs) _ n))) (right (comes_first c gs r) _ (right (normal_row gs) _ n)))

strip_rows_normal : (r : Rows) → are_normal_rows r ≡ true → are_normal_rows (strip_rows r) ≡ true
strip_rows_normal no_rows n = refl
strip_rows_normal (more_rows c gs r) n =
    rows_kept_by c gs (strip_rows r) (heap_free_row c gs) (left _ _ n)
    (strip_first c gs r (left _ _ (right (normal_row gs) _ n)) (right (comes_first c gs r) _ (right (normal_row gs) _ n)))
    (strip_rows_normal r (right (comes_first c gs r) _ (right (normal_row gs) _ n)))

pub strip_normal : (t : Term) → is_normal t ≡ true → is_normal (strip t) ≡ true
strip_normal (term f r) p = both _ _ (left _ _ p) (strip_rows_normal r (right (is_normal_free f) _ p))

strip_at_first : (n : List ℕ) (b : Bool) (fs : Fields) (r : Rows) → comes_first b fs r ≡ true → are_normal_rows r ≡ true → comes_first b fs (strip_rows_at n r) ≡ true
strip_at_first n b fs no_rows p a = refl
strip_at_first n b fs (more_rows c gs r) p a =
    first_kept b c fs gs (strip_rows_at n r) (heap_free_row c gs || not (fields_list n gs)) p
    (strip_at_first n b fs r (rows_later b c fs gs r p (left _ _ (right (normal_row gs) _ a))) (right (comes_first c gs r) _ (right (normal_row gs) _ a)))

strip_rows_at_normal : (n : List ℕ) (r : Rows) → are_normal_rows r ≡ true → are_normal_rows (strip_rows_at n r) ≡ true
strip_rows_at_normal n no_rows a = refl
strip_rows_at_normal n (more_rows c gs r) a =
    rows_kept_by c gs (strip_rows_at n r) (heap_free_row c gs || not (fields_list n gs)) (left _ _ a)
    (strip_at_first n c gs r (left _ _ (right (normal_row gs) _ a)) (right (comes_first c gs r) _ (right (normal_row gs) _ a)))
    (strip_rows_at_normal n r (right (comes_first c gs r) _ (right (normal_row gs) _ a)))

pub strip_at_normal : (n : List ℕ) (t : Term) → is_normal t ≡ true → is_normal (strip_at n t) ≡ true
strip_at_normal n (term f r) p = both _ _ (left _ _ p) (strip_rows_at_normal n r (right (is_normal_free f) _ p))
