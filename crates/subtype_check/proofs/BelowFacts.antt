-- Facts on subtyping.
use Rattle.std.proofs.Common.{◌≡◌, ℕ, Bool, true, false, not, List, [], ◌∷◌, refl, sym, ap, ◌∙◌}
use Rattle.std.specs.Prelude.{◌||◌, ◌&&◌, if◌then◌else◌}
use Rattle.std.specs.List.{list_all}
use Rattle.std.specs.Str.{bytes_eq}
use Rattle.std.specs.Ordering.{is_eq, is_lt}
use Rattle.std.specs.Cmp.{IsTotalOrder}
use Rattle.std.specs.declared.cmp.Ordering.{Ordering}
use Rattle.std.specs.declared.cmp.Ordering.TheVariants.{Less, Equal, Greater}
use Rattle.std.proofs.lemmas.Cmp.{tied_itself}
use Rattle.std.proofs.lemmas.Slice.Eq.{bytes_eq-Decides}
use Rattle.type_arena.specs.Term.{Members, only, all_but, builtin, literal, Free, Term, term, Rows, no_rows, more_rows, Fields, no_fields, more_fields}
use Rattle.luau_values.specs.Value.{Value, Nil, Truth, Num, Str, Tab, Lit, Builtin, Other}
use Rattle.luau_values.specs.Heap.{Heap, is_frozen, field_of}
use Rattle.type_normal.specs.Members.{has_member, is_member}
use Rattle.type_normal.specs.Free.{name_cmp, function_cmp, belongs, all_values, is_normal_free}
use Rattle.type_normal.specs.Rows.{any_table, names_in_order, is_empty, is_unknown, comes_first, is_normal, are_normal_rows, are_normal_fields}
use Rattle.type_normal.specs.Holds.{holds, holds_rows, holds_fields}
use Rattle.type_normal.specs.HeapFree.{has_field}
use Rattle.type_normal.specs.Kinds.{unknown}
use Rattle.type_normal.specs.Field.{listed_type}
use Rattle.type_normal.proofs.OrderFacts.{names_total, functions_total, name_ties, function_ties, Separates}
use Rattle.type_normal.proofs.HoldsFacts.{left, right, both, either, in_left, in_right, in_row}
use Rattle.type_normal.proofs.FieldFacts.{listed_holds}
use Rattle.subtype_check.specs.Below.{is_subset, implies, free_below, each_row, is_above, rows_above, fields_above, below}

implied : (a b : Bool) → implies a b ≡ true → a ≡ true → b ≡ true
implied true b e k = e
implied false b e k = cc

implies_itself : (a : Bool) → implies a a ≡ true
implies_itself true = refl
implies_itself false = refl

implies_chain : (a b c : Bool) → implies a b ≡ true → implies b c ≡ true → implies a c ≡ true
implies_chain true true c e f = f
implies_chain true false c e f = cc
implies_chain false b c e f = refl

not_both : (a : Bool) (P : Type 0) → a ≡ true → not a ≡ true → P
not_both true P e f = cc
not_both false P e f = cc

-- a test that passes at each member passes at what counts as one
module _ {X : Type 0} (cmp : X → X → Ordering) (order : IsTotalOrder cmp) (ties : Separates cmp) where
  at_member_by : (test : X → Bool) (x y : X) (ys : List X) (o : Ordering) → cmp x y ≡ o → test y ≡ true → (has_member cmp x ys ≡ true → test x ≡ true)
      → is_eq o || has_member cmp x ys ≡ true → test x ≡ true
  at_member_by test x y ys Less e k ih m = ih m
  at_member_by test x y ys Equal e k ih m = ap test (ties x y e) ∙ k
  at_member_by test x y ys Greater e k ih m = ih m

  pub at_member : (test : X → Bool) (x : X) (ys : List X) → list_all test ys ≡ true → has_member cmp x ys ≡ true → test x ≡ true
  at_member test x [] a m = cc
  at_member test x (y ∷ ys) a m =
      at_member_by test x y ys (cmp x y) refl (left (test y) (list_all test ys) a) (at_member test x ys (right (test y) (list_all test ys) a)) m

  member_not : (x : X) (xs ys : List X) → (has_member cmp x ys ≡ true → has_member cmp x xs ≡ true) → not (has_member cmp x xs) ≡ true → not (has_member cmp x ys) ≡ true
  member_not x xs ys h e = go (has_member cmp x ys) refl
    where
      go : (b : Bool) → has_member cmp x ys ≡ b → not b ≡ true
      go true k = not_both (has_member cmp x xs) (false ≡ true) (h k) e
      go false k = refl

  pub subset_member : (x : X) (a b : Members X) → is_subset cmp a b ≡ true → is_member cmp x a ≡ true → is_member cmp x b ≡ true
  subset_member x (only xs) (only ys) s m = at_member (λ z. has_member cmp z ys) x xs s m
  subset_member x (only xs) (all_but ys) s m = at_member (λ z. not (has_member cmp z ys)) x xs s m
  subset_member x (all_but xs) (only ys) s m = cc
  subset_member x (all_but xs) (all_but ys) s m = member_not x xs ys (at_member (λ z. has_member cmp z xs) x ys s) m

  -- from a test at each member to one that it implies
  all_more : (p q : X → Bool) (xs : List X) → ((x : X) → p x ≡ true → q x ≡ true) → list_all p xs ≡ true → list_all q xs ≡ true
  all_more p q [] h a = refl
  all_more p q (x ∷ xs) h a = both (q x) (list_all q xs) (h x (left (p x) (list_all p xs) a)) (all_more p q xs h (right (p x) (list_all p xs) a))

  pub subset_chain : (a b c : Members X) → is_subset cmp a b ≡ true → is_subset cmp b c ≡ true → is_subset cmp a c ≡ true
  subset_chain (only xs) (only ys) (only zs) s t = all_more (λ x. has_member cmp x ys) (λ x. has_member cmp x zs) xs (λ x m. at_member (λ z. has_member cmp z zs) x ys t m) s
  subset_chain (only xs) (only ys) (all_but zs) s t = all_more (λ x. has_member cmp x ys) (λ x. not (has_member cmp x zs)) xs (λ x m. at_member (λ z. not (has_member cmp z zs)) x ys t m) s
  subset_chain (only xs) (all_but ys) (only zs) s t = cc
  subset_chain (only xs) (all_but ys) (all_but zs) s t =
      all_more (λ x. not (has_member cmp x ys)) (λ x. not (has_member cmp x zs)) xs (λ x m. member_not x ys zs (at_member (λ z. has_member cmp z ys) x zs t) m) s
  subset_chain (all_but xs) (only ys) c s t = cc
  subset_chain (all_but xs) (all_but ys) (only zs) s t = cc
  subset_chain (all_but xs) (all_but ys) (all_but zs) s t = all_more (λ z. has_member cmp z ys) (λ z. has_member cmp z xs) zs (λ z m. at_member (λ w. has_member cmp w xs) z ys s m) t

  -- each member is a member
  has_more : (x y : X) (ys : List X) → has_member cmp x ys ≡ true → has_member cmp x (y ∷ ys) ≡ true
  has_more x y ys m = in_right (is_eq (cmp x y)) (has_member cmp x ys) m

  all_members : (xs : List X) → list_all (λ x. has_member cmp x xs) xs ≡ true
  all_members [] = refl
  all_members (x ∷ xs) =
      both (has_member cmp x (x ∷ xs)) (list_all (λ y. has_member cmp y (x ∷ xs)) xs) (rw (tied_itself order x) refl)
      (all_more (λ y. has_member cmp y xs) (λ y. has_member cmp y (x ∷ xs)) xs (λ y m. has_more y x xs m) (all_members xs))

  pub subset_itself : (a : Members X) → is_subset cmp a a ≡ true
  subset_itself (only xs) = all_members xs
  subset_itself (all_but xs) = all_members xs

-- the parts of a free part that is below another
record Parts (a b : Free) : Type 0 where
  nil : implies a.nil b.nil ≡ true
  truth : implies a.truth b.truth ≡ true
  falsity : implies a.falsity b.falsity ≡ true
  number : implies a.number b.number ≡ true
  other : implies a.other b.other ≡ true
  strings : is_subset name_cmp a.strings b.strings ≡ true
  functions : is_subset function_cmp a.functions b.functions ≡ true

parts_of : (a b : Free) → free_below a b ≡ true → Parts a b
parts_of a b e =
    let e1 = right (implies a.nil b.nil) _ e in
    let e2 = right (implies a.truth b.truth) _ e1 in
    let e3 = right (implies a.falsity b.falsity) _ e2 in
    let e4 = right (implies a.number b.number) _ e3 in
    let e5 = right (implies a.other b.other) _ e4 in
    record {
      nil = left (implies a.nil b.nil) _ e;
      truth = left (implies a.truth b.truth) _ e1;
      falsity = left (implies a.falsity b.falsity) _ e2;
      number = left (implies a.number b.number) _ e3;
      other = left (implies a.other b.other) _ e4;
      strings = left (is_subset name_cmp a.strings b.strings) _ e5;
      functions = right (is_subset name_cmp a.strings b.strings) _ e5;
    }

of_parts : (a b : Free) → Parts a b → free_below a b ≡ true
of_parts a b p =
    both (implies a.nil b.nil) _ p.nil
    (both (implies a.truth b.truth) _ p.truth
    (both (implies a.falsity b.falsity) _ p.falsity
    (both (implies a.number b.number) _ p.number
    (both (implies a.other b.other) _ p.other
    (both (is_subset name_cmp a.strings b.strings) (is_subset function_cmp a.functions b.functions) p.strings p.functions)))))

belongs_above : (f g : Free) (t u : ℕ → Bool) (v : Value) → free_below f g ≡ true → ((a : ℕ) → t a ≡ true → u a ≡ true) → belongs f t v ≡ true → belongs g u v ≡ true
belongs_above f g t u Nil e h k = implied f.nil g.nil (parts_of f g e).nil k
belongs_above f g t u (Truth true) e h k = implied f.truth g.truth (parts_of f g e).truth k
belongs_above f g t u (Truth false) e h k = implied f.falsity g.falsity (parts_of f g e).falsity k
belongs_above f g t u (Num n) e h k = implied f.number g.number (parts_of f g e).number k
belongs_above f g t u (Str s) e h k = subset_member name_cmp names_total name_ties s f.strings g.strings (parts_of f g e).strings k
belongs_above f g t u (Tab a) e h k = h a k
belongs_above f g t u (Lit m n c) e h k = subset_member function_cmp functions_total function_ties (literal m n) f.functions g.functions (parts_of f g e).functions k
belongs_above f g t u (Builtin p) e h k = subset_member function_cmp functions_total function_ties (builtin p) f.functions g.functions (parts_of f g e).functions k
belongs_above f g t u (Other n) e h k = implied f.other g.other (parts_of f g e).other k

marks_above : (b c fr : Bool) → b || not c ≡ true → not b || fr ≡ true → not c || fr ≡ true
marks_above true c fr e k = in_right (not c) fr k
marks_above false true fr e k = cc
marks_above false false fr e k = refl

-- what is below is included, in every heap
under_each : (h : Heap) (a : ℕ) (s r : Rows) → ((b : Bool) (fs : Fields) → rows_above s b fs ≡ true → in_row h a b fs ≡ true → holds_rows h a s ≡ true)
    → each_row (λ b fs. rows_above s b fs) r ≡ true → holds_rows h a r ≡ true → holds_rows h a s ≡ true
under_each h a s no_rows up e k = cc
under_each h a s (more_rows b fs r) up e k =
    either (in_row h a b fs) (holds_rows h a r) (holds_rows h a s ≡ true) k
    (up b fs (left (rows_above s b fs) (each_row (λ c gs. rows_above s c gs) r) e))
    (under_each h a s r up (right (rows_above s b fs) (each_row (λ c gs. rows_above s c gs) r) e))

mutual
  pub above_includes : (h : Heap) (v : Value) (u t : Term) → is_above u t ≡ true → holds h v t ≡ true → holds h v u ≡ true
  above_includes h v (term g s) (term f r) e =
      belongs_above f g (λ a. holds_rows h a r) (λ a. holds_rows h a s) v (left (free_below f g) (each_row (λ b fs. rows_above s b fs) r) e)
      (λ a. under_each h a s r (λ b fs. rows_above_include h a s b fs) (right (free_below f g) (each_row (λ b fs. rows_above s b fs) r) e))

  rows_above_include : (h : Heap) (a : ℕ) (s : Rows) (b : Bool) (fs : Fields) → rows_above s b fs ≡ true → in_row h a b fs ≡ true → holds_rows h a s ≡ true
  rows_above_include h a no_rows b fs e k = cc
  rows_above_include h a (more_rows c gs s) b fs e k =
      either ((b || not c) && fields_above gs fs) (rows_above s b fs) (in_row h a c gs || holds_rows h a s ≡ true) e
      (λ x. in_left (in_row h a c gs) (holds_rows h a s)
      (both (not c || is_frozen h a) (holds_fields h a gs)
      (marks_above b c (is_frozen h a) (left (b || not c) (fields_above gs fs) x) (left (not b || is_frozen h a) (holds_fields h a fs) k))
      (fields_above_include h a gs fs (right (b || not c) (fields_above gs fs) x) (right (not b || is_frozen h a) (holds_fields h a fs) k))))
      (λ x. in_right (in_row h a c gs) (holds_rows h a s) (rows_above_include h a s b fs x k))

  fields_above_include : (h : Heap) (a : ℕ) (gs fs : Fields) → fields_above gs fs ≡ true → holds_fields h a fs ≡ true → holds_fields h a gs ≡ true
  fields_above_include h a no_fields fs e k = refl
  fields_above_include h a (more_fields p u gs) fs e k =
      both (holds h (field_of h a p) u) (holds_fields h a gs)
      (above_includes h (field_of h a p) u (listed_type p fs) (left (is_above u (listed_type p fs)) (fields_above gs fs) e) (listed_holds h a p fs k))
      (fields_above_include h a gs fs (right (is_above u (listed_type p fs)) (fields_above gs fs) e) k)

pub below_includes : (h : Heap) (v : Value) (t u : Term) → below t u ≡ true → holds h v t ≡ true → holds h v u ≡ true
below_includes h v t u e = above_includes h v u t e

-- unknown is above all
all_pass : {X : Type 0} (ys : List X) → list_all (λ y. true) ys ≡ true
all_pass [] = refl
all_pass (y ∷ ys) = all_pass ys

all_subset : {X : Type 0} (cmp : X → X → Ordering) (a : Members X) → is_subset cmp a (all_but []) ≡ true
all_subset cmp (only []) = refl
all_subset cmp (only (x ∷ xs)) = all_pass xs
all_subset cmp (all_but xs) = refl

implies_true : (a : Bool) → implies a true ≡ true
implies_true true = refl
implies_true false = refl

all_rows_below : (r : Rows) → each_row (λ b fs. rows_above any_table b fs) r ≡ true
all_rows_below no_rows = refl
all_rows_below (more_rows true fs r) = all_rows_below r
all_rows_below (more_rows false fs r) = all_rows_below r

pub unknown_above : (t : Term) → is_above unknown t ≡ true
unknown_above (term f r) =
    both (free_below f all_values) (each_row (λ b fs. rows_above any_table b fs) r)
    (of_parts f all_values (record {
      nil = implies_true f.nil;
      truth = implies_true f.truth;
      falsity = implies_true f.falsity;
      number = implies_true f.number;
      other = implies_true f.other;
      strings = all_subset name_cmp f.strings;
      functions = all_subset function_cmp f.functions;
    }))
    (all_rows_below r)

free_chain : (a b c : Free) → free_below a b ≡ true → free_below b c ≡ true → free_below a c ≡ true
free_chain a b c e f =
    let p = parts_of a b e in
    let q = parts_of b c f in
    of_parts a c (record {
      nil = implies_chain a.nil b.nil c.nil p.nil q.nil;
      truth = implies_chain a.truth b.truth c.truth p.truth q.truth;
      falsity = implies_chain a.falsity b.falsity c.falsity p.falsity q.falsity;
      number = implies_chain a.number b.number c.number p.number q.number;
      other = implies_chain a.other b.other c.other p.other q.other;
      strings = subset_chain name_cmp names_total name_ties a.strings b.strings c.strings p.strings q.strings;
      functions = subset_chain function_cmp functions_total function_ties a.functions b.functions c.functions p.functions q.functions;
    })

-- the type of a field that a row has for it is below that of a row above
listed_above_by : (p q : List ℕ) (u w : Term) (fs : Fields) (b : Bool) → bytes_eq q p ≡ b → is_above u (listed_type q fs) ≡ true → is_above w (listed_type p fs) ≡ true
    → is_above (if b then u else w) (listed_type p fs) ≡ true
listed_above_by p q u w fs true e k l = let same : p ≡ q = sym ((bytes_eq-Decides q p).0 e) in rw same k
listed_above_by p q u w fs false e k l = l

listed_above : (p : List ℕ) (gs fs : Fields) → fields_above gs fs ≡ true → is_above (listed_type p gs) (listed_type p fs) ≡ true
listed_above p no_fields fs e = unknown_above (listed_type p fs)
listed_above p (more_fields q u gs) fs e =
    listed_above_by p q u (listed_type p gs) fs (bytes_eq q p) refl (left (is_above u (listed_type q fs)) (fields_above gs fs) e)
    (listed_above p gs fs (right (is_above u (listed_type q fs)) (fields_above gs fs) e))

marks_chain : (b c d : Bool) → b || not c ≡ true → c || not d ≡ true → b || not d ≡ true
marks_chain true c d e f = refl
marks_chain false true d e f = cc
marks_chain false false d e f = f

each_chain : (s t r : Rows) → ((b : Bool) (fs : Fields) → rows_above s b fs ≡ true → rows_above t b fs ≡ true)
    → each_row (λ b fs. rows_above s b fs) r ≡ true → each_row (λ b fs. rows_above t b fs) r ≡ true
each_chain s t no_rows h e = refl
each_chain s t (more_rows b fs r) h e =
    both (rows_above t b fs) (each_row (λ c gs. rows_above t c gs) r) (h b fs (left (rows_above s b fs) (each_row (λ c gs. rows_above s c gs) r) e))
    (each_chain s t r h (right (rows_above s b fs) (each_row (λ c gs. rows_above s c gs) r) e))

rows_chain : (q s : Rows) (b : Bool) (fs : Fields)
    → ((c : Bool) (gs : Fields) → b || not c ≡ true → fields_above gs fs ≡ true → rows_above q c gs ≡ true → rows_above q b fs ≡ true)
    → each_row (λ c gs. rows_above q c gs) s ≡ true → rows_above s b fs ≡ true → rows_above q b fs ≡ true
rows_chain q no_rows b fs over e k = cc
rows_chain q (more_rows c gs s) b fs over e k =
    either ((b || not c) && fields_above gs fs) (rows_above s b fs) (rows_above q b fs ≡ true) k
    (λ x. over c gs (left (b || not c) (fields_above gs fs) x) (right (b || not c) (fields_above gs fs) x) (left (rows_above q c gs) (each_row (λ d hs. rows_above q d hs) s) e))
    (rows_chain q s b fs over (right (rows_above q c gs) (each_row (λ d hs. rows_above q d hs) s) e))

mutual
  pub above_chain : (w u t : Term) → is_above w u ≡ true → is_above u t ≡ true → is_above w t ≡ true
  above_chain (term i q) (term g s) (term f r) e k =
      both (free_below f i) (each_row (λ b fs. rows_above q b fs) r)
      (free_chain f g i (left (free_below f g) (each_row (λ b fs. rows_above s b fs) r) k) (left (free_below g i) (each_row (λ b fs. rows_above q b fs) s) e))
      (each_chain s q r (λ b fs. rows_chain q s b fs (λ c gs. over_chain q b c gs fs) (right (free_below g i) (each_row (λ c gs. rows_above q c gs) s) e)) (right (free_below f g) (each_row (λ b fs. rows_above s b fs) r) k))

  over_chain : (q : Rows) (b c : Bool) (gs fs : Fields) → b || not c ≡ true → fields_above gs fs ≡ true → rows_above q c gs ≡ true → rows_above q b fs ≡ true
  over_chain no_rows b c gs fs m k e = cc
  over_chain (more_rows d hs q) b c gs fs m k e =
      either ((c || not d) && fields_above hs gs) (rows_above q c gs) (((b || not d) && fields_above hs fs) || rows_above q b fs ≡ true) e
      (λ x. in_left ((b || not d) && fields_above hs fs) (rows_above q b fs)
      (both (b || not d) (fields_above hs fs) (marks_chain b c d m (left (c || not d) (fields_above hs gs) x)) (fields_chain hs gs fs (right (c || not d) (fields_above hs gs) x) k)))
      (λ x. in_right ((b || not d) && fields_above hs fs) (rows_above q b fs) (over_chain q b c gs fs m k x))

  fields_chain : (hs gs fs : Fields) → fields_above hs gs ≡ true → fields_above gs fs ≡ true → fields_above hs fs ≡ true
  fields_chain no_fields gs fs e k = refl
  fields_chain (more_fields p w hs) gs fs e k =
      both (is_above w (listed_type p fs)) (fields_above hs fs)
      (above_chain w (listed_type p gs) (listed_type p fs) (left (is_above w (listed_type p gs)) (fields_above hs gs) e) (listed_above p gs fs k))
      (fields_chain hs gs fs (right (is_above w (listed_type p gs)) (fields_above hs gs) e) k)

pub below_chain : (t u w : Term) → below t u ≡ true → below u w ≡ true → below t w ≡ true
below_chain t u w e f = above_chain w u t f e

-- in a row in normal form the names rise, so none stands twice
is_less : (o : Ordering) → is_lt o ≡ true → o ≡ Less
is_less Less e = refl
is_less Equal e = cc
is_less Greater e = cc

later_by : (q n p : List ℕ) (b c : Bool) → bytes_eq n p ≡ b → b || c ≡ true → name_cmp q n ≡ Less → (c ≡ true → name_cmp n p ≡ Less) → name_cmp q p ≡ Less
later_by q n p true c e k l h = ap (name_cmp q) (sym ((bytes_eq-Decides n p).0 e)) ∙ l
later_by q n p false c e k l h = names_total.trans q n p l (h k)

later_names : (q p : List ℕ) (t : Term) (fs : Fields) → names_in_order (more_fields q t fs) ≡ true → has_field p fs ≡ true → name_cmp q p ≡ Less
later_names q p t no_fields e k = cc
later_names q p t (more_fields n u fs) e k =
    later_by q n p (bytes_eq n p) (has_field p fs) refl k
    (is_less (name_cmp q n) (left (is_lt (name_cmp q n)) (names_in_order (more_fields n u fs)) e))
    (later_names n p u fs (right (is_lt (name_cmp q n)) (names_in_order (more_fields n u fs)) e))

name_once : (q : List ℕ) (t : Term) (fs : Fields) → names_in_order (more_fields q t fs) ≡ true → has_field q fs ≡ false
name_once q t fs e = go (has_field q fs) refl
  where
    go : (b : Bool) → has_field q fs ≡ b → b ≡ false
    go true k = let l : name_cmp q q ≡ Less = later_names q q t fs e k in let m : name_cmp q q ≡ Equal = tied_itself names_total q in cc
    go false k = refl

order_rest : (q : List ℕ) (t : Term) (fs : Fields) → names_in_order (more_fields q t fs) ≡ true → names_in_order fs ≡ true
order_rest q t no_fields e = refl
order_rest q t (more_fields n u fs) e = right (is_lt (name_cmp q n)) (names_in_order (more_fields n u fs)) e

not_first : (a b : Bool) → a || b ≡ false → a ≡ false
not_first true b e = e
not_first false b e = refl

not_second : (a b : Bool) → a || b ≡ false → b ≡ false
not_second true b e = cc
not_second false b e = e

listed_past : (p q : List ℕ) (t : Term) (fs : Fields) → bytes_eq q p ≡ false → listed_type p (more_fields q t fs) ≡ listed_type p fs
listed_past p q t fs e = rw e refl

other_way : (p q : List ℕ) → bytes_eq p q ≡ false → bytes_eq q p ≡ false
other_way p q e = go (bytes_eq q p) refl
  where
    go : (b : Bool) → bytes_eq q p ≡ b → b ≡ false
    go true k = let l : bytes_eq p q ≡ true = (bytes_eq-Decides p q).1 (sym ((bytes_eq-Decides q p).0 k)) in cc
    go false k = refl

-- a field of another name changes nothing
past_field : (q : List ℕ) (t : Term) (gs fs : Fields) → has_field q gs ≡ false → fields_above gs fs ≡ true → fields_above gs (more_fields q t fs) ≡ true
past_field q t no_fields fs n e = refl
past_field q t (more_fields p u gs) fs n e =
    let same : listed_type p (more_fields q t fs) ≡ listed_type p fs = listed_past p q t fs (other_way p q (not_first (bytes_eq p q) (has_field q gs) n)) in
    both (is_above u (listed_type p (more_fields q t fs))) (fields_above gs (more_fields q t fs))
    (rw same (left (is_above u (listed_type p fs)) (fields_above gs fs) e))
    (past_field q t gs fs (not_second (bytes_eq p q) (has_field q gs) n) (right (is_above u (listed_type p fs)) (fields_above gs fs) e))

listed_first : (p : List ℕ) (t : Term) (fs : Fields) → listed_type p (more_fields p t fs) ≡ t
listed_first p t fs = rw ((bytes_eq-Decides p p).1 refl) refl

mark_itself : (b : Bool) → b || not b ≡ true
mark_itself true = refl
mark_itself false = refl

free_itself : (f : Free) → free_below f f ≡ true
free_itself f =
    of_parts f f (record {
      nil = implies_itself f.nil;
      truth = implies_itself f.truth;
      falsity = implies_itself f.falsity;
      number = implies_itself f.number;
      other = implies_itself f.other;
      strings = subset_itself name_cmp names_total name_ties f.strings;
      functions = subset_itself function_cmp functions_total function_ties f.functions;
    })

mutual
  pub above_itself : (t : Term) → is_normal t ≡ true → is_above t t ≡ true
  above_itself (term f r) e =
      both (free_below f f) (each_row (λ b fs. rows_above r b fs) r) (free_itself f) (rows_above_themselves r (right (is_normal_free f) (are_normal_rows r) e))

  rows_above_themselves : (r : Rows) → are_normal_rows r ≡ true → each_row (λ b fs. rows_above r b fs) r ≡ true
  rows_above_themselves no_rows e = refl
  rows_above_themselves (more_rows b fs r) e =
      let own = left (names_in_order fs && are_normal_fields fs) (comes_first b fs r && are_normal_rows r) e in
      both (rows_above (more_rows b fs r) b fs) (each_row (λ c gs. rows_above (more_rows b fs r) c gs) r)
      (in_left ((b || not b) && fields_above fs fs) (rows_above r b fs)
      (both (b || not b) (fields_above fs fs) (mark_itself b)
      (fields_above_themselves fs (left (names_in_order fs) (are_normal_fields fs) own) (right (names_in_order fs) (are_normal_fields fs) own))))
      (each_chain r (more_rows b fs r) r (λ c gs k. in_right ((c || not b) && fields_above fs gs) (rows_above r c gs) k)
      (rows_above_themselves r (right (comes_first b fs r) (are_normal_rows r) (right (names_in_order fs && are_normal_fields fs) (comes_first b fs r && are_normal_rows r) e))))

  fields_above_themselves : (fs : Fields) → names_in_order fs ≡ true → are_normal_fields fs ≡ true → fields_above fs fs ≡ true
  fields_above_themselves no_fields o e = refl
  fields_above_themselves (more_fields p t fs) o e =
      both (is_above t (listed_type p (more_fields p t fs))) (fields_above fs (more_fields p t fs))
      (rw (listed_first p t fs) (above_itself t (left (is_normal t) (not (is_empty t || is_unknown t) && are_normal_fields fs) e)))
      (past_field p t fs fs (name_once p t fs o)
      (fields_above_themselves fs (order_rest p t fs o)
      (right (not (is_empty t || is_unknown t)) (are_normal_fields fs) (right (is_normal t) (not (is_empty t || is_unknown t) && are_normal_fields fs) e))))

pub below_itself : (t : Term) → is_normal t ≡ true → below t t ≡ true
below_itself = above_itself
