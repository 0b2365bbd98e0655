-- Which values belong to unions, meets and complements.
use Rattle.std.proofs.Common.{◌≡◌, ℕ, Bool, true, false, not, List, [], ◌∷◌, refl, sym, ap, ◌∙◌}
use Rattle.std.specs.Prelude.{◌||◌, ◌&&◌, if◌then◌else◌}
use Rattle.std.specs.declared.cmp.Ordering.{Ordering}
use Rattle.std.specs.declared.cmp.Ordering.TheVariants.{Less, Equal, Greater}
use Rattle.type_arena.specs.Term.{Members, only, all_but, builtin, literal, Free, Term, term, Rows, no_rows, more_rows, Fields, no_fields, more_fields}
use Rattle.luau_values.specs.Value.{Value, Nil, Truth, Num, Str, Tab, Lit, Builtin, Other}
use Rattle.luau_values.specs.Heap.{Heap, is_frozen, field_of}
use Rattle.type_normal.specs.Members.{by_order, is_member, is_no_set, is_whole_set}
use Rattle.type_normal.specs.Free.{name_cmp, function_cmp, belongs, either_free, both_free, outside_free, is_no_free, is_whole_free}
use Rattle.type_normal.specs.Rows.{row_cmp, put_row, put_rows, rows_in_order, is_empty, is_unknown, has_empty, known_fields, put_normal}
use Rattle.type_normal.specs.Holds.{holds, holds_rows, holds_fields}
use Rattle.type_normal.specs.Operations.{union, put_field, meet_each, meet, meet_rows, meet_fields, not_free, is_flat, fail}
use Rattle.type_normal.proofs.MembersFacts.{or_assoc, or_false, and_false, or_middle, or_twice, member-either, member-both, member-outside}
use Rattle.type_normal.proofs.OrderFacts.{name_ties, row_frozen_ties, row_fields_tie, names_total, functions_total}

-- both sides of what is true
pub left : (a b : Bool) → a && b ≡ true → a ≡ true
left true b e = refl
left false b e = e

pub right : (a b : Bool) → a && b ≡ true → b ≡ true
right true b e = e
right false b e = cc

pub both : (a b : Bool) → a ≡ true → b ≡ true → a && b ≡ true
both true b e f = f
both false b e f = cc

-- one side of what is true
pub either : (a b : Bool) (P : Type 0) → a || b ≡ true → (a ≡ true → P) → (b ≡ true → P) → P
either true b P e f g = f refl
either false b P e f g = g e

pub in_left : (a b : Bool) → a ≡ true → a || b ≡ true
in_left true b e = refl
in_left false b e = cc

pub in_right : (a b : Bool) → b ≡ true → a || b ≡ true
in_right true b e = refl
in_right false b e = e

pub is_false : (a : Bool) → not a ≡ true → a ≡ false
is_false true e = cc
is_false false e = refl

pub not_true : (a : Bool) → a ≡ false → (P : Type 0) → a ≡ true → P
not_true true e P f = cc
not_true false e P f = cc

-- where two tests of tables agree, a value belongs by the one where it does by the other
pub belongs-same : (f : Free) (t u : ℕ → Bool) (v : Value) → ((a : ℕ) → t a ≡ u a) → belongs f t v ≡ belongs f u v
belongs-same f t u Nil e = refl
belongs-same f t u (Truth true) e = refl
belongs-same f t u (Truth false) e = refl
belongs-same f t u (Num n) e = refl
belongs-same f t u (Str s) e = refl
belongs-same f t u (Tab a) e = e a
belongs-same f t u (Lit h n c) e = refl
belongs-same f t u (Builtin p) e = refl
belongs-same f t u (Other k) e = refl

-- and where the one implies the other
pub belongs-more : (f : Free) (t u : ℕ → Bool) (v : Value) → ((a : ℕ) → t a ≡ true → u a ≡ true) → belongs f t v ≡ true → belongs f u v ≡ true
belongs-more f t u Nil e h = h
belongs-more f t u (Truth true) e h = h
belongs-more f t u (Truth false) e h = h
belongs-more f t u (Num n) e h = h
belongs-more f t u (Str s) e h = h
belongs-more f t u (Tab a) e h = e a h
belongs-more f t u (Lit k n c) e h = h
belongs-more f t u (Builtin p) e h = h
belongs-more f t u (Other k) e h = h

belongs-either : (f g : Free) (t u w : ℕ → Bool) (v : Value) → ((a : ℕ) → w a ≡ t a || u a) → belongs (either_free f g) w v ≡ belongs f t v || belongs g u v
belongs-either f g t u w Nil e = refl
belongs-either f g t u w (Truth true) e = refl
belongs-either f g t u w (Truth false) e = refl
belongs-either f g t u w (Num n) e = refl
belongs-either f g t u w (Str s) e = member-either name_cmp names_total s f.strings g.strings
belongs-either f g t u w (Tab a) e = e a
belongs-either f g t u w (Lit h n c) e = member-either function_cmp functions_total (literal h n) f.functions g.functions
belongs-either f g t u w (Builtin p) e = member-either function_cmp functions_total (builtin p) f.functions g.functions
belongs-either f g t u w (Other k) e = refl

belongs-both : (f g : Free) (t u w : ℕ → Bool) (v : Value) → ((a : ℕ) → w a ≡ t a && u a) → belongs (both_free f g) w v ≡ belongs f t v && belongs g u v
belongs-both f g t u w Nil e = refl
belongs-both f g t u w (Truth true) e = refl
belongs-both f g t u w (Truth false) e = refl
belongs-both f g t u w (Num n) e = refl
belongs-both f g t u w (Str s) e = member-both name_cmp names_total s f.strings g.strings
belongs-both f g t u w (Tab a) e = e a
belongs-both f g t u w (Lit h n c) e = member-both function_cmp functions_total (literal h n) f.functions g.functions
belongs-both f g t u w (Builtin p) e = member-both function_cmp functions_total (builtin p) f.functions g.functions
belongs-both f g t u w (Other k) e = refl

pub belongs-outside : (f : Free) (t w : ℕ → Bool) (v : Value) → ((a : ℕ) → w a ≡ not (t a)) → belongs (outside_free f) w v ≡ not (belongs f t v)
belongs-outside f t w Nil e = refl
belongs-outside f t w (Truth true) e = refl
belongs-outside f t w (Truth false) e = refl
belongs-outside f t w (Num n) e = refl
belongs-outside f t w (Str s) e = member-outside name_cmp names_total s f.strings
belongs-outside f t w (Tab a) e = e a
belongs-outside f t w (Lit h n c) e = member-outside function_cmp functions_total (literal h n) f.functions
belongs-outside f t w (Builtin p) e = member-outside function_cmp functions_total (builtin p) f.functions
belongs-outside f t w (Other k) e = refl

no_member : {X : Type 0} (cmp : X → X → Ordering) (x : X) (s : Members X) → is_no_set s ≡ true → is_member cmp x s ≡ false
no_member cmp x (only []) e = refl
no_member cmp x (only (y ∷ ys)) e = cc
no_member cmp x (all_but ys) e = cc

all_members : {X : Type 0} (cmp : X → X → Ordering) (x : X) (s : Members X) → is_whole_set s ≡ true → is_member cmp x s ≡ true
all_members cmp x (only ys) e = cc
all_members cmp x (all_but []) e = refl
all_members cmp x (all_but (y ∷ ys)) e = cc

-- the parts of what has none, and of what has all
record None (f : Free) : Type 0 where
  nil : f.nil ≡ false
  truth : f.truth ≡ false
  falsity : f.falsity ≡ false
  number : f.number ≡ false
  other : f.other ≡ false
  strings : is_no_set f.strings ≡ true
  functions : is_no_set f.functions ≡ true

none_of : (f : Free) → is_no_free f ≡ true → None f
none_of f e =
    let e1 = right (not f.nil) _ e in
    let e2 = right (not f.truth) _ e1 in
    let e3 = right (not f.falsity) _ e2 in
    let e4 = right (not f.number) _ e3 in
    let e5 = right (not f.other) _ e4 in
    record {
      nil = is_false f.nil (left (not f.nil) _ e);
      truth = is_false f.truth (left (not f.truth) _ e1);
      falsity = is_false f.falsity (left (not f.falsity) _ e2);
      number = is_false f.number (left (not f.number) _ e3);
      other = is_false f.other (left (not f.other) _ e4);
      strings = left (is_no_set f.strings) _ e5;
      functions = right (is_no_set f.strings) _ e5;
    }

record Whole (f : Free) : Type 0 where
  nil : f.nil ≡ true
  truth : f.truth ≡ true
  falsity : f.falsity ≡ true
  number : f.number ≡ true
  other : f.other ≡ true
  strings : is_whole_set f.strings ≡ true
  functions : is_whole_set f.functions ≡ true

whole_of : (f : Free) → is_whole_free f ≡ true → Whole f
whole_of f e =
    let e1 = right f.nil _ e in
    let e2 = right f.truth _ e1 in
    let e3 = right f.falsity _ e2 in
    let e4 = right f.number _ e3 in
    let e5 = right f.other _ e4 in
    record {
      nil = left f.nil _ e;
      truth = left f.truth _ e1;
      falsity = left f.falsity _ e2;
      number = left f.number _ e3;
      other = left f.other _ e4;
      strings = left (is_whole_set f.strings) _ e5;
      functions = right (is_whole_set f.strings) _ e5;
    }

pub belongs-none : (f : Free) (t : ℕ → Bool) (v : Value) → is_no_free f ≡ true → ((a : ℕ) → t a ≡ false) → belongs f t v ≡ false
belongs-none f t Nil e h = (none_of f e).nil
belongs-none f t (Truth true) e h = (none_of f e).truth
belongs-none f t (Truth false) e h = (none_of f e).falsity
belongs-none f t (Num n) e h = (none_of f e).number
belongs-none f t (Str s) e h = no_member name_cmp s f.strings (none_of f e).strings
belongs-none f t (Tab a) e h = h a
belongs-none f t (Lit k n c) e h = no_member function_cmp (literal k n) f.functions (none_of f e).functions
belongs-none f t (Builtin p) e h = no_member function_cmp (builtin p) f.functions (none_of f e).functions
belongs-none f t (Other k) e h = (none_of f e).other

pub belongs-whole : (f : Free) (t : ℕ → Bool) (v : Value) → is_whole_free f ≡ true → ((a : ℕ) → t a ≡ true) → belongs f t v ≡ true
belongs-whole f t Nil e h = (whole_of f e).nil
belongs-whole f t (Truth true) e h = (whole_of f e).truth
belongs-whole f t (Truth false) e h = (whole_of f e).falsity
belongs-whole f t (Num n) e h = (whole_of f e).number
belongs-whole f t (Str s) e h = all_members name_cmp s f.strings (whole_of f e).strings
belongs-whole f t (Tab a) e h = h a
belongs-whole f t (Lit k n c) e h = all_members function_cmp (literal k n) f.functions (whole_of f e).functions
belongs-whole f t (Builtin p) e h = all_members function_cmp (builtin p) f.functions (whole_of f e).functions
belongs-whole f t (Other k) e h = (whole_of f e).other

-- nothing belongs to what is empty, and everything to what is unknown
pub empty_holds : (h : Heap) (v : Value) (t : Term) → is_empty t ≡ true → holds h v t ≡ false
empty_holds h v (term f no_rows) e = belongs-none f _ v e (λ a. refl)
empty_holds h v (term f (more_rows b fs r)) e = cc

pub unknown_holds : (h : Heap) (v : Value) (t : Term) → is_unknown t ≡ true → holds h v t ≡ true
unknown_holds h v (term f no_rows) e = cc
unknown_holds h v (term f (more_rows false no_fields no_rows)) e = belongs-whole f _ v e (λ a. refl)
unknown_holds h v (term f (more_rows false no_fields (more_rows b fs r))) e = cc
unknown_holds h v (term f (more_rows false (more_fields p t fs) r)) e = cc
unknown_holds h v (term f (more_rows true fs r)) e = cc

-- whether a table is in one row
abbrev pub in_row : Heap → ℕ → Bool → Fields → Bool
in_row h a b fs = (not b || is_frozen h a) && holds_fields h a fs

put_row_by : (h : Heap) (a : ℕ) (b c : Bool) (fs gs : Fields) (r : Rows) (o : Ordering) → row_cmp b fs c gs ≡ o
    → holds_rows h a (put_row b fs r) ≡ in_row h a b fs || holds_rows h a r
    → holds_rows h a (by_order o (more_rows b fs (more_rows c gs r)) (more_rows c gs r) (more_rows c gs (put_row b fs r))) ≡ in_row h a b fs || (in_row h a c gs || holds_rows h a r)
put_row_by h a b c fs gs r Less e ih = refl
put_row_by h a b c fs gs r Equal e ih =
    let bc : b ≡ c = row_frozen_ties b c fs gs e in let fg : fs ≡ gs = row_fields_tie b c fs gs e in
    rw (bc, fg) (or_twice (in_row h a c gs) (holds_rows h a r))
put_row_by h a b c fs gs r Greater e ih = rw ih (or_middle (in_row h a c gs) (in_row h a b fs) (holds_rows h a r))

pub put_row_holds : (h : Heap) (a : ℕ) (b : Bool) (fs : Fields) (r : Rows) → holds_rows h a (put_row b fs r) ≡ in_row h a b fs || holds_rows h a r
put_row_holds h a b fs no_rows = refl
put_row_holds h a b fs (more_rows c gs r) = put_row_by h a b c fs gs r (row_cmp b fs c gs) refl (put_row_holds h a b fs r)

pub put_rows_hold : (h : Heap) (a : ℕ) (r s : Rows) → holds_rows h a (put_rows r s) ≡ holds_rows h a r || holds_rows h a s
put_rows_hold h a no_rows s = refl
put_rows_hold h a (more_rows b fs r) s =
    put_row_holds h a b fs (put_rows r s) ∙ ap (λ (x : Bool). in_row h a b fs || x) (put_rows_hold h a r s)
    ∙ sym (or_assoc (in_row h a b fs) (holds_rows h a r) (holds_rows h a s))

pub in_order_holds : (h : Heap) (a : ℕ) (r : Rows) → holds_rows h a (rows_in_order r) ≡ holds_rows h a r
in_order_holds h a r = put_rows_hold h a r no_rows ∙ or_false (holds_rows h a r)

known_by : (h : Heap) (a : ℕ) (p : List ℕ) (t : Term) (fs : Fields) (b : Bool) → is_unknown t ≡ b → holds_fields h a (known_fields fs) ≡ holds_fields h a fs
    → holds_fields h a (if b then known_fields fs else more_fields p t (known_fields fs)) ≡ holds h (field_of h a p) t && holds_fields h a fs
known_by h a p t fs true e ih = rw (unknown_holds h (field_of h a p) t e) ih
known_by h a p t fs false e ih = ap (λ (x : Bool). holds h (field_of h a p) t && x) ih

pub known_hold : (h : Heap) (a : ℕ) (fs : Fields) → holds_fields h a (known_fields fs) ≡ holds_fields h a fs
known_hold h a no_fields = refl
known_hold h a (more_fields p t fs) = known_by h a p t fs (is_unknown t) refl (known_hold h a fs)

pub empty_hold : (h : Heap) (a : ℕ) (fs : Fields) → has_empty fs ≡ true → holds_fields h a fs ≡ false
empty_hold h a no_fields e = cc
empty_hold h a (more_fields p t fs) e =
    either (is_empty t) (has_empty fs) (holds h (field_of h a p) t && holds_fields h a fs ≡ false) e
    (λ q. rw (empty_holds h (field_of h a p) t q) refl) (λ q. rw (empty_hold h a fs q) (and_false (holds h (field_of h a p) t)))

put_normal_by : (h : Heap) (a : ℕ) (b : Bool) (fs : Fields) (r : Rows) (c : Bool) → has_empty fs ≡ c
    → holds_rows h a (if c then r else put_row b (known_fields fs) r) ≡ in_row h a b fs || holds_rows h a r
put_normal_by h a b fs r true e = rw (empty_hold h a fs e, and_false (not b || is_frozen h a)) refl
put_normal_by h a b fs r false e = put_row_holds h a b (known_fields fs) r ∙ rw (known_hold h a fs) refl

pub put_normal_holds : (h : Heap) (a : ℕ) (b : Bool) (fs : Fields) (r : Rows) → holds_rows h a (put_normal b fs r) ≡ in_row h a b fs || holds_rows h a r
put_normal_holds h a b fs r = put_normal_by h a b fs r (has_empty fs) refl

-- unions
pub union_holds : (h : Heap) (v : Value) (a b : Term) → holds h v (union a b) ≡ holds h v a || holds h v b
union_holds h v (term f r) (term g s) =
    belongs-either f g (λ a. holds_rows h a r) (λ a. holds_rows h a s) _ v
    (λ a. put_rows_hold h a r (rows_in_order s) ∙ ap (λ (x : Bool). holds_rows h a r || x) (in_order_holds h a s))

-- meets
put_field_by : (h : Heap) (a : ℕ) (p q : List ℕ) (t u : Term) (w : Term → Term) (gs : Fields) (o : Ordering) → name_cmp p q ≡ o
    → ((x : Term) → holds h (field_of h a p) (w x) ≡ holds h (field_of h a p) t && holds h (field_of h a p) x)
    → holds_fields h a (put_field p t w gs) ≡ holds h (field_of h a p) t && holds_fields h a gs
    → holds_fields h a (by_order o (more_fields p t (more_fields q u gs)) (more_fields q (w u) gs) (more_fields q u (put_field p t w gs)))
    ≡ holds h (field_of h a p) t && (holds h (field_of h a q) u && holds_fields h a gs)
put_field_by h a p q t u w gs Less e met ih = refl
put_field_by h a p q t u w gs Equal e met ih =
    let pq : q ≡ p = sym (name_ties p q e) in
    rw pq (ap (λ (x : Bool). x && holds_fields h a gs) (met u) ∙ and_assoc (holds h (field_of h a p) t) (holds h (field_of h a p) u) (holds_fields h a gs))
  where
    and_assoc : (x y z : Bool) → (x && y) && z ≡ x && (y && z)
    and_assoc true y z = refl
    and_assoc false y z = refl
put_field_by h a p q t u w gs Greater e met ih = rw ih (and_middle (holds h (field_of h a q) u) (holds h (field_of h a p) t) (holds_fields h a gs))
  where
    and_middle : (x y z : Bool) → x && (y && z) ≡ y && (x && z)
    and_middle true true z = refl
    and_middle true false z = refl
    and_middle false true z = refl
    and_middle false false z = refl

pub put_field_holds : (h : Heap) (a : ℕ) (p : List ℕ) (t : Term) (w : Term → Term) (gs : Fields)
    → ((x : Term) → holds h (field_of h a p) (w x) ≡ holds h (field_of h a p) t && holds h (field_of h a p) x)
    → holds_fields h a (put_field p t w gs) ≡ holds h (field_of h a p) t && holds_fields h a gs
put_field_holds h a p t w no_fields met = refl
put_field_holds h a p t w (more_fields q u gs) met = put_field_by h a p q t u w gs (name_cmp p q) refl met (put_field_holds h a p t w gs met)

regroup : (nb nc fr x y d e : Bool) → ((not (nb || nc) || fr) && (x && y)) || ((((not nb || fr) && x) && d) || e) ≡ (((not nb || fr) && x) && (((not nc || fr) && y) || d)) || e
regroup true true true true true d e = refl
regroup true true true true false d e = refl
regroup true true true false y d e = refl
regroup true true false x y d e = refl
regroup true false true true true d e = refl
regroup true false true true false d e = refl
regroup true false true false y d e = refl
regroup true false false x y d e = refl
regroup false true true true true d e = refl
regroup false true true true false d e = refl
regroup false true true false y d e = refl
regroup false true false true y d e = refl
regroup false true false false y d e = refl
regroup false false fr true true d e = refl
regroup false false fr true false d e = refl
regroup false false fr false y d e = refl

meet_each_holds : (h : Heap) (a : ℕ) (b : Bool) (fs : Fields) (w : Fields → Fields) (s t : Rows)
    → ((gs : Fields) → holds_fields h a (w gs) ≡ holds_fields h a fs && holds_fields h a gs)
    → holds_rows h a (meet_each b w s t) ≡ (in_row h a b fs && holds_rows h a s) || holds_rows h a t
meet_each_holds h a b fs w no_rows t met = rw (and_false (in_row h a b fs)) refl
meet_each_holds h a b fs w (more_rows c gs s) t met =
    put_normal_holds h a (b || c) (w gs) (meet_each b w s t)
    ∙ rw (met gs, meet_each_holds h a b fs w s t met) (regroup b c (is_frozen h a) (holds_fields h a fs) (holds_fields h a gs) (holds_rows h a s) (holds_rows h a t))

or_and : (x y z : Bool) → (x && z) || (y && z) ≡ (x || y) && z
or_and true true true = refl
or_and true true false = refl
or_and true false true = refl
or_and true false false = refl
or_and false y z = refl

and_swap : (x y z : Bool) → x && (y && z) ≡ (x && y) && z
and_swap true y z = refl
and_swap false y z = refl

mutual
  pub meet_holds : (h : Heap) (v : Value) (a b : Term) → holds h v (meet a b) ≡ holds h v a && holds h v b
  meet_holds h v (term f r) (term g s) =
      belongs-both f g (λ a. holds_rows h a r) (λ a. holds_rows h a s) _ v (λ a. meet_rows_hold h a r s)

  meet_rows_hold : (h : Heap) (a : ℕ) (r s : Rows) → holds_rows h a (meet_rows r s) ≡ holds_rows h a r && holds_rows h a s
  meet_rows_hold h a no_rows s = refl
  meet_rows_hold h a (more_rows b fs r) s =
      meet_each_holds h a b fs (meet_fields fs) s (meet_rows r s) (λ gs. meet_fields_hold h a fs gs)
      ∙ rw (meet_rows_hold h a r s) (or_and (in_row h a b fs) (holds_rows h a r) (holds_rows h a s))

  pub meet_fields_hold : (h : Heap) (a : ℕ) (fs gs : Fields) → holds_fields h a (meet_fields fs gs) ≡ holds_fields h a fs && holds_fields h a gs
  meet_fields_hold h a no_fields gs = refl
  meet_fields_hold h a (more_fields p t fs) gs =
      put_field_holds h a p t (meet t) (meet_fields fs gs) (λ x. meet_holds h (field_of h a p) t x)
      ∙ rw (meet_fields_hold h a fs gs) (and_swap (holds h (field_of h a p) t) (holds_fields h a fs) (holds_fields h a gs))

-- complements
pub not_free_holds : (h : Heap) (v : Value) (t : Term) → is_flat t ≡ true → holds h v (not_free t) ≡ not (holds h v t)
not_free_holds h v (term f no_rows) e = belongs-outside f (λ a. false) (λ a. true) v (λ a. refl)
not_free_holds h v (term f (more_rows false no_fields no_rows)) e = belongs-outside f (λ a. true) (λ a. false) v (λ a. refl)
not_free_holds h v (term f (more_rows false no_fields (more_rows b fs r))) e = cc
not_free_holds h v (term f (more_rows false (more_fields p t fs) r)) e = cc
not_free_holds h v (term f (more_rows true fs r)) e = cc

-- what fails for certain is in no heap what is wanted
pub fail_holds : (h g : Heap) (v : Value) (t : Term) → holds h v (fail t) ≡ true → holds g v t ≡ false
fail_holds h g v (term f no_rows) e = is_false (holds g v (term f no_rows)) (sym (belongs-outside f (λ a. false) (λ a. true) v (λ a. refl)) ∙ e)
fail_holds h g v (term f (more_rows b fs r)) e = go v e
  where
    go : (v : Value) → belongs (outside_free f) (λ a. false) v ≡ true → belongs f (λ a. holds_rows g a (more_rows b fs r)) v ≡ false
    go Nil e = is_false f.nil e
    go (Truth true) e = is_false f.truth e
    go (Truth false) e = is_false f.falsity e
    go (Num n) e = is_false f.number e
    go (Str s) e = is_false (is_member name_cmp s f.strings) (sym (member-outside name_cmp names_total s f.strings) ∙ e)
    go (Tab a) e = cc
    go (Lit k n c) e = is_false (is_member function_cmp (literal k n) f.functions) (sym (member-outside function_cmp functions_total (literal k n) f.functions) ∙ e)
    go (Builtin p) e = is_false (is_member function_cmp (builtin p) f.functions) (sym (member-outside function_cmp functions_total (builtin p) f.functions) ∙ e)
    go (Other k) e = is_false f.other e
