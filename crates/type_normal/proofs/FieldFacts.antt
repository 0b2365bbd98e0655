-- What a type says of fields of tables, and which values belong to the kinds.
use Rattle.std.proofs.Common.{◌≡◌, ℕ, ◌<◌, Bool, true, false, not, List, refl, sym, ap, ◌∙◌, length}
use Rattle.std.specs.Prelude.{◌||◌, ◌&&◌, if◌then◌else◌, Option}
use Rattle.std.specs.Option.{option_map_or}
use Rattle.std.specs.Str.{bytes_eq}
use Rattle.std.proofs.lemmas.Slice.Eq.{bytes_eq-Decides}
use Rattle.type_arena.specs.Term.{Term, term, Rows, no_rows, more_rows, Fields, no_fields, more_fields, never}
use Rattle.luau_values.specs.Value.{Value, Nil, Truth, Num, Str, Tab, Lit, Builtin, Other}
use Rattle.luau_values.specs.Heap.{Heap, Table, Field, value_of, is_frozen, field_of, with_table}
use Rattle.luau_values.specs.Grows.{Grows}
use Rattle.luau_values.specs.Stands.{Stands, FieldsStand}
use Rattle.luau_values.proofs.Public.{grown_fields, grown_marks, new_table}
use Rattle.type_normal.specs.Free.{belongs, no_values}
use Rattle.type_normal.specs.Rows.{put_normal}
use Rattle.type_normal.specs.Holds.{holds, holds_rows, holds_fields}
use Rattle.type_normal.specs.Kinds.{unknown, row_type, field_is}
use Rattle.type_normal.specs.Field.{listed_type, type_in_rows, field_type, freeze_rows, frozen_rows, all_typed}
use Rattle.type_normal.proofs.MembersFacts.{or_false, and_true}
use Rattle.type_normal.proofs.HoldsFacts.{left, right, both, either, in_left, in_right, put_row_holds, put_normal_holds, in_row, union_holds}

-- values that stand keep their types while a heap grows
mutual
  pub grown_holds : (h g : Heap) (v : Value) (t : Term) → FieldsStand h → Stands h v → Grows h g → holds h v t ≡ true → holds g v t ≡ true
  grown_holds h g Nil (term f r) fields there grows e = e
  grown_holds h g (Truth true) (term f r) fields there grows e = e
  grown_holds h g (Truth false) (term f r) fields there grows e = e
  grown_holds h g (Num n) (term f r) fields there grows e = e
  grown_holds h g (Str s) (term f r) fields there grows e = e
  grown_holds h g (Tab a) (term f r) fields there grows e = grown_rows h g a r fields there grows e
  grown_holds h g (Lit k n c) (term f r) fields there grows e = e
  grown_holds h g (Builtin p) (term f r) fields there grows e = e
  grown_holds h g (Other k) (term f r) fields there grows e = e

  grown_rows : (h g : Heap) (a : ℕ) (r : Rows) → FieldsStand h → a < length h → Grows h g → holds_rows h a r ≡ true → holds_rows g a r ≡ true
  grown_rows h g a no_rows fields there grows e = e
  grown_rows h g a (more_rows b fs r) fields there grows e =
      either (in_row h a b fs) (holds_rows h a r) (in_row g a b fs || holds_rows g a r ≡ true) e
      (λ x. in_left (in_row g a b fs) (holds_rows g a r)
      (both (not b || is_frozen g a) (holds_fields g a fs)
      (either (not b) (is_frozen h a) (not b || is_frozen g a ≡ true) (left (not b || is_frozen h a) (holds_fields h a fs) x)
      (in_left (not b) (is_frozen g a)) (λ y. in_right (not b) (is_frozen g a) (grown_marks h g a grows y)))
      (grown_fields_hold h g a fs fields there grows (right (not b || is_frozen h a) (holds_fields h a fs) x))))
      (λ x. in_right (in_row g a b fs) (holds_rows g a r) (grown_rows h g a r fields there grows x))

  grown_fields_hold : (h g : Heap) (a : ℕ) (fs : Fields) → FieldsStand h → a < length h → Grows h g → holds_fields h a fs ≡ true → holds_fields g a fs ≡ true
  grown_fields_hold h g a no_fields fields there grows e = e
  grown_fields_hold h g a (more_fields p t fs) fields there grows e =
      let same : field_of g a p ≡ field_of h a p = grown_fields h g a p grows there in
      both (holds g (field_of g a p) t) (holds_fields g a fs)
      (rw same (grown_holds h g (field_of h a p) t fields (fields a p) grows (left (holds h (field_of h a p) t) (holds_fields h a fs) e)))
      (grown_fields_hold h g a fs fields there grows (right (holds h (field_of h a p) t) (holds_fields h a fs) e))

-- fields of the tables of a type
pub unknown_all : (h : Heap) (v : Value) → holds h v unknown ≡ true
unknown_all h Nil = refl
unknown_all h (Truth true) = refl
unknown_all h (Truth false) = refl
unknown_all h (Num n) = refl
unknown_all h (Str s) = refl
unknown_all h (Tab a) = refl
unknown_all h (Lit k n c) = refl
unknown_all h (Builtin p) = refl
unknown_all h (Other k) = refl

pub never_none : (h : Heap) (v : Value) → holds h v never ≡ false
never_none h Nil = refl
never_none h (Truth true) = refl
never_none h (Truth false) = refl
never_none h (Num n) = refl
never_none h (Str s) = refl
never_none h (Tab a) = refl
never_none h (Lit k n c) = refl
never_none h (Builtin p) = refl
never_none h (Other k) = refl

listed_by : (h : Heap) (a : ℕ) (p q : List ℕ) (t u : Term) (b : Bool) → bytes_eq q p ≡ b → holds h (field_of h a q) t ≡ true → holds h (field_of h a p) u ≡ true
    → holds h (field_of h a p) (if b then t else u) ≡ true
listed_by h a p q t u true e k l = let same : p ≡ q = sym ((bytes_eq-Decides q p).0 e) in rw same k
listed_by h a p q t u false e k l = l

pub listed_holds : (h : Heap) (a : ℕ) (p : List ℕ) (fs : Fields) → holds_fields h a fs ≡ true → holds h (field_of h a p) (listed_type p fs) ≡ true
listed_holds h a p no_fields e = unknown_all h (field_of h a p)
listed_holds h a p (more_fields q t fs) e =
    listed_by h a p q t (listed_type p fs) (bytes_eq q p) refl (left (holds h (field_of h a q) t) (holds_fields h a fs) e)
    (listed_holds h a p fs (right (holds h (field_of h a q) t) (holds_fields h a fs) e))

in_rows_holds : (h : Heap) (a : ℕ) (p : List ℕ) (r : Rows) → holds_rows h a r ≡ true → holds h (field_of h a p) (type_in_rows p r) ≡ true
in_rows_holds h a p no_rows e = cc
in_rows_holds h a p (more_rows b fs r) e =
    union_holds h (field_of h a p) (listed_type p fs) (type_in_rows p r)
    ∙ either (in_row h a b fs) (holds_rows h a r) (holds h (field_of h a p) (listed_type p fs) || holds h (field_of h a p) (type_in_rows p r) ≡ true) e
    (λ x. in_left (holds h (field_of h a p) (listed_type p fs)) (holds h (field_of h a p) (type_in_rows p r)) (listed_holds h a p fs (right (not b || is_frozen h a) (holds_fields h a fs) x)))
    (λ x. in_right (holds h (field_of h a p) (listed_type p fs)) (holds h (field_of h a p) (type_in_rows p r)) (in_rows_holds h a p r x))

pub field_holds : (h : Heap) (a : ℕ) (p : List ℕ) (t : Term) → holds h (Tab a) t ≡ true → holds h (field_of h a p) (field_type p t) ≡ true
field_holds h a p (term f r) e = in_rows_holds h a p r e

-- frozen tables
freeze_holds : (h : Heap) (a : ℕ) (r : Rows) → is_frozen h a ≡ true → holds_rows h a r ≡ true → holds_rows h a (freeze_rows r) ≡ true
freeze_holds h a no_rows n e = e
freeze_holds h a (more_rows b fs r) n e =
    put_row_holds h a true fs (freeze_rows r)
    ∙ either (in_row h a b fs) (holds_rows h a r) (in_row h a true fs || holds_rows h a (freeze_rows r) ≡ true) e
    (λ x. in_left (in_row h a true fs) (holds_rows h a (freeze_rows r)) (both (is_frozen h a) (holds_fields h a fs) n (right (not b || is_frozen h a) (holds_fields h a fs) x)))
    (λ x. in_right (in_row h a true fs) (holds_rows h a (freeze_rows r)) (freeze_holds h a r n x))

pub frozen_holds : (h : Heap) (a : ℕ) (t : Term) → holds h (Tab a) t ≡ true → is_frozen h a ≡ true → holds h (Tab a) (frozen_rows t) ≡ true
frozen_holds h a (term f r) e n = freeze_holds h a r n e

-- what belongs where nothing but tables does is a table
tables_alone : (t : ℕ → Bool) (v : Value) → belongs no_values t v ≡ true → (a : ℕ) × (v ≡ Tab a) × (t a ≡ true)
tables_alone t Nil e = cc
tables_alone t (Truth true) e = cc
tables_alone t (Truth false) e = cc
tables_alone t (Num n) e = cc
tables_alone t (Str s) e = cc
tables_alone t (Tab a) e = (a, refl, e)
tables_alone t (Lit k n c) e = cc
tables_alone t (Builtin p) e = cc
tables_alone t (Other k) e = cc

pub frozen_rows_tables : (h : Heap) (v : Value) (t : Term) → holds h v (frozen_rows t) ≡ true → (a : ℕ) × (v ≡ Tab a)
frozen_rows_tables h v (term f r) e = let x = tables_alone (λ a. holds_rows h a (freeze_rows r)) v e in (x.0, x.1)

-- rows
pub row_holds : (h : Heap) (a : ℕ) (b : Bool) (fs : Fields) → holds h (Tab a) (row_type b fs) ≡ (not b || is_frozen h a) && holds_fields h a fs
row_holds h a b fs = put_normal_holds h a b fs no_rows ∙ or_false (in_row h a b fs)

pub row_tables : (h : Heap) (v : Value) (b : Bool) (fs : Fields) → holds h v (row_type b fs) ≡ true → (a : ℕ) × (v ≡ Tab a)
row_tables h v b fs e = let x = tables_alone (λ a. holds_rows h a (put_normal b fs no_rows)) v e in (x.0, x.1)

pub field_is_holds : (h : Heap) (a : ℕ) (p : List ℕ) (t : Term) → holds h (Tab a) (field_is p t) ≡ holds h (field_of h a p) t
field_is_holds h a p t = row_holds h a false (more_fields p t no_fields) ∙ and_true (holds h (field_of h a p) t)

-- a new table
typed_holds : (h g : Heap) (fields : List Field) (a : ℕ) (ts : Fields) → ((p : List ℕ) → field_of g a p ≡ value_of p fields) → all_typed g fields ts ≡ true → holds_fields g a ts ≡ true
typed_holds h g fields a no_fields reads e = e
typed_holds h g fields a (more_fields p t ts) reads e =
    both (holds g (field_of g a p) t) (holds_fields g a ts)
    (rw (reads p) (left (holds g (value_of p fields) t) (all_typed g fields ts) e)) (typed_holds h g fields a ts reads (right (holds g (value_of p fields) t) (all_typed g fields ts) e))

pub new_table_holds : (h : Heap) (fields : List Field) (ts : Fields) → all_typed (with_table fields h) fields ts ≡ true
    → holds (with_table fields h) (Tab (length h)) (row_type false ts) ≡ true
new_table_holds h fields ts e =
    row_holds (with_table fields h) (length h) false ts
    ∙ typed_holds h (with_table fields h) fields (length h) ts
    (λ p. ap (λ (o : Option Table). option_map_or (λ t. value_of p t.fields) o Nil) (new_table h fields)) e
