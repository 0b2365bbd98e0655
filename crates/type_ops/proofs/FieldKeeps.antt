-- Normal forms that reads and writes of fields keep.
use Rattle.std.proofs.Common.{◌≡◌, ℕ, Bool, true, false, List, refl}
use Rattle.std.specs.Prelude.{if◌then◌else◌}
use Rattle.std.specs.Str.{bytes_eq}
use Rattle.std.specs.Ordering.{is_lt}
use Rattle.type_arena.specs.Term.{Term, term, Rows, no_rows, more_rows, Fields, no_fields, more_fields}
use Rattle.type_normal.specs.Free.{name_cmp, is_normal_free}
use Rattle.type_normal.specs.Field.{listed_type, type_in_rows, field_type, without_field, set_field, rows_with_field, with_row_field, freeze_rows, frozen_rows}
use Rattle.type_normal.specs.Kinds.{row_type}
use Rattle.type_normal.specs.Rows.{comes_first, names_in_order, is_normal, are_normal_rows}
use Rattle.type_normal.proofs.HoldsFacts.{left, right, both}
use Rattle.type_ops.proofs.KeepFacts.{normal_row, names_first, each_normal, names_cons, names_head, names_tail, names_later, fields_each, put_row_normal, put_normal_normal, meet_names, meet_each_normal, union_normal}

-- a field that is read
listed_by : (name : List ℕ) (type : Term) (fs : Fields) (b : Bool) → is_normal type ≡ true → is_normal (listed_type name fs) ≡ true
    → is_normal (if b then type else listed_type name fs) ≡ true
listed_by name type fs true n rest = n
listed_by name type fs false n rest = rest

listed_normal : (name : List ℕ) (fs : Fields) → each_normal fs ≡ true → is_normal (listed_type name fs) ≡ true
listed_normal name no_fields n = refl
listed_normal name (more_fields other type fs) n =
    listed_by name type fs (bytes_eq other name) (left _ _ n) (listed_normal name fs (right (is_normal type) _ n))

in_rows_normal : (name : List ℕ) (rows : Rows) → are_normal_rows rows ≡ true → is_normal (type_in_rows name rows) ≡ true
in_rows_normal name no_rows n = refl
in_rows_normal name (more_rows frozen fs rows) n =
    union_normal (listed_type name fs) (type_in_rows name rows)
    (listed_normal name fs (fields_each fs (right (names_in_order fs) _ (left (normal_row fs) _ n))))
    (in_rows_normal name rows (right (comes_first frozen fs rows) _ (right (normal_row fs) _ n)))

pub field_type_normal : (name : List ℕ) (type : Term) → is_normal type ≡ true → is_normal (field_type name type) ≡ true
field_type_normal name (term free rows) n = in_rows_normal name rows (right (is_normal_free free) _ n)

-- fields without one
without_by : (p name other : List ℕ) (type : Term) (fs : Fields) (b : Bool) → is_lt (name_cmp p other) ≡ true → names_first p (without_field name fs) ≡ true
    → names_first p (if b then without_field name fs else more_fields other type (without_field name fs)) ≡ true
without_by p name other type fs true first rest = rest
without_by p name other type fs false first rest = first

without_first : (p name : List ℕ) (fs : Fields) → names_first p fs ≡ true → names_in_order fs ≡ true → names_first p (without_field name fs) ≡ true
without_first p name no_fields first n = refl
without_first p name (more_fields other type fs) first n =
    without_by p name other type fs (bytes_eq other name) first
    (without_first p name fs (names_later p other fs first (names_head other type fs n)) (names_tail other type fs n))

without_names_by : (name other : List ℕ) (type : Term) (fs : Fields) (b : Bool) → names_first other (without_field name fs) ≡ true → names_in_order (without_field name fs) ≡ true
    → names_in_order (if b then without_field name fs else more_fields other type (without_field name fs)) ≡ true
without_names_by name other type fs true first rest = rest
without_names_by name other type fs false first rest = names_cons other type (without_field name fs) first rest

without_names : (name : List ℕ) (fs : Fields) → names_in_order fs ≡ true → names_in_order (without_field name fs) ≡ true
without_names name no_fields n = refl
without_names name (more_fields other type fs) n =
    without_names_by name other type fs (bytes_eq other name)
    (without_first other name fs (names_head other type fs n) (names_tail other type fs n)) (without_names name fs (names_tail other type fs n))

without_each_by : (name other : List ℕ) (type : Term) (fs : Fields) (b : Bool) → is_normal type ≡ true → each_normal (without_field name fs) ≡ true
    → each_normal (if b then without_field name fs else more_fields other type (without_field name fs)) ≡ true
without_each_by name other type fs true n rest = rest
without_each_by name other type fs false n rest = both _ _ n rest

without_each : (name : List ℕ) (fs : Fields) → each_normal fs ≡ true → each_normal (without_field name fs) ≡ true
without_each name no_fields n = refl
without_each name (more_fields other type fs) n =
    without_each_by name other type fs (bytes_eq other name) (left _ _ n) (without_each name fs (right (is_normal type) _ n))

-- a field that is written
written_names : (name : List ℕ) (type : Term) (fs : Fields) → names_in_order fs ≡ true → names_in_order (set_field name type fs) ≡ true
written_names name type fs n = meet_names (more_fields name type no_fields) (without_field name fs) refl (without_names name fs n)

written_each : (name : List ℕ) (type : Term) (fs : Fields) → is_normal type ≡ true → each_normal fs ≡ true → each_normal (set_field name type fs) ≡ true
written_each name type fs t n = meet_each_normal (more_fields name type no_fields) (without_field name fs) (both _ _ t refl) (without_each name fs n)

with_rows_normal : (name : List ℕ) (type : Term) (rows : Rows) → is_normal type ≡ true → are_normal_rows rows ≡ true → are_normal_rows (rows_with_field name type rows) ≡ true
with_rows_normal name type no_rows t n = refl
with_rows_normal name type (more_rows frozen fs rows) t n =
    put_normal_normal frozen (set_field name type fs) (rows_with_field name type rows)
    (written_names name type fs (left _ _ (left (normal_row fs) _ n)))
    (written_each name type fs t (fields_each fs (right (names_in_order fs) _ (left (normal_row fs) _ n))))
    (with_rows_normal name type rows t (right (comes_first frozen fs rows) _ (right (normal_row fs) _ n)))

pub with_row_field_normal : (name : List ℕ) (type base : Term) → is_normal type ≡ true → is_normal base ≡ true → is_normal (with_row_field name type base) ≡ true
with_row_field_normal name type (term free rows) t n = both _ _ (left _ _ n) (with_rows_normal name type rows t (right (is_normal_free free) _ n))

-- rows that are frozen
freeze_normal : (rows : Rows) → are_normal_rows rows ≡ true → are_normal_rows (freeze_rows rows) ≡ true
freeze_normal no_rows n = refl
freeze_normal (more_rows frozen fs rows) n =
    put_row_normal true fs (freeze_rows rows) (left _ _ n) (freeze_normal rows (right (comes_first frozen fs rows) _ (right (normal_row fs) _ n)))

pub frozen_rows_normal : (type : Term) → is_normal type ≡ true → is_normal (frozen_rows type) ≡ true
frozen_rows_normal (term free rows) n = both _ _ refl (freeze_normal rows (right (is_normal_free free) _ n))

-- a row of fields
pub row_type_normal : (frozen : Bool) (fs : Fields) → names_in_order fs ≡ true → each_normal fs ≡ true → is_normal (row_type frozen fs) ≡ true
row_type_normal frozen fs names each = both _ _ refl (put_normal_normal frozen fs no_rows names each refl)
