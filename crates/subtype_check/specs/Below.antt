-- Subtyping: when a type is below another one.
use Rattle.std.specs.Prelude.{Bool, true, false, not, ◌&&◌, ◌||◌}
use Rattle.std.specs.List.{list_all}
use Rattle.std.specs.declared.cmp.Ordering.{Ordering}
use Rattle.type_arena.specs.Term.{Members, only, all_but, Free, Term, term, Rows, no_rows, more_rows, Fields, no_fields, more_fields}
use Rattle.type_normal.specs.Members.{has_member}
use Rattle.type_normal.specs.Free.{name_cmp, function_cmp}
use Rattle.type_normal.specs.Field.{listed_type}

-- whether each member of a set is in another, where there are members without end
abbrev pub is_subset : {X : Type 0} → (X → X → Ordering) → Members X → Members X → Bool
is_subset cmp (only xs) (only ys) = list_all (λ x. has_member cmp x ys) xs
is_subset cmp (only xs) (all_but ys) = list_all (λ x. not (has_member cmp x ys)) xs
is_subset cmp (all_but xs) (only ys) = false
is_subset cmp (all_but xs) (all_but ys) = list_all (λ y. has_member cmp y xs) ys

-- whether one holds where the other does
abbrev pub implies : Bool → Bool → Bool
implies a b = not a || b

-- whether each value of a free part belongs to another
abbrev pub free_below : Free → Free → Bool
free_below a b =
    implies a.nil b.nil && (implies a.truth b.truth && (implies a.falsity b.falsity && (implies a.number b.number && (implies a.other b.other
    && (is_subset name_cmp a.strings b.strings && is_subset function_cmp a.functions b.functions)))))

-- whether a test passes at each row
abbrev pub each_row : (Bool → Fields → Bool) → Rows → Bool
each_row test no_rows = true
each_row test (more_rows frozen fields rows) = test frozen fields && each_row test rows

-- a type is above another if each value of the other's free part belongs to its own, and each row of the other has one of its
-- rows above it; a row is above another if it isn't frozen or the other is, and the type of each of its fields is above the
-- type that the other has for that field, which is unknown where it isn't listed
abbrev mutual
  pub is_above : Term → Term → Bool
  is_above (term free rows) (term other others) = free_below other free && each_row (λ frozen fields. rows_above rows frozen fields) others

  pub rows_above : Rows → Bool → Fields → Bool
  rows_above no_rows frozen _ = false
  rows_above (more_rows upper_frozen upper rows) frozen fields = ((frozen || not upper_frozen) && fields_above upper fields) || rows_above rows frozen fields

  pub fields_above : Fields → Fields → Bool
  fields_above no_fields _ = true
  fields_above (more_fields name type upper) fields = is_above type (listed_type name fields) && fields_above upper fields

-- the one type is below the other
abbrev pub below : Term → Term → Bool
below one other = is_above other one
