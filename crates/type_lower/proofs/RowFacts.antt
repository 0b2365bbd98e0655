-- The fields of table types.
use Rattle.std.proofs.Common.{◌≡◌, ℕ, List, [], ◌∷◌, refl, sym, ap, subst}
use Rattle.std.specs.Prelude.{◌⊎◌, false, All, Contains}
use Rattle.std.proofs.Common.{inl, inr}
use Rattle.std.proofs.lemmas.List.Elements.{Contains-append_left, Contains-append_right, Contains-append_cases}
use Rattle.std.specs.BTreeMap.{insert_entry}
use Rattle.std.specs.declared.cmp.Ordering.{Ordering}
use Rattle.std.specs.declared.cmp.Ordering.TheVariants.{Less, Equal, Greater}
use Rattle.std.specs.Ordering.{match_ordering}
use Rattle.type_arena.specs.Meaning.{fields_by}
use Rattle.type_arena.specs.Store.{field_types}
use Rattle.type_arena.specs.Term.{Term, Fields, no_fields, more_fields}
use Rattle.type_arena.specs.declared.node.TypeRef.{TypeRef}
use Rattle.type_normal.specs.Free.{name_cmp}
use Rattle.type_normal.specs.Kinds.{row_type}
use Rattle.type_normal.specs.Members.{by_order}
use Rattle.type_normal.proofs.RowsFacts.{all_fewer}
use Rattle.annotations.specs.Lowered.{table_of}

-- a table type without readable properties is any table
pub table_row : (listed : Fields) → row_type false listed ≡ table_of listed
table_row no_fields = refl
table_row (more_fields name type rest) = refl

-- fields in order with one more, whose type counts in place of that of a field of its name
abbrev pub put_last : List ℕ → Term → Fields → Fields
put_last name type no_fields = more_fields name type no_fields
put_last name type (more_fields next next_type fields) =
    by_order (name_cmp name next)
    (more_fields name type (more_fields next next_type fields))
    (more_fields next type fields)
    (more_fields next next_type (put_last name type fields))

inserted_by : (means : TypeRef → Term) (name : List ℕ) (at : TypeRef) (f : List ℕ × TypeRef) (fs : List (List ℕ × TypeRef)) (o : Ordering)
    → fields_by means (insert_entry name_cmp fs name at) ≡ put_last name (means at) (fields_by means fs)
    → fields_by means (match_ordering o ((name, at) ∷ f ∷ fs) ((f.0, at) ∷ fs) (f ∷ insert_entry name_cmp fs name at))
    ≡ by_order o (more_fields name (means at) (more_fields f.0 (means f.1) (fields_by means fs))) (more_fields f.0 (means at) (fields_by means fs)) (more_fields f.0 (means f.1) (put_last name (means at) (fields_by means fs)))
inserted_by means name at f fs Less ih = refl
inserted_by means name at f fs Equal ih = refl
inserted_by means name at f fs Greater ih = ap (more_fields f.0 (means f.1)) ih

pub inserted : (means : TypeRef → Term) (name : List ℕ) (at : TypeRef) (fs : List (List ℕ × TypeRef)) → fields_by means (insert_entry name_cmp fs name at) ≡ put_last name (means at) (fields_by means fs)
inserted means name at [] = refl
inserted means name at (f ∷ fs) = inserted_by means name at f fs (name_cmp name f.0) (inserted means name at fs)

at_first : (at x : TypeRef) (xs : List TypeRef) → Contains (at ∷ []) x → Contains (at ∷ xs) x
at_first at x xs inside = Contains-append_left (at ∷ []) xs x inside

later : (y x : TypeRef) (xs : List TypeRef) → Contains xs x → Contains (y ∷ xs) x
later y x xs inside = Contains-append_right (y ∷ []) xs x inside

refs_by : (name : List ℕ) (at : TypeRef) (f : List ℕ × TypeRef) (fs : List (List ℕ × TypeRef)) (x : TypeRef) (o : Ordering)
    → (Contains (field_types (insert_entry name_cmp fs name at)) x → Contains (at ∷ field_types fs) x)
    → Contains (field_types (match_ordering o ((name, at) ∷ f ∷ fs) ((f.0, at) ∷ fs) (f ∷ insert_entry name_cmp fs name at))) x → Contains (at ∷ f.1 ∷ field_types fs) x
refs_by name at f fs x Less ih inside = inside
refs_by name at f fs x Equal ih inside = skip (Contains-append_cases (at ∷ []) (field_types fs) x inside)
  where
    skip : Contains (at ∷ []) x ⊎ Contains (field_types fs) x → Contains (at ∷ f.1 ∷ field_types fs) x
    skip (inl k) = at_first at x (f.1 ∷ field_types fs) k
    skip (inr k) = later at x (f.1 ∷ field_types fs) (later f.1 x (field_types fs) k)
refs_by name at f fs x Greater ih inside = back (Contains-append_cases (f.1 ∷ []) (field_types (insert_entry name_cmp fs name at)) x inside)
  where
    rest : Contains (at ∷ []) x ⊎ Contains (field_types fs) x → Contains (at ∷ f.1 ∷ field_types fs) x
    rest (inl k) = at_first at x (f.1 ∷ field_types fs) k
    rest (inr k) = later at x (f.1 ∷ field_types fs) (later f.1 x (field_types fs) k)

    back : Contains (f.1 ∷ []) x ⊎ Contains (field_types (insert_entry name_cmp fs name at)) x → Contains (at ∷ f.1 ∷ field_types fs) x
    back (inl k) = later at x (f.1 ∷ field_types fs) (at_first f.1 x (field_types fs) k)
    back (inr k) = rest (Contains-append_cases (at ∷ []) (field_types fs) x (ih k))

inserted_refs : (name : List ℕ) (at : TypeRef) (fs : List (List ℕ × TypeRef)) (x : TypeRef) → Contains (field_types (insert_entry name_cmp fs name at)) x → Contains (at ∷ field_types fs) x
inserted_refs name at [] x inside = inside
inserted_refs name at (f ∷ fs) x inside = refs_by name at f fs x (name_cmp name f.0) (inserted_refs name at fs x) inside

pub inserted_all : (P : TypeRef → Type 0) (name : List ℕ) (at : TypeRef) (fs new : List (List ℕ × TypeRef)) → new ≡ insert_entry name_cmp fs name at → All P (at ∷ field_types fs) → All P (field_types new)
inserted_all P name at fs new e all =
    subst (λ (zs : List (List ℕ × TypeRef)). All P (field_types zs)) (sym e)
    (all_fewer P (at ∷ field_types fs) (field_types (insert_entry name_cmp fs name at)) (inserted_refs name at fs) all)
