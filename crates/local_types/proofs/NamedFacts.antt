-- Fields by their names, from the last to the first.
use Rattle.std.proofs.Common.{◌≡◌, ℕ, ◌+◌, ◌-◌, ◌<◌, ◌≤◌, List, [], ◌∷◌, ◌++◌, length, get_or, take, refl, sym, ap, subst, ◌∙◌, arith, cond}
use Rattle.std.specs.Prelude.{Bool, true, false, ◌||◌, Some, is_some, All, Contains, map, reverse, if◌then◌else◌}
use Rattle.std.specs.BTreeMap.{insert_entry, is_at}
use Rattle.std.specs.Map.{lookup, values_of}
use Rattle.std.specs.Cmp.Lexicographic.{nat_list_cmp_total}
use Rattle.std.specs.Ordering.{is_eq, match_ordering, ordering_reverse}
use Rattle.std.specs.Str.{bytes_eq}
use Rattle.std.specs.declared.cmp.Ordering.{Ordering}
use Rattle.std.specs.declared.cmp.Ordering.TheVariants.{Less, Equal, Greater}
use Rattle.std.proofs.lemmas.List.{get_or-map, get_or-reverse, length-append, length-map, length-reverse, length-take, nil_from_length}
use Rattle.std.proofs.lemmas.List.Elements.{All-nil, All-weaker, All-contains, Contains-get_or}
use Rattle.std.proofs.lemmas.Map.Text.{is_eq-slice_cmp}
use Rattle.std.proofs.lemmas.Map.Views.{All-values-insert_entry}
use Rattle.type_arena.specs.Meaning.{fields_by}
use Rattle.type_arena.specs.Store.{field_types}
use Rattle.type_arena.specs.Term.{Term, Fields, no_fields, more_fields}
use Rattle.type_arena.specs.declared.node.TypeRef.{TypeRef}
use Rattle.type_normal.specs.Free.{name_cmp}
use Rattle.type_normal.specs.HeapFree.{has_field}
use Rattle.type_normal.specs.Members.{by_order}
use Rattle.type_normal.specs.Operations.{put_field}
use Rattle.local_types.specs.Named.{with_earlier, fields_named}

-- a type that stands for none
abbrev pub no_type : TypeRef
no_type = record { home = 0; id = 0 }

-- fields in front of others
abbrev pub fields_onto : Fields → List (List ℕ) → List Term → Fields
fields_onto base [] types = base
fields_onto base (name ∷ names) [] = base
fields_onto base (name ∷ names) (type ∷ types) = with_earlier name type (fields_onto base names types)

onto_none : (names : List (List ℕ)) (types : List Term) → fields_onto no_fields names types ≡ fields_named names types
onto_none [] types = refl
onto_none (name ∷ names) [] = refl
onto_none (name ∷ names) (type ∷ types) = ap (with_earlier name type) (onto_none names types)

names_cut : (names : List (List ℕ)) (types : List Term) → fields_named (take (length types) names) types ≡ fields_named names types
names_cut [] [] = refl
names_cut [] (type ∷ types) = refl
names_cut (name ∷ names) [] = refl
names_cut (name ∷ names) (type ∷ types) = ap (with_earlier name type) (names_cut names types)

onto_last : (base : Fields) (names : List (List ℕ)) (name : List ℕ) (types : List Term) (d : Term) → length names < length types
    → fields_onto base (names ++ name ∷ []) types ≡ fields_onto (with_earlier name (get_or types (length names) d) base) names types
onto_last base [] name [] d l = absurd (omega (arith, l))
onto_last base [] name (type ∷ types) d l = refl
onto_last base (first ∷ names) name [] d l = absurd (omega (arith, l))
onto_last base (first ∷ names) name (type ∷ types) d l = ap (with_earlier first type) (onto_last base names name types d (omega (arith, l)))

-- whether entries have a name
turned : (o : Ordering) → is_eq (ordering_reverse o) ≡ is_eq o
turned Less = refl
turned Equal = refl
turned Greater = refl

same_name : (other name : List ℕ) → bytes_eq other name ≡ is_at (name_cmp name) other
same_name other name = sym (is_eq-slice_cmp other name) ∙ ap is_eq (nat_list_cmp_total.antisymm other name) ∙ turned (name_cmp name other)

found : (means : TypeRef → Term) (name : List ℕ) (es : List (List ℕ × TypeRef)) → has_field name (fields_by means es) ≡ is_some (lookup (is_at (name_cmp name)) es)
found means name [] = refl
found means name (e ∷ es) = (λ i. same_name e.0 name i || found means name es i) ∙ by (is_at (name_cmp name) e.0)
  where
    by : (b : Bool) → (b || is_some (lookup (is_at (name_cmp name)) es)) ≡ is_some (cond b (Some e.1) (lookup (is_at (name_cmp name)) es))
    by true = refl
    by false = refl

differ : true ≡ false → ⊥
differ e = cc

-- a new name is put where it goes in the order
put_by : (means : TypeRef → Term) (name : List ℕ) (at : TypeRef) (e : List ℕ × TypeRef) (es : List (List ℕ × TypeRef)) (o : Ordering) → name_cmp name e.0 ≡ o → (is_at (name_cmp name) e.0 || has_field name (fields_by means es)) ≡ false
    → (has_field name (fields_by means es) ≡ false → put_field name (means at) (λ later. later) (fields_by means es) ≡ fields_by means (insert_entry name_cmp es name at))
    → by_order o (more_fields name (means at) (more_fields e.0 (means e.1) (fields_by means es))) (more_fields e.0 (means e.1) (fields_by means es)) (more_fields e.0 (means e.1) (put_field name (means at) (λ later. later) (fields_by means es)))
    ≡ fields_by means (match_ordering o ((name, at) ∷ e ∷ es) ((e.0, at) ∷ es) (e ∷ insert_entry name_cmp es name at))
put_by means name at e es Less is none ih = refl
put_by means name at e es Equal is none ih =
    absurd (differ (sym (ap (λ (o : Ordering). is_eq o || has_field name (fields_by means es)) is) ∙ none))
put_by means name at e es Greater is none ih =
    ap (more_fields e.0 (means e.1)) (ih (sym (ap (λ (o : Ordering). is_eq o || has_field name (fields_by means es)) is) ∙ none))

put_new : (means : TypeRef → Term) (name : List ℕ) (at : TypeRef) (es : List (List ℕ × TypeRef)) → has_field name (fields_by means es) ≡ false
    → put_field name (means at) (λ later. later) (fields_by means es) ≡ fields_by means (insert_entry name_cmp es name at)
put_new means name at [] none = refl
put_new means name at (e ∷ es) none =
    put_by means name at e es (name_cmp name e.0) refl (sym (ap (λ (b : Bool). b || has_field name (fields_by means es)) (same_name e.0 name)) ∙ none) (put_new means name at es)

-- the types in entries
types_values : (es : List (List ℕ × TypeRef)) → field_types es ≡ values_of es
types_values [] = refl
types_values (e ∷ es) = ap (λ (ts : List TypeRef). e.1 ∷ ts) (types_values es)

all_put : (P : TypeRef → Type 0) (name : List ℕ) (at : TypeRef) (es : List (List ℕ × TypeRef)) → All P (field_types es) → P at → All P (field_types (insert_entry name_cmp es name at))
all_put P name at es all p =
    subst (All P) (sym (types_values (insert_entry name_cmp es name at)))
    (All-values-insert_entry name_cmp name at P es (subst (All P) (types_values es) all) p)

-- the fields of all names but those that are left
pub record NamedSo (names : List (List ℕ)) (types : List TypeRef) (left : List (List ℕ)) (entries : List (List ℕ × TypeRef)) : Type 0 where
  pub fields : (means : TypeRef → Term) → fields_onto (fields_by means entries) left (reverse (map means types)) ≡ fields_named names (reverse (map means types))
  pub short : length left ≤ length types
  pub among : All (Contains types) (field_types entries)

listed_long : (means : TypeRef → Term) (types : List TypeRef) → length (reverse (map means types)) ≡ length types
listed_long means types = length-reverse (map means types) ∙ length-map types means

pub named_none : (names : List (List ℕ)) (types : List TypeRef) (left : List (List ℕ)) (entries : List (List ℕ × TypeRef)) → left ≡ take (length types) names → length entries ≡ 0 → NamedSo names types left entries
named_none names types left entries cut none = record {
  fields = λ means.
      (λ i. fields_onto (fields_by means (nil_from_length entries none i)) (cut i) (reverse (map means types)))
      ∙ onto_none (take (length types) names) (reverse (map means types))
      ∙ ap (λ (k : ℕ). fields_named (take k names) (reverse (map means types))) (sym (listed_long means types))
      ∙ names_cut names (reverse (map means types));
  short = let long : length left ≡ length (take (length types) names) = ap length cut in let most = length-take (length types) names in omega (arith, long, most);
  among = subst (λ (es : List (List ℕ × TypeRef)). All (Contains types) (field_types es)) (sym (nil_from_length entries none)) (All-nil (Contains types));
}

-- the type at the place of a name
type_at : (means : TypeRef → Term) (types : List TypeRef) (k : ℕ) (d : TypeRef) → k < length types → get_or (reverse (map means types)) k (means d) ≡ means (get_or types (length types - 1 - k) d)
type_at means types k d l =
    let long : length (map means types) ≡ length types = length-map types means in
    let inside : k < length (map means types) = omega (arith, l, long) in
    let place : length (map means types) - 1 - k ≡ length types - 1 - k = omega (arith, long) in
    let within : length types - 1 - k < length types = omega (arith, l) in
    get_or-reverse (map means types) k (means d) inside ∙ ap (λ (j : ℕ). get_or (map means types) j (means d)) place ∙ get_or-map means types (length types - 1 - k) d (means d) within

-- one name less
one_less : (names : List (List ℕ)) (types : List TypeRef) (left rest : List (List ℕ)) (name : List ℕ) (entries : List (List ℕ × TypeRef)) (d : TypeRef) → NamedSo names types left entries → left ≡ rest ++ name ∷ [] → length rest < length types
    → (means : TypeRef → Term) → fields_onto (with_earlier name (means (get_or types (length types - 1 - length rest) d)) (fields_by means entries)) rest (reverse (map means types)) ≡ fields_named names (reverse (map means types))
one_less names types left rest name entries d so last l means =
    let long : length (reverse (map means types)) ≡ length types = listed_long means types in
    let inside : length rest < length (reverse (map means types)) = omega (arith, l, long) in
    ap (λ (t : Term). fields_onto (with_earlier name t (fields_by means entries)) rest (reverse (map means types))) (sym (type_at means types (length rest) d l))
    ∙ sym (onto_last (fields_by means entries) rest name (reverse (map means types)) (means d) inside)
    ∙ ap (λ (ns : List (List ℕ)). fields_onto (fields_by means entries) ns (reverse (map means types))) (sym last)
    ∙ so.fields means

pub rest_short : (left rest : List (List ℕ)) (name : List ℕ) (types : List TypeRef) → left ≡ rest ++ name ∷ [] → length left ≤ length types → length rest < length types
rest_short left rest name types last l = let long : length left ≡ length rest + 1 = ap length last ∙ length-append rest (name ∷ []) in omega (arith, long, l)

pub named_known : (names : List (List ℕ)) (types : List TypeRef) (left rest : List (List ℕ)) (name : List ℕ) (entries : List (List ℕ × TypeRef)) → NamedSo names types left entries → left ≡ rest ++ name ∷ []
    → is_some (lookup (is_at (name_cmp name)) entries) ≡ true → NamedSo names types rest entries
named_known names types left rest name entries so last has = record {
  fields = λ means.
      ap (λ (fs : Fields). fields_onto fs rest (reverse (map means types)))
      (sym (ap (λ (b : Bool). if b then fields_by means entries else put_field name (means (get_or types (length types - 1 - length rest) no_type)) (λ later. later) (fields_by means entries)) (found means name entries ∙ has)))
      ∙ one_less names types left rest name entries no_type so last short means;
  short = omega (arith, short);
  among = so.among;
}
  where
    short : length rest < length types
    short = rest_short left rest name types last so.short

pub named_new : (names : List (List ℕ)) (types : List TypeRef) (left rest : List (List ℕ)) (name : List ℕ) (entries new : List (List ℕ × TypeRef)) (k : ℕ) → NamedSo names types left entries → left ≡ rest ++ name ∷ []
    → is_some (lookup (is_at (name_cmp name)) entries) ≡ false → k ≡ length rest → new ≡ insert_entry name_cmp entries name (get_or types (length types - 1 - k) no_type) → NamedSo names types rest new
named_new names types left rest name entries new k so last none same put = record {
  fields = λ means.
      ap (λ (fs : Fields). fields_onto fs rest (reverse (map means types)))
      (ap (fields_by means) here ∙ sym (put_new means name (get_or types (length types - 1 - length rest) no_type) entries (found means name entries ∙ none))
      ∙ sym (ap (λ (b : Bool). if b then fields_by means entries else put_field name (means (get_or types (length types - 1 - length rest) no_type)) (λ later. later) (fields_by means entries)) (found means name entries ∙ none)))
      ∙ one_less names types left rest name entries no_type so last short means;
  short = omega (arith, short);
  among =
      subst (λ (es : List (List ℕ × TypeRef)). All (Contains types) (field_types es)) (sym here)
      (all_put (Contains types) name (get_or types (length types - 1 - length rest) no_type) entries so.among (Contains-get_or types (length types - 1 - length rest) no_type (omega (arith, short))));
}
  where
    short : length rest < length types
    short = rest_short left rest name types last so.short

    here : new ≡ insert_entry name_cmp entries name (get_or types (length types - 1 - length rest) no_type)
    here = put ∙ ap (λ (j : ℕ). insert_entry name_cmp entries name (get_or types (length types - 1 - j) no_type)) same

-- what holds of all types holds of those in the fields
all_among : (P : TypeRef → Type 0) (types refs : List TypeRef) → All (Contains types) refs → All P types → All P refs
all_among P types refs among all = All-weaker (Contains types) P (λ x inside. All-contains P types x all inside) refs among

pub listed_all : (P : TypeRef → Type 0) (types : List TypeRef) (entries listed : List (List ℕ × TypeRef)) → listed ≡ entries → All (Contains types) (field_types entries) → All P types → All P (field_types listed)
listed_all P types entries listed same among all =
    subst (λ (es : List (List ℕ × TypeRef)). All P (field_types es)) (sym same) (all_among P types (field_types entries) among all)

pub fields_done : (names : List (List ℕ)) (types : List TypeRef) (left : List (List ℕ)) (entries : List (List ℕ × TypeRef)) → NamedSo names types left entries → length left ≡ 0
    → (means : TypeRef → Term) → fields_by means entries ≡ fields_named names (reverse (map means types))
fields_done names types left entries so none means =
    sym (ap (λ (ns : List (List ℕ)). fields_onto (fields_by means entries) ns (reverse (map means types))) (nil_from_length left none)) ∙ so.fields means
