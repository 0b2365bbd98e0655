-- Rows in normal form.
use Rattle.std.proofs.Common.{◌≡◌, ℕ, suc, ◌+◌, ◌<◌, Bool, true, false, not, List, [], ◌∷◌, ◌++◌, length, get_or, take, drop, refl, sym, ap, ◌∙◌, subst, arith, append_assoc}
use Rattle.std.specs.Prelude.{◌&&◌, ◌||◌, ◌==◌, ◌⊎◌, Some, IsTrue, All, Contains, filter, if◌then◌else◌}
use Rattle.std.proofs.Common.{inl, inr}
use Rattle.std.proofs.lemmas.List.Elements.{filter_more, Contains-append_left, Contains-append_right, Contains-append_cases}
use Rattle.type_arena.specs.Meaning.{term_of, rows_by, fields_by, term_by}
use Rattle.type_arena.specs.Store.{Store, IsSound, node_at, field_types, row_types}
use Rattle.type_arena.specs.Term.{Members, only, all_but, Free, Term, term, Rows, no_rows, more_rows, Fields, no_fields, more_fields, free_of, strings_of, functions_of}
use Rattle.type_arena.specs.declared.node.Among.{Among}
use Rattle.type_arena.specs.declared.node.Among.TheVariants.{Only, AllBut}
use Rattle.type_arena.specs.declared.node.FnName.{FnName}
use Rattle.type_arena.specs.declared.node.Node.{Node}
use Rattle.type_arena.specs.declared.node.Row.{Row}
use Rattle.type_arena.specs.declared.node.TypeRef.{TypeRef}
use Rattle.type_arena.proofs.MeaningLemmas.{term_of-node}
use Rattle.type_normal.specs.Free.{is_whole_free}
use Rattle.type_normal.specs.Members.{in_order, is_whole_set}
use Rattle.type_normal.specs.Nodes.{is_nil, is_all_tables}
use Rattle.type_normal.specs.Rows.{put_row, put_normal, has_empty, is_unknown, known_fields}
use Rattle.type_normal.proofs.RowsFacts.{all_fewer}
use Rattle.type_ops.specs.Comparing.{row_order}
use Rattle.type_ops.specs.Normalized.{normal_of, known_ones, known_row, known_rows, is_all, only_all_tables, has_every_part}
use Rattle.type_ops.proofs.FlatFacts.{in_order_refs}
use Rattle.type_ops.proofs.JoinFacts.{put_means}
use Rattle.type_ops.proofs.ListFacts.{append_nil}
use Rattle.std.proofs.lemmas.List.{take_more}

-- the fields that are kept
ones_by : (means : TypeRef → Term) (f : List ℕ × TypeRef) (fs : List (List ℕ × TypeRef)) (b : Bool) → fields_by means (known_ones means fs) ≡ known_fields (fields_by means fs)
    → fields_by means (if not b then f ∷ known_ones means fs else known_ones means fs) ≡ (if b then known_fields (fields_by means fs) else more_fields f.0 (means f.1) (known_fields (fields_by means fs)))
ones_by means f fs true ih = ih
ones_by means f fs false ih = ap (more_fields f.0 (means f.1)) ih

ones_mean : (means : TypeRef → Term) (fs : List (List ℕ × TypeRef)) → fields_by means (known_ones means fs) ≡ known_fields (fields_by means fs)
ones_mean means [] = refl
ones_mean means (f ∷ fs) = ones_by means f fs (is_unknown (means f.1)) (ones_mean means fs)

kept_by : (p : List ℕ × TypeRef → Bool) (f : List ℕ × TypeRef) (fs : List (List ℕ × TypeRef)) (child : TypeRef) (b : Bool) → (Contains (field_types (filter p fs)) child → Contains (field_types fs) child)
    → Contains (field_types (if b then f ∷ filter p fs else filter p fs)) child → Contains (field_types (f ∷ fs)) child
kept_by p f fs child true ih h = go (Contains-append_cases (f.1 ∷ []) (field_types (filter p fs)) child h)
  where
    go : Contains (f.1 ∷ []) child ⊎ Contains (field_types (filter p fs)) child → Contains (field_types (f ∷ fs)) child
    go (inl k) = Contains-append_left (f.1 ∷ []) (field_types fs) child k
    go (inr k) = Contains-append_right (f.1 ∷ []) (field_types fs) child (ih k)
kept_by p f fs child false ih h = Contains-append_right (f.1 ∷ []) (field_types fs) child (ih h)

filtered_refs : (p : List ℕ × TypeRef → Bool) (fs : List (List ℕ × TypeRef)) (child : TypeRef) → Contains (field_types (filter p fs)) child → Contains (field_types fs) child
filtered_refs p [] child h = h
filtered_refs p (f ∷ fs) child h = kept_by p f fs child (p f) (filtered_refs p fs child) h

-- the rows that are kept
rows_mean_by : (means : TypeRef → Term) (row : Row) (rows : List Row) (b : Bool) → rows_by means (in_order (row_order means) (known_rows means rows)) ≡ normal_of (rows_by means rows)
    → rows_by means (in_order (row_order means) ((if b then [] else (record { frozen = row.frozen; fields = known_ones means row.fields }) ∷ []) ++ known_rows means rows))
    ≡ (if b then normal_of (rows_by means rows) else put_row row.frozen (known_fields (fields_by means row.fields)) (normal_of (rows_by means rows)))
rows_mean_by means row rows true ih = ih
rows_mean_by means row rows false ih =
    put_means means (record { frozen = row.frozen; fields = known_ones means row.fields }) (in_order (row_order means) (known_rows means rows))
    ∙ (let e = ones_mean means row.fields in λ i. put_row row.frozen (e i) (ih i))

pub known_mean : (means : TypeRef → Term) (rows : List Row) → rows_by means (in_order (row_order means) (known_rows means rows)) ≡ normal_of (rows_by means rows)
known_mean means [] = refl
known_mean means (row ∷ rows) = rows_mean_by means row rows (has_empty (fields_by means row.fields)) (known_mean means rows)

rows_refs_by : (means : TypeRef → Term) (row : Row) (rows : List Row) (child : TypeRef) (b : Bool) → (Contains (row_types (known_rows means rows)) child → Contains (row_types rows) child)
    → Contains (row_types ((if b then [] else (record { frozen = row.frozen; fields = known_ones means row.fields }) ∷ []) ++ known_rows means rows)) child → Contains (row_types (row ∷ rows)) child
rows_refs_by means row rows child true ih h = Contains-append_right (field_types row.fields) (row_types rows) child (ih h)
rows_refs_by means row rows child false ih h = go (Contains-append_cases (field_types (known_ones means row.fields)) (row_types (known_rows means rows)) child h)
  where
    go : Contains (field_types (known_ones means row.fields)) child ⊎ Contains (row_types (known_rows means rows)) child → Contains (row_types (row ∷ rows)) child
    go (inl k) = Contains-append_left (field_types row.fields) (row_types rows) child (filtered_refs (λ field. not (is_unknown (means field.1))) row.fields child k)
    go (inr k) = Contains-append_right (field_types row.fields) (row_types rows) child (ih k)

pub known_refs : (means : TypeRef → Term) (rows : List Row) (child : TypeRef) → Contains (row_types (known_rows means rows)) child → Contains (row_types rows) child
known_refs means [] child h = h
known_refs means (row ∷ rows) child h = rows_refs_by means row rows child (has_empty (fields_by means row.fields)) (known_refs means rows child) h

pub known_there : (P : TypeRef → Type 0) (means : TypeRef → Term) (rows known : List Row) → known ≡ known_rows means rows → All P (row_types rows) → All P (row_types known)
known_there P means rows known e all =
    subst (λ (zs : List Row). All P (row_types zs)) (sym e) (all_fewer P (row_types rows) (row_types (known_rows means rows)) (known_refs means rows) all)

pub normal_refs : (means : TypeRef → Term) (rows known all : List Row) → known ≡ known_rows means rows → all ≡ in_order (row_order means) known → (child : TypeRef) → Contains (row_types all) child → Contains (row_types rows) child
normal_refs means rows known all e f child h =
    known_refs means rows child (subst (λ (zs : List Row). Contains (row_types zs) child) e (in_order_refs (row_order means) known child (subst (λ (zs : List Row). Contains (row_types zs) child) f h)))

pub normal_mean : (means : TypeRef → Term) (rows known all : List Row) → known ≡ known_rows means rows → all ≡ in_order (row_order means) known → rows_by means all ≡ normal_of (rows_by means rows)
normal_mean means rows known all e f = ap (rows_by means) (f ∙ ap (in_order (row_order means)) e) ∙ known_mean means rows

-- one more item that is kept, or isn't
pub kept_more : {X : Type 0} (p : X → Bool) (xs : List X) (i : ℕ) (x y : X) (old new : List X) → i < length xs → x ≡ get_or xs i x → y ≡ x → p x ≡ true
    → old ≡ filter p (take i xs) → new ≡ old ++ y ∷ [] → new ≡ filter p (take (i + 1) xs)
kept_more p xs i x y old new l is same e so made =
    let q : p (get_or xs i x) ≡ true = ap p (sym is) ∙ e in
    made ∙ ap (λ ys. ys ++ y ∷ []) so ∙ ap (λ z. filter p (take i xs) ++ z ∷ []) (same ∙ is)
    ∙ ap (λ (b : Bool). filter p (take i xs) ++ (if b then get_or xs i x ∷ [] else [])) (sym q) ∙ sym (filter_more p xs i x l)

pub kept_same : {X : Type 0} (p : X → Bool) (xs : List X) (i : ℕ) (x : X) (old new : List X) → i < length xs → x ≡ get_or xs i x → p x ≡ false
    → old ≡ filter p (take i xs) → new ≡ old → new ≡ filter p (take (i + 1) xs)
kept_same p xs i x old new l is e so made =
    let q : p (get_or xs i x) ≡ false = ap p (sym is) ∙ e in
    made ∙ so ∙ sym (append_nil (filter p (take i xs)))
    ∙ ap (λ (b : Bool). filter p (take i xs) ++ (if b then get_or xs i x ∷ [] else [])) (sym q) ∙ sym (filter_more p xs i x l)

-- one more row of a list that is made row by row
rows_of : (means : TypeRef → Term) (xs ys : List Row) → known_rows means (xs ++ ys) ≡ known_rows means xs ++ known_rows means ys
rows_of means [] ys = refl
rows_of means (x ∷ xs) ys = ap (λ zs. known_row means x ++ zs) (rows_of means xs ys) ∙ sym (append_assoc (known_row means x) (known_rows means xs) (known_rows means ys))

taken : {X : Type 0} (xs : List X) (i : ℕ) (x : X) → i < length xs → x ≡ get_or xs i x → take (i + 1) xs ≡ take i xs ++ x ∷ []
taken xs i x l is = take_more xs i x l ∙ ap (λ z. take i xs ++ z ∷ []) (sym is)

pub row_more : (means : TypeRef → Term) (xs : List Row) (i : ℕ) (x : Row) (empty : Bool) (fields : List (List ℕ × TypeRef)) (old new : List Row) → i < length xs → x ≡ get_or xs i x
    → empty ≡ has_empty (fields_by means x.fields) → empty ≡ false → fields ≡ known_ones means x.fields
    → old ≡ known_rows means (take i xs) → new ≡ old ++ (record { frozen = x.frozen; fields = fields }) ∷ [] → new ≡ known_rows means (take (i + 1) xs)
row_more means xs i x empty fields old new l is known full made so e =
    let b : has_empty (fields_by means x.fields) ≡ false = sym known ∙ full in
    e ∙ ap (λ zs. zs ++ (record { frozen = x.frozen; fields = fields }) ∷ []) so
    ∙ ap (λ (fs : List (List ℕ × TypeRef)). known_rows means (take i xs) ++ (record { frozen = x.frozen; fields = fs }) ∷ []) made
    ∙ ap (λ (c : Bool). known_rows means (take i xs) ++ (if c then [] else (record { frozen = x.frozen; fields = known_ones means x.fields }) ∷ [])) (sym b)
    ∙ ap (λ zs. known_rows means (take i xs) ++ zs) (sym (append_nil (known_row means x)))
    ∙ sym (rows_of means (take i xs) (x ∷ [])) ∙ ap (known_rows means) (sym (taken xs i x l is))

pub row_same : (means : TypeRef → Term) (xs : List Row) (i : ℕ) (x : Row) (empty : Bool) (old new : List Row) → i < length xs → x ≡ get_or xs i x
    → empty ≡ has_empty (fields_by means x.fields) → empty ≡ true → old ≡ known_rows means (take i xs) → new ≡ old → new ≡ known_rows means (take (i + 1) xs)
row_same means xs i x empty old new l is known lacks so e =
    let b : has_empty (fields_by means x.fields) ≡ true = sym known ∙ lacks in
    e ∙ so ∙ sym (append_nil (known_rows means (take i xs)))
    ∙ ap (λ (c : Bool). known_rows means (take i xs) ++ (if c then [] else (record { frozen = x.frozen; fields = known_ones means x.fields }) ∷ [])) (sym b)
    ∙ ap (λ zs. known_rows means (take i xs) ++ zs) (sym (append_nil (known_row means x)))
    ∙ sym (rows_of means (take i xs) (x ∷ [])) ∙ ap (known_rows means) (sym (taken xs i x l is))

-- unknown, by a node's form
and_false : (a : Bool) → a && false ≡ false
and_false true = refl
and_false false = refl

one_by : (means : TypeRef → Term) (free : Free) (b : Bool) (fs : List (List ℕ × TypeRef)) → is_unknown (term free (more_rows b (fields_by means fs) no_rows)) ≡ is_whole_free free && (not b && is_nil fs)
one_by means free true fs = sym (and_false (is_whole_free free))
one_by means free false [] = and_true (is_whole_free free)
  where
    and_true : (a : Bool) → a ≡ a && true
    and_true true = refl
    and_true false = refl
one_by means free false (f ∷ fs) = sym (and_false (is_whole_free free))

two_by : (means : TypeRef → Term) (free : Free) (b c : Bool) (fs : List (List ℕ × TypeRef)) (gs : Fields) (rest : Rows) → is_unknown (term free (more_rows b (fields_by means fs) (more_rows c gs rest))) ≡ false
two_by means free true c fs gs rest = refl
two_by means free false c [] gs rest = refl
two_by means free false c (f ∷ fs) gs rest = refl

unknown_rows : (means : TypeRef → Term) (free : Free) (rows : List Row) → is_unknown (term free (rows_by means rows)) ≡ is_whole_free free && only_all_tables rows
unknown_rows means free [] = sym (and_false (is_whole_free free))
unknown_rows means free (r ∷ []) = one_by means free r.frozen r.fields
unknown_rows means free (r ∷ s ∷ rest) = two_by means free r.frozen s.frozen r.fields (fields_by means s.fields) (rows_by means rest) ∙ sym (and_false (is_whole_free free))

-- the row of all tables alone
pub one_row : (rows : List Row) (r : Row) → length rows ≡ 1 → r ≡ get_or rows 0 r → is_all_tables r ≡ only_all_tables rows
one_row [] r l is = absurd (omega arith)
one_row (s ∷ []) r l is = ap is_all_tables is
one_row (s ∷ t ∷ rows) r l is = absurd (omega arith)

pub not_one_row : (rows : List Row) → (length rows ≡ 1 → ⊥) → false ≡ only_all_tables rows
not_one_row [] l = refl
not_one_row (s ∷ []) l = absurd (l refl)
not_one_row (s ∷ t ∷ rows) l = refl

pub unknown_by_node : (store : Store) → IsSound store → (at : TypeRef) (node : Node) → node_at store at ≡ Some node → has_every_part node ≡ is_unknown (term_of store at)
unknown_by_node store sound at node e = sym (ap is_unknown (term_of-node store sound at node e) ∙ unknown_rows (term_of store) (free_of node) node.rows)

-- whole sets, by form
pub all_strings : (s : Among (List ℕ)) → is_all s ≡ is_whole_set (strings_of s)
all_strings (Only xs) = refl
all_strings (AllBut []) = refl
all_strings (AllBut (x ∷ xs)) = refl

pub all_functions : (s : Among FnName) → is_all s ≡ is_whole_set (functions_of s)
all_functions (Only xs) = refl
all_functions (AllBut []) = refl
all_functions (AllBut (x ∷ xs)) = refl
