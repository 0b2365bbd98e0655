-- One step of each walk over written types.
use Rattle.std.proofs.Common.{◌≡◌, ℕ, suc, ◌+◌, ◌-◌, ◌<◌, ◌≤◌, List, [], ◌∷◌, length, get_or, take, drop, refl, sym, ap, ◌∙◌, subst, arith}
use Rattle.std.specs.Prelude.{false, IsTrue, All}
use Rattle.std.proofs.Math.Seq.{take-length}
use Rattle.std.proofs.lemmas.List.Elements.{All-nil, All-cons}
use Rattle.std.specs.BTreeMap.{insert_entry}
use Rattle.luau_tree.specs.Tree as plain
use Rattle.luau_tree.specs.View.{view_props, view_type, view_types}
use Rattle.luau_tree.specs.declared.tree as code
use Rattle.type_arena.specs.Arena.{store_of}
use Rattle.type_arena.specs.Meaning.{term_of, fields_by}
use Rattle.type_arena.specs.Store.{has, field_types}
use Rattle.type_arena.specs.Term.{Term, Fields, no_fields}
use Rattle.type_arena.specs.declared.arena.Arena.{Arena}
use Rattle.type_arena.specs.declared.node.TypeRef.{TypeRef}
use Rattle.type_normal.specs.Adds.{Adds}
use Rattle.type_normal.specs.Free.{name_cmp}
use Rattle.type_normal.specs.Cut.{cut_up}
use Rattle.type_normal.specs.Kinds.{row_type, nil_type}
use Rattle.type_normal.specs.Operations.{union}
use Rattle.type_normal.specs.Growing.{given_refs, IsClean}
use Rattle.type_ops.proofs.GrowFacts.{adds_nothing, all_clean_on, fields_kept}
use Rattle.annotations.specs.Lowered.{Known, raw, raw_fields, table_of}
use Rattle.type_lower.specs.Joined.{joined, of_none, all_joined, marked}
use Rattle.type_lower.specs.Made.{AreThere, Made, MadeFields}
use Rattle.type_lower.specs.Visible.{known_in}
use Rattle.type_lower.specs.Weight.{weight, weight_of_types}
use Rattle.type_lower.specs.declared.choosing.Choice.{Choice}
use Rattle.type_lower.proofs.JoinedFacts.{behind_taken, marks_stay}
use Rattle.type_lower.proofs.MadeFacts.{made_again, made_on, adds_after, made_after, one_made, both_made, both_adds, known_kept, as_type, given_there}
use Rattle.type_lower.proofs.WeightFacts.{item_weight}
use Rattle.type_lower.proofs.RowFacts.{table_row, put_last, inserted, inserted_all}

-- a written type behind other calls means what it meant before
pub type_made : (a b c : Arena) (aliases : List (List ℕ × TypeRef)) (at : TypeRef) (type : plain.TypeSyntax) → AreThere a (field_types aliases) → Adds a b (given_refs (field_types aliases)) []
    → Made b c (field_types aliases) at (raw (known_in b aliases) type) → Made a c (field_types aliases) at (raw (known_in a aliases) type)
type_made a b c aliases at type there adds made =
    as_type a c (field_types aliases) at _ _ (made_again a b c (field_types aliases) at _ there adds made)
    (ap (λ (known : List Known). raw known type) (known_kept a b (given_refs (field_types aliases)) [] adds aliases there))

-- one more type of a union or a meet
pub list_step : (a b c d : Arena) (aliases : List (List ℕ × TypeRef)) (choice : Choice) (x y at : TypeRef) (t : Term) (type : plain.TypeSyntax) → AreThere a (field_types aliases)
    → Made a b (field_types aliases) x t → Made b c (field_types aliases) y (raw (known_in b aliases) type)
    → Made c d (x ∷ y ∷ []) at (joined choice (term_of (store_of c) x) (term_of (store_of c) y)) → Made a d (field_types aliases) at (joined choice t (raw (known_in a aliases) type))
list_step a b c d aliases choice x y at t type there first second made =
    let next = type_made a b c aliases y type there first.adds second in
    both_made a c d (field_types aliases) choice x y at t (raw (known_in a aliases) type) (made_on a b c (field_types aliases) (given_refs (field_types aliases)) [] x t first second.adds next.adds) next made

pub list_first : (choice : Choice) (known : List Known) (types : List code.TypeSyntax.TypeSyntax) (x : code.TypeSyntax.TypeSyntax) → 0 < length types → x ≡ get_or types 0 x
    → raw known (view_type x) ≡ all_joined choice known (view_types (take (0 + 1) types))
list_first choice known [] x l is = absurd (omega arith)
list_first choice known (t ∷ ts) x l is = ap (λ (y : code.TypeSyntax.TypeSyntax). raw known (view_type y)) is

list_behind : (choice : Choice) (known : List Known) (t : code.TypeSyntax.TypeSyntax) (ts : List code.TypeSyntax.TypeSyntax) (i : ℕ) (x : code.TypeSyntax.TypeSyntax) → i < length ts → x ≡ get_or ts i x
    → joined choice (all_joined choice known (view_types (t ∷ take i ts))) (raw known (view_type x)) ≡ all_joined choice known (view_types (t ∷ take (i + 1) ts))
list_behind choice known t ts i x l is = behind_taken choice known (raw known (view_type t)) ts i x l is

take_one_more : {X : Type 0} (i : ℕ) (t : X) (ts : List X) → take (i + 1) (t ∷ ts) ≡ t ∷ take i ts
take_one_more i t ts = ap (λ (n : ℕ). take n (t ∷ ts)) (let s : i + 1 ≡ suc i = omega arith in s)

pub list_more : (choice : Choice) (known : List Known) (types rest : List code.TypeSyntax.TypeSyntax) (i : ℕ) (x : code.TypeSyntax.TypeSyntax) → rest ≡ drop 1 types → i < length rest → x ≡ get_or rest i x
    → joined choice (all_joined choice known (view_types (take (i + 1) types))) (raw known (view_type x)) ≡ all_joined choice known (view_types (take (i + 1 + 1) types))
list_more choice known [] rest i x r l is = absurd (let e : length rest ≡ 0 = ap length r in omega arith)
list_more choice known (t ∷ ts) rest i x r l is =
    ap (λ (us : List code.TypeSyntax.TypeSyntax). joined choice (all_joined choice known (view_types us)) (raw known (view_type x))) (take_one_more i t ts)
    ∙ list_behind choice known t ts i x (subst (λ (us : List code.TypeSyntax.TypeSyntax). i < length us) r l) (subst (λ (us : List code.TypeSyntax.TypeSyntax). x ≡ get_or us i x) r is)
    ∙ ap (λ (us : List code.TypeSyntax.TypeSyntax). all_joined choice known (view_types us)) (sym (take_one_more (i + 1) t ts))

-- a type of a property behind others
pub fields_begun : (a : Arena) (given : List TypeRef) (fields : List (List ℕ × TypeRef)) → fields ≡ [] → MadeFields a a given fields no_fields
fields_begun a given fields e = record {
  adds = adds_nothing a (given_refs given);
  means = ap (fields_by (term_of (store_of a))) e;
  there = subst (λ (fs : List (List ℕ × TypeRef)). AreThere a (field_types fs)) (sym e) (All-nil (λ x. IsTrue (has (store_of a) x)));
  clean = subst (λ (fs : List (List ℕ × TypeRef)). All (IsClean a a (given_refs given)) (field_types fs)) (sym e) (All-nil (IsClean a a (given_refs given)));
}

pub field_more : (a b c : Arena) (aliases : List (List ℕ × TypeRef)) (fields new : List (List ℕ × TypeRef)) (types : Fields) (name : List ℕ) (at : TypeRef) (type : plain.TypeSyntax) → AreThere a (field_types aliases)
    → MadeFields a b (field_types aliases) fields types → Made b c (field_types aliases) at (raw (known_in b aliases) type) → new ≡ insert_entry name_cmp fields name at
    → MadeFields a c (field_types aliases) new (put_last name (raw (known_in a aliases) type) types)
field_more a b c aliases fields new types name at type there so second e =
    let next = type_made a b c aliases at type there so.adds second in
    record {
      adds = next.adds;
      means =
          ap (fields_by (term_of (store_of c))) e ∙ inserted (term_of (store_of c)) name at fields
          ∙ (λ i. put_last name (next.means i) ((fields_kept b c (given_refs (field_types aliases)) [] second.adds fields so.there ∙ so.means) i));
      there = inserted_all (λ x. IsTrue (has (store_of c) x)) name at fields new e (All-cons (λ x. IsTrue (has (store_of c) x)) at (field_types fields) next.there (given_there b c (field_types fields) (given_refs (field_types aliases)) [] second.adds so.there));
      clean = inserted_all (IsClean a c (given_refs (field_types aliases))) name at fields new e (All-cons (IsClean a c (given_refs (field_types aliases))) at (field_types fields) next.clean (all_clean_on a b c (given_refs (field_types aliases)) (field_types fields) so.clean so.there second.adds.keeps));
    }

pub fields_as : (a b : Arena) (given : List TypeRef) (fields : List (List ℕ × TypeRef)) (types others : Fields) → MadeFields a b given fields types → types ≡ others → MadeFields a b given fields others
fields_as a b given fields types others made e = record { adds = made.adds; means = made.means ∙ e; there = made.there; clean = made.clean }

-- a row of fields that were made
pub row_after : (a b c : Arena) (given : List TypeRef) (fields : List (List ℕ × TypeRef)) (types : Fields) (at : TypeRef) (t : Term) → MadeFields a b given fields types
    → Made b c (field_types fields) at (row_type false (fields_by (term_of (store_of b)) fields)) → row_type false types ≡ t → Made a c given at t
row_after a b c given fields types at t made row e =
    as_type a c given at _ _ (made_after a b c given (field_types fields) at _ made.adds made.clean row) (ap (row_type false) made.means ∙ e)

-- a type that one mark doesn't change has all marks
pub mark_fixed : (a b c : Arena) (given : List TypeRef) (x next : TypeRef) (i n : ℕ) (t : Term) → next ≡ x → Made a b given x (marked i t) → Made b c (x ∷ []) next (cut_up (union (term_of (store_of b) x) nil_type)) → i ≤ n
    → Made a c given x (marked n t)
mark_fixed a b c given x next i n t e so made l =
    let step : Made a c given next (cut_up (union (marked i t) nil_type)) = one_made a b c given x next (marked i t) (λ (s : Term). cut_up (union s nil_type)) so made in
    let still : Made a c given x (marked i t) = made_on a b c given (given_refs (x ∷ [])) [] x (marked i t) so made.adds step.adds in
    let fixed : cut_up (union (marked i t) nil_type) ≡ marked i t = sym step.means ∙ ap (term_of (store_of c)) e ∙ still.means in
    as_type a c given x (marked i t) (marked n t) still (sym (marks_stay i n t l fixed))

-- no types, and all of them
pub none_types : (choice : Choice) (known : List Known) (types : List code.TypeSyntax.TypeSyntax) → length types < 1 → of_none choice ≡ all_joined choice known (view_types types)
none_types choice known [] l = refl
none_types choice known (t ∷ ts) l = absurd (omega arith)

pub list_done : (choice : Choice) (known : List Known) (types rest : List code.TypeSyntax.TypeSyntax) (i : ℕ) → rest ≡ drop 1 types → 0 < length types → i ≡ length rest
    → all_joined choice known (view_types (take (i + 1) types)) ≡ all_joined choice known (view_types types)
list_done choice known [] rest i r l e = absurd (omega arith)
list_done choice known (t ∷ ts) rest i r l e =
    ap (λ (us : List code.TypeSyntax.TypeSyntax). all_joined choice known (view_types us))
    (take_one_more i t ts ∙ ap (λ (us : List code.TypeSyntax.TypeSyntax). t ∷ us) (ap (λ (n : ℕ). take n ts) (e ∙ ap length r) ∙ take-length ts))

-- what the types of a list hold
pub rest_weight : (types rest : List code.TypeSyntax.TypeSyntax) (i : ℕ) (x : code.TypeSyntax.TypeSyntax) → rest ≡ drop 1 types → i < length rest → x ≡ get_or rest i x → weight (view_type x) ≤ weight_of_types (view_types types)
rest_weight [] rest i x r l is = absurd (let e : length rest ≡ 0 = ap length r in omega arith)
rest_weight (t ∷ ts) rest i x r l is =
    let inside : weight (view_type (get_or ts i x)) ≤ weight_of_types (view_types ts) = item_weight ts i x (subst (λ (us : List code.TypeSyntax.TypeSyntax). i < length us) r l) in
    let same : weight (view_type x) ≡ weight (view_type (get_or ts i x)) = ap (λ (y : code.TypeSyntax.TypeSyntax). weight (view_type y)) (is ∙ ap (λ (us : List code.TypeSyntax.TypeSyntax). get_or us i x) r) in
    omega arith

pub first_weight : (types : List code.TypeSyntax.TypeSyntax) (x : code.TypeSyntax.TypeSyntax) → 0 < length types → x ≡ get_or types 0 x → weight (view_type x) ≤ weight_of_types (view_types types)
first_weight types x l is =
    subst (λ (y : code.TypeSyntax.TypeSyntax). weight (view_type y) ≤ weight_of_types (view_types types)) (sym is) (item_weight types 0 x l)

pub list_adds : (a b c d : Arena) (aliases : List (List ℕ × TypeRef)) (x y : TypeRef) (t : Term) (type : plain.TypeSyntax) → AreThere a (field_types aliases)
    → Made a b (field_types aliases) x t → Made b c (field_types aliases) y (raw (known_in b aliases) type) → Adds c d (given_refs (x ∷ y ∷ [])) [] → Adds a d (given_refs (field_types aliases)) []
list_adds a b c d aliases x y t type there first second more =
    let next = type_made a b c aliases y type there first.adds second in
    both_adds a c d (field_types aliases) x y t (raw (known_in a aliases) type) (made_on a b c (field_types aliases) (given_refs (field_types aliases)) [] x t first second.adds next.adds) next more

pub row_adds : (a b c : Arena) (given : List TypeRef) (fields : List (List ℕ × TypeRef)) (types : Fields) → MadeFields a b given fields types → Adds b c (given_refs (field_types fields)) [] → Adds a c (given_refs given) []
row_adds a b c given fields types made more = adds_after a b c given (field_types fields) made.adds made.clean more

-- all types but the first, as a slice of all
pub rest_all : (types : List code.TypeSyntax.TypeSyntax) → take (length types - 1) (drop 1 types) ≡ drop 1 types
rest_all [] = refl
rest_all (t ∷ ts) = ap (λ (n : ℕ). take n ts) (let e : length (t ∷ ts) - 1 ≡ length ts = omega arith in e) ∙ take-length ts

pub nothing_in : (fields : List (List ℕ × TypeRef)) → length fields ≡ 0 → fields ≡ []
nothing_in [] e = refl
nothing_in (f ∷ fs) e = absurd (omega arith)

-- the row of all properties
pub all_rowed : (known : List Known) (props : List code.Prop.Prop) (i : ℕ) → i ≡ length props → row_type false (raw_fields known (view_props (take i props))) ≡ table_of (raw_fields known (view_props props))
all_rowed known props i e =
    ap (λ (ps : List code.Prop.Prop). row_type false (raw_fields known (view_props ps))) (ap (λ (n : ℕ). take n props) e ∙ take-length props)
    ∙ table_row (raw_fields known (view_props props))

-- the type of a property
abbrev pub typ_of : code.Prop.Prop → plain.TypeSyntax
typ_of x = view_type x.typ
