-- A node with other rows, whose references are among its own.
use Rattle.std.proofs.Common.{◌≡◌, ℕ, ◌+◌, ◌<◌, Bool, true, false, not, List, [], ◌∷◌, ◌++◌, length, get_or, take, refl, sym, ap, ◌∙◌, subst, arith}
use Rattle.std.specs.Prelude.{◌||◌, ◌&&◌, ◌⊎◌, if◌then◌else◌, filter, Option, Some, None, IsTrue, All, Contains}
use Rattle.std.proofs.Common.{inl, inr}
use Rattle.std.specs.List.{list_any}
use Rattle.std.proofs.lemmas.List.Elements.{filter_more, All-contains, Contains-get_or, All-cons, All-nil, Contains-append_left, Contains-append_right, Contains-append_cases}
use Rattle.type_arena.specs.Arena.{home_of, below_of, store_of}
use Rattle.type_arena.specs.Homes.{itself, by_ref, MayUse, reached, UsesHomes, literal_homes}
use Rattle.type_arena.specs.Meaning.{term_of, term_by, rows_by, fields_by}
use Rattle.type_arena.specs.Store.{Store, IsSound, node_at, has, refs_of, field_types, row_types, Keeps}
use Rattle.type_arena.specs.Term.{Term, term, Rows, no_rows, more_rows, free_of}
use Rattle.type_arena.specs.declared.arena.Arena.{Arena}
use Rattle.type_arena.specs.declared.node.Node.{Node}
use Rattle.type_arena.specs.declared.node.Row.{Row}
use Rattle.type_arena.specs.declared.node.TypeRef.{TypeRef}
use Rattle.type_arena.proofs.MeaningLemmas.{term_of-node}
use Rattle.type_normal.specs.Adds.{Adds}
use Rattle.type_normal.specs.Cut.{is_small, has_any_table, few_values, cut_down, many_values, cut_up}
use Rattle.type_normal.specs.HeapFree.{is_bare, heap_free_fields, heap_free_row, strip_rows}
use Rattle.type_normal.specs.Shape.{shape_of_fields, as_row}
use Rattle.type_normal.specs.declared.shape.Shape.{Shape}
use Rattle.type_normal.specs.Nodes.{is_nil, is_all_tables, all_tables, few_rows, heap_free_ones}
use Rattle.type_normal.specs.Rows.{any_table}
use Rattle.type_normal.specs.Growing.{given_refs, IsClean}
use Rattle.type_normal.proofs.AddsFacts.{alone, uses_from}
use Rattle.type_normal.proofs.CleanFacts.{interned_is_clean}

-- an answer that was given
pub adds_itself : (arena : Arena) (a : TypeRef) → Adds arena arena (record { refs = a ∷ []; literals = [] }) (a ∷ [])
adds_itself arena a = record {
  below = refl;
  home = refl;
  keeps = λ at node e. e;
  kept = λ at there. refl;
  homes = record {
    answered = All-cons (λ at. MayUse (store_of arena) (home_of arena) (record { refs = a ∷ []; literals = [] }) at.home) a [] (reached a a.home (alone a) (by_ref a itself))
        (All-nil (λ at. MayUse (store_of arena) (home_of arena) (record { refs = a ∷ []; literals = [] }) at.home));
    refs = λ at node e absent. absurd (contra (node_at (store_of arena) at) node e absent);
    literals = λ at node e absent. absurd (contra (node_at (store_of arena) at) node e absent);
  };
}
  where
    contra : (o : Option Node) (node : Node) → o ≡ Some node → o ≡ None → ⊥
    contra o node e absent = cc

-- a node that is interned with other rows
pub rows_add : (old new : Arena) (a : TypeRef) (n node : Node) (rows : List Row) (at : TypeRef) → node_at (store_of old) a ≡ Some n → node ≡ record n { rows = rows }
    → ((child : TypeRef) → Contains (row_types rows) child → Contains (row_types n.rows) child)
    → below_of new ≡ below_of old → home_of new ≡ home_of old → Keeps (store_of old) (store_of new)
    → ((at : TypeRef) → IsTrue (has (store_of old) at) → term_of (store_of new) at ≡ term_of (store_of old) at)
    → UsesHomes (home_of old) (store_of old) (store_of new) (record { refs = refs_of node; literals = literal_homes node.functions }) (at ∷ [])
    → Adds old new (record { refs = a ∷ []; literals = [] }) (at ∷ [])
rows_add old new a n node rows at e is fewer below home keeps kept uses = record {
  below = below;
  home = home;
  keeps = keeps;
  kept = kept;
  homes = uses_from (home_of old) (store_of old) (store_of new) (a ∷ []) node at
      (λ child inside. (a, n, alone a, e, fewer child (subst (λ (m : Node). Contains (refs_of m) child) is inside)))
      (λ h inside. (a, n, alone a, e, subst (λ (m : Node). Contains (literal_homes m.functions) h) is inside)) uses;
}

-- nothing else is reached from it than from the one that it was made of
pub rows_clean : (old new : Arena) (a : TypeRef) (n node : Node) (rows : List Row) (at : TypeRef) → node_at (store_of old) a ≡ Some n → node ≡ record n { rows = rows }
    → ((child : TypeRef) → Contains (row_types rows) child → Contains (row_types n.rows) child)
    → node_at (store_of new) at ≡ Some node → at.home ≡ home_of new → home_of new ≡ home_of old → Keeps (store_of old) (store_of new)
    → IsClean old new (given_refs (a ∷ [])) at
rows_clean old new a n node rows at e is fewer made home own keeps =
    interned_is_clean old new (a ∷ []) node at made home own keeps
    (λ child inside. (a, n, alone a, e, fewer child (subst (λ (m : Node). Contains (refs_of m) child) is inside)))
    (λ h inside. (a, n, alone a, e, subst (λ (m : Node). Contains (literal_homes m.functions) h) is inside))

-- what such a node means
pub rows_mean : (store : Store) → IsSound store → (a : TypeRef) (n node : Node) (rows : List Row) → node_at store a ≡ Some n → node ≡ record n { rows = rows }
    → (change : Term → Term) (better : Rows → Rows) → ((r : Rows) → change (term (free_of n) r) ≡ term (free_of n) (better r))
    → rows_by (term_of store) rows ≡ better (rows_by (term_of store) n.rows) → term_by (term_of store) node ≡ change (term_of store a)
rows_mean store sound a n node rows e is change better changed same =
    ap (term_by (term_of store)) is ∙ ap (λ (r : Rows). term (free_of n) r) same ∙ sym (changed (rows_by (term_of store) n.rows)) ∙ ap change (sym (term_of-node store sound a n e))

-- few rows
any_step : (means : TypeRef → Term) (b : Bool) (fs : List (List ℕ × TypeRef)) (rest : Bool) (r : Rows) → rest ≡ has_any_table r
    → (not b && is_nil fs) || rest ≡ has_any_table (more_rows b (fields_by means fs) r)
any_step means true fs rest r e = e
any_step means false [] rest r e = refl
any_step means false (f ∷ fs) rest r e = e

any_by : (means : TypeRef → Term) (rows : List Row) → list_any is_all_tables rows ≡ has_any_table (rows_by means rows)
any_by means [] = refl
any_by means (row ∷ rows) = any_step means row.frozen row.fields (list_any is_all_tables rows) (rows_by means rows) (any_by means rows)

few_by : (means : TypeRef → Term) (b : Bool) → rows_by means (if b then all_tables ∷ [] else []) ≡ (if b then any_table else no_rows)
few_by means true = refl
few_by means false = refl

pub few_mean : (means : TypeRef → Term) (rows : List Row) → rows_by means (few_rows rows) ≡ (if has_any_table (rows_by means rows) then any_table else no_rows)
few_mean means rows = few_by means (list_any is_all_tables rows) ∙ ap (λ (b : Bool). if b then any_table else no_rows) (any_by means rows)

no_member : (child : TypeRef) → Contains [] child → ⊥
no_member child h = let l : h.0 < 0 = h.1 in omega arith

pub few_refs : (rows : List Row) (child : TypeRef) → Contains (row_types (few_rows rows)) child → ⊥
few_refs rows child = go (list_any is_all_tables rows)
  where
    go : (b : Bool) → Contains (row_types (if b then all_tables ∷ [] else [])) child → ⊥
    go true = no_member child
    go false = no_member child

pub all_refs : (child : TypeRef) → Contains (row_types (all_tables ∷ [])) child → ⊥
all_refs child = no_member child

pub large_down : (t : Term) → is_small t ≡ false → cut_down t ≡ few_values t
large_down t e = ap (λ (b : Bool). if b then t else few_values t) e

pub large_up : (t : Term) → is_small t ≡ false → cut_up t ≡ many_values t
large_up t e = ap (λ (b : Bool). if b then t else many_values t) e

pub small_down : (t : Term) → is_small t ≡ true → cut_down t ≡ t
small_down t e = ap (λ (b : Bool). if b then t else few_values t) e

pub small_up : (t : Term) → is_small t ≡ true → cut_up t ≡ t
small_up t e = ap (λ (b : Bool). if b then t else many_values t) e

-- heap-free rows
stripped_by : (means : TypeRef → Term) (row : Row) (rows : List Row) (b : Bool) → rows_by means (heap_free_ones means rows) ≡ strip_rows (rows_by means rows)
    → rows_by means (if b then row ∷ heap_free_ones means rows else heap_free_ones means rows)
    ≡ (if b then more_rows row.frozen (fields_by means row.fields) (strip_rows (rows_by means rows)) else strip_rows (rows_by means rows))
stripped_by means row rows true ih = ap (more_rows row.frozen (fields_by means row.fields)) ih
stripped_by means row rows false ih = ih

pub stripped_mean : (means : TypeRef → Term) (rows : List Row) → rows_by means (heap_free_ones means rows) ≡ strip_rows (rows_by means rows)
stripped_mean means [] = refl
stripped_mean means (row ∷ rows) = stripped_by means row rows (heap_free_row row.frozen (fields_by means row.fields)) (stripped_mean means rows)

pub filtered_refs_by : (row : Row) (rows kept : List Row) (child : TypeRef) (b : Bool) → (Contains (row_types kept) child → Contains (row_types rows) child)
    → Contains (row_types (if b then row ∷ kept else kept)) child → Contains (field_types row.fields ++ row_types rows) child
filtered_refs_by row rows kept child true ih inside = go (Contains-append_cases (field_types row.fields) (row_types kept) child inside)
  where
    go : Contains (field_types row.fields) child ⊎ Contains (row_types kept) child → Contains (field_types row.fields ++ row_types rows) child
    go (inl h) = Contains-append_left (field_types row.fields) (row_types rows) child h
    go (inr h) = Contains-append_right (field_types row.fields) (row_types rows) child (ih h)
filtered_refs_by row rows kept child false ih inside = Contains-append_right (field_types row.fields) (row_types rows) child (ih inside)

pub stripped_refs : (means : TypeRef → Term) (rows : List Row) (child : TypeRef) → Contains (row_types (heap_free_ones means rows)) child → Contains (row_types rows) child
stripped_refs means [] child inside = inside
stripped_refs means (row ∷ rows) child inside =
    filtered_refs_by row rows (heap_free_ones means rows) child (heap_free_row row.frozen (fields_by means row.fields)) (stripped_refs means rows child) inside

append_nil : {X : Type 0} (xs : List X) → xs ++ [] ≡ xs
append_nil [] = refl
append_nil (x ∷ xs) = ap (λ ys. x ∷ ys) (append_nil xs)

-- one more row that is kept, or isn't
pub kept_more : (p : Row → Bool) (xs : List Row) (i : ℕ) (row : Row) (old new : List Row) → i < length xs → row ≡ get_or xs i row → p row ≡ true
    → old ≡ filter p (take i xs) → new ≡ old ++ row ∷ [] → new ≡ filter p (take (i + 1) xs)
kept_more p xs i row old new l is e so made =
    let q : p (get_or xs i row) ≡ true = ap p (sym is) ∙ e in
    made ∙ ap (λ (ys : List Row). ys ++ row ∷ []) so ∙ ap (λ (r : Row). filter p (take i xs) ++ r ∷ []) is
    ∙ ap (λ (b : Bool). filter p (take i xs) ++ (if b then get_or xs i row ∷ [] else [])) (sym q) ∙ sym (filter_more p xs i row l)

pub kept_same : (p : Row → Bool) (xs : List Row) (i : ℕ) (row : Row) (old new : List Row) → i < length xs → row ≡ get_or xs i row → p row ≡ false
    → old ≡ filter p (take i xs) → new ≡ old → new ≡ filter p (take (i + 1) xs)
kept_same p xs i row old new l is e so made =
    let q : p (get_or xs i row) ≡ false = ap p (sym is) ∙ e in
    made ∙ so ∙ sym (append_nil (filter p (take i xs)))
    ∙ ap (λ (b : Bool). filter p (take i xs) ++ (if b then get_or xs i row ∷ [] else [])) (sym q) ∙ sym (filter_more p xs i row l)

-- what the shape of a row's fields says of the row
bare_by : (means : TypeRef → Term) (fs : List (List ℕ × TypeRef)) → is_nil fs ≡ is_bare (fields_by means fs)
bare_by means [] = refl
bare_by means (f ∷ fs) = refl

pub row_test : (means : TypeRef → Term) (row : Row) (slice : List (List ℕ × TypeRef)) (fields r : Shape) → slice ≡ row.fields → fields ≡ shape_of_fields (fields_by means slice)
    → r ≡ as_row (is_nil row.fields) row.frozen fields → r.heap_free ≡ heap_free_row row.frozen (fields_by means row.fields)
row_test means row slice fields r same is made =
    ap (λ (s : Shape). s.heap_free) made
    ∙ ap (λ (s : Shape). is_nil row.fields || (row.frozen && s.heap_free)) is
    ∙ ap (λ (fs : List (List ℕ × TypeRef)). is_nil row.fields || (row.frozen && heap_free_fields (fields_by means fs))) same
    ∙ ap (λ (b : Bool). b || (row.frozen && heap_free_fields (fields_by means row.fields))) (bare_by means row.fields)

-- what holds of each reference holds of each of fewer ones
pub all_fewer : (P : TypeRef → Type 0) (xs ys : List TypeRef) → ((x : TypeRef) → Contains ys x → Contains xs x) → All P xs → All P ys
all_fewer P xs ys fewer a = λ k d l. All-contains P xs (get_or ys k d) a (fewer (get_or ys k d) (Contains-get_or ys k d l))

-- the references of a node with other rows are there
pub rows_there : (store : Store) → IsSound store → (a : TypeRef) (n node : Node) (rows : List Row) → node_at store a ≡ Some n → node ≡ record n { rows = rows }
    → ((child : TypeRef) → Contains (row_types rows) child → Contains (row_types n.rows) child) → All (λ child. IsTrue (has store child)) (refs_of node)
rows_there store sound a n node rows e is fewer =
    subst (λ (m : Node). All (λ child. IsTrue (has store child)) (refs_of m)) (sym is) (all_fewer (λ child. IsTrue (has store child)) (row_types n.rows) (row_types rows) fewer (sound.there a n e))
