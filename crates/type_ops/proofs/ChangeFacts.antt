-- What types become where fields may have been written, over arenas.
use Rattle.std.proofs.Common.{◌≡◌, ℕ, zero, suc, ◌+◌, ◌<◌, ◌≤◌, Bool, true, false, not, List, [], ◌∷◌, ◌++◌, length, get_or, drop, refl, sym, ap, ◌∙◌, subst, arith}
use Rattle.std.specs.Prelude.{◌&&◌, ◌||◌, Some, IsTrue, All, Contains, if◌then◌else◌}
use Rattle.std.specs.Str.{bytes_eq}
use Rattle.std.specs.HashMap.{get}
use Rattle.std.proofs.lemmas.List.Elements.{All-nil, All-cons, All-append, All-contains, All-weaker, Contains-get_or}
use Rattle.type_arena.specs.Arena.{home_of, nodes_of, below_of, store_of}
use Rattle.type_arena.specs.Homes.{itself, through, ReachesHome, by_literal, MayUse, reached, UsesHomes, literal_homes}
use Rattle.type_arena.specs.Meaning.{term_of, term_by, rows_by, fields_by}
use Rattle.type_arena.specs.Store.{Store, IsSound, node_at, has, refs_of, field_types, row_types, Keeps}
use Rattle.type_arena.specs.Term.{Term, term, Rows, no_rows, more_rows, Fields, no_fields, more_fields, free_of}
use Rattle.type_arena.specs.declared.arena.Arena.{Arena}
use Rattle.type_arena.specs.declared.node.Node.{Node}
use Rattle.type_arena.specs.declared.node.Row.{Row}
use Rattle.type_arena.specs.declared.node.TypeRef.{TypeRef}
use Rattle.type_arena.specs.contracts.node.TypeRefPartialEq.TheImpl as TypeRefEq
use Rattle.type_arena.proofs.EqLemmas.{ref_tested}
use Rattle.type_arena.proofs.MeaningLemmas.{term_of-node}
use Rattle.type_normal.specs.Adds.{Adds}
use Rattle.type_normal.specs.HeapFree.{widen, widen_rows, widen_fields, widen_at, widen_rows_at, widen_fields_at}
use Rattle.type_normal.specs.Rows.{put_row, put_normal}
use Rattle.type_normal.proofs.AddsFacts.{there_kept, adds_none, alone}
use Rattle.type_normal.proofs.RowsFacts.{all_fewer}
use Rattle.type_normal.proofs.ShapeFacts.{field_item_holds, row_item_hold}
use Rattle.type_ops.specs.Changed.{may_be_written, changed, changed_rows, changed_fields, raw_rows, IsChange, Changes, AreChanges}
use Rattle.type_normal.specs.Growing.{given_refs, IsClean}
use Rattle.type_ops.specs.Lists.{append_rows}
use Rattle.type_ops.specs.Normalized.{normal_of}
use Rattle.type_ops.specs.declared.written.Written.{Written}
use Rattle.type_ops.specs.declared.written.Written.TheVariants.{AnyField, Named}
use Rattle.type_ops.proofs.CompareFacts.{dropped}
use Rattle.type_ops.proofs.FlatFacts.{append_refs}
use Rattle.type_ops.proofs.GrowFacts.{FromAny, may_reach, home_back, may_on, adds_nothing, adds_more, inner_may, clean_inner, all_clean_on, all_there_on, interned_more, interned_clean, fields_kept, rows_kept}

-- the weight of a type falls on the way down
abbrev mutual
  pub weight : Term → ℕ
  weight (term free rows) = suc (weight_of_rows rows)

  pub weight_of_rows : Rows → ℕ
  weight_of_rows no_rows = 0
  weight_of_rows (more_rows frozen fields rows) = weight_of_fields fields + weight_of_rows rows

  pub weight_of_fields : Fields → ℕ
  weight_of_fields no_fields = 0
  weight_of_fields (more_fields name type fields) = weight type + weight_of_fields fields

pub field_weight : (means : TypeRef → Term) (fields : List (List ℕ × TypeRef)) (i : ℕ) (d : List ℕ × TypeRef) → i < length fields → weight (means (get_or fields i d).1) ≤ weight_of_fields (fields_by means fields)
field_weight means [] i d l = absurd (omega arith)
field_weight means (f ∷ fields) zero d l = omega arith
field_weight means (f ∷ fields) (suc i) d l = let h = field_weight means fields i d (omega arith) in omega arith

pub row_weight : (means : TypeRef → Term) (rows : List Row) (i : ℕ) (d : Row) → i < length rows → weight_of_fields (fields_by means (get_or rows i d).fields) ≤ weight_of_rows (rows_by means rows)
row_weight means [] i d l = absurd (omega arith)
row_weight means (r ∷ rows) zero d l = omega arith
row_weight means (r ∷ rows) (suc i) d l = let h = row_weight means rows i d (omega arith) in omega arith

-- lists of fields, one behind the other
abbrev pub append_fields : Fields → Fields → Fields
append_fields no_fields others = others
append_fields (more_fields name type fields) others = more_fields name type (append_fields fields others)

fields_push : (means : TypeRef → Term) (fields : List (List ℕ × TypeRef)) (f : List ℕ × TypeRef) (rest : Fields)
    → append_fields (fields_by means (fields ++ f ∷ [])) rest ≡ append_fields (fields_by means fields) (more_fields f.0 (means f.1) rest)
fields_push means [] f rest = refl
fields_push means (g ∷ fields) f rest = ap (more_fields g.0 (means g.1)) (fields_push means fields f rest)

pub rows_push : (means : TypeRef → Term) (rows : List Row) (r : Row) (rest : Rows)
    → append_rows (rows_by means (rows ++ r ∷ [])) rest ≡ append_rows (rows_by means rows) (more_rows r.frozen (fields_by means r.fields) rest)
rows_push means [] r rest = refl
rows_push means (s ∷ rows) r rest = ap (more_rows s.frozen (fields_by means s.fields)) (rows_push means rows r rest)

fields_none_more : (fs : Fields) → append_fields fs no_fields ≡ fs
fields_none_more no_fields = refl
fields_none_more (more_fields n t fs) = ap (more_fields n t) (fields_none_more fs)

pub rows_none_more : (r : Rows) → append_rows r no_rows ≡ r
rows_none_more no_rows = refl
rows_none_more (more_rows b fs r) = ap (more_rows b fs) (rows_none_more r)

pub drop_all : {X : Type 0} (ys : List X) → drop (length ys) ys ≡ []
drop_all [] = refl
drop_all (y ∷ ys) = drop_all ys

-- references of fields that were pushed
pub field_push : (fields : List (List ℕ × TypeRef)) (f : List ℕ × TypeRef) → field_types (fields ++ f ∷ []) ≡ field_types fields ++ f.1 ∷ []
field_push [] f = refl
field_push (g ∷ fields) f = ap (λ zs. g.1 ∷ zs) (field_push fields f)

all_field_push : (P : TypeRef → Type 0) (fields new : List (List ℕ × TypeRef)) (name : List ℕ) (at : TypeRef) → new ≡ fields ++ (name, at) ∷ [] → All P (field_types fields) → P at → All P (field_types new)
all_field_push P fields new name at e all p =
    subst (λ (zs : List (List ℕ × TypeRef)). All P (field_types zs)) (sym e)
    (subst (λ (zs : List TypeRef). All P zs) (sym (field_push fields (name, at))) (All-append P (field_types fields) (at ∷ []) all (All-cons P at [] p (All-nil P))))

pub all_row_push : (P : TypeRef → Type 0) (rows new : List Row) (row : Row) → new ≡ rows ++ row ∷ [] → All P (row_types rows) → All P (field_types row.fields) → All P (row_types new)
all_row_push P rows new row e all p =
    subst (λ (zs : List Row). All P (row_types zs)) (sym e)
    (subst (λ (zs : List TypeRef). All P zs) (sym (append_refs rows (row ∷ [])))
    (All-append P (row_types rows) (field_types row.fields ++ []) all (All-append P (field_types row.fields) [] p (All-nil P))))

-- what was made so far of the fields of a row, from the one arena to the other
pub record FieldsMade (written : Written) (frozen : Bool) (a b : Arena) (fields kept : List (List ℕ × TypeRef)) (i : ℕ) : Type 0 where
  pub adds : Adds a b (given_refs (field_types fields)) []
  pub there : All (λ at. IsTrue (has (store_of b) at)) (field_types kept)
  pub clean : All (IsClean a b (given_refs (field_types fields))) (field_types kept)
  pub so_far : append_fields (fields_by (term_of (store_of b)) kept) (changed_fields written frozen (fields_by (term_of (store_of a)) (drop i fields))) ≡ changed_fields written frozen (fields_by (term_of (store_of a)) fields)

pub fields_begun : (written : Written) (frozen : Bool) (a : Arena) (fields : List (List ℕ × TypeRef)) → FieldsMade written frozen a a fields [] 0
fields_begun written frozen a fields = record {
  adds = adds_nothing a (given_refs (field_types fields));
  there = All-nil (λ at. IsTrue (has (store_of a) at));
  clean = All-nil (IsClean a a (given_refs (field_types fields)));
  so_far = refl;
}

-- of the fields that are left, the first one
first_field : (written : Written) (frozen : Bool) (means : TypeRef → Term) (fields : List (List ℕ × TypeRef)) (i : ℕ) (f : List ℕ × TypeRef) → i < length fields → f ≡ get_or fields i f
    → changed_fields written frozen (fields_by means (drop i fields))
    ≡ (if frozen || not (may_be_written written f.0) then more_fields f.0 (changed written (means f.1)) (changed_fields written frozen (fields_by means (drop (i + 1) fields))) else changed_fields written frozen (fields_by means (drop (i + 1) fields)))
first_field written frozen means fields i f l is = ap (λ (zs : List (List ℕ × TypeRef)). changed_fields written frozen (fields_by means zs)) (dropped fields i f l is)

pub field_lost : (written : Written) (frozen : Bool) (a b : Arena) (fields kept : List (List ℕ × TypeRef)) (i : ℕ) (f : List ℕ × TypeRef) → i < length fields → f ≡ get_or fields i f
    → frozen || not (may_be_written written f.0) ≡ false → FieldsMade written frozen a b fields kept i → FieldsMade written frozen a b fields kept (i + 1)
field_lost written frozen a b fields kept i f l is lost made = record {
  adds = made.adds;
  there = made.there;
  clean = made.clean;
  so_far =
      ap (append_fields (fields_by (term_of (store_of b)) kept))
      (sym (first_field written frozen (term_of (store_of a)) fields i f l is
      ∙ ap (λ (s : Bool). if s then more_fields f.0 (changed written (term_of (store_of a) f.1)) (changed_fields written frozen (fields_by (term_of (store_of a)) (drop (i + 1) fields))) else changed_fields written frozen (fields_by (term_of (store_of a)) (drop (i + 1) fields))) lost))
      ∙ made.so_far;
}

-- a reference that is among some is reached from them
among : (store : Store) (refs : List TypeRef) (at : TypeRef) → Contains refs at → FromAny store refs at
among store refs at inside = (at, inside, itself)

one_of : (refs : List TypeRef) (x : TypeRef) → Contains (x ∷ []) x → Contains refs x → (at : TypeRef) → Contains (x ∷ []) at → Contains refs at
one_of refs x here inside at k = go k.0 k.1 k.2
  where
    go : (n : ℕ) → n < 1 → get_or (x ∷ []) n at ≡ at → Contains refs at
    go zero l e = subst (Contains refs) e inside
    go (suc n) l e = absurd (omega arith)

field_inside : (fields : List (List ℕ × TypeRef)) (i : ℕ) (f : List ℕ × TypeRef) → i < length fields → f ≡ get_or fields i f → Contains (field_types fields) f.1
field_inside fields i f l is = field_item_holds (Contains (field_types fields)) fields i f l is (λ k d m. Contains-get_or (field_types fields) k d m)

row_inside : (rows : List Row) (i : ℕ) (r : Row) → i < length rows → r ≡ get_or rows i r → (at : TypeRef) → Contains (field_types r.fields) at → Contains (row_types rows) at
row_inside rows i r l is at inside =
    All-contains (Contains (row_types rows)) (field_types r.fields) at (row_item_hold (Contains (row_types rows)) rows i r l is (λ k d m. Contains-get_or (row_types rows) k d m)) inside

-- what a call on the type of one field may use
pub field_may : (a b : Arena) (fields : List (List ℕ × TypeRef)) (i : ℕ) (f : List ℕ × TypeRef) (xs : List TypeRef) → i < length fields → f ≡ get_or fields i f
    → All (λ at. IsTrue (has (store_of a) at)) (field_types fields) → Adds a b (given_refs (field_types fields)) xs
    → (home : ℕ) → MayUse (store_of b) (home_of b) (given_refs (f.1 ∷ [])) home → MayUse (store_of a) (home_of a) (given_refs (field_types fields)) home
field_may a b fields i f xs l is there adds =
    inner_may a b (field_types fields) (f.1 ∷ []) xs adds
    (λ at k. All-contains (λ r. IsTrue (has (store_of a) r)) (field_types fields) at there (one_of (field_types fields) f.1 (alone f.1) (field_inside fields i f l is) at k))
    (λ at k. among (store_of a) (field_types fields) at (one_of (field_types fields) f.1 (alone f.1) (field_inside fields i f l is) at k))

pub field_adds : (a b c : Arena) (fields : List (List ℕ × TypeRef)) (i : ℕ) (f : List ℕ × TypeRef) → i < length fields → f ≡ get_or fields i f
    → All (λ at. IsTrue (has (store_of a) at)) (field_types fields) → Adds a b (given_refs (field_types fields)) [] → Adds b c (given_refs (f.1 ∷ [])) [] → Adds a c (given_refs (field_types fields)) []
field_adds a b c fields i f l is there adds more = adds_more a b c _ _ [] [] adds more (field_may a b fields i f [] l is there adds)

pub field_more : (written : Written) (frozen : Bool) (a b c : Arena) (fields kept new : List (List ℕ × TypeRef)) (i : ℕ) (f : List ℕ × TypeRef) (name : List ℕ) (at : TypeRef) → i < length fields → f ≡ get_or fields i f
    → All (λ r. IsTrue (has (store_of a) r)) (field_types fields) → frozen || not (may_be_written written f.0) ≡ true → FieldsMade written frozen a b fields kept i
    → term_of (store_of c) at ≡ changed written (term_of (store_of b) f.1) → IsTrue (has (store_of c) at) → IsClean b c (given_refs (f.1 ∷ [])) at → Adds b c (given_refs (f.1 ∷ [])) []
    → name ≡ f.0 → new ≡ kept ++ (name, at) ∷ [] → FieldsMade written frozen a c fields new (i + 1)
field_more written frozen a b c fields kept new i f name at l is all stays made means there clean adds named e =
    let rest = changed_fields written frozen (fields_by (term_of (store_of a)) (drop (i + 1) fields)) in
    let own : IsTrue (has (store_of a) f.1) = All-contains (λ r. IsTrue (has (store_of a) r)) (field_types fields) f.1 all (field_inside fields i f l is) in
    let meaning : term_of (store_of c) at ≡ changed written (term_of (store_of a) f.1) = means ∙ ap (changed written) (made.adds.kept f.1 own) in
    record {
      adds = field_adds a b c fields i f l is all made.adds adds;
      there = all_field_push (λ r. IsTrue (has (store_of c) r)) kept new name at e (all_there_on (store_of b) (store_of c) (field_types kept) made.there adds.keeps) there;
      clean =
          all_field_push (IsClean a c (given_refs (field_types fields))) kept new name at e
          (all_clean_on a b c (given_refs (field_types fields)) (field_types kept) made.clean made.there adds.keeps)
          (clean_inner a b c _ _ at (field_may a b fields i f [] l is all made.adds) clean);
      so_far =
          ap (λ (zs : List (List ℕ × TypeRef)). append_fields (fields_by (term_of (store_of c)) zs) rest) e
          ∙ fields_push (term_of (store_of c)) kept (name, at) rest
          ∙ (let k = fields_kept b c _ [] adds kept made.there in λ j. append_fields (k j) (more_fields (named j) (meaning j) rest))
          ∙ ap (append_fields (fields_by (term_of (store_of b)) kept))
          (sym (first_field written frozen (term_of (store_of a)) fields i f l is
          ∙ ap (λ (s : Bool). if s then more_fields f.0 (changed written (term_of (store_of a) f.1)) rest else rest) stays))
          ∙ made.so_far;
    }

pub fields_done : (written : Written) (frozen : Bool) (a b : Arena) (fields kept : List (List ℕ × TypeRef)) → FieldsMade written frozen a b fields kept (length fields)
    → fields_by (term_of (store_of b)) kept ≡ changed_fields written frozen (fields_by (term_of (store_of a)) fields)
fields_done written frozen a b fields kept made =
    sym (fields_none_more (fields_by (term_of (store_of b)) kept))
    ∙ ap (λ (zs : List (List ℕ × TypeRef)). append_fields (fields_by (term_of (store_of b)) kept) (changed_fields written frozen (fields_by (term_of (store_of a)) zs))) (sym (drop_all fields))
    ∙ made.so_far

-- the same of rows
pub record RowsMade (written : Written) (a b : Arena) (rows raw : List Row) (i : ℕ) : Type 0 where
  pub adds : Adds a b (given_refs (row_types rows)) []
  pub there : All (λ at. IsTrue (has (store_of b) at)) (row_types raw)
  pub clean : All (IsClean a b (given_refs (row_types rows))) (row_types raw)
  pub so_far : append_rows (rows_by (term_of (store_of b)) raw) (raw_rows written (rows_by (term_of (store_of a)) (drop i rows))) ≡ raw_rows written (rows_by (term_of (store_of a)) rows)

pub rows_begun : (written : Written) (a : Arena) (rows : List Row) → RowsMade written a a rows [] 0
rows_begun written a rows = record {
  adds = adds_nothing a (given_refs (row_types rows));
  there = All-nil (λ at. IsTrue (has (store_of a) at));
  clean = All-nil (IsClean a a (given_refs (row_types rows)));
  so_far = refl;
}

pub row_may : (a b : Arena) (rows : List Row) (i : ℕ) (r : Row) (slice : List (List ℕ × TypeRef)) (xs : List TypeRef) → i < length rows → r ≡ get_or rows i r → slice ≡ r.fields
    → All (λ at. IsTrue (has (store_of a) at)) (row_types rows) → Adds a b (given_refs (row_types rows)) xs
    → (home : ℕ) → MayUse (store_of b) (home_of b) (given_refs (field_types slice)) home → MayUse (store_of a) (home_of a) (given_refs (row_types rows)) home
row_may a b rows i r slice xs l is same there adds =
    inner_may a b (row_types rows) (field_types slice) xs adds
    (λ at k. All-contains (λ q. IsTrue (has (store_of a) q)) (row_types rows) at there (within at k))
    (λ at k. among (store_of a) (row_types rows) at (within at k))
  where
    within : (at : TypeRef) → Contains (field_types slice) at → Contains (row_types rows) at
    within at k = row_inside rows i r l is at (subst (λ (zs : List (List ℕ × TypeRef)). Contains (field_types zs) at) same k)

pub row_adds : (a b c : Arena) (rows : List Row) (i : ℕ) (r : Row) (slice : List (List ℕ × TypeRef)) → i < length rows → r ≡ get_or rows i r → slice ≡ r.fields
    → All (λ at. IsTrue (has (store_of a) at)) (row_types rows) → Adds a b (given_refs (row_types rows)) [] → Adds b c (given_refs (field_types slice)) [] → Adds a c (given_refs (row_types rows)) []
row_adds a b c rows i r slice l is same there adds more = adds_more a b c _ _ [] [] adds more (row_may a b rows i r slice [] l is same there adds)

pub row_more : (written : Written) (a b c : Arena) (rows raw new : List Row) (i : ℕ) (r : Row) (slice kept : List (List ℕ × TypeRef)) → i < length rows → r ≡ get_or rows i r → slice ≡ r.fields
    → All (λ at. IsTrue (has (store_of a) at)) (row_types rows) → RowsMade written a b rows raw i
    → fields_by (term_of (store_of c)) kept ≡ changed_fields written r.frozen (fields_by (term_of (store_of b)) slice)
    → All (λ at. IsTrue (has (store_of c) at)) (field_types kept) → All (IsClean b c (given_refs (field_types slice))) (field_types kept) → Adds b c (given_refs (field_types slice)) []
    → new ≡ raw ++ (record { frozen = r.frozen; fields = kept }) ∷ [] → RowsMade written a c rows new (i + 1)
row_more written a b c rows raw new i r slice kept l is same all made means there clean adds e =
    let rest = raw_rows written (rows_by (term_of (store_of a)) (drop (i + 1) rows)) in
    let own : All (λ at. IsTrue (has (store_of a) at)) (field_types r.fields) = row_item_hold (λ at. IsTrue (has (store_of a) at)) rows i r l is all in
    let before : fields_by (term_of (store_of b)) r.fields ≡ fields_by (term_of (store_of a)) r.fields = fields_kept a b _ [] made.adds r.fields own in
    let meaning : fields_by (term_of (store_of c)) kept ≡ changed_fields written r.frozen (fields_by (term_of (store_of a)) r.fields) =
    means ∙ ap (λ (zs : List (List ℕ × TypeRef)). changed_fields written r.frozen (fields_by (term_of (store_of b)) zs)) same ∙ ap (changed_fields written r.frozen) before in
    record {
      adds = row_adds a b c rows i r slice l is same all made.adds adds;
      there = all_row_push (λ q. IsTrue (has (store_of c) q)) raw new _ e (all_there_on (store_of b) (store_of c) (row_types raw) made.there adds.keeps) there;
      clean =
          all_row_push (IsClean a c (given_refs (row_types rows))) raw new _ e
          (all_clean_on a b c (given_refs (row_types rows)) (row_types raw) made.clean made.there adds.keeps)
          (All-weaker (IsClean b c (given_refs (field_types slice))) (IsClean a c (given_refs (row_types rows))) (λ at. clean_inner a b c _ _ at (row_may a b rows i r slice [] l is same all made.adds)) (field_types kept) clean);
      so_far =
          ap (λ (zs : List Row). append_rows (rows_by (term_of (store_of c)) zs) rest) e
          ∙ rows_push (term_of (store_of c)) raw (record { frozen = r.frozen; fields = kept }) rest
          ∙ (let k = rows_kept b c _ [] adds raw made.there in λ j. append_rows (k j) (more_rows r.frozen (meaning j) rest))
          ∙ ap (append_rows (rows_by (term_of (store_of b)) raw))
          (sym (ap (λ (zs : List Row). raw_rows written (rows_by (term_of (store_of a)) zs)) (dropped rows i r l is)))
          ∙ made.so_far;
    }

pub rows_done : (written : Written) (a b : Arena) (rows raw : List Row) → RowsMade written a b rows raw (length rows)
    → rows_by (term_of (store_of b)) raw ≡ raw_rows written (rows_by (term_of (store_of a)) rows)
rows_done written a b rows raw made =
    sym (rows_none_more (rows_by (term_of (store_of b)) raw))
    ∙ ap (λ (zs : List Row). append_rows (rows_by (term_of (store_of b)) raw) (raw_rows written (rows_by (term_of (store_of a)) zs))) (sym (drop_all rows))
    ∙ made.so_far

-- a whole type
pub weight_of_node : (store : Store) → IsSound store → (at : TypeRef) (node : Node) → node_at store at ≡ Some node → weight (term_of store at) ≡ suc (weight_of_rows (rows_by (term_of store) node.rows))
weight_of_node store sound at node e = ap weight (term_of-node store sound at node e)

raw_normal : (written : Written) (r : Rows) → normal_of (raw_rows written r) ≡ changed_rows written r
raw_normal written no_rows = refl
raw_normal written (more_rows b fs r) = ap (put_normal b (changed_fields written b fs)) (raw_normal written r)

pub type_means : (written : Written) (a b c : Arena) (at new : TypeRef) (node made : Node) (raw : List Row) → node_at (store_of a) at ≡ Some node
    → rows_by (term_of (store_of b)) raw ≡ raw_rows written (rows_by (term_of (store_of a)) node.rows)
    → rows_by (term_of (store_of b)) made.rows ≡ normal_of (rows_by (term_of (store_of b)) raw) → free_of made ≡ free_of node
    → term_of (store_of c) new ≡ term_by (term_of (store_of b)) made → term_of (store_of c) new ≡ changed written (term_of (store_of a) at)
type_means written a b c at new node made raw e rows normal same meaning =
    meaning
    ∙ (let k = normal ∙ ap normal_of rows ∙ raw_normal written (rows_by (term_of (store_of a)) node.rows) in λ j. term (same j) (k j))
    ∙ sym (ap (changed written) (term_of-node (store_of a) a.sound at node e))

node_from : (store : Store) (at : TypeRef) (node : Node) → node_at store at ≡ Some node → (child : TypeRef) → Contains (row_types node.rows) child → FromAny store (at ∷ []) child
node_from store at node e child inside = (at, alone at, through node e inside itself)

-- what the rows of a node may use, the node's type may
pub type_may : (a : Arena) (at : TypeRef) (node : Node) (slice : List Row) → node_at (store_of a) at ≡ Some node → slice ≡ node.rows
    → (home : ℕ) → MayUse (store_of a) (home_of a) (given_refs (row_types slice)) home → MayUse (store_of a) (home_of a) (given_refs (at ∷ [])) home
type_may a at node slice e same =
    may_reach (store_of a) (home_of a) (row_types slice) (at ∷ []) (λ child k. node_from (store_of a) at node e child (subst (λ (zs : List Row). Contains (row_types zs) child) same k))

pub type_adds : (a b : Arena) (at : TypeRef) (node : Node) (slice : List Row) → node_at (store_of a) at ≡ Some node → slice ≡ node.rows → Adds a b (given_refs (row_types slice)) [] → Adds a b (given_refs (at ∷ [])) []
type_adds a b at node slice e same adds = adds_more a a b (given_refs (at ∷ [])) (given_refs (row_types slice)) [] [] (adds_nothing a (given_refs (at ∷ []))) adds (type_may a at node slice e same)

pub type_literals : (a : Arena) (at : TypeRef) (node : Node) → node_at (store_of a) at ≡ Some node → All (MayUse (store_of a) (home_of a) (given_refs (at ∷ []))) (literal_homes node.functions)
type_literals a at node e k d l = reached at _ (alone at) (by_literal at node _ itself e (Contains-get_or (literal_homes node.functions) k d l))

pub type_clean : (a b : Arena) (at : TypeRef) (node made : Node) (slice raw : List Row) → node_at (store_of a) at ≡ Some node → slice ≡ node.rows
    → All (IsClean a b (given_refs (row_types slice))) (row_types raw) → ((child : TypeRef) → Contains (row_types made.rows) child → Contains (row_types raw) child)
    → All (IsClean a b (given_refs (at ∷ []))) (refs_of made)
type_clean a b at node made slice raw e same clean fewer =
    all_fewer (IsClean a b (given_refs (at ∷ []))) (row_types raw) (row_types made.rows) fewer
    (All-weaker (IsClean a b (given_refs (row_types slice))) (IsClean a b (given_refs (at ∷ []))) (λ r. clean_inner a a b _ _ r (type_may a at node slice e same)) (row_types raw) clean)

-- what is remembered
pub change_on : (written : Written) (a b : Arena) (at new : TypeRef) (xs : List TypeRef) (given : _) → Adds a b given xs → IsChange written a at new → IsChange written b at new
change_on written a b at new xs given adds change = record {
  there = there_kept (store_of a) (store_of b) at adds.keeps change.there;
  made = there_kept (store_of a) (store_of b) new adds.keeps change.made;
  means = adds.kept new change.made ∙ change.means ∙ ap (changed written) (sym (adds.kept at change.there));
  clean = λ home way.
      subst (λ (own : ℕ). MayUse (store_of b) own (given_refs (at ∷ [])) home) (sym adds.home)
      (may_on (store_of a) (store_of b) adds.keeps (home_of a) (given_refs (at ∷ [])) home
      (change.clean home (home_back (store_of a) (store_of b) a.sound adds.keeps new home way change.made)));
}

some_is : (a b : TypeRef) → Some a ≡ Some b → b ≡ a
some_is a b e = cc

pub changes_more : (written : Written) (a b : Arena) (given : _) (xs : List TypeRef) (old new : Changes) (k v : TypeRef) → Adds a b given xs → AreChanges written a old → IsChange written b k v
    → ((q : TypeRef) → get TypeRefEq.ghosts.eq new q ≡ (if TypeRefEq.ghosts.eq k q then Some v else get TypeRefEq.ghosts.eq old q)) → AreChanges written b new
changes_more written a b given xs old new k v adds right is puts q s e = go (TypeRefEq.ghosts.eq k q) refl
  where
    go : (c : Bool) → TypeRefEq.ghosts.eq k q ≡ c → IsChange written b q s
    go true m =
        let p : Some v ≡ Some s = sym (puts q ∙ ap (λ (c : Bool). if c then Some v else get TypeRefEq.ghosts.eq old q) m) ∙ e in
        subst (λ (r : TypeRef). IsChange written b q r) (sym (some_is v s p)) (subst (λ (r : TypeRef). IsChange written b r v) ((ref_tested k q).0 m) is)
    go false m = change_on written a b q s xs given adds (right q s (sym (puts q ∙ ap (λ (c : Bool). if c then Some v else get TypeRefEq.ghosts.eq old q) m) ∙ e))

-- the change of a type that was just made, in the arena as it is now
pub made_change : (written : Written) (a c : Arena) (at new : TypeRef) → Adds a c (given_refs (at ∷ [])) [] → IsTrue (has (store_of a) at) → IsTrue (has (store_of c) new)
    → term_of (store_of c) new ≡ changed written (term_of (store_of a) at) → IsClean a c (given_refs (at ∷ [])) new → IsChange written c at new
made_change written a c at new adds there made means clean = record {
  there = there_kept (store_of a) (store_of c) at adds.keeps there;
  made = made;
  means = means ∙ ap (changed written) (sym (adds.kept at there));
  clean = λ home way.
      subst (λ (own : ℕ). MayUse (store_of c) own (given_refs (at ∷ [])) home) (sym adds.home)
      (may_on (store_of a) (store_of c) adds.keeps (home_of a) (given_refs (at ∷ [])) home (clean home way));
}

-- a type that was made of the rows of a node
pub record TypeMade (written : Written) (a c : Arena) (at new : TypeRef) : Type 0 where
  pub adds : Adds a c (given_refs (at ∷ [])) []
  pub means : term_of (store_of c) new ≡ changed written (term_of (store_of a) at)
  pub clean : IsClean a c (given_refs (at ∷ [])) new

pub type_made : (written : Written) (a b c : Arena) (at new : TypeRef) (node copy : Node) (slice raw shown rows : List Row) → node_at (store_of a) at ≡ Some node → copy ≡ node → slice ≡ copy.rows
    → rows_by (term_of (store_of b)) raw ≡ raw_rows written (rows_by (term_of (store_of a)) slice) → All (λ q. IsTrue (has (store_of b) q)) (row_types raw)
    → All (IsClean a b (given_refs (row_types slice))) (row_types raw) → Adds a b (given_refs (row_types slice)) []
    → shown ≡ raw → rows_by (term_of (store_of b)) rows ≡ normal_of (rows_by (term_of (store_of b)) shown) → ((child : TypeRef) → Contains (row_types rows) child → Contains (row_types shown) child)
    → node_at (store_of c) new ≡ Some (record copy { rows = rows }) → term_of (store_of c) new ≡ term_by (term_of (store_of b)) (record copy { rows = rows }) → new.home ≡ home_of c
    → below_of c ≡ below_of b → home_of c ≡ home_of b → Keeps (store_of b) (store_of c) → ((r : TypeRef) → IsTrue (has (store_of b) r) → term_of (store_of c) r ≡ term_of (store_of b) r)
    → UsesHomes (home_of b) (store_of b) (store_of c) (record { refs = row_types rows; literals = literal_homes copy.functions }) (new ∷ []) → TypeMade written a c at new
type_made written a b c at new node copy slice raw shown rows e same es means there clean adds is normal fewer found meaning home below own keeps kept uses =
    let made : Node = record copy { rows = rows } in
    let whole : slice ≡ node.rows = es ∙ ap (λ (n : Node). n.rows) same in
    let refs : (child : TypeRef) → Contains (row_types rows) child → Contains (row_types raw) child = λ child k. subst (λ (zs : List Row). Contains (row_types zs) child) is (fewer child k) in
    let all_clean : All (IsClean a b (given_refs (at ∷ []))) (refs_of made) = type_clean a b at node made slice raw e whole clean refs in
    let all_there : All (λ q. IsTrue (has (store_of b) q)) (refs_of made) = all_fewer (λ q. IsTrue (has (store_of b) q)) (row_types raw) (row_types rows) refs there in
    let literals : All (MayUse (store_of a) (home_of a) (given_refs (at ∷ []))) (literal_homes made.functions) =
    subst (λ (n : Node). All (MayUse (store_of a) (home_of a) (given_refs (at ∷ []))) (literal_homes n.functions)) (sym same) (type_literals a at node e) in
    let first : Adds a b (given_refs (at ∷ [])) [] = type_adds a b at node slice e whole adds in
    record {
      adds = interned_more a b c (given_refs (at ∷ [])) [] (new ∷ []) made first all_clean literals below own keeps kept uses;
      means = type_means written a b c at new node made raw e (means ∙ ap (λ (zs : List Row). raw_rows written (rows_by (term_of (store_of a)) zs)) whole)
          (normal ∙ ap (λ (zs : List Row). normal_of (rows_by (term_of (store_of b)) zs)) is) (ap free_of same) meaning;
      clean = interned_clean a b c (given_refs (at ∷ [])) made new all_clean literals all_there first.home found home own keeps;
    }

-- all fields of tables that aren't frozen
all_lost : (fs : Fields) → changed_fields AnyField false fs ≡ no_fields
all_lost no_fields = refl
all_lost (more_fields n t fs) = all_lost fs

mutual
  pub any_widens : (t : Term) → changed AnyField t ≡ widen t
  any_widens (term f r) = ap (term f) (any_rows r)

  any_rows : (r : Rows) → changed_rows AnyField r ≡ widen_rows r
  any_rows no_rows = refl
  any_rows (more_rows true fs r) = let e = any_fields fs in let s = any_rows r in λ i. put_normal true (e i) (s i)
  any_rows (more_rows false fs r) = let e = all_lost fs in let s = any_rows r in λ i. put_normal false (e i) (s i)

  any_fields : (fs : Fields) → changed_fields AnyField true fs ≡ widen_fields fs
  any_fields no_fields = refl
  any_fields (more_fields n t fs) = let e = any_widens t in let s = any_fields fs in λ i. more_fields n (e i) (s i)

-- the fields of one name
turned : (b m : Bool) (x y : Fields) → (if b || not m then x else y) ≡ (if not b && m then y else x)
turned true m x y = refl
turned false true x y = refl
turned false false x y = refl

mutual
  pub one_widens : (n : List ℕ) (t : Term) → changed (Named n) t ≡ widen_at n t
  one_widens n (term f r) = ap (term f) (one_rows n r)

  one_rows : (n : List ℕ) (r : Rows) → changed_rows (Named n) r ≡ widen_rows_at n r
  one_rows n no_rows = refl
  one_rows n (more_rows b fs r) = let e = one_fields n b fs in let s = one_rows n r in λ i. put_normal b (e i) (s i)

  one_fields : (n : List ℕ) (b : Bool) (fs : Fields) → changed_fields (Named n) b fs ≡ widen_fields_at n b fs
  one_fields n b no_fields = refl
  one_fields n b (more_fields p t fs) =
      turned b (bytes_eq p n) (more_fields p (changed (Named n) t) (changed_fields (Named n) b fs)) (changed_fields (Named n) b fs)
      ∙ (let e = one_widens n t in let s = one_fields n b fs in λ i. if not b && bytes_eq p n then s i else more_fields p (e i) (s i))
