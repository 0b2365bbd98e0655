-- Shapes of types, part by part.
use Rattle.std.proofs.Common.{◌≡◌, ℕ, zero, suc, ◌+◌, ◌<◌, ◌≤◌, Bool, true, false, List, [], ◌∷◌, ◌++◌, length, get_or, refl, sym, ap, ◌∙◌, subst, arith}
use Rattle.std.specs.Prelude.{◌&&◌, min, max, nat_le, if◌then◌else◌, Some, IsTrue, All}
use Rattle.std.proofs.lemmas.List.Elements.{All-cons, All-head, All-tail}
use Rattle.type_arena.specs.Term.{Term, term, Rows, more_rows, Fields, more_fields}
use Rattle.type_arena.specs.Store.{Store, IsSound, node_at, has, field_types, row_types, refs_of, is_older}
use Rattle.type_arena.specs.Meaning.{term_of, rank, rows_by, term_by}
use Rattle.type_arena.specs.declared.node.Node.{Node}
use Rattle.type_arena.specs.declared.node.Row.{Row}
use Rattle.type_arena.specs.declared.node.TypeRef.{TypeRef}
use Rattle.type_arena.proofs.MeaningLemmas.{term_of-node}
use Rattle.type_arena.proofs.EqLemmas.{ref_tested}
use Rattle.type_arena.specs.contracts.node.TypeRefPartialEq.TheImpl as TypeRefEq
use Rattle.std.specs.HashMap.{get}
use Rattle.type_arena.proofs.StoreLemmas.{rank-older}
use Rattle.type_normal.specs.HeapFree.{is_bare}
use Rattle.type_normal.specs.Cut.{depth_of_rows, depth_of_fields, count_rows, rows_have_few}
use Rattle.type_normal.specs.Shape.{no_shape, shape_of_fields, shape_of_rows, shape_of, both_shapes, as_field, as_row, ranks, Shapes, IsRight}
use Rattle.type_normal.specs.declared.shape.Shape.{Shape}

same_shape : (a b : Shape) → a.heap_free ≡ b.heap_free → a.depth ≡ b.depth → a.few_rows ≡ b.few_rows → a ≡ b
same_shape a b e f g = λ i. record { heap_free = e i; depth = f i; few_rows = g i }

and_assoc : (a b c : Bool) → (a && b) && c ≡ a && (b && c)
and_assoc true b c = refl
and_assoc false b c = refl

and_true : (a : Bool) → a && true ≡ a
and_true true = refl
and_true false = refl

pub shapes_assoc : (a b c : Shape) → both_shapes (both_shapes a b) c ≡ both_shapes a (both_shapes b c)
shapes_assoc a b c = same_shape _ _ (and_assoc a.heap_free b.heap_free c.heap_free) (omega arith) (and_assoc a.few_rows b.few_rows c.few_rows)

pub shapes_first : (a : Shape) → both_shapes no_shape a ≡ a
shapes_first a = same_shape _ _ refl (omega arith) refl

pub shapes_last : (a : Shape) → both_shapes a no_shape ≡ a
shapes_last a = same_shape _ _ (and_true a.heap_free) (omega arith) (and_true a.few_rows)

depth_field : (d e : ℕ) → min (max (1 + d) e) 9 ≡ max (min (1 + min d 9) 9) (min e 9)
depth_field d e = omega arith

depth_row : (d e : ℕ) → min (max d e) 9 ≡ max (min d 9) (min e 9)
depth_row d e = omega arith

pub field_more : (p : List ℕ) (t : Term) (fs : Fields) → shape_of_fields (more_fields p t fs) ≡ both_shapes (as_field (shape_of t)) (shape_of_fields fs)
field_more p (term f r) fs = same_shape _ _ refl (depth_field (depth_of_rows r) (depth_of_fields fs)) refl

pub row_more : (b : Bool) (fs : Fields) (r : Rows) → shape_of_rows (more_rows b fs r) ≡ both_shapes (as_row (is_bare fs) b (shape_of_fields fs)) (shape_of_rows r)
row_more b fs r = same_shape _ _ refl (depth_row (depth_of_fields fs) (depth_of_rows r)) refl

-- the references in fields, in rows and in nodes
pub field_holds_at : (P : TypeRef → Type 0) (fields : List (List ℕ × TypeRef)) (i : ℕ) (d : List ℕ × TypeRef) → i < length fields → All P (field_types fields) → P (get_or fields i d).1
field_holds_at P [] i d l a = absurd (omega arith)
field_holds_at P (f ∷ fields) zero d l a = All-head P f.1 (field_types fields) a
field_holds_at P (f ∷ fields) (suc i) d l a = field_holds_at P fields i d (omega arith) (All-tail P f.1 (field_types fields) a)

pub field_rank_at : (store : Store) (fields : List (List ℕ × TypeRef)) (i : ℕ) (d : List ℕ × TypeRef) → i < length fields → rank store (get_or fields i d).1 < ranks store (field_types fields)
field_rank_at store [] i d l = absurd (omega arith)
field_rank_at store (f ∷ fields) zero d l = omega arith
field_rank_at store (f ∷ fields) (suc i) d l = let h = field_rank_at store fields i d (omega arith) in omega arith

all_left : (P : TypeRef → Type 0) (xs ys : List TypeRef) → All P (xs ++ ys) → All P xs
all_left P [] ys a = λ k d l. absurd (omega arith)
all_left P (x ∷ xs) ys a = All-cons P x xs (All-head P x (xs ++ ys) a) (all_left P xs ys (All-tail P x (xs ++ ys) a))

all_right : (P : TypeRef → Type 0) (xs ys : List TypeRef) → All P (xs ++ ys) → All P ys
all_right P [] ys a = a
all_right P (x ∷ xs) ys a = all_right P xs ys (All-tail P x (xs ++ ys) a)

pub row_hold_at : (P : TypeRef → Type 0) (rows : List Row) (i : ℕ) (d : Row) → i < length rows → All P (row_types rows) → All P (field_types (get_or rows i d).fields)
row_hold_at P [] i d l a = absurd (omega arith)
row_hold_at P (r ∷ rows) zero d l a = all_left P (field_types r.fields) (row_types rows) a
row_hold_at P (r ∷ rows) (suc i) d l a = row_hold_at P rows i d (omega arith) (all_right P (field_types r.fields) (row_types rows) a)

ranks_append : (store : Store) (xs ys : List TypeRef) → ranks store (xs ++ ys) ≡ max (ranks store xs) (ranks store ys)
ranks_append store [] ys = omega arith
ranks_append store (x ∷ xs) ys = let h = ranks_append store xs ys in omega arith

pub row_rank_at : (store : Store) (rows : List Row) (i : ℕ) (d : Row) → i < length rows → ranks store (field_types (get_or rows i d).fields) ≤ ranks store (row_types rows)
row_rank_at store [] i d l = absurd (omega arith)
row_rank_at store (r ∷ rows) zero d l = let h = ranks_append store (field_types r.fields) (row_types rows) in omega arith
row_rank_at store (r ∷ rows) (suc i) d l =
    let h = ranks_append store (field_types r.fields) (row_types rows) in
    let k = row_rank_at store rows i d (omega arith) in
    omega arith

pub node_rank_at : (store : Store) → IsSound store → (at : TypeRef) (node : Node) → node_at store at ≡ Some node → ranks store (refs_of node) ≤ rank store at
node_rank_at store sound at node e = go (refs_of node) (sound.there at node e) (sound.older at node e)
  where
    go : (xs : List TypeRef) → All (λ child. IsTrue (has store child)) xs → All (λ child. IsTrue (is_older child at)) xs → ranks store xs ≤ rank store at
    go [] there older = omega arith
    go (x ∷ xs) there older =
        let h = rank-older store x at (All-head (λ child. IsTrue (has store child)) x xs there) (All-head (λ child. IsTrue (is_older child at)) x xs older) in
        let k = go xs (All-tail (λ child. IsTrue (has store child)) x xs there) (All-tail (λ child. IsTrue (is_older child at)) x xs older) in
        omega arith

-- the rows of a type are those of its node
pub shape_by_node : (store : Store) → IsSound store → (at : TypeRef) (node : Node) → node_at store at ≡ Some node
    → shape_of (term_of store at) ≡ shape_of (term_by (term_of store) node)
shape_by_node store sound at node e = ap shape_of (term_of-node store sound at node e)

count_by : (means : TypeRef → Term) (rows : List Row) → count_rows (rows_by means rows) ≡ length rows
count_by means [] = refl
count_by means (row ∷ rows) = let h = count_by means rows in omega arith

pub shape_made : (store : Store) → IsSound store → (at : TypeRef) (node : Node) (all : Shape) → node_at store at ≡ Some node → all ≡ shape_of_rows (rows_by (term_of store) node.rows)
    → record { heap_free = all.heap_free; depth = all.depth; few_rows = all.few_rows && nat_le (length node.rows) 16 } ≡ shape_of (term_of store at)
shape_made store sound at node all e k =
    same_shape _ (shape_of (term_by (term_of store) node)) (ap (λ (s : Shape). s.heap_free) k) (ap (λ (s : Shape). s.depth) k)
    (ap (λ (s : Shape). s.few_rows && nat_le (length node.rows) 16) k ∙ swap (rows_have_few 16 (rows_by (term_of store) node.rows)) (nat_le (length node.rows) 16)
    ∙ ap (λ (n : ℕ). nat_le n 16 && rows_have_few 16 (rows_by (term_of store) node.rows)) (sym (count_by (term_of store) node.rows)))
    ∙ sym (shape_by_node store sound at node e)
  where
    swap : (a b : Bool) → a && b ≡ b && a
    swap true true = refl
    swap true false = refl
    swap false true = refl
    swap false false = refl

-- the same of an item that a loop has
pub field_item_holds : (P : TypeRef → Type 0) (fields : List (List ℕ × TypeRef)) (i : ℕ) (item : List ℕ × TypeRef) → i < length fields → item ≡ get_or fields i item → All P (field_types fields) → P item.1
field_item_holds P fields i item l is a = subst (λ (x : List ℕ × TypeRef). P x.1) (sym is) (field_holds_at P fields i item l a)

pub field_item_rank : (store : Store) (fields : List (List ℕ × TypeRef)) (i : ℕ) (item : List ℕ × TypeRef) → i < length fields → item ≡ get_or fields i item → rank store item.1 < ranks store (field_types fields)
field_item_rank store fields i item l is = subst (λ (x : List ℕ × TypeRef). rank store x.1 < ranks store (field_types fields)) (sym is) (field_rank_at store fields i item l)

pub row_item_hold : (P : TypeRef → Type 0) (rows : List Row) (i : ℕ) (item : Row) → i < length rows → item ≡ get_or rows i item → All P (row_types rows) → All P (field_types item.fields)
row_item_hold P rows i item l is a = subst (λ (x : Row). All P (field_types x.fields)) (sym is) (row_hold_at P rows i item l a)

pub row_item_rank : (store : Store) (rows : List Row) (i : ℕ) (item : Row) → i < length rows → item ≡ get_or rows i item → ranks store (field_types item.fields) ≤ ranks store (row_types rows)
row_item_rank store rows i item l is = subst (λ (x : Row). ranks store (field_types x.fields) ≤ ranks store (row_types rows)) (sym is) (row_rank_at store rows i item l)

-- what is remembered stays right with one more shape that is
some_is : (a b : Shape) → Some a ≡ Some b → b ≡ a
some_is a b e = cc

pub right_more : (store : Store) (old new : Shapes) (k : TypeRef) (v : Shape) → IsRight store old → v ≡ shape_of (term_of store k)
    → ((q : TypeRef) → get TypeRefEq.ghosts.eq new q ≡ (if TypeRefEq.ghosts.eq k q then Some v else get TypeRefEq.ghosts.eq old q)) → IsRight store new
right_more store old new k v right is puts q s e = go (TypeRefEq.ghosts.eq k q) refl
  where
    go : (b : Bool) → TypeRefEq.ghosts.eq k q ≡ b → s ≡ shape_of (term_of store q)
    go true m =
        let p : Some v ≡ Some s = sym (puts q ∙ ap (λ (b : Bool). if b then Some v else get TypeRefEq.ghosts.eq old q) m) ∙ e in
        some_is v s p ∙ is ∙ ap (λ (at : TypeRef). shape_of (term_of store at)) ((ref_tested k q).0 m)
    go false m = right q s (sym (puts q ∙ ap (λ (b : Bool). if b then Some v else get TypeRefEq.ghosts.eq old q) m) ∙ e)

-- the shape that is made of the rows that were read
pub shape_read : (store : Store) → IsSound store → (at : TypeRef) (node : Node) (rows : List Row) (all : Shape) → node_at store at ≡ Some node → rows ≡ node.rows
    → all ≡ shape_of_rows (rows_by (term_of store) rows)
    → record { heap_free = all.heap_free; depth = all.depth; few_rows = all.few_rows && nat_le (length rows) 16 } ≡ shape_of (term_of store at)
shape_read store sound at node rows all e is k =
    same_shape _ (record { heap_free = all.heap_free; depth = all.depth; few_rows = all.few_rows && nat_le (length node.rows) 16 }) refl refl
    (ap (λ (xs : List Row). all.few_rows && nat_le (length xs) 16) is)
    ∙ shape_made store sound at node all e (k ∙ ap (λ (xs : List Row). shape_of_rows (rows_by (term_of store) xs)) is)
