-- Which types list a name, over arenas.
use Rattle.std.proofs.Common.{◌≡◌, ℕ, Bool, true, false, not, List, [], ◌∷◌, refl, sym, ap, ◌∙◌}
use Rattle.std.specs.Prelude.{◌||◌, if◌then◌else◌, Some, Contains}
use Rattle.std.specs.HashMap.{get}
use Rattle.type_arena.specs.Term.{Term, more_rows}
use Rattle.type_arena.specs.Store.{Store, IsSound, node_at, row_types}
use Rattle.type_arena.specs.Meaning.{term_of, rows_by, fields_by}
use Rattle.type_arena.specs.declared.node.Node.{Node}
use Rattle.type_arena.specs.declared.node.Row.{Row}
use Rattle.type_arena.specs.declared.node.TypeRef.{TypeRef}
use Rattle.type_arena.specs.contracts.node.TypeRefPartialEq.TheImpl as TypeRefEq
use Rattle.type_arena.proofs.EqLemmas.{ref_tested}
use Rattle.type_arena.proofs.MeaningLemmas.{term_of-node}
use Rattle.type_normal.specs.HeapFree.{heap_free_row, lists, rows_list, fields_list, strip_rows_at}
use Rattle.type_normal.specs.Listing.{Listings, IsRightAt, stable_at}
use Rattle.type_normal.proofs.RowsFacts.{filtered_refs_by}

some_is : (a b : Bool) → Some a ≡ Some b → b ≡ a
some_is a b e = cc

pub listed_read : (p : List ℕ) (store : Store) → IsSound store → (at : TypeRef) (node : Node) (rows : List Row) (listed : Bool) → node_at store at ≡ Some node → rows ≡ node.rows
    → listed ≡ rows_list p (rows_by (term_of store) rows) → listed ≡ lists p (term_of store at)
listed_read p store sound at node rows listed e is k =
    k ∙ ap (λ (xs : List Row). rows_list p (rows_by (term_of store) xs)) is ∙ ap (lists p) (sym (term_of-node store sound at node e))

pub right_at_more : (p : List ℕ) (store : Store) (old new : Listings) (k : TypeRef) (v : Bool) → IsRightAt p store old → v ≡ lists p (term_of store k)
    → ((q : TypeRef) → get TypeRefEq.ghosts.eq new q ≡ (if TypeRefEq.ghosts.eq k q then Some v else get TypeRefEq.ghosts.eq old q)) → IsRightAt p store new
right_at_more p store old new k v right is puts q s e = go (TypeRefEq.ghosts.eq k q) refl
  where
    go : (b : Bool) → TypeRefEq.ghosts.eq k q ≡ b → s ≡ lists p (term_of store q)
    go true m =
        let h : Some v ≡ Some s = sym (puts q ∙ ap (λ (b : Bool). if b then Some v else get TypeRefEq.ghosts.eq old q) m) ∙ e in
        some_is v s h ∙ is ∙ ap (λ (at : TypeRef). lists p (term_of store at)) ((ref_tested k q).0 m)
    go false m = right q s (sym (puts q ∙ ap (λ (b : Bool). if b then Some v else get TypeRefEq.ghosts.eq old q) m) ∙ e)

stable_by : (p : List ℕ) (means : TypeRef → Term) (row : Row) (rows : List Row) (b : Bool) → rows_by means (stable_at p means rows) ≡ strip_rows_at p (rows_by means rows)
    → rows_by means (if b then row ∷ stable_at p means rows else stable_at p means rows)
    ≡ (if b then more_rows row.frozen (fields_by means row.fields) (strip_rows_at p (rows_by means rows)) else strip_rows_at p (rows_by means rows))
stable_by p means row rows true ih = ap (more_rows row.frozen (fields_by means row.fields)) ih
stable_by p means row rows false ih = ih

pub stable_mean : (p : List ℕ) (means : TypeRef → Term) (rows : List Row) → rows_by means (stable_at p means rows) ≡ strip_rows_at p (rows_by means rows)
stable_mean p means [] = refl
stable_mean p means (row ∷ rows) =
    stable_by p means row rows (heap_free_row row.frozen (fields_by means row.fields) || not (fields_list p (fields_by means row.fields))) (stable_mean p means rows)

pub stable_refs : (p : List ℕ) (means : TypeRef → Term) (rows : List Row) (child : TypeRef) → Contains (row_types (stable_at p means rows)) child → Contains (row_types rows) child
stable_refs p means [] child inside = inside
stable_refs p means (row ∷ rows) child inside =
    filtered_refs_by row rows (stable_at p means rows) child (heap_free_row row.frozen (fields_by means row.fields) || not (fields_list p (fields_by means row.fields)))
    (stable_refs p means rows child) inside
