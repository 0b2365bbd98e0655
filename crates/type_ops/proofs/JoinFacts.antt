-- What the nodes of unions mean, and what is in them.
use Rattle.std.proofs.Common.{◌≡◌, ℕ, zero, suc, List, [], ◌∷◌, ◌++◌, refl, sym, ap, ◌∙◌, subst, arith}
use Rattle.std.specs.Prelude.{◌⊎◌, ◌||◌, Contains, Some, IsTrue, All}
use Rattle.std.proofs.Common.{inl, inr}
use Rattle.std.proofs.lemmas.List.Elements.{Contains-append_cases, All-append}
use Rattle.std.specs.declared.cmp.Ordering.{Ordering}
use Rattle.std.specs.declared.cmp.Ordering.TheVariants.{Less, Equal, Greater}
use Rattle.type_arena.specs.Homes.{literal_homes}
use Rattle.type_arena.specs.Meaning.{term_by, rows_by, fields_by}
use Rattle.type_arena.specs.Store.{Store, node_at, refs_of, row_types}
use Rattle.type_arena.specs.Term.{Term, term, Rows, no_rows, more_rows, free_of}
use Rattle.type_arena.specs.declared.node.Node.{Node}
use Rattle.type_arena.specs.declared.node.Row.{Row}
use Rattle.type_arena.specs.declared.node.TypeRef.{TypeRef}
use Rattle.type_normal.specs.Members.{by_order, put, in_order}
use Rattle.type_normal.specs.Free.{either_free}
use Rattle.type_normal.specs.Rows.{put_row, put_rows, rows_in_order}
use Rattle.type_normal.specs.Operations.{union}
use Rattle.type_normal.proofs.AddsFacts.{FromRefs, FromLiterals}
use Rattle.type_normal.proofs.RowsFacts.{all_fewer}
use Rattle.type_ops.specs.Comparing.{row_order}
use Rattle.type_ops.specs.Joined.{either_node, union_node}
use Rattle.type_ops.proofs.FlatFacts.{in_order_refs, append_refs}
use Rattle.type_ops.proofs.SetFacts.{either_strings, either_functions, either_homes}

-- rows in order
put_by : (means : TypeRef → Term) (row next : Row) (rows : List Row) (o : Ordering) → rows_by means (put (row_order means) row rows) ≡ put_row row.frozen (fields_by means row.fields) (rows_by means rows)
    → rows_by means (by_order o (row ∷ next ∷ rows) (next ∷ rows) (next ∷ put (row_order means) row rows))
    ≡ by_order o (rows_by means (row ∷ next ∷ rows)) (rows_by means (next ∷ rows)) (more_rows next.frozen (fields_by means next.fields) (put_row row.frozen (fields_by means row.fields) (rows_by means rows)))
put_by means row next rows Less ih = refl
put_by means row next rows Equal ih = refl
put_by means row next rows Greater ih = ap (more_rows next.frozen (fields_by means next.fields)) ih

pub put_means : (means : TypeRef → Term) (row : Row) (rows : List Row) → rows_by means (put (row_order means) row rows) ≡ put_row row.frozen (fields_by means row.fields) (rows_by means rows)
put_means means row [] = refl
put_means means row (next ∷ rows) = put_by means row next rows (row_order means row next) (put_means means row rows)

pub order_means : (means : TypeRef → Term) (rows : List Row) → rows_by means (in_order (row_order means) rows) ≡ rows_in_order (rows_by means rows)
order_means means [] = refl
order_means means (row ∷ rows) = put_means means row (in_order (row_order means) rows) ∙ ap (put_row row.frozen (fields_by means row.fields)) (order_means means rows)

both_mean : (means : TypeRef → Term) (xs ys : List Row) → rows_by means (in_order (row_order means) (xs ++ ys)) ≡ put_rows (rows_by means xs) (rows_in_order (rows_by means ys))
both_mean means [] ys = order_means means ys
both_mean means (row ∷ xs) ys = put_means means row (in_order (row_order means) (xs ++ ys)) ∙ ap (put_row row.frozen (fields_by means row.fields)) (both_mean means xs ys)

either_part : (a b : Node) (rows : List Row) → free_of (either_node a b rows) ≡ either_free (free_of a) (free_of b)
either_part a b rows =
    let s = either_strings a.strings b.strings in
    let f = either_functions a.functions b.functions in
    λ i. record { nil = a.nil || b.nil; truth = a.truth || b.truth; falsity = a.falsity || b.falsity; number = a.number || b.number; other = a.other || b.other; strings = s i; functions = f i }

pub union_means : (means : TypeRef → Term) (a b : Node) → term_by means (union_node means a b) ≡ union (term_by means a) (term_by means b)
union_means means a b = let f = either_part a b (in_order (row_order means) (a.rows ++ b.rows)) in let r = both_mean means a.rows b.rows in λ i. term (f i) (r i)

-- what is given first and second
pub first_given : (a b : TypeRef) → Contains (a ∷ b ∷ []) a
first_given a b = (zero, omega arith, refl)

pub second_given : (a b : TypeRef) → Contains (a ∷ b ∷ []) b
second_given a b = (suc zero, omega arith, refl)

-- the references and literals of a union are those of the two types
pub union_rows : (means : TypeRef → Term) (a b : Node) (child : TypeRef) → Contains (refs_of (union_node means a b)) child → Contains (refs_of a ++ refs_of b) child
union_rows means a b child inside =
    subst (λ (zs : List TypeRef). Contains zs child) (append_refs a.rows b.rows) (in_order_refs (row_order means) (a.rows ++ b.rows) child inside)

pub union_there : (P : TypeRef → Type 0) (means : TypeRef → Term) (a b : Node) → All P (refs_of a) → All P (refs_of b) → All P (refs_of (union_node means a b))
union_there P means a b first second = all_fewer P (refs_of a ++ refs_of b) (refs_of (union_node means a b)) (union_rows means a b) (All-append P (refs_of a) (refs_of b) first second)

pub union_refs : (store : Store) (means : TypeRef → Term) (a b : TypeRef) (n m : Node) → node_at store a ≡ Some n → node_at store b ≡ Some m
    → (child : TypeRef) → Contains (refs_of (union_node means n m)) child → FromRefs store (a ∷ b ∷ []) child
union_refs store means a b n m e f child inside = go (Contains-append_cases (refs_of n) (refs_of m) child (union_rows means n m child inside))
  where
    go : Contains (refs_of n) child ⊎ Contains (refs_of m) child → FromRefs store (a ∷ b ∷ []) child
    go (inl h) = (a, n, first_given a b, e, h)
    go (inr h) = (b, m, second_given a b, f, h)

pub union_literals : (store : Store) (means : TypeRef → Term) (a b : TypeRef) (n m : Node) → node_at store a ≡ Some n → node_at store b ≡ Some m
    → (home : ℕ) → Contains (literal_homes (union_node means n m).functions) home → FromLiterals store (a ∷ b ∷ []) home
union_literals store means a b n m e f home inside = go (either_homes n.functions m.functions home inside)
  where
    go : Contains (literal_homes n.functions) home ⊎ Contains (literal_homes m.functions) home → FromLiterals store (a ∷ b ∷ []) home
    go (inl h) = (a, n, first_given a b, e, h)
    go (inr h) = (b, m, second_given a b, f, h)
