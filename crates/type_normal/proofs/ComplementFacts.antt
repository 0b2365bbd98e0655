-- The node of a complement.
use Rattle.std.proofs.Common.{◌≡◌, ℕ, ◌<◌, not, List, [], ◌∷◌, refl, subst, arith}
use Rattle.std.specs.Prelude.{Some, Contains}
use Rattle.type_arena.specs.Term.{Term, term, strings_of, functions_of, free_of}
use Rattle.type_arena.specs.Homes.{literal_homes}
use Rattle.type_arena.specs.Meaning.{rows_by, term_by}
use Rattle.type_arena.specs.Store.{Store, node_at, refs_of}
use Rattle.type_arena.specs.declared.node.Among.{Among}
use Rattle.type_arena.specs.declared.node.Among.TheVariants.{Only, AllBut}
use Rattle.type_arena.specs.declared.node.FnName.{FnName}
use Rattle.type_arena.specs.declared.node.Node.{Node}
use Rattle.type_arena.specs.declared.node.Row.{Row}
use Rattle.type_arena.specs.declared.node.TypeRef.{TypeRef}
use Rattle.type_normal.specs.Members.{outside}
use Rattle.type_normal.specs.Free.{outside_free}
use Rattle.type_normal.specs.Operations.{not_free, other_tables}
use Rattle.type_normal.specs.Nodes.{swapped, other_rows, complement_of}
use Rattle.type_normal.proofs.AddsFacts.{FromRefs, FromLiterals, alone}

swapped_strings : (s : Among (List ℕ)) → strings_of (swapped s) ≡ outside (strings_of s)
swapped_strings (Only xs) = refl
swapped_strings (AllBut xs) = refl

swapped_functions : (s : Among FnName) → functions_of (swapped s) ≡ outside (functions_of s)
swapped_functions (Only xs) = refl
swapped_functions (AllBut xs) = refl

swapped_homes : (s : Among FnName) → literal_homes (swapped s) ≡ literal_homes s
swapped_homes (Only xs) = refl
swapped_homes (AllBut xs) = refl

other_rows_mean : (means : TypeRef → Term) (rows : List Row) → rows_by means (other_rows rows) ≡ other_tables (rows_by means rows)
other_rows_mean means [] = refl
other_rows_mean means (row ∷ rows) = refl

complement_free : (n : Node) → free_of (complement_of n) ≡ outside_free (free_of n)
complement_free n =
    let s = swapped_strings n.strings in
    let f = swapped_functions n.functions in
    λ i. record { nil = not n.nil; truth = not n.truth; falsity = not n.falsity; number = not n.number; other = not n.other; strings = s i; functions = f i }

pub complement_means : (means : TypeRef → Term) (n : Node) → term_by means (complement_of n) ≡ not_free (term_by means n)
complement_means means n = let f = complement_free n in let r = other_rows_mean means n.rows in λ i. term (f i) (r i)

no_refs : (rows : List Row) (c : Node) → c.rows ≡ other_rows rows → refs_of c ≡ []
no_refs [] c e = rw e refl
no_refs (row ∷ rows) c e = rw e refl

pub complement_refs : (store : Store) (refs : List TypeRef) (n : Node) (child : TypeRef) → Contains (refs_of (complement_of n)) child → FromRefs store refs child
complement_refs store refs n child inside =
    let none : Contains [] child = subst (λ (xs : List TypeRef). Contains xs child) (no_refs n.rows (complement_of n) refl) inside in
    absurd (nothing none)
  where
    nothing : Contains [] child → ⊥
    nothing h = let l : h.0 < 0 = h.1 in omega arith

pub complement_literals : (store : Store) (a : TypeRef) (n : Node) → node_at store a ≡ Some n → (home : ℕ) → Contains (literal_homes (complement_of n).functions) home → FromLiterals store (a ∷ []) home
complement_literals store a n e home inside = (a, n, alone a, e, subst (λ (xs : List ℕ). Contains xs home) (swapped_homes n.functions) inside)
