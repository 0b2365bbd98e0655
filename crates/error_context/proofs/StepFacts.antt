-- What one step makes of two types of an arena.
use Rattle.std.proofs.Common.{◌≡◌, ℕ, zero, suc, Bool, true, false, List, [], ◌∷◌, refl, sym, ap, ◌∙◌, subst, arith}
use Rattle.std.specs.Prelude.{◌&&◌, not, IsTrue, Some, Contains}
use Rattle.type_arena.specs.Arena.{store_of}
use Rattle.type_arena.specs.Meaning.{term_of, rows_by, fields_by}
use Rattle.type_arena.specs.Store.{Store, IsSound, node_at, has}
use Rattle.type_arena.specs.Term.{Free, Term, term, Rows, no_rows, more_rows, Fields, free_of, strings_of, functions_of}
use Rattle.type_arena.specs.declared.arena.Arena.{Arena}
use Rattle.type_arena.specs.declared.node.Among.{Among}
use Rattle.type_arena.specs.declared.node.Among.TheVariants.{Only, AllBut}
use Rattle.type_arena.specs.declared.node.FnName.{FnName}
use Rattle.type_arena.specs.declared.node.Node.{Node}
use Rattle.type_arena.specs.declared.node.Row.{Row}
use Rattle.type_arena.specs.declared.node.TypeRef.{TypeRef}
use Rattle.type_arena.proofs.MeaningLemmas.{term_of-node}
use Rattle.type_normal.specs.Adds.{Adds}
use Rattle.type_normal.specs.Growing.{given_refs, IsClean}
use Rattle.type_normal.specs.Members.{listed}
use Rattle.type_normal.specs.Nodes.{is_nil}
use Rattle.type_normal.specs.Operations.{is_flat}
use Rattle.type_ops.proofs.GrowFacts.{adds_nothing, adds_more, clean_inner, clean_given}
use Rattle.error_context.specs.Plain.{is_plain, names_none, are_flat, is_plain_node}
use Rattle.error_context.proofs.GrowSteps.{may_answer}

-- ---- nodes that name nothing

strings_named : (s : Among (List ℕ)) → names_none s ≡ is_nil (listed (strings_of s))
strings_named (Only xs) = refl
strings_named (AllBut xs) = refl

functions_named : (s : Among FnName) → names_none s ≡ is_nil (listed (functions_of s))
functions_named (Only []) = refl
functions_named (Only (x ∷ xs)) = refl
functions_named (AllBut []) = refl
functions_named (AllBut (x ∷ xs)) = refl

rows_flat : (means : TypeRef → Term) (free : Free) (rows : List Row) → are_flat rows ≡ is_flat (term free (rows_by means rows))
rows_flat means free [] = refl
rows_flat means free (r ∷ []) = one r.frozen r.fields
  where
    one : (b : Bool) (fs : List (List ℕ × TypeRef)) → not b && is_nil fs ≡ is_flat (term free (more_rows b (fields_by means fs) no_rows))
    one true fs = refl
    one false [] = refl
    one false (f ∷ fs) = refl
rows_flat means free (r ∷ s ∷ rest) = two r.frozen r.fields s.frozen (fields_by means s.fields) (rows_by means rest)
  where
    two : (b : Bool) (fs : List (List ℕ × TypeRef)) (c : Bool) (gs : Fields) (more : Rows) → false ≡ is_flat (term free (more_rows b (fields_by means fs) (more_rows c gs more)))
    two true fs c gs more = refl
    two false [] c gs more = refl
    two false (f ∷ fs) c gs more = refl

pub plain_by_node : (store : Store) → IsSound store → (at : TypeRef) (node : Node) → node_at store at ≡ Some node → is_plain_node node ≡ is_plain (term_of store at)
plain_by_node store sound at node e =
    (λ i. rows_flat (term_of store) (free_of node) node.rows i && (strings_named node.strings i && functions_named node.functions i))
    ∙ sym (ap is_plain (term_of-node store sound at node e))

-- ---- one call after another, on the answer of the first

pub then_adds : (a b c : Arena) (given xs ys : List TypeRef) (whole : TypeRef) → Adds a b (given_refs given) xs → IsClean a b (given_refs given) whole
    → Adds b c (given_refs (whole ∷ [])) ys → Adds a c (given_refs given) []
then_adds a b c given xs ys whole first clean second =
    adds_more a b c (given_refs given) (given_refs (whole ∷ [])) xs ys first second (may_answer a b (given_refs given) whole clean first.home)

pub then_clean : (a b c : Arena) (given xs : List TypeRef) (whole at : TypeRef) → Adds a b (given_refs given) xs → IsClean a b (given_refs given) whole
    → IsClean b c (given_refs (whole ∷ [])) at → IsClean a c (given_refs given) at
then_clean a b c given xs whole at first clean second =
    clean_inner a b c (given_refs given) (given_refs (whole ∷ [])) at (may_answer a b (given_refs given) whole clean first.home) second

-- ---- no call at all

pub one_there : (a : Arena) (left right at : TypeRef) → IsTrue (has (store_of a) left) → IsTrue (has (store_of a) right) → Contains (left ∷ right ∷ []) at → IsTrue (has (store_of a) at)
one_there a left right at l r (zero, k, e) = subst (λ (x : TypeRef). IsTrue (has (store_of a) x)) e l
one_there a left right at l r (suc zero, k, e) = subst (λ (x : TypeRef). IsTrue (has (store_of a) x)) e r
one_there a left right at l r (suc (suc j), k, e) = absurd (omega (arith, k))

pub one_clean : (a : Arena) (left right at : TypeRef) → IsTrue (has (store_of a) left) → IsTrue (has (store_of a) right) → Contains (left ∷ right ∷ []) at
    → IsClean a a (given_refs (left ∷ right ∷ [])) at
one_clean a left right at l r inside =
    clean_given a a (left ∷ right ∷ []) [] at (adds_nothing a (given_refs (left ∷ right ∷ []))) (one_there a left right at l r inside) inside
