-- What nodes stand for, by their forms.
use Rattle.std.proofs.Common.{◌≡◌, ℕ, Bool, true, false, not, List, [], ◌∷◌, refl, sym, ap, ◌∙◌}
use Rattle.std.specs.Prelude.{◌||◌, ◌&&◌, Some}
use Rattle.type_arena.specs.Term.{Term, term, strings_of, functions_of, free_of}
use Rattle.type_arena.specs.Store.{Store, IsSound, node_at}
use Rattle.type_arena.specs.Meaning.{term_of, rows_by}
use Rattle.type_arena.specs.declared.node.Among.{Among}
use Rattle.type_arena.specs.declared.node.Among.TheVariants.{Only, AllBut}
use Rattle.type_arena.specs.declared.node.FnName.{FnName}
use Rattle.type_arena.specs.declared.node.Node.{Node}
use Rattle.type_arena.specs.declared.node.Row.{Row}
use Rattle.type_arena.specs.declared.node.TypeRef.{TypeRef}
use Rattle.type_arena.proofs.MeaningLemmas.{term_of-node}
use Rattle.type_normal.specs.Members.{is_no_set}
use Rattle.type_normal.specs.Free.{is_no_free}
use Rattle.type_normal.specs.Rows.{is_empty}
use Rattle.type_normal.specs.Nodes.{is_none, has_no_part}
use Rattle.type_normal.proofs.MembersFacts.{and_false, and_true}

pub none_strings : (s : Among (List ℕ)) → is_no_set (strings_of s) ≡ is_none s
none_strings (Only []) = refl
none_strings (Only (x ∷ xs)) = refl
none_strings (AllBut xs) = refl

pub none_functions : (s : Among FnName) → is_no_set (functions_of s) ≡ is_none s
none_functions (Only []) = refl
none_functions (Only (x ∷ xs)) = refl
none_functions (AllBut xs) = refl

no_part : (t u f n o s g r : Bool) → ((((not (((t || u) || f) || n || o)) && s) && g) && r) ≡ (not t && (not u && (not f && (not n && (not o && (s && g)))))) && r
no_part true u f n o s g r = refl
no_part false true f n o s g r = refl
no_part false false true n o s g r = refl
no_part false false false true o s g r = refl
no_part false false false false true s g r = refl
no_part false false false false false s g r = refl

-- a type is empty where its node has no part
by_node : (means : TypeRef → Term) (node : Node) (rows : List Row) → node.rows ≡ rows → has_no_part node ≡ is_empty (term (free_of node) (rows_by means rows))
by_node means node [] e = rw e (and_true (is_no_free (free_of node)))
by_node means node (row ∷ rows) e = rw e (and_false (is_no_free (free_of node)))

pub empty_by_node : (store : Store) → IsSound store → (at : TypeRef) (node : Node) → node_at store at ≡ Some node → has_no_part node ≡ is_empty (term_of store at)
empty_by_node store sound at node e = by_node (term_of store) node node.rows refl ∙ ap is_empty (sym (term_of-node store sound at node e))
