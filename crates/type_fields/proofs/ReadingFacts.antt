-- What is read off nodes.
use Rattle.std.proofs.Common.{◌≡◌, Bool, true, false, not, List, [], ◌∷◌, refl, sym, ap, ◌∙◌}
use Rattle.std.specs.Prelude.{◌||◌, ◌&&◌, Some, None, option_map, if◌then◌else◌}
use Rattle.type_arena.specs.Meaning.{term_of, rows_by}
use Rattle.type_arena.specs.Store.{Store, IsSound, node_at}
use Rattle.type_arena.specs.Term.{Term, term, function_of, functions_of, free_of}
use Rattle.type_arena.specs.declared.node.Among.{Among}
use Rattle.type_arena.specs.declared.node.Among.TheVariants.{Only, AllBut}
use Rattle.type_arena.specs.declared.node.FnName.{FnName}
use Rattle.type_arena.specs.declared.node.Node.{Node}
use Rattle.type_arena.specs.declared.node.Row.{Row}
use Rattle.type_arena.specs.declared.node.TypeRef.{TypeRef}
use Rattle.type_arena.proofs.MeaningLemmas.{term_of-node}
use Rattle.type_normal.specs.Kinds.{has_nil, has_functions_alone, only_function, exactly_one_function}
use Rattle.type_normal.specs.Nodes.{is_nil, is_none}
use Rattle.type_normal.proofs.NodeFacts.{none_strings}
use Rattle.type_fields.specs.Readings.{has_strings_or_other, only_member, function_in}

pub nil_by_node : (store : Store) → IsSound store → (at : TypeRef) (node : Node) → node_at store at ≡ Some node → node.nil ≡ has_nil (term_of store at)
nil_by_node store sound at node e = ap has_nil (sym (term_of-node store sound at node e))

pub strings_by_node : (store : Store) → IsSound store → (at : TypeRef) (node : Node) (none : Bool) → node_at store at ≡ Some node → none ≡ is_none node.strings → not none || node.other ≡ has_strings_or_other (term_of store at)
strings_by_node store sound at node none e is =
    ap (λ (b : Bool). not b || node.other) (is ∙ sym (none_strings node.strings)) ∙ ap has_strings_or_other (sym (term_of-node store sound at node e))

-- the only function
one_member : (s : Among FnName) → option_map function_of (only_member s) ≡ only_function (functions_of s)
one_member (Only []) = refl
one_member (Only (x ∷ [])) = refl
one_member (Only (x ∷ y ∷ xs)) = refl
one_member (AllBut xs) = refl

one_alone : (s : Among FnName) (b : Bool) → option_map function_of (if b && true then only_member s else None) ≡ (if b then only_function (functions_of s) else None)
one_alone s true = one_member s
one_alone s false = refl

one_beside : (s : Among FnName) (b : Bool) → option_map function_of (if b && false then only_member s else None) ≡ None
one_beside s true = refl
one_beside s false = refl

one_by : (means : TypeRef → Term) (node : Node) (rows : List Row) → option_map function_of (if has_functions_alone (free_of node) && is_nil rows then only_member node.functions else None) ≡ exactly_one_function (term (free_of node) (rows_by means rows))
one_by means node [] = one_alone node.functions (has_functions_alone (free_of node))
one_by means node (row ∷ rows) = one_beside node.functions (has_functions_alone (free_of node))

pub function_by_node : (store : Store) → IsSound store → (at : TypeRef) (node : Node) → node_at store at ≡ Some node → option_map function_of (function_in node) ≡ exactly_one_function (term_of store at)
function_by_node store sound at node e = one_by (term_of store) node node.rows ∙ ap exactly_one_function (sym (term_of-node store sound at node e))
