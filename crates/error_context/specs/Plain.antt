-- Types that name no field, no string and no function.
use Rattle.std.specs.Prelude.{Bool, true, false, ◌&&◌, List, [], ◌∷◌}
use Rattle.type_arena.specs.Term.{Term, term}
use Rattle.type_arena.specs.declared.node.Among.{Among}
use Rattle.type_arena.specs.declared.node.Among.TheVariants.{Only, AllBut}
use Rattle.type_arena.specs.declared.node.Node.{Node}
use Rattle.type_arena.specs.declared.node.Row.{Row}
use Rattle.type_normal.specs.Members.{listed}
use Rattle.type_normal.specs.Nodes.{is_nil, is_all_tables}
use Rattle.type_normal.specs.Operations.{is_flat}

-- whether a type names nothing: of tables it has none or all
abbrev pub is_plain : Term → Bool
is_plain (term free rows) = is_flat (term free rows) && (is_nil (listed free.strings) && is_nil (listed free.functions))

-- whether a set is named by no member
abbrev pub names_none : {X : Type 0} → Among X → Bool
names_none (Only members) = is_nil members
names_none (AllBut members) = is_nil members

-- whether rows are none, or that of all tables alone
abbrev pub are_flat : List Row → Bool
are_flat [] = true
are_flat (row ∷ []) = is_all_tables row
are_flat (row ∷ next ∷ rows) = false

-- whether a node names nothing
abbrev pub is_plain_node : Node → Bool
is_plain_node node = are_flat node.rows && (names_none node.strings && names_none node.functions)
