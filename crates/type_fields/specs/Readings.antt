-- What can be read off a type, and off a node.
use Rattle.std.specs.Prelude.{Bool, not, ◌&&◌, ◌||◌, List, [], ◌∷◌, Option, Some, None, if◌then◌else◌}
use Rattle.type_arena.specs.Term.{Term, term, free_of}
use Rattle.type_arena.specs.declared.node.Among.{Among}
use Rattle.type_arena.specs.declared.node.Among.TheVariants.{Only, AllBut}
use Rattle.type_arena.specs.declared.node.FnName.{FnName}
use Rattle.type_arena.specs.declared.node.Node.{Node}
use Rattle.type_normal.specs.Kinds.{has_functions_alone}
use Rattle.type_normal.specs.Members.{is_no_set}
use Rattle.type_normal.specs.Nodes.{is_nil}

-- whether strings or values of no other kind are among those of a type
abbrev pub has_strings_or_other : Term → Bool
has_strings_or_other (term free rows) = not (is_no_set free.strings) || free.other

-- the only member of a set that has one
abbrev pub only_item : {X : Type 0} → List X → Option X
only_item [] = None
only_item (x ∷ []) = Some x
only_item (x ∷ y ∷ xs) = None

abbrev pub only_member : {X : Type 0} → Among X → Option X
only_member (Only members) = only_item members
only_member (AllBut members) = None

-- whether a node has no part but its functions
abbrev pub names_functions_alone : Node → Bool
names_functions_alone node = has_functions_alone (free_of node) && is_nil node.rows

-- the function of a node that has no other value
abbrev pub function_in : Node → Option FnName
function_in node = if names_functions_alone node then only_member node.functions else None
