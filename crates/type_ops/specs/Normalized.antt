-- Rows in normal form.
use Rattle.std.specs.Prelude.{ℕ, Bool, false, not, ◌&&◌, List, [], ◌∷◌, ◌++◌, filter, if◌then◌else◌}
use Rattle.type_arena.specs.Term.{Term, Rows, no_rows, more_rows, free_of}
use Rattle.type_arena.specs.Meaning.{fields_by}
use Rattle.type_arena.specs.declared.node.Among.{Among}
use Rattle.type_arena.specs.declared.node.Among.TheVariants.{Only, AllBut}
use Rattle.type_arena.specs.declared.node.Node.{Node}
use Rattle.type_arena.specs.declared.node.Row.{Row}
use Rattle.type_arena.specs.declared.node.TypeRef.{TypeRef}
use Rattle.type_normal.specs.Free.{is_whole_free}
use Rattle.type_normal.specs.Nodes.{is_nil, is_all_tables}
use Rattle.type_normal.specs.Rows.{has_empty, is_unknown, put_normal}

-- rows, each in normal form, put in order
abbrev pub normal_of : Rows → Rows
normal_of no_rows = no_rows
normal_of (more_rows frozen fields rows) = put_normal frozen fields (normal_of rows)

-- the fields whose type isn't unknown, once it is known what references mean
abbrev pub known_ones : (TypeRef → Term) → List (List ℕ × TypeRef) → List (List ℕ × TypeRef)
known_ones means fields = filter (λ field. not (is_unknown (means field.1))) fields

-- a row without its fields of type unknown, and nothing if one of its fields is empty
abbrev pub known_row : (TypeRef → Term) → Row → List Row
known_row means row = if has_empty (fields_by means row.fields) then [] else (record { frozen = row.frozen; fields = known_ones means row.fields }) ∷ []

abbrev pub known_rows : (TypeRef → Term) → List Row → List Row
known_rows means [] = []
known_rows means (row ∷ rows) = known_row means row ++ known_rows means rows

-- whether a set has all members, by its form
abbrev pub is_all : {X : Type 0} → Among X → Bool
is_all (Only members) = false
is_all (AllBut members) = is_nil members

-- whether rows are the row of all tables alone
abbrev pub only_all_tables : List Row → Bool
only_all_tables [] = false
only_all_tables (row ∷ []) = is_all_tables row
only_all_tables (row ∷ next ∷ rows) = false

-- whether a node has every part, and the row of all tables alone
abbrev pub has_every_part : Node → Bool
has_every_part node = is_whole_free (free_of node) && only_all_tables node.rows
