-- Rows as nodes have them, where a field is set and where they are frozen.
use Rattle.std.specs.Prelude.{ℕ, suc, true, false, not, List, [], ◌∷◌, filter, map}
use Rattle.std.specs.Str.{bytes_eq}
use Rattle.type_arena.specs.declared.node.Among.TheVariants.{Only}
use Rattle.type_arena.specs.declared.node.Node.{Node}
use Rattle.type_arena.specs.declared.node.Row.{Row}
use Rattle.type_arena.specs.declared.node.TypeRef.{TypeRef}
use Rattle.type_normal.specs.Free.{name_cmp}
use Rattle.type_normal.specs.Members.{by_order}

-- the node of the tables of some rows
abbrev pub tables_node : List Row → Node
tables_node rows = record { nil = false; truth = false; falsity = false; number = false; other = false; strings = Only []; functions = Only []; rows = rows }

-- fields without those of a name
abbrev pub without_name : List ℕ → List (List ℕ × TypeRef) → List (List ℕ × TypeRef)
without_name name fields = filter (λ field. not (bytes_eq field.0 name)) fields

-- where a name goes among fields in order: before the first that it doesn't come after
abbrev pub name_place : List ℕ → List (List ℕ × TypeRef) → ℕ
name_place name [] = 0
name_place name (field ∷ fields) = by_order (name_cmp name field.0) 0 0 (suc (name_place name fields))

-- fields with one more, at this place
abbrev pub with_name : List ℕ → TypeRef → List (List ℕ × TypeRef) → List (List ℕ × TypeRef)
with_name name at [] = (name, at) ∷ []
with_name name at (field ∷ fields) =
    by_order (name_cmp name field.0) ((name, at) ∷ field ∷ fields) ((name, at) ∷ field ∷ fields) (field ∷ with_name name at fields)

-- a row in which a field has this type
abbrev pub set_row : List ℕ → TypeRef → Row → Row
set_row name at row = record { frozen = row.frozen; fields = with_name name at (without_name name row.fields) }

abbrev pub set_rows : List ℕ → TypeRef → List Row → List Row
set_rows name at rows = map (set_row name at) rows

-- a row, frozen
abbrev pub freeze : Row → Row
freeze row = record { frozen = true; fields = row.fields }

abbrev pub freeze_all : List Row → List Row
freeze_all rows = map freeze rows
