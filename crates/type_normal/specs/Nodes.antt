-- What a node's form says of the type that it stands for.
use Rattle.std.specs.Prelude.{Bool, true, false, not, ◌&&◌, List, [], ◌∷◌, filter, if◌then◌else◌}
use Rattle.std.specs.List.{list_any}
use Rattle.type_arena.specs.Term.{Term, free_of}
use Rattle.type_arena.specs.Meaning.{fields_by}
use Rattle.type_arena.specs.declared.node.TypeRef.{TypeRef}
use Rattle.type_normal.specs.HeapFree.{heap_free_row}
use Rattle.type_arena.specs.declared.node.Among.{Among}
use Rattle.type_arena.specs.declared.node.Among.TheVariants.{Only, AllBut}
use Rattle.type_arena.specs.declared.node.Node.{Node}
use Rattle.type_arena.specs.declared.node.Row.{Row}
use Rattle.type_normal.specs.Free.{is_no_free}

abbrev pub is_nil : {X : Type 0} → List X → Bool
is_nil [] = true
is_nil (x ∷ xs) = false

-- whether a set has no member, by its form
abbrev pub is_none : {X : Type 0} → Among X → Bool
is_none (Only members) = is_nil members
is_none (AllBut members) = false

-- whether a node has no part and no row
abbrev pub has_no_part : Node → Bool
has_no_part node = is_no_free (free_of node) && is_nil node.rows

-- the set of what a set hasn't
abbrev pub swapped : {X : Type 0} → Among X → Among X
swapped (Only members) = AllBut members
swapped (AllBut members) = Only members

-- the row of all tables, where there are no rows
abbrev pub other_rows : List Row → List Row
other_rows [] = record { frozen = false; fields = [] } ∷ []
other_rows (row ∷ rows) = []

-- the node of what a node hasn't, where its rows are none, or the row of all tables
abbrev pub complement_of : Node → Node
complement_of node = record {
  nil = not node.nil;
  truth = not node.truth;
  falsity = not node.falsity;
  number = not node.number;
  other = not node.other;
  strings = swapped node.strings;
  functions = swapped node.functions;
  rows = other_rows node.rows;
}

-- the row of all tables, as a node has it
abbrev pub all_tables : Row
all_tables = record { frozen = false; fields = [] }

-- whether a row is that of all tables
abbrev pub is_all_tables : Row → Bool
is_all_tables row = not row.frozen && is_nil row.fields

-- rows that are few: that of all tables, where it is among some rows
abbrev pub few_rows : List Row → List Row
few_rows rows = if list_any is_all_tables rows then all_tables ∷ [] else []

-- the rows whose types, once it is known what references mean, are heap-free
abbrev pub heap_free_ones : (TypeRef → Term) → List Row → List Row
heap_free_ones means rows = filter (λ row. heap_free_row row.frozen (fields_by means row.fields)) rows
