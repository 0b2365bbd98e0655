-- What a reference means: the term that its node gives, in which each reference stands for its own term.
use Rattle.std.specs.Prelude.{ℕ, zero, suc, ◌+◌, nat_lt, List, [], ◌∷◌, length, if◌then◌else◌}
use Rattle.std.specs.Option.{option_map_or}
use Rattle.type_arena.specs.Store.{Store, node_at}
use Rattle.type_arena.specs.Term.{Term, term, Rows, no_rows, more_rows, Fields, no_fields, more_fields, never, free_of}
use Rattle.type_arena.specs.declared.node.Node.{Node}
use Rattle.type_arena.specs.declared.node.Row.{Row}
use Rattle.type_arena.specs.declared.node.TypeRef.{TypeRef}

-- fields, once it is known what references mean
abbrev pub fields_by : (TypeRef → Term) → List (List ℕ × TypeRef) → Fields
fields_by means [] = no_fields
fields_by means (field ∷ fields) = more_fields field.0 (means field.1) (fields_by means fields)

-- rows, once it is known what references mean
abbrev pub rows_by : (TypeRef → Term) → List Row → Rows
rows_by means [] = no_rows
rows_by means (row ∷ rows) = more_rows row.frozen (fields_by means row.fields) (rows_by means rows)

-- the term of a node, once it is known what the references in it mean
abbrev pub term_by : (TypeRef → Term) → Node → Term
term_by means node = term (free_of node) (rows_by means node.rows)

-- the term of a reference, followed through at most this many nodes in a row
unfoldable pub term_within : ℕ → Store → TypeRef → Term
term_within zero store at = never
term_within (suc steps) store at = option_map_or (term_by (term_within steps store)) (node_at store at) never

-- how many nodes have a lower home
abbrev pub nodes_below : Store → ℕ → ℕ
nodes_below [] home = 0
nodes_below (arena ∷ arenas) home = (if nat_lt arena.home home then length arena.nodes else 0) + nodes_below arenas home

-- at most this many nodes come before a reference
unfoldable pub rank : Store → TypeRef → ℕ
rank store at = nodes_below store at.home + at.id

-- what a reference means: its node and those before it are all that the term can take in
unfoldable pub term_of : Store → TypeRef → Term
term_of store at = term_within (suc (rank store at)) store at
