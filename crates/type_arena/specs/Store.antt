-- Nodes in several arenas: which reference has which node, and which references are older than which.
use Rattle.std.specs.Prelude.{◌≡◌, ℕ, Bool, ◌==◌, nat_lt, ◌&&◌, ◌||◌, List, [], ◌∷◌, ◌++◌, length, Option, Some, is_some, slice_get, All, IsTrue, if◌then◌else◌}
use Rattle.type_arena.specs.declared.node.Node.{Node}
use Rattle.type_arena.specs.declared.node.Row.{Row}
use Rattle.type_arena.specs.declared.node.TypeRef.{TypeRef}

-- the nodes of one arena in the order of their ids, with the arena's home
pub record Holding : Type 0 where
  pub home : ℕ
  pub nodes : List Node

-- several arenas
abbrev pub Store : Type 0
Store = List Holding

-- the nodes of the arena with this home
abbrev pub nodes_at : Store → ℕ → List Node
nodes_at [] home = []
nodes_at (arena ∷ arenas) home = if arena.home == home then arena.nodes else nodes_at arenas home

-- the node of a reference, if it is there
abbrev pub node_at : Store → TypeRef → Option Node
node_at store at = slice_get (nodes_at store at.home) at.id

-- whether a reference has a node
abbrev pub has : Store → TypeRef → Bool
has store at = is_some (node_at store at)

-- the types of the fields, in their order
abbrev pub field_types : List (List ℕ × TypeRef) → List TypeRef
field_types [] = []
field_types (field ∷ fields) = field.1 ∷ field_types fields

abbrev pub row_types : List Row → List TypeRef
row_types [] = []
row_types (row ∷ rows) = field_types row.fields ++ row_types rows

-- the references in a node
abbrev pub refs_of : Node → List TypeRef
refs_of node = row_types node.rows

-- whether a reference comes before another one: it has a lower home, or the same home and a lower id
abbrev pub is_older : TypeRef → TypeRef → Bool
is_older a b = nat_lt a.home b.home || (a.home == b.home && nat_lt a.id b.id)

-- the nodes of an arena are each there once, and the references in each are older than the node
pub record IsOrdered (home : ℕ) (nodes : List Node) : Type 0 where
  pub older : (id : ℕ) (node : Node) → slice_get nodes id ≡ Some node → All (λ child. IsTrue (is_older child (record { home = home; id = id }))) (refs_of node)
  pub once : (id other : ℕ) (node : Node) → slice_get nodes id ≡ Some node → slice_get nodes other ≡ Some node → id ≡ other

-- each reference in a node that is there is there too
abbrev pub IsClosed : Store → Type 0
IsClosed store = (at : TypeRef) (node : Node) → node_at store at ≡ Some node → All (λ child. IsTrue (has store child)) (refs_of node)

-- each reference in a node that is there is there too, and older, and equal nodes of one arena have one reference
pub record IsSound (store : Store) : Type 0 where
  pub there : IsClosed store
  pub older : (at : TypeRef) (node : Node) → node_at store at ≡ Some node → All (λ child. IsTrue (is_older child at)) (refs_of node)
  pub once : (at other : TypeRef) (node : Node) → node_at store at ≡ Some node → node_at store other ≡ Some node → at.home ≡ other.home → at ≡ other

-- the arena at each position has that position as its home
abbrev pub IsPlaced : Store → Type 0
IsPlaced store = (home : ℕ) (arena : Holding) → slice_get store home ≡ Some arena → arena.home ≡ home

-- arenas, with one more above them
abbrev pub with_own : Store → ℕ → List Node → Store
with_own below home nodes = below ++ (record { home = home; nodes = nodes }) ∷ []

-- each node of the one is at the same reference in the other
abbrev pub Keeps : Store → Store → Type 0
Keeps old new = (at : TypeRef) (node : Node) → node_at old at ≡ Some node → node_at new at ≡ Some node

-- a node that is interned gets the id of an equal node, or goes last
pub data Interned (old new : List Node) (node : Node) (id : ℕ) : Type 0 where
  found : slice_get old id ≡ Some node → new ≡ old → Interned old new node id
  added : ((other : ℕ) → slice_get old other ≡ Some node → ⊥) → id ≡ length old → new ≡ old ++ node ∷ [] → Interned old new node id
