-- Maps from numbers to types, each of which stands at a place in a list of nodes.
use Rattle.std.specs.Prelude.{◌≡◌, ℕ, zero, suc, ◌<◌, ◌%◌, ◌/◌, Bool, ◌==◌, List, [], ◌∷◌, Option, Some, None, slice_get, All, IsTrue, if◌then◌else◌}
use Rattle.type_arena.specs.Store.{Store, has}
use Rattle.type_arena.specs.declared.node.TypeRef.{TypeRef}
use Rattle.local_types.specs.declared.node.MapNode.{MapNode}
use Rattle.local_types.specs.declared.node.MapNode.TheVariants.{All as Everywhere, Split}

abbrev pub is_even : ℕ → Bool
is_even n = n % 2 == 0

-- a value at 0, and two further functions: 2k+1 has what the one has at k, and 2k+2 what the other has at k
abbrev pub by_number : {X : Type 0} → X → (ℕ → X) → (ℕ → X) → ℕ → X
by_number here odd even zero = here
by_number here odd even (suc below) = if is_even below then odd (below / 2) else even (below / 2)

-- a reference that stands for none
abbrev pub no_ref : TypeRef
no_ref = record { home = 0; id = 0 }

-- the type that a node has at a number, once it is known what the maps at other places have
abbrev pub ref_by : (ℕ → ℕ → TypeRef) → Option MapNode → ℕ → TypeRef
ref_by below None = λ number. no_ref
ref_by below (Some (Everywhere at)) = λ number. at
ref_by below (Some (Split parts)) = by_number parts.here (below parts.odd.at) (below parts.even.at)

-- the type that the map at a place has at a number, followed through at most this many nodes
unfoldable pub ref_within : ℕ → List MapNode → ℕ → ℕ → TypeRef
ref_within zero nodes place number = no_ref
ref_within (suc steps) nodes place number = ref_by (ref_within steps nodes) (slice_get nodes place) number

-- the type that the map at a place has at a number
unfoldable pub ref_of : List MapNode → ℕ → ℕ → TypeRef
ref_of nodes place number = ref_within (suc number) nodes place number

-- the types that a node names, and the places of its parts
abbrev pub types_in : MapNode → List TypeRef
types_in (Everywhere at) = at ∷ []
types_in (Split parts) = parts.here ∷ []

abbrev pub places_in : MapNode → List ℕ
places_in (Everywhere at) = []
places_in (Split parts) = parts.odd.at ∷ parts.even.at ∷ []

-- each type that a node names is there
abbrev pub TypesAreThere : Store → List MapNode → Type 0
TypesAreThere store nodes = (place : ℕ) (node : MapNode) → slice_get nodes place ≡ Some node → All (λ at. IsTrue (has store at)) (types_in node)

-- the parts of each node come before it
abbrev pub PartsComeBefore : List MapNode → Type 0
PartsComeBefore nodes = (place : ℕ) (node : MapNode) → slice_get nodes place ≡ Some node → All (λ part. part < place) (places_in node)

-- each node of the one stands at the same place in the other
abbrev pub KeepsMaps : List MapNode → List MapNode → Type 0
KeepsMaps old new = (place : ℕ) (node : MapNode) → slice_get old place ≡ Some node → slice_get new place ≡ Some node
