-- Which module requires which, and which reaches which.
use Rattle.std.specs.Prelude.{◌≡◌, ℕ, zero, suc, Bool, true, false, List, [], ◌∷◌, Option, None, Some, map, length, Contains, if◌then◌else◌}
use Rattle.module_graph.specs.declared.node.Call.{Call}
use Rattle.module_graph.specs.declared.node.Node.{Node}
use Rattle.module_graph.specs.declared.needs.ModuleNeeds.{ModuleNeeds}
use Rattle.module_graph.specs.declared.needs.Need.{Need}
use Rattle.module_graph.specs.Names.{meant_file}

-- a require, with the file that it means
abbrev pub call_of : List ModuleNeeds → List ℕ → Need → Call
call_of files path need = record { at = need.at; to = meant_file files path need.target }

-- a file as the graph sees it; the requires of one that is refused already don't count
abbrev pub node_of : List ModuleNeeds → ModuleNeeds → Node
node_of files file = record { refused = file.refused; calls = if file.refused then [] else map (call_of files file.path) file.needs }

-- the files of a folder as the graph sees them, each at its position
abbrev pub nodes_of : List ModuleNeeds → List Node
nodes_of files = map (node_of files) files

-- whether a module was refused already
abbrev pub refused_at : List Node → ℕ → Bool
refused_at [] file = false
refused_at (node ∷ nodes) zero = node.refused
refused_at (node ∷ nodes) (suc file) = refused_at nodes file

-- the requires of a module, in their order
abbrev pub calls_at : List Node → ℕ → List Call
calls_at [] file = []
calls_at (node ∷ nodes) zero = node.calls
calls_at (node ∷ nodes) (suc file) = calls_at nodes file

-- the one module requires the other: one of its requires means it
abbrev pub Requires : List Node → ℕ → ℕ → Type 0
Requires nodes from to = (call : Call) × Contains (calls_at nodes from) call × (call.to ≡ Some to)

-- the one module reaches the other: it requires it, or a module that reaches it
pub data Reaches (nodes : List Node) : ℕ → ℕ → Type 0 where
  directly : {from to : ℕ} → Requires nodes from to → Reaches nodes from to
  through : {from next to : ℕ} → Requires nodes from next → Reaches nodes next to → Reaches nodes from to

-- a chain of so many requires begins at a module
abbrev pub HasChain : List Node → ℕ → ℕ → Type 0
HasChain nodes from zero = Unit {0}
HasChain nodes from (suc more) = (next : ℕ) × Requires nodes from next × HasChain nodes next more
