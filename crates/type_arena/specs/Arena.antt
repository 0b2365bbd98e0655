-- An arena, seen as the arenas of its shelf and its own nodes.
use Rattle.std.specs.Prelude.{ℕ, List}
use Rattle.type_arena.specs.Store.{Store, with_own}
use Rattle.type_arena.specs.Shelf.{shelf_store}
use Rattle.type_arena.specs.declared.arena.Arena.{Arena}
use Rattle.type_arena.specs.declared.node.Node.{Node}

-- the home of the arena itself
abbrev pub home_of : Arena → ℕ
home_of arena = arena.home

-- its own nodes, in the order of their ids
abbrev pub nodes_of : Arena → List Node
nodes_of arena = arena.own.keys

-- the arenas of its shelf
abbrev pub below_of : Arena → Store
below_of arena = shelf_store arena.shelf

-- all arenas to which its references lead: those of its shelf, and itself
abbrev pub store_of : Arena → Store
store_of arena = with_own (below_of arena) (home_of arena) (nodes_of arena)
