-- Frozen arenas, seen as their homes and nodes.
use Rattle.std.specs.Prelude.{List, map}
use Rattle.type_arena.specs.Store.{Holding, Store}
use Rattle.type_arena.specs.declared.frozen.Frozen.{Frozen}

-- the home and the nodes of a frozen arena
abbrev pub holding_of : Frozen → Holding
holding_of arena = record { home = arena.home; nodes = arena.nodes.keys }

-- several frozen arenas
abbrev pub holdings_of : List Frozen → Store
holdings_of arenas = map holding_of arenas
