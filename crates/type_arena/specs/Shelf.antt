-- Shelves and arenas, seen as their nodes under their homes.
use Rattle.type_arena.specs.Store.{Store}
use Rattle.type_arena.specs.Frozen.{holdings_of}
use Rattle.type_arena.specs.declared.shelves.Shelf.{Shelf}

-- the arenas of a shelf
abbrev pub shelf_store : Shelf → Store
shelf_store shelf = holdings_of shelf.frozen.now
