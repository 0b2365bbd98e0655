use Rattle.std.proofs.Common.{◌≡◌, take}
use Rattle.type_arena.specs.Arena.{store_of}
use Rattle.type_arena.specs.Meaning.{term_of}
use Rattle.type_normal.specs.Nodes.{heap_free_ones}
use Rattle.type_normal.specs.Shape.{IsRight}
use Rattle.type_normal.proofs.stripping.stable_rows.Given as goal

abbrev pub invariant-loop-row : goal.invariant-loop-row
invariant-loop-row l = record {
  right : IsRight (store_of l.arena) l.known;
  so_far : l.kept.items ≡ heap_free_ones (term_of (store_of l.arena)) (take l.row-index l.rows);
}
