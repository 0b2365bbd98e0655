use Rattle.std.proofs.Common.{◌≡◌, drop}
use Rattle.type_arena.specs.Arena.{store_of}
use Rattle.type_arena.specs.Meaning.{term_of}
use Rattle.type_ops.specs.Comparing.{AreCompared, row_order}
use Rattle.type_ops.specs.Places.{place}
use Rattle.type_ops.proofs.PlaceFacts.{moved}
use Rattle.type_ops.proofs.sorting.place_of.Given as goal

abbrev pub invariant-loop-i : goal.invariant-loop-i
invariant-loop-i l = record {
  right : AreCompared (store_of l.arena) l.known;
  so_far : place (row_order (term_of (store_of l.arena)) l.row) l.rows ≡ moved l.i (place (row_order (term_of (store_of l.arena)) l.row) (drop l.i l.rows));
}
