use Rattle.std.proofs.Common.{◌≡◌, take}
use Rattle.type_arena.specs.Arena.{store_of}
use Rattle.type_arena.specs.Meaning.{term_of}
use Rattle.type_normal.specs.Listing.{IsRightAt, stable_at}
use Rattle.type_normal.specs.Shape.{IsRight}
use Rattle.type_normal.proofs.stripping.stable_rows_at.Given as goal

abbrev pub invariant-loop-row : goal.invariant-loop-row
invariant-loop-row l = record {
  right : IsRight (store_of l.arena) l.known;
  listings : IsRightAt l.name (store_of l.arena) l.listings;
  so_far : l.kept.items ≡ stable_at l.name (term_of (store_of l.arena)) (take l.row-index l.rows);
}
