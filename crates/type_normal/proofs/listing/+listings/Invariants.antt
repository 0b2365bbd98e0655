use Rattle.std.proofs.Common.{◌≡◌, ◌+◌, ◌*◌, ◌||◌, drop}
use Rattle.type_arena.specs.Arena.{store_of}
use Rattle.type_arena.specs.Meaning.{term_of, rank, rows_by, fields_by}
use Rattle.type_arena.specs.Store.{row_types, field_types}
use Rattle.type_normal.specs.HeapFree.{rows_list, fields_list}
use Rattle.type_normal.specs.Shape.{ranks}
use Rattle.type_normal.specs.Listing.{IsRightAt}
use Rattle.type_normal.proofs.listing.+listings.Given as goal

abbrev pub decreases-fields_list : goal.decreases-fields_list
decreases-fields_list l = 3 * ranks (store_of l.arena.now) (field_types l.fields.now)

abbrev pub decreases-rows_list : goal.decreases-rows_list
decreases-rows_list l = 3 * ranks (store_of l.arena.now) (row_types l.rows.now) + 1

abbrev pub decreases-lists_at : goal.decreases-lists_at
decreases-lists_at l = 3 * rank (store_of l.arena.now) l.at + 2

abbrev pub invariant-fields_list-loop-field : goal.invariant-fields_list-loop-field
invariant-fields_list-loop-field l = record {
  right : IsRightAt l.name (store_of l.arena) l.known;
  so_far : l.any || fields_list l.name (fields_by (term_of (store_of l.arena)) (drop l.field-index l.fields)) ≡ fields_list l.name (fields_by (term_of (store_of l.arena)) l.fields);
}

abbrev pub invariant-rows_list-loop-row : goal.invariant-rows_list-loop-row
invariant-rows_list-loop-row l = record {
  right : IsRightAt l.name (store_of l.arena) l.known;
  so_far : l.any || rows_list l.name (rows_by (term_of (store_of l.arena)) (drop l.row-index l.rows)) ≡ rows_list l.name (rows_by (term_of (store_of l.arena)) l.rows);
}
