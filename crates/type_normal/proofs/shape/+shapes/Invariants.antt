use Rattle.std.proofs.Common.{◌≡◌, ◌+◌, ◌*◌, drop}
use Rattle.type_arena.specs.Arena.{store_of}
use Rattle.type_arena.specs.Meaning.{term_of, rank, rows_by, fields_by}
use Rattle.type_arena.specs.Store.{row_types, field_types}
use Rattle.type_normal.specs.Shape.{IsRight, shape_of_rows, shape_of_fields, both_shapes, ranks}
use Rattle.type_normal.proofs.shape.+shapes.Given as goal

abbrev pub decreases-fields_shape : goal.decreases-fields_shape
decreases-fields_shape l = 3 * ranks (store_of l.arena.now) (field_types l.fields.now)

abbrev pub decreases-rows_shape : goal.decreases-rows_shape
decreases-rows_shape l = 3 * ranks (store_of l.arena.now) (row_types l.rows.now) + 1

abbrev pub decreases-shape_at : goal.decreases-shape_at
decreases-shape_at l = 3 * rank (store_of l.arena.now) l.at + 2

abbrev pub invariant-fields_shape-loop-field : goal.invariant-fields_shape-loop-field
invariant-fields_shape-loop-field l = record {
  right : IsRight (store_of l.arena) l.known;
  so_far : both_shapes l.all (shape_of_fields (fields_by (term_of (store_of l.arena)) (drop l.field-index l.fields))) ≡ shape_of_fields (fields_by (term_of (store_of l.arena)) l.fields);
}

abbrev pub invariant-rows_shape-loop-row : goal.invariant-rows_shape-loop-row
invariant-rows_shape-loop-row l = record {
  right : IsRight (store_of l.arena) l.known;
  so_far : both_shapes l.all (shape_of_rows (rows_by (term_of (store_of l.arena)) (drop l.row-index l.rows))) ≡ shape_of_rows (rows_by (term_of (store_of l.arena)) l.rows);
}
