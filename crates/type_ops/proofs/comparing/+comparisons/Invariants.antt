use Rattle.std.proofs.Common.{◌≡◌, ◌+◌, ◌*◌, drop}
use Rattle.type_arena.specs.Arena.{store_of}
use Rattle.type_arena.specs.Meaning.{term_of, rank, rows_by, fields_by}
use Rattle.type_arena.specs.Store.{row_types, field_types}
use Rattle.type_normal.specs.Rows.{rows_cmp, types_cmp}
use Rattle.type_normal.specs.Shape.{ranks}
use Rattle.type_ops.specs.Comparing.{AreCompared}
use Rattle.type_ops.proofs.comparing.+comparisons.Given as goal

abbrev pub decreases-compare_field_types : goal.decreases-compare_field_types
decreases-compare_field_types l = 4 * ranks (store_of l.arena.now) (field_types l.fields.now)

abbrev pub decreases-compare_rows : goal.decreases-compare_rows
decreases-compare_rows l = 4 * ranks (store_of l.arena.now) (field_types l.row.now.fields) + 1

abbrev pub decreases-compare_row_lists : goal.decreases-compare_row_lists
decreases-compare_row_lists l = 4 * ranks (store_of l.arena.now) (row_types l.rows.now) + 2

abbrev pub decreases-compare_types : goal.decreases-compare_types
decreases-compare_types l = 4 * rank (store_of l.arena.now) l.pair.first + 3

abbrev pub invariant-compare_field_types-loop-i : goal.invariant-compare_field_types-loop-i
invariant-compare_field_types-loop-i l = record {
  right : AreCompared (store_of l.arena) l.known;
  so_far : types_cmp (fields_by (term_of (store_of l.arena)) l.fields) (fields_by (term_of (store_of l.arena)) l.others) ≡ types_cmp (fields_by (term_of (store_of l.arena)) (drop l.i l.fields)) (fields_by (term_of (store_of l.arena)) (drop l.i l.others));
}

abbrev pub invariant-compare_row_lists-loop-i : goal.invariant-compare_row_lists-loop-i
invariant-compare_row_lists-loop-i l = record {
  right : AreCompared (store_of l.arena) l.known;
  so_far : rows_cmp (rows_by (term_of (store_of l.arena)) l.rows) (rows_by (term_of (store_of l.arena)) l.others) ≡ rows_cmp (rows_by (term_of (store_of l.arena)) (drop l.i l.rows)) (rows_by (term_of (store_of l.arena)) (drop l.i l.others));
}
