use Rattle.std.proofs.Common.{◌≡◌, ◌+◌, ◌*◌}
use Rattle.type_arena.specs.Arena.{store_of}
use Rattle.type_arena.specs.Meaning.{term_of, rows_by, fields_by}
use Rattle.type_ops.specs.Changed.{AreChanges}
use Rattle.type_ops.proofs.ChangeFacts.{weight, weight_of_rows, weight_of_fields, FieldsMade, RowsMade}
use Rattle.type_ops.proofs.widening.+changes.Given as goal

abbrev pub decreases-change_fields : goal.decreases-change_fields
decreases-change_fields l = 3 * weight_of_fields (fields_by (term_of (store_of l.arena.now)) l.fields.now) + 1

abbrev pub decreases-change_rows : goal.decreases-change_rows
decreases-change_rows l = 3 * weight_of_rows (rows_by (term_of (store_of l.arena.now)) l.rows.now) + 2

abbrev pub decreases-change : goal.decreases-change
decreases-change l = 3 * weight (term_of (store_of l.arena.now) l.at)

abbrev pub invariant-change_fields-loop-field : goal.invariant-change_fields-loop-field
invariant-change_fields-loop-field l = record {
  right : AreChanges l.written l.arena l.known;
  made : FieldsMade l.written l.frozen l.initial.arena l.arena l.fields l.kept.items l.field-index;
}

abbrev pub invariant-change_rows-loop-row : goal.invariant-change_rows-loop-row
invariant-change_rows-loop-row l = record {
  right : AreChanges l.written l.arena l.known;
  made : RowsMade l.written l.initial.arena l.arena l.rows l.raw.items l.row-index;
}
