use Rattle.std.proofs.Common.{◌≡◌, ◌+◌, ◌*◌, vec_len}
use Rattle.type_arena.specs.Arena.{store_of}
use Rattle.type_arena.specs.Meaning.{term_of, rows_by, fields_by}
use Rattle.type_ops.specs.Met.{AreMeets}
use Rattle.type_ops.proofs.ChangeFacts.{weight, weight_of_rows, weight_of_fields}
use Rattle.type_ops.proofs.MeetFacts.{FieldsMet, RowMet, RowsMet}
use Rattle.type_ops.proofs.meeting.+meets.Given as goal

abbrev pub decreases-put_field : goal.decreases-put_field
decreases-put_field l = 5 * weight (term_of (store_of l.arena.now) l.field.1) + 1

abbrev pub decreases-meet_fields : goal.decreases-meet_fields
decreases-meet_fields l = 5 * weight_of_fields (fields_by (term_of (store_of l.arena.now)) l.fields.now) + 2

abbrev pub decreases-meet_row : goal.decreases-meet_row
decreases-meet_row l = 5 * weight_of_fields (fields_by (term_of (store_of l.arena.now)) l.row.now.fields) + 3

abbrev pub decreases-meet_rows : goal.decreases-meet_rows
decreases-meet_rows l = 5 * weight_of_rows (rows_by (term_of (store_of l.arena.now)) l.rows.now) + 4

abbrev pub decreases-meet_types : goal.decreases-meet_types
decreases-meet_types l = 5 * weight (term_of (store_of l.arena.now) l.pair.first)

abbrev pub invariant-meet_fields-loop-field : goal.invariant-meet_fields-loop-field
invariant-meet_fields-loop-field l = record {
  right : AreMeets l.arena l.known;
  made : FieldsMet l.initial.arena l.arena l.fields l.others l.rest.items l.met.items;
}

abbrev pub decreases-meet_fields-loop-field : goal.decreases-meet_fields-loop-field
decreases-meet_fields-loop-field l = vec_len l.rest

abbrev pub invariant-meet_row-loop-other : goal.invariant-meet_row-loop-other
invariant-meet_row-loop-other l = record {
  right : AreMeets l.arena l.known;
  made : RowMet l.initial.arena l.arena l.row l.others l.initial.raw.items l.raw.items l.other-index;
}

abbrev pub invariant-meet_rows-loop-row : goal.invariant-meet_rows-loop-row
invariant-meet_rows-loop-row l = record {
  right : AreMeets l.arena l.known;
  made : RowsMet l.initial.arena l.arena l.rows l.others l.raw.items l.row-index;
}
