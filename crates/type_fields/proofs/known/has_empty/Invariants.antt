use Rattle.std.proofs.Common.{◌≡◌, ◌||◌, drop}
use Rattle.type_arena.specs.Arena.{store_of}
use Rattle.type_arena.specs.Meaning.{term_of, fields_by}
use Rattle.type_normal.specs.Rows.{has_empty}
use Rattle.type_fields.proofs.known.has_empty.Given as goal

abbrev pub invariant-loop-field : goal.invariant-loop-field
invariant-loop-field l = l.any || has_empty (fields_by (term_of (store_of l.arena)) (drop l.field-index l.fields)) ≡ has_empty (fields_by (term_of (store_of l.arena)) l.fields)
