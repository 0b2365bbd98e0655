use Rattle.std.proofs.Common.{◌≡◌, take}
use Rattle.type_arena.specs.Arena.{store_of}
use Rattle.type_arena.specs.Meaning.{term_of}
use Rattle.type_ops.specs.Normalized.{known_rows}
use Rattle.type_fields.proofs.known.known_rows.Given as goal

abbrev pub invariant-loop-row : goal.invariant-loop-row
invariant-loop-row l = l.known.items ≡ known_rows (term_of (store_of l.arena)) (take l.row-index l.rows)
