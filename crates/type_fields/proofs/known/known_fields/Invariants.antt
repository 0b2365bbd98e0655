use Rattle.std.proofs.Common.{◌≡◌, take}
use Rattle.type_arena.specs.Arena.{store_of}
use Rattle.type_arena.specs.Meaning.{term_of}
use Rattle.type_ops.specs.Normalized.{known_ones}
use Rattle.type_fields.proofs.known.known_fields.Given as goal

abbrev pub invariant-loop-field : goal.invariant-loop-field
invariant-loop-field l = l.known.items ≡ known_ones (term_of (store_of l.arena)) (take l.field-index l.fields)
