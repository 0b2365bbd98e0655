use Rattle.std.proofs.Common.{◌≡◌}
use Rattle.std.specs.Prelude.{All}
use Rattle.type_arena.specs.Store.{field_types}
use Rattle.subtype_check.proofs.tests.one_row.Given as goal

abbrev pub invariant-loop-letter : goal.invariant-loop-letter
invariant-loop-letter l = All (λ child. child ≡ l.at) (field_types l.fields.items)
