use Rattle.std.proofs.Common.{◌≡◌, ◌++◌, take}
use Rattle.type_ops.proofs.joining.copy_rows.Given as goal

abbrev pub invariant-loop-row : goal.invariant-loop-row
invariant-loop-row l = l.to.items ≡ l.initial.to.items ++ take l.row-index l.from
