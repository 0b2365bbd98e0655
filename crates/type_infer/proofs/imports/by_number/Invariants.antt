use Rattle.std.proofs.Common.{◌≡◌, ℕ, drop}
use Rattle.std.specs.BTreeMap.{get}
use Rattle.std.specs.Ordering.{nat_cmp}
use Rattle.type_infer.specs.Imports.{import_at}
use Rattle.type_infer.proofs.imports.by_number.Given as goal

-- what is listed from here on was found
abbrev pub invariant-loop-i : goal.invariant-loop-i
invariant-loop-i l = (id : ℕ) → get nat_cmp l.found id ≡ import_at (drop l.i l.imports) id
