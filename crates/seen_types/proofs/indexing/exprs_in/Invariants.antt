use Rattle.std.proofs.Common.{◌≡◌, ℕ, nat_eq, drop}
use Rattle.std.specs.HashMap.{get}
use Rattle.seen_types.specs.Seen.{expr_at}
use Rattle.seen_types.proofs.indexing.exprs_in.Given as goal

-- what is listed from here on was found
abbrev pub invariant-loop-i : goal.invariant-loop-i
invariant-loop-i l = (id : ℕ) → get nat_eq l.found id ≡ expr_at (drop l.i l.seen) id
