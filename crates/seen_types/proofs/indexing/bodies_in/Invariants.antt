use Rattle.std.proofs.Common.{◌≡◌, ℕ, nat_eq, drop}
use Rattle.std.specs.HashMap.{get}
use Rattle.seen_types.specs.Seen.{body_at}
use Rattle.seen_types.proofs.indexing.bodies_in.Given as goal

-- what is listed from here on was found
abbrev pub invariant-loop-i : goal.invariant-loop-i
invariant-loop-i l = (id : ℕ) → get nat_eq l.found id ≡ body_at (drop l.i l.seen) id
