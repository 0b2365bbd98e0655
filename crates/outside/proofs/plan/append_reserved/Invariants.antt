use Rattle.std.proofs.Common.{◌≡◌, ◌++◌, take, vec_capacity}
use Rattle.outside.proofs.plan.append_reserved.Given as goal

-- the chunk so far is appended, and the room is as it was
abbrev pub invariant-loop-byte : goal.invariant-loop-byte
invariant-loop-byte l = (l.bytes.items ≡ l.initial.bytes.items ++ take l.byte-index l.chunk) × (vec_capacity l.bytes ≡ vec_capacity l.initial.bytes)
