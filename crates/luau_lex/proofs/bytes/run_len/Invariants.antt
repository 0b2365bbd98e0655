use Rattle.std.proofs.Common.{◌≡◌, ℕ, ◌<◌, true, get_or}
use Rattle.luau_lex.specs.Computed.Steps.{has}
use Rattle.luau_lex.proofs.bytes.run_len.Given as goal

-- each byte passed so far is of the class
abbrev pub invariant-loop-i : goal.invariant-loop-i
invariant-loop-i l = (k : ℕ) → k < l.i → has l.class (get_or l.text k 0) ≡ true
