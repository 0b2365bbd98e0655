use Rattle.std.proofs.Common.{◌≡◌, ℕ, ◌<◌, false, drop}
use Rattle.luau_lex.specs.Computed.Brackets.{closes}
use Rattle.luau_lex.proofs.brackets.closing_place.Given as goal

-- no bracket closes at a place passed so far
abbrev pub invariant-loop-i : goal.invariant-loop-i
invariant-loop-i l = (k : ℕ) → k < l.i → closes l.signs (drop k l.text) ≡ false
