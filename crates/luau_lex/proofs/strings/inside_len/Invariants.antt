use Rattle.std.proofs.Common.{◌≡◌, ◌+◌, ◌-◌, ◌≤◌, length, drop}
use Rattle.luau_lex.specs.Computed.Strings.{inside_len}
use Rattle.luau_lex.proofs.strings.inside_len.Given as goal

-- the inside goes on from here as it does from its begin
abbrev pub invariant-loop-n : goal.invariant-loop-n
invariant-loop-n l = record {
  within : l.n ≤ length l.text;
  rest : inside_len l.mark l.text ≡ l.n + inside_len l.mark (drop l.n l.text);
}

abbrev pub decreases-loop-n : goal.decreases-loop-n
decreases-loop-n l = length l.text - l.n
