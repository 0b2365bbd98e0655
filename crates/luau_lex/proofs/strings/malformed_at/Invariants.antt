use Rattle.std.proofs.Common.{◌≡◌, ◌+◌, ◌-◌, ◌≤◌, length, drop}
use Rattle.std.specs.Prelude.{option_map}
use Rattle.luau_lex.specs.Computed.Strings.{malformed_at}
use Rattle.luau_lex.proofs.strings.malformed_at.Given as goal

-- no malformed escape stands before this place
abbrev pub invariant-loop-n : goal.invariant-loop-n
invariant-loop-n l = record {
  within : l.n ≤ length l.inside;
  rest : malformed_at l.inside ≡ option_map (λ m. l.n + m) (malformed_at (drop l.n l.inside));
}

abbrev pub decreases-loop-n : goal.decreases-loop-n
decreases-loop-n l = length l.inside - l.n
