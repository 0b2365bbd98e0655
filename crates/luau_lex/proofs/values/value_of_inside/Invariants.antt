use Rattle.std.proofs.Common.{◌≡◌, ◌-◌, ◌≤◌, ◌++◌, length, drop}
use Rattle.luau_lex.specs.Computed.Strings.{value_of_inside}
use Rattle.luau_lex.proofs.values.value_of_inside.Given as goal

-- the bytes so far, and what the rest stands for
abbrev pub invariant-loop-n : goal.invariant-loop-n
invariant-loop-n l = record {
  within : l.n ≤ length l.inside;
  rest : l.out.items ++ value_of_inside (drop l.n l.inside) ≡ value_of_inside l.inside;
}

abbrev pub decreases-loop-n : goal.decreases-loop-n
decreases-loop-n l = length l.inside - l.n
