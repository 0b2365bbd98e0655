use Rattle.std.proofs.Common.{◌≡◌, length, map}
use Rattle.luau_grammar.specs.Symbols.{look_up}
use Rattle.luau_grammar.proofs.symbol.look_up.Given as goal

abbrev pub invariant-loop-table : goal.invariant-loop-table
invariant-loop-table l = look_up (map (λ k. (k.0.now, k.1)) l.table) l.bytes ≡ look_up (map (λ k. (k.0.now, k.1)) l.initial.table) l.bytes

abbrev pub decreases-loop-table : goal.decreases-loop-table
decreases-loop-table l = length l.table
