use Rattle.std.proofs.Common.{◌≡◌, ◌≤◌, drop}
use Rattle.luau_lex.specs.Numbers.{number_in, number_behind}
use Rattle.luau_lex.proofs.elements.number_in.Given as goal

-- the number so far is small, and the digits that are left make the whole number of it
abbrev pub invariant-loop-d : goal.invariant-loop-d
invariant-loop-d l = record {
  small : l.n ≤ 0x10FFFF;
  whole : number_in l.base l.digits ≡ number_behind l.base l.n (drop l.d-index l.digits);
}
