use Rattle.std.proofs.Common.{length}
use Rattle.luau_lex.specs.Computed.Steps.{IsSmall, HasRead}
use Rattle.luau_lex.proofs.reader.lex.Given as goal

-- the reader will have found in the end what the text has
abbrev pub invariant-loop-reader : goal.invariant-loop-reader
invariant-loop-reader l = record {
  read : HasRead l.text l.reader;
  small : IsSmall l.reader;
}

abbrev pub decreases-loop-reader : goal.decreases-loop-reader
decreases-loop-reader l = length l.reader.rest.now
