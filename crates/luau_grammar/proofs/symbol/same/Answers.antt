use Rattle.std.proofs.Common.{rules}
use Rattle.luau_grammar.specs.Symbols.{same}
use Rattle.luau_grammar.proofs.symbol.same.Goals as goal

pub returns : goal.returns
unfolding same
returns c = search rules
