use Rattle.std.proofs.Common.{refl}
use Rattle.builtin_table.specs.Standard.{standard, declaration}
use Rattle.builtin_table.proofs.laws.lines_give_their_declarations.Goals as goal

pub returns : goal.returns
unfolding standard declaration
returns c = refl
