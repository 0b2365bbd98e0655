use Rattle.std.proofs.Common.{refl}
use Rattle.builtin_table.specs.Standard.{standard}
use Rattle.tree_readings.proofs.laws.standard_paths_are_paths.Goals as goal

pub returns : goal.returns
unfolding standard
returns c = refl
