use Rattle.std.specs.FinMap.{nat_cmp-IsAntisymmetric, slice_cmp-IsAntisymmetric}
use Rattle.nonstrict_cli.proofs.paths.modules_among.Goals as goal

pub sort_once-requires : goal.sort_once-requires
sort_once-requires c = slice_cmp-IsAntisymmetric nat_cmp-IsAntisymmetric
