use Rattle.std.proofs.Common.{◌∙◌}
use Rattle.nonstrict_cli.proofs.PathOrder.{found}
use Rattle.nonstrict_cli.proofs.paths.is_among.Goals as goal

pub returns : goal.returns
returns c = c.is_ok.ensures.value ∙ found c.args.paths.now c.args.path.now c.binary_search-place.result c.requires c.binary_search-place.ensures.bound c.binary_search-place.ensures.position
