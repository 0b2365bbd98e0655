use Rattle.std.proofs.Common.{◌∙◌}
use Rattle.source_files.proofs.PathOrder.{found}
use Rattle.source_files.proofs.names.is_among.Goals as goal

pub returns : goal.returns
returns c = c.is_ok.ensures.value ∙ found c.args.paths.now c.args.path.now c.binary_search-place.result c.requires c.binary_search-place.ensures.bound c.binary_search-place.ensures.position
