use Rattle.nonstrict_cli.proofs.Asking.{read_within}
use Rattle.nonstrict_cli.proofs.laws.modules_within_the_limits_are_read.Goals as goal

pub returns : goal.returns
returns c = read_within
