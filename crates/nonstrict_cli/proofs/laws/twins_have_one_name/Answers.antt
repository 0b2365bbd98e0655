use Rattle.nonstrict_cli.proofs.Names.{twins}
use Rattle.nonstrict_cli.proofs.laws.twins_have_one_name.Goals as goal

pub returns : goal.returns
returns c = twins
