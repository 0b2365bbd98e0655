use Rattle.nonstrict_cli.proofs.Asking.{read_until_over}
use Rattle.nonstrict_cli.proofs.laws.modules_are_read_until_the_limit_on_bytes.Goals as goal

pub returns : goal.returns
returns c = read_until_over
