use Rattle.wider_rules.proofs.Runs.{more_levels}
use Rattle.wider_rules.proofs.Settled.{settle_from}
use Rattle.wider_rules.proofs.laws.more_levels_leave_a_tree.Goals as goal

pub returns : goal.returns
returns c = more_levels
