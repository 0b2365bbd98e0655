use Rattle.guard_truths.proofs.Conditions.{guards_hold}
use Rattle.guard_truths.proofs.laws.conditions_say_what_locals_hold.Goals as goal

pub returns : goal.returns
returns c = guards_hold
