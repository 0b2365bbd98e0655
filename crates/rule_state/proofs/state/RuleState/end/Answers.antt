use Rattle.std.proofs.Common.{refl}
use Rattle.rule_state.specs.Work.{work_of}
use Rattle.rule_state.proofs.state.RuleState.end.Goals as goal

pub returns : goal.returns
unfolding work_of
returns c = refl
