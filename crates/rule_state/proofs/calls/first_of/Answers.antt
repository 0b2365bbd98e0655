use Rattle.rule_state.proofs.CallFacts.{first_in}
use Rattle.rule_state.proofs.calls.first_of.Goals as goal

pub returns-in-Some-clause-among : goal.returns-in-Some-clause-among
returns-in-Some-clause-among c = first_in c.args.sig.now c.as_slice.result.now c.in-Some.at.now c.as_slice.ensures c.in-Some.ensures.value
