use Rattle.std.proofs.Common.{◌∙◌}
use Rattle.local_types.specs.Entries.{type_of}
use Rattle.rule_state.specs.Work.{work_of}
use Rattle.rule_state.proofs.CallFacts.{work_called, none_called}
use Rattle.rule_state.proofs.state.RuleState.call.Goals as goal

pub returns-in_ok-given : goal.returns-in_ok-given
unfolding work_of
returns-in_ok-given c =
    let state = c.args.self.now in
    c.in_ok-given.ensures
    ∙ work_called state c.args.id.0 c.pop.new.self.items c.pop.result c.in-Some.callee _ c.pop.ensures.items c.in-Some.is (c.gives_at-gives.ensures.result (type_of state.types state.value))

pub returns-in_default : goal.returns-in_default
unfolding work_of
returns-in_default c = none_called c.args.self.now c.args.id.0 _ c.pop.new.self.items c.pop.result _ _ c.pop.ensures.items c.pop.ensures.cases c.args.self.now.held.ok.0 c.in_default.is
