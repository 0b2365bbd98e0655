use Rattle.std.proofs.Common.{ap, sym}
use Rattle.local_types.specs.Entries.{type_of}
use Rattle.rule_work.specs.Moves.{valued}
use Rattle.rule_state.specs.Calls.{given_type}
use Rattle.rule_state.specs.Work.{work_of}
use Rattle.rule_state.specs.declared.calls.Gives.{Gives}
use Rattle.rule_state.proofs.state.RuleState.given.Goals as goal

pub returns-in-Exactly : goal.returns-in-Exactly
unfolding work_of
returns-in-Exactly c =
    let state = c.args.self.now in
    ap (λ (gives : Gives). valued (given_type (type_of state.types) gives (type_of state.types state.value)) (work_of state)) (sym c.in-Exactly.is)
