use Rattle.std.proofs.Common.{List, ap}
use Rattle.type_arena.specs.Term.{Term}
use Rattle.local_types.specs.Entries.{type_of}
use Rattle.rule_state.specs.Work.{work_of}
use Rattle.rule_state.proofs.StackFacts.{pushed_last}
use Rattle.rule_state.proofs.state.RuleState.hold.Goals as goal

pub returns : goal.returns
unfolding work_of
returns c = ap (λ (held : List Term). record (work_of c.args.self.now) { held = held }) (pushed_last (type_of c.args.self.now.types) c.args.self.now.held.items c.push.new.self.items c.args.self.now.value c.in_ok-push.ensures.items)
