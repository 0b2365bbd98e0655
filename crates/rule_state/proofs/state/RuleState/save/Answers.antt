use Rattle.std.proofs.Common.{List, ap}
use Rattle.report_rules.specs.TypeMap.{TypeMap}
use Rattle.rule_state.specs.Work.{map_of, work_of}
use Rattle.rule_state.proofs.StackFacts.{pushed_last}
use Rattle.rule_state.proofs.state.RuleState.save.Goals as goal

pub returns : goal.returns
unfolding work_of
returns c = ap (λ (saved : List TypeMap). record (work_of c.args.self.now) { saved = saved }) (pushed_last (map_of c.args.self.now.types) c.args.self.now.saved.items c.push.new.self.items c.args.self.now.point c.in_ok-push.ensures.items)
