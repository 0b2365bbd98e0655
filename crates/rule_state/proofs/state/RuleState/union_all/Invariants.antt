use Rattle.std.proofs.Common.{length}
use Rattle.rule_state.proofs.UnionFacts.{UnionLeft}
use Rattle.rule_state.proofs.state.RuleState.union_all.Given as goal

abbrev pub invariant-loop-next : goal.invariant-loop-next
invariant-loop-next l = UnionLeft l.initial.self l.self l.initial.list.items l.list.items

abbrev pub decreases-loop-next : goal.decreases-loop-next
decreases-loop-next l = length l.list.items
