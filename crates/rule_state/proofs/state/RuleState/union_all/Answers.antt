use Rattle.std.proofs.Common.{refl}
use Rattle.rule_state.proofs.UnionFacts.{last_stands, one_made}
use Rattle.rule_state.proofs.state.RuleState.union_all.Goals as goal

pub loop-next-init : goal.loop-next-init
loop-next-init c = record { stand = c.requires; work = refl }

pub union_with-requires : goal.union_with-requires
union_with-requires c = last_stands c.args.self.now c.loop-next.self c.args.list.items c.loop-next.list.items c.pop.new.self.items c.pop.result c.in-Some.next c.pop.ensures.items c.in-Some.is c.loop-next.invariant

pub loop-next-preserved : goal.loop-next-preserved
loop-next-preserved c =
    one_made c.args.self.now c.loop-next.self c.union_with.new.self c.args.list.items c.loop-next.list.items c.pop.new.self.items c.pop.result c.in-Some.next c.pop.ensures.items c.in-Some.is c.loop-next.invariant c.in_ok-union_with.ensures.work
    c.union_with.ensures.stands c.union_with.ensures.means
