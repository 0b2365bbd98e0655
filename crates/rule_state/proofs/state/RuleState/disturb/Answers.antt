use Rattle.std.proofs.Common.{[], ℕ, ap, sym, ◌∙◌}
use Rattle.report_rules.specs.TypeMap.{widened_at}
use Rattle.rule_state.proofs.SoundFacts.{none_given, same_at_hand, point_at_hand}
use Rattle.rule_state.proofs.WorkFacts.{work_mapped}
use Rattle.type_arena.specs.Term.{Term}
use Rattle.rule_state.specs.Work.{work_of}
use Rattle.rule_state.proofs.TableFacts.{known_then}
use Rattle.rule_state.proofs.state.RuleState.disturb.Goals as goal

pub invariant_of-self : goal.invariant_of-self
invariant_of-self c = record { at_home = c.args.self.now.at_home ∙ sym c.changed.ensures.grows.home; known = known_then c.args.self.now c.changed.new.self _ c.changed.ensures.grows; sound = same_at_hand c.args.self.now c.changed.new.self [] (none_given _ _) c.changed.ensures.grows }

pub invariant_of-self-2 : goal.invariant_of-self-2
invariant_of-self-2 c = record { at_home = c.args.self.now.at_home ∙ sym c.changed.ensures.grows.home; known = known_then c.args.self.now c.changed.new.self _ c.changed.ensures.grows; sound = point_at_hand c.args.self.now c.changed.new.self [] _ (none_given _ _) c.changed.ensures.grows c.in_ok-map.ensures.map }

pub returns : goal.returns
unfolding work_of
returns c =
    work_mapped c.args.self.now c.changed.new.self [] (record { map = c.in_ok-map.map; dead = c.args.self.now.point.dead }) (widened_at c.args.name) c.changed.ensures.grows
    (ap (λ (entry : ℕ → Term). record { dead = c.args.self.now.point.dead; entry = entry }) (λ i. λ n. c.in_ok-map.ensures.entries n i))
