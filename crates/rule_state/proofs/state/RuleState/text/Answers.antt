use Rattle.std.proofs.Common.{[], sym, ◌∙◌}
use Rattle.rule_state.specs.Work.{work_of}
use Rattle.rule_state.proofs.SoundFacts.{none_given, same_at_hand, other_at_hand}
use Rattle.rule_state.proofs.WorkFacts.{work_valued}
use Rattle.rule_state.proofs.TableFacts.{known_then}
use Rattle.rule_state.proofs.state.RuleState.text.Goals as goal

pub invariant_of-self : goal.invariant_of-self
invariant_of-self c = record { at_home = c.args.self.now.at_home ∙ sym c.text.ensures.grows.home; known = known_then c.args.self.now c.text.new.self _ c.text.ensures.grows; sound = same_at_hand c.args.self.now c.text.new.self [] (none_given _ _) c.text.ensures.grows }

pub invariant_of-self-2 : goal.invariant_of-self-2
invariant_of-self-2 c = record { at_home = c.args.self.now.at_home ∙ sym c.text.ensures.grows.home; known = known_then c.args.self.now c.text.new.self _ c.text.ensures.grows; sound = other_at_hand c.args.self.now c.text.new.self [] c.in_ok-at.at (none_given _ _) c.text.ensures.grows c.in_ok-at.ensures.there c.in_ok-at.ensures.made }

pub returns : goal.returns
unfolding work_of
returns c = work_valued c.args.self.now c.text.new.self [] c.in_ok-at.at _ c.text.ensures.grows c.in_ok-at.ensures.term
