use Rattle.std.proofs.Common.{[], ◌∷◌, sym, ◌∙◌}
use Rattle.rule_state.specs.Work.{work_of}
use Rattle.rule_state.proofs.SoundFacts.{one_given, same_at_hand, other_at_hand}
use Rattle.rule_state.proofs.WorkFacts.{work_valued}
use Rattle.rule_state.proofs.TableFacts.{known_then}
use Rattle.rule_state.proofs.state.RuleState.cut_up.Goals as goal

pub invariant_of-self : goal.invariant_of-self
invariant_of-self c = record { at_home = c.args.self.now.at_home ∙ sym c.cut_up.ensures.grows.home; known = known_then c.args.self.now c.cut_up.new.self _ c.cut_up.ensures.grows; sound = same_at_hand c.args.self.now c.cut_up.new.self (c.args.self.now.value ∷ []) (one_given _ _ c.args.self.now.value c.args.self.now.sound.value_stands) c.cut_up.ensures.grows }

pub invariant_of-self-2 : goal.invariant_of-self-2
invariant_of-self-2 c = record { at_home = c.args.self.now.at_home ∙ sym c.cut_up.ensures.grows.home; known = known_then c.args.self.now c.cut_up.new.self _ c.cut_up.ensures.grows; sound = other_at_hand c.args.self.now c.cut_up.new.self (c.args.self.now.value ∷ []) c.in_ok-at.at (one_given _ _ c.args.self.now.value c.args.self.now.sound.value_stands) c.cut_up.ensures.grows c.in_ok-at.ensures.there c.in_ok-at.ensures.made }

pub returns : goal.returns
unfolding work_of
returns c = work_valued c.args.self.now c.cut_up.new.self (c.args.self.now.value ∷ []) c.in_ok-at.at _ c.cut_up.ensures.grows c.in_ok-at.ensures.term
