use Rattle.std.proofs.Common.{[], ◌∷◌, sym, ◌∙◌}
use Rattle.rule_state.specs.Work.{work_of}
use Rattle.rule_state.proofs.SoundFacts.{two_given, same_at_hand, other_at_hand}
use Rattle.rule_state.proofs.WorkFacts.{work_valued}
use Rattle.rule_state.proofs.TableFacts.{known_then}
use Rattle.rule_state.proofs.state.RuleState.union_with.Goals as goal

pub invariant_of-self : goal.invariant_of-self
invariant_of-self c =
    let state = c.args.self.now in
    record {
      at_home = state.at_home ∙ sym c.union.ensures.grows.home;
      known = known_then state c.union.new.self _ c.union.ensures.grows;
      sound = same_at_hand state c.union.new.self (c.args.at ∷ state.value ∷ []) (two_given state.types state.outside.items c.args.at state.value c.requires state.sound.value_stands) c.union.ensures.grows;
    }

pub invariant_of-self-2 : goal.invariant_of-self-2
invariant_of-self-2 c =
    let state = c.args.self.now in
    record {
      at_home = state.at_home ∙ sym c.union.ensures.grows.home;
      known = known_then state c.union.new.self _ c.union.ensures.grows;
      sound = other_at_hand state c.union.new.self (c.args.at ∷ state.value ∷ []) c.in_ok-at.at (two_given state.types state.outside.items c.args.at state.value c.requires state.sound.value_stands) c.union.ensures.grows
          c.in_ok-at.ensures.there c.in_ok-at.ensures.made;
    }

pub returns-clause-work : goal.returns-clause-work
unfolding work_of
returns-clause-work c = work_valued c.args.self.now c.union.new.self (c.args.at ∷ c.args.self.now.value ∷ []) c.in_ok-at.at _ c.union.ensures.grows c.in_ok-at.ensures.term
