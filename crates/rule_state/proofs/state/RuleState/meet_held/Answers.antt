use Rattle.std.proofs.Common.{[], ◌∷◌, List, ap, sym, ◌∙◌}
use Rattle.type_arena.specs.Term.{Term}
use Rattle.local_types.specs.Entries.{type_of}
use Rattle.rule_work.specs.Moves.{made_from}
use Rattle.rule_state.specs.Work.{work_of}
use Rattle.type_normal.specs.Operations.{meet}
use Rattle.rule_state.proofs.SoundFacts.{popped_same, popped_other, both_given}
use Rattle.rule_state.proofs.StackFacts.{popped_nothing}
use Rattle.rule_state.proofs.WorkFacts.{work_made}
use Rattle.rule_state.proofs.TableFacts.{known_then}
use Rattle.rule_state.proofs.state.RuleState.meet_held.Goals as goal

pub invariant_of-self : goal.invariant_of-self
invariant_of-self c = record {
  at_home = c.args.self.now.at_home ∙ sym c.meet.ensures.grows.home;
  known = known_then c.args.self.now c.meet.new.self _ c.meet.ensures.grows;
  sound = popped_same c.args.self.now c.meet.new.self (c.in-Some.held ∷ c.args.self.now.value ∷ []) c.pop.new.self.items c.pop.result c.in-Some.held c.pop.ensures.items c.in-Some.is
      (both_given c.args.self.now c.pop.new.self.items c.pop.result c.in-Some.held c.pop.ensures.items c.in-Some.is) c.meet.ensures.grows;
}

pub invariant_of-self-in-Some : goal.invariant_of-self-in-Some
invariant_of-self-in-Some c = record {
  at_home = c.args.self.now.at_home ∙ sym c.meet.ensures.grows.home;
  known = known_then c.args.self.now c.meet.new.self _ c.meet.ensures.grows;
  sound = popped_other c.args.self.now c.meet.new.self (c.in-Some.held ∷ c.args.self.now.value ∷ []) c.pop.new.self.items c.pop.result c.in-Some.held c.in_ok-at.at c.pop.ensures.items c.in-Some.is
      (both_given c.args.self.now c.pop.new.self.items c.pop.result c.in-Some.held c.pop.ensures.items c.in-Some.is) c.meet.ensures.grows c.in_ok-at.ensures.there c.in_ok-at.ensures.made;
}

pub returns-in_ok-at : goal.returns-in_ok-at
unfolding work_of
returns-in_ok-at c =
    work_made c.args.self.now c.meet.new.self (c.in-Some.held ∷ c.args.self.now.value ∷ []) c.pop.new.self.items c.pop.result c.in-Some.held c.in_ok-at.at meet c.pop.ensures.items c.in-Some.is c.meet.ensures.grows c.in_ok-at.ensures.term

pub returns-in_default : goal.returns-in_default
unfolding work_of
returns-in_default c =
    let none = popped_nothing (type_of c.args.self.now.types) _ c.args.self.now.held.items c.pop.new.self.items c.pop.result _ _ c.pop.ensures.items c.pop.ensures.cases c.args.self.now.held.ok.0 c.in_default.is in
    ap (λ (held : List Term). record (work_of c.args.self.now) { held = held }) none.1
    ∙ sym (ap (λ (held : List Term). made_from meet held (record (work_of c.args.self.now) { held = held })) none.0)
