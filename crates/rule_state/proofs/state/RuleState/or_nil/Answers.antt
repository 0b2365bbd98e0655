use Rattle.std.proofs.Common.{[], ◌∷◌, ap, sym, ◌∙◌}
use Rattle.std.specs.Prelude.{All}
use Rattle.type_arena.specs.Term.{Term}
use Rattle.type_normal.specs.Kinds.{nil_type}
use Rattle.type_normal.specs.Operations.{union}
use Rattle.local_types.specs.Entries.{type_of}
use Rattle.local_types.proofs.GrowFacts.{type_stays}
use Rattle.rule_state.specs.Sound.{Stands}
use Rattle.rule_state.specs.Work.{work_of}
use Rattle.rule_state.proofs.SoundFacts.{none_given, two_given, stands_on, stands_made, same_at_hand, then_same, then_other, grown_twice}
use Rattle.rule_state.proofs.WorkFacts.{work_valued}
use Rattle.rule_state.proofs.TableFacts.{known_then, known_twice}
use Rattle.rule_state.proofs.state.RuleState.or_nil.Goals as goal

pub invariant_of-self : goal.invariant_of-self
invariant_of-self c =
    let state = c.args.self.now in
    record { at_home = state.at_home ∙ sym c.plain.ensures.grows.home; known = known_then state c.plain.new.self [] c.plain.ensures.grows; sound = same_at_hand state c.plain.new.self [] (none_given state.types state.outside.items) c.plain.ensures.grows }

pub invariant_of-self-in-Break-branch-2 : goal.invariant_of-self-in-Break-branch-2
invariant_of-self-in-Break-branch-2 c =
    let state = c.args.self.now in
    let t = c.plain.new.self in
    let outside = state.outside.items in
    let none = none_given state.types outside in
    let both : All (Stands t outside) (c.args.at ∷ c.in_ok-nil.nil ∷ []) = two_given t outside c.args.at c.in_ok-nil.nil (stands_on state.types t outside [] c.args.at c.plain.ensures.grows c.requires)
    (stands_made state.types t outside [] c.in_ok-nil.nil none c.plain.ensures.grows c.in_ok-nil.ensures.there c.in_ok-nil.ensures.made) in
    record {
      at_home = state.at_home ∙ (sym c.plain.ensures.grows.home ∙ sym c.union.ensures.grows.home);
      known = known_twice state t c.union.new.self [] _ c.plain.ensures.grows c.union.ensures.grows;
      sound = then_same state t c.union.new.self [] (c.args.at ∷ c.in_ok-nil.nil ∷ []) none c.plain.ensures.grows both c.union.ensures.grows;
    }

pub invariant_of-self-2 : goal.invariant_of-self-2
invariant_of-self-2 c =
    let state = c.args.self.now in
    let t = c.plain.new.self in
    let outside = state.outside.items in
    let none = none_given state.types outside in
    let both : All (Stands t outside) (c.args.at ∷ c.in_ok-nil.nil ∷ []) = two_given t outside c.args.at c.in_ok-nil.nil (stands_on state.types t outside [] c.args.at c.plain.ensures.grows c.requires)
    (stands_made state.types t outside [] c.in_ok-nil.nil none c.plain.ensures.grows c.in_ok-nil.ensures.there c.in_ok-nil.ensures.made) in
    record {
      at_home = state.at_home ∙ (sym c.plain.ensures.grows.home ∙ sym c.union.ensures.grows.home);
      known = known_twice state t c.union.new.self [] _ c.plain.ensures.grows c.union.ensures.grows;
      sound = then_other state t c.union.new.self [] (c.args.at ∷ c.in_ok-nil.nil ∷ []) c.in_ok-both.both none c.plain.ensures.grows both c.union.ensures.grows c.in_ok-both.ensures.there c.in_ok-both.ensures.made;
    }

pub returns : goal.returns
unfolding work_of
returns c =
    let state = c.args.self.now in
    let t = c.plain.new.self in
    let outside = state.outside.items in
    let none = none_given state.types outside in
    let both : All (Stands t outside) (c.args.at ∷ c.in_ok-nil.nil ∷ []) = two_given t outside c.args.at c.in_ok-nil.nil (stands_on state.types t outside [] c.args.at c.plain.ensures.grows c.requires)
    (stands_made state.types t outside [] c.in_ok-nil.nil none c.plain.ensures.grows c.in_ok-nil.ensures.there c.in_ok-nil.ensures.made) in
    work_valued state c.union.new.self outside c.in_ok-both.both (union (type_of state.types c.args.at) nil_type)
    (grown_twice state.types t c.union.new.self outside [] (c.args.at ∷ c.in_ok-nil.nil ∷ []) none c.plain.ensures.grows both c.union.ensures.grows)
    (c.in_ok-both.ensures.term
    ∙ (ap (λ (type : Term). union type (type_of t c.in_ok-nil.nil)) (type_stays state.types t [] c.plain.ensures.grows c.args.at c.requires.there)
    ∙ ap (union (type_of state.types c.args.at)) c.in_ok-nil.ensures.term))
