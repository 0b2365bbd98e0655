use Rattle.std.proofs.Common.{[], ℕ, ap, sym, ◌∙◌}
use Rattle.type_arena.specs.Term.{Term}
use Rattle.report_rules.specs.Forward.{after_part}
use Rattle.std.specs.Prelude.{Bool, true}
use Rattle.rule_work.specs.Moves.{mapped}
use Rattle.rule_state.proofs.SoundFacts.{none_given, same_at_hand, point_at_hand}
use Rattle.rule_state.proofs.WorkFacts.{work_mapped}
use Rattle.rule_state.specs.Work.{work_of}
use Rattle.rule_state.proofs.TableFacts.{known_then}
use Rattle.rule_state.proofs.state.RuleState.after.Goals as goal

pub invariant_of-self : goal.invariant_of-self
invariant_of-self c = record { at_home = c.args.self.now.at_home ∙ sym c.changed.ensures.grows.home; known = known_then c.args.self.now c.changed.new.self _ c.changed.ensures.grows; sound = same_at_hand c.args.self.now c.changed.new.self [] (none_given _ _) c.changed.ensures.grows }

pub invariant_of-self-then-has_effects : goal.invariant_of-self-then-has_effects
invariant_of-self-then-has_effects c = record { at_home = c.args.self.now.at_home ∙ sym c.changed.ensures.grows.home; known = known_then c.args.self.now c.changed.new.self _ c.changed.ensures.grows; sound = point_at_hand c.args.self.now c.changed.new.self [] _ (none_given _ _) c.changed.ensures.grows c.in_ok-map.ensures.map }

pub returns-in_ok-map : goal.returns-in_ok-map
unfolding work_of
returns-in_ok-map c =
    work_mapped c.args.self.now c.changed.new.self [] (record { map = c.in_ok-map.map; dead = c.args.self.now.point.dead }) (after_part true) c.changed.ensures.grows
    (ap (λ (entry : ℕ → Term). record { dead = c.args.self.now.point.dead; entry = entry }) (λ i. λ n. c.in_ok-map.ensures.entries n i))
    ∙ ap (λ (b : Bool). mapped (after_part b) (work_of c.args.self.now)) (sym c.if-has_effects.true)
