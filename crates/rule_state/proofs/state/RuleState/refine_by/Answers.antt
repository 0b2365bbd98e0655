use Rattle.std.proofs.Common.{ℕ, Bool, ap, sym, ◌∙◌}
use Rattle.std.specs.Prelude.{◌||◌}
use Rattle.type_arena.specs.Term.{Term}
use Rattle.local_types.specs.Entries.{type_of, entry_of}
use Rattle.local_types.specs.Locals.{said_meant, refs_said, refining}
use Rattle.rule_state.proofs.SoundFacts.{same_at_hand, point_at_hand}
use Rattle.rule_state.proofs.TableFacts.{known_then}
use Rattle.rule_state.proofs.WorkFacts.{work_mapped}
use Rattle.rule_state.specs.Conditions.{refined_by_said}
use Rattle.rule_state.specs.Work.{work_of}
use Rattle.rule_state.proofs.state.RuleState.refine_by.Goals as goal

pub invariant_of-self : goal.invariant_of-self
invariant_of-self c = record { at_home = c.args.self.now.at_home ∙ sym c.refined.ensures.grows.home; known = known_then c.args.self.now c.refined.new.self _ c.refined.ensures.grows; sound = same_at_hand c.args.self.now c.refined.new.self (refs_said c.args.said.now) c.requires c.refined.ensures.grows }

pub invariant_of-self-2 : goal.invariant_of-self-2
invariant_of-self-2 c = record { at_home = c.args.self.now.at_home ∙ sym c.refined.ensures.grows.home; known = known_then c.args.self.now c.refined.new.self _ c.refined.ensures.grows; sound = point_at_hand c.args.self.now c.refined.new.self (refs_said c.args.said.now) _ c.requires c.refined.ensures.grows c.in_ok-refined.ensures.map }

pub returns : goal.returns
unfolding work_of
returns c =
    let state = c.args.self.now in
    let said = said_meant (type_of state.types) c.args.said.now in
    work_mapped state c.refined.new.self (refs_said c.args.said.now) (record { map = c.in_ok-refined.refined.map; dead = state.point.dead || c.in_ok-refined.refined.empty }) (refined_by_said said) c.refined.ensures.grows
    (ap (λ (entry : ℕ → Term). record { dead = state.point.dead || c.in_ok-refined.refined.empty; entry = entry }) (λ i. λ n. c.in_ok-refined.ensures.entries n i)
    ∙ ap (λ (b : Bool). record { dead = state.point.dead || b; entry = refining said (entry_of state.types state.point.map) }) c.in_ok-refined.ensures.empty)
