use Rattle.std.proofs.Common.{◌≡◌, ℕ, Bool, List, ap, sym, ◌∙◌, subst}
use Rattle.std.specs.Prelude.{All, reverse}
use Rattle.std.proofs.lemmas.List.{reverse-reverse}
use Rattle.type_arena.specs.Term.{Term}
use Rattle.local_types.specs.Ends.{all_dead, joining}
use Rattle.local_types.specs.Entries.{IsMap}
use Rattle.local_types.specs.declared.node.Point.{Point}
use Rattle.report_rules.specs.TypeMap.{TypeMap}
use Rattle.rule_work.specs.Branches.{joined_from}
use Rattle.rule_state.specs.Work.{map_of, work_of}
use Rattle.rule_state.proofs.EndFacts.{joined_maps, ends_are_maps, without_ends_same, without_ends_other, work_joined}
use Rattle.rule_state.proofs.ListFacts.{all_reversed}
use Rattle.rule_state.proofs.StackFacts.{popped_no_list}
use Rattle.rule_state.proofs.TableFacts.{known_then}
use Rattle.rule_state.proofs.state.RuleState.join_ends.Goals as goal

pub joined-requires : goal.joined-requires
joined-requires c =
    let state = c.args.self.now in
    subst (All (λ (p : Point). IsMap state.types p.map)) (sym (c.as_slice.ensures.value ∙ c.reverse.ensures.items))
    (all_reversed (λ (p : Point). IsMap state.types p.map) c.in-Some.ends.items (ends_are_maps state c.pop.new.self.items c.pop.result c.in-Some.ends c.pop.ensures.items c.in-Some.is))

pub invariant_of-self : goal.invariant_of-self
invariant_of-self c = record { at_home = c.args.self.now.at_home ∙ sym c.joined.ensures.grows.home; known = known_then c.args.self.now c.joined.new.self _ c.joined.ensures.grows; sound = without_ends_same c.args.self.now c.joined.new.self c.pop.new.self.items c.pop.result c.pop.ensures.items c.joined.ensures.grows }

pub invariant_of-self-in-Some : goal.invariant_of-self-in-Some
invariant_of-self-in-Some c = record { at_home = c.args.self.now.at_home ∙ sym c.joined.ensures.grows.home; known = known_then c.args.self.now c.joined.new.self _ c.joined.ensures.grows; sound = without_ends_other c.args.self.now c.joined.new.self c.in_ok-point.point c.pop.new.self.items c.pop.result c.pop.ensures.items c.joined.ensures.grows c.in_ok-point.ensures.map }

pub returns-in_ok-point : goal.returns-in_ok-point
unfolding work_of
returns-in_ok-point c =
    let state = c.args.self.now in
    let shown : reverse c.as_slice.result.now ≡ c.in-Some.ends.items = ap reverse (c.as_slice.ensures.value ∙ c.reverse.ensures.items) ∙ reverse-reverse c.in-Some.ends.items in
    work_joined state c.joined.new.self c.in_ok-point.point c.pop.new.self.items c.pop.result c.in-Some.ends c.pop.ensures.items c.in-Some.is c.joined.ensures.grows
    (ap (λ (entry : ℕ → Term). record { dead = c.in_ok-point.point.dead; entry = entry }) (λ i. λ n. c.in_ok-point.ensures.entries n i)
    ∙ (ap (λ (dead : Bool). record { dead = dead; entry = joining state.types (reverse c.as_slice.result.now) }) c.in_ok-point.ensures.dead
    ∙ (ap (λ (ends : List Point). record { dead = all_dead ends; entry = joining state.types ends }) shown
    ∙ joined_maps state.types c.in-Some.ends.items)))

pub returns-in_default : goal.returns-in_default
unfolding work_of
returns-in_default c =
    let state = c.args.self.now in
    let none = popped_no_list (map_of state.types) (λ list. list.items) _ state.ends.items c.pop.new.self.items c.pop.result _ _ c.pop.ensures.items c.pop.ensures.cases state.ends.ok.0 c.in_default.is in
    ap (λ (ends : List (List TypeMap)). record (work_of state) { ends = ends }) none.1
    ∙ sym (ap (λ (ends : List (List TypeMap)). joined_from ends (record (work_of state) { ends = ends })) none.0)
