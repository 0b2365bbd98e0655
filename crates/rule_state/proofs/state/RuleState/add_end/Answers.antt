use Rattle.std.proofs.Common.{◌≡◌, [], ◌∷◌, ◌++◌, List, ap, sym, ◌∙◌, subst}
use Rattle.std.specs.Prelude.{All, map, reverse, is_ok}
use Rattle.std.proofs.lemmas.List.{map-append}
use Rattle.std.proofs.lemmas.List.Elements.{All-push}
use Rattle.report_rules.specs.TypeMap.{TypeMap}
use Rattle.local_types.specs.Entries.{IsMap}
use Rattle.local_types.specs.declared.node.Point.{Point}
use Rattle.rule_state.proofs.SoundFacts.{lists_in, ends_in, with_ends}
use Rattle.rule_work.specs.Moves.{ended_in}
use Rattle.rule_state.specs.Work.{map_of, work_of}
use Rattle.rule_state.proofs.StackFacts.{pushed_list, popped_list, popped_no_list, all_popped, all_pushed_or_not}
use Rattle.rule_state.proofs.state.RuleState.add_end.Goals as goal

pub invariant_of-self : goal.invariant_of-self
invariant_of-self c =
    let popped = all_popped (All (λ (p : Point). IsMap c.args.self.now.types p.map)) (λ list. list.items) c.args.self.now.ends.items c.pop.new.self.items c.pop.result c.in-Some.list c.pop.ensures.items c.in-Some.is c.args.self.now.sound.ends_stand in
    record { at_home = c.args.self.now.at_home; known = c.args.self.now.known; sound = with_ends c.args.self.now.types c.args.self.now.outside.items c.args.self.now.value c.args.self.now.held.items (lists_in c.args.self.now) c.args.self.now.point c.args.self.now.saved.items (ends_in c.args.self.now) c.args.self.now.seen.items (map (λ list. list.items) c.pop.new.self.items) c.args.self.now.sound (popped.0) }

pub invariant_of-self-in-Some : goal.invariant_of-self-in-Some
invariant_of-self-in-Some c =
    let stands : Point → Type 0 = λ p. IsMap c.args.self.now.types p.map in
    let popped = all_popped (All stands) (λ list. list.items) c.args.self.now.ends.items c.pop.new.self.items c.pop.result c.in-Some.list c.pop.ensures.items c.in-Some.is c.args.self.now.sound.ends_stand in
    let longer : All stands c.push.new.self.items = subst (All stands) (sym c.in_ok-push.ensures.items) (All-push stands c.in-Some.list.items c.args.self.now.point popped.1 c.args.self.now.sound.point_stands) in
    record { at_home = c.args.self.now.at_home; known = c.args.self.now.known; sound = with_ends c.args.self.now.types c.args.self.now.outside.items c.args.self.now.value c.args.self.now.held.items (lists_in c.args.self.now) c.args.self.now.point c.args.self.now.saved.items (ends_in c.args.self.now) c.args.self.now.seen.items (map (λ list. list.items) c.push-in-Some.new.self.items) c.args.self.now.sound (all_pushed_or_not (All stands) (λ list. list.items) c.pop.new.self.items c.push-in-Some.new.self.items c.push.new.self (is_ok c.push-in-Some.result) c.push-in-Some.ensures.items popped.0 longer) }

pub returns-in_ok-push-2 : goal.returns-in_ok-push-2
unfolding work_of
returns-in_ok-push-2 c =
    let state = c.args.self.now in
    let more : map (map_of state.types) c.push.new.self.items ≡ map (map_of state.types) c.in-Some.list.items ++ map_of state.types state.point ∷ []
    = ap (map (map_of state.types)) c.in_ok-push.ensures.items ∙ map-append (map_of state.types) c.in-Some.list.items (state.point ∷ []) in
    ap (λ (lists : List (List TypeMap)). record (work_of state) { ends = lists })
    (pushed_list (map_of state.types) (λ list. list.items) c.pop.new.self.items c.push-in-Some.new.self.items c.push.new.self c.in_ok-push-2.ensures.items
    ∙ ap (λ (list : List TypeMap). list ∷ reverse (map (map (map_of state.types)) (map (λ list. list.items) c.pop.new.self.items))) more)
    ∙ ap (λ (lists : List (List TypeMap)). ended_in lists (work_of state)) (sym (popped_list (map_of state.types) (λ list. list.items) state.ends.items c.pop.new.self.items c.pop.result c.in-Some.list c.pop.ensures.items c.in-Some.is))

pub returns-in_default : goal.returns-in_default
unfolding work_of
returns-in_default c =
    let state = c.args.self.now in
    let none = popped_no_list (map_of state.types) (λ list. list.items) _ state.ends.items c.pop.new.self.items c.pop.result _ _ c.pop.ensures.items c.pop.ensures.cases state.ends.ok.0 c.in_default.is in
    ap (λ (lists : List (List TypeMap)). record (work_of state) { ends = lists }) none.1
    ∙ sym (ap (λ (lists : List (List TypeMap)). ended_in lists (record (work_of state) { ends = lists })) none.0)
