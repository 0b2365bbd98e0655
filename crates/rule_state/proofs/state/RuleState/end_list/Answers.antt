use Rattle.std.proofs.Common.{List, ap}
use Rattle.std.specs.Prelude.{All, map}
use Rattle.type_arena.specs.Term.{Term}
use Rattle.local_types.specs.Entries.{type_of}
use Rattle.rule_state.specs.Sound.{Stands}
use Rattle.rule_state.proofs.SoundFacts.{lists_in, ends_in, with_lists}
use Rattle.rule_state.specs.Work.{work_of}
use Rattle.rule_state.proofs.StackFacts.{list_popped, all_rest}
use Rattle.rule_state.proofs.state.RuleState.end_list.Goals as goal

pub invariant_of-self : goal.invariant_of-self
invariant_of-self c = record { at_home = c.args.self.now.at_home; known = c.args.self.now.known; sound = with_lists c.args.self.now.types c.args.self.now.outside.items c.args.self.now.value c.args.self.now.held.items (lists_in c.args.self.now) c.args.self.now.point c.args.self.now.saved.items (ends_in c.args.self.now) c.args.self.now.seen.items (map (λ list. list.items) c.pop-list.new.self.items) c.args.self.now.sound (all_rest (All (Stands c.args.self.now.types c.args.self.now.outside.items)) (λ list. list.items) c.args.self.now.lists.items c.pop-list.new.self.items c.pop-list.result c.pop-list.ensures.items c.args.self.now.sound.lists_stand) }

pub returns : goal.returns
unfolding work_of
returns c =
    let state = c.args.self.now in
    ap (λ (lists : List (List Term)). record (work_of state) { lists = lists })
    (list_popped (type_of state.types) (λ list. list.items) _ state.lists.items c.pop-list.new.self.items c.pop-list.result _ _ c.pop-list.ensures.items c.pop-list.ensures.cases state.lists.ok.0)
