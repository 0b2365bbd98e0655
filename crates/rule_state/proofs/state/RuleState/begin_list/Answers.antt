use Rattle.std.proofs.Common.{◌∷◌, List, ap, sym, ◌∙◌, subst}
use Rattle.std.specs.Prelude.{All, map, reverse, is_ok}
use Rattle.std.proofs.lemmas.List.Elements.{All-nil}
use Rattle.type_arena.specs.Term.{Term}
use Rattle.local_types.specs.Entries.{type_of}
use Rattle.type_arena.specs.declared.node.TypeRef.{TypeRef}
use Rattle.rule_state.specs.Sound.{Stands}
use Rattle.rule_state.proofs.SoundFacts.{lists_in, ends_in, with_lists}
use Rattle.rule_state.specs.Work.{work_of}
use Rattle.rule_state.proofs.StackFacts.{pushed_list, all_pushed_or_not}
use Rattle.rule_state.proofs.state.RuleState.begin_list.Goals as goal

pub invariant_of-self : goal.invariant_of-self
invariant_of-self c =
    let stands = Stands c.args.self.now.types c.args.self.now.outside.items in
    let fresh = subst (All stands) (sym c.new.ensures.items) (All-nil stands) in
    record { at_home = c.args.self.now.at_home; known = c.args.self.now.known; sound = with_lists c.args.self.now.types c.args.self.now.outside.items c.args.self.now.value c.args.self.now.held.items (lists_in c.args.self.now) c.args.self.now.point c.args.self.now.saved.items (ends_in c.args.self.now) c.args.self.now.seen.items (map (λ list. list.items) c.push.new.self.items) c.args.self.now.sound (all_pushed_or_not (All stands) (λ list. list.items) c.args.self.now.lists.items c.push.new.self.items c.new.result (is_ok c.push.result) c.push.ensures.items c.args.self.now.sound.lists_stand fresh) }

pub returns : goal.returns
unfolding work_of
returns c =
    ap (λ (lists : List (List Term)). record (work_of c.args.self.now) { lists = lists })
    (pushed_list (type_of c.args.self.now.types) (λ list. list.items) c.args.self.now.lists.items c.push.new.self.items c.new.result c.in_ok-push.ensures.items
    ∙ ap (λ (items : List TypeRef). map (type_of c.args.self.now.types) items ∷ reverse (map (map (type_of c.args.self.now.types)) (map (λ list. list.items) c.args.self.now.lists.items))) c.new.ensures.items)
