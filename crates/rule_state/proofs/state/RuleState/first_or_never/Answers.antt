use Rattle.std.proofs.Common.{◌≡◌, [], List, ap, sym, ◌∙◌, subst, OnOk}
use Rattle.std.specs.Prelude.{map, reverse, slice_get}
use Rattle.std.specs.Option.{option_copied}
use Rattle.type_arena.specs.Term.{Term}
use Rattle.type_arena.specs.declared.node.TypeRef.{TypeRef}
use Rattle.local_types.specs.Entries.{type_of}
use Rattle.report_rules.specs.Forward.{first_or_never as first_type}
use Rattle.rule_state.specs.Sound.{Stands}
use Rattle.rule_work.specs.Work.{Work}
use Rattle.rule_state.specs.Work.{work_of}
use Rattle.rule_state.proofs.ListFacts.{first_stands, no_first, some_first, sound_unlisted, list_stands, used_is, used_none}
use Rattle.rule_state.proofs.SoundFacts.{ends_in, with_value}
use Rattle.rule_state.proofs.state.RuleState.first_or_never.Goals as goal

pub invariant_of-self : goal.invariant_of-self
invariant_of-self c = record { at_home = c.args.self.now.at_home; known = c.args.self.now.known; sound = sound_unlisted c.args.self.now c.pop.new.self.items c.pop.result c.pop.ensures.items }

pub returns-in-None : goal.returns-in-None
unfolding work_of
returns-in-None c =
    let state = c.args.self.now in
    let nothing : map (type_of state.types) c.in-Some.list.items ≡ [] = ap (map (type_of state.types)) (no_first c.in-Some.list.items _ (c.first.ensures.value ∙ ap (λ (xs : List TypeRef). slice_get xs 0) c.deref.ensures.value) (ap option_copied c.in-None.is)) in
    subst (λ (work : Work). OnOk c.plain.result (work_of c.plain.new.self ≡ work))
    (sym (ap (λ (types : List Term). record (work_of state) { value = first_type types; lists = reverse (map (map (type_of state.types)) (map (λ list. list.items) c.pop.new.self.items)) }) nothing)
    ∙ used_is (λ types value. first_type types) state c.pop.new.self.items c.pop.result c.in-Some.list c.pop.ensures.items c.in-Some.is)
    c.plain.ensures

pub invariant_of-self-in-Some-first : goal.invariant_of-self-in-Some-first
invariant_of-self-in-Some-first c =
    let state = c.args.self.now in
    record {
      at_home = state.at_home;
      known = state.known;
      sound = with_value state.types state.outside.items state.value state.held.items (map (λ list. list.items) c.pop.new.self.items) state.point state.saved.items (ends_in state) state.seen.items c.in-Some-first.at.now
          (sound_unlisted state c.pop.new.self.items c.pop.result c.pop.ensures.items)
          (first_stands (Stands state.types state.outside.items) c.in-Some.list.items c.in-Some-first.at.now (c.in-Some-first.ensures.value ∙ ap (λ (xs : List TypeRef). slice_get xs 0) c.deref.ensures.value) (list_stands state c.pop.new.self.items c.pop.result c.in-Some.list c.pop.ensures.items c.in-Some.is));
    }

pub returns-in-Some-first : goal.returns-in-Some-first
unfolding work_of
returns-in-Some-first c =
    let state = c.args.self.now in
    ap (λ (type : Term). record (work_of state) { value = type; lists = reverse (map (map (type_of state.types)) (map (λ list. list.items) c.pop.new.self.items)) })
    (some_first state.types c.in-Some.list.items c.in-Some-first.at.now (c.in-Some-first.ensures.value ∙ ap (λ (xs : List TypeRef). slice_get xs 0) c.deref.ensures.value))
    ∙ used_is (λ types value. first_type types) state c.pop.new.self.items c.pop.result c.in-Some.list c.pop.ensures.items c.in-Some.is

pub returns-in_default : goal.returns-in_default
unfolding work_of
returns-in_default c =
    used_none (λ types value. first_type types) _ c.args.self.now c.pop.new.self.items c.pop.result _ _ c.pop.ensures.items c.pop.ensures.cases c.args.self.now.lists.ok.0 c.in_default.is
