use Rattle.std.proofs.Common.{◌≡◌, [], ◌∷◌, sym, ◌∙◌, subst, OnOk}
use Rattle.std.specs.Prelude.{All, map, is_ok}
use Rattle.std.proofs.lemmas.List.Elements.{All-head, All-tail}
use Rattle.rule_state.specs.Sound.{Stands}
use Rattle.rule_work.specs.Work.{Work}
use Rattle.rule_state.specs.Work.{work_of}
use Rattle.rule_state.proofs.ListFacts.{is_emptied, first_removed, sound_unlisted, nothing_taken, one_taken, no_list_taken}
use Rattle.rule_state.proofs.SoundFacts.{ends_in, with_value, with_lists}
use Rattle.rule_state.proofs.StackFacts.{all_popped, all_pushed_or_not}
use Rattle.rule_state.proofs.state.RuleState.take_first.Goals as goal

pub returns-then-is_empty : goal.returns-then-is_empty
unfolding work_of
returns-then-is_empty c =
    let state = c.args.self.now in
    let nothing : c.in-Some.list.items ≡ [] = is_emptied c.in-Some.list.items c.in-Some.list.len c.in-Some.list.ok.0 (sym c.is_empty.ensures ∙ c.if-is_empty.true) in
    subst (λ (work : Work). OnOk c.not_given.result (work_of c.not_given.new.self ≡ work))
    (nothing_taken state c.args.expanding c.pop.new.self.items c.push.new.self.items c.pop.result c.in-Some.list c.pop.ensures.items c.in-Some.is c.in_ok-push.ensures.items nothing)
    c.not_given.ensures

pub invariant_of-self-in-Some : goal.invariant_of-self-in-Some
invariant_of-self-in-Some c =
    let state = c.args.self.now in
    let stands = Stands state.types state.outside.items in
    let popped = all_popped (All stands) (λ list. list.items) state.lists.items c.pop.new.self.items c.pop.result c.in-Some.list c.pop.ensures.items c.in-Some.is state.sound.lists_stand in
    let first : c.in-Some.list.items ≡ c.remove-self.result ∷ c.remove-self.new.self.items = first_removed c.in-Some.list.items c.remove-self.new.self.items c.remove-self.result c.in-Some.list.len c.in-Some.list.ok.0 (sym c.is_empty.ensures ∙ c.if-is_empty.false) c.remove-self.ensures.value c.remove-self.ensures.items in
    let all : All stands (c.remove-self.result ∷ c.remove-self.new.self.items) = subst (All stands) first popped.1 in
    let lists : All (All stands) (map (λ list. list.items) c.push-in-Some.new.self.items) = all_pushed_or_not (All stands) (λ list. list.items) c.pop.new.self.items c.push-in-Some.new.self.items c.remove-self.new.self (is_ok c.push-in-Some.result) c.push-in-Some.ensures.items popped.0
    (All-tail stands c.remove-self.result c.remove-self.new.self.items all) in
    record {
      at_home = state.at_home;
      known = state.known;
      sound = with_lists state.types state.outside.items c.remove-self.result state.held.items (map (λ list. list.items) c.pop.new.self.items) state.point state.saved.items (ends_in state) state.seen.items (map (λ list. list.items) c.push-in-Some.new.self.items)
          (with_value state.types state.outside.items state.value state.held.items (map (λ list. list.items) c.pop.new.self.items) state.point state.saved.items (ends_in state) state.seen.items c.remove-self.result
          (sound_unlisted state c.pop.new.self.items c.pop.result c.pop.ensures.items) (All-head stands c.remove-self.result c.remove-self.new.self.items all)) lists;
    }

pub returns-in_ok-push-2 : goal.returns-in_ok-push-2
unfolding work_of
returns-in_ok-push-2 c =
    let first : c.in-Some.list.items ≡ c.remove-self.result ∷ c.remove-self.new.self.items = first_removed c.in-Some.list.items c.remove-self.new.self.items c.remove-self.result c.in-Some.list.len c.in-Some.list.ok.0 (sym c.is_empty.ensures ∙ c.if-is_empty.false) c.remove-self.ensures.value c.remove-self.ensures.items in
    one_taken c.args.self.now c.args.expanding c.pop.new.self.items c.push-in-Some.new.self.items c.pop.result c.in-Some.list c.remove-self.new.self c.remove-self.result c.pop.ensures.items c.in-Some.is c.in_ok-push-2.ensures.items first

pub returns-in_default : goal.returns-in_default
unfolding work_of
returns-in_default c = no_list_taken c.args.self.now c.args.expanding _ c.pop.new.self.items c.pop.result _ _ c.pop.ensures.items c.pop.ensures.cases c.args.self.now.lists.ok.0 c.in_default.is
