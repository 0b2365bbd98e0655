use Rattle.std.proofs.Common.{List, ap, sym, ◌∙◌, subst}
use Rattle.std.specs.Prelude.{All, false, IsTrue}
use Rattle.std.proofs.lemmas.List.Elements.{All-weaker}
use Rattle.type_arena.specs.Store.{has}
use Rattle.type_arena.specs.Term.{Term}
use Rattle.type_arena.specs.declared.node.TypeRef.{TypeRef}
use Rattle.type_normal.specs.Kinds.{row_type}
use Rattle.local_types.specs.Entries.{arenas_of}
use Rattle.local_types.specs.Named.{fields_named, types_listed}
use Rattle.rule_state.specs.Sound.{Stands}
use Rattle.rule_state.specs.Work.{work_of}
use Rattle.rule_state.proofs.ListFacts.{listed_reversed, all_reversed, list_stands, unlisted_same, unlisted_other, used_none, work_used}
use Rattle.rule_state.proofs.TableFacts.{known_then}
use Rattle.rule_state.proofs.state.RuleState.row.Goals as goal

pub row_of-requires : goal.row_of-requires
row_of-requires c =
    let state = c.args.self.now in
    subst (All (λ (at : TypeRef). IsTrue (has (arenas_of state.types) at))) (sym (c.as_slice.ensures.value ∙ c.reverse.ensures.items))
    (all_reversed (λ (at : TypeRef). IsTrue (has (arenas_of state.types) at)) c.in-Some.types.items
    (All-weaker (Stands state.types state.outside.items) (λ at. IsTrue (has (arenas_of state.types) at)) (λ at stands. stands.there) c.in-Some.types.items (list_stands state c.pop.new.self.items c.pop.result c.in-Some.types c.pop.ensures.items c.in-Some.is)))

pub invariant_of-self : goal.invariant_of-self
invariant_of-self c =
    let state = c.args.self.now in
    let given : All (Stands state.types state.outside.items) c.as_slice.result.now = subst (All (Stands state.types state.outside.items)) (sym (c.as_slice.ensures.value ∙ c.reverse.ensures.items))
    (all_reversed (Stands state.types state.outside.items) c.in-Some.types.items (list_stands state c.pop.new.self.items c.pop.result c.in-Some.types c.pop.ensures.items c.in-Some.is)) in
    record { at_home = state.at_home ∙ sym c.row_of.ensures.grows.home; known = known_then state c.row_of.new.self _ c.row_of.ensures.grows; sound = unlisted_same state c.row_of.new.self c.as_slice.result.now c.pop.new.self.items c.pop.result c.pop.ensures.items given c.row_of.ensures.grows }

pub invariant_of-self-in-Some : goal.invariant_of-self-in-Some
invariant_of-self-in-Some c =
    let state = c.args.self.now in
    let given : All (Stands state.types state.outside.items) c.as_slice.result.now = subst (All (Stands state.types state.outside.items)) (sym (c.as_slice.ensures.value ∙ c.reverse.ensures.items))
    (all_reversed (Stands state.types state.outside.items) c.in-Some.types.items (list_stands state c.pop.new.self.items c.pop.result c.in-Some.types c.pop.ensures.items c.in-Some.is)) in
    record { at_home = state.at_home ∙ sym c.row_of.ensures.grows.home; known = known_then state c.row_of.new.self _ c.row_of.ensures.grows; sound = unlisted_other state c.row_of.new.self c.as_slice.result.now c.in_ok-at.at c.pop.new.self.items c.pop.result c.pop.ensures.items given c.row_of.ensures.grows c.in_ok-at.ensures.there c.in_ok-at.ensures.made }

pub returns-in_ok-at : goal.returns-in_ok-at
unfolding work_of
returns-in_ok-at c =
    let state = c.args.self.now in
    work_used (λ types value. row_type false (fields_named c.args.names.items types)) state c.row_of.new.self c.as_slice.result.now c.in_ok-at.at c.pop.new.self.items c.pop.result c.in-Some.types c.pop.ensures.items c.in-Some.is c.row_of.ensures.grows
    (c.in_ok-at.ensures.term
    ∙ ap (λ (types : List Term). row_type false (fields_named c.args.names.items types)) (ap (types_listed state.types) (c.as_slice.ensures.value ∙ c.reverse.ensures.items) ∙ listed_reversed state.types c.in-Some.types.items))

pub returns-in_default : goal.returns-in_default
unfolding work_of
returns-in_default c =
    used_none (λ types value. row_type false (fields_named c.args.names.items types)) _ c.args.self.now c.pop.new.self.items c.pop.result _ _ c.pop.ensures.items c.pop.ensures.cases c.args.self.now.lists.ok.0 c.in_default.is
