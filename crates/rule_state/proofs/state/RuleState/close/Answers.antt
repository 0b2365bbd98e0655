use Rattle.std.proofs.Common.{◌≡◌, ◌<◌, ◌≤◌, [], ◌∷◌, ℕ, length, List, ap, sym, ◌∙◌, subst}
use Rattle.std.specs.Prelude.{map, reverse, slice_set}
use Rattle.std.proofs.lemmas.List.{length-map, reverse-append}
use Rattle.report_rules.specs.Seen.{Seen}
use Rattle.local_types.specs.Entries.{type_of}
use Rattle.rule_work.specs.Moves.{closed_from, retyped_at}
use Rattle.rule_state.specs.Work.{seen_of, work_of, retyped_ref}
use Rattle.rule_state.specs.declared.point.Seen.{Seen as SeenRef}
use Rattle.rule_state.proofs.SeenFacts.{list_retyped, past_retyped}
use Rattle.rule_state.proofs.StackFacts.{popped_some, popped_none, nothing_left}
use Rattle.rule_state.proofs.state.RuleState.close.Goals as goal

pub returns-then-place-len : goal.returns-then-place-len
unfolding work_of
returns-then-place-len c =
    let state = c.args.self.now in
    let place = c.in-Some.place in
    let pending : reverse state.pending.items ≡ place ∷ reverse c.pop.new.self.items
    = ap reverse (popped_some state.pending.items c.pop.new.self.items c.pop.result place c.pop.ensures.items c.in-Some.is) ∙ reverse-append c.pop.new.self.items (place ∷ []) in
    let inside : place < length state.seen.items = subst (λ (n : ℕ). place < n) (c.len.ensures ∙ state.seen.ok.0) c.if-place-len.true in
    let seen : map (seen_of state.types) (slice_set state.seen.items place c.retyped.result) ≡ retyped_at (type_of state.types state.value) place (map (seen_of state.types) state.seen.items)
    = ap (λ (x : SeenRef). map (seen_of state.types) (slice_set state.seen.items place x)) (c.retyped.ensures ∙ ap (retyped_ref state.value) c.index.ensures)
    ∙ list_retyped state.types state.value state.seen.items place c.index.result.now inside in
    ap (λ (s : List Seen). record (work_of state) { seen = s; pending = reverse c.pop.new.self.items }) seen
    ∙ ap (λ (p : List ℕ). closed_from p (work_of state)) (sym pending)

pub returns-else-place-len : goal.returns-else-place-len
unfolding work_of
returns-else-place-len c =
    let state = c.args.self.now in
    let place = c.in-Some.place in
    let pending : reverse state.pending.items ≡ place ∷ reverse c.pop.new.self.items
    = ap reverse (popped_some state.pending.items c.pop.new.self.items c.pop.result place c.pop.ensures.items c.in-Some.is) ∙ reverse-append c.pop.new.self.items (place ∷ []) in
    let past : length (map (seen_of state.types) state.seen.items) ≤ place
    = subst (λ (n : ℕ). n ≤ place) (c.len.ensures ∙ (state.seen.ok.0 ∙ sym (length-map state.seen.items (seen_of state.types)))) c.if-place-len.false in
    ap (λ (s : List Seen). record (work_of state) { seen = s; pending = reverse c.pop.new.self.items }) (sym (past_retyped (type_of state.types state.value) place (map (seen_of state.types) state.seen.items) past))
    ∙ ap (λ (p : List ℕ). closed_from p (work_of state)) (sym pending)

pub returns-in_default : goal.returns-in_default
unfolding work_of
returns-in_default c =
    let state = c.args.self.now in
    let none : state.pending.items ≡ [] = popped_none _ state.pending.items c.pop.result _ _ c.pop.ensures.cases state.pending.ok.0 c.in_default.is in
    ap (λ (p : List ℕ). record (work_of state) { pending = reverse p }) (nothing_left state.pending.items c.pop.new.self.items c.pop.result c.pop.ensures.items c.in_default.is none)
    ∙ sym (ap (λ (p : List ℕ). closed_from (reverse p) (record (work_of state) { pending = reverse p })) none)
