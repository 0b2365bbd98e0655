use Rattle.std.proofs.Common.{◌≡◌, ◌<◌, ◌≤◌, ◌+◌, ℕ, List, true, false, length, get_or, take, ap, sym, subst, refl, ◌∙◌, arith, inl, inr}
use Rattle.std.specs.Prelude.{Option, Some, None, Contains, slice_get}
use Rattle.std.proofs.lemmas.Option.{slice_get-get_or, slice_get_within}
use Rattle.luau_tree.specs.declared.position.Span.{Span}
use Rattle.module_graph.specs.declared.node.Call.{Call}
use Rattle.module_graph.specs.declared.standing.Standing.{Standing}
use Rattle.module_graph.specs.declared.standing.Standing.TheVariants.{Refused, Level}
use Rattle.module_graph.specs.Standing.{group_of, IsLeastOf, Stops}
use Rattle.module_graph.proofs.Lists.{Contains-from_get, get-from_contains}
use Rattle.module_graph.proofs.Fating.{IsLeastOf-skip, IsLeastOf-more, IsFirst-at, levelled-more, level-stops_not, option-same, option-other}
use Rattle.module_graph.proofs.fates.first_stop.Goals as goal

pub returns : goal.returns
returns c = λ to call has means.
    let k = get-from_contains c.args.calls.now call has in
    let within = slice_get_within c.args.calls.now k.0 call k.1 in
    let end' = c.loop-call-test.false in
    c.loop-call.invariant k.0 to call (omega arith) k.1 means

pub loop-call-preserved-in_default : goal.loop-call-preserved-in_default
loop-call-preserved-in_default c =
    let d : Call = record { at = record { start = 0; end = 0 }; to = None } in
    let here : slice_get c.args.calls.now c.loop-call.call-index ≡ Some (get_or c.args.calls.now c.loop-call.call-index d) = slice_get-get_or c.args.calls.now c.loop-call.call-index d c.loop-call-test.true in
    levelled-more c.args.standings.now c.args.calls.now c.loop-call.call-index (get_or c.args.calls.now c.loop-call.call-index d) here (λ to means. absurd (c.in_default.not-Some to means)) c.loop-call.invariant

pub bounds : goal.bounds
bounds c =
    let d : Call = record { at = record { start = 0; end = 0 }; to = None } in
    let here : slice_get c.args.calls.now c.loop-call.call-index ≡ Some (get_or c.args.calls.now c.loop-call.call-index d) = slice_get-get_or c.args.calls.now c.loop-call.call-index d c.loop-call-test.true in
    c.requires c.in-Some.to (get_or c.args.calls.now c.loop-call.call-index d) (Contains-from_get c.args.calls.now c.loop-call.call-index (get_or c.args.calls.now c.loop-call.call-index d) here) c.in-Some.is

pub returns-in_default-standings : goal.returns-in_default-standings
returns-in_default-standings c =
    let d : Call = record { at = record { start = 0; end = 0 }; to = None } in
    let here : slice_get c.args.calls.now c.loop-call.call-index ≡ Some (get_or c.args.calls.now c.loop-call.call-index d) = slice_get-get_or c.args.calls.now c.loop-call.call-index d c.loop-call-test.true in
    let within : c.in-Some.to < length c.args.standings.now = c.requires c.in-Some.to (get_or c.args.calls.now c.loop-call.call-index d) (Contains-from_get c.args.calls.now c.loop-call.call-index (get_or c.args.calls.now c.loop-call.call-index d) here) c.in-Some.is in
    let this : Call = record { at = (get_or c.args.calls.now c.loop-call.call-index d).at; to = Some c.in-Some.to } in
    let same : (get_or c.args.calls.now c.loop-call.call-index d) ≡ this = ap (λ (o : Option ℕ). record { at = (get_or c.args.calls.now c.loop-call.call-index d).at; to = o }) c.in-Some.is in
    IsFirst-at (Stops c.args.standings.now) c.args.calls.now c.loop-call.call-index this (here ∙ ap Some same)
    (c.in-Some.to, get_or c.args.standings.now c.in-Some.to Refused, refl, slice_get-get_or c.args.standings.now c.in-Some.to Refused within, c.in_default-standings.not-Level)
    (λ k other below e stops. level-stops_not c.args.standings.now other.to (λ next means. c.loop-call.invariant k next other below e means) stops)

pub loop-call-preserved : goal.loop-call-preserved
loop-call-preserved c =
    let d : Call = record { at = record { start = 0; end = 0 }; to = None } in
    let here : slice_get c.args.calls.now c.loop-call.call-index ≡ Some (get_or c.args.calls.now c.loop-call.call-index d) = slice_get-get_or c.args.calls.now c.loop-call.call-index d c.loop-call-test.true in
    let within : c.in-Some.to < length c.args.standings.now = c.requires c.in-Some.to (get_or c.args.calls.now c.loop-call.call-index d) (Contains-from_get c.args.calls.now c.loop-call.call-index (get_or c.args.calls.now c.loop-call.call-index d) here) c.in-Some.is in
    levelled-more c.args.standings.now c.args.calls.now c.loop-call.call-index (get_or c.args.calls.now c.loop-call.call-index d) here
    (λ to means.
    let both : Some c.in-Some.to ≡ Some to = sym c.in-Some.is ∙ means in
    let one : c.in-Some.to ≡ to = cc in
    (c.in-Level.level, ap (λ (j : ℕ). slice_get c.args.standings.now j) (sym one) ∙ (slice_get-get_or c.args.standings.now c.in-Some.to Refused within ∙ ap Some c.in-Level.is)))
    c.loop-call.invariant
