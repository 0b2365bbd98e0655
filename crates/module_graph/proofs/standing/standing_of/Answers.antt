use Rattle.std.proofs.Common.{◌≡◌, ◌<◌, ◌≤◌, ◌+◌, ◌^◌, ℕ, List, Bool, true, false, length, get_or, ap, sym, subst, refl, ◌∙◌, arith, Fits, w32}
use Rattle.std.specs.Prelude.{Some, None, Contains, slice_get, slice_set}
use Rattle.std.proofs.lemmas.Option.{slice_get-get_or, slice_get_within}
use Rattle.module_graph.specs.declared.node.Call.{Call}
use Rattle.module_graph.specs.declared.node.Node.{Node}
use Rattle.module_graph.specs.declared.standing.Standing.{Standing}
use Rattle.module_graph.specs.declared.standing.Standing.TheVariants.{Refused, Skipped, Level}
use Rattle.module_graph.specs.Requires.{calls_at, refused_at, Requires}
use Rattle.module_graph.specs.Fates.{IsRefused, already}
use Rattle.module_graph.specs.Standing.{Refuses, IsStanding}
use Rattle.module_graph.proofs.Lists.{Contains-from_get, get-from_contains, get-below}
use Rattle.module_graph.proofs.Leading.{Requires-at}
use Rattle.module_graph.proofs.Standings.{refused_at-get, calls-read, no_reason-more, IsRefused-by, not_refused, number_at, required_within, number_below, stands_at, IsSkipped-from, IsStanding-level, AreBelow, AreBelow-none, AreBelow-skip, AreBelow-more}
use Rattle.module_graph.proofs.standing.standing_of.Goals as goal

pub loop-call-preserved-in_default : goal.loop-call-preserved-in_default
loop-call-preserved-in_default c =
    let d : Call = record { at = record { start = 0; end = 0 }; to = None } in
    let here : slice_get c.as_slice-call-items.result.now c.loop-call.call-index ≡ Some (get_or c.as_slice-call-items.result.now c.loop-call.call-index d) = slice_get-get_or c.as_slice-call-items.result.now c.loop-call.call-index d c.loop-call-test.true in
    AreBelow-skip c.args.nodes.now c.args.file c.as_slice-call-items.result.now c.args.standings.now c.loop-call.call-index c.loop-call.level c.loop-call.invariant (get_or c.as_slice-call-items.result.now c.loop-call.call-index d) here c.in_default.not-Some

pub bounds : goal.bounds
bounds c =
    let within : c.args.file < length c.args.nodes.now = c.requires.file in
    let calls : c.as_slice-call-items.result.now ≡ calls_at c.args.nodes.now c.args.file = calls-read c.args.nodes.now c.args.file c.index-nodes-file.result c.as_slice-call-items.result.now c.index-nodes-file.is within c.as_slice-call-items.ensures in
    let d : Call = record { at = record { start = 0; end = 0 }; to = None } in
    let here : slice_get c.as_slice-call-items.result.now c.loop-call.call-index ≡ Some (get_or c.as_slice-call-items.result.now c.loop-call.call-index d) = slice_get-get_or c.as_slice-call-items.result.now c.loop-call.call-index d c.loop-call-test.true in
    let requires' : Requires c.args.nodes.now c.args.file c.in-Some.to = Requires-at c.args.nodes.now c.args.file c.in-Some.to c.loop-call.call-index (get_or c.as_slice-call-items.result.now c.loop-call.call-index d) (ap (λ (l : List Call). slice_get l c.loop-call.call-index) (sym calls) ∙ here) c.in-Some.is in
    let there = required_within c.args.nodes.now c.requires.graph c.args.found.now.numbers.items c.args.found.now.order.items c.requires.components c.args.file c.in-Some.to requires' in
    let size = c.requires.size in
    omega arith

pub returns-in_default-standings : goal.returns-in_default-standings
returns-in_default-standings c = λ number e.
    let within : c.args.file < length c.args.nodes.now = c.requires.file in
    let calls : c.as_slice-call-items.result.now ≡ calls_at c.args.nodes.now c.args.file = calls-read c.args.nodes.now c.args.file c.index-nodes-file.result c.as_slice-call-items.result.now c.index-nodes-file.is within c.as_slice-call-items.ensures in
    let d : Call = record { at = record { start = 0; end = 0 }; to = None } in
    let here : slice_get c.as_slice-call-items.result.now c.loop-call.call-index ≡ Some (get_or c.as_slice-call-items.result.now c.loop-call.call-index d) = slice_get-get_or c.as_slice-call-items.result.now c.loop-call.call-index d c.loop-call-test.true in
    let requires' : Requires c.args.nodes.now c.args.file c.in-Some.to = Requires-at c.args.nodes.now c.args.file c.in-Some.to c.loop-call.call-index (get_or c.as_slice-call-items.result.now c.loop-call.call-index d) (ap (λ (l : List Call). slice_get l c.loop-call.call-index) (sym calls) ∙ here) c.in-Some.is in
    let there = required_within c.args.nodes.now c.requires.graph c.args.found.now.numbers.items c.args.found.now.order.items c.requires.components c.args.file c.in-Some.to requires' in
    let size = c.requires.size in
    let free : IsRefused c.args.nodes.now c.args.file → ⊥ = (λ refused. let yes : false ≡ true = c.if-is_refused.ensures.1 refused in cc) in
    IsSkipped-from c.args.nodes.now c.requires.graph c.args.found.now.numbers.items c.args.found.now.order.items c.requires.components c.args.file free number e c.args.standings.now (λ to n standing. c.requires.settled to n standing free) c.in-Some.to (get_or c.args.standings.now c.in-Some.to Refused) requires' (slice_get-get_or c.args.standings.now c.in-Some.to Refused (omega arith)) c.in_default-standings.not-Level

pub overflow_add-below : goal.overflow_add-below
overflow_add-below c =
    let within : c.args.file < length c.args.nodes.now = c.requires.file in
    let calls : c.as_slice-call-items.result.now ≡ calls_at c.args.nodes.now c.args.file = calls-read c.args.nodes.now c.args.file c.index-nodes-file.result c.as_slice-call-items.result.now c.index-nodes-file.is within c.as_slice-call-items.ensures in
    let d : Call = record { at = record { start = 0; end = 0 }; to = None } in
    let here : slice_get c.as_slice-call-items.result.now c.loop-call.call-index ≡ Some (get_or c.as_slice-call-items.result.now c.loop-call.call-index d) = slice_get-get_or c.as_slice-call-items.result.now c.loop-call.call-index d c.loop-call-test.true in
    let free : IsRefused c.args.nodes.now c.args.file → ⊥ = (λ refused. let yes : false ≡ true = c.if-is_refused.ensures.1 refused in cc) in
    let requires' : Requires c.args.nodes.now c.args.file c.in-Some.to = Requires-at c.args.nodes.now c.args.file c.in-Some.to c.loop-call.call-index (get_or c.as_slice-call-items.result.now c.loop-call.call-index d) (ap (λ (l : List Call). slice_get l c.loop-call.call-index) (sym calls) ∙ here) c.in-Some.is in
    let there = required_within c.args.nodes.now c.requires.graph c.args.found.now.numbers.items c.args.found.now.order.items c.requires.components c.args.file c.in-Some.to requires' in
    let size = c.requires.size in
    let stands : slice_get c.args.standings.now c.in-Some.to ≡ Some (Level c.in-Level.below) = slice_get-get_or c.args.standings.now c.in-Some.to _ (omega arith) ∙ ap Some c.in-Level.is in
    let own = number_at c.args.nodes.now c.requires.graph c.args.found.now.numbers.items c.args.found.now.order.items c.requires.components c.args.file within in
    let at = stands_at c.args.nodes.now c.requires.graph c.args.found.now.numbers.items c.args.found.now.order.items c.requires.components c.args.file free own.0 own.1 c.args.standings.now (λ to n standing. c.requires.settled to n standing free) c.in-Some.to c.in-Level.below requires' stands in
    let lt = at.3 in
    let low = c.requires.components.low c.args.file own.0 own.1 in
    let few = c.requires.components.few in
    let all = c.requires.few in
    omega arith

pub loop-call-preserved : goal.loop-call-preserved
loop-call-preserved c =
    let within : c.args.file < length c.args.nodes.now = c.requires.file in
    let calls : c.as_slice-call-items.result.now ≡ calls_at c.args.nodes.now c.args.file = calls-read c.args.nodes.now c.args.file c.index-nodes-file.result c.as_slice-call-items.result.now c.index-nodes-file.is within c.as_slice-call-items.ensures in
    let d : Call = record { at = record { start = 0; end = 0 }; to = None } in
    let here : slice_get c.as_slice-call-items.result.now c.loop-call.call-index ≡ Some (get_or c.as_slice-call-items.result.now c.loop-call.call-index d) = slice_get-get_or c.as_slice-call-items.result.now c.loop-call.call-index d c.loop-call-test.true in
    let requires' : Requires c.args.nodes.now c.args.file c.in-Some.to = Requires-at c.args.nodes.now c.args.file c.in-Some.to c.loop-call.call-index (get_or c.as_slice-call-items.result.now c.loop-call.call-index d) (ap (λ (l : List Call). slice_get l c.loop-call.call-index) (sym calls) ∙ here) c.in-Some.is in
    let there = required_within c.args.nodes.now c.requires.graph c.args.found.now.numbers.items c.args.found.now.order.items c.requires.components c.args.file c.in-Some.to requires' in
    let size = c.requires.size in
    let stands : slice_get c.args.standings.now c.in-Some.to ≡ Some (Level c.in-Level.below) = slice_get-get_or c.args.standings.now c.in-Some.to _ (omega arith) ∙ ap Some c.in-Level.is in
    AreBelow-more c.args.nodes.now c.args.file c.as_slice-call-items.result.now c.args.standings.now c.loop-call.call-index c.loop-call.level c.loop-call.invariant (get_or c.as_slice-call-items.result.now c.loop-call.call-index d) here c.in-Some.to c.in-Level.below c.in-Some.is calls stands c.max-level.result c.max-level.ensures

pub returns : goal.returns
returns c = λ number e.
    let within : c.args.file < length c.args.nodes.now = c.requires.file in
    let calls : c.as_slice-call-items.result.now ≡ calls_at c.args.nodes.now c.args.file = calls-read c.args.nodes.now c.args.file c.index-nodes-file.result c.as_slice-call-items.result.now c.index-nodes-file.is within c.as_slice-call-items.ensures in
    let free : IsRefused c.args.nodes.now c.args.file → ⊥ = (λ refused. let yes : false ≡ true = c.if-is_refused.ensures.1 refused in cc) in
    IsStanding-level c.args.nodes.now c.requires.graph c.args.found.now.numbers.items c.args.found.now.order.items c.requires.components c.args.file free number e c.args.standings.now (λ to n standing. c.requires.settled to n standing free) c.loop-call.level
    (λ to requires'.
    let k = get-from_contains (calls_at c.args.nodes.now c.args.file) requires'.0 requires'.1 in
    let at : slice_get c.as_slice-call-items.result.now k.0 ≡ Some requires'.0 = ap (λ (l : List Call). slice_get l k.0) calls ∙ k.1 in
    let below = slice_get_within c.as_slice-call-items.result.now k.0 requires'.0 at in
    let end' = c.loop-call-test.false in
    c.loop-call.invariant.all k.0 to requires'.0 (omega arith) at requires'.2)
    c.loop-call.invariant.one
