use Rattle.std.proofs.Common.{◌≡◌, ◌<◌, ◌≤◌, ◌+◌, ◌^◌, ℕ, List, Bool, true, false, length, get_or, ap, sym, subst, refl, ◌∙◌, arith, Fits, w32}
use Rattle.std.specs.Prelude.{Some, None, Contains, slice_get, slice_set}
use Rattle.std.proofs.lemmas.Option.{slice_get-get_or, slice_get_within}
use Rattle.module_graph.specs.declared.node.Call.{Call}
use Rattle.module_graph.specs.declared.node.Node.{Node}
use Rattle.module_graph.specs.declared.standing.Standing.{Standing}
use Rattle.module_graph.specs.declared.standing.Standing.TheVariants.{Refused, Skipped, Level}
use Rattle.module_graph.specs.Requires.{calls_at, refused_at, Requires}
use Rattle.module_graph.specs.Fates.{IsRefused, already}
use Rattle.module_graph.specs.Standing.{Refuses, IsStanding}
use Rattle.module_graph.proofs.Lists.{Contains-from_get, get-from_contains, get-below, calls_at-index}
use Rattle.module_graph.proofs.Leading.{Requires-at}
use Rattle.module_graph.proofs.Standings.{refused_at-get, calls-read, no_reason-more, IsRefused-by, not_refused, number_at, required_within, number_below, stands_at, IsSkipped-from, IsStanding-level, AreBelow, AreBelow-none, AreBelow-skip, AreBelow-more}
use Rattle.module_graph.proofs.standing.is_refused.Goals as goal

pub returns-then-node : goal.returns-then-node
returns-then-node c =
    let here : slice_get c.args.nodes.now c.args.file ≡ Some c.index-nodes-file.result = slice_get-get_or c.args.nodes.now c.args.file c.index-nodes-file.result c.requires.file ∙ ap Some (sym c.index-nodes-file.is) in
    ((λ yes. already (refused_at-get c.args.nodes.now c.args.file c.index-nodes-file.result here ∙ c.if-node.true)), (λ refused. refl))

pub refuses-requires : goal.refuses-requires
refuses-requires c = λ to means.
    let within : c.args.file < length c.args.nodes.now = c.requires.file in
    let calls : c.as_slice-call-items.result.now ≡ calls_at c.args.nodes.now c.args.file = c.as_slice-call-items.ensures ∙ sym (calls_at-index c.args.nodes.now c.args.file c.index-nodes-file.result c.index-nodes-file.is within) in
    let d : Call = record { at = record { start = 0; end = 0 }; to = None } in
    let here : slice_get c.as_slice-call-items.result.now c.loop-call.call-index ≡ Some (get_or c.as_slice-call-items.result.now c.loop-call.call-index d) = slice_get-get_or c.as_slice-call-items.result.now c.loop-call.call-index d c.loop-call-test.true in
    let there : to < length c.args.nodes.now = c.requires.graph c.args.file to (get_or c.as_slice-call-items.result.now c.loop-call.call-index d) (subst (λ (l : List Call). Contains l (get_or c.as_slice-call-items.result.now c.loop-call.call-index d)) calls (Contains-from_get c.as_slice-call-items.result.now c.loop-call.call-index (get_or c.as_slice-call-items.result.now c.loop-call.call-index d) here)) means in
    let same : length c.deref.result.now ≡ length c.args.found.now.numbers.items = ap length c.deref.ensures.value in
    let numbered = c.requires.components.numbered in
    omega arith

pub returns-then-refuses : goal.returns-then-refuses
returns-then-refuses c =
    let within : c.args.file < length c.args.nodes.now = c.requires.file in
    let calls : c.as_slice-call-items.result.now ≡ calls_at c.args.nodes.now c.args.file = c.as_slice-call-items.ensures ∙ sym (calls_at-index c.args.nodes.now c.args.file c.index-nodes-file.result c.index-nodes-file.is within) in
    let d : Call = record { at = record { start = 0; end = 0 }; to = None } in
    let here : slice_get c.as_slice-call-items.result.now c.loop-call.call-index ≡ Some (get_or c.as_slice-call-items.result.now c.loop-call.call-index d) = slice_get-get_or c.as_slice-call-items.result.now c.loop-call.call-index d c.loop-call-test.true in
    let numbered = c.requires.components.numbered in
    let number : slice_get c.args.found.now.numbers.items c.args.file ≡ Some c.index-own.result.now = slice_get-get_or c.args.found.now.numbers.items c.args.file c.index-own.result.now (omega arith) ∙ ap Some (sym c.index-own.ensures) in
    let has : Contains (calls_at c.args.nodes.now c.args.file) (get_or c.as_slice-call-items.result.now c.loop-call.call-index d) = subst (λ (l : List Call). Contains l (get_or c.as_slice-call-items.result.now c.loop-call.call-index d)) calls (Contains-from_get c.as_slice-call-items.result.now c.loop-call.call-index (get_or c.as_slice-call-items.result.now c.loop-call.call-index d) here) in
    let reason : Refuses c.args.found.now.numbers.items c.index-own.result.now (get_or c.as_slice-call-items.result.now c.loop-call.call-index d).to =
    subst (λ (l : List ℕ). Refuses l c.index-own.result.now (get_or c.as_slice-call-items.result.now c.loop-call.call-index d).to) c.deref.ensures.value (c.if-refuses.ensures.0 refl) in
    ((λ yes. IsRefused-by c.args.nodes.now c.requires.graph c.args.found.now.numbers.items c.args.found.now.order.items c.requires.components c.args.file c.index-own.result.now number (get_or c.as_slice-call-items.result.now c.loop-call.call-index d) has reason), (λ refused. refl))

pub loop-call-preserved : goal.loop-call-preserved
loop-call-preserved c =
    let d : Call = record { at = record { start = 0; end = 0 }; to = None } in
    let here : slice_get c.as_slice-call-items.result.now c.loop-call.call-index ≡ Some (get_or c.as_slice-call-items.result.now c.loop-call.call-index d) = slice_get-get_or c.as_slice-call-items.result.now c.loop-call.call-index d c.loop-call-test.true in
    no_reason-more c.args.found.now.numbers.items c.index-own.result.now c.loop-call.call-index c.as_slice-call-items.result.now (get_or c.as_slice-call-items.result.now c.loop-call.call-index d) here
    (λ reason. let yes : false ≡ true = c.if-refuses.ensures.1 (subst (λ (l : List ℕ). Refuses l c.index-own.result.now (get_or c.as_slice-call-items.result.now c.loop-call.call-index d).to) (sym c.deref.ensures.value) reason) in cc)
    c.loop-call.invariant

pub returns : goal.returns
returns c =
    let within : c.args.file < length c.args.nodes.now = c.requires.file in
    let calls : c.as_slice-call-items.result.now ≡ calls_at c.args.nodes.now c.args.file = c.as_slice-call-items.ensures ∙ sym (calls_at-index c.args.nodes.now c.args.file c.index-nodes-file.result c.index-nodes-file.is within) in
    let numbered = c.requires.components.numbered in
    let number : slice_get c.args.found.now.numbers.items c.args.file ≡ Some c.index-own.result.now = slice_get-get_or c.args.found.now.numbers.items c.args.file c.index-own.result.now (omega arith) ∙ ap Some (sym c.index-own.ensures) in
    let node_here : slice_get c.args.nodes.now c.args.file ≡ Some c.index-nodes-file.result = slice_get-get_or c.args.nodes.now c.args.file c.index-nodes-file.result c.requires.file ∙ ap Some (sym c.index-nodes-file.is) in
    let fresh : refused_at c.args.nodes.now c.args.file ≡ false = refused_at-get c.args.nodes.now c.args.file c.index-nodes-file.result node_here ∙ c.if-node.false in (
      (λ no. cc),
      (λ refused. absurd (not_refused c.args.nodes.now c.requires.graph c.args.found.now.numbers.items c.args.found.now.order.items c.requires.components c.args.file c.index-own.result.now number fresh
          (λ call has reason.
          let k = get-from_contains (calls_at c.args.nodes.now c.args.file) call has in
          let at : slice_get c.as_slice-call-items.result.now k.0 ≡ Some call = ap (λ (l : List Call). slice_get l k.0) calls ∙ k.1 in
          let below = slice_get_within c.as_slice-call-items.result.now k.0 call at in
          let end' = c.loop-call-test.false in
          c.loop-call.invariant k.0 call (omega arith) at reason)
          refused)),
    )
