use Rattle.std.proofs.Common.{◌≡◌, ◌<◌, ◌≤◌, ◌+◌, ℕ, List, true, false, length, get_or, take, ap, sym, subst, refl, ◌∙◌, arith, inl, inr}
use Rattle.std.specs.Prelude.{Option, Some, None, Contains, slice_get}
use Rattle.std.proofs.lemmas.Option.{slice_get-get_or, slice_get_within}
use Rattle.luau_tree.specs.declared.position.Span.{Span}
use Rattle.module_graph.specs.declared.node.Call.{Call}
use Rattle.module_graph.specs.declared.standing.Standing.{Standing}
use Rattle.module_graph.specs.declared.standing.Standing.TheVariants.{Refused, Level}
use Rattle.module_graph.specs.Standing.{group_of, IsLeastOf, Stops}
use Rattle.module_graph.proofs.Lists.{Contains-from_get, get-from_contains}
use Rattle.module_graph.proofs.Fating.{IsLeastOf-skip, IsLeastOf-more, IsFirst-at, levelled-more, level-stops_not, option-same, option-other}
use Rattle.std.proofs.Math.Seq.{take-length}
use Rattle.module_graph.proofs.fates.least_at.Goals as goal
use Rattle.module_graph.proofs.fates.least_at.Goals.{then-eq, else-eq}

pub group_of-requires : goal.group_of-requires
group_of-requires c = λ to means.
    let d : Call = record { at = record { start = 0; end = 0 }; to = None } in
    let here : slice_get c.args.calls.now c.loop-call.call-index ≡ Some (get_or c.args.calls.now c.loop-call.call-index d) = slice_get-get_or c.args.calls.now c.loop-call.call-index d c.loop-call-test.true in
    c.requires to (get_or c.args.calls.now c.loop-call.call-index d) (Contains-from_get c.args.calls.now c.loop-call.call-index (get_or c.args.calls.now c.loop-call.call-index d) here) means

pub loop-call-preserved : goal.loop-call-preserved
loop-call-preserved c =
    let d : Call = record { at = record { start = 0; end = 0 }; to = None } in
    let here : slice_get c.args.calls.now c.loop-call.call-index ≡ Some (get_or c.args.calls.now c.loop-call.call-index d) = slice_get-get_or c.args.calls.now c.loop-call.call-index d c.loop-call-test.true in
    elim c.if-eq.branch [
      | then-eq w ↦
          (let same : group_of c.args.numbers.now (get_or c.args.calls.now c.loop-call.call-index d).to ≡ c.args.group = sym c.group_of.ensures ∙ option-same c.group_of.result c.args.group (sym c.eq.ensures ∙ w.if-eq.true) in
          subst (λ (o : Option Span). IsLeastOf (λ to. group_of c.args.numbers.now to ≡ c.args.group) (take (c.loop-call.call-index + 1) c.args.calls.now) o) (sym w.least-is)
          (IsLeastOf-more (λ to. group_of c.args.numbers.now to ≡ c.args.group) c.args.calls.now c.loop-call.call-index (get_or c.args.calls.now c.loop-call.call-index d) here c.loop-call.least w.earlier.result same w.earlier.ensures.one w.earlier.ensures.before w.earlier.ensures.least c.loop-call.invariant))
      | else-eq w ↦
          (let other : group_of c.args.numbers.now (get_or c.args.calls.now c.loop-call.call-index d).to ≡ c.args.group → ⊥ = (λ same. option-other c.group_of.result c.args.group (sym c.eq.ensures ∙ w.if-eq.false) (c.group_of.ensures ∙ same)) in
          subst (λ (o : Option Span). IsLeastOf (λ to. group_of c.args.numbers.now to ≡ c.args.group) (take (c.loop-call.call-index + 1) c.args.calls.now) o) (sym w.least-is)
          (IsLeastOf-skip (λ to. group_of c.args.numbers.now to ≡ c.args.group) c.args.calls.now c.loop-call.call-index (get_or c.args.calls.now c.loop-call.call-index d) here c.loop-call.least other c.loop-call.invariant))
    ]

pub returns : goal.returns
returns c =
    let all : c.loop-call.call-index ≡ length c.args.calls.now = (let end' = c.loop-call-test.false in let most = c.loop-call.auto.call-index-end in omega arith) in
    subst (λ (l : List Call). IsLeastOf (λ to. group_of c.args.numbers.now to ≡ c.args.group) l c.loop-call.least) (ap (λ (n : ℕ). take n c.args.calls.now) all ∙ take-length c.args.calls.now) c.loop-call.invariant
