use Rattle.std.proofs.Common.{◌≡◌, ◌<◌, ◌≤◌, ◌+◌, ◌^◌, ℕ, List, Bool, true, false, length, get_or, ap, sym, subst, refl, ◌∙◌, arith, inl, inr, Fits, w32}
use Rattle.std.specs.Prelude.{Some, None, Contains, slice_get, slice_set}
use Rattle.std.proofs.lemmas.Option.{slice_get-get_or, slice_get_within}
use Rattle.module_graph.specs.declared.node.Call.{Call}
use Rattle.module_graph.specs.declared.node.Node.{Node}
use Rattle.module_graph.specs.declared.standing.Standing.{Standing}
use Rattle.module_graph.specs.declared.standing.Standing.TheVariants.{Refused, Skipped, Level}
use Rattle.module_graph.specs.Requires.{calls_at, refused_at, Requires}
use Rattle.module_graph.specs.Fates.{IsRefused, already}
use Rattle.module_graph.specs.Standing.{Refuses, IsStanding}
use Rattle.module_graph.proofs.Lists.{Contains-from_get, get-from_contains, get-below}
use Rattle.module_graph.proofs.Leading.{Requires-at}
use Rattle.module_graph.proofs.Standings.{refused_at-get, calls-read, no_reason-more, IsRefused-by, not_refused, number_at, required_within, number_below, stands_at, IsSkipped-from, IsStanding-level, AreBelow, AreBelow-none, AreBelow-skip, AreBelow-more}
use Rattle.std.specs.Prelude.{vec_len}
use Rattle.std.proofs.lemmas.List.{length-set}
use Rattle.std.proofs.lemmas.Bool.{cases_lt}
use Rattle.module_graph.proofs.Lists.{slice_get-set_cases}
use Rattle.module_graph.proofs.standing.find_standings.Goals as goal

pub standing_of-requires-clause-file : goal.standing_of-requires-clause-file
standing_of-requires-clause-file c =
    let file : slice_get c.args.found.now.order.items c.loop-file.file-index ≡ Some (get_or c.deref-file-items.result.now c.loop-file.file-index 0) = ap (λ (l : List ℕ). slice_get l c.loop-file.file-index) (sym c.deref-file-items.ensures.value) ∙ slice_get-get_or c.deref-file-items.result.now c.loop-file.file-index 0 c.loop-file-test.true in
    let within : get_or c.deref-file-items.result.now c.loop-file.file-index 0 < length c.args.nodes.now = c.requires.components.there (get_or c.deref-file-items.result.now c.loop-file.file-index 0) (c.loop-file.file-index, file) in
    within

pub standing_of-requires-clause-settled : goal.standing_of-requires-clause-settled
standing_of-requires-clause-settled c = λ to number standing free requires' e stands.
    let file : slice_get c.args.found.now.order.items c.loop-file.file-index ≡ Some (get_or c.deref-file-items.result.now c.loop-file.file-index 0) = ap (λ (l : List ℕ). slice_get l c.loop-file.file-index) (sym c.deref-file-items.ensures.value) ∙ slice_get-get_or c.deref-file-items.result.now c.loop-file.file-index 0 c.loop-file-test.true in
    let within : get_or c.deref-file-items.result.now c.loop-file.file-index 0 < length c.args.nodes.now = c.requires.components.there (get_or c.deref-file-items.result.now c.loop-file.file-index 0) (c.loop-file.file-index, file) in
    let there = required_within c.args.nodes.now c.requires.graph c.args.found.now.numbers.items c.args.found.now.order.items c.requires.components (get_or c.deref-file-items.result.now c.loop-file.file-index 0) to requires' in
    let own = number_at c.args.nodes.now c.requires.graph c.args.found.now.numbers.items c.args.found.now.order.items c.requires.components (get_or c.deref-file-items.result.now c.loop-file.file-index 0) within in
    let lower = number_below c.args.nodes.now c.requires.graph c.args.found.now.numbers.items c.args.found.now.order.items c.requires.components (get_or c.deref-file-items.result.now c.loop-file.file-index 0) free own.0 own.1 to number requires' e in
    let place = c.requires.components.listed to there in
    let before : place.0 < c.loop-file.file-index =
    elim (cases_lt place.0 c.loop-file.file-index) [
      | inl lt ↦ lt
      | inr le ↦ (let up = c.requires.components.ordered c.loop-file.file-index place.0 (get_or c.deref-file-items.result.now c.loop-file.file-index 0) to own.0 number le file place.1 own.1 e in absurd (omega arith))
    ] in
    c.loop-file.invariant.1 place.0 to number standing before place.1 e (ap (λ (l : List Standing). slice_get l to) (sym c.deref.ensures.value) ∙ stands)

pub index_mut-requires : goal.index_mut-requires
index_mut-requires c =
    let file : slice_get c.args.found.now.order.items c.loop-file.file-index ≡ Some (get_or c.deref-file-items.result.now c.loop-file.file-index 0) = ap (λ (l : List ℕ). slice_get l c.loop-file.file-index) (sym c.deref-file-items.ensures.value) ∙ slice_get-get_or c.deref-file-items.result.now c.loop-file.file-index 0 c.loop-file-test.true in
    let within : get_or c.deref-file-items.result.now c.loop-file.file-index 0 < length c.args.nodes.now = c.requires.components.there (get_or c.deref-file-items.result.now c.loop-file.file-index 0) (c.loop-file.file-index, file) in
    let size = c.loop-file.invariant.0 in
    omega arith

pub loop-file-preserved : goal.loop-file-preserved
loop-file-preserved c =
    let file : slice_get c.args.found.now.order.items c.loop-file.file-index ≡ Some (get_or c.deref-file-items.result.now c.loop-file.file-index 0) = ap (λ (l : List ℕ). slice_get l c.loop-file.file-index) (sym c.deref-file-items.ensures.value) ∙ slice_get-get_or c.deref-file-items.result.now c.loop-file.file-index 0 c.loop-file-test.true in
    let within : get_or c.deref-file-items.result.now c.loop-file.file-index 0 < length c.args.nodes.now = c.requires.components.there (get_or c.deref-file-items.result.now c.loop-file.file-index 0) (c.loop-file.file-index, file) in (
      length-set c.loop-file.standings.items (get_or c.deref-file-items.result.now c.loop-file.file-index 0) c.standing_of.result ∙ c.loop-file.invariant.0,
      (λ k x number standing below listed e stands.
          elim (slice_get-set_cases c.loop-file.standings.items (get_or c.deref-file-items.result.now c.loop-file.file-index 0) c.standing_of.result x standing stands) [
            | inl now ↦
                subst (λ (s : Standing). IsStanding c.args.nodes.now x number s) (sym now.1)
                (subst (λ (y : ℕ). IsStanding c.args.nodes.now y number c.standing_of.result) (sym now.0)
                (c.standing_of.ensures number (ap (λ (y : ℕ). slice_get c.args.found.now.numbers.items y) (sym now.0) ∙ e)))
            | inr other ↦
                elim (cases_lt k c.loop-file.file-index) [
                  | inl before ↦ c.loop-file.invariant.1 k x number standing before listed e other.1
                  | inr last ↦
                      (let place : k ≡ c.loop-file.file-index = omega arith in
                      let both : Some x ≡ Some (get_or c.deref-file-items.result.now c.loop-file.file-index 0) = sym listed ∙ (ap (λ (j : ℕ). slice_get c.args.found.now.order.items j) place ∙ file) in
                      absurd (other.0 cc))
                ]
          ]),
    )

pub returns-clause-each : goal.returns-clause-each
returns-clause-each c = λ file number standing e stands.
    let numbered = c.requires.components.numbered in
    let within = slice_get_within c.args.found.now.numbers.items file number e in
    let place = c.requires.components.listed file (omega arith) in
    let inside = slice_get_within c.args.found.now.order.items place.0 file place.1 in
    let size : length c.deref-file-items.result.now ≡ length c.args.found.now.order.items = ap length c.deref-file-items.ensures.value in
    let end' = c.loop-file-test.false in
    c.loop-file.invariant.1 place.0 file number standing (omega arith) place.1 e stands
