use Rattle.std.proofs.Common.{◌≡◌, ℕ, ◌+◌, ◌<◌, ◌≤◌, length, List, arith, ap, sym, ◌∙◌, inl, inr, subst}
use Rattle.std.specs.Prelude.{slice_get, Some, map, ◌⊎◌}
use Rattle.std.proofs.lemmas.Bool.{cases_lt}
use Rattle.module_graph.specs.declared.search.Mark.{Mark}
use Rattle.module_graph.specs.declared.search.Mark.TheVariants.{Closed}
use Rattle.module_graph.specs.Search.{state_of, number_of}
use Rattle.module_graph.proofs.Ending.{AreComponents-closed}
use Rattle.module_graph.proofs.components.find_components.Goals as goal

pub loop-file-preserved : goal.loop-file-preserved
loop-file-preserved c = (
  c.in_ok-visit.ensures.search,
  c.in_ok-visit.ensures.path,
  (λ x below.
      elim (cases_lt x c.loop-file.file) [
        | inl before ↦ (let h = c.loop-file.invariant.2 x before in (h.0, c.in_ok-visit.ensures.settles.closed x h.0 h.1))
        | inr now ↦
            (let same : c.loop-file.file ≡ x = omega arith in
            subst (λ (k : ℕ). (n : ℕ) × (slice_get c.visit.new.self.marks.items k ≡ Some (Closed n))) same c.in_ok-visit.ensures.closed)
      ]),
)

pub returns : goal.returns
returns c =
    let last : length c.args.nodes.now ≤ c.loop-file.file = (let stop = c.loop-file-test.false in omega arith) in
    let numbering : c.in_ok-numbers.numbers.items ≡ map number_of c.loop-file.search.marks.items =
    c.in_ok-numbers.ensures ∙ ap (λ (l : List Mark). map number_of l) c.deref.ensures.value in
    AreComponents-closed c.args.nodes.now (state_of c.loop-file.search) c.loop-file.invariant.0
    (λ x within. c.loop-file.invariant.2 x (omega arith))
    c.in_ok-numbers.numbers.items numbering
