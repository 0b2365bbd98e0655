use Rattle.std.proofs.Common.{◌≡◌, ◌∙◌, ◌+◌, ◌<◌, ◌++◌, ◌∷◌, arith, sym, ap, get_or, Bor, List, [], ℕ, inl, inr}
use Rattle.std.specs.Prelude.{Some, slice_get, map}
use Rattle.module_graph.proofs.Walking.{read-part, join-more}
use Rattle.module_graph.proofs.names.joined.Goals as goal
use Rattle.module_graph.proofs.names.joined.Goals.{then-i-gt0+in_ok-push, else-i-gt0}

pub loop-i-preserved : goal.loop-i-preserved
loop-i-preserved c =
    let d : Bor (List ℕ) = record { ref_ptr = (0, 0); now = [] } in
    c.in_ok-extend_from_slice.ensures.items ∙ join-more (map (λ (p : Bor (List ℕ)). p.now) c.args.parts.now) c.loop-i.i (get_or c.args.parts.now c.loop-i.i d).now c.if-i-gt0.name.items (read-part c.args.parts.now c.loop-i.i d c.loop-i-test.true)
    (elim c.if-i-gt0.branch [
      | then-i-gt0+in_ok-push w ↦ inl (w.if-i-gt0.true, ap (λ v. v.items) w.name-is ∙ (w.in_ok-push.ensures.items ∙ ap (λ (l : List ℕ). l ++ 47 ∷ []) c.loop-i.invariant))
      | else-i-gt0 w ↦ inr ((let e = w.if-i-gt0.false in omega arith), ap (λ v. v.items) w.name-is ∙ c.loop-i.invariant)
    ])
