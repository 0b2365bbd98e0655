use Rattle.std.proofs.Common.{◌≡◌, ◌∙◌, ◌+◌, ◌<◌, sym, ap, get_or, Bor, List, [], ℕ, Bool, drop}
use Rattle.std.specs.Prelude.{Option, Some, None, slice_get, map, if◌then◌else◌}
use Rattle.module_graph.specs.Names.{step, walk as walk_from}
use Rattle.module_graph.proofs.Walking.{read-part, walk-some, walk-none}
use Rattle.module_graph.proofs.names.walk.Goals as goal

pub returns-then-not-branch : goal.returns-then-not-branch
returns-then-not-branch c =
    let d : Bor (List ℕ) = record { ref_ptr = (0, 0); now = [] } in
    let goes = c.in_ok-step.ensures ∙ ap (λ (b : Bool). if b then Some (map (λ (p : Bor (List ℕ)). p.now) c.step.new.here.items) else None) c.if-not-branch.true in
    sym c.loop-part.invariant ∙ walk-none (map (λ (p : Bor (List ℕ)). p.now) c.loop-part.here.items) (map (λ (p : Bor (List ℕ)). p.now) c.args.parts.now) c.loop-part.part-index (get_or c.args.parts.now c.loop-part.part-index d).now (read-part c.args.parts.now c.loop-part.part-index d c.loop-part-test.true) goes

pub loop-part-preserved : goal.loop-part-preserved
loop-part-preserved c =
    let d : Bor (List ℕ) = record { ref_ptr = (0, 0); now = [] } in
    let goes = c.in_ok-step.ensures ∙ ap (λ (b : Bool). if b then Some (map (λ (p : Bor (List ℕ)). p.now) c.step.new.here.items) else None) c.if-not-branch.false in
    walk-some (map (λ (p : Bor (List ℕ)). p.now) c.loop-part.here.items) (map (λ (p : Bor (List ℕ)). p.now) c.step.new.here.items) (map (λ (p : Bor (List ℕ)). p.now) c.args.parts.now) c.loop-part.part-index (get_or c.args.parts.now c.loop-part.part-index d).now (read-part c.args.parts.now c.loop-part.part-index d c.loop-part-test.true) goes ∙ c.loop-part.invariant
