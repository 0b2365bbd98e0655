-- Every expression takes a step, reaches its place, and then does what its form does.
use Rattle.std.proofs.Common.{◌≡◌, ℕ, ◌+◌, List, Some, ◌∙◌, ap}
use Rattle.luau_values.specs.Value.{Value}
use Rattle.luau_tree.specs.Tree.{the_expr, ExprKind}
use Rattle.luau_tree.specs.declared.names.Place.TheVariants.{Expr as ExprPlace}
use Rattle.luau_run.specs.Program.{Program}
use Rattle.luau_run.specs.Machine.{Reach, State, Gave, ◌>>=◌, step, log}
use Rattle.luau_run.specs.Layer.{Frame, Layer}
use Rattle.luau_run.specs.Expressions.{reach, values, evaluate_or_builtin}
use Rattle.run_frame.specs.Analysis.{Analysis}
use Rattle.run_frame.proofs.World.{World}
use Rattle.run_frame.proofs.Counts.{is_reported, reached, one_if}
use Rattle.run_frame.proofs.Kept.{Doer, Kept}
use Rattle.run_frame.proofs.Fine.{Fine}
use Rattle.run_frame.proofs.Held.{Runs, runs_kept}
use Rattle.run_frame.proofs.Parts.{Ends, Same, ends_then, ends_so, ends_gave, ends_step, gave_then}
use Rattle.run_frame.proofs.Activations.{IsReached, ends_reached}

-- the place of an expression was reached, once, and nothing else happened
abbrev pub IsOpened : Analysis → Frame → (id : ℕ) → (s t : State) → Type 0
IsOpened an frame id s t = IsReached an frame.activation frame.module_at (ExprPlace (record { 0 = id })) s t

pub ends_reach : (an : Analysis) (who : Doer) (w : World) (s : State) (frame : Frame) (id : ℕ) → Fine an w s → Runs an w s frame → who.runs ≡ Some frame.activation
    → Ends an who w s (λ x t. IsOpened an frame id s t) (reach frame id s)
unfolding ◌>>=◌
ends_reach an who w s frame id f r runs =
    ends_then an who w s (λ x t. Same s t) (λ x t. IsOpened an frame id s t) (step s) (λ x. log (Reach frame.activation frame.module_at (ExprPlace (record { 0 = id }))))
    (ends_step an who w s f)
    (λ x t v g k p. ends_so an who v t (λ y u. IsOpened an frame id t u) (λ y u. IsOpened an frame id s u) (log (Reach frame.activation frame.module_at (ExprPlace (record { 0 = id }))) t)
    (λ y u z e d j q. (q.0 ∙ p.0, q.1 ∙ ap (λ trace. reached an frame.activation trace + one_if (is_reported an frame.module_at (ExprPlace (record { 0 = id })))) p.1))
    (ends_reached an who v t frame (ExprPlace (record { 0 = id })) g (runs_kept an who w v s t frame k r) runs))

-- forward: what holds of the form holds of the expression
pub ends_values : (an : Analysis) (program : Program) (l : Layer) (who : Doer) (w : World) (s : State) (frame : Frame) (id : ℕ) (span : _) (kind : ExprKind)
    (P : List Value → State → Type 0) → Fine an w s → Runs an w s frame → who.runs ≡ Some frame.activation
    → ((t : State) (v : World) → Fine an v t → Kept an who w s v t → t.store ≡ s.store
    → Ends an who v t P (evaluate_or_builtin program l frame id kind (frame.reading.use_of id) t))
    → Ends an who w s P (values program l frame (the_expr id span kind) s)
unfolding values ◌>>=◌
ends_values an program l who w s frame id span kind P f r runs form =
    ends_then an who w s (λ x t. IsOpened an frame id s t) P (reach frame id s) (λ x. evaluate_or_builtin program l frame id kind (frame.reading.use_of id))
    (ends_reach an who w s frame id f r runs) (λ x t v g k p. form t v g k p.0)

-- what is known of the state in which the form begins, of an expression that gave
pub record Opened (an : Analysis) (program : Program) (l : Layer) (who : Doer) (w : World) (s : State) (frame : Frame) (id : ℕ) (kind : ExprKind) (vs : List Value) (u : State) : Type 0 where
  pub at : State
  pub world : World
  pub fine : Fine an world at
  pub kept : Kept an who w s world at
  pub opened : IsOpened an frame id s at
  pub gave : evaluate_or_builtin program l frame id kind (frame.reading.use_of id) at ≡ Gave vs u

-- backward: what gave, gave from a state where its place was reached
pub values_gave : (an : Analysis) (program : Program) (l : Layer) (who : Doer) (w : World) (s : State) (frame : Frame) (id : ℕ) (span : _) (kind : ExprKind)
    (vs : List Value) (u : State) → Fine an w s → Runs an w s frame → who.runs ≡ Some frame.activation → values program l frame (the_expr id span kind) s ≡ Gave vs u
    → Opened an program l who w s frame id kind vs u
unfolding values ◌>>=◌
values_gave an program l who w s frame id span kind vs u f r runs e = by_parts
    (gave_then (reach frame id s) (λ x. evaluate_or_builtin program l frame id kind (frame.reading.use_of id)) vs u e)
  where
    by_parts : (x : Unit {0}) × (t : State) × (reach frame id s ≡ Gave x t) × (evaluate_or_builtin program l frame id kind (frame.reading.use_of id) t ≡ Gave vs u)
        → Opened an program l who w s frame id kind vs u
    by_parts p = by_end p (ends_gave an who w s (λ x t. IsOpened an frame id s t) (reach frame id s) p.0 p.1 p.2 (ends_reach an who w s frame id f r runs))
      where
        by_end : (p : (x : Unit {0}) × (t : State) × (reach frame id s ≡ Gave x t) × (evaluate_or_builtin program l frame id kind (frame.reading.use_of id) t ≡ Gave vs u))
            → (v : World) × Fine an v p.1 × Kept an who w s v p.1 × IsOpened an frame id s p.1 → Opened an program l who w s frame id kind vs u
        by_end p q = record { at = p.1; world = q.0; fine = q.1; kept = q.2; opened = q.3; gave = p.3 }
