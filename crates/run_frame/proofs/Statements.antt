-- Statements: the step that each takes; calls, `do`, `break` and `continue`.
use Rattle.std.proofs.Common.{◌≡◌, ◌+◌, ◌<◌, Bool, true, false, List, [], ◌⊎◌, inl, inr, refl, sym, ap, subst, arith}
use Rattle.luau_values.specs.Value.{Value}
use Rattle.luau_tree.specs.Tree.{Expr, the_expr, the_stat, StatKind, CallStat}
use Rattle.luau_tree.specs.declared.names.Place.TheVariants.{Expr as ExprPlace}
use Rattle.luau_run.specs.SyntaxNode.{of_stat}
use Rattle.luau_run.specs.Program.{Program}
use Rattle.luau_run.specs.Machine.{State, Gave, ◌>>=◌, give, step}
use Rattle.luau_run.specs.Layer.{Frame, Ending, Falls, Layer, first}
use Rattle.luau_run.specs.Statements.{stat, execute}
use Rattle.type_arena.specs.Term.{never}
use Rattle.type_normal.specs.Holds.{holds}
use Rattle.type_normal.proofs.Public.{never_none}
use Rattle.report_rules.specs.Effects.{effects}
use Rattle.report_rules.specs.TypeMap.{TypeMap}
use Rattle.report_rules.specs.Forward.{after}
use Rattle.report_rules.specs.Seen.{seen_stat}
use Rattle.report_rules.specs.Context.{Context, followed}
use Rattle.report_rules.specs.Errors.{ev}
use Rattle.report_rules.specs.Statements.{stm}
use Rattle.report_rules.specs.Findings.{own_kinds, found, found_stat}
use Rattle.run_frame.specs.Analysis.{Analysis}
use Rattle.run_frame.specs.Statements.{stats_of, stats_of_expr, stats_of_block}
use Rattle.run_frame.specs.Fit.{Fit}
use Rattle.run_frame.proofs.World.{World}
use Rattle.run_frame.proofs.Counts.{is_reported, reached, one_if}
use Rattle.run_frame.proofs.Kept.{Doer, Kept, kept_same}
use Rattle.run_frame.proofs.Fine.{Fine, fine_same}
use Rattle.run_frame.proofs.Held.{Runs, runs_kept, Held, held_same, Violated, violated_same}
use Rattle.run_frame.proofs.Parts.{Ends, Same, ends_then, ends_so, ends_give, ends_gave, ends_step, step_same, gave_then, gave_same}
use Rattle.run_frame.proofs.Layers.{rules_of, seen_of, stat_of, expr_of, Inside, Placed, Marked, Gives, Leads, Pays, EndsBad, Trouble, Forward, Backward}
use Rattle.run_frame.proofs.Readings.{contains_head, sub_tail}
use Rattle.run_frame.proofs.Passing.{held_after, violated_followed}
use Rattle.run_frame.proofs.Marks.{mark_tells}
use Rattle.run_frame.proofs.Blocks.{same_end}

-- ---- every statement takes a step

pub ends_stat : (an : Analysis) (program : Program) (l : Layer) (who : Doer) (w : World) (s : State) (frame : Frame) (span : _) (kind : StatKind) (P : Ending → State → Type 0)
    → Fine an w s → ((t : State) (v : World) → Fine an v t → Kept an who w s v t → Same s t → Ends an who v t P (execute program l frame kind t))
    → Ends an who w s P (stat program l frame (the_stat span kind) s)
unfolding stat ◌>>=◌
ends_stat an program l who w s frame span kind P f form = ends_then an who w s (λ x t. Same s t) P (step s) (λ x. execute program l frame kind) (ends_step an who w s f)
    (λ x t v g k p. form t v g k p)

pub stat_gave : (program : Program) (l : Layer) (frame : Frame) (span : _) (kind : StatKind) (s : State) (ending : Ending) (t : State) → stat program l frame (the_stat span kind) s ≡ Gave ending t
    → (m : State) × Same s m × (execute program l frame kind m ≡ Gave ending t)
unfolding stat ◌>>=◌
stat_gave program l frame span kind s ending t e = by_parts (gave_then (step s) (λ x. execute program l frame kind) ending t e)
  where
    by_parts : (x : Unit {0}) × (m : State) × (step s ≡ Gave x m) × (execute program l frame kind m ≡ Gave ending t)
        → (m : State) × Same s m × (execute program l frame kind m ≡ Gave ending t)
    by_parts p = (p.1, step_same s p.1 p.2, p.3)

-- trouble is the same after the step
pub trouble_same : (an : Analysis) (frame : Frame) (context : Context) (s m t : State) → Same s m → Trouble an frame context s t → Trouble an frame context m t
trouble_same an frame context s m t e (inl h) = inl (violated_same an s m frame context e.0 h)
trouble_same an frame context s m t e (inr h) = inr (subst (λ x. reached an frame.activation x < reached an frame.activation t.trace) (sym e.1) h)

-- ---- an expression of which nothing is checked

-- it reaches no reported place
pub unchecked_count : (an : Analysis) (w : World) (s : State) (frame : Frame) (e : Expr) (vs : List Value) (u t : State) → Fit an → Runs an w s frame
    → Marked an frame (found (rules_of an frame) (seen_of an frame) [] e) → Pays an frame e u vs t → reached an frame.activation t.trace ≡ reached an frame.activation u.trace
unchecked_count an w s frame (the_expr id span kind) vs u t fit r marked pays = by_report (is_reported an frame.module_at (ExprPlace (record { 0 = id }))) refl pays.reports
  where
    by_report : (b : Bool) → is_reported an frame.module_at (ExprPlace (record { 0 = id })) ≡ b
        → reached an frame.activation t.trace ≡ reached an frame.activation u.trace + one_if b → reached an frame.activation t.trace ≡ reached an frame.activation u.trace
    by_report true e k = absurd (mark_tells an w s frame id
        (record { place = ExprPlace (record { 0 = id }); at = span; kinds = own_kinds (rules_of an frame) (seen_of an frame) id kind }) fit r
        (marked _ (contains_head _ _)) refl e pays.own)
    by_report false e k = omega (arith, k)

-- nor is the context violated by which it gives no value at all
pub unchecked_context : (an : Analysis) (frame : Frame) (e : Expr) (s : State) (vs : List Value) (t : State) → Pays an frame e s vs t
    → Violated an frame (ev (rules_of an frame) (seen_of an frame) e never) s → ⊥
unchecked_context an frame e s vs t pays h = clash (holds t.store.heap (first vs) never) (pays.context never h) (never_none t.store.heap (first vs))
  where
    clash : (b : Bool) → b ≡ true → b ≡ false → ⊥
    clash b p q = cc

-- ---- a call as a statement

pub call_stat_forward : (an : Analysis) (l : Layer) → Forward an l → (w : World) (s : State) (frame : Frame) (map : TypeMap) (span : _) (e : Expr) → Fine an w s → Runs an w s frame
    → Held an frame map s → Inside frame (of_stat (the_stat span (CallStat e))) (stats_of (the_stat span (CallStat e)))
    → Placed an frame (seen_stat (rules_of an frame) map (the_stat span (CallStat e)))
    → Ends an (stat_of an frame (the_stat span (CallStat e))) w s (Leads an frame map (the_stat span (CallStat e))) (stat an.program l frame (the_stat span (CallStat e)) s)
unfolding ◌>>=◌
call_stat_forward an l fwd w s frame map span e f r h inside placed =
    ends_stat an an.program l (expr_of an frame e) w s frame span (CallStat e) (Leads an frame map (the_stat span (CallStat e))) f
    (λ t v g k p. ends_then an (expr_of an frame e) v t (λ vs u. Held an frame (after (rules_of an frame) map e) u) (Leads an frame map (the_stat span (CallStat e))) (l.values frame e t)
    (λ x. give Falls)
    (ends_so an (expr_of an frame e) v t (Gives an frame map e) (λ vs u. Held an frame (after (rules_of an frame) map e) u) (l.values frame e t)
    (λ vs u y q d j z. held_after an v y t u frame map (effects (rules_of an frame) e) g (runs_kept an (expr_of an frame e) w v s t frame k r) j (held_same an s t frame map p h))
    (fwd.values v t frame map e g (runs_kept an (expr_of an frame e) w v s t frame k r) (held_same an s t frame map p h)
    (record { nodes = inside.nodes; stats = sub_tail (the_stat span (CallStat e)) (stats_of_expr e) (stats_of_block frame.reading.block) inside.stats }) placed))
    (λ vs u y d j z. ends_give an (expr_of an frame e) y u (Leads an frame map (the_stat span (CallStat e))) Falls d z))

pub call_stat_backward : (an : Analysis) (l : Layer) → Fit an → Forward an l → Backward an l → (w : World) (s : State) (frame : Frame) (map : TypeMap) (span : _) (e : Expr)
    (behind breaks_to continues_to : Context) → Fine an w s → Runs an w s frame
    → Held an frame map s → Inside frame (of_stat (the_stat span (CallStat e))) (stats_of (the_stat span (CallStat e)))
    → Placed an frame (seen_stat (rules_of an frame) map (the_stat span (CallStat e)))
    → Marked an frame (found_stat (rules_of an frame) (seen_of an frame) (the_stat span (CallStat e)) behind breaks_to continues_to)
    → (ending : Ending) (t : State) → stat an.program l frame (the_stat span (CallStat e)) s ≡ Gave ending t
    → Trouble an frame (stm (rules_of an frame) (seen_of an frame) (the_stat span (CallStat e)) behind breaks_to continues_to) s t → EndsBad an frame behind breaks_to continues_to ending t
unfolding ◌>>=◌ give
call_stat_backward an l fit fwd bwd w s frame map span e behind breaks_to continues_to f r h inside placed marked ending t q y =
    by_step (stat_gave an.program l frame span (CallStat e) s ending t q)
  where
    by_step : (m : State) × Same s m × (execute an.program l frame (CallStat e) m ≡ Gave ending t) → EndsBad an frame behind breaks_to continues_to ending t
    by_step p = by_value (gave_then (l.values frame e p.0) (λ x. give Falls) ending t p.2)
      where
        by_value : (vs : List Value) × (u : State) × (l.values frame e p.0 ≡ Gave vs u) × (give Falls u ≡ Gave ending t) → EndsBad an frame behind breaks_to continues_to ending t
        by_value g = same_end an frame behind breaks_to continues_to Falls ending g.1 t g.3 (by_world
            (ends_gave an (expr_of an frame e) w p.0 (Gives an frame map e) (l.values frame e p.0) g.0 g.1 g.2
            (fwd.values w p.0 frame map e (fine_same an w s p.0 p.1.0 p.1.1 f)
            (runs_kept an (expr_of an frame e) w w s p.0 frame (kept_same an (expr_of an frame e) w s p.0 p.1.0 p.1.1) r) (held_same an s p.0 frame map p.1 h)
            (record { nodes = inside.nodes; stats = sub_tail (the_stat span (CallStat e)) (stats_of_expr e) (stats_of_block frame.reading.block) inside.stats }) placed))
            (bwd.values w p.0 frame map e [] (fine_same an w s p.0 p.1.0 p.1.1 f)
            (runs_kept an (expr_of an frame e) w w s p.0 frame (kept_same an (expr_of an frame e) w s p.0 p.1.0 p.1.1) r) (held_same an s p.0 frame map p.1 h)
            (record { nodes = inside.nodes; stats = sub_tail (the_stat span (CallStat e)) (stats_of_expr e) (stats_of_block frame.reading.block) inside.stats }) placed marked g.0 g.1 g.2)
            (trouble_same an frame (followed (ev (rules_of an frame) (seen_of an frame) e never) (effects (rules_of an frame) e) behind) s p.0 t p.1 y))
          where
            by_world : (v : World) × Fine an v g.1 × Kept an (expr_of an frame e) w p.0 v g.1 × Gives an frame map e g.0 g.1 → Pays an frame e p.0 g.0 g.1
                → Trouble an frame (followed (ev (rules_of an frame) (seen_of an frame) e never) (effects (rules_of an frame) e) behind) p.0 t → Violated an frame behind g.1
            by_world z pays (inl x) = by_side (violated_followed an w z.0 p.0 g.1 frame (ev (rules_of an frame) (seen_of an frame) e never) behind (effects (rules_of an frame) e)
                (fine_same an w s p.0 p.1.0 p.1.1 f)
                (runs_kept an (expr_of an frame e) w w s p.0 frame (kept_same an (expr_of an frame e) w s p.0 p.1.0 p.1.1) r) z.2 x)
              where
                by_side : Violated an frame (ev (rules_of an frame) (seen_of an frame) e never) p.0 ⊎ Violated an frame behind g.1 → Violated an frame behind g.1
                by_side (inl k) = absurd (unchecked_context an frame e p.0 g.0 g.1 pays k)
                by_side (inr k) = k
            by_world z pays (inr x) = absurd (omega (
              arith,
              x,
              unchecked_count an w s frame e g.0 p.0 g.1 fit r marked pays,
              ap (λ (k : State). reached an frame.activation k.trace) (gave_same Falls ending g.1 t g.3).1,
            ))
