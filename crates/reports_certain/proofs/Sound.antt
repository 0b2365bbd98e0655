-- What the proof says of the layers of a program, and so of its runs.
use Rattle.std.proofs.Common.{◌≡◌, ◌+◌, ℕ, zero, suc, Bool, true, false, if◌then◌else◌, List, Option, Some, None, is_some, length, ◌⊎◌, refl, sym, ◌∙◌, ap, subst, slice_get}
use Rattle.luau_values.specs.Value.{Value}
use Rattle.luau_values.specs.Grows.{Grows}
use Rattle.luau_tree.specs.Tree.{Expr, the_expr, Stat, the_stat}
use Rattle.luau_run.specs.SyntaxNode.{of_expr, of_stat}
use Rattle.luau_run.specs.Machine.{State, Ran, Gave, Spent, Part, spend}
use Rattle.luau_run.specs.Layer.{Frame, Ending, Loop, WhileLoop, RepeatLoop, NumLoop, FunctionLoop, TableLoop, OtherLoop}
use Rattle.luau_run.specs.Calls.{enter_module}
use Rattle.luau_run.specs.Expressions.{values}
use Rattle.luau_run.specs.Loops.{turns}
use Rattle.luau_run.specs.Statements.{stat}
use Rattle.luau_run.specs.Run.{lowest, layer_of, start, end_of}
use Rattle.luau_run.specs.Certain.{Certain}
use Rattle.luau_run.proofs.FreezeFacts.{freeze_call_grows}
use Rattle.report_rules.specs.TypeMap.{TypeMap}
use Rattle.report_rules.specs.Seen.{seen_expr, seen_stat}
use Rattle.report_rules.specs.Context.{Context, none}
use Rattle.report_rules.specs.Checks.{ReportKind}
use Rattle.report_rules.specs.Statements.{stm}
use Rattle.report_rules.specs.Findings.{found, found_stat}
use Rattle.run_frame.specs.Analysis.{Analysis}
use Rattle.run_frame.specs.Statements.{stats_of, stats_of_expr}
use Rattle.run_frame.specs.Fit.{Fit}
use Rattle.run_frame.proofs.World.{World, no_world}
use Rattle.run_frame.proofs.Kept.{nobody}
use Rattle.run_frame.proofs.Fine.{Fine}
use Rattle.run_frame.proofs.Held.{Runs, Held, Violated}
use Rattle.run_frame.proofs.Parts.{Ends, ends_so, gave_not_spent}
use Rattle.run_frame.proofs.Readings.{reads_same}
use Rattle.run_frame.proofs.AtEnd.{fine_start, certain_of}
use Rattle.run_frame.proofs.Layers.{rules_of, seen_of, expr_of, stat_of, Inside, Placed, Marked, Gives, Leads, Pays, EndsBad, Trouble, Forward, Backward, loop_of, nodes_of_loop, stats_of_loop, seen_in_loop, found_in_loop, entry_context, Steady, SteadyContext, IsBelow, LoopStands, Turns}
use Rattle.run_frame.proofs.LooseContexts.{SparesLoose, SparesAll}
use Rattle.reports_certain.proofs.BuiltinActs.{acts_forward}
use Rattle.reports_certain.proofs.BuiltinCalls.{call_forward}
use Rattle.reports_certain.proofs.ClosureCalls.{closures_answer}
use Rattle.reports_certain.proofs.CallForms.{Freezes}
use Rattle.reports_certain.proofs.Modules.{ModuleGives, entered, require_forward}
use Rattle.reports_certain.proofs.WhileForms.{turns_forward as while_turns_forward, turns_backward as while_turns_backward}
use Rattle.reports_certain.proofs.IterationTurns.{is_unfixed}
use Rattle.reports_certain.proofs.IterationLoops.{table_forward, table_backward, other_forward, other_backward, function_forward, function_backward}
use Rattle.reports_certain.proofs.NumberTurns.{turns_forward as number_turns_forward, turns_backward as number_turns_backward}
use Rattle.reports_certain.proofs.RepeatForms.{turns_forward as repeat_turns_forward, turns_backward as repeat_turns_backward}
use Rattle.reports_certain.proofs.Closed.{closed, while_closed, repeat_closed, number_closed, table_closed, other_closed, function_closed, values_closed, stat_closed}
use Rattle.reports_certain.proofs.AllForms.{fits_run, values_forward, stat_forward, values_pays, stat_pays}

-- ---- what holds of each layer

freezes_at : (an : Analysis) (depth : ℕ) → Freezes (closed an (layer_of an.program depth))
freezes_at an depth args vs s t e = subst (λ (r : Ran (List Value)). Grows s.store.heap (end_of r).store.heap) e (freeze_call_grows an.program depth args s)

-- at the lowest layer the run is spent
lowest_turns : (an : Analysis) (frame : Frame) (loop : Loop) (s : State) → (closed an lowest).turns frame loop s ≡ Spent s
unfolding spend
lowest_turns an frame (WhileLoop cond body) s = refl
lowest_turns an frame (RepeatLoop body cond) s = refl
lowest_turns an frame (NumLoop local body) s = by_test (is_some ((rules_of an frame).fixed local))
  where
    by_test : (b : Bool) → (if b then spend else lowest.turns frame (NumLoop local body)) s ≡ Spent s
    by_test true = refl
    by_test false = refl
lowest_turns an frame (FunctionLoop iterator second control binds body) s = by_unfixed (is_unfixed an frame binds) (FunctionLoop iterator second control binds body)
  where
    by_unfixed : (b : Bool) (loop : Loop) → (if b then lowest.turns frame loop else spend) s ≡ Spent s
    by_unfixed true loop = refl
    by_unfixed false loop = refl
lowest_turns an frame (TableLoop binds body) s = by_unfixed (is_unfixed an frame binds) (TableLoop binds body)
  where
    by_unfixed : (b : Bool) (loop : Loop) → (if b then lowest.turns frame loop else spend) s ≡ Spent s
    by_unfixed true loop = refl
    by_unfixed false loop = refl
lowest_turns an frame (OtherLoop binds body) s = by_unfixed (is_unfixed an frame binds) (OtherLoop binds body)
  where
    by_unfixed : (b : Bool) (loop : Loop) → (if b then lowest.turns frame loop else spend) s ≡ Spent s
    by_unfixed true loop = refl
    by_unfixed false loop = refl

lowest_forward : (an : Analysis) → Forward an (closed an lowest)
unfolding spend
lowest_forward an = record {
  values = λ w s frame map e f r h inside placed. f.stays;
  stat = λ w s frame map st f r h inside placed. f.stays;
  turns = λ w s frame map loop f r h steady inside placed there. subst (λ (q : Ran Ending). Ends an (loop_of an frame loop) w s (Turns an frame map loop) q) (sym (lowest_turns an frame loop s)) f.stays;
  call = λ w s callee args f there all. f.stays;
  require = λ w s at other f q. f.stays;
  acts = λ w s freedom aim f. f.stays;
}

lowest_backward : (an : Analysis) → Backward an (closed an lowest)
unfolding spend
lowest_backward an = record {
  values = λ w s frame map e around f r h inside placed marked vs t q. absurd (gave_not_spent s t vs q);
  stat = λ w s frame map st behind breaks_to continues_to f r h inside placed marked spares ending t q y. absurd (gave_not_spent s t ending q);
  turns = λ w s frame map loop behind kept f r h steady steady_context below inside placed marked spares spares_kept there ending t q y.
      absurd (gave_not_spent s t ending (sym (lowest_turns an frame loop s) ∙ q));
}

module _ (an : Analysis) (fit : Fit an) (depth : ℕ) (fwd : Forward an (closed an (layer_of an.program depth))) (bwd : Backward an (closed an (layer_of an.program depth))) where
  next_forward : Forward an (closed an (layer_of an.program (suc depth)))
  unfolding spend
  next_forward = record {
    values = λ w s frame map e f r h inside placed. by_expr w s frame map e f r h inside placed;
    stat = λ w s frame map st f r h inside placed. by_stat w s frame map st f r h inside placed;
    turns = λ w s frame map loop f r h steady inside placed there. by_loop w s frame map loop f r h steady inside placed there;
    call = λ w s callee args f there all. call_forward an depth (closures_answer an fit (layer_of an.program depth) fwd bwd) fwd.acts w s callee args f all;
    require = λ w s at other f q. require_forward an fit (layer_of an.program depth) fwd bwd w s other f;
    acts = λ w s freedom aim f. acts_forward an (layer_of an.program depth) fwd.call fwd.acts w s freedom aim f;
  }
    where
      by_loop : (w : World) (s : State) (frame : Frame) (map : TypeMap) (loop : Loop) → Fine an w s → Runs an w s frame → Held an frame map s → Steady (rules_of an frame) loop map
          → Inside frame (nodes_of_loop loop) (stats_of_loop loop) → Placed an frame (seen_in_loop (rules_of an frame) map loop) → LoopStands s.store.heap loop
          → Ends an (loop_of an frame loop) w s (Turns an frame map loop) ((closed an (layer_of an.program (suc depth))).turns frame loop s)
      by_loop w s frame map (WhileLoop cond body) f r h steady inside placed there =
          subst (λ (q : Ran Ending). Ends an (loop_of an frame (WhileLoop cond body)) w s (Turns an frame map (WhileLoop cond body)) q)
          (while_closed an.program an (layer_of an.program depth) frame cond body s)
          (while_turns_forward an (closed an (layer_of an.program depth)) fwd frame map cond body steady inside placed w s f r h)
      by_loop w s frame map (RepeatLoop body cond) f r h steady inside placed there =
          subst (λ (q : Ran Ending). Ends an (loop_of an frame (RepeatLoop body cond)) w s (Turns an frame map (RepeatLoop body cond)) q)
          (repeat_closed an.program an (layer_of an.program depth) frame body cond s)
          (repeat_turns_forward an (closed an (layer_of an.program depth)) fwd frame map body cond steady inside placed w s f r h)
      by_loop w s frame map (NumLoop local body) f r h steady inside placed there = by_fixed ((rules_of an frame).fixed local) refl
        where
          by_fixed : (o : Option (List ℕ)) → (rules_of an frame).fixed local ≡ o
              → Ends an (loop_of an frame (NumLoop local body)) w s (Turns an frame map (NumLoop local body))
              ((if is_some o then spend else turns an.program (layer_of an.program depth) frame (NumLoop local body)) s)
          by_fixed (Some path) e = f.stays
          by_fixed None e = subst (λ (q : Ran Ending). Ends an (loop_of an frame (NumLoop local body)) w s (Turns an frame map (NumLoop local body)) q)
              (number_closed an.program an (layer_of an.program depth) frame local body s e)
              (number_turns_forward an (closed an (layer_of an.program depth)) fwd frame map local body e steady inside placed w s f r h)
      by_loop w s frame map (FunctionLoop iterator second control binds body) f r h steady inside placed there = by_unfixed (is_unfixed an frame binds) refl
        where
          by_unfixed : (b : Bool) → is_unfixed an frame binds ≡ b → Ends an (loop_of an frame (FunctionLoop iterator second control binds body)) w s (Turns an frame map (FunctionLoop iterator second control binds body))
              ((if b then turns an.program (layer_of an.program depth) frame (FunctionLoop iterator second control binds body) else spend) s)
          by_unfixed false e = f.stays
          by_unfixed true e = subst (λ (q : Ran Ending). Ends an (loop_of an frame (FunctionLoop iterator second control binds body)) w s (Turns an frame map (FunctionLoop iterator second control binds body)) q)
              (function_closed an.program an (layer_of an.program depth) frame iterator second control binds body s e) (function_forward an (closed an (layer_of an.program depth)) fwd frame map binds body e (reads_same an w s frame fit r) inside placed iterator second control steady w s f r h there)
      by_loop w s frame map (TableLoop binds body) f r h steady inside placed there = by_unfixed (is_unfixed an frame binds) refl
        where
          by_unfixed : (b : Bool) → is_unfixed an frame binds ≡ b → Ends an (loop_of an frame (TableLoop binds body)) w s (Turns an frame map (TableLoop binds body))
              ((if b then turns an.program (layer_of an.program depth) frame (TableLoop binds body) else spend) s)
          by_unfixed false e = f.stays
          by_unfixed true e = subst (λ (q : Ran Ending). Ends an (loop_of an frame (TableLoop binds body)) w s (Turns an frame map (TableLoop binds body)) q)
              (table_closed an.program an (layer_of an.program depth) frame binds body s e) (table_forward an (closed an (layer_of an.program depth)) fwd frame map binds body e (reads_same an w s frame fit r) inside placed steady w s f r h)
      by_loop w s frame map (OtherLoop binds body) f r h steady inside placed there = by_unfixed (is_unfixed an frame binds) refl
        where
          by_unfixed : (b : Bool) → is_unfixed an frame binds ≡ b → Ends an (loop_of an frame (OtherLoop binds body)) w s (Turns an frame map (OtherLoop binds body))
              ((if b then turns an.program (layer_of an.program depth) frame (OtherLoop binds body) else spend) s)
          by_unfixed false e = f.stays
          by_unfixed true e = subst (λ (q : Ran Ending). Ends an (loop_of an frame (OtherLoop binds body)) w s (Turns an frame map (OtherLoop binds body)) q)
              (other_closed an.program an (layer_of an.program depth) frame binds body s e) (other_forward an (closed an (layer_of an.program depth)) fwd frame map binds body e (reads_same an w s frame fit r) inside placed steady w s f r h)

      by_expr : (w : World) (s : State) (frame : Frame) (map : TypeMap) (e : Expr) → Fine an w s → Runs an w s frame → Held an frame map s → Inside frame (of_expr e) (stats_of_expr e)
          → Placed an frame (seen_expr (rules_of an frame) map e) → Ends an (expr_of an frame e) w s (Gives an frame map e) (values an.program (layer_of an.program depth) frame e s)
      by_expr w s frame map (the_expr id span kind) f r h inside placed = subst (λ (p : Part (List Value)). Ends an (expr_of an frame (the_expr id span kind)) w s (Gives an frame map (the_expr id span kind)) (p s))
          (values_closed an.program an (layer_of an.program depth) frame id span kind)
          (values_forward an (closed an (layer_of an.program depth)) fit fwd (freezes_at an depth) w s frame map id span kind f r h inside placed)

      by_stat : (w : World) (s : State) (frame : Frame) (map : TypeMap) (st : Stat) → Fine an w s → Runs an w s frame → Held an frame map s → Inside frame (of_stat st) (stats_of st)
          → Placed an frame (seen_stat (rules_of an frame) map st) → Ends an (stat_of an frame st) w s (Leads an frame map st) (stat an.program (layer_of an.program depth) frame st s)
      by_stat w s frame map (the_stat span kind) f r h inside placed = subst (λ (p : Part Ending). Ends an (stat_of an frame (the_stat span kind)) w s (Leads an frame map (the_stat span kind)) (p s))
          (stat_closed an.program an (layer_of an.program depth) frame span kind (fits_run an w s frame span kind fit r inside))
          (stat_forward an (closed an (layer_of an.program depth)) fit fwd (freezes_at an depth) w s frame map span kind f r h inside placed)

  next_backward : Backward an (closed an (layer_of an.program (suc depth)))
  unfolding spend
  next_backward = record {
    values = λ w s frame map e around f r h inside placed marked vs t q. by_expr w s frame map e around f r h inside placed marked vs t q;
    stat = λ w s frame map st behind breaks_to continues_to f r h inside placed marked spares ending t q y.
        by_stat w s frame map st behind breaks_to continues_to f r h inside placed marked spares ending t q y;
    turns = λ w s frame map loop behind kept f r h steady steady_context below inside placed marked spares spares_kept there ending t q y.
        by_loop w s frame map loop behind kept f r h steady steady_context below inside placed marked spares spares_kept there ending t q y;
  }
    where
      by_loop : (w : World) (s : State) (frame : Frame) (map : TypeMap) (loop : Loop) (behind kept : Context) → Fine an w s → Runs an w s frame → Held an frame map s
          → Steady (rules_of an frame) loop map → SteadyContext (rules_of an frame) loop kept → IsBelow kept behind
          → Inside frame (nodes_of_loop loop) (stats_of_loop loop) → Placed an frame (seen_in_loop (rules_of an frame) map loop)
          → Marked an frame (found_in_loop (rules_of an frame) (seen_of an frame) behind kept loop)
          → SparesLoose (rules_of an frame) behind → SparesLoose (rules_of an frame) kept → LoopStands s.store.heap loop
          → (ending : Ending) (t : State) → (closed an (layer_of an.program (suc depth))).turns frame loop s ≡ Gave ending t
          → Trouble an frame (entry_context (rules_of an frame) (seen_of an frame) behind kept loop) s t ⊎ Violated an frame kept s → EndsBad an frame behind none none ending t
      by_loop w s frame map (WhileLoop cond body) behind kept f r h steady steady_context below inside placed marked spares spares_kept there ending t q y =
          while_turns_backward an (closed an (layer_of an.program depth)) fwd frame map cond body steady inside placed fit bwd behind kept steady_context below marked spares spares_kept w s f r h ending t
          (while_closed an.program an (layer_of an.program depth) frame cond body s ∙ q) y
      by_loop w s frame map (RepeatLoop body cond) behind kept f r h steady steady_context below inside placed marked spares spares_kept there ending t q y =
          repeat_turns_backward an (closed an (layer_of an.program depth)) fwd frame map body cond steady inside placed fit bwd behind kept steady_context below marked spares spares_kept w s f r h ending t
          (repeat_closed an.program an (layer_of an.program depth) frame body cond s ∙ q) y
      by_loop w s frame map (NumLoop local body) behind kept f r h steady steady_context below inside placed marked spares spares_kept there ending t q y = by_fixed ((rules_of an frame).fixed local) refl q
        where
          by_fixed : (o : Option (List ℕ)) → (rules_of an frame).fixed local ≡ o
              → (if is_some o then spend else turns an.program (layer_of an.program depth) frame (NumLoop local body)) s ≡ Gave ending t → EndsBad an frame behind none none ending t
          by_fixed (Some path) e k = absurd (gave_not_spent s t ending k)
          by_fixed None e k = number_turns_backward an (closed an (layer_of an.program depth)) fwd frame map local body e steady inside placed bwd behind kept steady_context below marked spares
              spares_kept w s f r h ending t (number_closed an.program an (layer_of an.program depth) frame local body s e ∙ k) y
      by_loop w s frame map (FunctionLoop iterator second control binds body) behind kept f r h steady steady_context below inside placed marked spares spares_kept there ending t q y = by_unfixed (is_unfixed an frame binds) refl q
        where
          by_unfixed : (b : Bool) → is_unfixed an frame binds ≡ b → (if b then turns an.program (layer_of an.program depth) frame (FunctionLoop iterator second control binds body) else spend) s ≡ Gave ending t
              → EndsBad an frame behind none none ending t
          by_unfixed false e k = absurd (gave_not_spent s t ending k)
          by_unfixed true e k = function_backward an (closed an (layer_of an.program depth)) fwd frame map binds body e (reads_same an w s frame fit r) inside placed bwd behind kept below marked spares spares_kept iterator second control steady steady_context w s f r h there ending t (function_closed an.program an (layer_of an.program depth) frame iterator second control binds body s e ∙ k) y
      by_loop w s frame map (TableLoop binds body) behind kept f r h steady steady_context below inside placed marked spares spares_kept there ending t q y = by_unfixed (is_unfixed an frame binds) refl q
        where
          by_unfixed : (b : Bool) → is_unfixed an frame binds ≡ b → (if b then turns an.program (layer_of an.program depth) frame (TableLoop binds body) else spend) s ≡ Gave ending t
              → EndsBad an frame behind none none ending t
          by_unfixed false e k = absurd (gave_not_spent s t ending k)
          by_unfixed true e k = table_backward an (closed an (layer_of an.program depth)) fwd frame map binds body e (reads_same an w s frame fit r) inside placed bwd behind kept below marked spares spares_kept steady steady_context w s f r h ending t (table_closed an.program an (layer_of an.program depth) frame binds body s e ∙ k) y
      by_loop w s frame map (OtherLoop binds body) behind kept f r h steady steady_context below inside placed marked spares spares_kept there ending t q y = by_unfixed (is_unfixed an frame binds) refl q
        where
          by_unfixed : (b : Bool) → is_unfixed an frame binds ≡ b → (if b then turns an.program (layer_of an.program depth) frame (OtherLoop binds body) else spend) s ≡ Gave ending t
              → EndsBad an frame behind none none ending t
          by_unfixed false e k = absurd (gave_not_spent s t ending k)
          by_unfixed true e k = other_backward an (closed an (layer_of an.program depth)) fwd frame map binds body e (reads_same an w s frame fit r) inside placed bwd behind kept below marked spares spares_kept steady steady_context w s f r h ending t (other_closed an.program an (layer_of an.program depth) frame binds body s e ∙ k) y

      by_expr : (w : World) (s : State) (frame : Frame) (map : TypeMap) (e : Expr) (around : List ReportKind) → Fine an w s → Runs an w s frame → Held an frame map s
          → Inside frame (of_expr e) (stats_of_expr e) → Placed an frame (seen_expr (rules_of an frame) map e) → Marked an frame (found (rules_of an frame) (seen_of an frame) around e)
          → (vs : List Value) (t : State) → values an.program (layer_of an.program depth) frame e s ≡ Gave vs t → Pays an frame e s vs t
      by_expr w s frame map (the_expr id span kind) around f r h inside placed marked vs t q =
          values_pays an (closed an (layer_of an.program depth)) fit fwd bwd w s frame map id span kind around f r h inside placed marked vs t
          (ap (λ (p : Part (List Value)). p s) (values_closed an.program an (layer_of an.program depth) frame id span kind) ∙ q)

      by_stat : (w : World) (s : State) (frame : Frame) (map : TypeMap) (st : Stat) (behind breaks_to continues_to : Context) → Fine an w s → Runs an w s frame → Held an frame map s
          → Inside frame (of_stat st) (stats_of st) → Placed an frame (seen_stat (rules_of an frame) map st)
          → Marked an frame (found_stat (rules_of an frame) (seen_of an frame) st behind breaks_to continues_to) → SparesAll (rules_of an frame) behind breaks_to continues_to
          → (ending : Ending) (t : State) → stat an.program (layer_of an.program depth) frame st s ≡ Gave ending t
          → Trouble an frame (stm (rules_of an frame) (seen_of an frame) st behind breaks_to continues_to) s t → EndsBad an frame behind breaks_to continues_to ending t
      by_stat w s frame map (the_stat span kind) behind breaks_to continues_to f r h inside placed marked spares ending t q y =
          stat_pays an (closed an (layer_of an.program depth)) fit fwd bwd w s frame map span kind behind breaks_to continues_to f r h inside placed marked spares ending t
          (ap (λ (p : Part Ending). p s) (stat_closed an.program an (layer_of an.program depth) frame span kind (fits_run an w s frame span kind fit r inside)) ∙ q) y

-- each layer does what the proof says
pub sound : (an : Analysis) → Fit an → (depth : ℕ) → Forward an (closed an (layer_of an.program depth)) × Backward an (closed an (layer_of an.program depth))
sound an fit zero = (lowest_forward an, lowest_backward an)
sound an fit (suc depth) =
    let p : Forward an (closed an (layer_of an.program depth)) × Backward an (closed an (layer_of an.program depth)) = sound an fit depth in
    (next_forward an fit depth p.0 p.1, next_backward an fit depth p.0 p.1)

-- ---- a run

pub all_certain : (an : Analysis) → Fit an → Certain an.program an.reports
all_certain an fit = certain_of an (λ ending t. Unit {0})
    (λ entry steps tape. ends_so an (nobody false) no_world (start an.program steps tape) (ModuleGives an entry) (λ ending t. Unit {0})
    (enter_module (layer_of an.program (suc (steps + length tape))) entry (slice_get an.program.modules entry) (start an.program steps tape)) (λ ending t v e g k p. tt)
    (entered an fit (layer_of an.program (suc (steps + length tape))) (sound an fit (suc (steps + length tape))).0 (sound an fit (suc (steps + length tape))).1
    entry (slice_get an.program.modules entry) refl no_world (start an.program steps tape) (fine_start an steps tape)))
