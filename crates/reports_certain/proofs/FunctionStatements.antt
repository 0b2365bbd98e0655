-- Function statements, forward and backward: of a target, and of a method.
use Rattle.std.proofs.Common.{◌≡◌, ℕ, Bool, true, false, not, ◌||◌, List, [], ◌∷◌, ◌++◌, Option, Some, None, ◌⊎◌, inl, inr, refl, sym, ◌∙◌, ap, subst, arith}
use Rattle.luau_values.specs.Value.{Value}
use Rattle.luau_values.specs.Stands.{Stands}
use Rattle.luau_values.proofs.Public.{stands_later}
use Rattle.luau_tree.specs.Tree.{Expr, Body, the_stat, FunctionStat}
use Rattle.luau_tree.specs.declared.names.Op.TheVariants.{Write as WriteOp}
use Rattle.luau_run.specs.SyntaxNode.{of_stat, of_expr, of_body}
use Rattle.luau_run.specs.Machine.{State, Gave, Part, go_on, ◌>>=◌, give}
use Rattle.luau_run.specs.Layer.{Frame, Ending, Falls, Layer, first}
use Rattle.luau_run.specs.Operators.{set_field}
use Rattle.luau_run.specs.Expressions.{value, make_closure}
use Rattle.luau_run.specs.Statements.{Target, FieldTarget, target, write_to, stat, execute}
use Rattle.type_arena.specs.Term.{Term}
use Rattle.type_normal.specs.Holds.{holds}
use Rattle.type_normal.specs.Failing.{write_fail}
use Rattle.type_normal.proofs.Public.{free_later}
use Rattle.report_rules.specs.Rules.{local_named}
use Rattle.report_rules.specs.Effects.{OfField, target_of, effects, is_in_table, writes_local, function_target}
use Rattle.report_rules.specs.Effects as rules_say
use Rattle.report_rules.specs.TypeMap.{TypeMap, written}
use Rattle.report_rules.specs.Forward.{literal_type, after}
use Rattle.report_rules.specs.Seen.{seen_expr, seen_target, seen_body, seen_stat}
use Rattle.report_rules.specs.Context.{Context}
use Rattle.report_rules.specs.Checks.{Operand}
use Rattle.report_rules.specs.Statements.{before_write, write_kinds, ev_base, ev_target, stm}
use Rattle.report_rules.specs.Findings.{found, found_target, found_body, found_stat}
use Rattle.report_rules.specs.Reports.{findings}
use Rattle.run_frame.specs.Analysis.{Analysis}
use Rattle.run_frame.specs.Statements.{stats_of, stats_of_expr, stats_of_body, stats_of_block}
use Rattle.run_frame.specs.Fit.{IsFitStat, Fit}
use Rattle.run_frame.proofs.World.{World}
use Rattle.run_frame.proofs.Counts.{reached}
use Rattle.run_frame.proofs.Kept.{Doer, MayMore, Kept, kept_same}
use Rattle.run_frame.proofs.Fine.{Fine, fine_same}
use Rattle.run_frame.proofs.Held.{Runs, runs_kept, Held, held_same, Reads, reads_after, Violated}
use Rattle.run_frame.proofs.Parts.{Ends, Same, ends_then, ends_so, ends_more, ends_give, ends_gave, gave_then, gave_same}
use Rattle.run_frame.proofs.Closures.{LeavesAll, Belongs, IsLiteral, ends_closure}
use Rattle.run_frame.proofs.Layers.{rules_of, seen_of, part_of, stat_of, Inside, Placed, Marked, Leads, EndsBad, Trouble, Forward, Backward}
use Rattle.run_frame.proofs.Readings.{contains_head, all_contained, sub_tail, sub_left, sub_right, fits, reads_same}
use Rattle.run_frame.proofs.Passing.{held_after, violated_after}
use Rattle.run_frame.proofs.Lists.{FirstOf, inside_left, inside_right}
use Rattle.run_frame.proofs.Blocks.{same_end}
use Rattle.run_frame.proofs.Statements.{ends_stat, stat_gave, trouble_same}
use Rattle.run_frame.proofs.Forms.{value_gave, evaluated, After, value_forward, first_stands}
use Rattle.run_frame.proofs.ListsBack.{by_set, operand_then}
use Rattle.body_runs.proofs.LiteralForms.{body_belongs, literal_typed, literal_stands}
use Rattle.reports_certain.proofs.FieldWrites.{Meets, base_in}
use Rattle.reports_certain.proofs.ManyWrites.{MayWrite}
use Rattle.reports_certain.proofs.AloneWrites.{IsBased, ends_alone}
use Rattle.reports_certain.proofs.WritesLeave.{IsBad, bad_moved, Wrote, one_wrote, violated_behind}
use Rattle.reports_certain.proofs.TargetForms.{TargetGives, TargetBoth, target_reads, target_pays}
use Rattle.reports_certain.proofs.CompoundForms.{may_one}

-- what a function statement writes to, as the run reached it: as the rules mean it, with a base that stands and is what its local holds
record Reached (an : Analysis) (frame : Frame) (r : rules_say.Target) (goal : Target) (t : State) : Type 0 where
  met : Meets r goal
  stands : Stands t.store.heap (base_in goal)
  based : IsBased an frame t r (base_in goal)

unwritable_later : (an : Analysis) (who : Doer) (w v : World) (s t : State) (goal : Target) → Kept an who w s v t → IsBad s.store.heap goal → IsBad t.store.heap goal
unwritable_later an who w v s t goal k h = bad_moved s.store.heap t.store.heap goal (λ x e. free_later s.store.heap t.store.heap x write_fail refl k.heap e) h

-- ---- the closure and the write, once it is known where to

module _ (an : Analysis) (l : Layer) (fit : Fit an) (w : World) (s : State) (frame : Frame) (map : TypeMap) (span : _) (path : Expr) (method : Option (List ℕ)) (code : Body) (f : Fine an w s)
    (r : Runs an w s frame)
    (inside : Inside frame (of_stat (the_stat span (FunctionStat path method code))) (stats_of (the_stat span (FunctionStat path method code))))
    (placed : Placed an frame (seen_body (rules_of an frame) (after (rules_of an frame) map path) code)) where
  abbrev who : Doer
  who = stat_of an frame (the_stat span (FunctionStat path method code))

  abbrev rule_target : rules_say.Target
  rule_target = function_target (rules_of an frame) path method

  abbrev map_of : TypeMap
  map_of = after (rules_of an frame) map path

  abbrev new_type : Term
  new_type = literal_type (rules_of an frame) code

  abbrev leads : Ending → State → Type 0
  leads = Leads an frame map (the_stat span (FunctionStat path method code))

  inside_parts : Inside frame (of_expr path ++ of_body code) (stats_of_expr path ++ stats_of_body code)
  inside_parts = record {
    nodes = inside.nodes;
    stats = sub_tail (the_stat span (FunctionStat path method code)) (stats_of_expr path ++ stats_of_body code) (stats_of_block frame.reading.block) inside.stats;
  }

  inside_path : Inside frame (of_expr path) (stats_of_expr path)
  inside_path = inside_left frame (of_expr path) (of_body code) (stats_of_expr path) (stats_of_body code) inside_parts

  belongs : Belongs an frame map_of code
  belongs = body_belongs an w s frame map_of code fit r (inside_right frame (of_expr path) (of_body code) (stats_of_expr path) (stats_of_body code) inside_parts) placed

  statement_fits : IsFitStat (rules_of an frame) (the_stat span (FunctionStat path method code))
  statement_fits = all_contained (IsFitStat (rules_of an frame)) (stats_of_block frame.reading.block) (the_stat span (FunctionStat path method code)) (fits an w s frame fit r).statements
      (inside.stats (the_stat span (FunctionStat path method code)) (contains_head (the_stat span (FunctionStat path method code)) (stats_of_expr path ++ stats_of_body code)))

  may_write : MayWrite who (rules_of an frame) rule_target
  may_write = may_one who (rules_of an frame) rule_target (λ x k. (k, statement_fits.0 x k)) (λ k. uncalm (is_in_table rule_target) k)
    where
      uncalm : (b : Bool) → b ≡ true → not (b || effects (rules_of an frame) path) ≡ false
      uncalm true k = refl
      uncalm false k = cc

  may_path : MayMore (part_of frame (effects (rules_of an frame) path)) who
  may_path = record { runs = inr refl; assigns = λ x k. refl; binds = λ x k. k; calm = λ k. second (is_in_table rule_target) (effects (rules_of an frame) path) k }
    where
      second : (a b : Bool) → not (a || b) ≡ true → not b ≡ true
      second true b k = cc
      second false b k = k

  may_make : MayMore (part_of frame false) who
  may_make = record { runs = inr refl; assigns = λ x k. refl; binds = λ x k. k; calm = λ k. refl }

  -- the closure is there; the map still matches, and what is written to is as it was
  abbrev Made : Target → State → Value → State → Type 0
  Made goal m v u = (IsLiteral frame code v × LeavesAll m u) × Held an frame map_of u × Reached an frame rule_target goal u

  made_ends : (goal : Target) (v : World) (m : State) → Fine an v m → Runs an v m frame → Held an frame map_of m → Reached an frame rule_target goal m
      → Ends an (part_of frame false) v m (Made goal m) (make_closure frame code m)
  made_ends goal v m g k q at = ends_so an (part_of frame false) v m (λ x u. IsLiteral frame code x × LeavesAll m u) (Made goal m) (make_closure frame code m)
      (λ x u y e d j p. (
        p,
        held_after an v y m u frame map_of false g k j q,
        record {
          met = at.met;
          stands = stands_later m.store.heap u.store.heap (base_in goal) j.heap at.stands;
          based = λ z is firm. let b : (c : ℕ) × Reads frame m z c (base_in goal) = at.based z is firm in
              (b.0, reads_after an (part_of frame false) v y m u frame g k j z b.0 (base_in goal) refl refl firm b.1);
        },
      ))
      (ends_closure an (part_of frame false) v m frame map_of code g k q belongs)

  rest_ends : (goal : Target) (v : World) (m : State) → Fine an v m → Runs an v m frame → Held an frame map_of m → Reached an frame rule_target goal m
      → Ends an who v m leads (go_on (make_closure frame code m) (λ closure. ◌>>=◌ (write_to frame goal closure) (λ x. give Falls)))
  unfolding ◌>>=◌
  rest_ends goal v m g k q at = ends_then an who v m (Made goal m) leads (make_closure frame code m) (λ closure. ◌>>=◌ (write_to frame goal closure) (λ x. give Falls))
      (ends_more an (part_of frame false) who v m (Made goal m) (make_closure frame code m) may_make (made_ends goal v m g k q at))
      (λ new u y d j p. ends_then an who y u (λ x t. Held an frame (written (rules_of an frame) rule_target new_type map_of) t) leads (write_to frame goal new u) (λ x. give Falls)
      (ends_alone an frame (fits an w s frame fit r).unassigned who y u map_of rule_target goal new_type new d (runs_kept an who v y m u frame j k) p.1 refl p.2.met may_write
      (literal_stands frame code new u.store.heap p.0.0) (literal_typed an frame code new u.store.heap (reads_same an w s frame fit r) p.0.0) p.2.stands p.2.based)
      (λ x t z c i n. ends_give an who z t leads Falls c n))

  -- what gave ends with the context behind violated
  rest_bad : (behind breaks_to continues_to : Context) (ending : Ending) (t : State) (goal : Target) (v : World) (m : State) → Fine an v m → Runs an v m frame → Held an frame map_of m
      → Reached an frame rule_target goal m → go_on (make_closure frame code m) (λ closure. ◌>>=◌ (write_to frame goal closure) (λ x. give Falls)) ≡ Gave ending t
      → IsBad m.store.heap goal ⊎ Trouble an frame (before_write rule_target behind) m t → EndsBad an frame behind breaks_to continues_to ending t
  unfolding ◌>>=◌ give
  rest_bad behind breaks_to continues_to ending t goal v m g k q at gave y = by_closure (gave_then (make_closure frame code m) (λ closure. ◌>>=◌ (write_to frame goal closure) (λ x. give Falls)) ending t gave)
    where
      by_closure : (new : Value) × (u : State) × (make_closure frame code m ≡ Gave new u) × (◌>>=◌ (write_to frame goal new) (λ x. give Falls) u ≡ Gave ending t) → EndsBad an frame behind breaks_to continues_to ending t
      by_closure (new, u, made, rest) = by_made (ends_gave an (part_of frame false) v m (Made goal m) (make_closure frame code m) new u made (made_ends goal v m g k q at))
          (gave_then (write_to frame goal new u) (λ x. give Falls) ending t rest)
        where
          by_made : (z : World) × Fine an z u × Kept an (part_of frame false) v m z u × Made goal m new u
              → (x : Unit {0}) × (d : State) × (write_to frame goal new u ≡ Gave x d) × (give Falls d ≡ Gave ending t) → EndsBad an frame behind breaks_to continues_to ending t
          by_made (z, fine_u, kept, p) (x, d, wrote, at_end) = same_end an frame behind breaks_to continues_to Falls ending d t at_end (by_side y)
            where
              left : Wrote frame (rule_target ∷ []) (goal ∷ []) u d
              left = one_wrote an z frame rule_target goal u d new x fine_u.bound p.2.met wrote

              logged : t.trace ≡ m.trace
              logged = ap (λ (n : State). n.trace) (sym (gave_same Falls ending d t at_end).1) ∙ (left.trace ∙ p.0.1.4)

              by_side : IsBad m.store.heap goal ⊎ Trouble an frame (before_write rule_target behind) m t → Violated an frame behind d
              by_side (inl n) = absurd (left.good (inl (unwritable_later an (part_of frame false) v z m u goal kept n)))
              by_side (inr (inl n)) = violated_behind an frame (rule_target ∷ []) (goal ∷ []) behind u d left (violated_after an v z m u frame (before_write rule_target behind) false g k kept n)
              by_side (inr (inr n)) = absurd (omega (arith, n, ap (λ trace. reached an frame.activation trace) logged))

-- ---- a target

module _ (an : Analysis) (l : Layer) (fit : Fit an) (fwd : Forward an l) (w : World) (s : State) (frame : Frame) (map : TypeMap) (span : _) (path : Expr) (code : Body) (f : Fine an w s)
    (r : Runs an w s frame) (h : Held an frame map s)
    (inside : Inside frame (of_stat (the_stat span (FunctionStat path None code))) (stats_of (the_stat span (FunctionStat path None code))))
    (placed : Placed an frame (seen_stat (rules_of an frame) map (the_stat span (FunctionStat path None code)))) where
  placed_target : Placed an frame (seen_target (rules_of an frame) map path)
  placed_target = sub_left (seen_target (rules_of an frame) map path) (seen_body (rules_of an frame) (after (rules_of an frame) map path) code) (seen_of an frame) placed

  placed_body : Placed an frame (seen_body (rules_of an frame) (after (rules_of an frame) map path) code)
  placed_body = sub_right (seen_target (rules_of an frame) map path) (seen_body (rules_of an frame) (after (rules_of an frame) map path) code) (seen_of an frame) placed

  reached_at : (goal : Target) (t : State) → TargetGives an frame path goal t → Reached an frame (target_of (rules_of an frame) path) goal t
  reached_at goal t g = record { met = g.met; stands = g.stands; based = g.based }

  abbrev Targeted : Target → State → Type 0
  Targeted goal t = TargetBoth an frame map path goal t × Held an frame (after (rules_of an frame) map path) t

  target_there : (v : World) (m : State) → Fine an v m → Runs an v m frame → Held an frame map m → Ends an (part_of frame (effects (rules_of an frame) path)) v m Targeted (target l frame path m)
  target_there v m g k q = target_reads an l fit fwd frame v m map path g k q (inside_path an l fit w s frame map span path None code f r inside placed_body) placed_target

  pub function_forward : Ends an (stat_of an frame (the_stat span (FunctionStat path None code))) w s (Leads an frame map (the_stat span (FunctionStat path None code)))
      (stat an.program l frame (the_stat span (FunctionStat path None code)) s)
  unfolding ◌>>=◌
  function_forward = ends_stat an an.program l doer w s frame span (FunctionStat path None code) (Leads an frame map (the_stat span (FunctionStat path None code))) f
      (λ m v g k same. ends_then an doer v m Targeted (Leads an frame map (the_stat span (FunctionStat path None code))) (target l frame path m)
      (λ goal. ◌>>=◌ (make_closure frame code) (λ closure. ◌>>=◌ (write_to frame goal closure) (λ x. give Falls)))
      (ends_more an (part_of frame (effects (rules_of an frame) path)) doer v m Targeted (target l frame path m) (may_path an l fit w s frame map span path None code f r inside placed_body)
      (target_there v m g (runs_kept an doer w v s m frame k r) (held_same an s m frame map same h)))
      (λ goal u y d j p. rest_ends an l fit w s frame map span path None code f r inside placed_body goal y u d (runs_kept an doer v y m u frame j (runs_kept an doer w v s m frame k r)) p.1
      (reached_at goal u p.0.0)))
    where
      doer : Doer
      doer = stat_of an frame (the_stat span (FunctionStat path None code))

  pub function_backward : Backward an l → (behind breaks_to continues_to : Context) → Marked an frame (found_stat (rules_of an frame) (seen_of an frame) (the_stat span (FunctionStat path None code)) behind breaks_to continues_to)
      → (ending : Ending) (t : State) → stat an.program l frame (the_stat span (FunctionStat path None code)) s ≡ Gave ending t
      → Trouble an frame (stm (rules_of an frame) (seen_of an frame) (the_stat span (FunctionStat path None code)) behind breaks_to continues_to) s t
      → EndsBad an frame behind breaks_to continues_to ending t
  unfolding ◌>>=◌
  function_backward bwd behind breaks_to continues_to marked ending t q y = by_step (stat_gave an.program l frame span (FunctionStat path None code) s ending t q)
    where
      rest : Target → Part Ending
      rest goal = ◌>>=◌ (make_closure frame code) (λ closure. ◌>>=◌ (write_to frame goal closure) (λ x. give Falls))

      marked_target : Marked an frame (found_target (rules_of an frame) (seen_of an frame) [] path)
      marked_target = sub_left (found_target (rules_of an frame) (seen_of an frame) [] path) (found_body (rules_of an frame) (seen_of an frame) code) (findings (rules_of an frame)) marked

      by_step : (m : State) × Same s m × (execute an.program l frame (FunctionStat path None code) m ≡ Gave ending t) → EndsBad an frame behind breaks_to continues_to ending t
      by_step (m, same, k) = by_target (gave_then (target l frame path m) rest ending t k)
        where
          fine_m : Fine an w m
          fine_m = fine_same an w s m same.0 same.1 f

          runs_m : Runs an w m frame
          runs_m = runs_kept an (part_of frame false) w w s m frame (kept_same an (part_of frame false) w s m same.0 same.1) r

          held_m : Held an frame map m
          held_m = held_same an s m frame map same h

          by_target : (goal : Target) × (u : State) × (target l frame path m ≡ Gave goal u) × (rest goal u ≡ Gave ending t) → EndsBad an frame behind breaks_to continues_to ending t
          by_target (goal, u, gave_goal, gave_rest) = by_goal
              (ends_gave an (part_of frame (effects (rules_of an frame) path)) w m Targeted (target l frame path m) goal u gave_goal (target_there w m fine_m runs_m held_m))
            where
              by_goal : (v : World) × Fine an v u × Kept an (part_of frame (effects (rules_of an frame) path)) w m v u × Targeted goal u → EndsBad an frame behind breaks_to continues_to ending t
              by_goal (v, fine_u, kept, p) = rest_bad an l fit w s frame map span path None code f r inside placed_body behind breaks_to continues_to ending t goal v u fine_u
                  (runs_kept an (part_of frame (effects (rules_of an frame) path)) w v m u frame kept runs_m) p.1 (reached_at goal u p.0.0) gave_rest
                  (target_pays an l fit fwd bwd frame w m map path (before_write (target_of (rules_of an frame) path) behind) fine_m runs_m held_m
                  (inside_path an l fit w s frame map span path None code f r inside placed_body) placed_target marked_target goal u t gave_goal
                  (trouble_same an frame (ev_target (rules_of an frame) (seen_of an frame) path (before_write (target_of (rules_of an frame) path) behind)) s m t same y))

-- ---- a method

module _ (an : Analysis) (l : Layer) (fit : Fit an) (fwd : Forward an l) (w : World) (s : State) (frame : Frame) (map : TypeMap) (span : _) (path : Expr) (method : List ℕ) (code : Body) (f : Fine an w s)
    (r : Runs an w s frame) (h : Held an frame map s)
    (inside : Inside frame (of_stat (the_stat span (FunctionStat path (Some method) code))) (stats_of (the_stat span (FunctionStat path (Some method) code))))
    (placed : Placed an frame (seen_stat (rules_of an frame) map (the_stat span (FunctionStat path (Some method) code)))) where
  -- the field that is written, of a base
  abbrev field_of_base : Value → Target
  field_of_base base = FieldTarget (record { value = base; is_library = false }) method

  placed_path : Placed an frame (seen_expr (rules_of an frame) map path)
  placed_path = sub_left (seen_expr (rules_of an frame) map path) (seen_body (rules_of an frame) (after (rules_of an frame) map path) code) (seen_of an frame) placed

  placed_code : Placed an frame (seen_body (rules_of an frame) (after (rules_of an frame) map path) code)
  placed_code = sub_right (seen_expr (rules_of an frame) map path) (seen_body (rules_of an frame) (after (rules_of an frame) map path) code) (seen_of an frame) placed

  method_at : (base : Value) (u : State) → FirstOf (After an frame map path) base u → Reached an frame (OfField (local_named (rules_of an frame) path) method) (field_of_base base) u
  method_at base u (vs, is, (g, held)) = record {
    met = refl;
    stands = subst (λ (v : Value). Stands u.store.heap v) (sym is) (first_stands u.store.heap vs g.stand);
    based = λ x e firm. let p : (c : ℕ) × Reads frame u x c (first vs) = g.local x e firm in (p.0, subst (λ (v : Value). Reads frame u x p.0 v) (sym is) p.1);
  }

  base_there : (v : World) (m : State) → Fine an v m → Runs an v m frame → Held an frame map m
      → Ends an (part_of frame (effects (rules_of an frame) path)) v m (FirstOf (After an frame map path)) (value l frame path m)
  base_there v m g k q = value_forward an l fwd v m frame map path g k q (inside_path an l fit w s frame map span path (Some method) code f r inside placed_code) placed_path

  pub defined_forward : Ends an (stat_of an frame (the_stat span (FunctionStat path (Some method) code))) w s (Leads an frame map (the_stat span (FunctionStat path (Some method) code)))
      (stat an.program l frame (the_stat span (FunctionStat path (Some method) code)) s)
  unfolding ◌>>=◌
  defined_forward = ends_stat an an.program l doer w s frame span (FunctionStat path (Some method) code) (Leads an frame map (the_stat span (FunctionStat path (Some method) code))) f
      (λ m v g k same. ends_then an doer v m (FirstOf (After an frame map path)) (Leads an frame map (the_stat span (FunctionStat path (Some method) code))) (value l frame path m)
      (λ base. ◌>>=◌ (make_closure frame code) (λ closure. ◌>>=◌ (set_field method closure base) (λ x. give Falls)))
      (ends_more an (part_of frame (effects (rules_of an frame) path)) doer v m (FirstOf (After an frame map path)) (value l frame path m)
      (may_path an l fit w s frame map span path (Some method) code f r inside placed_code)
      (base_there v m g (runs_kept an doer w v s m frame k r) (held_same an s m frame map same h)))
      (λ base u y d j p. rest_ends an l fit w s frame map span path (Some method) code f r inside placed_code (field_of_base base) y u d
      (runs_kept an doer v y m u frame j (runs_kept an doer w v s m frame k r)) p.2.1 (method_at base u p)))
    where
      doer : Doer
      doer = stat_of an frame (the_stat span (FunctionStat path (Some method) code))

  pub defined_backward : Backward an l → (behind breaks_to continues_to : Context)
      → Marked an frame (found_stat (rules_of an frame) (seen_of an frame) (the_stat span (FunctionStat path (Some method) code)) behind breaks_to continues_to)
      → (ending : Ending) (t : State) → stat an.program l frame (the_stat span (FunctionStat path (Some method) code)) s ≡ Gave ending t
      → Trouble an frame (stm (rules_of an frame) (seen_of an frame) (the_stat span (FunctionStat path (Some method) code)) behind breaks_to continues_to) s t
      → EndsBad an frame behind breaks_to continues_to ending t
  unfolding ◌>>=◌
  defined_backward bwd behind breaks_to continues_to marked ending t q y = by_step (stat_gave an.program l frame span (FunctionStat path (Some method) code) s ending t q)
    where
      r_of : rules_say.Target
      r_of = OfField (local_named (rules_of an frame) path) method

      rest : Value → Part Ending
      rest base = ◌>>=◌ (make_closure frame code) (λ closure. ◌>>=◌ (set_field method closure base) (λ x. give Falls))

      marked_path : Marked an frame (found (rules_of an frame) (seen_of an frame) (write_kinds (seen_of an frame) path) path)
      marked_path = sub_left (found (rules_of an frame) (seen_of an frame) (write_kinds (seen_of an frame) path) path) (found_body (rules_of an frame) (seen_of an frame) code) (findings (rules_of an frame)) marked

      by_step : (m : State) × Same s m × (execute an.program l frame (FunctionStat path (Some method) code) m ≡ Gave ending t) → EndsBad an frame behind breaks_to continues_to ending t
      by_step (m, same, k) = by_base (gave_then (value l frame path m) rest ending t k)
        where
          fine_m : Fine an w m
          fine_m = fine_same an w s m same.0 same.1 f

          runs_m : Runs an w m frame
          runs_m = runs_kept an (part_of frame false) w w s m frame (kept_same an (part_of frame false) w s m same.0 same.1) r

          held_m : Held an frame map m
          held_m = held_same an s m frame map same h

          by_base : (base : Value) × (u : State) × (value l frame path m ≡ Gave base u) × (rest base u ≡ Gave ending t) → EndsBad an frame behind breaks_to continues_to ending t
          by_base (base, u, gave_base, gave_rest) = by_values (value_gave l frame path m base u gave_base)
              (ends_gave an (part_of frame (effects (rules_of an frame) path)) w m (FirstOf (After an frame map path)) (value l frame path m) base u gave_base (base_there w m fine_m runs_m held_m))
            where
              by_values : (vs : List Value) × (l.values frame path m ≡ Gave vs u) × (base ≡ first vs)
                  → (v : World) × Fine an v u × Kept an (part_of frame (effects (rules_of an frame) path)) w m v u × FirstOf (After an frame map path) base u
                  → EndsBad an frame behind breaks_to continues_to ending t
              by_values (vs, c, is) (v, fine_u, kept, p) = rest_bad an l fit w s frame map span path (Some method) code f r inside placed_code behind breaks_to continues_to ending t (field_of_base base) v u
                  fine_u (runs_kept an (part_of frame (effects (rules_of an frame) path)) w v m u frame kept runs_m) p.2.1 (method_at base u p) gave_rest (by_side
                  (operand_then an w m frame map path (by_set an frame path write_fail (Operand WriteOp)) (before_write r_of behind) vs u t fit fine_m runs_m placed_path marked_path
                  (evaluated an l fwd bwd w m frame map path (write_kinds (seen_of an frame) path) fine_m runs_m held_m
                  (inside_path an l fit w s frame map span path (Some method) code f r inside placed_code) placed_path marked_path vs u c)
                  (trouble_same an frame (ev_base (rules_of an frame) (seen_of an frame) path (before_write r_of behind)) s m t same y)))
                where
                  by_side : (holds u.store.heap (first vs) write_fail ≡ true) ⊎ Trouble an frame (before_write r_of behind) u t
                      → IsBad u.store.heap (field_of_base base) ⊎ Trouble an frame (before_write r_of behind) u t
                  by_side (inl n) = inl (subst (λ (x : Value). holds u.store.heap x write_fail ≡ true) (sym is) n)
                  by_side (inr n) = inr n
