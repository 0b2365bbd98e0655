-- Compound assignments, forward and backward.
use Rattle.std.proofs.Common.{◌≡◌, ℕ, ◌+◌, ◌<◌, ◌==◌, Bool, true, false, not, ◌||◌, List, [], ◌∷◌, ◌++◌, ◌⊎◌, inl, inr, refl, sym, ◌∙◌, ap, subst, arith}
use Rattle.luau_values.specs.Value.{Value}
use Rattle.luau_values.specs.Stands.{Stands}
use Rattle.luau_tree.specs.Tree.{Expr, the_expr, ExprKind, the_stat, Compound}
use Rattle.luau_tree.specs.declared.names.BinOp.{BinOp}
use Rattle.luau_tree.specs.declared.names.Op.TheVariants.{Binary as BinaryOp}
use Rattle.luau_tree.specs.declared.names.Place.TheVariants.{Expr as ExprPlace}
use Rattle.luau_run.specs.SyntaxNode.{of_block, of_stat, of_expr}
use Rattle.luau_run.specs.Machine.{Reach, Store, State, Gave, Part, go_on, ◌>>=◌, give, log}
use Rattle.luau_run.specs.Layer.{Frame, Ending, Falls, Layer, first}
use Rattle.luau_run.specs.Operators.{binary}
use Rattle.luau_run.specs.Expressions.{value}
use Rattle.luau_run.specs.Statements.{Target, target, read_from, write_to, stat, execute}
use Rattle.type_arena.specs.Term.{Term}
use Rattle.type_normal.specs.Holds.{holds}
use Rattle.type_normal.specs.Failing.{write_fail}
use Rattle.type_normal.proofs.Public.{free_later}
use Rattle.subtype_check.proofs.Public.{below_includes}
use Rattle.report_rules.specs.Rules.{Rules}
use Rattle.report_rules.specs.Effects.{OfLocal, OfGlobal, OfField, OfElement, target_of, effects, is_in_table, writes_local}
use Rattle.report_rules.specs.Effects as rules_say
use Rattle.report_rules.specs.TypeMap.{TypeMap, written}
use Rattle.report_rules.specs.Forward.{typ, after, type_of_target}
use Rattle.report_rules.specs.After.{compound_type}
use Rattle.report_rules.specs.Seen.{seen_expr, seen_target, seen_stat}
use Rattle.report_rules.specs.Context.{Context}
use Rattle.report_rules.specs.Checks.{Operand, type_of, operand_set}
use Rattle.report_rules.specs.Statements.{before_write, old_set, old_kinds, old_left, added_kinds, ev_added, stm}
use Rattle.report_rules.specs.Findings.{found, found_compound, found_stat}
use Rattle.report_rules.specs.Reports.{findings}
use Rattle.run_frame.specs.Analysis.{Analysis}
use Rattle.run_frame.specs.Statements.{stats_of, stats_of_expr, stats_of_block}
use Rattle.run_frame.specs.Fit.{IsFitStat, Fit}
use Rattle.run_frame.proofs.World.{World}
use Rattle.run_frame.proofs.Counts.{is_reported, reached, one_if}
use Rattle.run_frame.proofs.Kept.{Doer, MayMore, Kept, kept_same}
use Rattle.run_frame.proofs.Fine.{Fine, fine_same}
use Rattle.run_frame.proofs.Held.{Runs, runs_kept, Held, held_same, held_store, Violated, violated_same}
use Rattle.run_frame.proofs.Parts.{Ends, Same, ends_then, ends_so, ends_more, ends_give, ends_gave, gave_then, gave_same}
use Rattle.run_frame.proofs.Activations.{IsReached, ends_reached}
use Rattle.run_frame.proofs.Layers.{rules_of, seen_of, part_of, expr_of, stat_of, Inside, Placed, Marked, Leads, EndsBad, Trouble, Forward, Backward}
use Rattle.run_frame.proofs.Readings.{contains_head, all_contained, sub_tail, sub_left, sub_right, fits}
use Rattle.run_frame.proofs.Lists.{FirstOf}
use Rattle.run_frame.proofs.Marks.{mark_tells, seen_typed, typed_at, checked_below}
use Rattle.run_frame.proofs.Blocks.{same_end}
use Rattle.run_frame.proofs.Statements.{ends_stat, stat_gave, trouble_same}
use Rattle.run_frame.proofs.Forms.{value_gave, Evaluated, evaluated, After, value_forward}
use Rattle.run_frame.proofs.ListsBack.{left_in, by_set, operand_then}
use Rattle.run_frame.proofs.Operators.{BinGives, ends_binary, binary_typed, left_fails, right_fails}
use Rattle.reports_certain.proofs.ManyWrites.{MayWrite}
use Rattle.reports_certain.proofs.AloneWrites.{ends_alone}
use Rattle.reports_certain.proofs.WritesLeave.{IsBad, bad_moved, Wrote, one_wrote, violated_behind}
use Rattle.reports_certain.proofs.TargetForms.{TargetGives, target_moved, target_still, TargetBoth, target_reads}
use Rattle.reports_certain.proofs.ReadTargets.{Old, old_ends, old_pays}

-- ---- who writes

same_number : (n : ℕ) → (n == n) ≡ true
same_number n = grind arith

-- a target may be written by who may assign it, where it is a local, and isn't calm, where a table is written
pub may_one : (who : Doer) (rules : Rules) (r : rules_say.Target) → ((x : ℕ) → writes_local x r ≡ true → (who.assigns x ≡ true) × (rules.assigned x ≡ true))
    → (is_in_table r ≡ true → who.calm ≡ false) → MayWrite who rules r
may_one who rules (OfLocal x) locals tables = locals x (same_number x)
may_one who rules OfGlobal locals tables = tt
may_one who rules (OfField o name) locals tables = tables refl
may_one who rules OfElement locals tables = tables refl

second_of : (a b c : Bool) → a || (b || c) ≡ false → b ≡ false
second_of true b c e = cc
second_of false true c e = cc
second_of false false c e = refl

third_of : (a b c : Bool) → a || (b || c) ≡ false → c ≡ false
third_of true b c e = cc
third_of false true c e = cc
third_of false false c e = e

-- ---- forward

module _ (an : Analysis) (l : Layer) (fit : Fit an) (fwd : Forward an l) (w : World) (s : State) (frame : Frame) (map : TypeMap) (span : _) (id : ℕ) (at_span : _) (kind : ExprKind) (op : BinOp) (e : Expr)
    (f : Fine an w s) (r : Runs an w s frame) (h : Held an frame map s)
    (inside : Inside frame (of_stat (the_stat span (Compound (the_expr id at_span kind) op e))) (stats_of (the_stat span (Compound (the_expr id at_span kind) op e))))
    (placed : Placed an frame (seen_stat (rules_of an frame) map (the_stat span (Compound (the_expr id at_span kind) op e)))) where
  -- the target, the map behind it, and who does the statement
  abbrev at : Expr
  at = the_expr id at_span kind

  abbrev map_of : TypeMap
  map_of = after (rules_of an frame) map at

  abbrev who : Doer
  who = stat_of an frame (the_stat span (Compound at op e))

  abbrev leads : Ending → State → Type 0
  leads = Leads an frame map (the_stat span (Compound at op e))

  abbrev new_type : Term
  new_type = compound_type (rules_of an frame) map at op e

  inside_parts : Inside frame (of_expr at ++ of_expr e) (stats_of_expr at ++ stats_of_expr e)
  inside_parts = record {
    nodes = inside.nodes;
    stats = sub_tail (the_stat span (Compound at op e)) (stats_of_expr at ++ stats_of_expr e) (stats_of_block frame.reading.block) inside.stats;
  }

  inside_target : Inside frame (of_expr at) (stats_of_expr at)
  inside_target = record {
    nodes = sub_left (of_expr at) (of_expr e) (of_block frame.reading.block) inside_parts.nodes;
    stats = sub_left (stats_of_expr at) (stats_of_expr e) (stats_of_block frame.reading.block) inside_parts.stats;
  }

  inside_value : Inside frame (of_expr e) (stats_of_expr e)
  inside_value = record {
    nodes = sub_right (of_expr at) (of_expr e) (of_block frame.reading.block) inside_parts.nodes;
    stats = sub_right (stats_of_expr at) (stats_of_expr e) (stats_of_block frame.reading.block) inside_parts.stats;
  }

  placed_target : Placed an frame (seen_target (rules_of an frame) map at)
  placed_target = sub_left (seen_target (rules_of an frame) map at) (seen_expr (rules_of an frame) map_of e) (seen_of an frame) placed

  placed_value : Placed an frame (seen_expr (rules_of an frame) map_of e)
  placed_value = sub_right (seen_target (rules_of an frame) map at) (seen_expr (rules_of an frame) map_of e) (seen_of an frame) placed

  statement_fits : IsFitStat (rules_of an frame) (the_stat span (Compound at op e))
  statement_fits = all_contained (IsFitStat (rules_of an frame)) (stats_of_block frame.reading.block) (the_stat span (Compound at op e)) (fits an w s frame fit r).statements
      (inside.stats (the_stat span (Compound at op e)) (contains_head (the_stat span (Compound at op e)) (stats_of_expr at ++ stats_of_expr e)))

  may_write : MayWrite who (rules_of an frame) (target_of (rules_of an frame) at)
  may_write = may_one who (rules_of an frame) (target_of (rules_of an frame) at) (λ x k. (k, statement_fits.0 x k)) (λ k. uncalm (is_in_table (target_of (rules_of an frame) at)) k)
    where
      uncalm : (b : Bool) → b ≡ true → not (b || (effects (rules_of an frame) at || effects (rules_of an frame) e)) ≡ false
      uncalm true k = refl
      uncalm false k = cc

  may_less : (b : Bool) → (is_in_table (target_of (rules_of an frame) at) || (effects (rules_of an frame) at || effects (rules_of an frame) e) ≡ false → b ≡ false) → MayMore (part_of frame b) who
  may_less b k = record {
    runs = inr refl;
    assigns = λ x q. refl;
    binds = λ x q. q;
    calm = λ q. calm_too b (is_in_table (target_of (rules_of an frame) at) || (effects (rules_of an frame) at || effects (rules_of an frame) e)) k q;
  }
    where
      calm_too : (p q : Bool) → (q ≡ false → p ≡ false) → not q ≡ true → not p ≡ true
      calm_too p true i z = cc
      calm_too p false i z = ap not (i refl)

  may_target : MayMore (part_of frame (effects (rules_of an frame) at)) who
  may_target = may_less (effects (rules_of an frame) at) (second_of (is_in_table (target_of (rules_of an frame) at)) (effects (rules_of an frame) at) (effects (rules_of an frame) e))

  may_value : MayMore (expr_of an frame e) who
  may_value = may_less (effects (rules_of an frame) e) (third_of (is_in_table (target_of (rules_of an frame) at)) (effects (rules_of an frame) at) (effects (rules_of an frame) e))

  write_ends : (y : World) (u : State) (goal : Target) (new : Value) → Fine an y u → Runs an y u frame → Held an frame (after (rules_of an frame) map_of e) u → TargetGives an frame at goal u
      → Stands u.store.heap new → holds u.store.heap new new_type ≡ true → Ends an who y u leads (go_on (write_to frame goal new u) (λ x. give Falls))
  write_ends y u goal new g j held gives there typed = ends_then an who y u
      (λ x t. Held an frame (written (rules_of an frame) (target_of (rules_of an frame) at) new_type (after (rules_of an frame) map_of e)) t) leads (write_to frame goal new u) (λ x. give Falls)
      (ends_alone an frame (fits an w s frame fit r).unassigned who y u (after (rules_of an frame) map_of e) (target_of (rules_of an frame) at) goal new_type new g j held refl gives.met may_write
      there typed gives.stands gives.based)
      (λ x t z c k p. ends_give an who z t leads Falls c p)

  value_ends : (y : World) (b : State) (goal : Target) (old : Value) → Fine an y b → Runs an y b frame → Held an frame map_of b → TargetGives an frame at goal b
      → holds b.store.heap old (type_of_target (rules_of an frame) map at) ≡ true
      → Ends an who y b leads (go_on (value l frame e b) (λ v. ◌>>=◌ (binary an.program op old v) (λ new. ◌>>=◌ (write_to frame goal new) (λ x. give Falls))))
  unfolding ◌>>=◌
  value_ends y b goal old g j held gives old_typed = ends_then an who y b (λ v n. FirstOf (After an frame map_of e) v n × TargetGives an frame at goal n) leads (value l frame e b)
      (λ v. ◌>>=◌ (binary an.program op old v) (λ new. ◌>>=◌ (write_to frame goal new) (λ x. give Falls)))
      (ends_more an (expr_of an frame e) who y b (λ v n. FirstOf (After an frame map_of e) v n × TargetGives an frame at goal n) (value l frame e b) may_value
      (ends_so an (expr_of an frame e) y b (FirstOf (After an frame map_of e)) (λ v n. FirstOf (After an frame map_of e) v n × TargetGives an frame at goal n) (value l frame e b)
      (λ v n z q c k p. (p, target_moved an y z b n frame (effects (rules_of an frame) e) at goal g j k gives))
      (value_forward an l fwd y b frame map_of e g j held inside_value placed_value)))
      (λ v n o c k p. ends_then an who o n (BinGives n op old v) leads (binary an.program op old v n)
      (λ new. ◌>>=◌ (write_to frame goal new) (λ x. give Falls)) (ends_binary an who o n c op old v)
      (λ new u z d i q. write_ends z u goal new d (runs_kept an who o z n u frame i (runs_kept an who y o b n frame k j))
      (held_store an n u frame (after (rules_of an frame) map_of e) q.0.0.0 p.0.2.1)
      (target_still an frame at goal n u q.0.0.0 p.1)
      (subst (λ (x : Store). Stands x.heap new) (sym q.0.0.0) q.0.1)
      (binary_typed op old v new (type_of_target (rules_of an frame) map at) (typ (rules_of an frame) map_of e) b.store.heap n.store.heap u.store.heap old_typed
      (subst (λ (x : Value). holds n.store.heap x (typ (rules_of an frame) map_of e) ≡ true) (sym p.0.1) p.0.2.0.typed) (λ sure. q.0.2 sure u.store.heap))))

  pub compound_forward : Ends an who w s leads (stat an.program l frame (the_stat span (Compound at op e)) s)
  unfolding ◌>>=◌ give
  compound_forward = ends_stat an an.program l who w s frame span (Compound at op e) leads f
      (λ t v g k same. ends_then an who v t (λ x a. IsReached an frame.activation frame.module_at (ExprPlace (record { 0 = id })) t a) leads
      (log (Reach frame.activation frame.module_at (ExprPlace (record { 0 = id }))) t) (λ x. ◌>>=◌ (target l frame at) after_target)
      (ends_reached an who v t frame (ExprPlace (record { 0 = id })) g (runs_kept an who w v s t frame k r) refl)
      (λ x a z d j p. at_target a z d (runs_kept an who v z t a frame j (runs_kept an who w v s t frame k r)) (held_store an t a frame map p.0 (held_same an s t frame map same h))))
    where
      after_target : Target → Part Ending
      after_target goal = ◌>>=◌ (read_from an.program frame goal)
          (λ old. ◌>>=◌ (value l frame e) (λ v. ◌>>=◌ (binary an.program op old v) (λ new. ◌>>=◌ (write_to frame goal new) (λ x. give Falls))))

      at_target : (a : State) (z : World) → Fine an z a → Runs an z a frame → Held an frame map a → Ends an who z a leads (go_on (target l frame at a) after_target)
      at_target a z d j held = ends_then an who z a (λ goal t. TargetBoth an frame map at goal t × Held an frame map_of t) leads (target l frame at a) after_target
          (ends_more an (part_of frame (effects (rules_of an frame) at)) who z a (λ goal t. TargetBoth an frame map at goal t × Held an frame map_of t) (target l frame at a) may_target
          (target_reads an l fit fwd frame z a map at d j held inside_target placed_target))
          (λ goal n y c k p. ends_then an who y n (Old an frame map at n) leads (read_from an.program frame goal n)
          (λ old. ◌>>=◌ (value l frame e) (λ v. ◌>>=◌ (binary an.program op old v) (λ new. ◌>>=◌ (write_to frame goal new) (λ x. give Falls))))
          (old_ends an who y n frame map at goal fit c (runs_kept an who z y a n frame k j) inside_target p.1 p.0.1)
          (λ old b i g q o. value_ends i b goal old g (runs_kept an who y i n b frame q (runs_kept an who z y a n frame k j)) (held_same an n b frame map_of o.0 p.1)
          (target_still an frame at goal n b o.0.0 p.0.0) o.2))

-- ---- backward

counted_true : (b : Bool) (m n : ℕ) → b ≡ false → n ≡ m + one_if b → n ≡ m
counted_true true m n k e = cc
counted_true false m n k e = omega (arith, e)

unreported : (b : Bool) → (b ≡ true → ⊥) → b ≡ false
unreported true k = absurd (k refl)
unreported false k = refl

module _ (an : Analysis) (l : Layer) (fit : Fit an) (fwd : Forward an l) (bwd : Backward an l) (w : World) (s : State) (frame : Frame) (map : TypeMap) (span : _) (id : ℕ) (at_span : _) (kind : ExprKind)
    (op : BinOp) (e : Expr) (behind breaks_to continues_to : Context) (f : Fine an w s) (r : Runs an w s frame) (h : Held an frame map s)
    (inside : Inside frame (of_stat (the_stat span (Compound (the_expr id at_span kind) op e))) (stats_of (the_stat span (Compound (the_expr id at_span kind) op e))))
    (placed : Placed an frame (seen_stat (rules_of an frame) map (the_stat span (Compound (the_expr id at_span kind) op e))))
    (marked : Marked an frame (found_stat (rules_of an frame) (seen_of an frame) (the_stat span (Compound (the_expr id at_span kind) op e)) behind breaks_to continues_to)) where
  -- the target, as it is written and as the rules mean it, the map behind it, and the context of the value
  abbrev it : Expr
  it = the_expr id at_span kind

  abbrev r_of : rules_say.Target
  r_of = target_of (rules_of an frame) it

  abbrev map_at : TypeMap
  map_at = after (rules_of an frame) map it

  abbrev added : Context
  added = ev_added (rules_of an frame) (seen_of an frame) it op e behind

  marked_target : Marked an frame (found_compound (rules_of an frame) (seen_of an frame) (old_kinds (seen_of an frame) it op e) it)
  marked_target = sub_left (found_compound (rules_of an frame) (seen_of an frame) (old_kinds (seen_of an frame) it op e) it)
      (found (rules_of an frame) (seen_of an frame) (added_kinds (seen_of an frame) it op e) e) (findings (rules_of an frame)) marked

  marked_value : Marked an frame (found (rules_of an frame) (seen_of an frame) (added_kinds (seen_of an frame) it op e) e)
  marked_value = sub_right (found_compound (rules_of an frame) (seen_of an frame) (old_kinds (seen_of an frame) it op e) it)
      (found (rules_of an frame) (seen_of an frame) (added_kinds (seen_of an frame) it op e) e) (findings (rules_of an frame)) marked

  target_type : type_of (seen_of an frame) it ≡ type_of_target (rules_of an frame) map it
  target_type = seen_typed an w s frame id (type_of_target (rules_of an frame) map it) (not map.dead) fit r
      (placed_target an l fit fwd w s frame map span id at_span kind op e f r h inside placed _ (contains_head _ _))

  -- the old value isn't in its set, of an operation that gave, nor is the value in its own
  no_old : (a n u : State) (old v new : Value) → holds n.store.heap v (typ (rules_of an frame) map_at e) ≡ true → binary an.program op old v n ≡ Gave new u
      → holds a.store.heap old (old_set (seen_of an frame) op e) ≡ true → ⊥
  no_old a n u old v new typed gave k = left_fails an.program op old v a.store.heap n.store.heap (type_of (seen_of an frame) e) n new u k
      (subst (λ (type : Term). holds n.store.heap v type ≡ true)
      (sym (typed_at an w s frame map_at e fit r (placed_value an l fit fwd w s frame map span id at_span kind op e f r h inside placed))) typed) gave

  no_added : (a n u : State) (old v new : Value) → holds a.store.heap old (type_of_target (rules_of an frame) map it) ≡ true → binary an.program op old v n ≡ Gave new u
      → holds n.store.heap v (operand_set op (type_of (seen_of an frame) it)) ≡ true → ⊥
  no_added a n u old v new typed gave k = right_fails an.program op old v n.store.heap a.store.heap (type_of (seen_of an frame) it) n new u k
      (subst (λ (type : Term). holds a.store.heap old type ≡ true) (sym target_type) typed) gave

  -- so the target's place isn't reported
  target_quiet : (a : State) (old : Value) → holds a.store.heap old (type_of_target (rules_of an frame) map it) ≡ true
      → (holds a.store.heap old (old_set (seen_of an frame) op e) ≡ true → ⊥) → is_reported an frame.module_at (ExprPlace (record { 0 = id })) ≡ false
  target_quiet a old typed none = unreported (is_reported an frame.module_at (ExprPlace (record { 0 = id })))
      (λ k. none (below_includes a.store.heap old (type_of (seen_of an frame) it) (old_set (seen_of an frame) op e)
      (checked_below (seen_of an frame) it (old_set (seen_of an frame) op e) (Operand (BinaryOp op))
      (mark_tells an w s frame id (record { place = ExprPlace (record { 0 = id }); at = at_span; kinds = old_kinds (seen_of an frame) it op e }) fit r
      (marked_target _ (contains_head _ _)) refl k))
      (subst (λ (type : Term). holds a.store.heap old type ≡ true) (sym target_type) typed)))

  -- the value was added and written
  value_bad : (v : World) (b t : State) (goal : Target) (old : Value) (c : State) (x : Value) (u : State) (new : Value) (d : State) (y : Unit {0}) (ending : Ending) → Fine an v b → Runs an v b frame
      → Held an frame map_at b → holds b.store.heap old (type_of_target (rules_of an frame) map it) ≡ true → TargetGives an frame it goal b → value l frame e b ≡ Gave x c
      → binary an.program op old x c ≡ Gave new u → write_to frame goal new u ≡ Gave y d → Gave Falls d ≡ Gave ending t
      → ((holds b.store.heap old (old_set (seen_of an frame) op e) ≡ true → ⊥) → (IsBad b.store.heap goal → ⊥) → Trouble an frame added b t) → EndsBad an frame behind breaks_to continues_to ending t
  value_bad v b t goal old c x u new d y ending g j held typed gives gave_value gave_new gave_write at_end trouble = by_value (value_gave l frame e b x c gave_value)
    where
      by_value : (xs : List Value) × (l.values frame e b ≡ Gave xs c) × (x ≡ first xs) → EndsBad an frame behind breaks_to continues_to ending t
      by_value (xs, k, same) = by_evaluated (evaluated an l fwd bwd v b frame map_at e (added_kinds (seen_of an frame) it op e) g j held
          (inside_value an l fit fwd w s frame map span id at_span kind op e f r h inside placed)
          (placed_value an l fit fwd w s frame map span id at_span kind op e f r h inside placed) marked_value xs c k)
        where
          by_evaluated : Evaluated an v b frame map_at e xs c → EndsBad an frame behind breaks_to continues_to ending t
          by_evaluated o = by_new (ends_gave an (expr_of an frame e) o.world c (BinGives c op old x) (binary an.program op old x c) new u gave_new
              (ends_binary an (expr_of an frame e) o.world c o.fine op old x))
            where
              typed_value : holds c.store.heap x (typ (rules_of an frame) map_at e) ≡ true
              typed_value = subst (λ (z : Value). holds c.store.heap z (typ (rules_of an frame) map_at e) ≡ true) (sym same) o.gives.typed

              by_new : (z : World) × Fine an z u × Kept an (expr_of an frame e) o.world c z u × BinGives c op old x new u → EndsBad an frame behind breaks_to continues_to ending t
              by_new (z, fine_u, kept, p) = same_end an frame behind breaks_to continues_to Falls ending d t at_end
                  (by_side (operand_then an v b frame map_at e (by_set an frame e (operand_set op (type_of (seen_of an frame) it)) (Operand (BinaryOp op))) (before_write r_of behind) xs c t fit g j
                  (placed_value an l fit fwd w s frame map span id at_span kind op e f r h inside placed) marked_value o
                  (trouble (no_old b c u old x new typed_value gave_new) (λ i. wrote.good (inl (bad_moved b.store.heap u.store.heap goal unwritable i))))))
                where
                  wrote : Wrote frame (r_of ∷ []) (goal ∷ []) u d
                  wrote = one_wrote an z frame r_of goal u d new y fine_u.bound gives.met gave_write

                  unwritable : (a : Value) → holds b.store.heap a write_fail ≡ true → holds u.store.heap a write_fail ≡ true
                  unwritable a i = subst (λ (q : Store). holds q.heap a write_fail ≡ true) (sym p.0.0.0) (free_later b.store.heap c.store.heap a write_fail refl o.kept.heap i)

                  logged : t.trace ≡ c.trace
                  logged = ap (λ (q : State). q.trace) (sym (gave_same Falls ending d t at_end).1) ∙ (wrote.trace ∙ p.0.0.1)

                  by_side : (holds c.store.heap (first xs) (operand_set op (type_of (seen_of an frame) it)) ≡ true) ⊎ Trouble an frame (before_write r_of behind) c t → Violated an frame behind d
                  by_side (inl q) = absurd (no_added b c u old x new typed gave_new (subst (λ (i : Value). holds c.store.heap i (operand_set op (type_of (seen_of an frame) it)) ≡ true) (sym same) q))
                  by_side (inr (inl q)) = violated_behind an frame (r_of ∷ []) (goal ∷ []) behind u d wrote (violated_same an c u frame (before_write r_of behind) p.0.0.0 q)
                  by_side (inr (inr q)) = absurd (omega (arith, q, ap (λ trace. reached an frame.activation trace) logged))

  pub compound_backward : (ending : Ending) (t : State) → stat an.program l frame (the_stat span (Compound it op e)) s ≡ Gave ending t
      → Trouble an frame (stm (rules_of an frame) (seen_of an frame) (the_stat span (Compound it op e)) behind breaks_to continues_to) s t → EndsBad an frame behind breaks_to continues_to ending t
  unfolding ◌>>=◌ give
  compound_backward ending t q y = by_step (stat_gave an.program l frame span (Compound it op e) s ending t q)
    where
      At_op : Target → Value → Value → Part Ending
      At_op goal old v = ◌>>=◌ (binary an.program op old v) (λ new. ◌>>=◌ (write_to frame goal new) (λ x. give Falls))

      At_value : Target → Value → Part Ending
      At_value goal old = ◌>>=◌ (value l frame e) (At_op goal old)

      At_read : Target → Part Ending
      At_read goal = ◌>>=◌ (read_from an.program frame goal) (At_value goal)

      by_step : (m : State) × Same s m × (execute an.program l frame (Compound it op e) m ≡ Gave ending t) → EndsBad an frame behind breaks_to continues_to ending t
      by_step (m, same, k) = by_log (gave_then (log (Reach frame.activation frame.module_at (ExprPlace (record { 0 = id }))) m) (λ x. ◌>>=◌ (target l frame it) At_read) ending t k)
        where
          fine_m : Fine an w m
          fine_m = fine_same an w s m same.0 same.1 f

          runs_m : Runs an w m frame
          runs_m = runs_kept an (expr_of an frame e) w w s m frame (kept_same an (expr_of an frame e) w s m same.0 same.1) r

          by_log : (x : Unit {0}) × (a : State) × (log (Reach frame.activation frame.module_at (ExprPlace (record { 0 = id }))) m ≡ Gave x a) × (go_on (target l frame it a) At_read ≡ Gave ending t)
              → EndsBad an frame behind breaks_to continues_to ending t
          by_log (x, a, gave_log, gave_rest) = by_target
              (ends_gave an (expr_of an frame e) w m (λ x a. IsReached an frame.activation frame.module_at (ExprPlace (record { 0 = id })) m a)
              (log (Reach frame.activation frame.module_at (ExprPlace (record { 0 = id }))) m) x a gave_log
              (ends_reached an (expr_of an frame e) w m frame (ExprPlace (record { 0 = id })) fine_m runs_m refl))
              (gave_then (target l frame it a) At_read ending t gave_rest)
            where
              by_target : (v : World) × Fine an v a × Kept an (expr_of an frame e) w m v a × IsReached an frame.activation frame.module_at (ExprPlace (record { 0 = id })) m a
                  → (goal : Target) × (n : State) × (target l frame it a ≡ Gave goal n) × (go_on (read_from an.program frame goal n) (At_value goal) ≡ Gave ending t)
                  → EndsBad an frame behind breaks_to continues_to ending t
              by_target (v, fine_a, kept_a, reach) (goal, n, gave_goal, gave_read) = by_read
                  (ends_gave an (part_of frame (effects (rules_of an frame) it)) v a (λ g i. TargetBoth an frame map it g i × Held an frame map_at i) (target l frame it a) goal n gave_goal
                  (target_reads an l fit fwd frame v a map it fine_a runs_a held_a inside_it placed_it))
                  (gave_then (read_from an.program frame goal n) (At_value goal) ending t gave_read)
                where
                  runs_a : Runs an v a frame
                  runs_a = runs_kept an (expr_of an frame e) w v m a frame kept_a runs_m

                  held_a : Held an frame map a
                  held_a = held_store an m a frame map reach.0 (held_same an s m frame map same h)

                  inside_it : Inside frame (of_expr it) (stats_of_expr it)
                  inside_it = inside_target an l fit fwd w s frame map span id at_span kind op e f r h inside placed

                  placed_it : Placed an frame (seen_target (rules_of an frame) map it)
                  placed_it = placed_target an l fit fwd w s frame map span id at_span kind op e f r h inside placed

                  by_read : (z : World) × Fine an z n × Kept an (part_of frame (effects (rules_of an frame) it)) v a z n × (TargetBoth an frame map it goal n × Held an frame map_at n)
                      → (old : Value) × (b : State) × (read_from an.program frame goal n ≡ Gave old b) × (go_on (value l frame e b) (At_op goal old) ≡ Gave ending t)
                      → EndsBad an frame behind breaks_to continues_to ending t
                  by_read (z, fine_n, kept_n, (both, held_n)) (old, b, gave_old, gave_value) = by_old
                      (ends_gave an (expr_of an frame e) z n (Old an frame map it n) (read_from an.program frame goal n) old b gave_old
                      (old_ends an (expr_of an frame e) z n frame map it goal fit fine_n runs_n inside_it held_n both.1))
                      (gave_then (value l frame e b) (At_op goal old) ending t gave_value)
                    where
                      runs_n : Runs an z n frame
                      runs_n = runs_kept an (part_of frame (effects (rules_of an frame) it)) v z a n frame kept_n runs_a

                      by_old : (i : World) × Fine an i b × Kept an (expr_of an frame e) z n i b × Old an frame map it n old b
                          → (x : Value) × (c : State) × (value l frame e b ≡ Gave x c) × (go_on (binary an.program op old x c) (λ new. ◌>>=◌ (write_to frame goal new) (λ x. give Falls)) ≡ Gave ending t)
                          → EndsBad an frame behind breaks_to continues_to ending t
                      by_old (i, fine_b, kept_b, (same_b, stands, typed)) (x, c, gave_x, gave_op) = by_op
                          (gave_then (binary an.program op old x c) (λ new. ◌>>=◌ (write_to frame goal new) (λ x. give Falls)) ending t gave_op)
                        where
                          to_added : (holds b.store.heap old (old_set (seen_of an frame) op e) ≡ true → ⊥) → (IsBad b.store.heap goal → ⊥) → Trouble an frame added b t
                          to_added none good = old_pays an l fit fwd bwd frame v a map it (old_kinds (seen_of an frame) it op e) (old_left (seen_of an frame) it op e) added fine_a runs_a held_a inside_it placed_it
                              marked_target goal n old b t gave_goal gave_old (λ j. none (left_in (old_kinds (seen_of an frame) it op e) (old_set (seen_of an frame) op e) b.store.heap old j))
                              (λ j. good (bad_moved n.store.heap b.store.heap goal (λ u p. subst (λ (st : Store). holds st.heap u write_fail ≡ true) (sym same_b.0) p) j))
                              (at_log (trouble_same an frame (stm (rules_of an frame) (seen_of an frame) (the_stat span (Compound it op e)) behind breaks_to continues_to) s m t same y))
                            where
                              at_log : Trouble an frame (stm (rules_of an frame) (seen_of an frame) (the_stat span (Compound it op e)) behind breaks_to continues_to) m t
                                  → Trouble an frame (stm (rules_of an frame) (seen_of an frame) (the_stat span (Compound it op e)) behind breaks_to continues_to) a t
                              at_log (inl j) = inl (violated_same an m a frame (stm (rules_of an frame) (seen_of an frame) (the_stat span (Compound it op e)) behind breaks_to continues_to) reach.0 j)
                              at_log (inr j) = inr (subst (λ (count : ℕ). count < reached an frame.activation t.trace)
                                  (sym (counted_true (is_reported an frame.module_at (ExprPlace (record { 0 = id }))) (reached an frame.activation m.trace) (reached an frame.activation a.trace)
                                  (target_quiet b old typed none) reach.1)) j)

                          by_op : (new : Value) × (u : State) × (binary an.program op old x c ≡ Gave new u) × (go_on (write_to frame goal new u) (λ x. give Falls) ≡ Gave ending t)
                              → EndsBad an frame behind breaks_to continues_to ending t
                          by_op (new, u, gave_new, gave_last) = by_write (gave_then (write_to frame goal new u) (λ x. give Falls) ending t gave_last)
                            where
                              by_write : (j : Unit {0}) × (d : State) × (write_to frame goal new u ≡ Gave j d) × (give Falls d ≡ Gave ending t) → EndsBad an frame behind breaks_to continues_to ending t
                              by_write (j, d, gave_write, at_end) = value_bad i b t goal old c x u new d j ending fine_b (runs_kept an (expr_of an frame e) z i n b frame kept_b runs_n)
                                  (held_same an n b frame map_at same_b held_n) typed (target_still an frame it goal n b same_b.0 both.0) gave_x gave_new gave_write at_end to_added
