-- Assignments to names, fields and elements, forward and backward.
use Rattle.std.proofs.Common.{◌≡◌, ℕ, suc, ◌<◌, ◌==◌, Bool, true, false, not, ◌||◌, List, [], ◌∷◌, ◌++◌, length, Option, Some, None, ◌⊎◌, inl, inr, refl, sym, ◌∙◌, ap, subst, arith, drop}
use Rattle.std.specs.List.{AllByRecursion}
use Rattle.luau_values.specs.Value.{Value}
use Rattle.luau_values.specs.Heap.{Heap}
use Rattle.luau_tree.specs.Tree.{the_expr, NameExpr, Exprs, no_exprs, more_exprs, the_stat, Assign}
use Rattle.luau_run.specs.ReadFolder.{are_distinct, local_of}
use Rattle.luau_run.specs.SyntaxNode.{of_block, of_stat, of_exprs}
use Rattle.luau_run.specs.Machine.{State, Ran, Gave, Failed, Spent, go_on, ◌>>=◌, give}
use Rattle.luau_run.specs.Layer.{Frame, Ending, Falls, Layer, first}
use Rattle.luau_run.specs.Expressions.{all_values}
use Rattle.luau_run.specs.Statements.{Target, targets, write_to, write_all, stat, execute}
use Rattle.type_arena.specs.Term.{Term, never}
use Rattle.type_normal.specs.Holds.{holds}
use Rattle.type_normal.specs.HeapFree.{heap_free}
use Rattle.type_normal.specs.Failing.{write_fail}
use Rattle.type_normal.proofs.Public.{never_none, strip_free, strip_below, free_later}
use Rattle.report_rules.specs.Rules.{Rules, loose}
use Rattle.report_rules.specs.Effects.{OfLocal, OfGlobal, OfField, OfElement, targets_of, target_of, any_effects, any_in_table, is_in_table, any_writes_local, writes_local, last_expands}
use Rattle.report_rules.specs.Effects as rules_say
use Rattle.report_rules.specs.TypeMap.{TypeMap, first_type, stored_all}
use Rattle.report_rules.specs.Forward.{after, after_list, types_of_list}
use Rattle.report_rules.specs.After.{after_assign}
use Rattle.report_rules.specs.Seen.{seen_stat, seen_targets, seen_list}
use Rattle.report_rules.specs.Context.{Context, pass}
use Rattle.report_rules.specs.Checks.{count}
use Rattle.report_rules.specs.Statements.{wanted_of_local, wanted_of_targets, ev_values, before_writes, for_values, values_context, stm}
use Rattle.report_rules.specs.Findings.{found_targets, found_values, found_stat}
use Rattle.report_rules.specs.Reports.{findings}
use Rattle.run_frame.specs.Analysis.{Analysis}
use Rattle.run_frame.specs.Statements.{stats_of, stats_of_exprs, stats_of_block}
use Rattle.run_frame.specs.Fit.{IsFitStat, Fit}
use Rattle.run_frame.proofs.World.{World}
use Rattle.run_frame.proofs.Counts.{reached}
use Rattle.run_frame.proofs.Kept.{Doer, MayMore, Kept, kept_same}
use Rattle.run_frame.proofs.Fine.{Fine, fine_same}
use Rattle.run_frame.proofs.Held.{Runs, runs_kept, Held, held_same, Violated}
use Rattle.run_frame.proofs.Parts.{Ends, Same, ends_then, ends_so, ends_more, ends_give, ends_gave, gave_then, gave_same}
use Rattle.run_frame.proofs.LooseContexts.{SparesAll}
use Rattle.run_frame.proofs.Layers.{rules_of, seen_of, part_of, stat_of, Inside, Placed, Marked, Leads, EndsBad, Trouble, Forward, Backward}
use Rattle.run_frame.proofs.Readings.{contains_head, all_contained, sub_tail, sub_left, sub_right, fits}
use Rattle.run_frame.proofs.Passing.{held_after}
use Rattle.run_frame.proofs.Lists.{ListGives, list_forward}
use Rattle.run_frame.proofs.Blocks.{or_left, or_right, same_end}
use Rattle.run_frame.proofs.Statements.{ends_stat, stat_gave, trouble_same}
use Rattle.run_frame.proofs.Wanted.{wanted_set, AreFree, Lasts, SomeWanted, none_wanted, values_pay}
use Rattle.reports_certain.proofs.Writes.{first_there, first_so}
use Rattle.reports_certain.proofs.ManyWrites.{MayWrite, AllMeet, under, held_under, held_disturbed, are_ready, ends_all}
use Rattle.reports_certain.proofs.AloneWrites.{ends_alone}
use Rattle.reports_certain.proofs.WritesLeave.{locals_in, SomeBad, some_bad_moved, Wrote, all_wrote, stripped_type, left_below, left_of, values_in, violated_behind, SomeTarget, Bad, written_bad}
use Rattle.reports_certain.proofs.TargetForms.{AllGive, all_meet, all_moved, targets_forward, targets_pay}

clash : {P : Type 0} (b : Bool) → b ≡ true → b ≡ false → P
clash b p q = cc

in_never : (h : Heap) (v : Value) (P : Type 0) → holds h v never ≡ true → P
in_never h v P e = clash (holds h v never) e (never_none h v)

-- ---- who writes

same_number : (n : ℕ) → (n == n) ≡ true
same_number n = grind arith

-- each target may be written by who may assign each local among them and isn't calm where a table is
pub may_all : (who : Doer) (rules : Rules) (rs : List rules_say.Target) → ((x : ℕ) → any_writes_local x rs ≡ true → (who.assigns x ≡ true) × (rules.assigned x ≡ true))
    → (any_in_table rs ≡ true → who.calm ≡ false) → AllByRecursion (MayWrite who rules) rs
may_all who rules [] locals tables = tt
may_all who rules (r ∷ rs) locals tables = (
  of_target r locals tables,
  may_all who rules rs (λ x e. locals x (or_right (writes_local x r) (any_writes_local x rs) e)) (λ e. tables (or_right (is_in_table r) (any_in_table rs) e)),
)
  where
    of_target : (q : rules_say.Target) → ((x : ℕ) → any_writes_local x (q ∷ rs) ≡ true → (who.assigns x ≡ true) × (rules.assigned x ≡ true)) → (any_in_table (q ∷ rs) ≡ true → who.calm ≡ false)
        → MayWrite who rules q
    of_target (OfLocal x) a b = a x (or_left (x == x) (any_writes_local x rs) (same_number x))
    of_target OfGlobal a b = tt
    of_target (OfField o name) a b = b refl
    of_target OfElement a b = b refl

types_number : (rules : Rules) (map : TypeMap) (es : Exprs) → count es ≡ length (types_of_list rules map es)
types_number rules map no_exprs = refl
types_number rules map (more_exprs e rest) = ap suc (types_number rules (after rules map e) rest)

may_stat : (an : Analysis) (frame : Frame) (span : _) (es values : Exprs) (b : Bool)
    → (any_in_table (targets_of (rules_of an frame) es) || (any_effects (rules_of an frame) es || any_effects (rules_of an frame) values) ≡ false → b ≡ false)
    → MayMore (part_of frame b) (stat_of an frame (the_stat span (Assign es values)))
may_stat an frame span es values b h = record {
  runs = inr refl;
  assigns = λ x e. refl;
  binds = λ x e. e;
  calm = λ e. calm_too b (any_in_table (targets_of (rules_of an frame) es) || (any_effects (rules_of an frame) es || any_effects (rules_of an frame) values)) h e;
}
  where
    calm_too : (p q : Bool) → (q ≡ false → p ≡ false) → not q ≡ true → not p ≡ true
    calm_too p true k e = cc
    calm_too p false k e = ap not (k refl)

second_of : (a b c : Bool) → a || (b || c) ≡ false → b ≡ false
second_of true b c e = cc
second_of false true c e = cc
second_of false false c e = refl

third_of : (a b c : Bool) → a || (b || c) ≡ false → c ≡ false
third_of true b c e = cc
third_of false true c e = cc
third_of false false c e = e

-- ---- one write of a list

same_unit : (r : Ran (Unit {0})) → go_on r (λ x. give tt) ≡ r
unfolding give
same_unit (Gave x t) = refl
same_unit (Failed t) = refl
same_unit (Spent t) = refl

pub one_write : (frame : Frame) (goal : Target) (vs : List Value) (s : State) → write_all frame (goal ∷ []) vs s ≡ write_to frame goal (first vs) s
unfolding ◌>>=◌
one_write frame goal vs s = same_unit (write_to frame goal (first vs) s)

-- ---- forward

-- what values were given, with the map behind them
abbrev Valued : Analysis → Frame → TypeMap → Exprs → List Value → State → Type 0
Valued an frame map values vs t = ListGives an frame map values vs t × Held an frame (after_list (rules_of an frame) map values) t

module _ (an : Analysis) (l : Layer) (fit : Fit an) (fwd : Forward an l) (w : World) (s : State) (frame : Frame) (map : TypeMap) (span : _) (es values : Exprs)
    (f : Fine an w s) (r : Runs an w s frame) (h : Held an frame map s) (inside : Inside frame (of_stat (the_stat span (Assign es values))) (stats_of (the_stat span (Assign es values))))
    (placed : Placed an frame (seen_stat (rules_of an frame) map (the_stat span (Assign es values)))) where
  -- who does the statement, and the map behind the targets
  abbrev who : Doer
  who = stat_of an frame (the_stat span (Assign es values))

  abbrev map_of : TypeMap
  map_of = after_list (rules_of an frame) map es

  inside_parts : Inside frame (of_exprs es ++ of_exprs values) (stats_of_exprs es ++ stats_of_exprs values)
  inside_parts = record {
    nodes = inside.nodes;
    stats = sub_tail (the_stat span (Assign es values)) (stats_of_exprs es ++ stats_of_exprs values) (stats_of_block frame.reading.block) inside.stats;
  }

  inside_targets : Inside frame (of_exprs es) (stats_of_exprs es)
  inside_targets = record {
    nodes = sub_left (of_exprs es) (of_exprs values) (of_block frame.reading.block) inside_parts.nodes;
    stats = sub_left (stats_of_exprs es) (stats_of_exprs values) (stats_of_block frame.reading.block) inside_parts.stats;
  }

  inside_values : Inside frame (of_exprs values) (stats_of_exprs values)
  inside_values = record {
    nodes = sub_right (of_exprs es) (of_exprs values) (of_block frame.reading.block) inside_parts.nodes;
    stats = sub_right (stats_of_exprs es) (stats_of_exprs values) (stats_of_block frame.reading.block) inside_parts.stats;
  }

  placed_targets : Placed an frame (seen_targets (rules_of an frame) map es)
  placed_targets = sub_left (seen_targets (rules_of an frame) map es) (seen_list (rules_of an frame) map_of values) (seen_of an frame) placed

  placed_values : Placed an frame (seen_list (rules_of an frame) map_of values)
  placed_values = sub_right (seen_targets (rules_of an frame) map es) (seen_list (rules_of an frame) map_of values) (seen_of an frame) placed

  statement_fits : IsFitStat (rules_of an frame) (the_stat span (Assign es values))
  statement_fits = all_contained (IsFitStat (rules_of an frame)) (stats_of_block frame.reading.block) (the_stat span (Assign es values)) (fits an w s frame fit r).statements
      (inside.stats (the_stat span (Assign es values)) (contains_head (the_stat span (Assign es values)) (stats_of_exprs es ++ stats_of_exprs values)))

  may_write : AllByRecursion (MayWrite who (rules_of an frame)) (targets_of (rules_of an frame) es)
  may_write = may_all who (rules_of an frame) (targets_of (rules_of an frame) es) (λ x e. (e, statement_fits.0 x e)) (λ e. uncalm (any_in_table (targets_of (rules_of an frame) es)) e)
    where
      uncalm : (b : Bool) → b ≡ true → not (b || (any_effects (rules_of an frame) es || any_effects (rules_of an frame) values)) ≡ false
      uncalm true e = refl
      uncalm false e = cc

  may_targets : MayMore (part_of frame (any_effects (rules_of an frame) es)) who
  may_targets = may_stat an frame span es values (any_effects (rules_of an frame) es)
      (second_of (any_in_table (targets_of (rules_of an frame) es)) (any_effects (rules_of an frame) es) (any_effects (rules_of an frame) values))

  may_values : MayMore (part_of frame (any_effects (rules_of an frame) values)) who
  may_values = may_stat an frame span es values (any_effects (rules_of an frame) values)
      (third_of (any_in_table (targets_of (rules_of an frame) es)) (any_effects (rules_of an frame) es) (any_effects (rules_of an frame) values))

  -- all writes, of targets that are the first of some, of whom all have been evaluated
  several : (y : World) (u : State) (goals : List Target) (vs : List Value) → Fine an y u → Runs an y u frame → AllGive an frame es goals u → Valued an frame map_of values vs u
      → Ends an who y u (λ x t. Held an frame (under (targets_of (rules_of an frame) es) (stored_all (rules_of an frame) (targets_of (rules_of an frame) es) (last_expands values)
      (types_of_list (rules_of an frame) map_of values) (after_list (rules_of an frame) map_of values))) t) (write_all frame goals vs u)
  several y u goals vs g j all (gives, held) = ends_all an frame (fits an w s frame fit r).unassigned who y u (targets_of (rules_of an frame) es) (after_list (rules_of an frame) map_of values)
      (targets_of (rules_of an frame) es) goals (last_expands values) (types_of_list (rules_of an frame) map_of values) vs g j
      (held_under an frame (targets_of (rules_of an frame) es) (after_list (rules_of an frame) map_of values) u held) refl (all_meet an frame es goals u all) may_write (λ name k. k) gives.stand
      (are_ready u.store.heap (targets_of (rules_of an frame) es) (types_of_list (rules_of an frame) map_of values) vs gives.typed)
      (λ e. gives.number e ∙ types_number (rules_of an frame) map_of values)

-- the writes, by how many they are
writes_end : (an : Analysis) (l : Layer) (fit : Fit an) (fwd : Forward an l) (w : World) (s : State) (frame : Frame) (map : TypeMap) (span : _) (es values : Exprs)
    (f : Fine an w s) (r : Runs an w s frame) (h : Held an frame map s) (inside : Inside frame (of_stat (the_stat span (Assign es values))) (stats_of (the_stat span (Assign es values))))
    (placed : Placed an frame (seen_stat (rules_of an frame) map (the_stat span (Assign es values)))) (y : World) (u : State) (goals : List Target) (vs : List Value)
    → Fine an y u → Runs an y u frame → AllGive an frame es goals u → Valued an frame (after_list (rules_of an frame) map es) values vs u
    → Ends an (stat_of an frame (the_stat span (Assign es values))) y u (λ x t. Held an frame (after_assign (rules_of an frame) map es values) t) (write_all frame goals vs u)
writes_end an l fit fwd w s frame map span no_exprs values f r h inside placed y u goals vs g j all valued =
    ends_so an (stat_of an frame (the_stat span (Assign no_exprs values))) y u
    (λ x t. Held an frame (under [] (after_list (rules_of an frame) (after_list (rules_of an frame) map no_exprs) values)) t)
    (λ x t. Held an frame (after_assign (rules_of an frame) map no_exprs values) t) (write_all frame goals vs u)
    (λ x t z e d k p. held_disturbed an frame [] (after_list (rules_of an frame) (after_list (rules_of an frame) map no_exprs) values) t p)
    (several an l fit fwd w s frame map span no_exprs values f r h inside placed y u goals vs g j all valued)
writes_end an l fit fwd w s frame map span (more_exprs e no_exprs) values f r h inside placed y u [] vs g j all valued = absurd all
writes_end an l fit fwd w s frame map span (more_exprs e no_exprs) values f r h inside placed y u (goal ∷ other ∷ goals) vs g j all valued = absurd all.1
writes_end an l fit fwd w s frame map span (more_exprs e no_exprs) values f r h inside placed y u (goal ∷ []) vs g j all valued =
    subst (λ (q : Ran (Unit {0})). Ends an (stat_of an frame (the_stat span (Assign (more_exprs e no_exprs) values))) y u
    (λ x t. Held an frame (after_assign (rules_of an frame) map (more_exprs e no_exprs) values) t) q) (sym (one_write frame goal vs u))
    (ends_alone an frame (fits an w s frame fit r).unassigned (stat_of an frame (the_stat span (Assign (more_exprs e no_exprs) values))) y u
    (after_list (rules_of an frame) (after_list (rules_of an frame) map (more_exprs e no_exprs)) values) (target_of (rules_of an frame) e) goal
    (first_type (last_expands values) (types_of_list (rules_of an frame) (after_list (rules_of an frame) map (more_exprs e no_exprs)) values)) (first vs) g j valued.1 refl all.0.met
    (may_write an l fit fwd w s frame map span (more_exprs e no_exprs) values f r h inside placed).0 (first_there u.store.heap vs valued.0.stand)
    (first_so u.store.heap (last_expands values) (types_of_list (rules_of an frame) (after_list (rules_of an frame) map (more_exprs e no_exprs)) values) vs valued.0.typed
    (λ k. valued.0.number k ∙ types_number (rules_of an frame) (after_list (rules_of an frame) map (more_exprs e no_exprs)) values)) all.0.stands all.0.based)
writes_end an l fit fwd w s frame map span (more_exprs e (more_exprs next rest)) values f r h inside placed y u goals vs g j all valued =
    ends_so an (stat_of an frame (the_stat span (Assign (more_exprs e (more_exprs next rest)) values))) y u
    (λ x t. Held an frame (under (targets_of (rules_of an frame) (more_exprs e (more_exprs next rest))) (stored_all (rules_of an frame) (targets_of (rules_of an frame) (more_exprs e (more_exprs next rest)))
    (last_expands values) (types_of_list (rules_of an frame) (after_list (rules_of an frame) map (more_exprs e (more_exprs next rest))) values)
    (after_list (rules_of an frame) (after_list (rules_of an frame) map (more_exprs e (more_exprs next rest))) values))) t)
    (λ x t. Held an frame (after_assign (rules_of an frame) map (more_exprs e (more_exprs next rest)) values) t) (write_all frame goals vs u)
    (λ x t z q d k p. held_disturbed an frame (targets_of (rules_of an frame) (more_exprs e (more_exprs next rest)))
    (stored_all (rules_of an frame) (targets_of (rules_of an frame) (more_exprs e (more_exprs next rest)))
    (last_expands values) (types_of_list (rules_of an frame) (after_list (rules_of an frame) map (more_exprs e (more_exprs next rest))) values)
    (after_list (rules_of an frame) (after_list (rules_of an frame) map (more_exprs e (more_exprs next rest))) values)) t p)
    (several an l fit fwd w s frame map span (more_exprs e (more_exprs next rest)) values f r h inside placed y u goals vs g j all valued)

pub assign_forward : (an : Analysis) (l : Layer) (fit : Fit an) (fwd : Forward an l) (w : World) (s : State) (frame : Frame) (map : TypeMap) (span : _) (es values : Exprs)
    (f : Fine an w s) (r : Runs an w s frame) (h : Held an frame map s) (inside : Inside frame (of_stat (the_stat span (Assign es values))) (stats_of (the_stat span (Assign es values))))
    (placed : Placed an frame (seen_stat (rules_of an frame) map (the_stat span (Assign es values))))
    → Ends an (stat_of an frame (the_stat span (Assign es values))) w s (Leads an frame map (the_stat span (Assign es values))) (stat an.program l frame (the_stat span (Assign es values)) s)
unfolding ◌>>=◌
assign_forward an l fit fwd w s frame map span es values f r h inside placed =
    ends_stat an an.program l by_stat w s frame span (Assign es values) leads f
    (λ t v g k same. ends_then an by_stat v t (λ goals m. AllGive an frame es goals m × Held an frame after_targets m) leads (targets l frame es t)
    (λ goals. ◌>>=◌ (all_values l frame values) (λ vs. ◌>>=◌ (write_all frame goals vs) (λ x. give Falls)))
    (ends_more an (part_of frame (any_effects (rules_of an frame) es)) by_stat v t (λ goals m. AllGive an frame es goals m × Held an frame after_targets m) (targets l frame es t)
    (may_targets an l fit fwd w s frame map span es values f r h inside placed)
    (targets_forward an l fit fwd frame v t map es g (runs_kept an by_stat w v s t frame k r) (held_same an s t frame map same h)
    (inside_targets an l fit fwd w s frame map span es values f r h inside placed) (placed_targets an l fit fwd w s frame map span es values f r h inside placed)))
    (λ goals m z d j p. after_goals goals m z d (runs_kept an by_stat v z t m frame j (runs_kept an by_stat w v s t frame k r)) p.0 p.1))
  where
    by_stat : Doer
    by_stat = stat_of an frame (the_stat span (Assign es values))

    leads : Ending → State → Type 0
    leads = Leads an frame map (the_stat span (Assign es values))

    after_targets : TypeMap
    after_targets = after_list (rules_of an frame) map es

    after_goals : (goals : List Target) (m : State) (z : World) → Fine an z m → Runs an z m frame → AllGive an frame es goals m → Held an frame after_targets m
        → Ends an by_stat z m leads (go_on (all_values l frame values m) (λ vs. ◌>>=◌ (write_all frame goals vs) (λ x. give Falls)))
    after_goals goals m z d j all held = ends_then an by_stat z m (λ vs u. Valued an frame after_targets values vs u × AllGive an frame es goals u) leads (all_values l frame values m)
        (λ vs. ◌>>=◌ (write_all frame goals vs) (λ x. give Falls))
        (ends_more an (part_of frame (any_effects (rules_of an frame) values)) by_stat z m (λ vs u. Valued an frame after_targets values vs u × AllGive an frame es goals u) (all_values l frame values m)
        (may_values an l fit fwd w s frame map span es values f r h inside placed)
        (ends_so an (part_of frame (any_effects (rules_of an frame) values)) z m (ListGives an frame after_targets values) (λ vs u. Valued an frame after_targets values vs u × AllGive an frame es goals u)
        (all_values l frame values m)
        (λ vs u y q c k p. (
          (p, held_after an z y m u frame after_targets (any_effects (rules_of an frame) values) d j k held),
          all_moved an z y m u frame (any_effects (rules_of an frame) values) es goals d j k all,
        ))
        (list_forward an l fwd z m frame after_targets values d j held (inside_values an l fit fwd w s frame map span es values f r h inside placed)
        (placed_values an l fit fwd w s frame map span es values f r h inside placed))))
        (λ vs u y c k p. ends_then an by_stat y u (λ x t. Held an frame (after_assign (rules_of an frame) map es values) t) leads (write_all frame goals vs u) (λ x. give Falls)
        (writes_end an l fit fwd w s frame map span es values f r h inside placed y u goals vs c (runs_kept an by_stat z y m u frame k j) p.1 p.0)
        (λ x t b i o q. ends_give an by_stat b t leads Falls i q))

-- ---- what is wanted of the values

target_free : (rules : Rules) (context : Context) (es : Exprs) → ((x : ℕ) → heap_free (context x) ≡ true) → AreFree (wanted_of_targets rules context es)
target_free rules context no_exprs h = tt
target_free rules context (more_exprs (the_expr id span (NameExpr name)) rest) h = (free_of (local_of (rules.reading.use_of id)), target_free rules context rest h)
  where
    free_of : (o : Option ℕ) → heap_free (wanted_set (wanted_of_local context name o)) ≡ true
    free_of None = refl
    free_of (Some x) = h x
target_free rules context (more_exprs (the_expr id span _) rest) h = (refl, target_free rules context rest h)

values_last : (an : Analysis) (frame : Frame) (context : Context) (es values : Exprs) (b : Bool) → any_effects (rules_of an frame) values ≡ b
    → Lasts an frame (wanted_of_targets (rules_of an frame) (pass b context) es) values
values_last an frame context es values true e = inr (target_free (rules_of an frame) (pass true context) es (λ x. strip_free (context x)))
values_last an frame context es values false e = inl e

passed_in : (b : Bool) (context : Context) (x : ℕ) (h : Heap) (v : Value) → holds h v (pass b context x) ≡ true → holds h v (context x) ≡ true
passed_in true context x h v e = strip_below h v (context x) e
passed_in false context x h v e = e

some_target : (rules : Rules) (context : Context) (heap : Heap) (ts es : Exprs) (vs : List Value) → SomeWanted heap (wanted_of_targets rules context ts) es vs
    → SomeTarget heap context (targets_of rules ts) es vs
some_target rules context heap ts no_exprs vs h = absurd h
some_target rules context heap no_exprs (more_exprs e rest) vs h = absurd (none_wanted heap (more_exprs e rest) vs h)
some_target rules context heap (more_exprs (the_expr id span (NameExpr name)) ts) (more_exprs e rest) vs (inl h) = of_local (local_of (rules.reading.use_of id)) h
  where
    of_local : (o : Option ℕ) → holds heap (first vs) (wanted_set (wanted_of_local context name o)) ≡ true
        → SomeTarget heap context (rules_say.of_name o ∷ targets_of rules ts) (more_exprs e rest) vs
    of_local None k = in_never heap (first vs) (SomeTarget heap context (OfGlobal ∷ targets_of rules ts) (more_exprs e rest) vs) k
    of_local (Some x) k = inl k
some_target rules context heap (more_exprs (the_expr id span (NameExpr name)) ts) (more_exprs e rest) vs (inr h) = inr (some_target rules context heap ts rest (drop 1 vs) h)
some_target rules context heap (more_exprs (the_expr id span _) ts) (more_exprs e rest) vs (inl h) = in_never heap (first vs) _ h
some_target rules context heap (more_exprs (the_expr id span _) ts) (more_exprs e rest) vs (inr h) = inr (some_target rules context heap ts rest (drop 1 vs) h)

-- ---- backward

module _ (an : Analysis) (l : Layer) (fit : Fit an) (fwd : Forward an l) (bwd : Backward an l) (w : World) (s : State) (frame : Frame) (map : TypeMap) (span : _) (es values : Exprs)
    (behind breaks_to continues_to : Context) (f : Fine an w s) (r : Runs an w s frame) (h : Held an frame map s)
    (inside : Inside frame (of_stat (the_stat span (Assign es values))) (stats_of (the_stat span (Assign es values))))
    (placed : Placed an frame (seen_stat (rules_of an frame) map (the_stat span (Assign es values))))
    (marked : Marked an frame (found_stat (rules_of an frame) (seen_of an frame) (the_stat span (Assign es values)) behind breaks_to continues_to))
    (spares : SparesAll (rules_of an frame) behind breaks_to continues_to) where
  -- the targets, what is wanted of the values, and what stands before the values
  abbrev rs_of : List rules_say.Target
  rs_of = targets_of (rules_of an frame) es

  abbrev at_values : Context
  at_values = values_context (rules_of an frame) rs_of values behind

  abbrev before_values : Context
  before_values = ev_values (rules_of an frame) (seen_of an frame) (wanted_of_targets (rules_of an frame) at_values es) values (before_writes rs_of behind)

  marked_targets : Marked an frame (found_targets (rules_of an frame) (seen_of an frame) es)
  marked_targets = sub_left (found_targets (rules_of an frame) (seen_of an frame) es)
      (found_values (rules_of an frame) (seen_of an frame) (wanted_of_targets (rules_of an frame) at_values es) values) (findings (rules_of an frame)) marked

  marked_values : Marked an frame (found_values (rules_of an frame) (seen_of an frame) (wanted_of_targets (rules_of an frame) at_values es) values)
  marked_values = sub_right (found_targets (rules_of an frame) (seen_of an frame) es)
      (found_values (rules_of an frame) (seen_of an frame) (wanted_of_targets (rules_of an frame) at_values es) values) (findings (rules_of an frame)) marked

  are_apart : are_distinct (locals_in rs_of) ≡ true
  are_apart = (statement_fits an l fit fwd w s frame map span es values f r h inside placed).1

  -- what was written is bad, or another local was
  ends_violated : (v : World) (goals : List Target) (vs : List Value) (u d : State) (x : Unit {0}) → Fine an v u → AllMeet rs_of goals → write_all frame goals vs u ≡ Gave x d → Wrote frame rs_of goals u d
      → SomeWanted u.store.heap (wanted_of_targets (rules_of an frame) at_values es) values vs ⊎ Violated an frame (before_writes rs_of behind) u → Violated an frame behind d
  ends_violated v goals vs u d x g met e wrote (inl k) = by_bad (written_bad an v frame at_values u.store.heap rs_of goals values vs u d x g.bound g.owned are_apart met e
      (some_target (rules_of an frame) at_values u.store.heap es values vs k))
    where
      by_bad : Bad frame d u.store.heap at_values → Violated an frame behind d
      by_bad (y, c, z, reads, b) = by_loose (loose (rules_of an frame) y) refl
        where
          of_value : holds u.store.heap z (stripped_type rs_of (behind y)) ≡ true
          of_value = subst (λ (type : Term). holds u.store.heap z type ≡ true) (values_in rs_of behind y) (passed_in (any_effects (rules_of an frame) values) (for_values rs_of behind) y u.store.heap z b)

          by_loose : (p : Bool) → loose (rules_of an frame) y ≡ p → Violated an frame behind d
          by_loose true n = absurd (spares.0 y n u.store.heap z (left_below rs_of u.store.heap z (behind y) of_value))
          by_loose false n = (y, c, z, n, reads, left_below rs_of d.store.heap z (behind y) (wrote.lasts z (stripped_type rs_of (behind y)) (left_of rs_of (behind y)) of_value))
  ends_violated v goals vs u d x g met e wrote (inr k) = violated_behind an frame rs_of goals behind u d wrote k

  pub assign_backward : (ending : Ending) (t : State) → stat an.program l frame (the_stat span (Assign es values)) s ≡ Gave ending t
      → Trouble an frame (stm (rules_of an frame) (seen_of an frame) (the_stat span (Assign es values)) behind breaks_to continues_to) s t → EndsBad an frame behind breaks_to continues_to ending t
  unfolding ◌>>=◌ give
  assign_backward ending t q y = by_step (stat_gave an.program l frame span (Assign es values) s ending t q)
    where
      by_step : (m : State) × Same s m × (execute an.program l frame (Assign es values) m ≡ Gave ending t) → EndsBad an frame behind breaks_to continues_to ending t
      by_step (m, same, k) = by_targets (gave_then (targets l frame es m) (λ goals. ◌>>=◌ (all_values l frame values) (λ vs. ◌>>=◌ (write_all frame goals vs) (λ x. give Falls))) ending t k)
        where
          fine_m : Fine an w m
          fine_m = fine_same an w s m same.0 same.1 f

          runs_m : Runs an w m frame
          runs_m = runs_kept an (part_of frame false) w w s m frame (kept_same an (part_of frame false) w s m same.0 same.1) r

          held_m : Held an frame map m
          held_m = held_same an s m frame map same h

          by_targets : (goals : List Target) × (n : State) × (targets l frame es m ≡ Gave goals n)
              × (go_on (all_values l frame values n) (λ vs. ◌>>=◌ (write_all frame goals vs) (λ x. give Falls)) ≡ Gave ending t) → EndsBad an frame behind breaks_to continues_to ending t
          by_targets (goals, n, gave_goals, gave_rest) = by_values
              (ends_gave an (part_of frame (any_effects (rules_of an frame) es)) w m (λ gs x. AllGive an frame es gs x × Held an frame (after_list (rules_of an frame) map es) x) (targets l frame es m)
              goals n gave_goals (targets_forward an l fit fwd frame w m map es fine_m runs_m held_m (inside_targets an l fit fwd w s frame map span es values f r h inside placed)
              (placed_targets an l fit fwd w s frame map span es values f r h inside placed)))
              (gave_then (all_values l frame values n) (λ vs. ◌>>=◌ (write_all frame goals vs) (λ x. give Falls)) ending t gave_rest)
            where
              by_values : (z : World) × Fine an z n × Kept an (part_of frame (any_effects (rules_of an frame) es)) w m z n
                  × (AllGive an frame es goals n × Held an frame (after_list (rules_of an frame) map es) n)
                  → (vs : List Value) × (u : State) × (all_values l frame values n ≡ Gave vs u) × (go_on (write_all frame goals vs u) (λ x. give Falls) ≡ Gave ending t)
                  → EndsBad an frame behind breaks_to continues_to ending t
              by_values (z, fine_n, kept_n, (all, held_n)) (vs, u, gave_vs, gave_last) = by_writes
                  (ends_gave an (part_of frame (any_effects (rules_of an frame) values)) z n (ListGives an frame (after_list (rules_of an frame) map es) values) (all_values l frame values n) vs u gave_vs
                  (list_forward an l fwd z n frame (after_list (rules_of an frame) map es) values fine_n runs_n held_n (inside_values an l fit fwd w s frame map span es values f r h inside placed)
                  (placed_values an l fit fwd w s frame map span es values f r h inside placed)))
                  (gave_then (write_all frame goals vs u) (λ x. give Falls) ending t gave_last)
                where
                  runs_n : Runs an z n frame
                  runs_n = runs_kept an (part_of frame (any_effects (rules_of an frame) es)) w z m n frame kept_n runs_m

                  met : AllMeet rs_of goals
                  met = all_meet an frame es goals n all

                  by_writes : (v : World) × Fine an v u × Kept an (part_of frame (any_effects (rules_of an frame) values)) z n v u × ListGives an frame (after_list (rules_of an frame) map es) values vs u
                      → (x : Unit {0}) × (d : State) × (write_all frame goals vs u ≡ Gave x d) × (give Falls d ≡ Gave ending t) → EndsBad an frame behind breaks_to continues_to ending t
                  by_writes (v, g, kept, gives) (x, d, gave_writes, at_end) = same_end an frame behind breaks_to continues_to Falls ending d t at_end
                      (by_side (targets_pay an l fit fwd bwd frame w m map es before_values fine_m runs_m held_m (inside_targets an l fit fwd w s frame map span es values f r h inside placed)
                      (placed_targets an l fit fwd w s frame map span es values f r h inside placed) marked_targets goals n t gave_goals
                      (trouble_same an frame (stm (rules_of an frame) (seen_of an frame) (the_stat span (Assign es values)) behind breaks_to continues_to) s m t same y)))
                    where
                      wrote : Wrote frame rs_of goals u d
                      wrote = all_wrote an v frame rs_of goals vs u d x g.bound met gave_writes

                      logged : t.trace ≡ u.trace
                      logged = ap (λ (i : State). i.trace) (sym (gave_same Falls ending d t at_end).1) ∙ wrote.trace

                      to_values : Trouble an frame before_values n t → Trouble an frame before_values n u
                      to_values (inl i) = inl i
                      to_values (inr i) = inr (subst (λ trace. reached an frame.activation n.trace < reached an frame.activation trace) logged i)

                      by_side : SomeBad n.store.heap goals ⊎ Trouble an frame before_values n t → Violated an frame behind d
                      by_side (inl i) = absurd (wrote.good (some_bad_moved n.store.heap u.store.heap goals (λ a b. free_later n.store.heap u.store.heap a write_fail refl kept.heap b) i))
                      by_side (inr i) = ends_violated v goals vs u d x g met gave_writes wrote
                          (values_pay an l fit fwd bwd z n frame (after_list (rules_of an frame) map es) (wanted_of_targets (rules_of an frame) at_values es) values (before_writes rs_of behind)
                          (values_last an frame (for_values rs_of behind) es values (any_effects (rules_of an frame) values) refl) fine_n runs_n held_n
                          (inside_values an l fit fwd w s frame map span es values f r h inside placed) (placed_values an l fit fwd w s frame map span es values f r h inside placed) marked_values vs u gave_vs
                          (to_values i))
