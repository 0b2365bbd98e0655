-- If-expressions, forward and backward.
use Rattle.std.proofs.Common.{◌≡◌, ℕ, Bool, true, false, ◌||◌, if◌then◌else◌, List, [], ◌∷◌, ◌++◌, ◌⊎◌, inl, inr, refl, sym, ◌∙◌, ap, subst}
use Rattle.luau_values.specs.Value.{Value}
use Rattle.luau_values.specs.Heap.{Heap}
use Rattle.luau_values.specs.Stands.{Stands}
use Rattle.luau_tree.specs.Tree.{Expr, the_expr, IfElse, Choices, no_choices, more_choices}
use Rattle.luau_run.specs.SyntaxNode.{AnExpr, of_expr, of_choices, of_block}
use Rattle.luau_run.specs.Machine.{State, Gave, ◌>>=◌}
use Rattle.luau_run.specs.Layer.{Frame, Layer, first}
use Rattle.luau_run.specs.Operators.{is_true}
use Rattle.luau_run.specs.Expressions.{value, one, values, chosen}
use Rattle.type_arena.specs.Term.{Term, never}
use Rattle.type_normal.specs.Holds.{holds}
use Rattle.type_normal.proofs.Public.{never_none}
use Rattle.report_rules.specs.Effects.{effects, effects_of_choices}
use Rattle.report_rules.specs.TypeMap.{TypeMap, refine}
use Rattle.report_rules.specs.Forward.{typ, type_of_choices, after}
use Rattle.report_rules.specs.Seen.{seen_expr, seen_choices}
use Rattle.report_rules.specs.Context.{branch}
use Rattle.report_rules.specs.Checks.{ReportKind}
use Rattle.report_rules.specs.Errors.{ev, ev_choices}
use Rattle.report_rules.specs.Findings.{found, found_choices}
use Rattle.report_rules.specs.Reports.{findings}
use Rattle.run_frame.specs.Analysis.{Analysis}
use Rattle.run_frame.specs.Statements.{stats_of_expr, stats_of_choices}
use Rattle.run_frame.specs.Fit.{Fit}
use Rattle.run_frame.proofs.World.{World}
use Rattle.run_frame.proofs.Counts.{reached}
use Rattle.run_frame.proofs.Kept.{Doer}
use Rattle.run_frame.proofs.Fine.{Fine}
use Rattle.run_frame.proofs.Held.{Runs, runs_kept, Held, held_store, Violated}
use Rattle.run_frame.proofs.Parts.{Ends, ends_so, ends_then, ends_more, gave_then}
use Rattle.run_frame.proofs.Layers.{rules_of, seen_of, part_of, expr_of, Inside, Placed, Marked, Gives, Pays, Forward, Backward}
use Rattle.run_frame.proofs.Readings.{sub_tail, sub_left, sub_right}
use Rattle.run_frame.proofs.Names.{ends_one}
use Rattle.run_frame.proofs.Passing.{violated_followed}
use Rattle.run_frame.proofs.Lists.{may_part, inside_left, inside_right, first_false, second_false, FirstOf}
use Rattle.run_frame.proofs.Blocks.{in_first, in_second}
use Rattle.run_frame.proofs.Statements.{unchecked_count}
use Rattle.run_frame.proofs.Forms.{one_gave, value_gave, Evaluated, evaluated, IsForm, form_read, form_forward, one_gives, FormPays, form_backward, After, value_forward, first_stands, sub_one, sub_two, sub_three, inside_one, inside_two, inside_three}
use Rattle.run_frame.proofs.Conditions.{shows_all, held_way, way_violated}

-- ---- effects of parts

cond_calm : (a b c d : Bool) → (a || (b || c)) || d ≡ false → a ≡ false
cond_calm a b c d e = first_false a (b || c) (first_false (a || (b || c)) d e)

value_calm : (a b c d : Bool) → (a || (b || c)) || d ≡ false → b ≡ false
value_calm a b c d e = first_false b c (second_false a (b || c) (first_false (a || (b || c)) d e))

rest_calm : (a b c d : Bool) → (a || (b || c)) || d ≡ false → c || d ≡ false
rest_calm a b c d e = both_false c d (second_false b c (second_false a (b || c) (first_false (a || (b || c)) d e))) (second_false (a || (b || c)) d e)
  where
    both_false : (p q : Bool) → p ≡ false → q ≡ false → p || q ≡ false
    both_false true q h k = h
    both_false false q h k = k

-- ---- forward

-- the value stands, and is of the type of the choices
abbrev ChoiceGives : Analysis → Frame → TypeMap → Choices → Expr → Value → State → Type 0
ChoiceGives an frame map arms last v t = Stands t.store.heap v × (holds t.store.heap v (type_of_choices (rules_of an frame) map arms (λ at_last. typ (rules_of an frame) at_last last)) ≡ true)

value_choice : (an : Analysis) (frame : Frame) (map : TypeMap) (e : Expr) (v : Value) (t : State) → FirstOf (After an frame map e) v t
    → Stands t.store.heap v × (holds t.store.heap v (typ (rules_of an frame) map e) ≡ true)
value_choice an frame map e v t p = (
  subst (λ (x : Value). Stands t.store.heap x) (sym p.1) (first_stands t.store.heap p.0 p.2.0.stand),
  subst (λ (x : Value). holds t.store.heap x (typ (rules_of an frame) map e) ≡ true) (sym p.1) p.2.0.typed,
)

choices_forward : (an : Analysis) (l : Layer) → Forward an l → (w : World) (s : State) (frame : Frame) (map : TypeMap) (arms : Choices) (last : Expr) → Fine an w s → Runs an w s frame
    → Held an frame map s → Inside frame (of_choices arms) (stats_of_choices arms) → Inside frame (of_expr last) (stats_of_expr last)
    → Placed an frame (seen_choices (rules_of an frame) map arms (λ at_last. seen_expr (rules_of an frame) at_last last))
    → Ends an (part_of frame (effects_of_choices (rules_of an frame) arms || effects (rules_of an frame) last)) w s (ChoiceGives an frame map arms last) (chosen l frame arms last s)
unfolding ◌>>=◌
choices_forward an l fwd w s frame map no_choices last f r h inside inside_last placed =
    ends_so an (expr_of an frame last) w s (FirstOf (After an frame map last)) (ChoiceGives an frame map no_choices last) (value l frame last s)
    (λ v t z q g k p. value_choice an frame map last v t p) (value_forward an l fwd w s frame map last f r h inside_last placed)
choices_forward an l fwd w s frame map (more_choices cond e rest) last f r h inside inside_last placed =
    ends_then an (part_of frame ((effects (rules_of an frame) cond || (effects (rules_of an frame) e || effects_of_choices (rules_of an frame) rest)) || effects (rules_of an frame) last)) w s
    (FirstOf (After an frame map cond)) (ChoiceGives an frame map (more_choices cond e rest) last) (value l frame cond s)
    (λ c. if is_true c then value l frame e else chosen l frame rest last)
    (ends_more an (expr_of an frame cond) (part_of frame ((effects (rules_of an frame) cond || (effects (rules_of an frame) e || effects_of_choices (rules_of an frame) rest)) || effects (rules_of an frame) last)) w s
    (FirstOf (After an frame map cond)) (value l frame cond s)
    (may_part frame (effects (rules_of an frame) cond) _ (cond_calm (effects (rules_of an frame) cond) (effects (rules_of an frame) e) (effects_of_choices (rules_of an frame) rest) (effects (rules_of an frame) last)))
    (value_forward an l fwd w s frame map cond f r h (inside_one frame (of_expr cond) (of_expr e) (of_choices rest) (stats_of_expr cond) (stats_of_expr e) (stats_of_choices rest) inside)
    (sub_one (seen_expr (rules_of an frame) map cond) (seen_expr (rules_of an frame) (refine (rules_of an frame) cond true (after (rules_of an frame) map cond)) e) (seen_choices (rules_of an frame) (refine (rules_of an frame) cond false (after (rules_of an frame) map cond)) rest (λ at_last. seen_expr (rules_of an frame) at_last last)) (seen_of an frame) placed)))
    (λ c m v g k p. by_truth c m v g (runs_kept an _ w v s m frame k r) p (is_true c) refl
    (λ held. choices_forward an l fwd v m frame (refine (rules_of an frame) cond false (after (rules_of an frame) map cond)) rest last g (runs_kept an _ w v s m frame k r) held
    (inside_three frame (of_expr cond) (of_expr e) (of_choices rest) (stats_of_expr cond) (stats_of_expr e) (stats_of_choices rest) inside) inside_last
    (sub_three (seen_expr (rules_of an frame) map cond) (seen_expr (rules_of an frame) (refine (rules_of an frame) cond true (after (rules_of an frame) map cond)) e) (seen_choices (rules_of an frame) (refine (rules_of an frame) cond false (after (rules_of an frame) map cond)) rest (λ at_last. seen_expr (rules_of an frame) at_last last)) (seen_of an frame) placed)))
  where
    who : Doer
    who = part_of frame ((effects (rules_of an frame) cond || (effects (rules_of an frame) e || effects_of_choices (rules_of an frame) rest)) || effects (rules_of an frame) last)

    when_true : TypeMap
    when_true = refine (rules_of an frame) cond true (after (rules_of an frame) map cond)

    when_false : TypeMap
    when_false = refine (rules_of an frame) cond false (after (rules_of an frame) map cond)

    by_truth : (c : Value) (m : State) (v : World) → Fine an v m → Runs an v m frame → FirstOf (After an frame map cond) c m → (b : Bool) → is_true c ≡ b
        → (Held an frame when_false m → Ends an (part_of frame (effects_of_choices (rules_of an frame) rest || effects (rules_of an frame) last)) v m (ChoiceGives an frame when_false rest last)
        (chosen l frame rest last m))
        → Ends an who v m (ChoiceGives an frame map (more_choices cond e rest) last) ((if b then value l frame e else chosen l frame rest last) m)
    by_truth c m v g j p true k again = ends_so an who v m (FirstOf (After an frame when_true e)) (ChoiceGives an frame map (more_choices cond e rest) last) (value l frame e m)
        (λ x t z q d i y. ((value_choice an frame when_true e x t y).0, in_first t.store.heap x (typ (rules_of an frame) when_true e) _ (value_choice an frame when_true e x t y).1))
        (ends_more an (expr_of an frame e) who v m (FirstOf (After an frame when_true e)) (value l frame e m)
        (may_part frame (effects (rules_of an frame) e) _ (value_calm (effects (rules_of an frame) cond) (effects (rules_of an frame) e) (effects_of_choices (rules_of an frame) rest) (effects (rules_of an frame) last)))
        (value_forward an l fwd v m frame when_true e g j (held_way an frame map cond p.0 m true (ap is_true (sym p.1) ∙ k) p.2.0 p.2.1)
        (inside_two frame (of_expr cond) (of_expr e) (of_choices rest) (stats_of_expr cond) (stats_of_expr e) (stats_of_choices rest) inside)
        (sub_two (seen_expr (rules_of an frame) map cond) (seen_expr (rules_of an frame) (refine (rules_of an frame) cond true (after (rules_of an frame) map cond)) e) (seen_choices (rules_of an frame) (refine (rules_of an frame) cond false (after (rules_of an frame) map cond)) rest (λ at_last. seen_expr (rules_of an frame) at_last last)) (seen_of an frame) placed)))
    by_truth c m v g j p false k again = ends_so an who v m (ChoiceGives an frame when_false rest last) (ChoiceGives an frame map (more_choices cond e rest) last) (chosen l frame rest last m)
        (λ x t z q d i y. (y.0, in_second t.store.heap x (typ (rules_of an frame) when_true e) _ y.1))
        (ends_more an (part_of frame (effects_of_choices (rules_of an frame) rest || effects (rules_of an frame) last)) who v m (ChoiceGives an frame when_false rest last) (chosen l frame rest last m)
        (may_part frame (effects_of_choices (rules_of an frame) rest || effects (rules_of an frame) last) _
        (rest_calm (effects (rules_of an frame) cond) (effects (rules_of an frame) e) (effects_of_choices (rules_of an frame) rest) (effects (rules_of an frame) last)))
        (again (held_way an frame map cond p.0 m false (ap is_true (sym p.1) ∙ k) p.2.0 p.2.1)))

choice_form : (arms : Choices) (last : Expr) → IsForm (IfElse arms last)
choice_form arms last = record { nameless = refl; pathless = refl; no_local = λ rules id span. refl }

within_choice : (frame : Frame) (id : ℕ) (span : _) (arms : Choices) (last : Expr) → Inside frame (of_expr (the_expr id span (IfElse arms last))) (stats_of_expr (the_expr id span (IfElse arms last)))
    → Inside frame (of_choices arms ++ of_expr last) (stats_of_choices arms ++ stats_of_expr last)
within_choice frame id span arms last h =
    record { nodes = sub_tail (AnExpr (the_expr id span (IfElse arms last))) (of_choices arms ++ of_expr last) (of_block frame.reading.block) h.nodes; stats = h.stats }

pub choice_forward : (an : Analysis) (l : Layer) → Fit an → Forward an l → (w : World) (s : State) (frame : Frame) (map : TypeMap) (id : ℕ) (span : _) (arms : Choices) (last : Expr) → Fine an w s
    → Runs an w s frame → Held an frame map s → Inside frame (of_expr (the_expr id span (IfElse arms last))) (stats_of_expr (the_expr id span (IfElse arms last)))
    → Placed an frame (seen_expr (rules_of an frame) map (the_expr id span (IfElse arms last)))
    → Ends an (expr_of an frame (the_expr id span (IfElse arms last))) w s (Gives an frame map (the_expr id span (IfElse arms last))) (values an.program l frame (the_expr id span (IfElse arms last)) s)
choice_forward an l fit fwd w s frame map id span arms last f r h inside placed =
    form_forward an l w s frame id span (IfElse arms last) (Gives an frame map (the_expr id span (IfElse arms last))) fit (choice_form arms last) f r inside
    (λ t z g j same. ends_so an (expr_of an frame (the_expr id span (IfElse arms last))) z t (λ vs u. (v : Value) × (vs ≡ v ∷ []) × ChoiceGives an frame map arms last v u)
    (Gives an frame map (the_expr id span (IfElse arms last))) (one (chosen l frame arms last) t)
    (λ vs u y q d k p. one_gives an frame map id span (IfElse arms last) vs u (choice_form arms last) (λ rules. refl) (form_read an w s frame id span (IfElse arms last) fit (choice_form arms last) r inside)
    (p.0, p.1, record { stands = p.2.0; typed = p.2.1; guard_shows = λ x firm. inl refl }))
    (ends_one an (expr_of an frame (the_expr id span (IfElse arms last))) z t (ChoiceGives an frame map arms last) (chosen l frame arms last)
    (choices_forward an l fwd z t frame map arms last g j (held_store an s t frame map same h)
    (inside_left frame (of_choices arms) (of_expr last) (stats_of_choices arms) (stats_of_expr last) (within_choice frame id span arms last inside))
    (inside_right frame (of_choices arms) (of_expr last) (stats_of_choices arms) (stats_of_expr last) (within_choice frame id span arms last inside))
    (sub_tail _ (seen_choices (rules_of an frame) map arms (λ at_last. seen_expr (rules_of an frame) at_last last)) (seen_of an frame) placed))))

-- ---- backward

in_never : (h : Heap) (v : Value) (P : Type 0) → holds h v never ≡ true → P
in_never h v P e = absurd (clash (holds h v never) e (never_none h v))
  where
    clash : (b : Bool) → b ≡ true → b ≡ false → ⊥
    clash b p q = cc

-- the value is in each set of which the context of the choices was violated, and no reported place was reached
record ChoicePays (an : Analysis) (frame : Frame) (arms : Choices) (last : Expr) (s : State) (v : Value) (u : State) : Type 0 where
  context : (set : Term) → Violated an frame (ev_choices (rules_of an frame) (seen_of an frame) arms set (ev (rules_of an frame) (seen_of an frame) last set)) s → holds u.store.heap v set ≡ true
  count : reached an frame.activation u.trace ≡ reached an frame.activation s.trace

value_pays : (an : Analysis) (frame : Frame) (w : World) (s : State) (map : TypeMap) (e : Expr) (xs : List Value) (v : Value) (u : State) → Fit an → Runs an w s frame
    → Marked an frame (found (rules_of an frame) (seen_of an frame) [] e) → v ≡ first xs → Evaluated an w s frame map e xs u
    → ((set : Term) → Violated an frame (ev (rules_of an frame) (seen_of an frame) e set) s → holds u.store.heap v set ≡ true) × (reached an frame.activation u.trace ≡ reached an frame.activation s.trace)
value_pays an frame w s map e xs v u fit r marked same o = (
  λ set h. subst (λ (x : Value). holds u.store.heap x set ≡ true) (sym same) (o.pays.context set h),
  unchecked_count an w s frame e xs s u fit r marked o.pays,
)

choices_backward : (an : Analysis) (l : Layer) → Fit an → Forward an l → Backward an l → (w : World) (s : State) (frame : Frame) (map : TypeMap) (arms : Choices) (last : Expr) → Fine an w s
    → Runs an w s frame → Held an frame map s → Inside frame (of_choices arms) (stats_of_choices arms) → Inside frame (of_expr last) (stats_of_expr last)
    → Placed an frame (seen_choices (rules_of an frame) map arms (λ at_last. seen_expr (rules_of an frame) at_last last))
    → Marked an frame (found_choices (rules_of an frame) (seen_of an frame) arms) → Marked an frame (found (rules_of an frame) (seen_of an frame) [] last)
    → (v : Value) (u : State) → chosen l frame arms last s ≡ Gave v u → ChoicePays an frame arms last s v u
unfolding ◌>>=◌
choices_backward an l fit fwd bwd w s frame map no_choices last f r h inside inside_last placed marked marked_last v u q = by_value (value_gave l frame last s v u q)
  where
    by_value : (xs : List Value) × (l.values frame last s ≡ Gave xs u) × (v ≡ first xs) → ChoicePays an frame no_choices last s v u
    by_value (xs, k, same) =
        let p : ((set : Term) → Violated an frame (ev (rules_of an frame) (seen_of an frame) last set) s → holds u.store.heap v set ≡ true)
        × (reached an frame.activation u.trace ≡ reached an frame.activation s.trace)
        = value_pays an frame w s map last xs v u fit r marked_last same (evaluated an l fwd bwd w s frame map last [] f r h inside_last placed marked_last xs u k) in
        record { context = p.0; count = p.1 }
choices_backward an l fit fwd bwd w s frame map (more_choices cond e rest) last f r h inside inside_last placed marked marked_last v u q = by_cond
    (gave_then (value l frame cond s) (λ c. if is_true c then value l frame e else chosen l frame rest last) v u q)
    (λ z m g j held k. choices_backward an l fit fwd bwd z m frame (refine (rules_of an frame) cond false (after (rules_of an frame) map cond)) rest last g j held
    (inside_three frame (of_expr cond) (of_expr e) (of_choices rest) (stats_of_expr cond) (stats_of_expr e) (stats_of_choices rest) inside) inside_last
    (sub_three (seen_expr (rules_of an frame) map cond) (seen_expr (rules_of an frame) (refine (rules_of an frame) cond true (after (rules_of an frame) map cond)) e) (seen_choices (rules_of an frame) (refine (rules_of an frame) cond false (after (rules_of an frame) map cond)) rest (λ at_last. seen_expr (rules_of an frame) at_last last)) (seen_of an frame) placed)
    (sub_three (found (rules_of an frame) (seen_of an frame) [] cond) (found (rules_of an frame) (seen_of an frame) [] e) (found_choices (rules_of an frame) (seen_of an frame) rest) (findings (rules_of an frame)) marked) marked_last v u k)
  where
    when_true : TypeMap
    when_true = refine (rules_of an frame) cond true (after (rules_of an frame) map cond)

    when_false : TypeMap
    when_false = refine (rules_of an frame) cond false (after (rules_of an frame) map cond)

    marked_cond : Marked an frame (found (rules_of an frame) (seen_of an frame) [] cond)
    marked_cond = sub_one (found (rules_of an frame) (seen_of an frame) [] cond) (found (rules_of an frame) (seen_of an frame) [] e) (found_choices (rules_of an frame) (seen_of an frame) rest) (findings (rules_of an frame)) marked

    marked_value : Marked an frame (found (rules_of an frame) (seen_of an frame) [] e)
    marked_value = sub_two (found (rules_of an frame) (seen_of an frame) [] cond) (found (rules_of an frame) (seen_of an frame) [] e) (found_choices (rules_of an frame) (seen_of an frame) rest) (findings (rules_of an frame)) marked

    Again : Type 0
    Again = (z : World) (m : State) → Fine an z m → Runs an z m frame → Held an frame when_false m → chosen l frame rest last m ≡ Gave v u → ChoicePays an frame rest last m v u

    by_cond : (c : Value) × (m : State) × (value l frame cond s ≡ Gave c m) × ((if is_true c then value l frame e else chosen l frame rest last) m ≡ Gave v u) → Again
        → ChoicePays an frame (more_choices cond e rest) last s v u
    by_cond (c, m, gave_cond, gave) again = by_value (value_gave l frame cond s c m gave_cond)
      where
        by_value : (xs : List Value) × (l.values frame cond s ≡ Gave xs m) × (c ≡ first xs) → ChoicePays an frame (more_choices cond e rest) last s v u
        by_value (xs, k, same) = by_truth (is_true c) refl gave (evaluated an l fwd bwd w s frame map cond [] f r h
            (inside_one frame (of_expr cond) (of_expr e) (of_choices rest) (stats_of_expr cond) (stats_of_expr e) (stats_of_choices rest) inside)
            (sub_one (seen_expr (rules_of an frame) map cond) (seen_expr (rules_of an frame) (refine (rules_of an frame) cond true (after (rules_of an frame) map cond)) e) (seen_choices (rules_of an frame) (refine (rules_of an frame) cond false (after (rules_of an frame) map cond)) rest (λ at_last. seen_expr (rules_of an frame) at_last last)) (seen_of an frame) placed) marked_cond xs m k)
          where
            by_context : (b : Bool) → is_true c ≡ b → Evaluated an w s frame map cond xs m → (set : Term)
                → (Violated an frame (if b then ev (rules_of an frame) (seen_of an frame) e set else ev_choices (rules_of an frame) (seen_of an frame) rest set (ev (rules_of an frame) (seen_of an frame) last set)) m
                → holds u.store.heap v set ≡ true)
                → Violated an frame (ev_choices (rules_of an frame) (seen_of an frame) (more_choices cond e rest) set (ev (rules_of an frame) (seen_of an frame) last set)) s → holds u.store.heap v set ≡ true
            by_context b t o set next y = by_side (violated_followed an w o.world s m frame (ev (rules_of an frame) (seen_of an frame) cond never)
                (branch (rules_of an frame) cond (ev (rules_of an frame) (seen_of an frame) e set) (ev_choices (rules_of an frame) (seen_of an frame) rest set (ev (rules_of an frame) (seen_of an frame) last set)))
                (effects (rules_of an frame) cond) f r o.kept y)
              where
                by_side : Violated an frame (ev (rules_of an frame) (seen_of an frame) cond never) s ⊎ Violated an frame
                    (branch (rules_of an frame) cond (ev (rules_of an frame) (seen_of an frame) e set) (ev_choices (rules_of an frame) (seen_of an frame) rest set (ev (rules_of an frame) (seen_of an frame) last set))) m
                    → holds u.store.heap v set ≡ true
                by_side (inl x) = in_never m.store.heap (first xs) (holds u.store.heap v set ≡ true) (o.pays.context never x)
                by_side (inr x) = next (way_violated an frame cond b (ev (rules_of an frame) (seen_of an frame) e set)
                    (ev_choices (rules_of an frame) (seen_of an frame) rest set (ev (rules_of an frame) (seen_of an frame) last set)) m
                    (shows_all an frame map cond xs m b (ap is_true (sym same) ∙ t) o.gives) x)

            by_truth : (b : Bool) → is_true c ≡ b → (if b then value l frame e else chosen l frame rest last) m ≡ Gave v u → Evaluated an w s frame map cond xs m
                → ChoicePays an frame (more_choices cond e rest) last s v u
            by_truth true t y o = by_chosen (value_gave l frame e m v u y)
              where
                by_chosen : (ys : List Value) × (l.values frame e m ≡ Gave ys u) × (v ≡ first ys) → ChoicePays an frame (more_choices cond e rest) last s v u
                by_chosen (ys, i, at) = finish (value_pays an frame o.world m when_true e ys v u fit o.runs marked_value at
                    (evaluated an l fwd bwd o.world m frame when_true e [] o.fine o.runs (held_way an frame map cond xs m true (ap is_true (sym same) ∙ t) o.gives o.held)
                    (inside_two frame (of_expr cond) (of_expr e) (of_choices rest) (stats_of_expr cond) (stats_of_expr e) (stats_of_choices rest) inside)
                    (sub_two (seen_expr (rules_of an frame) map cond) (seen_expr (rules_of an frame) (refine (rules_of an frame) cond true (after (rules_of an frame) map cond)) e) (seen_choices (rules_of an frame) (refine (rules_of an frame) cond false (after (rules_of an frame) map cond)) rest (λ at_last. seen_expr (rules_of an frame) at_last last)) (seen_of an frame) placed) marked_value ys u i))
                  where
                    finish : ((set : Term) → Violated an frame (ev (rules_of an frame) (seen_of an frame) e set) m → holds u.store.heap v set ≡ true)
                        × (reached an frame.activation u.trace ≡ reached an frame.activation m.trace) → ChoicePays an frame (more_choices cond e rest) last s v u
                    finish p = record {
                      context = λ set x. by_context true t o set (p.0 set) x;
                      count = p.1 ∙ unchecked_count an w s frame cond xs s m fit r marked_cond o.pays;
                    }
            by_truth false t y o = finish (again o.world m o.fine o.runs (held_way an frame map cond xs m false (ap is_true (sym same) ∙ t) o.gives o.held) y)
              where
                finish : ChoicePays an frame rest last m v u → ChoicePays an frame (more_choices cond e rest) last s v u
                finish p = record {
                  context = λ set x. by_context false t o set (p.context set) x;
                  count = p.count ∙ unchecked_count an w s frame cond xs s m fit r marked_cond o.pays;
                }

pub choice_backward : (an : Analysis) (l : Layer) → Fit an → Forward an l → Backward an l → (w : World) (s : State) (frame : Frame) (map : TypeMap) (id : ℕ) (span : _) (arms : Choices) (last : Expr)
    (around : List ReportKind) → Fine an w s → Runs an w s frame → Held an frame map s
    → Inside frame (of_expr (the_expr id span (IfElse arms last))) (stats_of_expr (the_expr id span (IfElse arms last)))
    → Placed an frame (seen_expr (rules_of an frame) map (the_expr id span (IfElse arms last)))
    → Marked an frame (found (rules_of an frame) (seen_of an frame) around (the_expr id span (IfElse arms last)))
    → (vs : List Value) (u : State) → values an.program l frame (the_expr id span (IfElse arms last)) s ≡ Gave vs u → Pays an frame (the_expr id span (IfElse arms last)) s vs u
choice_backward an l fit fwd bwd w s frame map id span arms last around f r h inside placed marked vs u q =
    form_backward an l w s frame id span (IfElse arms last) vs u fit (choice_form arms last) f r inside q
    (λ z m g j same k. by_one z m g j (held_store an s m frame map same h) (one_gave (chosen l frame arms last) m vs u k))
  where
    marked_in : Marked an frame (found_choices (rules_of an frame) (seen_of an frame) arms ++ found (rules_of an frame) (seen_of an frame) [] last)
    marked_in = sub_tail _ _ _ marked

    by_one : (z : World) (m : State) → Fine an z m → Runs an z m frame → Held an frame map m → (v : Value) × (chosen l frame arms last m ≡ Gave v u) × (vs ≡ v ∷ [])
        → FormPays an frame id (IfElse arms last) m vs u
    by_one z m g j held (v, k, e) = finish (choices_backward an l fit fwd bwd z m frame map arms last g j held
        (inside_left frame (of_choices arms) (of_expr last) (stats_of_choices arms) (stats_of_expr last) (within_choice frame id span arms last inside))
        (inside_right frame (of_choices arms) (of_expr last) (stats_of_choices arms) (stats_of_expr last) (within_choice frame id span arms last inside))
        (sub_tail _ (seen_choices (rules_of an frame) map arms (λ at_last. seen_expr (rules_of an frame) at_last last)) (seen_of an frame) placed)
        (sub_left (found_choices (rules_of an frame) (seen_of an frame) arms) _ (findings (rules_of an frame)) marked_in)
        (sub_right (found_choices (rules_of an frame) (seen_of an frame) arms) _ (findings (rules_of an frame)) marked_in) v u k)
      where
        finish : ChoicePays an frame arms last m v u → FormPays an frame id (IfElse arms last) m vs u
        finish p = record {
          context = λ set x. subst (λ (y : Value). holds u.store.heap y set ≡ true) (sym (ap first e)) (p.context set x);
          count = p.count;
          own = refl;
        }
