-- Interpolations, forward and backward: parts that are evaluated in order, whatever they give.
use Rattle.std.proofs.Common.{◌≡◌, ℕ, true, false, ◌||◌, List, [], ◌∷◌, ◌⊎◌, inl, inr, refl, sym, ◌∙◌, ap, subst}
use Rattle.luau_values.specs.Value.{Value}
use Rattle.luau_values.specs.Stands.{Stands}
use Rattle.luau_tree.specs.Tree.{the_expr, Exprs, no_exprs, more_exprs, Interp}
use Rattle.luau_run.specs.SyntaxNode.{AnExpr, of_expr, of_exprs, of_block}
use Rattle.luau_run.specs.Machine.{Store, State, Gave, ◌>>=◌, give, ask}
use Rattle.luau_run.specs.Answers.{a_string}
use Rattle.luau_run.specs.Layer.{Frame, Layer, first}
use Rattle.luau_run.specs.Expressions.{value, one, values, each_value}
use Rattle.type_arena.specs.Term.{never}
use Rattle.type_normal.specs.Kinds.{string_type}
use Rattle.report_rules.specs.Effects.{effects, any_effects}
use Rattle.report_rules.specs.TypeMap.{TypeMap}
use Rattle.report_rules.specs.Forward.{after}
use Rattle.report_rules.specs.Seen.{seen_expr, seen_list}
use Rattle.report_rules.specs.Checks.{ReportKind}
use Rattle.report_rules.specs.Errors.{ev, ev_parts}
use Rattle.report_rules.specs.Findings.{found, found_parts}
use Rattle.report_rules.specs.Reports.{findings}
use Rattle.run_frame.specs.Analysis.{Analysis}
use Rattle.run_frame.specs.Statements.{stats_of_expr, stats_of_exprs}
use Rattle.run_frame.specs.Fit.{Fit}
use Rattle.run_frame.proofs.World.{World}
use Rattle.run_frame.proofs.Counts.{reached}
use Rattle.run_frame.proofs.Kept.{Kept}
use Rattle.run_frame.proofs.Fine.{Fine}
use Rattle.run_frame.proofs.Held.{Runs, runs_kept, Held, held_store, Violated}
use Rattle.run_frame.proofs.Parts.{Ends, ends_so, ends_then, ends_more, ends_give, ends_gave, gave_then, gave_same}
use Rattle.run_frame.proofs.Layers.{rules_of, seen_of, part_of, expr_of, Inside, Placed, Marked, Gives, Pays, Forward, Backward}
use Rattle.run_frame.proofs.Readings.{sub_tail, sub_left, sub_right}
use Rattle.run_frame.proofs.Names.{ends_one}
use Rattle.run_frame.proofs.Passing.{none_violated, violated_followed}
use Rattle.run_frame.proofs.Lists.{may_first, may_second, inside_left, inside_right, FirstOf}
use Rattle.run_frame.proofs.Statements.{unchecked_count, unchecked_context}
use Rattle.run_frame.proofs.Forms.{one_gave, value_gave, Evaluated, evaluated, IsForm, form_read, form_forward, OneGives, one_gives, FormPays, form_backward, After, value_forward}
use Rattle.run_frame.proofs.Operators.{OpGives, ends_string}

-- ---- parts in order

each_forward : (an : Analysis) (l : Layer) → Forward an l → (w : World) (s : State) (frame : Frame) (map : TypeMap) (es : Exprs) → Fine an w s → Runs an w s frame → Held an frame map s
    → Inside frame (of_exprs es) (stats_of_exprs es) → Placed an frame (seen_list (rules_of an frame) map es)
    → Ends an (part_of frame (any_effects (rules_of an frame) es)) w s (λ x t. Unit {0}) (each_value l frame es s)
unfolding ◌>>=◌
each_forward an l fwd w s frame map no_exprs f r h inside placed = ends_give an (part_of frame false) w s (λ x t. Unit {0}) (tt {0}) f tt
each_forward an l fwd w s frame map (more_exprs e rest) f r h inside placed =
    ends_then an (part_of frame (effects (rules_of an frame) e || any_effects (rules_of an frame) rest)) w s (FirstOf (After an frame map e)) (λ x t. Unit {0}) (value l frame e s)
    (λ x. each_value l frame rest)
    (ends_more an (expr_of an frame e) (part_of frame (effects (rules_of an frame) e || any_effects (rules_of an frame) rest)) w s (FirstOf (After an frame map e)) (value l frame e s)
    (may_first frame (effects (rules_of an frame) e) (any_effects (rules_of an frame) rest))
    (value_forward an l fwd w s frame map e f r h (inside_left frame (of_expr e) (of_exprs rest) (stats_of_expr e) (stats_of_exprs rest) inside)
    (sub_left (seen_expr (rules_of an frame) map e) (seen_list (rules_of an frame) (after (rules_of an frame) map e) rest) (seen_of an frame) placed)))
    (λ x m v g k p. ends_more an (part_of frame (any_effects (rules_of an frame) rest)) (part_of frame (effects (rules_of an frame) e || any_effects (rules_of an frame) rest)) v m
    (λ x t. Unit {0}) (each_value l frame rest m) (may_second frame (effects (rules_of an frame) e) (any_effects (rules_of an frame) rest))
    (each_forward an l fwd v m frame (after (rules_of an frame) map e) rest g
    (runs_kept an (part_of frame (effects (rules_of an frame) e || any_effects (rules_of an frame) rest)) w v s m frame k r) p.2.1
    (inside_right frame (of_expr e) (of_exprs rest) (stats_of_expr e) (stats_of_exprs rest) inside)
    (sub_right (seen_expr (rules_of an frame) map e) (seen_list (rules_of an frame) (after (rules_of an frame) map e) rest) (seen_of an frame) placed)))

-- where all parts gave, their context wasn't violated, and no reported place was reached
each_backward : (an : Analysis) (l : Layer) → Fit an → Forward an l → Backward an l → (w : World) (s : State) (frame : Frame) (map : TypeMap) (es : Exprs) → Fine an w s → Runs an w s frame
    → Held an frame map s → Inside frame (of_exprs es) (stats_of_exprs es) → Placed an frame (seen_list (rules_of an frame) map es)
    → Marked an frame (found_parts (rules_of an frame) (seen_of an frame) es) → (x : Unit {0}) (u : State) → each_value l frame es s ≡ Gave x u
    → (Violated an frame (ev_parts (rules_of an frame) (seen_of an frame) es) s → ⊥) × (reached an frame.activation u.trace ≡ reached an frame.activation s.trace)
unfolding ◌>>=◌ give
each_backward an l fit fwd bwd w s frame map no_exprs f r h inside placed marked x u q =
    (none_violated an frame s, ap (λ (t : State). reached an frame.activation t.trace) (sym (gave_same (tt {0}) x s u q).1))
each_backward an l fit fwd bwd w s frame map (more_exprs e rest) f r h inside placed marked x u q = by_first
    (gave_then (value l frame e s) (λ x. each_value l frame rest) x u q)
    (λ z m g j held k. each_backward an l fit fwd bwd z m frame (after (rules_of an frame) map e) rest g j held
    (inside_right frame (of_expr e) (of_exprs rest) (stats_of_expr e) (stats_of_exprs rest) inside)
    (sub_right (seen_expr (rules_of an frame) map e) (seen_list (rules_of an frame) (after (rules_of an frame) map e) rest) (seen_of an frame) placed)
    (sub_right (found (rules_of an frame) (seen_of an frame) [] e) (found_parts (rules_of an frame) (seen_of an frame) rest) (findings (rules_of an frame)) marked) x u k)
  where
    marked_first : Marked an frame (found (rules_of an frame) (seen_of an frame) [] e)
    marked_first = sub_left (found (rules_of an frame) (seen_of an frame) [] e) (found_parts (rules_of an frame) (seen_of an frame) rest) (findings (rules_of an frame)) marked

    by_first : (v : Value) × (m : State) × (value l frame e s ≡ Gave v m) × (each_value l frame rest m ≡ Gave x u)
        → ((z : World) (m : State) → Fine an z m → Runs an z m frame → Held an frame (after (rules_of an frame) map e) m → each_value l frame rest m ≡ Gave x u
        → (Violated an frame (ev_parts (rules_of an frame) (seen_of an frame) rest) m → ⊥) × (reached an frame.activation u.trace ≡ reached an frame.activation m.trace))
        → (Violated an frame (ev_parts (rules_of an frame) (seen_of an frame) (more_exprs e rest)) s → ⊥) × (reached an frame.activation u.trace ≡ reached an frame.activation s.trace)
    by_first (v, m, gave_first, gave_rest) again = by_value (value_gave l frame e s v m gave_first)
      where
        by_value : (xs : List Value) × (l.values frame e s ≡ Gave xs m) × (v ≡ first xs)
            → (Violated an frame (ev_parts (rules_of an frame) (seen_of an frame) (more_exprs e rest)) s → ⊥) × (reached an frame.activation u.trace ≡ reached an frame.activation s.trace)
        by_value (xs, k, same) = by_evaluated (evaluated an l fwd bwd w s frame map e [] f r h (inside_left frame (of_expr e) (of_exprs rest) (stats_of_expr e) (stats_of_exprs rest) inside)
            (sub_left (seen_expr (rules_of an frame) map e) (seen_list (rules_of an frame) (after (rules_of an frame) map e) rest) (seen_of an frame) placed) marked_first xs m k)
          where
            by_evaluated : Evaluated an w s frame map e xs m
                → (Violated an frame (ev_parts (rules_of an frame) (seen_of an frame) (more_exprs e rest)) s → ⊥) × (reached an frame.activation u.trace ≡ reached an frame.activation s.trace)
            by_evaluated o = (
              λ y. by_side (violated_followed an w o.world s m frame (ev (rules_of an frame) (seen_of an frame) e never) (ev_parts (rules_of an frame) (seen_of an frame) rest)
                  (effects (rules_of an frame) e) f r o.kept y),
              (again o.world m o.fine o.runs o.held gave_rest).1 ∙ unchecked_count an w s frame e xs s m fit r marked_first o.pays,
            )
              where
                by_side : Violated an frame (ev (rules_of an frame) (seen_of an frame) e never) s ⊎ Violated an frame (ev_parts (rules_of an frame) (seen_of an frame) rest) m → ⊥
                by_side (inl y) = unchecked_context an frame e s xs m o.pays y
                by_side (inr y) = (again o.world m o.fine o.runs o.held gave_rest).0 y

-- ---- interpolations

interp_form : (texts : _) (parts : Exprs) → IsForm (Interp texts parts)
interp_form texts parts = record { nameless = refl; pathless = refl; no_local = λ rules id span. refl }

within_interp : (frame : Frame) (id : ℕ) (span : _) (texts : _) (parts : Exprs) → Inside frame (of_expr (the_expr id span (Interp texts parts))) (stats_of_expr (the_expr id span (Interp texts parts)))
    → Inside frame (of_exprs parts) (stats_of_exprs parts)
within_interp frame id span texts parts h =
    record { nodes = sub_tail (AnExpr (the_expr id span (Interp texts parts))) (of_exprs parts) (of_block frame.reading.block) h.nodes; stats = h.stats }

pub interp_forward : (an : Analysis) (l : Layer) → Fit an → Forward an l → (w : World) (s : State) (frame : Frame) (map : TypeMap) (id : ℕ) (span : _) (texts : _) (parts : Exprs) → Fine an w s
    → Runs an w s frame → Held an frame map s → Inside frame (of_expr (the_expr id span (Interp texts parts))) (stats_of_expr (the_expr id span (Interp texts parts)))
    → Placed an frame (seen_expr (rules_of an frame) map (the_expr id span (Interp texts parts)))
    → Ends an (expr_of an frame (the_expr id span (Interp texts parts))) w s (Gives an frame map (the_expr id span (Interp texts parts)))
    (values an.program l frame (the_expr id span (Interp texts parts)) s)
unfolding ◌>>=◌
interp_forward an l fit fwd w s frame map id span texts parts f r h inside placed =
    form_forward an l w s frame id span (Interp texts parts) (Gives an frame map (the_expr id span (Interp texts parts))) fit (interp_form texts parts) f r inside
    (λ t z g j same. ends_so an (part_of frame (any_effects (rules_of an frame) parts)) z t (λ vs u. (v : Value) × (vs ≡ v ∷ []) × OneGives an frame map id (Interp texts parts) v u)
    (Gives an frame map (the_expr id span (Interp texts parts))) (one (◌>>=◌ (each_value l frame parts) (λ x. ask a_string)) t)
    (λ vs u y q d k p. one_gives an frame map id span (Interp texts parts) vs u (interp_form texts parts) (λ rules. refl)
    (form_read an w s frame id span (Interp texts parts) fit (interp_form texts parts) r inside) p)
    (ends_one an (part_of frame (any_effects (rules_of an frame) parts)) z t (OneGives an frame map id (Interp texts parts)) (◌>>=◌ (each_value l frame parts) (λ x. ask a_string))
    (ends_then an (part_of frame (any_effects (rules_of an frame) parts)) z t (λ x u. Unit {0}) (OneGives an frame map id (Interp texts parts)) (each_value l frame parts t) (λ x. ask a_string)
    (each_forward an l fwd z t frame map parts g j (held_store an s t frame map same h) (within_interp frame id span texts parts inside)
    (sub_tail _ (seen_list (rules_of an frame) map parts) (seen_of an frame) placed))
    (λ x u y d k p. ends_so an (part_of frame (any_effects (rules_of an frame) parts)) y u (OpGives u true string_type) (OneGives an frame map id (Interp texts parts)) (ask a_string u)
    (λ v n c q e i b. record {
      stands = subst (λ (a : Store). Stands a.heap v) (sym b.0.0) b.1;
      typed = b.2 refl n.store.heap;
      guard_shows = λ x firm. inl refl;
    })
    (ends_string an (part_of frame (any_effects (rules_of an frame) parts)) y u d)))))

pub interp_backward : (an : Analysis) (l : Layer) → Fit an → Forward an l → Backward an l → (w : World) (s : State) (frame : Frame) (map : TypeMap) (id : ℕ) (span : _) (texts : _) (parts : Exprs)
    (around : List ReportKind) → Fine an w s → Runs an w s frame → Held an frame map s
    → Inside frame (of_expr (the_expr id span (Interp texts parts))) (stats_of_expr (the_expr id span (Interp texts parts)))
    → Placed an frame (seen_expr (rules_of an frame) map (the_expr id span (Interp texts parts)))
    → Marked an frame (found (rules_of an frame) (seen_of an frame) around (the_expr id span (Interp texts parts)))
    → (vs : List Value) (u : State) → values an.program l frame (the_expr id span (Interp texts parts)) s ≡ Gave vs u → Pays an frame (the_expr id span (Interp texts parts)) s vs u
unfolding ◌>>=◌
interp_backward an l fit fwd bwd w s frame map id span texts parts around f r h inside placed marked vs u q =
    form_backward an l w s frame id span (Interp texts parts) vs u fit (interp_form texts parts) f r inside q
    (λ z m g j same k. by_one z m g j (held_store an s m frame map same h) (one_gave (◌>>=◌ (each_value l frame parts) (λ x. ask a_string)) m vs u k))
  where
    by_one : (z : World) (m : State) → Fine an z m → Runs an z m frame → Held an frame map m → (v : Value) × (◌>>=◌ (each_value l frame parts) (λ x. ask a_string) m ≡ Gave v u) × (vs ≡ v ∷ [])
        → FormPays an frame id (Interp texts parts) m vs u
    by_one z m g j held (v, k, e) = by_parts (gave_then (each_value l frame parts m) (λ x. ask a_string) v u k)
      where
        by_parts : (x : Unit {0}) × (t : State) × (each_value l frame parts m ≡ Gave x t) × (ask a_string t ≡ Gave v u) → FormPays an frame id (Interp texts parts) m vs u
        by_parts (x, t, n, c) = finish
            (each_backward an l fit fwd bwd z m frame map parts g j held (within_interp frame id span texts parts inside) (sub_tail _ (seen_list (rules_of an frame) map parts) (seen_of an frame) placed)
            (sub_tail _ _ _ marked) x t n)
            (ends_gave an (part_of frame (any_effects (rules_of an frame) parts)) z m (λ x u. Unit {0}) (each_value l frame parts m) x t n
            (each_forward an l fwd z m frame map parts g j held (within_interp frame id span texts parts inside) (sub_tail _ (seen_list (rules_of an frame) map parts) (seen_of an frame) placed)))
          where
            finish : (Violated an frame (ev_parts (rules_of an frame) (seen_of an frame) parts) m → ⊥) × (reached an frame.activation t.trace ≡ reached an frame.activation m.trace)
                → (y : World) × Fine an y t × Kept an (part_of frame (any_effects (rules_of an frame) parts)) z m y t × Unit {0} → FormPays an frame id (Interp texts parts) m vs u
            finish p d = record {
              context = λ set y. absurd (p.0 y);
              count = ap (λ x. reached an frame.activation x)
                  (ends_gave an (part_of frame (any_effects (rules_of an frame) parts)) d.0 t (OpGives t true string_type) (ask a_string t) v u c
                  (ends_string an (part_of frame (any_effects (rules_of an frame) parts)) d.0 t d.1)).3.0.1 ∙ p.1;
              own = refl;
            }
