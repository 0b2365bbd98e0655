-- `(e)` and `e :: T`, forward and backward: one value of the part, with what it shows.
use Rattle.std.proofs.Common.{◌≡◌, true, false, List, [], ◌∷◌, ◌⊎◌, inl, refl, sym, subst}
use Rattle.luau_values.specs.Value.{Value}
use Rattle.luau_values.specs.Stands.{Stands}
use Rattle.luau_tree.specs.Tree.{Expr, the_expr, Paren, Assert}
use Rattle.luau_run.specs.SyntaxNode.{AnExpr, of_expr, of_block}
use Rattle.luau_run.specs.Machine.{State, Gave}
use Rattle.luau_run.specs.Layer.{Frame, Layer, first}
use Rattle.luau_run.specs.Expressions.{value, one, values}
use Rattle.luau_run.specs.Operators.{is_true}
use Rattle.type_normal.specs.Holds.{holds}
use Rattle.type_normal.specs.Kinds.{unknown}
use Rattle.report_rules.specs.Guard.{guard}
use Rattle.report_rules.specs.TypeMap.{TypeMap}
use Rattle.report_rules.specs.Forward.{typ}
use Rattle.report_rules.specs.Seen.{seen_expr}
use Rattle.report_rules.specs.Checks.{ReportKind}
use Rattle.report_rules.specs.Findings.{found}
use Rattle.run_frame.specs.Analysis.{Analysis, is_loose}
use Rattle.run_frame.specs.Statements.{stats_of_expr}
use Rattle.run_frame.specs.Fit.{Fit}
use Rattle.run_frame.proofs.World.{World}
use Rattle.run_frame.proofs.Fine.{Fine}
use Rattle.run_frame.proofs.Held.{Runs, Held, held_store}
use Rattle.run_frame.proofs.Parts.{Ends, ends_so}
use Rattle.run_frame.proofs.Layers.{rules_of, seen_of, expr_of, Inside, Placed, Marked, Shows, Gives, Pays, Forward, Backward}
use Rattle.run_frame.proofs.Readings.{sub_tail}
use Rattle.run_frame.proofs.Names.{ends_one}
use Rattle.run_frame.proofs.Lists.{FirstOf}
use Rattle.run_frame.proofs.Statements.{unchecked_count}
use Rattle.run_frame.proofs.Forms.{one_gave, value_gave, Evaluated, evaluated, IsForm, form_read, form_forward, OneGives, one_gives, FormPays, form_backward, After, value_forward, first_stands}

-- ---- what stands within

within_paren : (frame : Frame) (id : _) (span : _) (e : Expr) → Inside frame (of_expr (the_expr id span (Paren e))) (stats_of_expr (the_expr id span (Paren e)))
    → Inside frame (of_expr e) (stats_of_expr e)
within_paren frame id span e h = record { nodes = sub_tail (AnExpr (the_expr id span (Paren e))) (of_expr e) (of_block frame.reading.block) h.nodes; stats = h.stats }

within_assert : (frame : Frame) (id : _) (span : _) (e : Expr) (type : _) → Inside frame (of_expr (the_expr id span (Assert e type))) (stats_of_expr (the_expr id span (Assert e type)))
    → Inside frame (of_expr e) (stats_of_expr e)
within_assert frame id span e type h =
    record { nodes = sub_tail (AnExpr (the_expr id span (Assert e type))) (of_expr e) (of_block frame.reading.block) h.nodes; stats = h.stats }

paren_form : (e : Expr) → IsForm (Paren e)
paren_form e = record { nameless = refl; pathless = refl; no_local = λ rules id span. refl }

assert_form : (e : Expr) (type : _) → IsForm (Assert e type)
assert_form e type = record { nameless = refl; pathless = refl; no_local = λ rules id span. refl }

-- ---- forward

paren_gives : (an : Analysis) (frame : Frame) (map : TypeMap) (id : _) (e : Expr) (v : Value) (t : State) → FirstOf (After an frame map e) v t → OneGives an frame map id (Paren e) v t
paren_gives an frame map id e v t (vs, q, p) = record {
  stands = subst (λ (x : Value). Stands t.store.heap x) (sym q) (first_stands t.store.heap vs p.0.stand);
  typed = subst (λ (x : Value). holds t.store.heap x (typ (rules_of an frame) map e) ≡ true) (sym q) p.0.typed;
  guard_shows = subst (λ (y : Value). (x : _) → is_loose an frame.module_at x ≡ false → (guard (rules_of an frame) e (is_true y) x ≡ unknown) ⊎ Shows frame t x (guard (rules_of an frame) e (is_true y) x)) (sym q) p.0.guard_shows;
}

assert_gives : (an : Analysis) (frame : Frame) (map : TypeMap) (id : _) (e : Expr) (type : _) (v : Value) (t : State) → FirstOf (After an frame map e) v t
    → OneGives an frame map id (Assert e type) v t
assert_gives an frame map id e type v t (vs, q, p) = record {
  stands = subst (λ (x : Value). Stands t.store.heap x) (sym q) (first_stands t.store.heap vs p.0.stand);
  typed = subst (λ (x : Value). holds t.store.heap x (typ (rules_of an frame) map e) ≡ true) (sym q) p.0.typed;
  guard_shows = λ x firm. inl refl;
}

pub paren_forward : (an : Analysis) (l : Layer) → Fit an → Forward an l → (w : World) (s : State) (frame : Frame) (map : TypeMap) (id : _) (span : _) (e : Expr) → Fine an w s → Runs an w s frame
    → Held an frame map s → Inside frame (of_expr (the_expr id span (Paren e))) (stats_of_expr (the_expr id span (Paren e)))
    → Placed an frame (seen_expr (rules_of an frame) map (the_expr id span (Paren e)))
    → Ends an (expr_of an frame (the_expr id span (Paren e))) w s (Gives an frame map (the_expr id span (Paren e))) (values an.program l frame (the_expr id span (Paren e)) s)
paren_forward an l fit fwd w s frame map id span e f r h inside placed =
    form_forward an l w s frame id span (Paren e) (Gives an frame map (the_expr id span (Paren e))) fit (paren_form e) f r inside
    (λ t z g j same. ends_so an (expr_of an frame e) z t (λ vs u. (v : Value) × (vs ≡ v ∷ []) × FirstOf (After an frame map e) v u) (Gives an frame map (the_expr id span (Paren e)))
    (one (value l frame e) t)
    (λ vs u y q d k p. one_gives an frame map id span (Paren e) vs u (paren_form e) (λ rules. refl) (form_read an w s frame id span (Paren e) fit (paren_form e) r inside)
    (p.0, p.1, paren_gives an frame map id e p.0 u p.2))
    (ends_one an (expr_of an frame e) z t (FirstOf (After an frame map e)) (value l frame e)
    (value_forward an l fwd z t frame map e g j (held_store an s t frame map same h) (within_paren frame id span e inside)
    (sub_tail _ (seen_expr (rules_of an frame) map e) (seen_of an frame) placed))))

pub assert_forward : (an : Analysis) (l : Layer) → Fit an → Forward an l → (w : World) (s : State) (frame : Frame) (map : TypeMap) (id : _) (span : _) (e : Expr) (type : _) → Fine an w s
    → Runs an w s frame → Held an frame map s → Inside frame (of_expr (the_expr id span (Assert e type))) (stats_of_expr (the_expr id span (Assert e type)))
    → Placed an frame (seen_expr (rules_of an frame) map (the_expr id span (Assert e type)))
    → Ends an (expr_of an frame (the_expr id span (Assert e type))) w s (Gives an frame map (the_expr id span (Assert e type))) (values an.program l frame (the_expr id span (Assert e type)) s)
assert_forward an l fit fwd w s frame map id span e type f r h inside placed =
    form_forward an l w s frame id span (Assert e type) (Gives an frame map (the_expr id span (Assert e type))) fit (assert_form e type) f r inside
    (λ t z g j same. ends_so an (expr_of an frame e) z t (λ vs u. (v : Value) × (vs ≡ v ∷ []) × FirstOf (After an frame map e) v u) (Gives an frame map (the_expr id span (Assert e type)))
    (one (value l frame e) t)
    (λ vs u y q d k p. one_gives an frame map id span (Assert e type) vs u (assert_form e type) (λ rules. refl) (form_read an w s frame id span (Assert e type) fit (assert_form e type) r inside)
    (p.0, p.1, assert_gives an frame map id e type p.0 u p.2))
    (ends_one an (expr_of an frame e) z t (FirstOf (After an frame map e)) (value l frame e)
    (value_forward an l fwd z t frame map e g j (held_store an s t frame map same h) (within_assert frame id span e type inside)
    (sub_tail _ (seen_expr (rules_of an frame) map e) (seen_of an frame) placed))))

-- ---- backward

-- what one value of the part pays, the form does
wrapped_pays : (an : Analysis) (l : Layer) → Fit an → Forward an l → Backward an l → (w : World) (s : State) (frame : Frame) (map : TypeMap) (e : Expr) (vs : List Value) (u : State) → Fine an w s
    → Runs an w s frame → Held an frame map s → Inside frame (of_expr e) (stats_of_expr e) → Placed an frame (seen_expr (rules_of an frame) map e)
    → Marked an frame (found (rules_of an frame) (seen_of an frame) [] e) → one (value l frame e) s ≡ Gave vs u
    → (one_of : List Value) × (first vs ≡ first one_of) × Evaluated an w s frame map e one_of u
wrapped_pays an l fit fwd bwd w s frame map e vs u f r h inside placed marked q = by_one (one_gave (value l frame e) s vs u q)
  where
    by_one : (v : Value) × (value l frame e s ≡ Gave v u) × (vs ≡ v ∷ []) → (one_of : List Value) × (first vs ≡ first one_of) × Evaluated an w s frame map e one_of u
    by_one p = by_value (value_gave l frame e s p.0 u p.1)
      where
        by_value : (xs : List Value) × (l.values frame e s ≡ Gave xs u) × (p.0 ≡ first xs) → (one_of : List Value) × (first vs ≡ first one_of) × Evaluated an w s frame map e one_of u
        by_value (xs, k, same) = (
          xs,
          subst (λ (ys : List Value). first ys ≡ first xs) (sym p.2) same,
          evaluated an l fwd bwd w s frame map e [] f r h inside placed marked xs u k,
        )

pub paren_backward : (an : Analysis) (l : Layer) → Fit an → Forward an l → Backward an l → (w : World) (s : State) (frame : Frame) (map : TypeMap) (id : _) (span : _) (e : Expr)
    (around : List ReportKind) → Fine an w s → Runs an w s frame → Held an frame map s → Inside frame (of_expr (the_expr id span (Paren e))) (stats_of_expr (the_expr id span (Paren e)))
    → Placed an frame (seen_expr (rules_of an frame) map (the_expr id span (Paren e)))
    → Marked an frame (found (rules_of an frame) (seen_of an frame) around (the_expr id span (Paren e)))
    → (vs : List Value) (u : State) → values an.program l frame (the_expr id span (Paren e)) s ≡ Gave vs u → Pays an frame (the_expr id span (Paren e)) s vs u
paren_backward an l fit fwd bwd w s frame map id span e around f r h inside placed marked vs u q =
    form_backward an l w s frame id span (Paren e) vs u fit (paren_form e) f r inside q
    (λ z m g j same k. pays z m g j (wrapped_pays an l fit fwd bwd z m frame map e vs u g j (held_store an s m frame map same h) (within_paren frame id span e inside)
    (sub_tail _ (seen_expr (rules_of an frame) map e) (seen_of an frame) placed) (sub_tail _ (found (rules_of an frame) (seen_of an frame) [] e) _ marked) k))
  where
    pays : (z : World) (m : State) → Fine an z m → Runs an z m frame → (one_of : List Value) × (first vs ≡ first one_of) × Evaluated an z m frame map e one_of u
        → FormPays an frame id (Paren e) m vs u
    pays z m g j (xs, same, o) = record {
      context = λ type y. subst (λ (x : Value). holds u.store.heap x type ≡ true) (sym same) (o.pays.context type y);
      count = unchecked_count an z m frame e xs m u fit j (sub_tail _ (found (rules_of an frame) (seen_of an frame) [] e) _ marked) o.pays;
      own = refl;
    }

pub assert_backward : (an : Analysis) (l : Layer) → Fit an → Forward an l → Backward an l → (w : World) (s : State) (frame : Frame) (map : TypeMap) (id : _) (span : _) (e : Expr) (type : _)
    (around : List ReportKind) → Fine an w s → Runs an w s frame → Held an frame map s → Inside frame (of_expr (the_expr id span (Assert e type))) (stats_of_expr (the_expr id span (Assert e type)))
    → Placed an frame (seen_expr (rules_of an frame) map (the_expr id span (Assert e type)))
    → Marked an frame (found (rules_of an frame) (seen_of an frame) around (the_expr id span (Assert e type)))
    → (vs : List Value) (u : State) → values an.program l frame (the_expr id span (Assert e type)) s ≡ Gave vs u → Pays an frame (the_expr id span (Assert e type)) s vs u
assert_backward an l fit fwd bwd w s frame map id span e type around f r h inside placed marked vs u q =
    form_backward an l w s frame id span (Assert e type) vs u fit (assert_form e type) f r inside q
    (λ z m g j same k. pays z m g j (wrapped_pays an l fit fwd bwd z m frame map e vs u g j (held_store an s m frame map same h) (within_assert frame id span e type inside)
    (sub_tail _ (seen_expr (rules_of an frame) map e) (seen_of an frame) placed) (sub_tail _ (found (rules_of an frame) (seen_of an frame) [] e) _ marked) k))
  where
    pays : (z : World) (m : State) → Fine an z m → Runs an z m frame → (one_of : List Value) × (first vs ≡ first one_of) × Evaluated an z m frame map e one_of u
        → FormPays an frame id (Assert e type) m vs u
    pays z m g j (xs, same, o) = record {
      context = λ set y. subst (λ (x : Value). holds u.store.heap x set ≡ true) (sym same) (o.pays.context set y);
      count = unchecked_count an z m frame e xs m u fit j (sub_tail _ (found (rules_of an frame) (seen_of an frame) [] e) _ marked) o.pays;
      own = refl;
    }
