-- Calls of methods, forward and backward.
use Rattle.std.proofs.Common.{◌≡◌, ◌<◌, ◌≤◌, ℕ, Bool, true, false, not, List, [], ◌∷◌, ◌++◌, Option, Some, None, ◌⊎◌, inl, inr, refl, sym, ◌∙◌, ap, subst, arith}
use Rattle.std.specs.List.{AllByRecursion}
use Rattle.luau_values.specs.Value.{Value}
use Rattle.luau_values.specs.Stands.{Stands}
use Rattle.luau_values.proofs.Public.{stands_later}
use Rattle.luau_tree.specs.Tree.{Expr, the_expr, Exprs, no_exprs, more_exprs, Method}
use Rattle.luau_tree.specs.declared.names.Op.TheVariants.{Index as IndexOp}
use Rattle.luau_run.specs.ReadModule.{Use}
use Rattle.luau_run.specs.SyntaxNode.{AnExpr, of_block, of_expr, of_exprs}
use Rattle.luau_run.specs.Machine.{Store, State, Gave, go_on, ◌>>=◌, step}
use Rattle.luau_run.specs.Layer.{Frame, Layer, first}
use Rattle.luau_run.specs.Operators.{Base, named_field}
use Rattle.luau_run.specs.Expressions.{base_of, all_values, is_library, values}
use Rattle.type_arena.specs.Term.{never}
use Rattle.type_normal.specs.Holds.{holds}
use Rattle.type_normal.specs.Kinds.{unknown, field_is}
use Rattle.type_normal.specs.Failing.{unindexable, call_fail, index_fail}
use Rattle.type_normal.proofs.Public.{unknown_all, never_none, union_holds, kinds_hold, grown_holds}
use Rattle.report_rules.specs.Rules.{Rules, fixed_use}
use Rattle.report_rules.specs.Effects.{effects, any_effects}
use Rattle.report_rules.specs.TypeMap.{TypeMap}
use Rattle.report_rules.specs.Forward.{builtin_or, after}
use Rattle.report_rules.specs.Seen.{Seen, seen_expr, seen_list}
use Rattle.report_rules.specs.Context.{Context, none, followed}
use Rattle.report_rules.specs.Checks.{ReportKind, Operand}
use Rattle.report_rules.specs.Errors.{ev, ev_parts, index_kinds, method_set}
use Rattle.report_rules.specs.Statements.{ev_values}
use Rattle.report_rules.specs.Findings.{Finding, found, found_parts, found_values}
use Rattle.report_rules.specs.Reports.{findings}
use Rattle.run_frame.specs.Analysis.{Analysis}
use Rattle.run_frame.specs.Statements.{stats_of_expr, stats_of_exprs}
use Rattle.run_frame.specs.Fit.{Fit}
use Rattle.run_frame.proofs.World.{World}
use Rattle.run_frame.proofs.Counts.{reached}
use Rattle.run_frame.proofs.Kept.{MayMore, Kept, nobody, kept_same}
use Rattle.run_frame.proofs.Fine.{Fine, fine_same}
use Rattle.run_frame.proofs.Held.{Runs, runs_kept, has_begun, Held, held_store, Violated}
use Rattle.run_frame.proofs.Parts.{Ends, Same, ends_so, ends_then, ends_more, ends_gave, ends_step, step_same, gave_then}
use Rattle.run_frame.proofs.Layers.{rules_of, seen_of, part_of, expr_of, is_quiet, Inside, Placed, Marked, Gives, Pays, Answers, Trouble, Forward, Backward}
use Rattle.run_frame.proofs.Readings.{sub_tail, sub_left, sub_right}
use Rattle.run_frame.proofs.Passing.{none_violated, violated_followed, one_of}
use Rattle.run_frame.proofs.Lists.{ListGives, list_forward, may_part, inside_left, inside_right}
use Rattle.run_frame.proofs.Forms.{Evaluated, evaluated, IsForm, form_read, form_forward, FormPays, form_backward, first_stands}
use Rattle.run_frame.proofs.ListsBack.{by_set, operand_quiet}
use Rattle.run_frame.proofs.Wanted.{SomeWanted, none_wanted, values_pay, checks_wanted, found_wanted}
use Rattle.reports_certain.proofs.Arguments.{list_given}
use Rattle.reports_certain.proofs.FieldReads.{NamedGives, named_field_ends, field_in, library_facts, BaseGives, base_forward, base_gave}

clash : {P : Type 0} (b : Bool) → b ≡ true → b ≡ false → P
clash b p q = cc

none_some : {A : Type 0} (o : Option A) (x : A) → o ≡ None → o ≡ Some x → ⊥
none_some o x p q = cc

method_form : (base : Expr) (name : List ℕ) (name_span : _) (args : Exprs) → IsForm (Method base name name_span args)
method_form base name name_span args = record { nameless = refl; pathless = refl; no_local = λ rules id span. refl }

within_method : (frame : Frame) (id : ℕ) (span : _) (base : Expr) (name : List ℕ) (name_span : _) (args : Exprs)
    → Inside frame (of_expr (the_expr id span (Method base name name_span args))) (stats_of_expr (the_expr id span (Method base name name_span args)))
    → Inside frame (of_expr base ++ of_exprs args) (stats_of_expr base ++ stats_of_exprs args)
within_method frame id span base name name_span args h =
    record { nodes = sub_tail (AnExpr (the_expr id span (Method base name name_span args))) (of_expr base ++ of_exprs args) (of_block frame.reading.block) h.nodes; stats = h.stats }

-- a call may do anything
may_anything : (frame : Frame) (b : Bool) → MayMore (nobody b) (part_of frame true)
may_anything frame b = record { runs = inl refl; assigns = λ x e. refl; binds = λ x e. e; calm = λ e. cc }

-- ---- forward

method_gives : (an : Analysis) (frame : Frame) (map : TypeMap) (id : ℕ) (span : _) (base : Expr) (name : List ℕ) (name_span : _) (args : Exprs) (callee : Value) (given rs : List Value) (s u : State)
    → (rules_of an frame).reading.use_of id ≡ None → Answers an callee given s rs u → Gives an frame map (the_expr id span (Method base name name_span args)) rs u
method_gives an frame map id span base name name_span args callee given rs s u used answers = record {
  stand = answers.stand;
  typed = subst (λ (o : Option Use). holds u.store.heap (first rs) (builtin_or o unknown) ≡ true) (sym used) (unknown_all u.store.heap (first rs));
  one = λ e. cc;
  fixed = λ path e. absurd (none_some (fixed_use (rules_of an frame) ((rules_of an frame).reading.use_of id)) path (ap (fixed_use (rules_of an frame)) used) e);
  local = λ x e firm. cc;
  guard_shows = λ x firm. inl refl;
  kind = λ x e. cc;
}

pub method_forward : (an : Analysis) (l : Layer) → Fit an → Forward an l → (w : World) (s : State) (frame : Frame) (map : TypeMap) (id : ℕ) (span : _) (base : Expr) (name : List ℕ) (name_span : _)
    (args : Exprs) → Fine an w s → Runs an w s frame → Held an frame map s
    → Inside frame (of_expr (the_expr id span (Method base name name_span args))) (stats_of_expr (the_expr id span (Method base name name_span args)))
    → Placed an frame (seen_expr (rules_of an frame) map (the_expr id span (Method base name name_span args)))
    → Ends an (expr_of an frame (the_expr id span (Method base name name_span args))) w s (Gives an frame map (the_expr id span (Method base name name_span args)))
    (values an.program l frame (the_expr id span (Method base name name_span args)) s)
unfolding ◌>>=◌
method_forward an l fit fwd w s frame map id span base name name_span args f r h inside placed =
    form_forward an l w s frame id span (Method base name name_span args) P fit (method_form base name name_span args) f r inside
    (λ t z g j same. ends_then an (part_of frame true) z t (BaseGives an frame map base) P (base_of l frame base t)
    (λ b. ◌>>=◌ (all_values l frame args) (λ values. ◌>>=◌ (named_field an.program name b) (λ f. ◌>>=◌ step (λ x. l.call f (b.value ∷ values)))))
    (ends_more an (expr_of an frame base) (part_of frame true) z t (BaseGives an frame map base) (base_of l frame base t) (may_part frame (effects (rules_of an frame) base) true (λ e. cc))
    (base_forward an l fwd z t frame map base g j (held_store an s t frame map same h)
    (inside_left frame (of_expr base) (of_exprs args) (stats_of_expr base) (stats_of_exprs args) (within_method frame id span base name name_span args inside)) placed_base))
    (λ b a v i k p. after_base b a v i (runs_kept an (part_of frame true) z v t a frame k j) p))
  where
    P : List Value → State → Type 0
    P = Gives an frame map (the_expr id span (Method base name name_span args))

    placed_in : Placed an frame (seen_expr (rules_of an frame) map base ++ seen_list (rules_of an frame) (after (rules_of an frame) map base) args)
    placed_in = sub_tail _ (seen_expr (rules_of an frame) map base ++ seen_list (rules_of an frame) (after (rules_of an frame) map base) args) (seen_of an frame) placed

    placed_base : Placed an frame (seen_expr (rules_of an frame) map base)
    placed_base = sub_left (seen_expr (rules_of an frame) map base) (seen_list (rules_of an frame) (after (rules_of an frame) map base) args) (seen_of an frame) placed_in

    placed_args : Placed an frame (seen_list (rules_of an frame) (after (rules_of an frame) map base) args)
    placed_args = sub_right (seen_expr (rules_of an frame) map base) (seen_list (rules_of an frame) (after (rules_of an frame) map base) args) (seen_of an frame) placed_in

    called : (callee : Value) (given : List Value) (d : State) (o : World) → Fine an o d → Stands d.store.heap callee → AllByRecursion (Stands d.store.heap) given
        → Ends an (part_of frame true) o d P (l.call callee given d)
    called callee given d o m there all = ends_more an (nobody (is_quiet an.program callee)) (part_of frame true) o d P (l.call callee given d) (may_anything frame (is_quiet an.program callee))
        (ends_so an (nobody (is_quiet an.program callee)) o d (Answers an callee given d) P (l.call callee given d)
        (λ rs u z e c k answers. method_gives an frame map id span base name name_span args callee given rs d u
        (form_read an w s frame id span (Method base name name_span args) fit (method_form base name name_span args) r inside) answers)
        (fwd.call o d callee given m there all))

    after_base : (b : Base) (a : State) (v : World) → Fine an v a → Runs an v a frame → BaseGives an frame map base b a
        → Ends an (part_of frame true) v a P (go_on (all_values l frame args a) (λ values. ◌>>=◌ (named_field an.program name b) (λ f. ◌>>=◌ step (λ x. l.call f (b.value ∷ values)))))
    after_base b a v i j p = ends_then an (part_of frame true) v a (ListGives an frame (after (rules_of an frame) map base) args) P (all_values l frame args a)
        (λ values. ◌>>=◌ (named_field an.program name b) (λ f. ◌>>=◌ step (λ x. l.call f (b.value ∷ values))))
        (ends_more an (part_of frame (any_effects (rules_of an frame) args)) (part_of frame true) v a (ListGives an frame (after (rules_of an frame) map base) args) (all_values l frame args a)
        (may_part frame (any_effects (rules_of an frame) args) true (λ e. cc))
        (list_forward an l fwd v a frame (after (rules_of an frame) map base) args i j p.0.2.1
        (inside_right frame (of_expr base) (of_exprs args) (stats_of_expr base) (stats_of_exprs args) (within_method frame id span base name name_span args inside)) placed_args))
        (λ vs n y c k q. ends_then an (part_of frame true) y n (NamedGives n name b) P (named_field an.program name b n) (λ f. ◌>>=◌ step (λ x. l.call f (b.value ∷ vs)))
        (named_field_ends an (part_of frame true) y n name b c)
        (λ f m x d e g. ends_then an (part_of frame true) x m (λ i t. Same m t) P (step m) (λ i. l.call f (b.value ∷ vs)) (ends_step an (part_of frame true) x m d)
        (λ i o z fine_o kept same. called f (b.value ∷ vs) o z fine_o
        (subst (λ (s : Store). Stands s.heap f) (sym (same.0 ∙ g.0.same.0)) g.0.stands) (
          subst (λ (s : Store). Stands s.heap b.value) (sym (same.0 ∙ g.0.same.0)) (stands_later a.store.heap n.store.heap b.value k.heap
              (subst (λ (v : Value). Stands a.store.heap v) (sym p.0.1) (first_stands a.store.heap p.0.0 p.0.2.0.stand))),
          subst (λ (s : Store). AllByRecursion (Stands s.heap) vs) (sym (same.0 ∙ g.0.same.0)) q.stand,
        ))))

-- ---- backward

parts_are : (rules : Rules) (seen : List Seen) (es : Exprs) → ev_values rules seen [] es none ≡ ev_parts rules seen es
parts_are rules seen no_exprs = refl
parts_are rules seen (more_exprs e rest) = ap (λ (c : Context). followed (ev rules seen e never) (effects rules e) c) (parts_are rules seen rest)

found_are : (rules : Rules) (seen : List Seen) (es : Exprs) → found_values rules seen [] es ≡ found_parts rules seen es
found_are rules seen no_exprs = refl
found_are rules seen (more_exprs e rest) = ap (λ (fs : List Finding). found rules seen [] e ++ fs) (found_are rules seen rest)

level : (m n : ℕ) → m ≤ n → (m < n → ⊥) → n ≡ m
level m n t k = by_order (less_or_same m n t)
  where
    less_or_same : (m n : ℕ) → m ≤ n → (m < n) ⊎ (n ≡ m)
    less_or_same m n t = grind (arith, t)

    by_order : (m < n) ⊎ (n ≡ m) → n ≡ m
    by_order (inl e) = absurd (k e)
    by_order (inr e) = e

-- values of which nothing is wanted, that were all given
parts_quiet : (an : Analysis) (l : Layer) → Fit an → Forward an l → Backward an l → (w : World) (s : State) (frame : Frame) (map : TypeMap) (es : Exprs) → Fine an w s → Runs an w s frame
    → Held an frame map s → Inside frame (of_exprs es) (stats_of_exprs es) → Placed an frame (seen_list (rules_of an frame) map es)
    → Marked an frame (found_parts (rules_of an frame) (seen_of an frame) es) → (vs : List Value) (t : State) → all_values l frame es s ≡ Gave vs t
    → (Violated an frame (ev_parts (rules_of an frame) (seen_of an frame) es) s → ⊥) × (reached an frame.activation t.trace ≡ reached an frame.activation s.trace)
parts_quiet an l fit fwd bwd w s frame map es f r h inside placed marked vs t q = (
  λ y. untroubled (inl y),
  level (reached an frame.activation s.trace) (reached an frame.activation t.trace)
      (list_given an l fwd bwd w s frame map es (checks_wanted an frame [] es (inr tt)) f r h inside placed
      (subst (λ (fs : List Finding). Marked an frame fs) (sym (found_wanted an frame [] es (inr tt))) marked_values) vs t q).1 (λ y. untroubled (inr y)),
)
  where
    marked_values : Marked an frame (found_values (rules_of an frame) (seen_of an frame) [] es)
    marked_values = subst (λ (fs : List Finding). Marked an frame fs) (sym (found_are (rules_of an frame) (seen_of an frame) es)) marked

    untroubled : Trouble an frame (ev_parts (rules_of an frame) (seen_of an frame) es) s t → ⊥
    untroubled y = by_side (values_pay an l fit fwd bwd w s frame map [] es none (inr tt) f r h inside placed marked_values vs t q
        (subst (λ (c : Context). Trouble an frame c s t) (sym (parts_are (rules_of an frame) (seen_of an frame) es)) y))
      where
        by_side : SomeWanted t.store.heap [] es vs ⊎ Violated an frame none t → ⊥
        by_side (inl x) = none_wanted t.store.heap es vs x
        by_side (inr x) = none_violated an frame t x

pub method_backward : (an : Analysis) (l : Layer) → Fit an → Forward an l → Backward an l → (w : World) (s : State) (frame : Frame) (map : TypeMap) (id : ℕ) (span : _) (base : Expr) (name : List ℕ)
    (name_span : _) (args : Exprs) (around : List ReportKind) → Fine an w s → Runs an w s frame → Held an frame map s
    → Inside frame (of_expr (the_expr id span (Method base name name_span args))) (stats_of_expr (the_expr id span (Method base name name_span args)))
    → Placed an frame (seen_expr (rules_of an frame) map (the_expr id span (Method base name name_span args)))
    → Marked an frame (found (rules_of an frame) (seen_of an frame) around (the_expr id span (Method base name name_span args)))
    → (rs : List Value) (u : State) → values an.program l frame (the_expr id span (Method base name name_span args)) s ≡ Gave rs u
    → Pays an frame (the_expr id span (Method base name name_span args)) s rs u
unfolding ◌>>=◌
method_backward an l fit fwd bwd w s frame map id span base name name_span args around f r h inside placed marked rs u q =
    form_backward an l w s frame id span (Method base name name_span args) rs u fit (method_form base name name_span args) f r inside q
    (λ z m g j same k. by_base z m g j (held_store an s m frame map same h) (gave_then (base_of l frame base m)
    (λ b. ◌>>=◌ (all_values l frame args) (λ values. ◌>>=◌ (named_field an.program name b) (λ f. ◌>>=◌ step (λ x. l.call f (b.value ∷ values))))) rs u k))
  where
    Paid : State → Type 0
    Paid m = FormPays an frame id (Method base name name_span args) m rs u

    placed_in : Placed an frame (seen_expr (rules_of an frame) map base ++ seen_list (rules_of an frame) (after (rules_of an frame) map base) args)
    placed_in = sub_tail _ (seen_expr (rules_of an frame) map base ++ seen_list (rules_of an frame) (after (rules_of an frame) map base) args) (seen_of an frame) placed

    placed_base : Placed an frame (seen_expr (rules_of an frame) map base)
    placed_base = sub_left (seen_expr (rules_of an frame) map base) (seen_list (rules_of an frame) (after (rules_of an frame) map base) args) (seen_of an frame) placed_in

    placed_args : Placed an frame (seen_list (rules_of an frame) (after (rules_of an frame) map base) args)
    placed_args = sub_right (seen_expr (rules_of an frame) map base) (seen_list (rules_of an frame) (after (rules_of an frame) map base) args) (seen_of an frame) placed_in

    marked_in : Marked an frame (found (rules_of an frame) (seen_of an frame) (index_kinds (seen_of an frame) base) base ++ found_parts (rules_of an frame) (seen_of an frame) args)
    marked_in = sub_tail _ (found (rules_of an frame) (seen_of an frame) (index_kinds (seen_of an frame) base) base ++ found_parts (rules_of an frame) (seen_of an frame) args) (findings (rules_of an frame)) marked

    marked_base : Marked an frame (found (rules_of an frame) (seen_of an frame) (index_kinds (seen_of an frame) base) base)
    marked_base = sub_left (found (rules_of an frame) (seen_of an frame) (index_kinds (seen_of an frame) base) base) (found_parts (rules_of an frame) (seen_of an frame) args) (findings (rules_of an frame)) marked_in

    marked_args : Marked an frame (found_parts (rules_of an frame) (seen_of an frame) args)
    marked_args = sub_right (found (rules_of an frame) (seen_of an frame) (index_kinds (seen_of an frame) base) base) (found_parts (rules_of an frame) (seen_of an frame) args) (findings (rules_of an frame)) marked_in

    inside_base : Inside frame (of_expr base) (stats_of_expr base)
    inside_base = inside_left frame (of_expr base) (of_exprs args) (stats_of_expr base) (stats_of_exprs args) (within_method frame id span base name name_span args inside)

    inside_args : Inside frame (of_exprs args) (stats_of_exprs args)
    inside_args = inside_right frame (of_expr base) (of_exprs args) (stats_of_expr base) (stats_of_exprs args) (within_method frame id span base name name_span args inside)

    by_base : (z : World) (m : State) → Fine an z m → Runs an z m frame → Held an frame map m
        → (b : Base) × (a : State) × (base_of l frame base m ≡ Gave b a)
        × (◌>>=◌ (all_values l frame args) (λ values. ◌>>=◌ (named_field an.program name b) (λ f. ◌>>=◌ step (λ x. l.call f (b.value ∷ values)))) a ≡ Gave rs u) → Paid m
    by_base z m g j held (b, a, gave_base, gave) = by_value (base_gave l frame base m b a gave_base)
        (gave_then (all_values l frame args a) (λ values. ◌>>=◌ (named_field an.program name b) (λ f. ◌>>=◌ step (λ x. l.call f (b.value ∷ values)))) rs u gave)
      where
        by_value : (xs : List Value) × (l.values frame base m ≡ Gave xs a) × (b.value ≡ first xs) × (b.is_library ≡ is_library frame base)
            → (vs : List Value) × (n : State) × (all_values l frame args a ≡ Gave vs n) × (◌>>=◌ (named_field an.program name b) (λ f. ◌>>=◌ step (λ x. l.call f (b.value ∷ vs))) n ≡ Gave rs u) → Paid m
        by_value (xs, k, is, lib) (vs, n, gave_args, rest) = by_evaluated (evaluated an l fwd bwd z m frame map base (index_kinds (seen_of an frame) base) g j held inside_base placed_base marked_base xs a k)
            (gave_then (named_field an.program name b n) (λ f. ◌>>=◌ step (λ x. l.call f (b.value ∷ vs))) rs u rest)
          where
            by_evaluated : Evaluated an z m frame map base xs a
                → (f : Value) × (e : State) × (named_field an.program name b n ≡ Gave f e) × (◌>>=◌ step (λ x. l.call f (b.value ∷ vs)) e ≡ Gave rs u) → Paid m
            by_evaluated o (callee, e, gave_field, gave_call) = by_args
                (ends_gave an (part_of frame (any_effects (rules_of an frame) args)) o.world a (ListGives an frame (after (rules_of an frame) map base) args) (all_values l frame args a) vs n gave_args
                (list_forward an l fwd o.world a frame (after (rules_of an frame) map base) args o.fine o.runs o.held inside_args placed_args))
                (gave_then (step e) (λ x. l.call callee (b.value ∷ vs)) rs u gave_call)
              where
                quiet : (Violated an frame (ev_parts (rules_of an frame) (seen_of an frame) args) a → ⊥) × (reached an frame.activation n.trace ≡ reached an frame.activation a.trace)
                quiet = parts_quiet an l fit fwd bwd o.world a frame (after (rules_of an frame) map base) args o.fine o.runs o.held inside_args placed_args marked_args vs n gave_args

                by_args : (v : World) × Fine an v n × Kept an (part_of frame (any_effects (rules_of an frame) args)) o.world a v n × ListGives an frame (after (rules_of an frame) map base) args vs n
                    → (y : Unit {0}) × (d : State) × (step e ≡ Gave y d) × (l.call callee (b.value ∷ vs) d ≡ Gave rs u) → Paid m
                by_args (v, fn, kn, p) (y, d, stepped, called) = by_field
                    (ends_gave an (part_of frame true) v n (NamedGives n name b) (named_field an.program name b n) callee e gave_field (named_field_ends an (part_of frame true) v n name b fn))
                  where
                    by_field : (x : World) × Fine an x e × Kept an (part_of frame true) v n x e × NamedGives n name b callee e → Paid m
                    by_field (x, fe, ke, field) = by_answer (ends_gave an (nobody (is_quiet an.program callee)) x d (Answers an callee (b.value ∷ vs) d) (l.call callee (b.value ∷ vs) d) rs u called
                        (fwd.call x d callee (b.value ∷ vs) fine_d (subst (λ (s : Store). Stands s.heap callee) (sym stores) field.0.stands) (
                          subst (λ (s : Store). Stands s.heap b.value) (sym stores) (stands_later a.store.heap n.store.heap b.value kn.heap base_stands),
                          subst (λ (s : Store). AllByRecursion (Stands s.heap) vs) (sym stores) p.stand,
                        )))
                      where
                        same_d : Same e d
                        same_d = step_same e d stepped

                        stores : d.store ≡ n.store
                        stores = same_d.0 ∙ field.0.same.0

                        fine_d : Fine an x d
                        fine_d = fine_same an x e d same_d.0 same_d.1 fe

                        runs_d : Runs an x d frame
                        runs_d = runs_kept an (part_of frame true) x x e d frame (kept_same an (part_of frame true) x e d same_d.0 same_d.1)
                            (runs_kept an (part_of frame true) v x n e frame ke (runs_kept an (part_of frame (any_effects (rules_of an frame) args)) o.world v a n frame kn o.runs))

                        base_stands : Stands a.store.heap b.value
                        base_stands = subst (λ (t : Value). Stands a.store.heap t) (sym is) (first_stands a.store.heap xs o.gives.stand)

                        no_index : holds a.store.heap b.value index_fail ≡ true → ⊥
                        no_index i = clash (holds n.store.heap b.value index_fail) (kinds_hold n.store.heap b.value unindexable ∙ (sym (kinds_hold a.store.heap b.value unindexable) ∙ i)) field.0.indexable

                        by_answer : (i : World) × Fine an i u × Kept an (nobody (is_quiet an.program callee)) x d i u × Answers an callee (b.value ∷ vs) d rs u → Paid m
                        by_answer (i, fu, ku, answers) = record {
                          context = λ set c. absurd (safe c);
                          count = ku.counts frame.activation (has_begun an x d frame fine_d runs_d) (λ c. cc)
                              ∙ (ap (λ trace. reached an frame.activation trace) (same_d.1 ∙ field.0.same.1)
                              ∙ (quiet.1 ∙ operand_quiet an z m frame map base (by_set an frame base index_fail (Operand IndexOp)) xs a fit j placed_base marked_base o.gives o.pays
                              (λ c. no_index (subst (λ (t : Value). holds a.store.heap t index_fail ≡ true) (sym is) c))));
                          own = refl;
                        }
                          where
                            -- the method can't be called, which the call could
                            no_method : any_effects (rules_of an frame) args ≡ false → b.is_library ≡ false → holds a.store.heap b.value (field_is name call_fail) ≡ true → ⊥
                            no_method calm plain c = clash (holds d.store.heap callee call_fail)
                                (subst (λ (s : Store). holds s.heap callee call_fail ≡ true) (sym stores)
                                (field_in n.store.heap name b.value callee call_fail
                                (grown_holds a.store.heap n.store.heap b.value (field_is name call_fail) o.fine.fields base_stands (kn.calm (ap not calm)) c) (field.1 plain))) answers.callable

                            in_base : (kinds : List ReportKind) (eff : Bool) → any_effects (rules_of an frame) args ≡ eff → b.is_library ≡ false → holds a.store.heap b.value (method_set kinds name eff) ≡ true → ⊥
                            in_base (kind ∷ kinds) eff k plain c = clash (holds a.store.heap b.value never) c (never_none a.store.heap b.value)
                            in_base [] true k plain c = by_side (one_of (holds a.store.heap b.value index_fail) (holds a.store.heap b.value never) (sym (union_holds a.store.heap b.value index_fail never) ∙ c))
                              where
                                by_side : (holds a.store.heap b.value index_fail ≡ true) ⊎ (holds a.store.heap b.value never ≡ true) → ⊥
                                by_side (inl y) = no_index y
                                by_side (inr y) = clash (holds a.store.heap b.value never) y (never_none a.store.heap b.value)
                            in_base [] false k plain c =
                                by_side (one_of (holds a.store.heap b.value index_fail) (holds a.store.heap b.value (field_is name call_fail)) (sym (union_holds a.store.heap b.value index_fail (field_is name call_fail)) ∙ c))
                              where
                                by_side : (holds a.store.heap b.value index_fail ≡ true) ⊎ (holds a.store.heap b.value (field_is name call_fail) ≡ true) → ⊥
                                by_side (inl y) = no_index y
                                by_side (inr y) = no_method k plain y

                            base_safe : (t : Bool) → is_library frame base ≡ t
                                → Violated an frame (ev (rules_of an frame) (seen_of an frame) base (method_set (index_kinds (seen_of an frame) base) name (any_effects (rules_of an frame) args))) m → ⊥
                            base_safe true k c = none_violated an frame m (subst (λ (t : Context). Violated an frame t m)
                                ((library_facts an z m frame map base fit j inside_base k).unasked (method_set (index_kinds (seen_of an frame) base) name (any_effects (rules_of an frame) args))) c)
                            base_safe false k c = in_base (index_kinds (seen_of an frame) base) (any_effects (rules_of an frame) args) refl (lib ∙ k)
                                (subst (λ (t : Value). holds a.store.heap t (method_set (index_kinds (seen_of an frame) base) name (any_effects (rules_of an frame) args)) ≡ true) (sym is)
                                (o.pays.context (method_set (index_kinds (seen_of an frame) base) name (any_effects (rules_of an frame) args)) c))

                            safe : Violated an frame (followed (ev (rules_of an frame) (seen_of an frame) base (method_set (index_kinds (seen_of an frame) base) name (any_effects (rules_of an frame) args)))
                                (effects (rules_of an frame) base) (ev_parts (rules_of an frame) (seen_of an frame) args)) m → ⊥
                            safe c = by_side (violated_followed an z o.world m a frame
                                (ev (rules_of an frame) (seen_of an frame) base (method_set (index_kinds (seen_of an frame) base) name (any_effects (rules_of an frame) args)))
                                (ev_parts (rules_of an frame) (seen_of an frame) args) (effects (rules_of an frame) base) g j o.kept c)
                              where
                                by_side : Violated an frame (ev (rules_of an frame) (seen_of an frame) base (method_set (index_kinds (seen_of an frame) base) name (any_effects (rules_of an frame) args))) m
                                    ⊎ Violated an frame (ev_parts (rules_of an frame) (seen_of an frame) args) a → ⊥
                                by_side (inl t) = base_safe (is_library frame base) refl t
                                by_side (inr t) = quiet.0 t
