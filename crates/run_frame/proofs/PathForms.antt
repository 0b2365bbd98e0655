-- Builtins' paths as expressions, forward and backward: what is always a builtin is evaluated whole.
use Rattle.std.proofs.Common.{◌≡◌, ℕ, ◌+◌, true, List, [], ◌∷◌, Option, Some, None, inl, refl, sym, ◌∙◌, ap, subst}
use Rattle.luau_values.specs.Value.{Value, Builtin}
use Rattle.luau_tree.specs.Tree.{Expr, the_expr, ExprKind, Index, At}
use Rattle.luau_tree.specs.declared.names.Place.TheVariants.{Expr as ExprPlace}
use Rattle.luau_run.specs.ReadModule.{Use, UseBuiltin, ReadModule}
use Rattle.luau_run.specs.Machine.{State, Gave, give}
use Rattle.luau_run.specs.Layer.{Frame, Layer}
use Rattle.luau_run.specs.Expressions.{values, evaluate_or_builtin}
use Rattle.type_normal.specs.Holds.{holds}
use Rattle.type_normal.specs.Kinds.{unknown}
use Rattle.report_rules.specs.Rules.{Rules, fixed_use, local_named}
use Rattle.report_rules.specs.Guard.{guard_of_kind, kind_subject}
use Rattle.report_rules.specs.TypeMap.{TypeMap}
use Rattle.report_rules.specs.Forward.{type_of_kind, builtin_or}
use Rattle.report_rules.specs.Seen.{Seen}
use Rattle.report_rules.specs.Context.{Context}
use Rattle.report_rules.specs.Errors.{ev_in, unless_builtin}
use Rattle.report_rules.specs.Findings.{own_kinds}
use Rattle.run_frame.specs.Analysis.{Analysis}
use Rattle.run_frame.specs.Fit.{Fit}
use Rattle.run_frame.proofs.World.{World}
use Rattle.run_frame.proofs.Counts.{is_reported, reached, one_if}
use Rattle.run_frame.proofs.Fine.{Fine}
use Rattle.run_frame.proofs.Held.{Runs, Violated}
use Rattle.run_frame.proofs.Parts.{Ends, ends_give, gave_same}
use Rattle.run_frame.proofs.Layers.{rules_of, seen_of, expr_of, Gives, Pays}
use Rattle.run_frame.proofs.Readings.{reads_same}
use Rattle.run_frame.proofs.Names.{builtin_is}
use Rattle.run_frame.proofs.Passing.{none_violated}
use Rattle.run_frame.proofs.Expressions.{Opened, ends_values, values_gave}

-- a form that may be a builtin's path: no guard speaks of it, and it reports nothing of its own
pub record IsPath (kind : ExprKind) : Type 0 where
  pub no_local : (rules : Rules) (id : ℕ) (span : _) → local_named rules (the_expr id span kind) ≡ None
  pub no_guard : (rules : Rules) (id : ℕ) (truth : _) (x : ℕ) → guard_of_kind rules id kind truth x ≡ unknown
  pub no_subject : (rules : Rules) (id : ℕ) (span : _) → kind_subject rules (the_expr id span kind) ≡ None
  pub no_own : (rules : Rules) (seen : List Seen) (id : ℕ) → own_kinds rules seen id kind ≡ []

pub index_path : (base : Expr) (name : List ℕ) → IsPath (Index base name)
index_path base name = record { no_local = λ rules id span. refl; no_guard = λ rules id truth x. refl; no_subject = λ rules id span. refl; no_own = λ rules seen id. refl }

pub element_path : (base key : Expr) → IsPath (At base key)
element_path base key = record { no_local = λ rules id span. refl; no_guard = λ rules id truth x. refl; no_subject = λ rules id span. refl; no_own = λ rules seen id. refl }

none_some : {A : Type 0} (o : Option A) (x : A) → o ≡ None → o ≡ Some x → ⊥
none_some o x p q = cc

same_path : (p q : List ℕ) → Some p ≡ Some q → p ≡ q
same_path p q e = cc

path_read : (an : Analysis) (w : World) (s : State) (frame : Frame) (id : ℕ) (path : List ℕ) → Fit an → Runs an w s frame → frame.reading.use_of id ≡ Some (UseBuiltin path)
    → (rules_of an frame).reading.use_of id ≡ Some (UseBuiltin path)
path_read an w s frame id path fit r e = ap (λ (x : ReadModule). x.use_of id) (reads_same an w s frame fit r) ∙ e

path_gives : (an : Analysis) (frame : Frame) (map : TypeMap) (id : ℕ) (span : _) (kind : ExprKind) (path : List ℕ) (t : State) → IsPath kind
    → (rules_of an frame).reading.use_of id ≡ Some (UseBuiltin path) → Gives an frame map (the_expr id span kind) (Builtin path ∷ []) t
path_gives an frame map id span kind path t form e = record {
  stand = (tt, tt);
  typed = subst (λ (u : Option Use). holds t.store.heap (Builtin path) (builtin_or u (type_of_kind (rules_of an frame) map id kind)) ≡ true) (sym e) (builtin_is t.store.heap path);
  one = λ k. (Builtin path, refl);
  fixed = λ other k. ap (λ (x : List ℕ). Builtin x ∷ []) (same_path path other (sym (ap (fixed_use (rules_of an frame)) e) ∙ k));
  local = λ x k l. absurd (none_some (local_named (rules_of an frame) (the_expr id span kind)) x (form.no_local (rules_of an frame) id span) k);
  guard_shows = λ x firm. inl (form.no_guard (rules_of an frame) id true x);
  kind = λ x k. absurd (none_some (kind_subject (rules_of an frame) (the_expr id span kind)) x (form.no_subject (rules_of an frame) id span) k);
}

pub path_forward : (an : Analysis) (l : Layer) (w : World) (s : State) (frame : Frame) (map : TypeMap) (id : ℕ) (span : _) (kind : ExprKind) (path : List ℕ) → Fit an → IsPath kind
    → frame.reading.use_of id ≡ Some (UseBuiltin path) → Fine an w s → Runs an w s frame
    → Ends an (expr_of an frame (the_expr id span kind)) w s (Gives an frame map (the_expr id span kind)) (values an.program l frame (the_expr id span kind) s)
path_forward an l w s frame map id span kind path fit form e f r =
    ends_values an an.program l (expr_of an frame (the_expr id span kind)) w s frame id span kind (Gives an frame map (the_expr id span kind)) f r refl
    (λ t z g k same. subst (λ (u : Option Use). Ends an (expr_of an frame (the_expr id span kind)) z t (Gives an frame map (the_expr id span kind)) (evaluate_or_builtin an.program l frame id kind u t))
    (sym e) (ends_give an (expr_of an frame (the_expr id span kind)) z t (Gives an frame map (the_expr id span kind)) (Builtin path ∷ []) g
    (path_gives an frame map id span kind path t form (path_read an w s frame id path fit r e))))

pub path_backward : (an : Analysis) (l : Layer) (w : World) (s : State) (frame : Frame) (id : ℕ) (span : _) (kind : ExprKind) (path : List ℕ) (vs : List Value) (u : State) → Fit an
    → IsPath kind → frame.reading.use_of id ≡ Some (UseBuiltin path) → Fine an w s → Runs an w s frame → values an.program l frame (the_expr id span kind) s ≡ Gave vs u
    → Pays an frame (the_expr id span kind) s vs u
unfolding give
path_backward an l w s frame id span kind path vs u fit form e f r q =
    by_opened (values_gave an an.program l (expr_of an frame (the_expr id span kind)) w s frame id span kind vs u f r refl q)
  where
    unused : (context : Context) (use_here : Option Use) → use_here ≡ Some (UseBuiltin path) → Violated an frame (unless_builtin use_here context) s → ⊥
    unused context use_here k h = none_violated an frame s (subst (λ (z : Option Use). Violated an frame (unless_builtin z context) s) k h)

    by_opened : Opened an an.program l (expr_of an frame (the_expr id span kind)) w s frame id kind vs u → Pays an frame (the_expr id span kind) s vs u
    by_opened o = record {
      context = λ type h. absurd (unused (ev_in (rules_of an frame) (seen_of an frame) id kind type) ((rules_of an frame).reading.use_of id) (path_read an w s frame id path fit r e) h);
      reports = subst (λ (x : State). reached an frame.activation x.trace
          ≡ reached an frame.activation s.trace + one_if (is_reported an frame.module_at (ExprPlace (record { 0 = id }))))
          (gave_same (Builtin path ∷ []) vs o.at u (subst (λ (z : Option Use). evaluate_or_builtin an.program l frame id kind z o.at ≡ Gave vs u) e o.gave)).1 o.opened.1;
      own = form.no_own (rules_of an frame) (seen_of an frame) id;
    }
