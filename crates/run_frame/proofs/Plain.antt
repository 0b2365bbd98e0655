-- Expressions whose value comes at once, whatever the state: constants.
use Rattle.std.proofs.Common.{◌≡◌, ℕ, ◌+◌, Bool, true, false, List, [], ◌∷◌, Option, Some, None, inl, refl, sym, ◌∙◌, ap, subst}
use Rattle.luau_values.specs.Value.{Value, Nil, Truth, Num, Str}
use Rattle.luau_values.specs.Heap.{Heap}
use Rattle.luau_values.specs.Stands.{Stands}
use Rattle.luau_tree.specs.Tree.{the_expr, ExprKind, NilExpr, TrueExpr, FalseExpr, NumberExpr, StrExpr}
use Rattle.luau_tree.specs.declared.names.Place.TheVariants.{Expr as ExprPlace}
use Rattle.luau_run.specs.Program.{Program}
use Rattle.luau_run.specs.ReadModule.{Use, ReadModule}
use Rattle.luau_run.specs.ReadFolder.{name_of, spelled}
use Rattle.luau_run.specs.SyntaxNode.{of_expr, of_expr_kind, AnExpr}
use Rattle.luau_run.specs.Machine.{State, Ran, Gave, give}
use Rattle.luau_run.specs.Layer.{Frame, Layer}
use Rattle.luau_run.specs.Expressions.{values, evaluate, evaluate_or_builtin}
use Rattle.luau_run.specs.Operators.{is_true}
use Rattle.type_arena.specs.Term.{Term, never}
use Rattle.type_normal.specs.Holds.{holds}
use Rattle.type_normal.proofs.Public.{never_none, text_is_in}
use Rattle.report_rules.specs.Rules.{Rules, fixed_use, local_named}
use Rattle.report_rules.specs.Guard.{guard_of_kind, kind_subject}
use Rattle.type_normal.specs.Kinds.{unknown}
use Rattle.report_rules.specs.TypeMap.{TypeMap}
use Rattle.report_rules.specs.Forward.{type_of_kind, builtin_or}
use Rattle.report_rules.specs.Seen.{Seen}
use Rattle.report_rules.specs.Errors.{ev, ev_in, unless_builtin}
use Rattle.report_rules.specs.Findings.{own_kinds}
use Rattle.run_frame.specs.Analysis.{Analysis}
use Rattle.run_frame.specs.Statements.{stats_of_expr}
use Rattle.run_frame.specs.Fit.{Fit}
use Rattle.run_frame.proofs.World.{World}
use Rattle.run_frame.proofs.Counts.{is_reported, reached, one_if}
use Rattle.run_frame.proofs.Fine.{Fine}
use Rattle.run_frame.proofs.Held.{Runs}
use Rattle.run_frame.proofs.Parts.{Ends, ends_here, gave_same}
use Rattle.run_frame.proofs.Layers.{rules_of, seen_of, expr_of, Inside, Gives, Pays}
use Rattle.run_frame.proofs.Readings.{contains_head, reads_same, means, no_use}
use Rattle.run_frame.proofs.Expressions.{Opened, ends_values, values_gave}

-- a form gives a value at once, which stands and is of the form's type; the form is no name and no path, no guard speaks of it,
-- it reports nothing, and makes nothing fail
pub record IsPlain (kind : ExprKind) (v : Value) : Type 0 where
  pub evaluates : (program : Program) (l : Layer) (frame : Frame) (id : ℕ) (s : State) → evaluate program l frame id kind s ≡ Gave (v ∷ []) s
  pub stands : (h : Heap) → Stands h v
  pub typed : (rules : Rules) (map : TypeMap) (id : ℕ) (h : Heap) → holds h v (type_of_kind rules map id kind) ≡ true
  pub nameless : name_of kind ≡ None
  pub pathless : spelled kind ≡ None
  pub no_local : (rules : Rules) (id : ℕ) (span : _) → local_named rules (the_expr id span kind) ≡ None
  pub no_guard : (rules : Rules) (id : ℕ) (truth : Bool) (x : ℕ) → guard_of_kind rules id kind truth x ≡ unknown
  pub no_subject : (rules : Rules) (id : ℕ) (span : _) → kind_subject rules (the_expr id span kind) ≡ None
  pub no_own : (rules : Rules) (seen : List Seen) (id : ℕ) → own_kinds rules seen id kind ≡ []
  pub no_context : (rules : Rules) (seen : List Seen) (id : ℕ) (type : Term) (x : ℕ) → ev_in rules seen id kind type x ≡ never

none_some : {A : Type 0} (o : Option A) (x : A) → o ≡ None → o ≡ Some x → ⊥
none_some o x p q = cc

-- it stands for nothing, to the run and to the rules
plain_use : (an : Analysis) (w : World) (s : State) (frame : Frame) (id : ℕ) (span : _) (kind : ExprKind) (v : Value) → Fit an → IsPlain kind v → Runs an w s frame
    → Inside frame (of_expr (the_expr id span kind)) (stats_of_expr (the_expr id span kind)) → frame.reading.use_of id ≡ None
plain_use an w s frame id span kind v fit plain r inside = no_use an.program kind (frame.reading.use_of id) plain.nameless plain.pathless
    (means an w s frame id span kind fit r (inside.nodes (AnExpr (the_expr id span kind)) (contains_head (AnExpr (the_expr id span kind)) (of_expr_kind kind))))

plain_gives : (an : Analysis) (frame : Frame) (map : TypeMap) (id : ℕ) (span : _) (kind : ExprKind) (v : Value) (t : State) → IsPlain kind v
    → (rules_of an frame).reading.use_of id ≡ None → Gives an frame map (the_expr id span kind) (v ∷ []) t
plain_gives an frame map id span kind v t plain e = record {
  stand = (plain.stands t.store.heap, tt);
  typed = subst (λ (u : Option Use). holds t.store.heap v (builtin_or u (type_of_kind (rules_of an frame) map id kind)) ≡ true) (sym e) (plain.typed (rules_of an frame) map id t.store.heap);
  one = λ k. (v, refl);
  fixed = λ path k. absurd (none_some (fixed_use (rules_of an frame) ((rules_of an frame).reading.use_of id)) path (ap (fixed_use (rules_of an frame)) e) k);
  local = λ x k l. absurd (none_some (local_named (rules_of an frame) (the_expr id span kind)) x (plain.no_local (rules_of an frame) id span) k);
  guard_shows = λ x firm. inl (plain.no_guard (rules_of an frame) id (is_true v) x);
  kind = λ x k. absurd (none_some (kind_subject (rules_of an frame) (the_expr id span kind)) x (plain.no_subject (rules_of an frame) id span) k);
}

pub plain_forward : (an : Analysis) (l : Layer) (w : World) (s : State) (frame : Frame) (map : TypeMap) (id : ℕ) (span : _) (kind : ExprKind) (v : Value) → Fit an → IsPlain kind v
    → Fine an w s → Runs an w s frame → Inside frame (of_expr (the_expr id span kind)) (stats_of_expr (the_expr id span kind))
    → Ends an (expr_of an frame (the_expr id span kind)) w s (Gives an frame map (the_expr id span kind)) (values an.program l frame (the_expr id span kind) s)
plain_forward an l w s frame map id span kind v fit plain f r inside =
    ends_values an an.program l (expr_of an frame (the_expr id span kind)) w s frame id span kind (Gives an frame map (the_expr id span kind)) f r refl (λ t z g k e. form t z g)
  where
    used : frame.reading.use_of id ≡ None
    used = plain_use an w s frame id span kind v fit plain r inside

    form : (t : State) (z : World) → Fine an z t
        → Ends an (expr_of an frame (the_expr id span kind)) z t (Gives an frame map (the_expr id span kind)) (evaluate_or_builtin an.program l frame id kind (frame.reading.use_of id) t)
    form t z g = subst (λ (u : Option Use). Ends an (expr_of an frame (the_expr id span kind)) z t (Gives an frame map (the_expr id span kind)) (evaluate_or_builtin an.program l frame id kind u t))
        (sym (plain_use an w s frame id span kind v fit plain r inside))
        (subst (λ (q : Ran (List Value)). Ends an (expr_of an frame (the_expr id span kind)) z t (Gives an frame map (the_expr id span kind)) q) (sym (plain.evaluates an.program l frame id t))
        (ends_here an (expr_of an frame (the_expr id span kind)) z t t (Gives an frame map (the_expr id span kind)) (v ∷ []) g (refl, refl)
        (plain_gives an frame map id span kind v t plain (ap (λ (x : ReadModule). x.use_of id) (reads_same an w s frame fit r) ∙ plain_use an w s frame id span kind v fit plain r inside))))

pub plain_backward : (an : Analysis) (l : Layer) (w : World) (s : State) (frame : Frame) (id : ℕ) (span : _) (kind : ExprKind) (v : Value) (vs : List Value) (u : State) → Fit an
    → IsPlain kind v → Fine an w s → Runs an w s frame → Inside frame (of_expr (the_expr id span kind)) (stats_of_expr (the_expr id span kind))
    → values an.program l frame (the_expr id span kind) s ≡ Gave vs u → Pays an frame (the_expr id span kind) s vs u
plain_backward an l w s frame id span kind v vs u fit plain f r inside e = record {
  context = λ type h. absurd (clash (holds s.store.heap h.2 (ev_in (rules_of an frame) (seen_of an frame) id kind type h.0)) (in_form type h.0 h.2 h.5)
      (ap (holds s.store.heap h.2) (plain.no_context (rules_of an frame) (seen_of an frame) id type h.0) ∙ never_none s.store.heap h.2));
  reports = subst (λ (x : State). reached an frame.activation x.trace
      ≡ reached an frame.activation s.trace + one_if (is_reported an frame.module_at (ExprPlace (record { 0 = id })))) (end o) o.opened.1;
  own = plain.no_own (rules_of an frame) (seen_of an frame) id;
}
  where
    o : Opened an an.program l (expr_of an frame (the_expr id span kind)) w s frame id kind vs u
    o = values_gave an an.program l (expr_of an frame (the_expr id span kind)) w s frame id span kind vs u f r refl e

    clash : (b : Bool) → b ≡ true → b ≡ false → ⊥
    clash b p q = cc

    in_form : (type : Term) (x : ℕ) (y : Value) → holds s.store.heap y (ev (rules_of an frame) (seen_of an frame) (the_expr id span kind) type x) ≡ true
        → holds s.store.heap y (ev_in (rules_of an frame) (seen_of an frame) id kind type x) ≡ true
    in_form type x y h = subst (λ (z : Option Use). holds s.store.heap y (unless_builtin z (ev_in (rules_of an frame) (seen_of an frame) id kind type) x) ≡ true)
        (ap (λ (z : ReadModule). z.use_of id) (reads_same an w s frame fit r) ∙ plain_use an w s frame id span kind v fit plain r inside) h

    end : (p : Opened an an.program l (expr_of an frame (the_expr id span kind)) w s frame id kind vs u) → p.at ≡ u
    end p = (gave_same (v ∷ []) vs p.at u (sym (plain.evaluates an.program l frame id p.at)
        ∙ subst (λ (z : Option Use). evaluate_or_builtin an.program l frame id kind z p.at ≡ Gave vs u) (plain_use an w s frame id span kind v fit plain r inside) p.gave)).1

-- ---- the constants

pub plain_nil : IsPlain NilExpr Nil
unfolding give
plain_nil = record {
  evaluates = λ program l frame id s. refl;
  stands = λ h. tt;
  typed = λ rules map id h. refl;
  nameless = refl;
  pathless = refl;
  no_local = λ rules id span. refl;
  no_guard = λ rules id truth x. refl;
  no_subject = λ rules id span. refl;
  no_own = λ rules seen id. refl;
  no_context = λ rules seen id type x. refl;
}

pub plain_true : IsPlain TrueExpr (Truth true)
unfolding give
plain_true = record {
  evaluates = λ program l frame id s. refl;
  stands = λ h. tt;
  typed = λ rules map id h. refl;
  nameless = refl;
  pathless = refl;
  no_local = λ rules id span. refl;
  no_guard = λ rules id truth x. refl;
  no_subject = λ rules id span. refl;
  no_own = λ rules seen id. refl;
  no_context = λ rules seen id type x. refl;
}

pub plain_false : IsPlain FalseExpr (Truth false)
unfolding give
plain_false = record {
  evaluates = λ program l frame id s. refl;
  stands = λ h. tt;
  typed = λ rules map id h. refl;
  nameless = refl;
  pathless = refl;
  no_local = λ rules id span. refl;
  no_guard = λ rules id truth x. refl;
  no_subject = λ rules id span. refl;
  no_own = λ rules seen id. refl;
  no_context = λ rules seen id type x. refl;
}

pub plain_number : (text : List ℕ) → IsPlain (NumberExpr text) (Num text)
unfolding give
plain_number text = record {
  evaluates = λ program l frame id s. refl;
  stands = λ h. tt;
  typed = λ rules map id h. refl;
  nameless = refl;
  pathless = refl;
  no_local = λ rules id span. refl;
  no_guard = λ rules id truth x. refl;
  no_subject = λ rules id span. refl;
  no_own = λ rules seen id. refl;
  no_context = λ rules seen id type x. refl;
}

pub plain_text : (bytes : List ℕ) → IsPlain (StrExpr bytes) (Str bytes)
unfolding give
plain_text bytes = record {
  evaluates = λ program l frame id s. refl;
  stands = λ h. tt;
  typed = λ rules map id h. text_is_in h bytes;
  nameless = refl;
  pathless = refl;
  no_local = λ rules id span. refl;
  no_guard = λ rules id truth x. refl;
  no_subject = λ rules id span. refl;
  no_own = λ rules seen id. refl;
  no_context = λ rules seen id type x. refl;
}
