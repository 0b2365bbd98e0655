-- Static requires, forward and backward.
use Rattle.std.proofs.Common.{◌≡◌, ◌≢◌, ℕ, ◌+◌, ◌<◌, ◌≤◌, Bool, true, false, not, ◌||◌, List, [], ◌++◌, Option, Some, None, ◌⊎◌, inl, inr, refl, sym, ◌∙◌, ap, subst, arith, codes, Contains}
use Rattle.std.specs.Option.{option_map_or}
use Rattle.luau_values.specs.Value.{Value, Other}
use Rattle.luau_tree.specs.declared.position.Span.{Span}
use Rattle.luau_tree.specs.declared.names.Op.TheVariants.{Call as CallOp}
use Rattle.luau_tree.specs.declared.names.Place.TheVariants.{Expr as ExprPlace}
use Rattle.luau_tree.specs.Tree.{Expr, the_expr, Exprs, ExprKind, NameExpr, Call}
use Rattle.luau_run.specs.ReadModule.{Use, UseGlobal, ReadModule}
use Rattle.luau_run.specs.ReadFolder.{local_of, may_mean}
use Rattle.luau_run.specs.SyntaxNode.{AnExpr, of_expr, of_exprs, of_expr_kind, of_block}
use Rattle.luau_run.specs.Machine.{State, Gave, go_on, ◌>>=◌, step}
use Rattle.luau_run.specs.Layer.{Frame, Layer}
use Rattle.luau_run.specs.Expressions.{reach, values, all_values, call_expr}
use Rattle.type_arena.specs.Term.{Term}
use Rattle.type_normal.specs.Holds.{holds}
use Rattle.type_normal.specs.Kinds.{unknown, exactly_one_function}
use Rattle.type_normal.specs.Failing.{uncallable, call_fail}
use Rattle.type_normal.proofs.Public.{unknown_all, kinds_hold}
use Rattle.subtype_check.specs.Below.{below}
use Rattle.subtype_check.proofs.Public.{below_includes}
use Rattle.report_rules.specs.Rules.{TypedBuiltin, Rules, use_of, fixed_use, fixed_builtin, declared, is_quiet_call}
use Rattle.report_rules.specs.Effects.{effects, any_effects}
use Rattle.report_rules.specs.TypeMap.{TypeMap}
use Rattle.report_rules.specs.Forward.{typ, builtin_or, name_type, call_type, types_of_list, first_or_never, after}
use Rattle.report_rules.specs.Seen.{Seen, is_live, seen_expr, seen_list}
use Rattle.report_rules.specs.Context.{Context, none, followed}
use Rattle.report_rules.specs.Checks.{ReportKind, Operand, type_of, checked_function, missing}
use Rattle.report_rules.specs.Errors.{unless_builtin, name_context, ev, ev_args, call_kinds}
use Rattle.report_rules.specs.Findings.{Finding, own_kinds, found, found_args}
use Rattle.report_rules.specs.Reports.{findings}
use Rattle.run_frame.specs.Analysis.{Analysis}
use Rattle.run_frame.specs.Statements.{stats_of_expr, stats_of_exprs}
use Rattle.run_frame.specs.Fit.{IsFitCall, IsFitNode, Fit}
use Rattle.run_frame.proofs.World.{World}
use Rattle.run_frame.proofs.Counts.{is_reported, reached, one_if}
use Rattle.run_frame.proofs.Kept.{MayMore, Kept, nobody, kept_same}
use Rattle.run_frame.proofs.Fine.{Fine, fine_same}
use Rattle.run_frame.proofs.Held.{Runs, runs_kept, has_begun, Held, held_store, Violated}
use Rattle.run_frame.proofs.Parts.{Ends, Same, ends_so, ends_then, ends_more, ends_gave, ends_step, step_same, gave_then}
use Rattle.run_frame.proofs.Expressions.{IsOpened, ends_reach}
use Rattle.run_frame.proofs.Layers.{rules_of, seen_of, part_of, expr_of, Inside, Placed, Marked, Gives, Pays, Trouble, Forward, Backward}
use Rattle.run_frame.proofs.Readings.{contains_head, sub_tail, sub_left, sub_right, all_contained, reads_same, means, fits}
use Rattle.run_frame.proofs.Passing.{none_violated, violated_followed}
use Rattle.run_frame.proofs.Lists.{ListGives, list_forward, may_part, inside_left, inside_right}
use Rattle.run_frame.proofs.Marks.{mark_tells, typed_at, checked_below}
use Rattle.run_frame.proofs.Forms.{form_read, form_forward, FormPays, form_backward}
use Rattle.run_frame.proofs.ListsBack.{found_checks, SomeIn, list_pays}
use Rattle.reports_certain.proofs.Arguments.{checks_args, ev_args_same, found_args_same, AreGiven, list_given, Took, args_taken}
use Rattle.reports_certain.proofs.CallForms.{call_form, within_call, call_doer, callee_check, called_builtin, args_calm, subject_parts}
use Rattle.reports_certain.proofs.Modules.{RequireGives}

clash : (b : Bool) → b ≡ true → b ≡ false → ⊥
clash b p q = cc

none_some : {A : Type 0} (o : Option A) (x : A) → o ≡ None → o ≡ Some x → ⊥
none_some o x p q = cc

-- ---- the name that is called

-- it is a global's
abbrev IsGlobal : Rules → ℕ → Type 0
IsGlobal rules id = rules.reading.use_of id ≡ Some UseGlobal

not_fixed : (rules : Rules) (callee : Expr) → use_of rules callee ≡ Some UseGlobal → fixed_builtin rules callee ≡ None
not_fixed rules callee global = ap (fixed_use rules) global

not_quiet : (rules : Rules) (callee : Expr) → use_of rules callee ≡ Some UseGlobal → is_quiet_call rules callee ≡ false
not_quiet rules callee global = ap (λ (o : Option (List ℕ)). option_map_or (λ path. option_map_or (λ b. b.quiet) (declared rules path) false) o false) (not_fixed rules callee global)

name_unknown : (rules : Rules) (map : TypeMap) (id : ℕ) (span : Span) (name : List ℕ) → IsGlobal rules id → typ rules map (the_expr id span (NameExpr name)) ≡ unknown
name_unknown rules map id span name global = ap (λ (o : Option Use). builtin_or o (name_type rules map o)) global

name_safe : (rules : Rules) (seen : List Seen) (id : ℕ) (span : Span) (name : List ℕ) (set : Term) → IsGlobal rules id → ev rules seen (the_expr id span (NameExpr name)) set ≡ none
name_safe rules seen id span name set global = ap (λ (o : Option Use). unless_builtin o (name_context rules (local_of o) set)) global

seen_unknown : (an : Analysis) (w : World) (s : State) (frame : Frame) (map : TypeMap) (id : ℕ) (span : Span) (name : List ℕ) → Fit an → Runs an w s frame → IsGlobal (rules_of an frame) id
    → Placed an frame (seen_expr (rules_of an frame) map (the_expr id span (NameExpr name))) → type_of (seen_of an frame) (the_expr id span (NameExpr name)) ≡ unknown
seen_unknown an w s frame map id span name fit r global placed =
    typed_at an w s frame map (the_expr id span (NameExpr name)) fit r placed ∙ name_unknown (rules_of an frame) map id span name global

not_checked : (an : Analysis) (w : World) (s : State) (frame : Frame) (map : TypeMap) (id : ℕ) (span : Span) (name : List ℕ) → Fit an → Runs an w s frame → IsGlobal (rules_of an frame) id
    → Placed an frame (seen_expr (rules_of an frame) map (the_expr id span (NameExpr name))) → called_builtin an frame (the_expr id span (NameExpr name)) ≡ None
not_checked an w s frame map id span name fit r global placed =
    ap (λ (type : Term). checked_function (rules_of an frame) (exactly_one_function type)) (seen_unknown an w s frame map id span name fit r global placed)

-- where an expression stands in what is found
found_head : (an : Analysis) (frame : Frame) (around : List ReportKind) (id : ℕ) (span : Span) (kind : ExprKind) → Marked an frame (found (rules_of an frame) (seen_of an frame) around (the_expr id span kind))
    → Contains (findings (rules_of an frame)) (record { place = ExprPlace (record { 0 = id }); at = span; kinds = around ++ own_kinds (rules_of an frame) (seen_of an frame) id kind })
found_head an frame around id span kind marked = marked _ (contains_head _ _)

-- it, as an expression
abbrev named : (id : ℕ) → Span → (name : List ℕ) → Expr
named id span name = the_expr id span (NameExpr name)

-- what is reported of it
abbrev name_kinds : Analysis → Frame → (id : ℕ) → Span → (name : List ℕ) → List ReportKind
name_kinds an frame id span name = call_kinds (seen_of an frame) (the_expr id span (NameExpr name))

-- nothing is reported at its place
not_reported : (an : Analysis) (w : World) (s : State) (frame : Frame) (map : TypeMap) (id : ℕ) (span : Span) (name : List ℕ) → Fit an → Runs an w s frame → IsGlobal (rules_of an frame) id
    → Placed an frame (seen_expr (rules_of an frame) map (the_expr id span (NameExpr name)))
    → Marked an frame (found (rules_of an frame) (seen_of an frame) (call_kinds (seen_of an frame) (the_expr id span (NameExpr name))) (the_expr id span (NameExpr name)))
    → is_reported an frame.module_at (ExprPlace (record { 0 = id })) ≡ false
not_reported an w s frame map id span name fit r global placed marked = by_test (is_reported an frame.module_at (ExprPlace (record { 0 = id }))) refl
  where
    in_fail : name_kinds an frame id span name ≢ [] → holds s.store.heap (Other 0) call_fail ≡ true
    in_fail n = below_includes s.store.heap (Other 0) unknown call_fail
        (subst (λ (type : Term). below type call_fail ≡ true) (seen_unknown an w s frame map id span name fit r global placed)
        (checked_below (seen_of an frame) (the_expr id span (NameExpr name)) call_fail (Operand CallOp) n)) (unknown_all s.store.heap (Other 0))

    there : is_reported an frame.module_at (ExprPlace (record { 0 = id })) ≡ true → name_kinds an frame id span name ≢ []
    there k z = mark_tells an w s frame id (record { place = ExprPlace (record { 0 = id }); at = span; kinds = name_kinds an frame id span name ++ [] }) fit r
        (found_head an frame (name_kinds an frame id span name) id span (NameExpr name) marked) refl k
        (ap (λ (ks : List ReportKind). ks ++ []) z)

    by_test : (b : Bool) → is_reported an frame.module_at (ExprPlace (record { 0 = id })) ≡ b → is_reported an frame.module_at (ExprPlace (record { 0 = id })) ≡ false
    by_test true k = absurd (clash (holds s.store.heap (Other 0) call_fail) (in_fail (there k)) (kinds_hold s.store.heap (Other 0) uncallable))
    by_test false k = k

-- what fits a static require: its callee is a global's name, and the rules know what its module gives
abbrev IsKnown : Analysis → Frame → (id other : ℕ) → Expr → Type 0
IsKnown an frame id other callee = (use_of (rules_of an frame) callee ≡ Some UseGlobal) × ((rules_of an frame).import id ≡ an.summary other)

known : (an : Analysis) (w : World) (s : State) (frame : Frame) (id : ℕ) (span : Span) (callee : Expr) (args : Exprs) (other : ℕ) → Fit an → Runs an w s frame
    → frame.reading.required id ≡ Some other → Inside frame (of_expr (the_expr id span (Call callee args))) (stats_of_expr (the_expr id span (Call callee args))) → IsKnown an frame id other callee
known an w s frame id span callee args other fit r required inside =
    subst (λ (o : Option ℕ). IsFitCall an (rules_of an frame) id o callee) (ap (λ (x : ReadModule). x.required id) (reads_same an w s frame fit r) ∙ required)
    (all_contained (IsFitNode an (rules_of an frame)) (of_block frame.reading.block) (AnExpr (the_expr id span (Call callee args))) (fits an w s frame fit r).nodes
    (inside.nodes (AnExpr (the_expr id span (Call callee args))) (contains_head (AnExpr (the_expr id span (Call callee args))) (of_expr_kind (Call callee args)))))

a_name : (an : Analysis) (kind : ExprKind) → may_mean an.program kind (Some UseGlobal) ≡ true → (name : List ℕ) × (kind ≡ NameExpr name)
a_name an (NameExpr name) h = (name, refl)
a_name an _ h = cc

callee_name : (an : Analysis) (w : World) (s : State) (frame : Frame) (id : ℕ) (span : Span) (kind : ExprKind) → Fit an → Runs an w s frame → IsGlobal (rules_of an frame) id
    → Inside frame (of_expr (the_expr id span kind)) (stats_of_expr (the_expr id span kind)) → (name : List ℕ) × (kind ≡ NameExpr name)
callee_name an w s frame id span kind fit r global inside = a_name an kind
    (subst (λ (o : Option Use). may_mean an.program kind o ≡ true) (ap (λ (x : ReadModule). x.use_of id) (sym (reads_same an w s frame fit r)) ∙ global)
    (means an w s frame id span kind fit r (inside.nodes (AnExpr (the_expr id span kind)) (contains_head (AnExpr (the_expr id span kind)) (of_expr_kind kind)))))

-- ---- the parts of a call

placed_parts : (an : Analysis) (frame : Frame) (map : TypeMap) (id : ℕ) (span : Span) (callee : Expr) (args : Exprs) → Placed an frame (seen_expr (rules_of an frame) map (the_expr id span (Call callee args)))
    → Placed an frame (seen_expr (rules_of an frame) map callee ++ seen_list (rules_of an frame) (after (rules_of an frame) map callee) args)
placed_parts an frame map id span callee args placed = sub_tail _ _ _ placed

marked_parts : (an : Analysis) (frame : Frame) (around : List ReportKind) (id : ℕ) (span : Span) (callee : Expr) (args : Exprs)
    → Marked an frame (found (rules_of an frame) (seen_of an frame) around (the_expr id span (Call callee args)))
    → Marked an frame (found (rules_of an frame) (seen_of an frame) (call_kinds (seen_of an frame) callee) callee ++ found_args (rules_of an frame) (seen_of an frame) (called_builtin an frame callee) 0 args)
marked_parts an frame around id span callee args marked = sub_tail _ _ _ marked

-- ---- forward

-- who requires may do what a module's run does
may_require : (rules : Rules) (frame : Frame) (callee : Expr) (rest : Bool) → use_of rules callee ≡ Some UseGlobal
    → MayMore (nobody false) (part_of frame (not (is_quiet_call rules callee) || rest))
may_require rules frame callee rest global = record {
  runs = inl refl;
  assigns = λ x e. refl;
  binds = λ x e. e;
  calm = λ e. stirs (is_quiet_call rules callee) e (not_quiet rules callee global);
}
  where
    stirs : (p : Bool) → not (not p || rest) ≡ true → p ≡ false → false ≡ true
    stirs true e k = cc
    stirs false e k = cc

required_gives : (an : Analysis) (frame : Frame) (map : TypeMap) (id : ℕ) (span : Span) (callee : Expr) (args : Exprs) (rs : List Value) (u : State) (other : ℕ)
    → (rules_of an frame).reading.use_of id ≡ None → (rules_of an frame).reading.required id ≡ Some other → IsKnown an frame id other callee
    → RequireGives an other rs u → Gives an frame map (the_expr id span (Call callee args)) rs u
required_gives an frame map id span callee args rs u other used required is g = subst (λ (xs : List Value). Gives an frame map (the_expr id span (Call callee args)) xs u) (sym g.1) (record {
  stand = (g.2, tt);
  typed = subst (λ (o : Option Use). holds u.store.heap g.0 (builtin_or o (call_type (rules_of an frame) id ((rules_of an frame).reading.required id) (typ (rules_of an frame) map callee)
      (first_or_never (types_of_list (rules_of an frame) (after (rules_of an frame) map callee) args)))) ≡ true) (sym used)
      (subst (λ (o : Option ℕ). holds u.store.heap g.0 (call_type (rules_of an frame) id o (typ (rules_of an frame) map callee)
      (first_or_never (types_of_list (rules_of an frame) (after (rules_of an frame) map callee) args))) ≡ true) (sym required)
      (subst (λ (type : Term). holds u.store.heap g.0 type ≡ true) (sym is.1) g.3));
  one = λ e. cc;
  fixed = λ path e. absurd (none_some (fixed_use (rules_of an frame) ((rules_of an frame).reading.use_of id)) path (ap (fixed_use (rules_of an frame)) used) e);
  local = λ x e firm. cc;
  guard_shows = λ x firm. inl refl;
  kind = λ x e. absurd (none_some (fixed_builtin (rules_of an frame) callee) (codes "type") (not_fixed (rules_of an frame) callee is.0)
      (subject_parts (rules_of an frame) id span callee args x e).2);
})

named_forward : (an : Analysis) (l : Layer) → Fit an → Forward an l → (w : World) (s : State) (frame : Frame) (map : TypeMap) (id : ℕ) (span : Span) (at : ℕ) (at_span : Span) (name : List ℕ) (args : Exprs)
    (other : ℕ) → frame.reading.required id ≡ Some other → IsKnown an frame id other (the_expr at at_span (NameExpr name)) → Fine an w s → Runs an w s frame → Held an frame map s
    → Inside frame (of_expr (the_expr id span (Call (the_expr at at_span (NameExpr name)) args))) (stats_of_expr (the_expr id span (Call (the_expr at at_span (NameExpr name)) args)))
    → Placed an frame (seen_expr (rules_of an frame) map (the_expr id span (Call (the_expr at at_span (NameExpr name)) args)))
    → Ends an (expr_of an frame (the_expr id span (Call (the_expr at at_span (NameExpr name)) args))) w s (Gives an frame map (the_expr id span (Call (the_expr at at_span (NameExpr name)) args)))
    (values an.program l frame (the_expr id span (Call (the_expr at at_span (NameExpr name)) args)) s)
unfolding ◌>>=◌
named_forward an l fit fwd w s frame map id span at at_span name args other required is f r h inside placed =
    form_forward an l w s frame id span (Call (named at at_span name) args) (Gives an frame map (the_expr id span (Call (named at at_span name) args))) fit (call_form (named at at_span name) args) f r inside
    (λ t z g j same. subst (λ (o : Option ℕ). Ends an (call_doer an frame (named at at_span name) args) z t (Gives an frame map (the_expr id span (Call (named at at_span name) args))) (call_expr l frame o (named at at_span name) args t)) (sym required)
    (ends_then an (call_doer an frame (named at at_span name) args) z t (λ x u. IsOpened an frame at t u) (Gives an frame map (the_expr id span (Call (named at at_span name) args))) (reach frame at t) (λ x. ◌>>=◌ (all_values l frame args) (λ vs. ◌>>=◌ step (λ y. l.require other)))
    (ends_reach an (call_doer an frame (named at at_span name) args) z t frame at g j refl)
    (λ x a v i k p. after_name a v i (runs_kept an (call_doer an frame (named at at_span name) args) z v t a frame k j) (held_store an s a frame map (p.0 ∙ same) h))))
  where
    placed_args : Placed an frame (seen_list (rules_of an frame) map args)
    placed_args = sub_right (seen_expr (rules_of an frame) map (named at at_span name)) (seen_list (rules_of an frame) map args) (seen_of an frame) (placed_parts an frame map id span (named at at_span name) args placed)

    after_name : (a : State) (v : World) → Fine an v a → Runs an v a frame → Held an frame map a
        → Ends an (call_doer an frame (named at at_span name) args) v a (Gives an frame map (the_expr id span (Call (named at at_span name) args))) (go_on (all_values l frame args a) (λ vs. ◌>>=◌ step (λ y. l.require other)))
    after_name a v i j held = ends_then an (call_doer an frame (named at at_span name) args) v a (ListGives an frame map args) (Gives an frame map (the_expr id span (Call (named at at_span name) args))) (all_values l frame args a) (λ vs. ◌>>=◌ step (λ y. l.require other))
        (ends_more an (part_of frame (any_effects (rules_of an frame) args)) (call_doer an frame (named at at_span name) args) v a (ListGives an frame map args) (all_values l frame args a)
        (may_part frame (any_effects (rules_of an frame) args) _ (args_calm (is_quiet_call (rules_of an frame) (named at at_span name)) (effects (rules_of an frame) (named at at_span name)) (any_effects (rules_of an frame) args)))
        (list_forward an l fwd v a frame map args i j held
        (inside_right frame (of_expr (named at at_span name)) (of_exprs args) (stats_of_expr (named at at_span name)) (stats_of_exprs args) (within_call frame id span (named at at_span name) args inside)) placed_args))
        (λ vs b y c k q. ends_then an (call_doer an frame (named at at_span name) args) y b (λ x t. Same b t) (Gives an frame map (the_expr id span (Call (named at at_span name) args))) (step b) (λ n. l.require other) (ends_step an (call_doer an frame (named at at_span name) args) y b c)
        (λ n d o m e same. ends_more an (nobody false) (call_doer an frame (named at at_span name) args) o d (Gives an frame map (the_expr id span (Call (named at at_span name) args))) (l.require other d)
        (may_require (rules_of an frame) frame (named at at_span name) (effects (rules_of an frame) (named at at_span name) || any_effects (rules_of an frame) args) is.0)
        (ends_so an (nobody false) o d (RequireGives an other) (Gives an frame map (the_expr id span (Call (named at at_span name) args))) (l.require other d)
        (λ rs u z e c k g. required_gives an frame map id span (named at at_span name) args rs u other
        (form_read an w s frame id span (Call (named at at_span name) args) fit (call_form (named at at_span name) args) r inside)
        (ap (λ (y : ReadModule). y.required id) (reads_same an w s frame fit r) ∙ required) is g)
        (fwd.require o d frame.module_at other m (frame.reading, id, r.reading, required)))))

abbrev ForwardFor : Analysis → Layer → World → State → Frame → TypeMap → (id : ℕ) → Span → Expr → Exprs → Type 0
ForwardFor an l w s frame map id span callee args =
    Inside frame (of_expr (the_expr id span (Call callee args))) (stats_of_expr (the_expr id span (Call callee args)))
    → Placed an frame (seen_expr (rules_of an frame) map (the_expr id span (Call callee args)))
    → Ends an (expr_of an frame (the_expr id span (Call callee args))) w s (Gives an frame map (the_expr id span (Call callee args))) (values an.program l frame (the_expr id span (Call callee args)) s)

pub required_forward : (an : Analysis) (l : Layer) → Fit an → Forward an l → (w : World) (s : State) (frame : Frame) (map : TypeMap) (id : ℕ) (span : Span) (callee : Expr) (args : Exprs) (other : ℕ)
    → frame.reading.required id ≡ Some other → Fine an w s → Runs an w s frame → Held an frame map s
    → Inside frame (of_expr (the_expr id span (Call callee args))) (stats_of_expr (the_expr id span (Call callee args)))
    → Placed an frame (seen_expr (rules_of an frame) map (the_expr id span (Call callee args)))
    → Ends an (expr_of an frame (the_expr id span (Call callee args))) w s (Gives an frame map (the_expr id span (Call callee args))) (values an.program l frame (the_expr id span (Call callee args)) s)
required_forward an l fit fwd w s frame map id span (the_expr at at_span kind) args other required f r h inside placed =
    by_name (known an w s frame id span (the_expr at at_span kind) args other fit r required inside)
  where
    by_name : IsKnown an frame id other (the_expr at at_span kind)
        → Ends an (expr_of an frame (the_expr id span (Call (the_expr at at_span kind) args))) w s (Gives an frame map (the_expr id span (Call (the_expr at at_span kind) args)))
        (values an.program l frame (the_expr id span (Call (the_expr at at_span kind) args)) s)
    by_name is =
        let q : (name : List ℕ) × (kind ≡ NameExpr name) = callee_name an w s frame at at_span kind fit r is.0
        (inside_left frame (of_expr (the_expr at at_span kind)) (of_exprs args) (stats_of_expr (the_expr at at_span kind)) (stats_of_exprs args) (within_call frame id span (the_expr at at_span kind) args inside)) in
        (subst (λ (k : ExprKind). ForwardFor an l w s frame map id span (the_expr at at_span k) args) (sym q.1)
        (λ i p. named_forward an l fit fwd w s frame map id span at at_span q.0 args other required is f r h i p)) inside placed

-- ---- backward

named_backward : (an : Analysis) (l : Layer) → Fit an → Forward an l → Backward an l → (w : World) (s : State) (frame : Frame) (map : TypeMap) (id : ℕ) (span : Span) (at : ℕ) (at_span : Span)
    (name : List ℕ) (args : Exprs) (around : List ReportKind) (other : ℕ) → frame.reading.required id ≡ Some other → IsKnown an frame id other (the_expr at at_span (NameExpr name))
    → Fine an w s → Runs an w s frame → Held an frame map s
    → Inside frame (of_expr (the_expr id span (Call (the_expr at at_span (NameExpr name)) args))) (stats_of_expr (the_expr id span (Call (the_expr at at_span (NameExpr name)) args)))
    → Placed an frame (seen_expr (rules_of an frame) map (the_expr id span (Call (the_expr at at_span (NameExpr name)) args)))
    → Marked an frame (found (rules_of an frame) (seen_of an frame) around (the_expr id span (Call (the_expr at at_span (NameExpr name)) args)))
    → (rs : List Value) (u : State) → values an.program l frame (the_expr id span (Call (the_expr at at_span (NameExpr name)) args)) s ≡ Gave rs u
    → Pays an frame (the_expr id span (Call (the_expr at at_span (NameExpr name)) args)) s rs u
unfolding ◌>>=◌
named_backward an l fit fwd bwd w s frame map id span at at_span name args around other required is f r h inside placed marked rs u q =
    form_backward an l w s frame id span (Call (named at at_span name) args) rs u fit (call_form (named at at_span name) args) f r inside q
    (λ z m g j same k. by_name z m g j (held_store an s m frame map same h)
    (gave_then (reach frame at m) (λ x. ◌>>=◌ (all_values l frame args) (λ vs. ◌>>=◌ step (λ y. l.require other))) rs u
    (subst (λ (o : Option ℕ). call_expr l frame o (named at at_span name) args m ≡ Gave rs u) required k)))
  where
    placed_in : Placed an frame (seen_expr (rules_of an frame) map (named at at_span name) ++ seen_list (rules_of an frame) map args)
    placed_in = placed_parts an frame map id span (named at at_span name) args placed

    placed_callee : Placed an frame (seen_expr (rules_of an frame) map (named at at_span name))
    placed_callee = sub_left (seen_expr (rules_of an frame) map (named at at_span name)) (seen_list (rules_of an frame) map args) (seen_of an frame) placed_in

    placed_args : Placed an frame (seen_list (rules_of an frame) map args)
    placed_args = sub_right (seen_expr (rules_of an frame) map (named at at_span name)) (seen_list (rules_of an frame) map args) (seen_of an frame) placed_in

    marked_in : Marked an frame (found (rules_of an frame) (seen_of an frame) (call_kinds (seen_of an frame) (named at at_span name)) (named at at_span name) ++ found_args (rules_of an frame) (seen_of an frame) (called_builtin an frame (named at at_span name)) 0 args)
    marked_in = marked_parts an frame around id span (named at at_span name) args marked

    marked_callee : Marked an frame (found (rules_of an frame) (seen_of an frame) (call_kinds (seen_of an frame) (named at at_span name)) (named at at_span name))
    marked_callee = sub_left (found (rules_of an frame) (seen_of an frame) (call_kinds (seen_of an frame) (named at at_span name)) (named at at_span name)) (found_args (rules_of an frame) (seen_of an frame) (called_builtin an frame (named at at_span name)) 0 args)
        (findings (rules_of an frame)) marked_in

    marked_args : Marked an frame (found_checks an frame args (checks_args an frame (called_builtin an frame (named at at_span name)) 0 args))
    marked_args = subst (λ (fs : List Finding). Marked an frame fs) (sym (found_args_same an frame (called_builtin an frame (named at at_span name)) 0 args))
        (sub_right (found (rules_of an frame) (seen_of an frame) (call_kinds (seen_of an frame) (named at at_span name)) (named at at_span name)) (found_args (rules_of an frame) (seen_of an frame) (called_builtin an frame (named at at_span name)) 0 args)
        (findings (rules_of an frame)) marked_in)

    inside_args : Inside frame (of_exprs args) (stats_of_exprs args)
    inside_args = inside_right frame (of_expr (named at at_span name)) (of_exprs args) (stats_of_expr (named at at_span name)) (stats_of_exprs args) (within_call frame id span (named at at_span name) args inside)

    unchecked : called_builtin an frame (named at at_span name) ≡ None
    unchecked = not_checked an w s frame map at at_span name fit r is.0 placed_callee

    took : (d : State) (vs : List Value) (b : TypedBuiltin) → called_builtin an frame (named at at_span name) ≡ Some b → Took b d.store.heap vs
    took d vs b e = absurd (none_some (called_builtin an frame (named at at_span name)) b unchecked e)

    by_name : (z : World) (m : State) → Fine an z m → Runs an z m frame → Held an frame map m
        → (x : Unit {0}) × (a : State) × (reach frame at m ≡ Gave x a) × (◌>>=◌ (all_values l frame args) (λ vs. ◌>>=◌ step (λ y. l.require other)) a ≡ Gave rs u)
        → FormPays an frame id (Call (named at at_span name) args) m rs u
    by_name z m g j held (x, a, opened, gave) = by_opened
        (ends_gave an (expr_of an frame (named at at_span name)) z m (λ y t. IsOpened an frame at m t) (reach frame at m) x a opened (ends_reach an (expr_of an frame (named at at_span name)) z m frame at g j refl))
        (gave_then (all_values l frame args a) (λ vs. ◌>>=◌ step (λ y. l.require other)) rs u gave)
      where
        by_opened : (o : World) × Fine an o a × Kept an (expr_of an frame (named at at_span name)) z m o a × IsOpened an frame at m a
            → (vs : List Value) × (b : State) × (all_values l frame args a ≡ Gave vs b) × (◌>>=◌ step (λ y. l.require other) b ≡ Gave rs u) → FormPays an frame id (Call (named at at_span name) args) m rs u
        by_opened (o, fa, ka, (stays, count)) (vs, b, n, c) = by_step (gave_then (step b) (λ y. l.require other) rs u c)
          where
            runs_a : Runs an o a frame
            runs_a = runs_kept an (expr_of an frame (named at at_span name)) z o m a frame ka j

            held_a : Held an frame map a
            held_a = held_store an m a frame map stays held

            by_step : (y : Unit {0}) × (d : State) × (step b ≡ Gave y d) × (l.require other d ≡ Gave rs u) → FormPays an frame id (Call (named at at_span name) args) m rs u
            by_step (y, d, stepped, ran) = by_list (ends_gave an (part_of frame (any_effects (rules_of an frame) args)) o a (ListGives an frame map args) (all_values l frame args a) vs b n
                (list_forward an l fwd o a frame map args fa runs_a held_a inside_args placed_args))
                (list_given an l fwd bwd o a frame map args (checks_args an frame (called_builtin an frame (named at at_span name)) 0 args) fa runs_a held_a inside_args placed_args marked_args vs b n)
              where
                same : Same b d
                same = step_same b d stepped

                by_list : (v : World) × Fine an v b × Kept an (part_of frame (any_effects (rules_of an frame) args)) o a v b × ListGives an frame map args vs b
                    → AreGiven args vs × (reached an frame.activation a.trace ≤ reached an frame.activation b.trace) → FormPays an frame id (Call (named at at_span name) args) m rs u
                by_list (v, fb, kb, p) (given, rises) = by_end (ends_gave an (nobody false) v d (RequireGives an other) (l.require other d) rs u ran
                    (fwd.require v d frame.module_at other fine_d (frame.reading, id, r.reading, required)))
                  where
                    fine_d : Fine an v d
                    fine_d = fine_same an v b d same.0 same.1 fb

                    runs_d : Runs an v d frame
                    runs_d = runs_kept an (part_of frame (any_effects (rules_of an frame) args)) v v b d frame
                        (kept_same an (part_of frame (any_effects (rules_of an frame) args)) v b d same.0 same.1)
                        (runs_kept an (part_of frame (any_effects (rules_of an frame) args)) o v a b frame kb runs_a)

                    in_trouble : Trouble an frame (ev_args (rules_of an frame) (seen_of an frame) (called_builtin an frame (named at at_span name)) 0 args) a b → ⊥
                    in_trouble e = by_side (list_pays an l fit fwd bwd o a frame map args (checks_args an frame (called_builtin an frame (named at at_span name)) 0 args) none fa runs_a held_a inside_args placed_args marked_args vs b n
                        (subst (λ (t : Context). Trouble an frame t a b) (sym (ev_args_same an frame (called_builtin an frame (named at at_span name)) 0 args)) e))
                      where
                        by_side : SomeIn an frame args (checks_args an frame (called_builtin an frame (named at at_span name)) 0 args) b.store.heap vs ⊎ Violated an frame none b → ⊥
                        by_side (inl t) = args_taken an frame d.store.heap b.store.heap (called_builtin an frame (named at at_span name)) args vs (took d vs) given t
                        by_side (inr t) = none_violated an frame b t

                    still : reached an frame.activation b.trace ≡ reached an frame.activation a.trace
                    still = level (reached an frame.activation a.trace) (reached an frame.activation b.trace) rises (λ t. in_trouble (inr t))
                      where
                        level : (m n : ℕ) → m ≤ n → (m < n → ⊥) → n ≡ m
                        level m n t k = by_order (less_or_same m n t)
                          where
                            less_or_same : (m n : ℕ) → m ≤ n → (m < n) ⊎ (n ≡ m)
                            less_or_same m n t = grind (arith, t)

                            by_order : (m < n) ⊎ (n ≡ m) → n ≡ m
                            by_order (inl e) = absurd (k e)
                            by_order (inr e) = e

                    silent : reached an frame.activation a.trace ≡ reached an frame.activation m.trace
                    silent = uncounted (is_reported an frame.module_at (ExprPlace (record { 0 = at }))) (reached an frame.activation m.trace) (reached an frame.activation a.trace) count
                        (not_reported an w s frame map at at_span name fit r is.0 placed_callee marked_callee)
                      where
                        uncounted : (t : Bool) (m n : ℕ) → n ≡ m + one_if t → t ≡ false → n ≡ m
                        uncounted true m n e k = cc
                        uncounted false m n e k = omega (arith, e)

                    safe : Violated an frame (followed (ev (rules_of an frame) (seen_of an frame) (named at at_span name) (callee_check an frame (named at at_span name)).asked) (effects (rules_of an frame) (named at at_span name))
                        (ev_args (rules_of an frame) (seen_of an frame) (called_builtin an frame (named at at_span name)) 0 args)) m → ⊥
                    safe e = by_side (violated_followed an z o m a frame (ev (rules_of an frame) (seen_of an frame) (named at at_span name) (callee_check an frame (named at at_span name)).asked)
                        (ev_args (rules_of an frame) (seen_of an frame) (called_builtin an frame (named at at_span name)) 0 args) (effects (rules_of an frame) (named at at_span name)) g j ka e)
                      where
                        by_side : Violated an frame (ev (rules_of an frame) (seen_of an frame) (named at at_span name) (callee_check an frame (named at at_span name)).asked) m
                            ⊎ Violated an frame (ev_args (rules_of an frame) (seen_of an frame) (called_builtin an frame (named at at_span name)) 0 args) a → ⊥
                        by_side (inl t) = none_violated an frame m (subst (λ (c : Context). Violated an frame c m) (name_safe (rules_of an frame) (seen_of an frame) at at_span name (callee_check an frame (named at at_span name)).asked is.0) t)
                        by_side (inr t) = in_trouble (inl t)

                    by_end : (i : World) × Fine an i u × Kept an (nobody false) v d i u × RequireGives an other rs u → FormPays an frame id (Call (named at at_span name) args) m rs u
                    by_end (i, fu, ku, answers) = record {
                      context = λ set e. absurd (safe e);
                      count = ku.counts frame.activation (has_begun an v d frame fine_d runs_d) (λ e. cc) ∙ (ap (λ t. reached an frame.activation t) same.1 ∙ (still ∙ silent));
                      own = ap (λ (o : Option TypedBuiltin). missing (is_live (seen_of an frame) id) o args) unchecked;
                    }

abbrev BackwardFor : Analysis → Layer → State → Frame → TypeMap → (id : ℕ) → Span → Expr → Exprs → List ReportKind → List Value → State → Type 0
BackwardFor an l s frame map id span callee args around rs u =
    Inside frame (of_expr (the_expr id span (Call callee args))) (stats_of_expr (the_expr id span (Call callee args)))
    → Placed an frame (seen_expr (rules_of an frame) map (the_expr id span (Call callee args)))
    → Marked an frame (found (rules_of an frame) (seen_of an frame) around (the_expr id span (Call callee args)))
    → values an.program l frame (the_expr id span (Call callee args)) s ≡ Gave rs u → Pays an frame (the_expr id span (Call callee args)) s rs u

pub required_backward : (an : Analysis) (l : Layer) → Fit an → Forward an l → Backward an l → (w : World) (s : State) (frame : Frame) (map : TypeMap) (id : ℕ) (span : Span) (callee : Expr) (args : Exprs)
    (around : List ReportKind) (other : ℕ) → frame.reading.required id ≡ Some other → Fine an w s → Runs an w s frame → Held an frame map s
    → Inside frame (of_expr (the_expr id span (Call callee args))) (stats_of_expr (the_expr id span (Call callee args)))
    → Placed an frame (seen_expr (rules_of an frame) map (the_expr id span (Call callee args)))
    → Marked an frame (found (rules_of an frame) (seen_of an frame) around (the_expr id span (Call callee args)))
    → (rs : List Value) (u : State) → values an.program l frame (the_expr id span (Call callee args)) s ≡ Gave rs u → Pays an frame (the_expr id span (Call callee args)) s rs u
required_backward an l fit fwd bwd w s frame map id span (the_expr at at_span kind) args around other required f r h inside placed marked rs u q =
    by_name (known an w s frame id span (the_expr at at_span kind) args other fit r required inside)
  where
    by_name : IsKnown an frame id other (the_expr at at_span kind) → Pays an frame (the_expr id span (Call (the_expr at at_span kind) args)) s rs u
    by_name is =
        let n : (name : List ℕ) × (kind ≡ NameExpr name) = callee_name an w s frame at at_span kind fit r is.0
        (inside_left frame (of_expr (the_expr at at_span kind)) (of_exprs args) (stats_of_expr (the_expr at at_span kind)) (stats_of_exprs args) (within_call frame id span (the_expr at at_span kind) args inside)) in
        (subst (λ (k : ExprKind). BackwardFor an l s frame map id span (the_expr at at_span k) args around rs u) (sym n.1)
        (λ i p m e. named_backward an l fit fwd bwd w s frame map id span at at_span n.0 args around other required is f r h i p m rs u e)) inside placed marked q
