-- Forms of expressions that stand for nothing by themselves: what holds of the form, from where its place was reached, holds of
-- the expression. And expressions and values that gave.
use Rattle.std.proofs.Common.{◌≡◌, ℕ, true, false, List, [], ◌∷◌, ◌++◌, Option, Some, None, ◌⊎◌, refl, sym, ◌∙◌, ap, subst}
use Rattle.luau_values.specs.Value.{Value}
use Rattle.std.specs.List.{AllByRecursion}
use Rattle.luau_values.specs.Heap.{Heap}
use Rattle.luau_values.specs.Stands.{Stands}
use Rattle.luau_tree.specs.Tree.{Expr, the_expr, ExprKind, Stat}
use Rattle.luau_run.specs.ReadModule.{Use, ReadModule}
use Rattle.luau_run.specs.ReadFolder.{name_of, spelled}
use Rattle.luau_run.specs.SyntaxNode.{SyntaxNode, of_block, of_expr, of_expr_kind, AnExpr}
use Rattle.luau_run.specs.Machine.{State, Gave, Part, ◌>>=◌, give}
use Rattle.luau_run.specs.Layer.{Frame, Layer, first}
use Rattle.luau_run.specs.Expressions.{value, one, values, evaluate, evaluate_or_builtin}
use Rattle.luau_run.specs.Operators.{is_true}
use Rattle.type_arena.specs.Term.{Term}
use Rattle.type_normal.specs.Holds.{holds}
use Rattle.type_normal.specs.Kinds.{unknown}
use Rattle.report_rules.specs.Rules.{Rules, fixed_use, local_named}
use Rattle.report_rules.specs.Effects.{effects}
use Rattle.report_rules.specs.Guard.{guard_of_kind, kind_subject}
use Rattle.report_rules.specs.TypeMap.{TypeMap}
use Rattle.report_rules.specs.Forward.{type_of_kind, builtin_or, after}
use Rattle.report_rules.specs.Seen.{seen_expr}
use Rattle.report_rules.specs.Checks.{ReportKind}
use Rattle.report_rules.specs.Errors.{ev_in, unless_builtin}
use Rattle.report_rules.specs.Findings.{own_kinds, found}
use Rattle.run_frame.specs.Analysis.{Analysis, is_loose}
use Rattle.run_frame.specs.Statements.{stats_of_block, stats_of_expr}
use Rattle.run_frame.specs.Fit.{Fit}
use Rattle.run_frame.proofs.World.{World}
use Rattle.run_frame.proofs.Counts.{reached}
use Rattle.run_frame.proofs.Kept.{Kept}
use Rattle.run_frame.proofs.Fine.{Sub, Fine}
use Rattle.run_frame.proofs.Held.{Runs, runs_kept, Held, Violated, violated_same}
use Rattle.run_frame.proofs.Parts.{Ends, ends_so, ends_gave, gave_then, gave_same}
use Rattle.run_frame.proofs.Layers.{rules_of, seen_of, expr_of, Inside, Placed, Marked, Shows, Gives, Pays, Forward, Backward}
use Rattle.run_frame.proofs.Readings.{contains_head, sub_left, sub_right, reads_same, means, no_use}
use Rattle.run_frame.proofs.Passing.{held_after}
use Rattle.run_frame.proofs.Lists.{FirstOf, ends_value}
use Rattle.run_frame.proofs.Expressions.{Opened, ends_values, values_gave}

-- ---- what gave

-- one value, as a list
pub one_gave : (part : Part Value) (s : State) (vs : List Value) (u : State) → one part s ≡ Gave vs u → (v : Value) × (part s ≡ Gave v u) × (vs ≡ v ∷ [])
unfolding ◌>>=◌ give
one_gave part s vs u e = by_parts (gave_then (part s) (λ v. give (v ∷ [])) vs u e)
  where
    by_parts : (x : Value) × (t : State) × (part s ≡ Gave x t) × (give (x ∷ []) t ≡ Gave vs u) → (v : Value) × (part s ≡ Gave v u) × (vs ≡ v ∷ [])
    by_parts p = (p.0, subst (λ (y : State). part s ≡ Gave p.0 y) (gave_same (p.0 ∷ []) vs p.1 u p.3).1 p.2, sym (gave_same (p.0 ∷ []) vs p.1 u p.3).0)

-- one value of an expression is the first that it gave
pub value_gave : (l : Layer) (frame : Frame) (e : Expr) (s : State) (v : Value) (u : State) → value l frame e s ≡ Gave v u
    → (vs : List Value) × (l.values frame e s ≡ Gave vs u) × (v ≡ first vs)
unfolding ◌>>=◌ give
value_gave l frame e s v u q = by_parts (gave_then (l.values frame e s) (λ vs. give (first vs)) v u q)
  where
    by_parts : (vs : List Value) × (t : State) × (l.values frame e s ≡ Gave vs t) × (give (first vs) t ≡ Gave v u)
        → (vs : List Value) × (l.values frame e s ≡ Gave vs u) × (v ≡ first vs)
    by_parts p = (p.0, subst (λ (y : State). l.values frame e s ≡ Gave p.0 y) (gave_same (first p.0) v p.1 u p.3).1 p.2, sym (gave_same (first p.0) v p.1 u p.3).0)

-- all that is known of an expression that gave
pub record Evaluated (an : Analysis) (w : World) (s : State) (frame : Frame) (map : TypeMap) (e : Expr) (vs : List Value) (t : State) : Type 0 where
  pub world : World
  pub fine : Fine an world t
  pub runs : Runs an world t frame
  pub kept : Kept an (expr_of an frame e) w s world t
  pub held : Held an frame (after (rules_of an frame) map e) t
  pub gives : Gives an frame map e vs t
  pub pays : Pays an frame e s vs t

pub evaluated : (an : Analysis) (l : Layer) → Forward an l → Backward an l → (w : World) (s : State) (frame : Frame) (map : TypeMap) (e : Expr) (around : List ReportKind)
    → Fine an w s → Runs an w s frame → Held an frame map s → Inside frame (of_expr e) (stats_of_expr e) → Placed an frame (seen_expr (rules_of an frame) map e)
    → Marked an frame (found (rules_of an frame) (seen_of an frame) around e) → (vs : List Value) (t : State) → l.values frame e s ≡ Gave vs t
    → Evaluated an w s frame map e vs t
evaluated an l fwd bwd w s frame map e around f r h inside placed marked vs t q = by_end
    (ends_gave an (expr_of an frame e) w s (Gives an frame map e) (l.values frame e s) vs t q (fwd.values w s frame map e f r h inside placed))
  where
    by_end : (v : World) × Fine an v t × Kept an (expr_of an frame e) w s v t × Gives an frame map e vs t → Evaluated an w s frame map e vs t
    by_end p = record {
      world = p.0;
      fine = p.1;
      runs = runs_kept an (expr_of an frame e) w p.0 s t frame p.2 r;
      kept = p.2;
      held = held_after an w p.0 s t frame map (effects (rules_of an frame) e) f r p.2 h;
      gives = p.3;
      pays = bwd.values w s frame map e around f r h inside placed marked vs t q;
    }

-- ---- forms that stand for nothing

-- a form is no name and no path
pub record IsForm (kind : ExprKind) : Type 0 where
  pub nameless : name_of kind ≡ None
  pub pathless : spelled kind ≡ None
  pub no_local : (rules : Rules) (id : ℕ) (span : _) → local_named rules (the_expr id span kind) ≡ None

none_some : {A : Type 0} (o : Option A) (x : A) → o ≡ None → o ≡ Some x → ⊥
none_some o x p q = cc

-- it stands for nothing, to the run and to the rules
pub form_use : (an : Analysis) (w : World) (s : State) (frame : Frame) (id : ℕ) (span : _) (kind : ExprKind) → Fit an → IsForm kind → Runs an w s frame
    → Inside frame (of_expr (the_expr id span kind)) (stats_of_expr (the_expr id span kind)) → frame.reading.use_of id ≡ None
form_use an w s frame id span kind fit form r inside = no_use an.program kind (frame.reading.use_of id) form.nameless form.pathless
    (means an w s frame id span kind fit r (inside.nodes (AnExpr (the_expr id span kind)) (contains_head (AnExpr (the_expr id span kind)) (of_expr_kind kind))))

pub form_read : (an : Analysis) (w : World) (s : State) (frame : Frame) (id : ℕ) (span : _) (kind : ExprKind) → Fit an → IsForm kind → Runs an w s frame
    → Inside frame (of_expr (the_expr id span kind)) (stats_of_expr (the_expr id span kind)) → (rules_of an frame).reading.use_of id ≡ None
form_read an w s frame id span kind fit form r inside = ap (λ (x : ReadModule). x.use_of id) (reads_same an w s frame fit r) ∙ form_use an w s frame id span kind fit form r inside

-- ---- forward

pub form_forward : (an : Analysis) (l : Layer) (w : World) (s : State) (frame : Frame) (id : ℕ) (span : _) (kind : ExprKind) (P : List Value → State → Type 0) → Fit an → IsForm kind
    → Fine an w s → Runs an w s frame → Inside frame (of_expr (the_expr id span kind)) (stats_of_expr (the_expr id span kind))
    → ((t : State) (z : World) → Fine an z t → Runs an z t frame → t.store ≡ s.store → Ends an (expr_of an frame (the_expr id span kind)) z t P (evaluate an.program l frame id kind t))
    → Ends an (expr_of an frame (the_expr id span kind)) w s P (values an.program l frame (the_expr id span kind) s)
form_forward an l w s frame id span kind P fit form f r inside next =
    ends_values an an.program l (expr_of an frame (the_expr id span kind)) w s frame id span kind P f r refl
    (λ t z g k e. subst (λ (u : Option Use). Ends an (expr_of an frame (the_expr id span kind)) z t P (evaluate_or_builtin an.program l frame id kind u t))
    (sym (form_use an w s frame id span kind fit form r inside)) (next t z g (runs_kept an (expr_of an frame (the_expr id span kind)) w z s t frame k r) e))

-- a form gives one value, which stands and is of the form's type, and shows what its guard says
pub record OneGives (an : Analysis) (frame : Frame) (map : TypeMap) (id : ℕ) (kind : ExprKind) (v : Value) (t : State) : Type 0 where
  pub stands : Stands t.store.heap v
  pub typed : holds t.store.heap v (type_of_kind (rules_of an frame) map id kind) ≡ true
  pub guard_shows : (x : ℕ) → is_loose an frame.module_at x ≡ false → (guard_of_kind (rules_of an frame) id kind (is_true v) x ≡ unknown) ⊎ Shows frame t x (guard_of_kind (rules_of an frame) id kind (is_true v) x)

-- of one value, which is not a kind's name
pub one_gives : (an : Analysis) (frame : Frame) (map : TypeMap) (id : ℕ) (span : _) (kind : ExprKind) (vs : List Value) (t : State) → IsForm kind
    → ((rules : Rules) → kind_subject rules (the_expr id span kind) ≡ None) → (rules_of an frame).reading.use_of id ≡ None
    → (v : Value) × (vs ≡ v ∷ []) × OneGives an frame map id kind v t → Gives an frame map (the_expr id span kind) vs t
one_gives an frame map id span kind vs t form no_subject used (v, e, g) = subst (λ (xs : List Value). Gives an frame map (the_expr id span kind) xs t) (sym e) (record {
  stand = (g.stands, tt);
  typed = subst (λ (u : Option Use). holds t.store.heap v (builtin_or u (type_of_kind (rules_of an frame) map id kind)) ≡ true) (sym used) g.typed;
  one = λ k. (v, refl);
  fixed = λ path k. absurd (none_some (fixed_use (rules_of an frame) ((rules_of an frame).reading.use_of id)) path (ap (fixed_use (rules_of an frame)) used) k);
  local = λ x k z. absurd (none_some (local_named (rules_of an frame) (the_expr id span kind)) x (form.no_local (rules_of an frame) id span) k);
  guard_shows = g.guard_shows;
  kind = λ x k. absurd (none_some (kind_subject (rules_of an frame) (the_expr id span kind)) x (no_subject (rules_of an frame)) k);
})

-- ---- backward

-- a form that gave, from where its place was reached: its value is in each set of which the context was violated; it reached no
-- reported place, and reports nothing of its own
pub record FormPays (an : Analysis) (frame : Frame) (id : ℕ) (kind : ExprKind) (s : State) (vs : List Value) (t : State) : Type 0 where
  pub context : (type : Term) → Violated an frame (ev_in (rules_of an frame) (seen_of an frame) id kind type) s → holds t.store.heap (first vs) type ≡ true
  pub count : reached an frame.activation t.trace ≡ reached an frame.activation s.trace
  pub own : own_kinds (rules_of an frame) (seen_of an frame) id kind ≡ []

pub form_backward : (an : Analysis) (l : Layer) (w : World) (s : State) (frame : Frame) (id : ℕ) (span : _) (kind : ExprKind) (vs : List Value) (u : State) → Fit an → IsForm kind
    → Fine an w s → Runs an w s frame → Inside frame (of_expr (the_expr id span kind)) (stats_of_expr (the_expr id span kind))
    → values an.program l frame (the_expr id span kind) s ≡ Gave vs u
    → ((z : World) (m : State) → Fine an z m → Runs an z m frame → m.store ≡ s.store → evaluate an.program l frame id kind m ≡ Gave vs u → FormPays an frame id kind m vs u)
    → Pays an frame (the_expr id span kind) s vs u
form_backward an l w s frame id span kind vs u fit form f r inside e next =
    by_opened (values_gave an an.program l (expr_of an frame (the_expr id span kind)) w s frame id span kind vs u f r refl e)
  where
    unused : (context : _) (use_here : Option Use) → use_here ≡ None → Violated an frame (unless_builtin use_here context) s → Violated an frame context s
    unused context use_here k h = subst (λ (z : Option Use). Violated an frame (unless_builtin z context) s) k h

    by_opened : Opened an an.program l (expr_of an frame (the_expr id span kind)) w s frame id kind vs u → Pays an frame (the_expr id span kind) s vs u
    by_opened o = by_form (next o.world o.at o.fine (runs_kept an (expr_of an frame (the_expr id span kind)) w o.world s o.at frame o.kept r) o.opened.0
        (subst (λ (z : Option Use). evaluate_or_builtin an.program l frame id kind z o.at ≡ Gave vs u) (form_use an w s frame id span kind fit form r inside) o.gave))
      where
        by_form : FormPays an frame id kind o.at vs u → Pays an frame (the_expr id span kind) s vs u
        by_form p = record {
          context = λ type h. p.context type (violated_same an s o.at frame (ev_in (rules_of an frame) (seen_of an frame) id kind type) o.opened.0
              (unused (ev_in (rules_of an frame) (seen_of an frame) id kind type) ((rules_of an frame).reading.use_of id) (form_read an w s frame id span kind fit form r inside) h));
          reports = p.count ∙ o.opened.1;
          own = p.own;
        }

-- ---- one value of an expression, forward

-- what holds after an expression
abbrev pub After : Analysis → Frame → TypeMap → Expr → List Value → State → Type 0
After an frame map e vs t = Gives an frame map e vs t × Held an frame (after (rules_of an frame) map e) t

pub value_forward : (an : Analysis) (l : Layer) → Forward an l → (w : World) (s : State) (frame : Frame) (map : TypeMap) (e : Expr) → Fine an w s → Runs an w s frame
    → Held an frame map s → Inside frame (of_expr e) (stats_of_expr e) → Placed an frame (seen_expr (rules_of an frame) map e)
    → Ends an (expr_of an frame e) w s (FirstOf (After an frame map e)) (value l frame e s)
value_forward an l fwd w s frame map e f r h inside placed = ends_value an (expr_of an frame e) w s l frame e (After an frame map e)
    (ends_so an (expr_of an frame e) w s (Gives an frame map e) (After an frame map e) (l.values frame e s)
    (λ vs t v q g k p. (p, held_after an w v s t frame map (effects (rules_of an frame) e) f r k h))
    (fwd.values w s frame map e f r h inside placed))

pub first_stands : (heap : Heap) (vs : List Value) → AllByRecursion (Stands heap) vs → Stands heap (first vs)
first_stands heap [] h = tt
first_stands heap (v ∷ vs) h = h.0

-- ---- three in a row

pub sub_one : {A : Type 0} (xs ys zs all : List A) → Sub (xs ++ ys ++ zs) all → Sub xs all
sub_one xs ys zs all h = sub_left xs ys all (sub_left (xs ++ ys) zs all h)

pub sub_two : {A : Type 0} (xs ys zs all : List A) → Sub (xs ++ ys ++ zs) all → Sub ys all
sub_two xs ys zs all h = sub_right xs ys all (sub_left (xs ++ ys) zs all h)

pub sub_three : {A : Type 0} (xs ys zs all : List A) → Sub (xs ++ ys ++ zs) all → Sub zs all
sub_three xs ys zs all h = sub_right (xs ++ ys) zs all h

pub inside_one : (frame : Frame) (xs ys zs : List SyntaxNode) (ss rs qs : List Stat) → Inside frame (xs ++ ys ++ zs) (ss ++ rs ++ qs) → Inside frame xs ss
inside_one frame xs ys zs ss rs qs h = record {
  nodes = sub_one xs ys zs (of_block frame.reading.block) h.nodes;
  stats = sub_one ss rs qs (stats_of_block frame.reading.block) h.stats;
}

pub inside_two : (frame : Frame) (xs ys zs : List SyntaxNode) (ss rs qs : List Stat) → Inside frame (xs ++ ys ++ zs) (ss ++ rs ++ qs) → Inside frame ys rs
inside_two frame xs ys zs ss rs qs h = record {
  nodes = sub_two xs ys zs (of_block frame.reading.block) h.nodes;
  stats = sub_two ss rs qs (stats_of_block frame.reading.block) h.stats;
}

pub inside_three : (frame : Frame) (xs ys zs : List SyntaxNode) (ss rs qs : List Stat) → Inside frame (xs ++ ys ++ zs) (ss ++ rs ++ qs) → Inside frame zs qs
inside_three frame xs ys zs ss rs qs h = record {
  nodes = sub_three xs ys zs (of_block frame.reading.block) h.nodes;
  stats = sub_three ss rs qs (stats_of_block frame.reading.block) h.stats;
}
