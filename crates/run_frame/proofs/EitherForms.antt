-- `a and b` and `a or b`, forward and backward.
use Rattle.std.proofs.Common.{◌≡◌, ℕ, Bool, true, false, not, ◌||◌, ◌&&◌, List, [], ◌∷◌, ◌++◌, ◌⊎◌, inl, inr, refl, sym, ◌∙◌, ap, subst}
use Rattle.luau_values.specs.Value.{Value}
use Rattle.luau_values.specs.Heap.{Heap}
use Rattle.luau_values.specs.Stands.{Stands}
use Rattle.luau_tree.specs.declared.names.BinOp.{BinOp}
use Rattle.luau_tree.specs.declared.names.BinOp.TheVariants.{Or, And}
use Rattle.luau_tree.specs.declared.names.Op.TheVariants.{Binary as BinaryOp}
use Rattle.luau_tree.specs.Tree.{Expr, the_expr, Binary}
use Rattle.luau_run.specs.Program.{Program}
use Rattle.luau_run.specs.SyntaxNode.{of_expr}
use Rattle.luau_run.specs.Machine.{State, Gave, Part, ◌>>=◌, give}
use Rattle.luau_run.specs.Layer.{Frame, Layer, first}
use Rattle.luau_run.specs.Operators.{is_true}
use Rattle.luau_run.specs.Expressions.{value, one, values, either_value, binary_rest}
use Rattle.type_arena.specs.Term.{Term, never}
use Rattle.type_normal.specs.Holds.{holds}
use Rattle.type_normal.specs.Operations.{union, meet, is_flat}
use Rattle.type_normal.specs.Kinds.{unknown, falsy, truthy}
use Rattle.type_normal.proofs.Public.{meet_holds, never_none, unknown_all, unknown_or, or_unknown}
use Rattle.report_rules.specs.Rules.{Rules}
use Rattle.report_rules.specs.Effects.{effects}
use Rattle.report_rules.specs.Guard.{guard, guard_of_kind, joined_guard}
use Rattle.report_rules.specs.TypeMap.{TypeMap, refine}
use Rattle.report_rules.specs.Forward.{typ, type_of_kind, after}
use Rattle.report_rules.specs.Seen.{Seen, seen_expr, seen_in}
use Rattle.report_rules.specs.Context.{Context, join, branch, pass}
use Rattle.report_rules.specs.Checks.{ReportKind, Operand, type_of, operand_set}
use Rattle.report_rules.specs.Errors.{ev, ev_in, side_kinds}
use Rattle.report_rules.specs.Findings.{found}
use Rattle.report_rules.specs.Reports.{findings}
use Rattle.run_frame.specs.Analysis.{Analysis, is_loose}
use Rattle.run_frame.specs.Statements.{stats_of_expr}
use Rattle.run_frame.specs.Fit.{Fit}
use Rattle.run_frame.proofs.World.{World}
use Rattle.run_frame.proofs.Counts.{reached}
use Rattle.run_frame.proofs.Kept.{Doer}
use Rattle.run_frame.proofs.Fine.{Fine}
use Rattle.run_frame.proofs.Held.{Runs, runs_kept, Held, held_store, Violated}
use Rattle.run_frame.proofs.Parts.{Ends, ends_so, ends_then, ends_more, ends_give, gave_then, gave_same}
use Rattle.run_frame.proofs.Layers.{rules_of, seen_of, part_of, expr_of, Inside, Placed, Marked, Shows, Gives, Pays, Forward, Backward}
use Rattle.run_frame.proofs.Readings.{sub_tail, sub_left, sub_right}
use Rattle.run_frame.proofs.Names.{ends_one, by_truth}
use Rattle.run_frame.proofs.Passing.{both_of, violated_join, violated_after}
use Rattle.run_frame.proofs.Lists.{may_first, may_second, FirstOf}
use Rattle.run_frame.proofs.Blocks.{in_first, in_second}
use Rattle.run_frame.proofs.Branches.{ShowsAll, reads_once}
use Rattle.run_frame.proofs.Forms.{one_gave, value_gave, Evaluated, evaluated, form_read, form_forward, OneGives, one_gives, FormPays, form_backward, After, value_forward, first_stands}
use Rattle.run_frame.proofs.ListsBack.{Check, by_set, operand_quiet}
use Rattle.run_frame.proofs.OperatorForms.{binary_form, within_left, within_right}
use Rattle.run_frame.proofs.Conditions.{guard_flat, shows_all, held_way, shows_before, shows_later, way_violated}

-- ---- the two operators

-- the operator that goes on where its left side came out so: `and` where it is true, `or` where it is false
abbrev pub either : Bool → BinOp
either true = And
either false = Or

-- what the left side's value is where the operator stops there
abbrev pub stops : Bool → Term
stops true = falsy
stops false = truthy

-- which context each side of the condition gets
abbrev chosen_by : Rules → Expr → (way : Bool) → (goes_on stopped : Context) → Context
chosen_by rules left true goes_on stopped = branch rules left goes_on stopped
chosen_by rules left false goes_on stopped = branch rules left stopped goes_on

record IsEither (way : Bool) : Type 0 where
  seen : (rules : Rules) (map : TypeMap) (left right : Expr)
      → seen_in rules map (Binary (either way) left right) ≡ seen_expr rules map left ++ seen_expr rules (refine rules left way (after rules map left)) right
  typed : (rules : Rules) (map : TypeMap) (id : ℕ) (left right : Expr)
      → type_of_kind rules map id (Binary (either way) left right) ≡ union (meet (typ rules map left) (stops way)) (typ rules (refine rules left way (after rules map left)) right)
  asks : (rules : Rules) (seen : List Seen) (id : ℕ) (left right : Expr) (set : Term)
      → ev_in rules seen id (Binary (either way) left right) set
      ≡ join (ev rules seen left never) (chosen_by rules left way (pass (effects rules left) (ev rules seen right set)) (ev rules seen left (meet set (stops way))))
  goes_on : (program : Program) (l : Layer) (frame : Frame) (v : Value) (right : Expr) → is_true v ≡ way → binary_rest program l frame (either way) v right ≡ value l frame right
  ends : (program : Program) (l : Layer) (frame : Frame) (v : Value) (right : Expr) → is_true v ≡ not way → binary_rest program l frame (either way) v right ≡ give v
  both : (left right equal not_equal : Term) → joined_guard (either way) way left right equal not_equal ≡ meet left right
  one : (left right equal not_equal : Term) → joined_guard (either way) (not way) left right equal not_equal ≡ union left right
  sets : (other : Term) → operand_set (either way) other ≡ never
  stopped : (h : Heap) (v : Value) → is_true v ≡ not way → holds h v (stops way) ≡ true

go : (l : Layer) (frame : Frame) (v : Value) (right : Expr) (b : Bool) → b ≡ false → either_value l frame b v right ≡ value l frame right
go l frame v right true e = cc
go l frame v right false e = refl

stop : (l : Layer) (frame : Frame) (v : Value) (right : Expr) (b : Bool) → b ≡ true → either_value l frame b v right ≡ give v
stop l frame v right true e = refl
stop l frame v right false e = cc

is_either : (way : Bool) → IsEither way
is_either true = record {
  seen = λ rules map left right. refl;
  typed = λ rules map id left right. refl;
  asks = λ rules seen id left right set. refl;
  goes_on = λ program l frame v right e. go l frame v right (not (is_true v)) (ap not e);
  ends = λ program l frame v right e. stop l frame v right (not (is_true v)) (ap not e);
  both = λ left right equal not_equal. refl;
  one = λ left right equal not_equal. refl;
  sets = λ other. refl;
  stopped = λ h v e. by_truth h v false e;
}
is_either false = record {
  seen = λ rules map left right. refl;
  typed = λ rules map id left right. refl;
  asks = λ rules seen id left right set. refl;
  goes_on = λ program l frame v right e. go l frame v right (is_true v) e;
  ends = λ program l frame v right e. stop l frame v right (is_true v) e;
  both = λ left right equal not_equal. refl;
  one = λ left right equal not_equal. refl;
  sets = λ other. refl;
  stopped = λ h v e. by_truth h v true e;
}

-- a truth is one way or the other
way_or_not : (b way : Bool) → (b ≡ way) ⊎ (b ≡ not way)
way_or_not true true = inl refl
way_or_not true false = inr refl
way_or_not false true = inr refl
way_or_not false false = inl refl

-- ---- what two parts show

both_true : (p q : Bool) → p ≡ true → q ≡ true → p && q ≡ true
both_true true q e k = k
both_true false q e k = cc

-- both came out so
meet_shows : (frame : Frame) (t : State) (x : ℕ) (left right : Term) → (left ≡ unknown) ⊎ Shows frame t x left → (right ≡ unknown) ⊎ Shows frame t x right
    → (meet left right ≡ unknown) ⊎ Shows frame t x (meet left right)
meet_shows frame t x left right (inl e) (inl k) = inl (ap (λ (type : Term). meet type right) e ∙ ap (λ (type : Term). meet unknown type) k)
meet_shows frame t x left right (inl e) (inr k) = inr (
  k.0,
  k.1,
  k.2,
  meet_holds t.store.heap k.1 left right
      ∙ both_true (holds t.store.heap k.1 left) (holds t.store.heap k.1 right) (subst (λ (type : Term). holds t.store.heap k.1 type ≡ true) (sym e) (unknown_all t.store.heap k.1)) k.3,
)
meet_shows frame t x left right (inr e) (inl k) = inr (
  e.0,
  e.1,
  e.2,
  meet_holds t.store.heap e.1 left right
      ∙ both_true (holds t.store.heap e.1 left) (holds t.store.heap e.1 right) e.3 (subst (λ (type : Term). holds t.store.heap e.1 type ≡ true) (sym k) (unknown_all t.store.heap e.1)),
)
meet_shows frame t x left right (inr e) (inr k) = inr (
  e.0,
  e.1,
  e.2,
  meet_holds t.store.heap e.1 left right
      ∙ both_true (holds t.store.heap e.1 left) (holds t.store.heap e.1 right) e.3
      (subst (λ (v : Value). holds t.store.heap v right ≡ true) (reads_once frame t x k.0 e.0 k.1 e.1 k.2 e.2) k.3),
)

-- one did; of the other nothing is known
left_shows : (frame : Frame) (t : State) (x : ℕ) (left right : Term) → is_flat right ≡ true → (left ≡ unknown) ⊎ Shows frame t x left → (union left right ≡ unknown) ⊎ Shows frame t x (union left right)
left_shows frame t x left right flat (inl e) = inl (ap (λ (type : Term). union type right) e ∙ unknown_or right flat)
left_shows frame t x left right flat (inr e) = inr (e.0, e.1, e.2, in_first t.store.heap e.1 left right e.3)

right_shows : (frame : Frame) (t : State) (x : ℕ) (left right : Term) → is_flat left ≡ true → (right ≡ unknown) ⊎ Shows frame t x right → (union left right ≡ unknown) ⊎ Shows frame t x (union left right)
right_shows frame t x left right flat (inl e) = inl (ap (λ (type : Term). union left type) e ∙ or_unknown left flat)
right_shows frame t x left right flat (inr e) = inr (e.0, e.1, e.2, in_second t.store.heap e.1 left right e.3)

-- ---- forward

-- what a part shows after a further one
later_shows : (an : Analysis) (frame : Frame) (e : Expr) (way : Bool) (t : State) → ShowsAll an frame e way t → (x : ℕ) → is_loose an frame.module_at x ≡ false
    → (guard (rules_of an frame) e way x ≡ unknown) ⊎ Shows frame t x (guard (rules_of an frame) e way x)
later_shows an frame e way t h x firm = h x firm

-- the operator stopped at its left side
stopped_gives : (an : Analysis) (frame : Frame) (map : TypeMap) (id : ℕ) (way : Bool) (left right : Expr) (vs : List Value) (v : Value) (t : State) → IsEither way → v ≡ first vs
    → is_true v ≡ not way → Gives an frame map left vs t → OneGives an frame map id (Binary (either way) left right) v t
stopped_gives an frame map id way left right vs v t op e k g = record {
  stands = subst (λ (x : Value). Stands t.store.heap x) (sym e) (first_stands t.store.heap vs g.stand);
  typed = subst (λ (type : Term). holds t.store.heap v type ≡ true) (sym (op.typed (rules_of an frame) map id left right))
      (in_first t.store.heap v (meet (typ (rules_of an frame) map left) (stops way)) (typ (rules_of an frame) (refine (rules_of an frame) left way (after (rules_of an frame) map left)) right)
      (meet_holds t.store.heap v (typ (rules_of an frame) map left) (stops way)
      ∙ both_true (holds t.store.heap v (typ (rules_of an frame) map left)) (holds t.store.heap v (stops way))
      (subst (λ (x : Value). holds t.store.heap x (typ (rules_of an frame) map left) ≡ true) (sym e) g.typed) (op.stopped t.store.heap v k)));
  guard_shows = λ x firm. subst (λ (b : Bool). (guard_of_kind (rules_of an frame) id (Binary (either way) left right) b x ≡ unknown)
      ⊎ Shows frame t x (guard_of_kind (rules_of an frame) id (Binary (either way) left right) b x)) (sym k)
      (subst (λ (type : Term). (type ≡ unknown) ⊎ Shows frame t x type) (sym (op.one (guard (rules_of an frame) left (not way) x) (guard (rules_of an frame) right (not way) x) _ _))
      (left_shows frame t x (guard (rules_of an frame) left (not way) x) (guard (rules_of an frame) right (not way) x) (guard_flat an frame right (not way) x)
      (shows_all an frame map left vs t (not way) (ap is_true (sym e) ∙ k) g x firm)));
}

-- the operator went on to its right side
went_gives : (an : Analysis) (frame : Frame) (map : TypeMap) (id : ℕ) (way : Bool) (left right : Expr) (vs : List Value) (v : Value) (t : State) → IsEither way → v ≡ first vs
    → ShowsAll an frame left way t → Gives an frame (refine (rules_of an frame) left way (after (rules_of an frame) map left)) right vs t
    → OneGives an frame map id (Binary (either way) left right) v t
went_gives an frame map id way left right vs v t op e shows g = record {
  stands = subst (λ (x : Value). Stands t.store.heap x) (sym e) (first_stands t.store.heap vs g.stand);
  typed = subst (λ (type : Term). holds t.store.heap v type ≡ true) (sym (op.typed (rules_of an frame) map id left right))
      (in_second t.store.heap v (meet (typ (rules_of an frame) map left) (stops way)) (typ (rules_of an frame) (refine (rules_of an frame) left way (after (rules_of an frame) map left)) right)
      (subst (λ (x : Value). holds t.store.heap x (typ (rules_of an frame) (refine (rules_of an frame) left way (after (rules_of an frame) map left)) right) ≡ true) (sym e) g.typed));
  guard_shows = λ x firm. by_way x firm (way_or_not (is_true v) way);
}
  where
    right_map : TypeMap
    right_map = refine (rules_of an frame) left way (after (rules_of an frame) map left)

    by_way : (x : ℕ) → is_loose an frame.module_at x ≡ false → (is_true v ≡ way) ⊎ (is_true v ≡ not way)
        → (guard_of_kind (rules_of an frame) id (Binary (either way) left right) (is_true v) x ≡ unknown)
        ⊎ Shows frame t x (guard_of_kind (rules_of an frame) id (Binary (either way) left right) (is_true v) x)
    by_way x firm (inl k) = subst (λ (b : Bool). (guard_of_kind (rules_of an frame) id (Binary (either way) left right) b x ≡ unknown)
        ⊎ Shows frame t x (guard_of_kind (rules_of an frame) id (Binary (either way) left right) b x)) (sym k)
        (subst (λ (type : Term). (type ≡ unknown) ⊎ Shows frame t x type) (sym (op.both (guard (rules_of an frame) left way x) (guard (rules_of an frame) right way x) _ _))
        (meet_shows frame t x (guard (rules_of an frame) left way x) (guard (rules_of an frame) right way x) (shows x firm)
        (shows_all an frame right_map right vs t way (ap is_true (sym e) ∙ k) g x firm)))
    by_way x firm (inr k) = subst (λ (b : Bool). (guard_of_kind (rules_of an frame) id (Binary (either way) left right) b x ≡ unknown)
        ⊎ Shows frame t x (guard_of_kind (rules_of an frame) id (Binary (either way) left right) b x)) (sym k)
        (subst (λ (type : Term). (type ≡ unknown) ⊎ Shows frame t x type) (sym (op.one (guard (rules_of an frame) left (not way) x) (guard (rules_of an frame) right (not way) x) _ _))
        (right_shows frame t x (guard (rules_of an frame) left (not way) x) (guard (rules_of an frame) right (not way) x) (guard_flat an frame left (not way) x)
        (shows_all an frame right_map right vs t (not way) (ap is_true (sym e) ∙ k) g x firm)))

placed_either : (an : Analysis) (frame : Frame) (map : TypeMap) (id : ℕ) (span : _) (way : Bool) (left right : Expr) → IsEither way
    → Placed an frame (seen_expr (rules_of an frame) map (the_expr id span (Binary (either way) left right)))
    → Placed an frame (seen_expr (rules_of an frame) map left ++ seen_expr (rules_of an frame) (refine (rules_of an frame) left way (after (rules_of an frame) map left)) right)
placed_either an frame map id span way left right op placed = subst (λ (seen : List Seen). Placed an frame seen) (op.seen (rules_of an frame) map left right)
    (sub_tail _ (seen_in (rules_of an frame) map (Binary (either way) left right)) (seen_of an frame) placed)

pub either_forward : (an : Analysis) (l : Layer) → Fit an → Forward an l → (w : World) (s : State) (frame : Frame) (map : TypeMap) (id : ℕ) (span : _) (way : Bool) (left right : Expr)
    → Fine an w s → Runs an w s frame → Held an frame map s
    → Inside frame (of_expr (the_expr id span (Binary (either way) left right))) (stats_of_expr (the_expr id span (Binary (either way) left right)))
    → Placed an frame (seen_expr (rules_of an frame) map (the_expr id span (Binary (either way) left right)))
    → Ends an (expr_of an frame (the_expr id span (Binary (either way) left right))) w s (Gives an frame map (the_expr id span (Binary (either way) left right)))
    (values an.program l frame (the_expr id span (Binary (either way) left right)) s)
unfolding ◌>>=◌
either_forward an l fit fwd w s frame map id span way left right f r h inside placed =
    form_forward an l w s frame id span (Binary (either way) left right) (Gives an frame map (the_expr id span (Binary (either way) left right))) fit (binary_form (either way) left right) f r inside
    (λ t z g j same. ends_so an who z t (λ vs u. (v : Value) × (vs ≡ v ∷ []) × OneGives an frame map id (Binary (either way) left right) v u)
    (Gives an frame map (the_expr id span (Binary (either way) left right)))
    (one (◌>>=◌ (value l frame left) (λ v. binary_rest an.program l frame (either way) v right)) t)
    (λ vs u y q d k p. one_gives an frame map id span (Binary (either way) left right) vs u (binary_form (either way) left right) (λ rules. refl)
    (form_read an w s frame id span (Binary (either way) left right) fit (binary_form (either way) left right) r inside) p)
    (ends_one an who z t (OneGives an frame map id (Binary (either way) left right)) (◌>>=◌ (value l frame left) (λ v. binary_rest an.program l frame (either way) v right))
    (ends_then an who z t (FirstOf (After an frame map left)) (OneGives an frame map id (Binary (either way) left right)) (value l frame left t)
    (λ v. binary_rest an.program l frame (either way) v right)
    (ends_more an (expr_of an frame left) who z t (FirstOf (After an frame map left)) (value l frame left t)
    (may_first frame (effects (rules_of an frame) left) (effects (rules_of an frame) right))
    (value_forward an l fwd z t frame map left g j (held_store an s t frame map same h) (within_left frame id span (either way) left right inside)
    (sub_left _ (seen_expr (rules_of an frame) right_map right) (seen_of an frame) (placed_either an frame map id span way left right op placed))))
    (λ a m v g k p. by_way a m v g (runs_kept an who z v t m frame k j) p (way_or_not (is_true a) way)))))
  where
    who : Doer
    who = part_of frame (effects (rules_of an frame) left || effects (rules_of an frame) right)

    op : IsEither way
    op = is_either way

    right_map : TypeMap
    right_map = refine (rules_of an frame) left way (after (rules_of an frame) map left)

    by_way : (a : Value) (m : State) (v : World) → Fine an v m → Runs an v m frame → FirstOf (After an frame map left) a m → (is_true a ≡ way) ⊎ (is_true a ≡ not way)
        → Ends an who v m (OneGives an frame map id (Binary (either way) left right)) (binary_rest an.program l frame (either way) a right m)
    by_way a m v g j p (inl e) = subst (λ (part : Part Value). Ends an who v m (OneGives an frame map id (Binary (either way) left right)) (part m)) (sym (op.goes_on an.program l frame a right e))
        (ends_so an who v m (FirstOf (After an frame right_map right)) (OneGives an frame map id (Binary (either way) left right)) (value l frame right m)
        (λ b n y q d k x. went_gives an frame map id way left right x.0 b n op x.1
        (shows_later an v y m n frame (effects (rules_of an frame) left || effects (rules_of an frame) right) left way g j k
        (shows_all an frame map left p.0 m way (ap is_true (sym p.1) ∙ e) p.2.0)) x.2.0)
        (ends_more an (expr_of an frame right) who v m (FirstOf (After an frame right_map right)) (value l frame right m)
        (may_second frame (effects (rules_of an frame) left) (effects (rules_of an frame) right))
        (value_forward an l fwd v m frame right_map right g j (held_way an frame map left p.0 m way (ap is_true (sym p.1) ∙ e) p.2.0 p.2.1) (within_right frame id span (either way) left right inside)
        (sub_right (seen_expr (rules_of an frame) map left) _ (seen_of an frame) (placed_either an frame map id span way left right op placed)))))
    by_way a m v g j p (inr e) = subst (λ (part : Part Value). Ends an who v m (OneGives an frame map id (Binary (either way) left right)) (part m)) (sym (op.ends an.program l frame a right e))
        (ends_give an who v m (OneGives an frame map id (Binary (either way) left right)) a g (stopped_gives an frame map id way left right p.0 a m op p.1 e p.2.0))

-- ---- backward

in_never : (h : Heap) (v : Value) (P : Type 0) → holds h v never ≡ true → P
in_never h v P e = absurd (clash (holds h v never) e (never_none h v))
  where
    clash : (b : Bool) → b ≡ true → b ≡ false → ⊥
    clash b p q = cc

-- the side that a condition chose, of the contexts that the operator chooses between
chosen_violated : (an : Analysis) (frame : Frame) (left : Expr) (way : Bool) (goes_on stopped : Context) (t : State) (b : Bool) → ShowsAll an frame left b t → (b ≡ way) ⊎ (b ≡ not way)
    → Violated an frame (chosen_by (rules_of an frame) left way goes_on stopped) t
    → ((b ≡ way) × Violated an frame goes_on t) ⊎ ((b ≡ not way) × Violated an frame stopped t)
chosen_violated an frame left true goes_on stopped t true shows e h = inl (refl, way_violated an frame left true goes_on stopped t shows h)
chosen_violated an frame left true goes_on stopped t false shows e h = inr (refl, way_violated an frame left false goes_on stopped t shows h)
chosen_violated an frame left false goes_on stopped t true shows e h = inr (refl, way_violated an frame left true stopped goes_on t shows h)
chosen_violated an frame left false goes_on stopped t false shows e h = inl (refl, way_violated an frame left false stopped goes_on t shows h)

opposite : (b way : Bool) → b ≡ way → b ≡ not way → ⊥
opposite true true e k = cc
opposite true false e k = cc
opposite false true e k = cc
opposite false false e k = cc

pub either_backward : (an : Analysis) (l : Layer) → Fit an → Forward an l → Backward an l → (w : World) (s : State) (frame : Frame) (map : TypeMap) (id : ℕ) (span : _) (way : Bool)
    (left right : Expr) (around : List ReportKind) → Fine an w s → Runs an w s frame → Held an frame map s
    → Inside frame (of_expr (the_expr id span (Binary (either way) left right))) (stats_of_expr (the_expr id span (Binary (either way) left right)))
    → Placed an frame (seen_expr (rules_of an frame) map (the_expr id span (Binary (either way) left right)))
    → Marked an frame (found (rules_of an frame) (seen_of an frame) around (the_expr id span (Binary (either way) left right)))
    → (vs : List Value) (u : State) → values an.program l frame (the_expr id span (Binary (either way) left right)) s ≡ Gave vs u
    → Pays an frame (the_expr id span (Binary (either way) left right)) s vs u
unfolding ◌>>=◌ give
either_backward an l fit fwd bwd w s frame map id span way left right around f r h inside placed marked vs u q =
    form_backward an l w s frame id span (Binary (either way) left right) vs u fit (binary_form (either way) left right) f r inside q
    (λ z m g j same k. by_one z m g j (held_store an s m frame map same h)
    (one_gave (◌>>=◌ (value l frame left) (λ v. binary_rest an.program l frame (either way) v right)) m vs u k))
  where
    op : IsEither way
    op = is_either way

    right_map : TypeMap
    right_map = refine (rules_of an frame) left way (after (rules_of an frame) map left)

    placed_left : Placed an frame (seen_expr (rules_of an frame) map left)
    placed_left = sub_left (seen_expr (rules_of an frame) map left) (seen_expr (rules_of an frame) right_map right) (seen_of an frame) (placed_either an frame map id span way left right op placed)

    placed_right : Placed an frame (seen_expr (rules_of an frame) right_map right)
    placed_right = sub_right (seen_expr (rules_of an frame) map left) (seen_expr (rules_of an frame) right_map right) (seen_of an frame) (placed_either an frame map id span way left right op placed)

    marked_left : Marked an frame (found (rules_of an frame) (seen_of an frame) (side_kinds (seen_of an frame) (either way) left right) left)
    marked_left = sub_left (found (rules_of an frame) (seen_of an frame) (side_kinds (seen_of an frame) (either way) left right) left)
        (found (rules_of an frame) (seen_of an frame) (side_kinds (seen_of an frame) (either way) right left) right) (findings (rules_of an frame)) (sub_tail _ _ _ marked)

    marked_right : Marked an frame (found (rules_of an frame) (seen_of an frame) (side_kinds (seen_of an frame) (either way) right left) right)
    marked_right = sub_right (found (rules_of an frame) (seen_of an frame) (side_kinds (seen_of an frame) (either way) left right) left)
        (found (rules_of an frame) (seen_of an frame) (side_kinds (seen_of an frame) (either way) right left) right) (findings (rules_of an frame)) (sub_tail _ _ _ marked)

    check_left : Check an frame left
    check_left = by_set an frame left (operand_set (either way) (type_of (seen_of an frame) right)) (Operand (BinaryOp (either way)))

    check_right : Check an frame right
    check_right = by_set an frame right (operand_set (either way) (type_of (seen_of an frame) left)) (Operand (BinaryOp (either way)))

    unset : (heap : Heap) (v : Value) (other : Term) → holds heap v (operand_set (either way) other) ≡ true → ⊥
    unset heap v other e = in_never heap v ⊥ (subst (λ (type : Term). holds heap v type ≡ true) (op.sets other) e)

    by_one : (z : World) (m : State) → Fine an z m → Runs an z m frame → Held an frame map m
        → (v : Value) × (◌>>=◌ (value l frame left) (λ v. binary_rest an.program l frame (either way) v right) m ≡ Gave v u) × (vs ≡ v ∷ []) → FormPays an frame id (Binary (either way) left right) m vs u
    by_one z m g j held (v, k, e) = by_left (gave_then (value l frame left m) (λ v. binary_rest an.program l frame (either way) v right) v u k)
      where
        by_left : (a : Value) × (t : State) × (value l frame left m ≡ Gave a t) × (binary_rest an.program l frame (either way) a right t ≡ Gave v u)
            → FormPays an frame id (Binary (either way) left right) m vs u
        by_left (a, t, gave_left, rest) = by_value (value_gave l frame left m a t gave_left)
          where
            by_value : (xs : List Value) × (l.values frame left m ≡ Gave xs t) × (a ≡ first xs) → FormPays an frame id (Binary (either way) left right) m vs u
            by_value (xs, n, same) = by_evaluated
                (evaluated an l fwd bwd z m frame map left (side_kinds (seen_of an frame) (either way) left right) g j held (within_left frame id span (either way) left right inside)
                placed_left marked_left xs t n) (way_or_not (is_true a) way)
              where
                shows_here : Evaluated an z m frame map left xs t → ShowsAll an frame left (is_true a) m
                shows_here o = shows_before an z o.world m t frame (effects (rules_of an frame) left) left (is_true a) g j o.kept
                    (shows_all an frame map left xs t (is_true a) (ap is_true (sym same)) o.gives)

                by_context : (o : Evaluated an z m frame map left xs t) (set : Term)
                    → ((is_true a ≡ way) → Violated an frame (pass (effects (rules_of an frame) left) (ev (rules_of an frame) (seen_of an frame) right set)) m → holds u.store.heap (first vs) set ≡ true)
                    → ((is_true a ≡ not way) → Violated an frame (ev (rules_of an frame) (seen_of an frame) left (meet set (stops way))) m → holds u.store.heap (first vs) set ≡ true)
                    → Violated an frame (ev_in (rules_of an frame) (seen_of an frame) id (Binary (either way) left right) set) m → holds u.store.heap (first vs) set ≡ true
                by_context o set if_on if_stopped y = by_join (violated_join an frame (ev (rules_of an frame) (seen_of an frame) left never)
                    (chosen_by (rules_of an frame) left way (pass (effects (rules_of an frame) left) (ev (rules_of an frame) (seen_of an frame) right set))
                    (ev (rules_of an frame) (seen_of an frame) left (meet set (stops way)))) m
                    (subst (λ (context : Context). Violated an frame context m) (op.asks (rules_of an frame) (seen_of an frame) id left right set) y))
                  where
                    by_side : ((is_true a ≡ way) × Violated an frame (pass (effects (rules_of an frame) left) (ev (rules_of an frame) (seen_of an frame) right set)) m)
                        ⊎ ((is_true a ≡ not way) × Violated an frame (ev (rules_of an frame) (seen_of an frame) left (meet set (stops way))) m) → holds u.store.heap (first vs) set ≡ true
                    by_side (inl x) = if_on x.0 x.1
                    by_side (inr x) = if_stopped x.0 x.1

                    by_join : Violated an frame (ev (rules_of an frame) (seen_of an frame) left never) m
                        ⊎ Violated an frame (chosen_by (rules_of an frame) left way (pass (effects (rules_of an frame) left) (ev (rules_of an frame) (seen_of an frame) right set))
                        (ev (rules_of an frame) (seen_of an frame) left (meet set (stops way)))) m → holds u.store.heap (first vs) set ≡ true
                    by_join (inl x) = in_never t.store.heap (first xs) (holds u.store.heap (first vs) set ≡ true) (o.pays.context never x)
                    by_join (inr x) = by_side (chosen_violated an frame left way (pass (effects (rules_of an frame) left) (ev (rules_of an frame) (seen_of an frame) right set))
                        (ev (rules_of an frame) (seen_of an frame) left (meet set (stops way))) m (is_true a) (shows_here o) (way_or_not (is_true a) way) x)

                left_count : (o : Evaluated an z m frame map left xs t) → reached an frame.activation t.trace ≡ reached an frame.activation m.trace
                left_count o = operand_quiet an z m frame map left check_left xs t fit j placed_left marked_left o.gives o.pays
                    (unset t.store.heap (first xs) (type_of (seen_of an frame) right))

                by_evaluated : Evaluated an z m frame map left xs t → (is_true a ≡ way) ⊎ (is_true a ≡ not way) → FormPays an frame id (Binary (either way) left right) m vs u
                by_evaluated o (inl on) = by_right (value_gave l frame right t v u (subst (λ (part : Part Value). part t ≡ Gave v u) (op.goes_on an.program l frame a right on) rest))
                  where
                    by_right : (ys : List Value) × (l.values frame right t ≡ Gave ys u) × (v ≡ first ys) → FormPays an frame id (Binary (either way) left right) m vs u
                    by_right (ys, c, b) = finish (evaluated an l fwd bwd o.world t frame right_map right (side_kinds (seen_of an frame) (either way) right left) o.fine o.runs
                        (held_way an frame map left xs t way (ap is_true (sym same) ∙ on) o.gives o.held) (within_right frame id span (either way) left right inside) placed_right marked_right ys u c)
                      where
                        finish : Evaluated an o.world t frame right_map right ys u → FormPays an frame id (Binary (either way) left right) m vs u
                        finish i = record {
                          context = λ set y. by_context o set
                              (λ x d. subst (λ (y : Value). holds u.store.heap y set ≡ true) (sym (ap first e ∙ b))
                              (i.pays.context set (violated_after an z o.world m t frame (ev (rules_of an frame) (seen_of an frame) right set) (effects (rules_of an frame) left) g j o.kept d)))
                              (λ x d. absurd (opposite (is_true a) way on x)) y;
                          count = operand_quiet an o.world t frame right_map right check_right ys u fit o.runs placed_right marked_right i.gives i.pays
                              (unset u.store.heap (first ys) (type_of (seen_of an frame) left)) ∙ left_count o;
                          own = refl;
                        }
                by_evaluated o (inr off) = finish (gave_same a v t u (subst (λ (part : Part Value). part t ≡ Gave v u) (op.ends an.program l frame a right off) rest))
                  where
                    finish : (a ≡ v) × (t ≡ u) → FormPays an frame id (Binary (either way) left right) m vs u
                    finish p = record {
                      context = λ set y. by_context o set (λ x d. absurd (opposite (is_true a) way x off))
                          (λ x d. subst (λ (y : State). holds y.store.heap (first vs) set ≡ true) p.1
                          (subst (λ (y : Value). holds t.store.heap y set ≡ true) (sym (ap first e ∙ (sym p.0 ∙ same)))
                          (both_of (holds t.store.heap (first xs) set) (holds t.store.heap (first xs) (stops way))
                          (sym (meet_holds t.store.heap (first xs) set (stops way)) ∙ o.pays.context (meet set (stops way)) d)).0)) y;
                      count = ap (λ (x : State). reached an frame.activation x.trace) (sym p.1) ∙ left_count o;
                      own = refl;
                    }
