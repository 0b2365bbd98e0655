-- Unary and binary operators as expressions, forward and backward; `and` and `or` aside.
use Rattle.std.proofs.Common.{◌≡◌, ℕ, Bool, true, false, not, ◌||◌, if◌then◌else◌, List, [], ◌∷◌, ◌++◌, Option, Some, None, ◌⊎◌, inl, inr, refl, sym, ◌∙◌, ap, subst, slice_get}
use Rattle.luau_values.specs.Value.{Value}
use Rattle.luau_values.specs.Heap.{Heap}
use Rattle.luau_values.specs.Stands.{Stands}
use Rattle.luau_tree.specs.declared.names.UnOp.{UnOp}
use Rattle.luau_tree.specs.declared.names.UnOp.TheVariants.{Minus, Not, Length}
use Rattle.luau_tree.specs.declared.names.BinOp.{BinOp}
use Rattle.luau_tree.specs.declared.names.BinOp.TheVariants.{Or, And, NotEqual, Equal}
use Rattle.luau_tree.specs.declared.names.Op.TheVariants.{Unary as UnaryOp, Binary as BinaryOp}
use Rattle.luau_tree.specs.Tree.{Expr, the_expr, ExprKind, NilExpr, TrueExpr, FalseExpr, NumberExpr, StrExpr, Unary, Binary}
use Rattle.luau_run.specs.Program.{Program}
use Rattle.luau_run.specs.ReadModule.{Use}
use Rattle.luau_run.specs.SyntaxNode.{AnExpr, of_expr, of_block}
use Rattle.luau_run.specs.Machine.{Store, State, Gave, Part, ◌>>=◌}
use Rattle.luau_run.specs.Layer.{Frame, Layer, first}
use Rattle.luau_run.specs.Operators.{is_true, binary, unary}
use Rattle.luau_run.specs.Expressions.{cell_of, value, one, values, binary_rest}
use Rattle.type_arena.specs.Term.{Term}
use Rattle.type_normal.specs.Holds.{holds}
use Rattle.type_normal.specs.Kinds.{unknown}
use Rattle.report_rules.specs.Rules.{Rules, loose, local_named}
use Rattle.report_rules.specs.Effects.{effects}
use Rattle.report_rules.specs.Guard.{guard, guard_of_kind, joined_guard, equality, said, firm_only, kind_subject}
use Rattle.report_rules.specs.TypeMap.{TypeMap}
use Rattle.report_rules.specs.Forward.{typ, type_of_kind, binary_type, builtin_or, after}
use Rattle.report_rules.specs.Seen.{Seen, seen_expr, seen_in}
use Rattle.report_rules.specs.Context.{Context, followed}
use Rattle.report_rules.specs.Checks.{ReportKind, Operand, type_of, operand_set, unary_set}
use Rattle.report_rules.specs.Errors.{ev, ev_in, unary_kinds, side_kinds, side_left}
use Rattle.report_rules.specs.Findings.{found}
use Rattle.report_rules.specs.Reports.{findings}
use Rattle.run_frame.specs.Analysis.{Analysis, is_loose}
use Rattle.run_frame.specs.Statements.{stats_of_expr}
use Rattle.run_frame.specs.Fit.{Fit}
use Rattle.run_frame.proofs.World.{World}
use Rattle.run_frame.proofs.Counts.{reached}
use Rattle.run_frame.proofs.Kept.{Doer, Kept}
use Rattle.run_frame.proofs.Fine.{Fine}
use Rattle.run_frame.proofs.Held.{Runs, runs_kept, Reads, Held, held_store, Violated, reads_after}
use Rattle.run_frame.proofs.Parts.{Ends, Same, ends_so, ends_then, ends_more, ends_gave, gave_then}
use Rattle.run_frame.proofs.Layers.{rules_of, seen_of, part_of, expr_of, Inside, Placed, Marked, IsKindName, Shows, Gives, Pays, Forward, Backward}
use Rattle.run_frame.proofs.Readings.{sub_tail, sub_left, sub_right}
use Rattle.run_frame.proofs.Names.{ends_one}
use Rattle.run_frame.proofs.Lists.{may_first, may_second, inside_left, inside_right, FirstOf}
use Rattle.run_frame.proofs.Passing.{violated_followed}
use Rattle.run_frame.proofs.Marks.{typed_at}
use Rattle.run_frame.proofs.Guards.{IsFirm, firm_subject}
use Rattle.run_frame.proofs.Forms.{one_gave, value_gave, Evaluated, evaluated, IsForm, form_read, form_forward, OneGives, one_gives, FormPays, form_backward, After, value_forward}
use Rattle.run_frame.proofs.ListsBack.{Check, by_set, operand_quiet, operand_safe}
use Rattle.run_frame.proofs.Operators.{ShowsEqual, BinGives, ends_binary, ShowsNot, UnGives, ends_unary, binary_typed, unary_typed, left_fails, right_fails, unary_fails}
use Rattle.run_frame.proofs.Equality.{IsConstant, constant_is, IsSubject, IsCompared, equality_shown}

-- ---- unary operators

unary_form : (op : UnOp) (e : Expr) → IsForm (Unary op e)
unary_form op e = record { nameless = refl; pathless = refl; no_local = λ rules id span. refl }

within_unary : (frame : Frame) (id : ℕ) (span : _) (op : UnOp) (e : Expr) → Inside frame (of_expr (the_expr id span (Unary op e))) (stats_of_expr (the_expr id span (Unary op e)))
    → Inside frame (of_expr e) (stats_of_expr e)
within_unary frame id span op e h = record { nodes = sub_tail (AnExpr (the_expr id span (Unary op e))) (of_expr e) (of_block frame.reading.block) h.nodes; stats = h.stats }

-- what `not` shows is what its operand does
shows_same : (frame : Frame) (s t : State) (x : ℕ) (type : Term) → Same s t → Shows frame s x type → Shows frame t x type
shows_same frame s t x type e (c, v, q, h) = subst (λ (y : Store). (d : ℕ) × (u : Value) × ((cell_of y.bindings frame.activation x ≡ Some d) × (slice_get y.cells d ≡ Some u)) × (holds y.heap u type ≡ true)) (sym e.0) (c, v, q, h)

not_not : (b : Bool) → not (not b) ≡ b
not_not true = refl
not_not false = refl

unary_shows : (an : Analysis) (frame : Frame) (map : TypeMap) (id : ℕ) (op : UnOp) (e : Expr) (vs : List Value) (v : Value) (t u : State) → Gives an frame map e vs t → Same t u
    → ShowsNot op (first vs) v → (x : ℕ) → is_loose an frame.module_at x ≡ false → (guard_of_kind (rules_of an frame) id (Unary op e) (is_true v) x ≡ unknown)
    ⊎ Shows frame u x (guard_of_kind (rules_of an frame) id (Unary op e) (is_true v) x)
unary_shows an frame map id Not e vs v t u g same k x firm = subst (λ (b : Bool). (guard (rules_of an frame) e b x ≡ unknown) ⊎ Shows frame u x (guard (rules_of an frame) e b x))
    (sym (ap (λ (y : Value). not (is_true y)) k ∙ not_not (is_true (first vs)))) (by_side (g.guard_shows x firm))
  where
    by_side : (guard (rules_of an frame) e (is_true (first vs)) x ≡ unknown) ⊎ Shows frame t x (guard (rules_of an frame) e (is_true (first vs)) x)
        → (guard (rules_of an frame) e (is_true (first vs)) x ≡ unknown) ⊎ Shows frame u x (guard (rules_of an frame) e (is_true (first vs)) x)
    by_side (inl y) = inl y
    by_side (inr y) = inr (shows_same frame t u x (guard (rules_of an frame) e (is_true (first vs)) x) same y)
unary_shows an frame map id Minus e vs v t u g same k x firm = inl refl
unary_shows an frame map id Length e vs v t u g same k x firm = inl refl

unary_gives : (an : Analysis) (frame : Frame) (map : TypeMap) (id : ℕ) (op : UnOp) (e : Expr) (vs : List Value) (v : Value) (t u : State) → Gives an frame map e vs t
    → UnGives t op (first vs) v u → OneGives an frame map id (Unary op e) v u
unary_gives an frame map id op e vs v t u g p = record {
  stands = subst (λ (y : Store). Stands y.heap v) (sym p.0.0.0) p.0.1;
  typed = unary_typed op (first vs) v (typ (rules_of an frame) map e) t.store.heap u.store.heap g.typed (λ k. p.0.2 k u.store.heap);
  guard_shows = unary_shows an frame map id op e vs v t u g p.0.0 p.1;
}

pub unary_forward : (an : Analysis) (l : Layer) → Fit an → Forward an l → (w : World) (s : State) (frame : Frame) (map : TypeMap) (id : ℕ) (span : _) (op : UnOp) (e : Expr) → Fine an w s
    → Runs an w s frame → Held an frame map s → Inside frame (of_expr (the_expr id span (Unary op e))) (stats_of_expr (the_expr id span (Unary op e)))
    → Placed an frame (seen_expr (rules_of an frame) map (the_expr id span (Unary op e)))
    → Ends an (expr_of an frame (the_expr id span (Unary op e))) w s (Gives an frame map (the_expr id span (Unary op e))) (values an.program l frame (the_expr id span (Unary op e)) s)
unfolding ◌>>=◌
unary_forward an l fit fwd w s frame map id span op e f r h inside placed =
    form_forward an l w s frame id span (Unary op e) (Gives an frame map (the_expr id span (Unary op e))) fit (unary_form op e) f r inside
    (λ t z g j same. ends_so an (expr_of an frame e) z t (λ vs u. (v : Value) × (vs ≡ v ∷ []) × OneGives an frame map id (Unary op e) v u) (Gives an frame map (the_expr id span (Unary op e)))
    (one (◌>>=◌ (value l frame e) (unary an.program op)) t)
    (λ vs u y q d k p. one_gives an frame map id span (Unary op e) vs u (unary_form op e) (λ rules. refl) (form_read an w s frame id span (Unary op e) fit (unary_form op e) r inside) p)
    (ends_one an (expr_of an frame e) z t (OneGives an frame map id (Unary op e)) (◌>>=◌ (value l frame e) (unary an.program op))
    (ends_then an (expr_of an frame e) z t (FirstOf (After an frame map e)) (OneGives an frame map id (Unary op e)) (value l frame e t) (unary an.program op)
    (value_forward an l fwd z t frame map e g j (held_store an s t frame map same h) (within_unary frame id span op e inside)
    (sub_tail _ (seen_expr (rules_of an frame) map e) (seen_of an frame) placed))
    (λ x u y d k p. ends_so an (expr_of an frame e) y u (UnGives u op x) (OneGives an frame map id (Unary op e)) (unary an.program op x u)
    (λ v m b n o i c. unary_gives an frame map id op e p.0 v u m p.2.0 (subst (λ (a : Value). UnGives u op a v m) p.1 c))
    (ends_unary an (expr_of an frame e) y u d op x)))))

pub unary_backward : (an : Analysis) (l : Layer) → Fit an → Forward an l → Backward an l → (w : World) (s : State) (frame : Frame) (map : TypeMap) (id : ℕ) (span : _) (op : UnOp) (e : Expr)
    (around : List ReportKind) → Fine an w s → Runs an w s frame → Held an frame map s → Inside frame (of_expr (the_expr id span (Unary op e))) (stats_of_expr (the_expr id span (Unary op e)))
    → Placed an frame (seen_expr (rules_of an frame) map (the_expr id span (Unary op e)))
    → Marked an frame (found (rules_of an frame) (seen_of an frame) around (the_expr id span (Unary op e)))
    → (vs : List Value) (u : State) → values an.program l frame (the_expr id span (Unary op e)) s ≡ Gave vs u → Pays an frame (the_expr id span (Unary op e)) s vs u
unfolding ◌>>=◌
unary_backward an l fit fwd bwd w s frame map id span op e around f r h inside placed marked vs u q =
    form_backward an l w s frame id span (Unary op e) vs u fit (unary_form op e) f r inside q (λ z m g j same k. by_one z m g j (held_store an s m frame map same h)
    (one_gave (◌>>=◌ (value l frame e) (unary an.program op)) m vs u k))
  where
    placed_in : Placed an frame (seen_expr (rules_of an frame) map e)
    placed_in = sub_tail _ (seen_expr (rules_of an frame) map e) (seen_of an frame) placed

    marked_in : Marked an frame (found (rules_of an frame) (seen_of an frame) (unary_kinds (seen_of an frame) op e) e)
    marked_in = sub_tail _ (found (rules_of an frame) (seen_of an frame) (unary_kinds (seen_of an frame) op e) e) _ marked

    by_one : (z : World) (m : State) → Fine an z m → Runs an z m frame → Held an frame map m → (v : Value) × (◌>>=◌ (value l frame e) (unary an.program op) m ≡ Gave v u) × (vs ≡ v ∷ [])
        → FormPays an frame id (Unary op e) m vs u
    by_one z m g j held p = by_value (gave_then (value l frame e m) (unary an.program op) p.0 u p.1)
      where
        by_value : (x : Value) × (t : State) × (value l frame e m ≡ Gave x t) × (unary an.program op x t ≡ Gave p.0 u) → FormPays an frame id (Unary op e) m vs u
        by_value y = by_operand (value_gave l frame e m y.0 y.1 y.2)
          where
            by_operand : (xs : List Value) × (l.values frame e m ≡ Gave xs y.1) × (y.0 ≡ first xs) → FormPays an frame id (Unary op e) m vs u
            by_operand b = by_evaluated (evaluated an l fwd bwd z m frame map e (unary_kinds (seen_of an frame) op e) g j held (within_unary frame id span op e inside) placed_in marked_in b.0 y.1 b.1)
              where
                outside : holds y.1.store.heap (first b.0) (unary_set op) ≡ true → ⊥
                outside n = unary_fails an.program op y.0 y.1.store.heap y.1 p.0 u (subst (λ (x : Value). holds y.1.store.heap x (unary_set op) ≡ true) (sym b.2) n) y.3

                by_evaluated : Evaluated an z m frame map e b.0 y.1 → FormPays an frame id (Unary op e) m vs u
                by_evaluated o = record {
                  context = λ type h. absurd (operand_safe an z m frame map e (by_set an frame e (unary_set op) (Operand (UnaryOp op))) b.0 y.1 fit j placed_in marked_in o.gives o.pays outside h);
                  count = ap (λ x. reached an frame.activation x)
                      (ends_gave an (expr_of an frame e) o.world y.1 (UnGives y.1 op y.0) (unary an.program op y.0 y.1) p.0 u y.3 (ends_unary an (expr_of an frame e) o.world y.1 o.fine op y.0)).3.0.0.1
                      ∙ operand_quiet an z m frame map e (by_set an frame e (unary_set op) (Operand (UnaryOp op))) b.0 y.1 fit j placed_in marked_in o.gives o.pays outside;
                  own = refl;
                }

-- ---- binary operators

-- what the guard of an operator is that evaluates both sides
abbrev pub both_guard : BinOp → (equal not_equal : Term) → Term
both_guard Equal equal not_equal = equal
both_guard NotEqual equal not_equal = not_equal
both_guard op equal not_equal = unknown

-- an operator evaluates both sides, whatever they are
pub record EvaluatesBoth (op : BinOp) : Type 0 where
  pub seen : (rules : Rules) (map : TypeMap) (left right : Expr) → seen_in rules map (Binary op left right) ≡ seen_expr rules map left ++ seen_expr rules (after rules map left) right
  pub typed : (rules : Rules) (map : TypeMap) (id : ℕ) (left right : Expr)
      → type_of_kind rules map id (Binary op left right) ≡ binary_type op (typ rules map left) (typ rules (after rules map left) right)
  pub asks : (rules : Rules) (seen : List Seen) (id : ℕ) (left right : Expr) (set : Term)
      → ev_in rules seen id (Binary op left right) set ≡ followed (ev rules seen left (side_left seen op left right)) (effects rules left) (ev rules seen right (side_left seen op right left))
  pub runs : (program : Program) (l : Layer) (frame : Frame) (v : Value) (right : Expr) → binary_rest program l frame op v right ≡ ◌>>=◌ (value l frame right) (binary program op v)
  pub guards : (truth : Bool) (left right equal not_equal : Term) → joined_guard op truth left right equal not_equal ≡ both_guard op equal not_equal

-- all operators but `and` and `or`
abbrev pub IsBoth : BinOp → Type 0
IsBoth Or = ⊥
IsBoth And = ⊥
IsBoth op = Unit {0}

evaluates_both : (op : BinOp) → IsBoth op → EvaluatesBoth op
evaluates_both Or h = absurd h
evaluates_both And h = absurd h
evaluates_both op h = record {
  seen = λ rules map left right. refl;
  typed = λ rules map id left right. refl;
  asks = λ rules seen id left right set. refl;
  runs = λ program l frame v right. refl;
  guards = λ truth left right equal not_equal. refl;
}

pub binary_form : (op : BinOp) (left right : Expr) → IsForm (Binary op left right)
binary_form op left right = record { nameless = refl; pathless = refl; no_local = λ rules id span. refl }

pub within_left : (frame : Frame) (id : ℕ) (span : _) (op : BinOp) (left right : Expr)
    → Inside frame (of_expr (the_expr id span (Binary op left right))) (stats_of_expr (the_expr id span (Binary op left right))) → Inside frame (of_expr left) (stats_of_expr left)
within_left frame id span op left right h = inside_left frame (of_expr left) (of_expr right) (stats_of_expr left) (stats_of_expr right)
    (record { nodes = sub_tail (AnExpr (the_expr id span (Binary op left right))) (of_expr left ++ of_expr right) (of_block frame.reading.block) h.nodes; stats = h.stats })

pub within_right : (frame : Frame) (id : ℕ) (span : _) (op : BinOp) (left right : Expr)
    → Inside frame (of_expr (the_expr id span (Binary op left right))) (stats_of_expr (the_expr id span (Binary op left right))) → Inside frame (of_expr right) (stats_of_expr right)
within_right frame id span op left right h = inside_right frame (of_expr left) (of_expr right) (stats_of_expr left) (stats_of_expr right)
    (record { nodes = sub_tail (AnExpr (the_expr id span (Binary op left right))) (of_expr left ++ of_expr right) (of_block frame.reading.block) h.nodes; stats = h.stats })

-- ---- what an equality says

firm_so : (rules : Rules) (o : Option ℕ) (x : ℕ) → firm_only rules o ≡ Some x → (o ≡ Some x) × (loose rules x ≡ false)
firm_so rules None x e = cc
firm_so rules (Some y) x e = by_loose (loose rules y) refl e
  where
    same : Some y ≡ Some x → y ≡ x
    same k = cc

    by_loose : (b : Bool) → loose rules y ≡ b → (if b then None else Some y) ≡ Some x → (Some y ≡ Some x) × (loose rules x ≡ false)
    by_loose true k z = cc
    by_loose false k z = (z, subst (λ (n : ℕ). loose rules n ≡ false) (same z) k)

firm_is : (rules : Rules) (o : Option ℕ) (x : ℕ) → IsFirm rules o → o ≡ Some x → loose rules x ≡ false
firm_is rules None x h e = cc
firm_is rules (Some y) x h e = subst (λ (n : ℕ). loose rules n ≡ false) (same e) h
  where
    same : Some y ≡ Some x → y ≡ x
    same k = cc

-- an operand that gave, and so on after another part that assigns and binds nothing
subject_of : (an : Analysis) (frame : Frame) (map : TypeMap) (e : Expr) (vs : List Value) (t : State) → Gives an frame map e vs t → IsSubject an frame t e (first vs)
subject_of an frame map e vs t g = (
  λ x k. g.local x (firm_so (rules_of an frame) (local_named (rules_of an frame) e) x k).0 (firm_so (rules_of an frame) (local_named (rules_of an frame) e) x k).1,
  λ x k. g.kind x k,
)

subject_kept : (an : Analysis) (w v : World) (s t : State) (frame : Frame) (b : Bool) (e : Expr) (a : Value) → Fine an w s → Runs an w s frame → Kept an (part_of frame b) w s v t
    → IsSubject an frame s e a → IsSubject an frame t e a
subject_kept an w v s t frame b e a f r k h = (
  λ x z. let p : (c : ℕ) × Reads frame s x c a = h.0 x z in
      (p.0, reads_after an (part_of frame b) w v s t frame f r k x p.0 a refl refl (firm_so (rules_of an frame) (local_named (rules_of an frame) e) x z).1 p.1),
  λ x z. let p : (c : ℕ) × (u : Value) × Reads frame s x c u × IsKindName u a = h.1 x z in
      (p.0, p.1, reads_after an (part_of frame b) w v s t frame f r k x p.0 p.1 refl refl (firm_is (rules_of an frame) (kind_subject (rules_of an frame) e) x (firm_subject (rules_of an frame) e) z) p.2, p.3),
)

subject_same : (an : Analysis) (s t : State) (frame : Frame) (e : Expr) (a : Value) → Same s t → IsSubject an frame s e a → IsSubject an frame t e a
subject_same an s t frame e a same h = (
  λ x z. let p : (c : ℕ) × Reads frame s x c a = h.0 x z in (p.0, subst (λ (y : Store). (cell_of y.bindings frame.activation x ≡ Some p.0) × (slice_get y.cells p.0 ≡ Some a)) (sym same.0) p.1),
  λ x z. let p : (c : ℕ) × (u : Value) × Reads frame s x c u × IsKindName u a = h.1 x z in
      (p.0, p.1, subst (λ (y : Store). (cell_of y.bindings frame.activation x ≡ Some p.0) × (slice_get y.cells p.0 ≡ Some p.1)) (sym same.0) p.2, p.3),
)

-- a constant that gave
constant_of : (an : Analysis) (w : World) (s : State) (frame : Frame) (map : TypeMap) (id : ℕ) (span : _) (kind : ExprKind) (vs : List Value) (t : State) → Fit an → Runs an w s frame
    → IsForm kind → Inside frame (of_expr (the_expr id span kind)) (stats_of_expr (the_expr id span kind)) → Gives an frame map (the_expr id span kind) vs t → IsConstant kind (first vs)
constant_of an w s frame map id span kind vs t fit r form inside g = constant_is (rules_of an frame) map id kind t.store.heap (first vs)
    (subst (λ (u : Option Use). holds t.store.heap (first vs) (builtin_or u (type_of_kind (rules_of an frame) map id kind)) ≡ true) (form_read an w s frame id span kind fit form r inside) g.typed)

compared_of : (an : Analysis) (w : World) (s : State) (frame : Frame) (map : TypeMap) (e : Expr) (vs : List Value) (t : State) → Fit an → Runs an w s frame
    → Inside frame (of_expr e) (stats_of_expr e) → Gives an frame map e vs t → IsCompared e (first vs)
compared_of an w s frame map (the_expr id span NilExpr) vs t fit r inside g =
    constant_of an w s frame map id span NilExpr vs t fit r (record { nameless = refl; pathless = refl; no_local = λ rules id span. refl }) inside g
compared_of an w s frame map (the_expr id span TrueExpr) vs t fit r inside g =
    constant_of an w s frame map id span TrueExpr vs t fit r (record { nameless = refl; pathless = refl; no_local = λ rules id span. refl }) inside g
compared_of an w s frame map (the_expr id span FalseExpr) vs t fit r inside g =
    constant_of an w s frame map id span FalseExpr vs t fit r (record { nameless = refl; pathless = refl; no_local = λ rules id span. refl }) inside g
compared_of an w s frame map (the_expr id span (StrExpr bytes)) vs t fit r inside g =
    constant_of an w s frame map id span (StrExpr bytes) vs t fit r (record { nameless = refl; pathless = refl; no_local = λ rules id span. refl }) inside g
compared_of an w s frame map (the_expr id span (NumberExpr text)) vs t fit r inside g =
    constant_of an w s frame map id span (NumberExpr text) vs t fit r (record { nameless = refl; pathless = refl; no_local = λ rules id span. refl }) inside g
compared_of an w s frame map (the_expr id span _) vs t fit r inside g = tt

both_shows : (an : Analysis) (frame : Frame) (t : State) (op : BinOp) (left right : Expr) (a b v : Value) → IsSubject an frame t left a → IsSubject an frame t right b
    → IsCompared left a → IsCompared right b → ShowsEqual op a b v → (x : ℕ)
    → (both_guard op (said (is_true v) x (equality (rules_of an frame) left right)) (said (not (is_true v)) x (equality (rules_of an frame) left right)) ≡ unknown)
    ⊎ Shows frame t x (both_guard op (said (is_true v) x (equality (rules_of an frame) left right)) (said (not (is_true v)) x (equality (rules_of an frame) left right)))
both_shows an frame t Equal left right a b v p q y z k x =
    subst (λ (c : Bool). (said c x (equality (rules_of an frame) left right) ≡ unknown) ⊎ Shows frame t x (said c x (equality (rules_of an frame) left right))) (sym (ap is_true k.1))
    (equality_shown an frame t left right a b k.0 p q y z k.2 x)
both_shows an frame t NotEqual left right a b v p q y z k x =
    subst (λ (c : Bool). (said c x (equality (rules_of an frame) left right) ≡ unknown) ⊎ Shows frame t x (said c x (equality (rules_of an frame) left right)))
    (sym (ap (λ (u : Value). not (is_true u)) k.1 ∙ not_not k.0))
    (equality_shown an frame t left right a b k.0 p q y z k.2 x)
both_shows an frame t op left right a b v p q y z k x = inl refl

-- ---- forward

both_gives : (an : Analysis) (frame : Frame) (map : TypeMap) (id : ℕ) (op : BinOp) (left right : Expr) (a b v : Value) (k h : Heap) (t u : State) → EvaluatesBoth op
    → holds k a (typ (rules_of an frame) map left) ≡ true → holds h b (typ (rules_of an frame) (after (rules_of an frame) map left) right) ≡ true
    → IsSubject an frame t left a → IsSubject an frame t right b → IsCompared left a → IsCompared right b → BinGives t op a b v u
    → OneGives an frame map id (Binary op left right) v u
both_gives an frame map id op left right a b v k h t u both typed_left typed_right subject_left subject_right compared_left compared_right p = record {
  stands = subst (λ (y : Store). Stands y.heap v) (sym p.0.0.0) p.0.1;
  typed = subst (λ (type : Term). holds u.store.heap v type ≡ true) (sym (both.typed (rules_of an frame) map id left right))
      (binary_typed op a b v (typ (rules_of an frame) map left) (typ (rules_of an frame) (after (rules_of an frame) map left) right) k h u.store.heap typed_left typed_right
      (λ n. p.0.2 n u.store.heap));
  guard_shows = λ x firm. subst (λ (type : Term). (type ≡ unknown) ⊎ Shows frame u x type)
      (sym (both.guards (is_true v) (guard (rules_of an frame) left (is_true v) x) (guard (rules_of an frame) right (is_true v) x)
      (said (is_true v) x (equality (rules_of an frame) left right)) (said (not (is_true v)) x (equality (rules_of an frame) left right))))
      (both_shows an frame u op left right a b v (subject_same an t u frame left a p.0.0 subject_left) (subject_same an t u frame right b p.0.0 subject_right) compared_left compared_right p.1 x);
}

placed_both : (an : Analysis) (frame : Frame) (map : TypeMap) (id : ℕ) (span : _) (op : BinOp) (left right : Expr) → EvaluatesBoth op
    → Placed an frame (seen_expr (rules_of an frame) map (the_expr id span (Binary op left right)))
    → Placed an frame (seen_expr (rules_of an frame) map left ++ seen_expr (rules_of an frame) (after (rules_of an frame) map left) right)
placed_both an frame map id span op left right both placed = subst (λ (seen : List Seen). Placed an frame seen) (both.seen (rules_of an frame) map left right)
    (sub_tail _ (seen_in (rules_of an frame) map (Binary op left right)) (seen_of an frame) placed)

pub binary_forward : (an : Analysis) (l : Layer) → Fit an → Forward an l → (w : World) (s : State) (frame : Frame) (map : TypeMap) (id : ℕ) (span : _) (op : BinOp) (left right : Expr)
    → IsBoth op → Fine an w s
    → Runs an w s frame → Held an frame map s → Inside frame (of_expr (the_expr id span (Binary op left right))) (stats_of_expr (the_expr id span (Binary op left right)))
    → Placed an frame (seen_expr (rules_of an frame) map (the_expr id span (Binary op left right)))
    → Ends an (expr_of an frame (the_expr id span (Binary op left right))) w s (Gives an frame map (the_expr id span (Binary op left right)))
    (values an.program l frame (the_expr id span (Binary op left right)) s)
unfolding ◌>>=◌
binary_forward an l fit fwd w s frame map id span op left right is_both f r h inside placed =
    form_forward an l w s frame id span (Binary op left right) (Gives an frame map (the_expr id span (Binary op left right))) fit (binary_form op left right) f r inside
    (λ t z g j same. ends_so an who z t (λ vs u. (v : Value) × (vs ≡ v ∷ []) × OneGives an frame map id (Binary op left right) v u) (Gives an frame map (the_expr id span (Binary op left right)))
    (one (◌>>=◌ (value l frame left) (λ v. binary_rest an.program l frame op v right)) t)
    (λ vs u y q d k p. one_gives an frame map id span (Binary op left right) vs u (binary_form op left right) (λ rules. refl)
    (form_read an w s frame id span (Binary op left right) fit (binary_form op left right) r inside) p)
    (ends_one an who z t (OneGives an frame map id (Binary op left right)) (◌>>=◌ (value l frame left) (λ v. binary_rest an.program l frame op v right))
    (ends_then an who z t (FirstOf (After an frame map left)) (OneGives an frame map id (Binary op left right)) (value l frame left t) (λ v. binary_rest an.program l frame op v right)
    (ends_more an (expr_of an frame left) who z t (FirstOf (After an frame map left)) (value l frame left t)
    (may_first frame (effects (rules_of an frame) left) (effects (rules_of an frame) right))
    (value_forward an l fwd z t frame map left g j (held_store an s t frame map same h) (within_left frame id span op left right inside)
    (sub_left _ (seen_expr (rules_of an frame) (after (rules_of an frame) map left) right) (seen_of an frame) (placed_both an frame map id span op left right both placed))))
    (λ a m v g k p. after_left a m v g (runs_kept an who z v t m frame k j) p))))
  where
    who : Doer
    who = part_of frame (effects (rules_of an frame) left || effects (rules_of an frame) right)

    both : EvaluatesBoth op
    both = evaluates_both op is_both

    after_left : (a : Value) (m : State) (v : World) → Fine an v m → Runs an v m frame → FirstOf (After an frame map left) a m
        → Ends an who v m (OneGives an frame map id (Binary op left right)) (binary_rest an.program l frame op a right m)
    after_left a m v g j p = subst (λ (part : Part Value). Ends an who v m (OneGives an frame map id (Binary op left right)) (part m)) (sym (both.runs an.program l frame a right))
        (ends_then an who v m (FirstOf (After an frame (after (rules_of an frame) map left) right)) (OneGives an frame map id (Binary op left right)) (value l frame right m) (binary an.program op a)
        (ends_more an (expr_of an frame right) who v m (FirstOf (After an frame (after (rules_of an frame) map left) right)) (value l frame right m)
        (may_second frame (effects (rules_of an frame) left) (effects (rules_of an frame) right))
        (value_forward an l fwd v m frame (after (rules_of an frame) map left) right g j p.2.1 (within_right frame id span op left right inside)
        (sub_right (seen_expr (rules_of an frame) map left) _ (seen_of an frame) (placed_both an frame map id span op left right both placed))))
        (λ b n y d k q. ends_so an who y n (BinGives n op a b) (OneGives an frame map id (Binary op left right)) (binary an.program op a b n)
        (λ x u i e c o z. both_gives an frame map id op left right a b x m.store.heap n.store.heap n u both
        (subst (λ (c : Value). holds m.store.heap c (typ (rules_of an frame) map left) ≡ true) (sym p.1) p.2.0.typed)
        (subst (λ (c : Value). holds n.store.heap c (typ (rules_of an frame) (after (rules_of an frame) map left) right) ≡ true) (sym q.1) q.2.0.typed)
        (subject_kept an v y m n frame (effects (rules_of an frame) left || effects (rules_of an frame) right) left a g j k
        (subst (λ (c : Value). IsSubject an frame m left c) (sym p.1) (subject_of an frame map left p.0 m p.2.0)))
        (subst (λ (c : Value). IsSubject an frame n right c) (sym q.1) (subject_of an frame (after (rules_of an frame) map left) right q.0 n q.2.0))
        (subst (λ (c : Value). IsCompared left c) (sym p.1) (compared_of an v m frame map left p.0 m fit j (within_left frame id span op left right inside) p.2.0))
        (subst (λ (c : Value). IsCompared right c) (sym q.1)
        (compared_of an v m frame (after (rules_of an frame) map left) right q.0 n fit j (within_right frame id span op left right inside) q.2.0))
        z)
        (ends_binary an who y n d op a b)))

-- ---- backward

-- the sides and the operation of what gave
sides_gave : (program : Program) (l : Layer) (frame : Frame) (op : BinOp) (left right : Expr) (m : State) (vs : List Value) (u : State) → EvaluatesBoth op
    → one (◌>>=◌ (value l frame left) (λ v. binary_rest program l frame op v right)) m ≡ Gave vs u
    → (xs : List Value) × (t : State) × (ys : List Value) × (n : State) × (v : Value) × (l.values frame left m ≡ Gave xs t) × (l.values frame right t ≡ Gave ys n)
    × (binary program op (first xs) (first ys) n ≡ Gave v u) × (vs ≡ v ∷ [])
unfolding ◌>>=◌
sides_gave program l frame op left right m vs u both q = by_one (one_gave (◌>>=◌ (value l frame left) (λ v. binary_rest program l frame op v right)) m vs u q)
  where
    Parts : Type 0
    Parts = (xs : List Value) × (t : State) × (ys : List Value) × (n : State) × (v : Value) × (l.values frame left m ≡ Gave xs t) × (l.values frame right t ≡ Gave ys n)
        × (binary program op (first xs) (first ys) n ≡ Gave v u) × (vs ≡ v ∷ [])

    by_one : (v : Value) × (◌>>=◌ (value l frame left) (λ v. binary_rest program l frame op v right) m ≡ Gave v u) × (vs ≡ v ∷ []) → Parts
    by_one p = by_left (gave_then (value l frame left m) (λ v. binary_rest program l frame op v right) p.0 u p.1)
      where
        by_left : (a : Value) × (t : State) × (value l frame left m ≡ Gave a t) × (binary_rest program l frame op a right t ≡ Gave p.0 u) → Parts
        by_left y = by_right (gave_then (value l frame right y.1) (binary program op y.0) p.0 u
            (subst (λ (part : Part Value). part y.1 ≡ Gave p.0 u) (both.runs program l frame y.0 right) y.3))
          where
            by_right : (b : Value) × (n : State) × (value l frame right y.1 ≡ Gave b n) × (binary program op y.0 b n ≡ Gave p.0 u) → Parts
            by_right x =
                let one_left : (xs : List Value) × (l.values frame left m ≡ Gave xs y.1) × (y.0 ≡ first xs) = value_gave l frame left m y.0 y.1 y.2 in
                let one_right : (ys : List Value) × (l.values frame right y.1 ≡ Gave ys x.1) × (x.0 ≡ first ys) = value_gave l frame right y.1 x.0 x.1 x.2 in (
                  one_left.0,
                  y.1,
                  one_right.0,
                  x.1,
                  p.0,
                  one_left.1,
                  one_right.1,
                  subst (λ (b : Value). binary program op (first one_left.0) b x.1 ≡ Gave p.0 u) one_right.2
                      (subst (λ (a : Value). binary program op a x.0 x.1 ≡ Gave p.0 u) one_left.2 x.3),
                  p.2,
                )

pub binary_backward : (an : Analysis) (l : Layer) → Fit an → Forward an l → Backward an l → (w : World) (s : State) (frame : Frame) (map : TypeMap) (id : ℕ) (span : _) (op : BinOp)
    (left right : Expr) (around : List ReportKind) → IsBoth op → Fine an w s → Runs an w s frame → Held an frame map s
    → Inside frame (of_expr (the_expr id span (Binary op left right))) (stats_of_expr (the_expr id span (Binary op left right)))
    → Placed an frame (seen_expr (rules_of an frame) map (the_expr id span (Binary op left right)))
    → Marked an frame (found (rules_of an frame) (seen_of an frame) around (the_expr id span (Binary op left right)))
    → (vs : List Value) (u : State) → values an.program l frame (the_expr id span (Binary op left right)) s ≡ Gave vs u → Pays an frame (the_expr id span (Binary op left right)) s vs u
binary_backward an l fit fwd bwd w s frame map id span op left right around is_both f r h inside placed marked vs u q =
    form_backward an l w s frame id span (Binary op left right) vs u fit (binary_form op left right) f r inside q
    (λ z m g j same k. by_sides z m g j (held_store an s m frame map same h) (sides_gave an.program l frame op left right m vs u both k))
  where
    both : EvaluatesBoth op
    both = evaluates_both op is_both

    placed_left : Placed an frame (seen_expr (rules_of an frame) map left)
    placed_left = sub_left (seen_expr (rules_of an frame) map left) (seen_expr (rules_of an frame) (after (rules_of an frame) map left) right) (seen_of an frame)
        (placed_both an frame map id span op left right both placed)

    placed_right : Placed an frame (seen_expr (rules_of an frame) (after (rules_of an frame) map left) right)
    placed_right = sub_right (seen_expr (rules_of an frame) map left) (seen_expr (rules_of an frame) (after (rules_of an frame) map left) right) (seen_of an frame)
        (placed_both an frame map id span op left right both placed)

    marked_left : Marked an frame (found (rules_of an frame) (seen_of an frame) (side_kinds (seen_of an frame) op left right) left)
    marked_left = sub_left (found (rules_of an frame) (seen_of an frame) (side_kinds (seen_of an frame) op left right) left)
        (found (rules_of an frame) (seen_of an frame) (side_kinds (seen_of an frame) op right left) right) (findings (rules_of an frame)) (sub_tail _ _ _ marked)

    marked_right : Marked an frame (found (rules_of an frame) (seen_of an frame) (side_kinds (seen_of an frame) op right left) right)
    marked_right = sub_right (found (rules_of an frame) (seen_of an frame) (side_kinds (seen_of an frame) op left right) left)
        (found (rules_of an frame) (seen_of an frame) (side_kinds (seen_of an frame) op right left) right) (findings (rules_of an frame)) (sub_tail _ _ _ marked)

    check_left : Check an frame left
    check_left = by_set an frame left (operand_set op (type_of (seen_of an frame) right)) (Operand (BinaryOp op))

    check_right : Check an frame right
    check_right = by_set an frame right (operand_set op (type_of (seen_of an frame) left)) (Operand (BinaryOp op))

    by_sides : (z : World) (m : State) → Fine an z m → Runs an z m frame → Held an frame map m
        → (xs : List Value) × (t : State) × (ys : List Value) × (n : State) × (v : Value) × (l.values frame left m ≡ Gave xs t) × (l.values frame right t ≡ Gave ys n)
        × (binary an.program op (first xs) (first ys) n ≡ Gave v u) × (vs ≡ v ∷ []) → FormPays an frame id (Binary op left right) m vs u
    by_sides z m g j held (xs, t, ys, n, v, gave_left, gave_right, gave, e) =
        by_left (evaluated an l fwd bwd z m frame map left (side_kinds (seen_of an frame) op left right) g j held (within_left frame id span op left right inside) placed_left marked_left xs t gave_left)
      where
        by_left : Evaluated an z m frame map left xs t → FormPays an frame id (Binary op left right) m vs u
        by_left o = by_right (evaluated an l fwd bwd o.world t frame (after (rules_of an frame) map left) right (side_kinds (seen_of an frame) op right left) o.fine o.runs o.held
            (within_right frame id span op left right inside) placed_right marked_right ys n gave_right)
          where
            by_right : Evaluated an o.world t frame (after (rules_of an frame) map left) right ys n → FormPays an frame id (Binary op left right) m vs u
            by_right i = record {
              context = λ type y. absurd (safe (subst (λ (context : Context). Violated an frame context m) (both.asks (rules_of an frame) (seen_of an frame) id left right type) y));
              count = ap (λ x. reached an frame.activation x)
                  (ends_gave an (expr_of an frame right) i.world n (BinGives n op (first xs) (first ys)) (binary an.program op (first xs) (first ys) n) v u gave
                  (ends_binary an (expr_of an frame right) i.world n i.fine op (first xs) (first ys))).3.0.0.1
                  ∙ (operand_quiet an o.world t frame (after (rules_of an frame) map left) right check_right ys n fit o.runs placed_right marked_right i.gives i.pays no_right
                  ∙ operand_quiet an z m frame map left check_left xs t fit j placed_left marked_left o.gives o.pays no_left);
              own = refl;
            }
              where
                no_left : holds t.store.heap (first xs) (operand_set op (type_of (seen_of an frame) right)) ≡ true → ⊥
                no_left y = left_fails an.program op (first xs) (first ys) t.store.heap n.store.heap (type_of (seen_of an frame) right) n v u y
                    (subst (λ (type : Term). holds n.store.heap (first ys) type ≡ true) (sym (typed_at an o.world t frame (after (rules_of an frame) map left) right fit o.runs placed_right)) i.gives.typed) gave

                no_right : holds n.store.heap (first ys) (operand_set op (type_of (seen_of an frame) left)) ≡ true → ⊥
                no_right y = right_fails an.program op (first xs) (first ys) n.store.heap t.store.heap (type_of (seen_of an frame) left) n v u y
                    (subst (λ (type : Term). holds t.store.heap (first xs) type ≡ true) (sym (typed_at an z m frame map left fit j placed_left)) o.gives.typed) gave

                safe : Violated an frame (followed (ev (rules_of an frame) (seen_of an frame) left (side_left (seen_of an frame) op left right)) (effects (rules_of an frame) left)
                    (ev (rules_of an frame) (seen_of an frame) right (side_left (seen_of an frame) op right left))) m → ⊥
                safe y = by_side (violated_followed an z o.world m t frame (ev (rules_of an frame) (seen_of an frame) left (side_left (seen_of an frame) op left right))
                    (ev (rules_of an frame) (seen_of an frame) right (side_left (seen_of an frame) op right left)) (effects (rules_of an frame) left) g j o.kept y)
                  where
                    by_side : Violated an frame (ev (rules_of an frame) (seen_of an frame) left (side_left (seen_of an frame) op left right)) m
                        ⊎ Violated an frame (ev (rules_of an frame) (seen_of an frame) right (side_left (seen_of an frame) op right left)) t → ⊥
                    by_side (inl x) = operand_safe an z m frame map left check_left xs t fit j placed_left marked_left o.gives o.pays no_left x
                    by_side (inr x) = operand_safe an o.world t frame (after (rules_of an frame) map left) right check_right ys n fit o.runs placed_right marked_right i.gives i.pays no_right x
