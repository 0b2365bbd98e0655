-- Function literals, forward and backward.
use Rattle.std.proofs.Common.{◌≡◌, ℕ, true, List, [], ◌∷◌, ◌++◌, Option, Some, None, inl, refl, sym, ◌∙◌, ap, subst, Contains}
use Rattle.std.specs.List.{AllByRecursion}
use Rattle.luau_values.specs.Value.{Value, Lit}
use Rattle.luau_values.specs.Heap.{Heap}
use Rattle.luau_values.specs.Stands.{Stands}
use Rattle.luau_tree.specs.Tree.{the_expr, FunctionExpr, Body, the_body}
use Rattle.luau_run.specs.ReadModule.{Use, ReadModule}
use Rattle.luau_run.specs.SyntaxNode.{AnExpr, ABody, of_block, of_binds, of_body, of_expr}
use Rattle.luau_run.specs.Machine.{State, Gave, ◌>>=◌, give}
use Rattle.luau_run.specs.Layer.{Frame, Layer}
use Rattle.luau_run.specs.Expressions.{number_of, make_closure, values, evaluate_or_builtin}
use Rattle.type_arena.specs.Term.{Term}
use Rattle.type_normal.specs.Holds.{holds}
use Rattle.type_normal.proofs.Public.{literal_is_in}
use Rattle.report_rules.specs.Rules.{fixed_use}
use Rattle.report_rules.specs.TypeMap.{TypeMap}
use Rattle.report_rules.specs.Forward.{literal_type, builtin_or}
use Rattle.report_rules.specs.Seen.{seen_expr, seen_body}
use Rattle.report_rules.specs.Context.{none}
use Rattle.report_rules.specs.Errors.{ev, unless_builtin}
use Rattle.run_frame.specs.Analysis.{Analysis, is_caught}
use Rattle.run_frame.specs.Statements.{stats_of_expr, stats_of_body}
use Rattle.run_frame.specs.Fit.{IsFitNode, Fit}
use Rattle.run_frame.proofs.World.{World}
use Rattle.run_frame.proofs.Counts.{reached}
use Rattle.run_frame.proofs.Kept.{Doer}
use Rattle.run_frame.proofs.Fine.{Fine}
use Rattle.run_frame.proofs.Held.{Runs, runs_kept, Held, held_store, Violated}
use Rattle.run_frame.proofs.Parts.{Ends, ends_then, ends_so, ends_give, ends_gave}
use Rattle.run_frame.proofs.Closures.{LeavesAll, Belongs, IsLiteral, ends_closure}
use Rattle.run_frame.proofs.Layers.{rules_of, seen_of, expr_of, Inside, Placed, Gives, Pays}
use Rattle.run_frame.proofs.Readings.{contains_head, sub_tail, all_contained, fits, reads_same, means, no_use}
use Rattle.run_frame.proofs.Expressions.{Opened, ends_values, values_gave}
use Rattle.run_frame.proofs.Passing.{none_violated}
use Rattle.body_runs.proofs.FoundBodies.{found_whole}

-- ---- bodies that stand in the module

-- a body that stands in the frame's module belongs to it
pub body_belongs : (an : Analysis) (w : World) (s : State) (frame : Frame) (map : TypeMap) (code : Body) → Fit an → Runs an w s frame → Inside frame (of_body code) (stats_of_body code)
    → Placed an frame (seen_body (rules_of an frame) map code) → Belongs an frame map code
body_belongs an w s frame map (the_body id has_self generics params vararg result block span) fit r inside placed = record {
  inside = inside.nodes;
  statements = inside.stats;
  placed = placed;
  marked = found_whole (rules_of an frame) (seen_of an frame) (rules_of an frame).reading.block none none none (the_body id has_self generics params vararg result block span)
      (subst (λ (x : ReadModule). Contains (of_block x.block) (ABody (the_body id has_self generics params vararg result block span))) (sym same) there);
  caught = subst (λ (x : ReadModule). AllByRecursion (λ y. is_caught an frame.module_at y ≡ true) (x.captured id)) same fits_body.0;
}
  where
    same : (rules_of an frame).reading ≡ frame.reading
    same = reads_same an w s frame fit r

    there : Contains (of_block frame.reading.block) (ABody (the_body id has_self generics params vararg result block span))
    there = inside.nodes (ABody (the_body id has_self generics params vararg result block span)) (contains_head (ABody (the_body id has_self generics params vararg result block span)) (of_binds params ++ of_block block))

    fits_body : IsFitNode an (rules_of an frame) (ABody (the_body id has_self generics params vararg result block span))
    fits_body = all_contained (IsFitNode an (rules_of an frame)) (of_block frame.reading.block) (ABody (the_body id has_self generics params vararg result block span)) (fits an w s frame fit r).nodes there

-- ---- literals

-- a literal gives its closure, and changes nothing else
abbrev LiteralGives : Frame → Body → State → List Value → State → Type 0
LiteralGives frame code s vs t = (v : Value) × (vs ≡ v ∷ []) × (IsLiteral frame code v × LeavesAll s t)

none_some : {A : Type 0} (o : Option A) (x : A) → o ≡ None → o ≡ Some x → ⊥
none_some o x p q = cc

-- the closure is of the literal's type
pub literal_typed : (an : Analysis) (frame : Frame) (code : Body) (v : Value) (heap : Heap) → (rules_of an frame).reading ≡ frame.reading → IsLiteral frame code v
    → holds heap v (literal_type (rules_of an frame) code) ≡ true
literal_typed an frame code v heap same (cells, e) = subst (λ (x : Value). holds heap x (literal_type (rules_of an frame) code) ≡ true)
    (ap (λ (x : ReadModule). Lit x.home (number_of code) cells) same ∙ sym e) (literal_is_in heap (rules_of an frame).reading.home (number_of code) cells)

pub literal_stands : (frame : Frame) (code : Body) (v : Value) (heap : Heap) → IsLiteral frame code v → Stands heap v
literal_stands frame code v heap (cells, e) = subst (λ (x : Value). Stands heap x) (sym e) tt

module _ (an : Analysis) (l : Layer) (fit : Fit an) (w : World) (s : State) (frame : Frame) (map : TypeMap) (id : ℕ) (span : _) (code : Body) (f : Fine an w s) (r : Runs an w s frame)
    (h : Held an frame map s) (inside : Inside frame (of_expr (the_expr id span (FunctionExpr code))) (stats_of_expr (the_expr id span (FunctionExpr code))))
    (placed : Placed an frame (seen_expr (rules_of an frame) map (the_expr id span (FunctionExpr code)))) where
  -- it stands for nothing
  unused : frame.reading.use_of id ≡ None
  unused = no_use an.program (FunctionExpr code) (frame.reading.use_of id) refl refl
      (means an w s frame id span (FunctionExpr code) fit r (inside.nodes (AnExpr (the_expr id span (FunctionExpr code))) (contains_head (AnExpr (the_expr id span (FunctionExpr code))) (of_body code))))

  unused_too : (rules_of an frame).reading.use_of id ≡ None
  unused_too = ap (λ (x : ReadModule). x.use_of id) (reads_same an w s frame fit r) ∙ unused

  belongs : Belongs an frame map code
  belongs = body_belongs an w s frame map code fit r (record { nodes = sub_tail (AnExpr (the_expr id span (FunctionExpr code))) (of_body code) (of_block frame.reading.block) inside.nodes; stats = inside.stats })
      (sub_tail _ (seen_body (rules_of an frame) map code) (seen_of an frame) placed)

  ends_literal : (who : Doer) (z : World) (t : State) → Fine an z t → Runs an z t frame → Held an frame map t
      → Ends an who z t (LiteralGives frame code t) (evaluate_or_builtin an.program l frame id (FunctionExpr code) (frame.reading.use_of id) t)
  unfolding ◌>>=◌
  ends_literal who z t g k q = subst (λ (u : Option Use). Ends an who z t (LiteralGives frame code t) (evaluate_or_builtin an.program l frame id (FunctionExpr code) u t)) (sym unused)
      (ends_then an who z t (λ v u. IsLiteral frame code v × LeavesAll t u) (LiteralGives frame code t) (make_closure frame code t) (λ v. give (v ∷ []))
      (ends_closure an who z t frame map code g k q belongs)
      (λ v u y d j p. ends_give an who y u (LiteralGives frame code t) (v ∷ []) d (v, refl, p)))

  gives : (u : State) (v : Value) → IsLiteral frame code v → Gives an frame map (the_expr id span (FunctionExpr code)) (v ∷ []) u
  gives u v p = record {
    stand = (literal_stands frame code v u.store.heap p, tt);
    typed = subst (λ (x : Option Use). holds u.store.heap v (builtin_or x (literal_type (rules_of an frame) code)) ≡ true) (sym unused_too)
        (literal_typed an frame code v u.store.heap (reads_same an w s frame fit r) p);
    one = λ k. (v, refl);
    fixed = λ path k. absurd (none_some (fixed_use (rules_of an frame) ((rules_of an frame).reading.use_of id)) path (ap (fixed_use (rules_of an frame)) unused_too) k);
    local = λ x k firm. absurd (none_some None x refl k);
    guard_shows = λ x firm. inl refl;
    kind = λ x k. absurd (none_some None x refl k);
  }

  pub literal_forward : Ends an (expr_of an frame (the_expr id span (FunctionExpr code))) w s (Gives an frame map (the_expr id span (FunctionExpr code))) (values an.program l frame (the_expr id span (FunctionExpr code)) s)
  literal_forward = ends_values an an.program l (expr_of an frame (the_expr id span (FunctionExpr code))) w s frame id span (FunctionExpr code) (Gives an frame map (the_expr id span (FunctionExpr code))) f r refl
      (λ t z g k e. ends_so an (expr_of an frame (the_expr id span (FunctionExpr code))) z t (LiteralGives frame code t) (Gives an frame map (the_expr id span (FunctionExpr code)))
      (evaluate_or_builtin an.program l frame id (FunctionExpr code) (frame.reading.use_of id) t)
      (λ vs u y q d j p. subst (λ (xs : List Value). Gives an frame map (the_expr id span (FunctionExpr code)) xs u) (sym p.1) (gives u p.0 p.2.0))
      (ends_literal (expr_of an frame (the_expr id span (FunctionExpr code))) z t g (runs_kept an (expr_of an frame (the_expr id span (FunctionExpr code))) w z s t frame k r) (held_store an s t frame map e h)))

  pub literal_backward : (vs : List Value) (u : State) → values an.program l frame (the_expr id span (FunctionExpr code)) s ≡ Gave vs u → Pays an frame (the_expr id span (FunctionExpr code)) s vs u
  literal_backward vs u e = record {
    context = λ type y. absurd (none_violated an frame s (nothing type y));
    reports = ap (λ trace. reached an frame.activation trace) at_end ∙ o.opened.1;
    own = refl;
  }
    where
      nothing : (type : Term) → Violated an frame (ev (rules_of an frame) (seen_of an frame) (the_expr id span (FunctionExpr code)) type) s → Violated an frame none s
      nothing type y = subst (λ (x : Option Use). Violated an frame (unless_builtin x none) s) unused_too y

      o : Opened an an.program l (expr_of an frame (the_expr id span (FunctionExpr code))) w s frame id (FunctionExpr code) vs u
      o = values_gave an an.program l (expr_of an frame (the_expr id span (FunctionExpr code))) w s frame id span (FunctionExpr code) vs u f r refl e

      made : LiteralGives frame code o.at vs u
      made = (ends_gave an (expr_of an frame (the_expr id span (FunctionExpr code))) o.world o.at (LiteralGives frame code o.at)
          (evaluate_or_builtin an.program l frame id (FunctionExpr code) (frame.reading.use_of id) o.at) vs u o.gave
          (ends_literal (expr_of an frame (the_expr id span (FunctionExpr code))) o.world o.at o.fine
          (runs_kept an (expr_of an frame (the_expr id span (FunctionExpr code))) w o.world s o.at frame o.kept r) (held_store an s o.at frame map o.opened.0 h))).3

      at_end : u.trace ≡ o.at.trace
      at_end = made.2.1.4
