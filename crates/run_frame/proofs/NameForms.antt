-- A name as an expression, forward and backward.
use Rattle.std.proofs.Common.{◌≡◌, ℕ, ◌<◌, true, List, [], ◌∷◌, length, Option, Some, None, refl, sym, ◌∙◌, ap, subst, slice_get}
use Rattle.luau_values.specs.Value.{Value, Tab, Builtin}
use Rattle.luau_values.specs.Stands.{Stands}
use Rattle.luau_tree.specs.Tree.{the_expr, NameExpr}
use Rattle.luau_run.specs.ReadModule.{Use, UseLocal, UseBuiltin, UseLibrary, UseGlobal, ReadModule}
use Rattle.luau_run.specs.Machine.{Store, State, Gave}
use Rattle.luau_run.specs.Layer.{Frame, Layer, first}
use Rattle.luau_run.specs.Expressions.{cell_of, values, named, evaluate_or_builtin}
use Rattle.type_normal.specs.Holds.{holds}
use Rattle.report_rules.specs.TypeMap.{TypeMap}
use Rattle.run_frame.specs.Analysis.{Analysis}
use Rattle.run_frame.specs.Fit.{Fit}
use Rattle.run_frame.proofs.World.{World}
use Rattle.run_frame.proofs.Counts.{reached}
use Rattle.run_frame.proofs.Kept.{Doer}
use Rattle.run_frame.proofs.Fine.{Fine}
use Rattle.run_frame.proofs.Held.{Runs, runs_kept, Held, held_store}
use Rattle.run_frame.proofs.Parts.{Ends, Same, ends_so, ends_give, ends_gave}
use Rattle.run_frame.proofs.Layers.{rules_of, expr_of, Gives, Pays}
use Rattle.run_frame.proofs.Readings.{reads_same}
use Rattle.run_frame.proofs.Expressions.{Opened, ends_values, values_gave}
use Rattle.run_frame.proofs.Names.{IsNamed, ends_one, ends_named, named_stands, named_typed, named_fixed, named_local, named_guard, named_context}

-- a name gives one value, of what it stands for
abbrev pub NameGives : Frame → State → Option Use → List Value → State → Type 0
NameGives frame s use_here vs t = (v : Value) × (vs ≡ v ∷ []) × (Same s t × IsNamed frame s use_here v)

-- a name that is a builtin's path is evaluated whole, with the same value
ends_name : (an : Analysis) (l : Layer) (who : Doer) (w : World) (s : State) (frame : Frame) (id : ℕ) (name : List ℕ) → Fine an w s
    → Ends an who w s (NameGives frame s (frame.reading.use_of id)) (evaluate_or_builtin an.program l frame id (NameExpr name) (frame.reading.use_of id) s)
ends_name an l who w s frame id name f = by_use (frame.reading.use_of id) refl
  where
    by_use : (u : Option Use) → frame.reading.use_of id ≡ u
        → Ends an who w s (NameGives frame s (frame.reading.use_of id)) (evaluate_or_builtin an.program l frame id (NameExpr name) u s)
    by_use (Some (UseBuiltin path)) e = ends_give an who w s (NameGives frame s (frame.reading.use_of id)) (Builtin path ∷ []) f
        (Builtin path, refl, ((refl, refl), subst (λ (u : Option Use). IsNamed frame s u (Builtin path)) (sym e) refl))
    by_use (Some (UseLocal x)) e = ends_one an who w s (λ v t. Same s t × IsNamed frame s (frame.reading.use_of id) v) (named an.program frame name (frame.reading.use_of id))
        (ends_named an who w s frame name (frame.reading.use_of id) f)
    by_use (Some UseLibrary) e = ends_one an who w s (λ v t. Same s t × IsNamed frame s (frame.reading.use_of id) v) (named an.program frame name (frame.reading.use_of id))
        (ends_named an who w s frame name (frame.reading.use_of id) f)
    by_use (Some UseGlobal) e = ends_one an who w s (λ v t. Same s t × IsNamed frame s (frame.reading.use_of id) v) (named an.program frame name (frame.reading.use_of id))
        (ends_named an who w s frame name (frame.reading.use_of id) f)
    by_use None e = ends_one an who w s (λ v t. Same s t × IsNamed frame s (frame.reading.use_of id) v) (named an.program frame name (frame.reading.use_of id))
        (ends_named an who w s frame name (frame.reading.use_of id) f)

-- a name stands for the same in a state with the same store
named_same : (frame : Frame) (s t : State) (use_here : Option Use) (v : Value) → t.store ≡ s.store → IsNamed frame s use_here v → IsNamed frame t use_here v
named_same frame s t (Some (UseLocal x)) v e q =
    subst (λ (b : Store). (c : ℕ) × ((cell_of b.bindings frame.activation x ≡ Some c) × (slice_get b.cells c ≡ Some v))) (sym e) q
named_same frame s t (Some (UseBuiltin path)) v e q = q
named_same frame s t (Some UseLibrary) v e q = subst (λ (b : Store). (a : ℕ) × (v ≡ Tab a) × (a < length b.heap)) (sym e) q
named_same frame s t (Some UseGlobal) v e q = subst (λ (b : Store). Stands b.heap v) (sym e) q
named_same frame s t None v e q = absurd q

none_some : {A : Type 0} (x : A) → None ≡ Some x → ⊥
none_some x p = cc

one_named : (an : Analysis) (w : World) (t : State) (frame : Frame) (map : TypeMap) (id : ℕ) (span : _) (name : List ℕ) (v : Value) → Fine an w t → Runs an w t frame → Held an frame map t
    → IsNamed frame t ((rules_of an frame).reading.use_of id) v → Gives an frame map (the_expr id span (NameExpr name)) (v ∷ []) t
one_named an w t frame map id span name v f r h q = record {
  stand = (named_stands an w t frame ((rules_of an frame).reading.use_of id) v f q, tt);
  typed = named_typed an t frame map ((rules_of an frame).reading.use_of id) v h q;
  one = λ k. (v, refl);
  fixed = λ path k. ap (λ (x : Value). x ∷ []) (named_fixed an w t frame ((rules_of an frame).reading.use_of id) v path f r q k);
  local = λ x k firm. named_local frame t ((rules_of an frame).reading.use_of id) v x q k;
  guard_shows = λ x firm. named_guard an frame t ((rules_of an frame).reading.use_of id) v x q;
  kind = λ x k. absurd (none_some x k);
}

pub name_forward : (an : Analysis) (l : Layer) (w : World) (s : State) (frame : Frame) (map : TypeMap) (id : ℕ) (span : _) (name : List ℕ) → Fit an → Fine an w s
    → Runs an w s frame → Held an frame map s
    → Ends an (expr_of an frame (the_expr id span (NameExpr name))) w s (Gives an frame map (the_expr id span (NameExpr name))) (values an.program l frame (the_expr id span (NameExpr name)) s)
name_forward an l w s frame map id span name fit f r h =
    ends_values an an.program l (expr_of an frame (the_expr id span (NameExpr name))) w s frame id span (NameExpr name) (Gives an frame map (the_expr id span (NameExpr name))) f r refl
    (λ t z g k e. ends_so an (expr_of an frame (the_expr id span (NameExpr name))) z t (NameGives frame t (frame.reading.use_of id)) (Gives an frame map (the_expr id span (NameExpr name)))
    (evaluate_or_builtin an.program l frame id (NameExpr name) (frame.reading.use_of id) t)
    (λ vs u y gave d j q. gives vs u y d (runs_kept an (expr_of an frame (the_expr id span (NameExpr name))) z y t u frame j (runs_kept an (expr_of an frame (the_expr id span (NameExpr name))) w z s t frame k r))
    (q.2.0.0 ∙ e) q.0 q.1 (named_same frame t u (frame.reading.use_of id) q.0 q.2.0.0 q.2.1))
    (ends_name an l (expr_of an frame (the_expr id span (NameExpr name))) z t frame id name g))
  where
    gives : (vs : List Value) (u : State) (y : World) → Fine an y u → Runs an y u frame → u.store ≡ s.store → (v : Value) → vs ≡ v ∷ [] → IsNamed frame u (frame.reading.use_of id) v
        → Gives an frame map (the_expr id span (NameExpr name)) vs u
    gives vs u y d ru same v e q = subst (λ (xs : List Value). Gives an frame map (the_expr id span (NameExpr name)) xs u) (sym e)
        (one_named an y u frame map id span name v d ru (held_store an s u frame map same h)
        (subst (λ (x : Option Use). IsNamed frame u x v) (sym (ap (λ (x : ReadModule). x.use_of id) (reads_same an w s frame fit r))) q))

pub name_backward : (an : Analysis) (l : Layer) (w : World) (s : State) (frame : Frame) (id : ℕ) (span : _) (name : List ℕ) (vs : List Value) (u : State) → Fit an → Fine an w s
    → Runs an w s frame → values an.program l frame (the_expr id span (NameExpr name)) s ≡ Gave vs u → Pays an frame (the_expr id span (NameExpr name)) s vs u
name_backward an l w s frame id span name vs u fit f r e = by_end (opened_name e) (end_name (opened_name e))
  where
    opened_name : values an.program l frame (the_expr id span (NameExpr name)) s ≡ Gave vs u
        → Opened an an.program l (expr_of an frame (the_expr id span (NameExpr name))) w s frame id (NameExpr name) vs u
    opened_name g = values_gave an an.program l (expr_of an frame (the_expr id span (NameExpr name))) w s frame id span (NameExpr name) vs u f r refl g

    end_name : (o : Opened an an.program l (expr_of an frame (the_expr id span (NameExpr name))) w s frame id (NameExpr name) vs u) → NameGives frame o.at (frame.reading.use_of id) vs u
    end_name o = (ends_gave an (expr_of an frame (the_expr id span (NameExpr name))) o.world o.at (NameGives frame o.at (frame.reading.use_of id))
        (evaluate_or_builtin an.program l frame id (NameExpr name) (frame.reading.use_of id) o.at) vs u o.gave
        (ends_name an l (expr_of an frame (the_expr id span (NameExpr name))) o.world o.at frame id name o.fine)).3

    by_end : (o : Opened an an.program l (expr_of an frame (the_expr id span (NameExpr name))) w s frame id (NameExpr name) vs u) → NameGives frame o.at (frame.reading.use_of id) vs u
        → Pays an frame (the_expr id span (NameExpr name)) s vs u
    by_end o q = record {
      context = λ type h. subst (λ (b : Store). holds b.heap (first vs) type ≡ true) (sym (q.2.0.0 ∙ o.opened.0))
          (subst (λ (xs : List Value). holds s.store.heap (first xs) type ≡ true) (sym q.1)
          (named_context an s frame ((rules_of an frame).reading.use_of id) q.0 type
          (subst (λ (x : Option Use). IsNamed frame s x q.0) (sym (ap (λ (x : ReadModule). x.use_of id) (reads_same an w s frame fit r)))
          (named_same frame o.at s (frame.reading.use_of id) q.0 (sym o.opened.0) q.2.1)) h));
      reports = ap (λ trace. reached an frame.activation trace) q.2.0.1 ∙ o.opened.1;
      own = refl;
    }
