-- What the target of a compound assignment holds, forward and backward.
use Rattle.std.proofs.Common.{◌≡◌, ◌≢◌, ℕ, ◌+◌, ◌<◌, Bool, true, false, List, [], ◌∷◌, ◌++◌, Option, Some, None, ◌⊎◌, inl, inr, refl, sym, ◌∙◌, subst, arith}
use Rattle.luau_values.specs.Value.{Value}
use Rattle.luau_values.specs.Stands.{Stands}
use Rattle.luau_tree.specs.Tree.{Expr, the_expr, StrExpr, NameExpr, Index, At}
use Rattle.luau_tree.specs.declared.names.Op.TheVariants.{Index as IndexOp, Write as WriteOp}
use Rattle.luau_tree.specs.declared.names.Place.TheVariants.{Expr as ExprPlace}
use Rattle.luau_run.specs.ReadModule.{Use, UseLocal, UseBuiltin, UseLibrary, UseGlobal, ReadModule}
use Rattle.luau_run.specs.ReadFolder.{local_of}
use Rattle.luau_run.specs.SyntaxNode.{of_expr}
use Rattle.luau_run.specs.Machine.{Store, State, Gave, go_on, ◌>>=◌, give, spend}
use Rattle.luau_run.specs.Layer.{Frame, Layer, first}
use Rattle.luau_run.specs.Operators.{Base, named_field, element}
use Rattle.luau_run.specs.Expressions.{value, base_of, is_library}
use Rattle.luau_run.specs.Statements.{Target, FieldTarget, ElementTarget, name_target, target, read_from}
use Rattle.type_arena.specs.Term.{Term, never}
use Rattle.type_normal.specs.Holds.{holds}
use Rattle.type_normal.specs.Operations.{union}
use Rattle.type_normal.specs.Kinds.{field_is}
use Rattle.type_normal.specs.Failing.{index_fail, write_fail}
use Rattle.type_normal.proofs.Public.{unknown_all, never_none, union_holds, grown_holds, free_later}
use Rattle.subtype_check.specs.Below.{below}
use Rattle.subtype_check.proofs.Public.{below_includes}
use Rattle.report_rules.specs.Rules.{Rules}
use Rattle.report_rules.specs.Effects.{effects}
use Rattle.report_rules.specs.TypeMap.{TypeMap}
use Rattle.report_rules.specs.Forward.{typ, name_type, target_use, type_of_target, after}
use Rattle.report_rules.specs.Seen.{Seen, seen_expr, seen_target}
use Rattle.report_rules.specs.Context.{Context, join, followed}
use Rattle.report_rules.specs.Checks.{ReportKind, Operand, check, left}
use Rattle.report_rules.specs.Errors.{ev, index_kinds, name_context}
use Rattle.report_rules.specs.Statements.{write_kinds, compound_base_set, ev_compound_base, ev_compound}
use Rattle.report_rules.specs.Findings.{own_kinds, compound_kinds, found, found_compound}
use Rattle.report_rules.specs.Reports.{findings}
use Rattle.run_frame.specs.Analysis.{Analysis}
use Rattle.run_frame.specs.Statements.{stats_of_expr}
use Rattle.run_frame.specs.Fit.{Fit}
use Rattle.run_frame.proofs.World.{World}
use Rattle.run_frame.proofs.Counts.{is_reported, reached, one_if}
use Rattle.run_frame.proofs.Kept.{Doer, nobody, Kept}
use Rattle.run_frame.proofs.Fine.{Fine}
use Rattle.run_frame.proofs.Held.{Runs, Reads, Held, Violated, violated_same}
use Rattle.run_frame.proofs.Parts.{Ends, Same, ends_so, ends_gave, gave_then, gave_same, gave_not_spent}
use Rattle.run_frame.proofs.Layers.{rules_of, seen_of, part_of, Inside, Placed, Marked, Gives, Pays, Trouble, Forward, Backward}
use Rattle.run_frame.proofs.Readings.{contains_head, reads_same, sub_tail, sub_left, sub_right}
use Rattle.run_frame.proofs.Names.{ends_local, ends_any, named_typed, named_context}
use Rattle.run_frame.proofs.Passing.{none_violated, violated_join, violated_followed, violated_after, one_of}
use Rattle.run_frame.proofs.Lists.{inside_left, inside_right}
use Rattle.run_frame.proofs.Statements.{unchecked_count}
use Rattle.run_frame.proofs.Marks.{mark_tells, typed_at, checked_below}
use Rattle.run_frame.proofs.Forms.{value_gave, Evaluated, evaluated, first_stands}
use Rattle.run_frame.proofs.ListsBack.{left_in, unchecked, operand_then}
use Rattle.reports_certain.proofs.ItemForms.{KeyIs, key_is}
use Rattle.reports_certain.proofs.FieldReads.{NamedGives, named_field_ends, field_in, library_facts, base_gave}
use Rattle.reports_certain.proofs.ReadForms.{read_typed, LiteralGives, literal_ends, literal_indexed, element_typed, within_index, within_at}
use Rattle.reports_certain.proofs.WritesLeave.{IsBad}
use Rattle.reports_certain.proofs.TargetForms.{IsBaseOf}

clash : {P : Type 0} (b : Bool) → b ≡ true → b ≡ false → P
clash b p q = cc

-- ---- forward

-- the old value stands and is of the target's type; nothing changed
abbrev pub Old : Analysis → Frame → TypeMap → Expr → State → Value → State → Type 0
Old an frame map e s v t = Same s t × Stands t.store.heap v × (holds t.store.heap v (type_of_target (rules_of an frame) map e) ≡ true)

-- what a name reads as
abbrev IsRead : Frame → State → Option Use → Value → Type 0
IsRead frame s (Some (UseLocal x)) v = (c : ℕ) × Reads frame s x c v
IsRead frame s u v = Stands s.store.heap v

name_read : (an : Analysis) (who : Doer) (w : World) (s : State) (frame : Frame) (u : Option Use) → Fine an w s
    → Ends an who w s (λ v t. Same s t × IsRead frame s u v) (read_from an.program frame (name_target u) s)
name_read an who w s frame (Some (UseLocal x)) f = ends_local an who w s frame x f
name_read an who w s frame (Some (UseBuiltin path)) f = ends_any an who w s f
name_read an who w s frame (Some UseLibrary) f = ends_any an who w s f
name_read an who w s frame (Some UseGlobal) f = ends_any an who w s f
name_read an who w s frame None f = ends_any an who w s f

name_old : (an : Analysis) (w : World) (s : State) (frame : Frame) (map : TypeMap) (u : Option Use) (v : Value) → Fine an w s → Held an frame map s → IsRead frame s u v
    → Stands s.store.heap v × (holds s.store.heap v (name_type (rules_of an frame) map (target_use u)) ≡ true)
name_old an w s frame map (Some (UseLocal x)) v f h q = (f.stand q.0 v q.1.1, named_typed an s frame map (Some (UseLocal x)) v h q)
name_old an w s frame map (Some (UseBuiltin path)) v f h q = (q, unknown_all s.store.heap v)
name_old an w s frame map (Some UseLibrary) v f h q = (q, unknown_all s.store.heap v)
name_old an w s frame map (Some UseGlobal) v f h q = (q, unknown_all s.store.heap v)
name_old an w s frame map None v f h q = (q, unknown_all s.store.heap v)

pub old_ends : (an : Analysis) (who : Doer) (w : World) (s : State) (frame : Frame) (map : TypeMap) (e : Expr) (goal : Target) → Fit an → Fine an w s → Runs an w s frame
    → Inside frame (of_expr e) (stats_of_expr e) → Held an frame (after (rules_of an frame) map e) s → IsBaseOf an frame map e goal s
    → Ends an who w s (Old an frame map e s) (read_from an.program frame goal s)
old_ends an who w s frame map (the_expr id span (NameExpr name)) goal fit f r inside h is =
    subst (λ (g : Target). Ends an who w s (Old an frame map (the_expr id span (NameExpr name)) s) (read_from an.program frame g s)) (sym is)
    (ends_so an who w s (λ v t. Same s t × IsRead frame s (frame.reading.use_of id) v) (Old an frame map (the_expr id span (NameExpr name)) s)
    (read_from an.program frame (name_target (frame.reading.use_of id)) s)
    (λ v t z q g k p. let o : Stands s.store.heap v × (holds s.store.heap v (name_type (rules_of an frame) map (target_use (frame.reading.use_of id))) ≡ true) =
    name_old an w s frame map (frame.reading.use_of id) v f h p.1 in (
      p.0,
      subst (λ (x : Store). Stands x.heap v) (sym p.0.0) o.0,
      subst (λ (x : Store). holds x.heap v (name_type (rules_of an frame) map (target_use ((rules_of an frame).reading.use_of id))) ≡ true) (sym p.0.0)
          (subst (λ (x : ReadModule). holds s.store.heap v (name_type (rules_of an frame) map (target_use (x.use_of id))) ≡ true) (sym (reads_same an w s frame fit r)) o.1),
    )) (name_read an who w s frame (frame.reading.use_of id) f))
old_ends an who w s frame map (the_expr id span (Index base name)) (FieldTarget b other) fit f r inside h (same, typed, lib) =
    subst (λ (n : List ℕ). Ends an who w s (Old an frame map (the_expr id span (Index base name)) s) (named_field an.program n b s)) (sym same)
    (ends_so an who w s (NamedGives s name b) (Old an frame map (the_expr id span (Index base name)) s) (named_field an.program name b s)
    (λ v t z q g k p. (
      p.0.same,
      subst (λ (x : Store). Stands x.heap v) (sym p.0.same.0) p.0.stands,
      read_typed an w s frame map base name b v s s t fit r (within_index frame id span base name inside) typed lib refl p,
    )) (named_field_ends an who w s name b f))
old_ends an who w s frame map (the_expr id span (At base key)) (ElementTarget b k) fit f r inside h (known, typed, lib) =
    ends_so an who w s (LiteralGives key s b) (Old an frame map (the_expr id span (At base key)) s) (element an.program k b s)
    (λ v t z q g kept p. (
      (literal_indexed key s b v t p).same,
      subst (λ (x : Store). Stands x.heap v) (sym (literal_indexed key s b v t p).same.0) (literal_indexed key s b v t p).stands,
      element_typed an w s frame map id base key b v s t fit r
          (inside_left frame (of_expr base) (of_expr key) (stats_of_expr base) (stats_of_expr key) (within_at frame id span base key inside)) typed lib p,
    )) (literal_ends an who w s key k b f known)
old_ends an who w s frame map (the_expr id span (Index base name)) (_) fit f r inside h is = absurd is
old_ends an who w s frame map (the_expr id span (At base key)) (_) fit f r inside h is = absurd is
old_ends an who w s frame map (the_expr id span _) goal fit f r inside h is = absurd is

-- ---- backward: a part, and what follows

-- a part whose context isn't violated, and which reaches no reported place, leaves the trouble to what follows
followed_then : (an : Analysis) (w v : World) (s m t : State) (frame : Frame) (part behind : Context) (b : Bool) → Fine an w s → Runs an w s frame → Kept an (part_of frame b) w s v m
    → (Violated an frame part s → ⊥) → reached an frame.activation m.trace ≡ reached an frame.activation s.trace → Trouble an frame (followed part b behind) s t → Trouble an frame behind m t
followed_then an w v s m t frame part behind b f r k safe quiet (inl h) = by_side (violated_followed an w v s m frame part behind b f r k h)
  where
    by_side : Violated an frame part s ⊎ Violated an frame behind m → Trouble an frame behind m t
    by_side (inl i) = absurd (safe i)
    by_side (inr i) = inl i
followed_then an w v s m t frame part behind b f r k safe quiet (inr h) = inr (subst (λ (n : ℕ). n < reached an frame.activation t.trace) (sym quiet) h)

-- ---- backward: a base that is read and written

-- what is reported of a base has its value in the set
reported_in : (an : Analysis) (w : World) (s : State) (frame : Frame) (map : TypeMap) (e : Expr) (set : Term) (kind : ReportKind) (vs : List Value) (t : State) → Fit an → Runs an w s frame
    → Placed an frame (seen_expr (rules_of an frame) map e) → Gives an frame map e vs t → check (seen_of an frame) e set kind ≢ [] → holds t.store.heap (first vs) set ≡ true
reported_in an w s frame map e set kind vs t fit r placed gives n = below_includes t.store.heap (first vs) (typ (rules_of an frame) map e) set
    (subst (λ (type : Term). below type set ≡ true) (typed_at an w s frame map e fit r placed) (checked_below (seen_of an frame) e set kind n)) gives.typed

both_none : (xs ys : List ReportKind) → (xs ≢ [] → ⊥) → (ys ≢ [] → ⊥) → xs ++ ys ≢ [] → ⊥
both_none [] ys a b n = b n
both_none (x ∷ xs) ys a b n = a (λ e. cc)

-- an expression of which nothing is reported reaches no reported place
none_counted : (an : Analysis) (w : World) (s : State) (frame : Frame) (e : Expr) (around : List ReportKind) (vs : List Value) (u t : State) → Fit an → Runs an w s frame
    → Marked an frame (found (rules_of an frame) (seen_of an frame) around e) → Pays an frame e u vs t → (around ≢ [] → ⊥)
    → reached an frame.activation t.trace ≡ reached an frame.activation u.trace
none_counted an w s frame (the_expr id span kind) around vs u t fit r marked pays none =
    by_report (is_reported an frame.module_at (ExprPlace (record { 0 = id }))) refl pays.reports
  where
    around_kinds : (xs own : List ReportKind) → own ≡ [] → xs ++ own ≢ [] → xs ≢ []
    around_kinds [] own e n z = n e
    around_kinds (x ∷ xs) own e n z = cc

    by_report : (b : Bool) → is_reported an frame.module_at (ExprPlace (record { 0 = id })) ≡ b
        → reached an frame.activation t.trace ≡ reached an frame.activation u.trace + one_if b → reached an frame.activation t.trace ≡ reached an frame.activation u.trace
    by_report false e k = omega (arith, k)
    by_report true e k = absurd (none (around_kinds around (own_kinds (rules_of an frame) (seen_of an frame) id kind) pays.own
        (mark_tells an w s frame id (record { place = ExprPlace (record { 0 = id }); at = span; kinds = around ++ own_kinds (rules_of an frame) (seen_of an frame) id kind }) fit r
        (marked _ (contains_head _ _)) refl e)))

-- a value that can be indexed and written, and isn't in the set of the field, is in none of the base's sets
out_of_base : (index write : List ReportKind) (field : Term) (t : State) (v : Value) → (index ≢ [] → ⊥) → (holds t.store.heap v index_fail ≡ true → ⊥) → (holds t.store.heap v write_fail ≡ true → ⊥)
    → (holds t.store.heap v field ≡ true → ⊥) → holds t.store.heap v (compound_base_set index write field) ≡ true → ⊥
out_of_base (kind ∷ kinds) write field t v none indexed written fielded h = none (λ e. cc)
out_of_base [] write field t v none indexed written fielded h = by_index (one_of (holds t.store.heap v index_fail) (holds t.store.heap v (union (left write write_fail) field))
    (sym (union_holds t.store.heap v index_fail (union (left write write_fail) field)) ∙ h))
  where
    by_write : (holds t.store.heap v (left write write_fail) ≡ true) ⊎ (holds t.store.heap v field ≡ true) → ⊥
    by_write (inl k) = written (left_in write write_fail t.store.heap v k)
    by_write (inr k) = fielded k

    by_index : (holds t.store.heap v index_fail ≡ true) ⊎ (holds t.store.heap v (union (left write write_fail) field) ≡ true) → ⊥
    by_index (inl k) = indexed k
    by_index (inr k) = by_write (one_of (holds t.store.heap v (left write write_fail)) (holds t.store.heap v field) (sym (union_holds t.store.heap v (left write write_fail) field) ∙ k))

base_then : (an : Analysis) (w : World) (s : State) (frame : Frame) (map : TypeMap) (base : Expr) (field : Term) (behind : Context) (b : Base) (n t : State) (vs : List Value) → Fit an → Fine an w s
    → Runs an w s frame → Inside frame (of_expr base) (stats_of_expr base) → Placed an frame (seen_expr (rules_of an frame) map base)
    → Marked an frame (found (rules_of an frame) (seen_of an frame) (compound_kinds (seen_of an frame) base) base) → Evaluated an w s frame map base vs n → b.value ≡ first vs
    → (holds n.store.heap b.value index_fail ≡ true → ⊥) → (holds n.store.heap b.value write_fail ≡ true → ⊥)
    → (is_library frame base ≡ false → holds n.store.heap b.value field ≡ true → ⊥)
    → Trouble an frame (ev_compound_base (rules_of an frame) (seen_of an frame) base field behind) s t → Trouble an frame behind n t
base_then an w s frame map base field behind b n t vs fit f r inside placed marked o is indexed written fielded y =
    followed_then an w o.world s n t frame (ev (rules_of an frame) (seen_of an frame) base asked) behind (effects (rules_of an frame) base) f r o.kept (λ k. safe k)
    (none_counted an w s frame base (compound_kinds (seen_of an frame) base) vs s n fit r marked o.pays none) y
  where
    asked : Term
    asked = compound_base_set (index_kinds (seen_of an frame) base) (write_kinds (seen_of an frame) base) field

    not_indexed : index_kinds (seen_of an frame) base ≢ [] → ⊥
    not_indexed k = indexed (subst (λ (v : Value). holds n.store.heap v index_fail ≡ true) (sym is) (reported_in an w s frame map base index_fail (Operand IndexOp) vs n fit r placed o.gives k))

    not_written : write_kinds (seen_of an frame) base ≢ [] → ⊥
    not_written k = written (subst (λ (v : Value). holds n.store.heap v write_fail ≡ true) (sym is) (reported_in an w s frame map base write_fail (Operand WriteOp) vs n fit r placed o.gives k))

    none : compound_kinds (seen_of an frame) base ≢ [] → ⊥
    none = both_none (index_kinds (seen_of an frame) base) (write_kinds (seen_of an frame) base) not_indexed not_written

    safe : Violated an frame (ev (rules_of an frame) (seen_of an frame) base asked) s → ⊥
    safe h = by_library (is_library frame base) refl
      where
        by_library : (c : Bool) → is_library frame base ≡ c → ⊥
        by_library true k = none_violated an frame s (subst (λ (c : Context). Violated an frame c s) ((library_facts an w s frame map base fit r inside k).unasked asked) h)
        by_library false k = out_of_base (index_kinds (seen_of an frame) base) (write_kinds (seen_of an frame) base) field n b.value not_indexed indexed written (fielded k)
            (subst (λ (v : Value). holds n.store.heap v asked ≡ true) (sym is) (o.pays.context asked h))

-- ---- backward: a target that was read

-- a name
name_pays : (an : Analysis) (frame : Frame) (w : World) (s : State) (u : Option Use) (asked : Term) (behind : Context) (old : Value) (b t : State) → Fine an w s
    → read_from an.program frame (name_target u) s ≡ Gave old b → (holds b.store.heap old asked ≡ true → ⊥)
    → Trouble an frame (join (name_context (rules_of an frame) (local_of u) asked) behind) s t → Trouble an frame behind b t
name_pays an frame w s u asked behind old b t f q out y = by_read (ends_gave an (nobody true) w s (λ v t. Same s t × IsRead frame s u v) (read_from an.program frame (name_target u) s) old b q
    (name_read an (nobody true) w s frame u f))
  where
    by_read : (v : World) × Fine an v b × Kept an (nobody true) w s v b × (Same s b × IsRead frame s u old) → Trouble an frame behind b t
    by_read (v, g, k, (same, read)) = by_trouble y
      where
        not_named : (z : Option Use) → IsRead frame s z old → Violated an frame (name_context (rules_of an frame) (local_of z) asked) s → ⊥
        not_named (Some (UseLocal x)) i h = out (subst (λ (st : Store). holds st.heap old asked ≡ true) (sym same.0) (named_context an s frame (Some (UseLocal x)) old asked i h))
        not_named (Some (UseBuiltin path)) i h = none_violated an frame s h
        not_named (Some UseLibrary) i h = none_violated an frame s h
        not_named (Some UseGlobal) i h = none_violated an frame s h
        not_named None i h = none_violated an frame s h

        by_side : Violated an frame (name_context (rules_of an frame) (local_of u) asked) s ⊎ Violated an frame behind s → Trouble an frame behind b t
        by_side (inl h) = absurd (not_named u read h)
        by_side (inr h) = inl (violated_same an s b frame behind same.0 h)

        by_trouble : Trouble an frame (join (name_context (rules_of an frame) (local_of u) asked) behind) s t → Trouble an frame behind b t
        by_trouble (inl h) = by_side (violated_join an frame (name_context (rules_of an frame) (local_of u) asked) behind s h)
        by_trouble (inr h) = inr (subst (λ trace. reached an frame.activation trace < reached an frame.activation t.trace) (sym same.1) h)

same_trouble : (an : Analysis) (frame : Frame) (behind : Context) (s b t : State) → Same s b → Trouble an frame behind s t → Trouble an frame behind b t
same_trouble an frame behind s b t same (inl h) = inl (violated_same an s b frame behind same.0 h)
same_trouble an frame behind s b t same (inr h) = inr (subst (λ trace. reached an frame.activation trace < reached an frame.activation t.trace) (sym same.1) h)

false_clash : (h : _) (v : Value) (set : Term) → holds h v set ≡ false → holds h v set ≡ true → ⊥
false_clash h v set e k = clash (holds h v set) k e

-- what is asked of the base of a key, by the key
abbrev key_field : Expr → Term → Term
key_field (the_expr id span (StrExpr name)) asked = field_is name asked
key_field key asked = never

abbrev key_behind : Rules → List Seen → Expr → Context → Context
key_behind rules seen (the_expr id span (StrExpr name)) behind = behind
key_behind rules seen key behind = followed (ev rules seen key never) (effects rules key) behind

key_context : (rules : Rules) (seen : List Seen) (id : ℕ) (span : _) (base key : Expr) (asked : Term) (behind : Context)
    → ev_compound rules seen (the_expr id span (At base key)) asked behind ≡ ev_compound_base rules seen base (key_field key asked) (key_behind rules seen key behind)
key_context rules seen id span base (the_expr key_id key_span (StrExpr name)) asked behind = refl
key_context rules seen id span base (the_expr key_id key_span _) asked behind = refl

module _ (an : Analysis) (l : Layer) (fit : Fit an) (fwd : Forward an l) (bwd : Backward an l) (frame : Frame) where
  -- a key that was evaluated
  key_then : (w : World) (n : State) (map : TypeMap) (key : Expr) (behind : Context) (ks : List Value) (m t : State) → Fine an w n → Runs an w n frame
      → Placed an frame (seen_expr (rules_of an frame) map key) → Marked an frame (found (rules_of an frame) (seen_of an frame) [] key) → Evaluated an w n frame map key ks m
      → Trouble an frame (key_behind (rules_of an frame) (seen_of an frame) key behind) n t → Trouble an frame behind m t
  key_then w n map (the_expr id span (StrExpr name)) behind ks m t f r placed marked o (inl h) = inl (violated_after an w o.world n m frame behind false f r o.kept h)
  key_then w n map (the_expr id span (StrExpr name)) behind ks m t f r placed marked o (inr h) =
      inr (subst (λ (i : ℕ). i < reached an frame.activation t.trace) (sym (unchecked_count an w n frame (the_expr id span (StrExpr name)) ks n m fit r marked o.pays)) h)
  key_then w n map (the_expr id span kind) behind ks m t f r placed marked o y =
      by_side (operand_then an w n frame map (the_expr id span kind) (unchecked an frame (the_expr id span kind)) behind ks m t fit f r placed marked o y)
    where
      by_side : (holds m.store.heap (first ks) never ≡ true) ⊎ Trouble an frame behind m t → Trouble an frame behind m t
      by_side (inl x) = clash (holds m.store.heap (first ks) never) x (never_none m.store.heap (first ks))
      by_side (inr x) = x

  -- the base isn't in the field's set, where what was read isn't in what was asked
  not_asked : (w : World) (n : State) (map : TypeMap) (key : Expr) (ks : List Value) (m : State) (b : Base) (base : Expr) (asked : Term) (old : Value) (u : State) → Fine an w n
      → Evaluated an w n frame map key ks m → Stands n.store.heap b.value → b.is_library ≡ is_library frame base → LiteralGives key m b old u → (holds u.store.heap old asked ≡ true → ⊥)
      → is_library frame base ≡ false → holds n.store.heap b.value (key_field key asked) ≡ true → ⊥
  not_asked w n map (the_expr id span (StrExpr name)) ks m b base asked old u f o there lib g out plain h = out (subst (λ (x : Store). holds x.heap old asked ≡ true) (sym g.0.same.0)
      (field_in m.store.heap name b.value old asked (grown_holds n.store.heap m.store.heap b.value (field_is name asked) f.fields there (o.kept.calm refl) h) (g.1 (lib ∙ plain))))
  not_asked w n map (the_expr id span kind) ks m b base asked old u f o there lib g out plain h = clash (holds n.store.heap b.value never) h (never_none n.store.heap b.value)

  pub old_pays : (w : World) (s : State) (map : TypeMap) (e : Expr) (around : List ReportKind) (asked : Term) (behind : Context) → Fine an w s → Runs an w s frame → Held an frame map s
      → Inside frame (of_expr e) (stats_of_expr e) → Placed an frame (seen_target (rules_of an frame) map e)
      → Marked an frame (found_compound (rules_of an frame) (seen_of an frame) around e) → (goal : Target) (m : State) (old : Value) (u t : State)
      → target l frame e s ≡ Gave goal m → read_from an.program frame goal m ≡ Gave old u → (holds u.store.heap old asked ≡ true → ⊥) → (IsBad m.store.heap goal → ⊥)
      → Trouble an frame (ev_compound (rules_of an frame) (seen_of an frame) e asked behind) s t → Trouble an frame behind u t
  unfolding ◌>>=◌ give spend
  old_pays w s map (the_expr id span (NameExpr name)) around asked behind f r h inside placed marked goal m old u t q read out good y = name_pays an frame w s
      ((rules_of an frame).reading.use_of id) asked behind old u t f
      (subst (λ (x : ReadModule). read_from an.program frame (name_target (x.use_of id)) s ≡ Gave old u) (sym (reads_same an w s frame fit r))
      (by_same (gave_same (name_target (frame.reading.use_of id)) goal s m q))) out y
    where
      by_same : (name_target (frame.reading.use_of id) ≡ goal) × (s ≡ m) → read_from an.program frame (name_target (frame.reading.use_of id)) s ≡ Gave old u
      by_same (g, i) = subst (λ (x : Target). read_from an.program frame x s ≡ Gave old u) (sym g) (subst (λ (x : State). read_from an.program frame goal x ≡ Gave old u) (sym i) read)
  old_pays w s map (the_expr id span (Index base name)) around asked behind f r h inside placed marked goal m old u t q read out good y =
      by_base (gave_then (base_of l frame base s) (λ b. give (FieldTarget b name)) goal m q)
    where
      placed_base : Placed an frame (seen_expr (rules_of an frame) map base)
      placed_base = sub_tail _ (seen_expr (rules_of an frame) map base) (seen_of an frame) placed

      marked_base : Marked an frame (found (rules_of an frame) (seen_of an frame) (compound_kinds (seen_of an frame) base) base)
      marked_base = sub_tail _ (found (rules_of an frame) (seen_of an frame) (compound_kinds (seen_of an frame) base) base) (findings (rules_of an frame)) marked

      inside_base : Inside frame (of_expr base) (stats_of_expr base)
      inside_base = within_index frame id span base name inside

      by_base : (b : Base) × (n : State) × (base_of l frame base s ≡ Gave b n) × (give (FieldTarget b name) n ≡ Gave goal m) → Trouble an frame behind u t
      by_base (b, n, gave_base, gave_goal) = by_value (base_gave l frame base s b n gave_base) (gave_same (FieldTarget b name) goal n m gave_goal)
        where
          by_value : (vs : List Value) × (l.values frame base s ≡ Gave vs n) × (b.value ≡ first vs) × (b.is_library ≡ is_library frame base) → (FieldTarget b name ≡ goal) × (n ≡ m)
              → Trouble an frame behind u t
          by_value (vs, c, is, lib) (same, end) =
              by_evaluated (evaluated an l fwd bwd w s frame map base (compound_kinds (seen_of an frame) base) f r h inside_base placed_base marked_base vs n c)
            where
              read_n : named_field an.program name b n ≡ Gave old u
              read_n = subst (λ (x : State). read_from an.program frame (FieldTarget b name) x ≡ Gave old u) (sym end) (subst (λ (x : Target). read_from an.program frame x m ≡ Gave old u) (sym same) read)

              good_n : holds n.store.heap b.value write_fail ≡ true → ⊥
              good_n = subst (λ (x : State). holds x.store.heap b.value write_fail ≡ true → ⊥) (sym end) (subst (λ (x : Target). IsBad m.store.heap x → ⊥) (sym same) good)

              by_evaluated : Evaluated an w s frame map base vs n → Trouble an frame behind u t
              by_evaluated o = by_read (ends_gave an (nobody true) o.world n (NamedGives n name b) (named_field an.program name b n) old u read_n
                  (named_field_ends an (nobody true) o.world n name b o.fine))
                where
                  by_read : (v : World) × Fine an v u × Kept an (nobody true) o.world n v u × NamedGives n name b old u → Trouble an frame behind u t
                  by_read (v, g, k, p) = same_trouble an frame behind n u t p.0.same
                      (base_then an w s frame map base (field_is name asked) behind b n t vs fit f r inside_base placed_base marked_base o is (false_clash n.store.heap b.value index_fail p.0.indexable) good_n
                      (λ plain i. out (subst (λ (x : Store). holds x.heap old asked ≡ true) (sym p.0.same.0) (field_in n.store.heap name b.value old asked i (p.1 (lib ∙ plain))))) y)
  old_pays w s map (the_expr id span (At base key)) around asked behind f r h inside placed marked goal m old u t q read out good y =
      by_base (gave_then (base_of l frame base s) (λ b. ◌>>=◌ (value l frame key) (λ k. give (ElementTarget b k))) goal m q)
    where
      placed_both : Placed an frame (seen_expr (rules_of an frame) map base ++ seen_expr (rules_of an frame) (after (rules_of an frame) map base) key)
      placed_both = sub_tail _ (seen_expr (rules_of an frame) map base ++ seen_expr (rules_of an frame) (after (rules_of an frame) map base) key) (seen_of an frame) placed

      placed_base : Placed an frame (seen_expr (rules_of an frame) map base)
      placed_base = sub_left (seen_expr (rules_of an frame) map base) (seen_expr (rules_of an frame) (after (rules_of an frame) map base) key) (seen_of an frame) placed_both

      placed_key : Placed an frame (seen_expr (rules_of an frame) (after (rules_of an frame) map base) key)
      placed_key = sub_right (seen_expr (rules_of an frame) map base) (seen_expr (rules_of an frame) (after (rules_of an frame) map base) key) (seen_of an frame) placed_both

      marked_both : Marked an frame (found (rules_of an frame) (seen_of an frame) (compound_kinds (seen_of an frame) base) base ++ found (rules_of an frame) (seen_of an frame) [] key)
      marked_both = sub_tail _ (found (rules_of an frame) (seen_of an frame) (compound_kinds (seen_of an frame) base) base ++ found (rules_of an frame) (seen_of an frame) [] key)
          (findings (rules_of an frame)) marked

      marked_base : Marked an frame (found (rules_of an frame) (seen_of an frame) (compound_kinds (seen_of an frame) base) base)
      marked_base = sub_left (found (rules_of an frame) (seen_of an frame) (compound_kinds (seen_of an frame) base) base) (found (rules_of an frame) (seen_of an frame) [] key)
          (findings (rules_of an frame)) marked_both

      marked_key : Marked an frame (found (rules_of an frame) (seen_of an frame) [] key)
      marked_key = sub_right (found (rules_of an frame) (seen_of an frame) (compound_kinds (seen_of an frame) base) base) (found (rules_of an frame) (seen_of an frame) [] key)
          (findings (rules_of an frame)) marked_both

      inside_base : Inside frame (of_expr base) (stats_of_expr base)
      inside_base = inside_left frame (of_expr base) (of_expr key) (stats_of_expr base) (stats_of_expr key) (within_at frame id span base key inside)

      inside_key : Inside frame (of_expr key) (stats_of_expr key)
      inside_key = inside_right frame (of_expr base) (of_expr key) (stats_of_expr base) (stats_of_expr key) (within_at frame id span base key inside)

      by_base : (b : Base) × (n : State) × (base_of l frame base s ≡ Gave b n) × (go_on (value l frame key n) (λ k. give (ElementTarget b k)) ≡ Gave goal m) → Trouble an frame behind u t
      by_base (b, n, gave_base, gave_key) = by_value (base_gave l frame base s b n gave_base) (gave_then (value l frame key n) (λ k. give (ElementTarget b k)) goal m gave_key)
        where
          by_value : (vs : List Value) × (l.values frame base s ≡ Gave vs n) × (b.value ≡ first vs) × (b.is_library ≡ is_library frame base)
              → (k : Value) × (i : State) × (value l frame key n ≡ Gave k i) × (give (ElementTarget b k) i ≡ Gave goal m) → Trouble an frame behind u t
          by_value (vs, c, is, lib) (k, i, gave_k, gave_goal) = by_evaluated
              (evaluated an l fwd bwd w s frame map base (compound_kinds (seen_of an frame) base) f r h inside_base placed_base marked_base vs n c)
              (value_gave l frame key n k i gave_k) (gave_same (ElementTarget b k) goal i m gave_goal)
            where
              by_evaluated : Evaluated an w s frame map base vs n → (ks : List Value) × (l.values frame key n ≡ Gave ks i) × (k ≡ first ks) → (ElementTarget b k ≡ goal) × (i ≡ m)
                  → Trouble an frame behind u t
              by_evaluated o (ks, d, k_is) (same, end) = by_key (evaluated an l fwd bwd o.world n frame (after (rules_of an frame) map base) key [] o.fine o.runs o.held inside_key placed_key marked_key ks i d)
                where
                  read_i : element an.program k b i ≡ Gave old u
                  read_i = subst (λ (x : State). read_from an.program frame (ElementTarget b k) x ≡ Gave old u) (sym end)
                      (subst (λ (x : Target). read_from an.program frame x m ≡ Gave old u) (sym same) read)

                  good_i : holds i.store.heap b.value write_fail ≡ true → ⊥
                  good_i = subst (λ (x : State). holds x.store.heap b.value write_fail ≡ true → ⊥) (sym end) (subst (λ (x : Target). IsBad m.store.heap x → ⊥) (sym same) good)

                  by_key : Evaluated an o.world n frame (after (rules_of an frame) map base) key ks i → Trouble an frame behind u t
                  by_key j = by_read (ends_gave an (nobody true) j.world i (LiteralGives key i b) (element an.program k b i) old u read_i
                      (literal_ends an (nobody true) j.world i key k b j.fine
                      (subst (λ (a : Value). KeyIs key a) (sym k_is) (key_is an o.world n frame (after (rules_of an frame) map base) key ks i fit o.runs inside_key j.gives))))
                    where
                      by_read : (v : World) × Fine an v u × Kept an (nobody true) j.world i v u × LiteralGives key i b old u → Trouble an frame behind u t
                      by_read (v, g, kept, p) = same_trouble an frame behind i u t (literal_indexed key i b old u p).same
                          (key_then o.world n (after (rules_of an frame) map base) key behind ks i t o.fine o.runs placed_key marked_key j
                          (base_then an w s frame map base (key_field key asked) (key_behind (rules_of an frame) (seen_of an frame) key behind) b n t vs fit f r inside_base placed_base marked_base o is
                          (λ z. false_clash i.store.heap b.value index_fail (literal_indexed key i b old u p).indexable (free_later n.store.heap i.store.heap b.value index_fail refl j.kept.heap z))
                          (λ z. good_i (free_later n.store.heap i.store.heap b.value write_fail refl j.kept.heap z))
                          (not_asked o.world n (after (rules_of an frame) map base) key ks i b base asked old u o.fine j
                          (subst (λ (a : Value). Stands n.store.heap a) (sym is) (first_stands n.store.heap vs o.gives.stand)) lib p out)
                          (subst (λ (c : Context). Trouble an frame c s t) (key_context (rules_of an frame) (seen_of an frame) id span base key asked behind) y)))
  old_pays w s map (the_expr id span _) around asked behind f r h inside placed marked goal m old u t q read out good y = absurd (gave_not_spent s m goal q)
