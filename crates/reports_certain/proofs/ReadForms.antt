-- `a.p` and `a[k]`, forward and backward.
use Rattle.std.proofs.Common.{◌≡◌, ℕ, Bool, true, false, ◌||◌, List, [], ◌∷◌, ◌++◌, Option, Some, None, ◌⊎◌, inl, inr, refl, sym, ◌∙◌, ap, subst}
use Rattle.luau_values.specs.Value.{Value}
use Rattle.luau_values.specs.Stands.{Stands}
use Rattle.luau_tree.specs.Tree.{Expr, the_expr, StrExpr, Index, At}
use Rattle.luau_tree.specs.declared.names.Op.TheVariants.{Index as IndexOp}
use Rattle.luau_run.specs.ReadModule.{Use, ReadModule}
use Rattle.luau_run.specs.SyntaxNode.{AnExpr, of_block, of_expr}
use Rattle.luau_run.specs.Machine.{Store, State, Gave, go_on, ◌>>=◌}
use Rattle.luau_run.specs.Layer.{Frame, Layer, first}
use Rattle.luau_run.specs.Operators.{Base, named_field, element}
use Rattle.luau_run.specs.Expressions.{value, base_of, is_library, one, values, evaluate, evaluate_or_builtin}
use Rattle.type_arena.specs.Term.{Term, never}
use Rattle.type_normal.specs.Holds.{holds}
use Rattle.type_normal.specs.Kinds.{field_is}
use Rattle.type_normal.specs.Failing.{unindexable, index_fail}
use Rattle.type_normal.proofs.Public.{unknown_all, never_none, union_holds, kinds_hold, grown_holds}
use Rattle.report_rules.specs.Rules.{Rules, fixed_use}
use Rattle.report_rules.specs.Effects.{effects}
use Rattle.report_rules.specs.TypeMap.{TypeMap}
use Rattle.report_rules.specs.Forward.{typ, type_of_kind, builtin_or, property, held, after}
use Rattle.report_rules.specs.Seen.{seen_expr}
use Rattle.report_rules.specs.Context.{Context}
use Rattle.report_rules.specs.Checks.{ReportKind, Operand, left}
use Rattle.report_rules.specs.Errors.{ev, ev_in, unless_builtin, index_kinds, read_set}
use Rattle.report_rules.specs.Findings.{read_kinds, found}
use Rattle.report_rules.specs.Reports.{findings}
use Rattle.run_frame.specs.Analysis.{Analysis}
use Rattle.run_frame.specs.Statements.{stats_of_expr}
use Rattle.run_frame.specs.Fit.{Fit}
use Rattle.run_frame.proofs.World.{World}
use Rattle.run_frame.proofs.Counts.{reached}
use Rattle.run_frame.proofs.Kept.{Doer, Kept}
use Rattle.run_frame.proofs.Fine.{Fine}
use Rattle.run_frame.proofs.Held.{Runs, runs_kept, Held, held_store, Violated, violated_same}
use Rattle.run_frame.proofs.Parts.{Ends, ends_then, ends_so, ends_more, ends_gave, gave_then}
use Rattle.run_frame.proofs.Layers.{rules_of, seen_of, part_of, expr_of, Inside, Placed, Marked, Gives, Pays, Forward, Backward}
use Rattle.run_frame.proofs.Readings.{reads_same, sub_tail, sub_left, sub_right}
use Rattle.run_frame.proofs.Names.{ends_one}
use Rattle.run_frame.proofs.Passing.{none_violated, violated_followed, one_of}
use Rattle.run_frame.proofs.Lists.{may_first, may_second, held_typed, inside_left, inside_right, FirstOf}
use Rattle.run_frame.proofs.Statements.{unchecked_count, unchecked_context}
use Rattle.run_frame.proofs.Expressions.{Opened, ends_values, values_gave}
use Rattle.run_frame.proofs.Forms.{one_gave, value_gave, Evaluated, evaluated, IsForm, form_read, form_forward, OneGives, one_gives, FormPays, form_backward, After, value_forward, first_stands}
use Rattle.run_frame.proofs.ListsBack.{Check, by_set, operand_quiet, operand_safe}
use Rattle.reports_certain.proofs.ItemForms.{KeyIs, key_is}
use Rattle.reports_certain.proofs.FieldReads.{Indexed, NamedGives, named_field_ends, element_ends, property_typed, library_property, field_in, library_facts, BaseGives, base_forward, base_gave}

clash : {P : Type 0} (b : Bool) → b ≡ true → b ≡ false → P
clash b p q = cc

-- ---- a form that may be a path, and stands for nothing here

none_some : {A : Type 0} (o : Option A) (x : A) → o ≡ None → o ≡ Some x → ⊥
none_some o x p q = cc

index_gives : (an : Analysis) (frame : Frame) (map : TypeMap) (id : ℕ) (span : _) (base : Expr) (name : List ℕ) (vs : List Value) (t : State) → (rules_of an frame).reading.use_of id ≡ None
    → (v : Value) × (vs ≡ v ∷ []) × OneGives an frame map id (Index base name) v t → Gives an frame map (the_expr id span (Index base name)) vs t
index_gives an frame map id span base name vs t used (v, e, g) = subst (λ (xs : List Value). Gives an frame map (the_expr id span (Index base name)) xs t) (sym e) (record {
  stand = (g.stands, tt);
  typed = subst (λ (u : Option Use). holds t.store.heap v (builtin_or u (type_of_kind (rules_of an frame) map id (Index base name))) ≡ true) (sym used) g.typed;
  one = λ k. (v, refl);
  fixed = λ path k. absurd (none_some (fixed_use (rules_of an frame) ((rules_of an frame).reading.use_of id)) path (ap (fixed_use (rules_of an frame)) used) k);
  local = λ x k z. cc;
  guard_shows = λ x firm. inl refl;
  kind = λ x k. cc;
})

index_backward_at : (an : Analysis) (l : Layer) (w : World) (s : State) (frame : Frame) (id : ℕ) (span : _) (base : Expr) (name : List ℕ) (vs : List Value) (u : State) → Fit an
    → frame.reading.use_of id ≡ None → Fine an w s → Runs an w s frame → values an.program l frame (the_expr id span (Index base name)) s ≡ Gave vs u
    → ((z : World) (m : State) → Fine an z m → Runs an z m frame → m.store ≡ s.store → evaluate an.program l frame id (Index base name) m ≡ Gave vs u → FormPays an frame id (Index base name) m vs u)
    → Pays an frame (the_expr id span (Index base name)) s vs u
index_backward_at an l w s frame id span base name vs u fit unused f r e next =
    by_opened (values_gave an an.program l (expr_of an frame (the_expr id span (Index base name))) w s frame id span (Index base name) vs u f r refl e)
  where
    read_unused : (rules_of an frame).reading.use_of id ≡ None
    read_unused = ap (λ (x : ReadModule). x.use_of id) (reads_same an w s frame fit r) ∙ unused

    in_form : (context : Context) (o : Option Use) → o ≡ None → Violated an frame (unless_builtin o context) s → Violated an frame context s
    in_form context o k h = subst (λ (z : Option Use). Violated an frame (unless_builtin z context) s) k h

    by_opened : Opened an an.program l (expr_of an frame (the_expr id span (Index base name))) w s frame id (Index base name) vs u → Pays an frame (the_expr id span (Index base name)) s vs u
    by_opened o = by_form (next o.world o.at o.fine (runs_kept an (expr_of an frame (the_expr id span (Index base name))) w o.world s o.at frame o.kept r) o.opened.0
        (subst (λ (z : Option Use). evaluate_or_builtin an.program l frame id (Index base name) z o.at ≡ Gave vs u) unused o.gave))
      where
        by_form : FormPays an frame id (Index base name) o.at vs u → Pays an frame (the_expr id span (Index base name)) s vs u
        by_form p = record {
          context = λ type h. p.context type (violated_same an s o.at frame (ev_in (rules_of an frame) (seen_of an frame) id (Index base name) type) o.opened.0
              (in_form (ev_in (rules_of an frame) (seen_of an frame) id (Index base name) type) ((rules_of an frame).reading.use_of id) read_unused h));
          reports = p.count ∙ o.opened.1;
          own = p.own;
        }

-- ---- what a read of a field gives, and pays

-- the value is of the field's type
pub read_typed : (an : Analysis) (w : World) (s : State) (frame : Frame) (map : TypeMap) (e : Expr) (name : List ℕ) (base : Base) (v : Value) (m t u : State) → Fit an → Runs an w s frame
    → Inside frame (of_expr e) (stats_of_expr e) → holds m.store.heap base.value (typ (rules_of an frame) map e) ≡ true → base.is_library ≡ is_library frame e → t.store ≡ m.store
    → NamedGives t name base v u → holds u.store.heap v (property name (typ (rules_of an frame) map e)) ≡ true
read_typed an w s frame map e name base v m t u fit r inside typed lib same g = by_library (is_library frame e) refl
  where
    by_library : (b : Bool) → is_library frame e ≡ b → holds u.store.heap v (property name (typ (rules_of an frame) map e)) ≡ true
    by_library true k = subst (λ (type : Term). holds u.store.heap v (property name type) ≡ true) (sym (library_facts an w s frame map e fit r inside k).typed) (library_property u.store.heap name v)
    by_library false k = subst (λ (x : Store). holds x.heap v (property name (typ (rules_of an frame) map e)) ≡ true) (sym g.0.same.0)
        (property_typed t.store.heap name base.value v (typ (rules_of an frame) map e)
        (subst (λ (x : Store). holds x.heap base.value (typ (rules_of an frame) map e) ≡ true) (sym same) typed) g.0.indexable (g.1 (lib ∙ k)))

check_base : (an : Analysis) (frame : Frame) (e : Expr) → Check an frame e
check_base an frame e = by_set an frame e index_fail (Operand IndexOp)

-- what was asked of the base is so of the field
field_so : (kinds : List ReportKind) (name : List ℕ) (type : Term) (base : Base) (v : Value) (m u : State) → holds m.store.heap base.value (read_set kinds name type) ≡ true → base.is_library ≡ false
    → NamedGives m name base v u → holds u.store.heap v type ≡ true
field_so (kind ∷ kinds) name type base v m u k plain g = clash (holds m.store.heap base.value never) k (never_none m.store.heap base.value)
field_so [] name type base v m u k plain g =
    by_side (one_of (holds m.store.heap base.value index_fail) (holds m.store.heap base.value (field_is name type)) (sym (union_holds m.store.heap base.value index_fail (field_is name type)) ∙ k))
  where
    by_side : (holds m.store.heap base.value index_fail ≡ true) ⊎ (holds m.store.heap base.value (field_is name type) ≡ true) → holds u.store.heap v type ≡ true
    by_side (inl i) = clash (holds m.store.heap base.value index_fail) i g.0.indexable
    by_side (inr i) = subst (λ (x : Store). holds x.heap v type ≡ true) (sym g.0.same.0) (field_in m.store.heap name base.value v type i (g.1 plain))

-- where the base is evaluated from s to m, and the field is read at t
field_pays : (an : Analysis) (w : World) (s m t u : State) (frame : Frame) (map : TypeMap) (e : Expr) (name : List ℕ) (type : Term) (vs : List Value) (base : Base) (v : Value) → Fit an → Runs an w s frame
    → Inside frame (of_expr e) (stats_of_expr e) → Pays an frame e s vs m → base.value ≡ first vs → base.is_library ≡ is_library frame e
    → ((set : Term) → holds m.store.heap base.value set ≡ true → holds t.store.heap base.value set ≡ true) → NamedGives t name base v u
    → Violated an frame (ev (rules_of an frame) (seen_of an frame) e (read_set (index_kinds (seen_of an frame) e) name type)) s → holds u.store.heap v type ≡ true
field_pays an w s m t u frame map e name type vs base v fit r inside pays is lib lasts g h = by_library (is_library frame e) refl
  where
    by_library : (b : Bool) → is_library frame e ≡ b → holds u.store.heap v type ≡ true
    by_library true k = absurd (none_violated an frame s
        (subst (λ (c : Context). Violated an frame c s) ((library_facts an w s frame map e fit r inside k).unasked (read_set (index_kinds (seen_of an frame) e) name type)) h))
    by_library false k = field_so (index_kinds (seen_of an frame) e) name type base v t u (lasts (read_set (index_kinds (seen_of an frame) e) name type)
        (subst (λ (x : Value). holds m.store.heap x (read_set (index_kinds (seen_of an frame) e) name type) ≡ true) (sym is) (pays.context (read_set (index_kinds (seen_of an frame) e) name type) h)))
        (lib ∙ k) g

-- ---- `a.p`

pub within_index : (frame : Frame) (id : ℕ) (span : _) (base : Expr) (name : List ℕ) → Inside frame (of_expr (the_expr id span (Index base name))) (stats_of_expr (the_expr id span (Index base name)))
    → Inside frame (of_expr base) (stats_of_expr base)
within_index frame id span base name h = record { nodes = sub_tail (AnExpr (the_expr id span (Index base name))) (of_expr base) (of_block frame.reading.block) h.nodes; stats = h.stats }

pub index_forward : (an : Analysis) (l : Layer) → Fit an → Forward an l → (w : World) (s : State) (frame : Frame) (map : TypeMap) (id : ℕ) (span : _) (base : Expr) (name : List ℕ)
    → frame.reading.use_of id ≡ None → Fine an w s → Runs an w s frame → Held an frame map s
    → Inside frame (of_expr (the_expr id span (Index base name))) (stats_of_expr (the_expr id span (Index base name)))
    → Placed an frame (seen_expr (rules_of an frame) map (the_expr id span (Index base name)))
    → Ends an (expr_of an frame (the_expr id span (Index base name))) w s (Gives an frame map (the_expr id span (Index base name))) (values an.program l frame (the_expr id span (Index base name)) s)
unfolding ◌>>=◌
index_forward an l fit fwd w s frame map id span base name unused f r h inside placed =
    ends_values an an.program l (expr_of an frame base) w s frame id span (Index base name) (Gives an frame map (the_expr id span (Index base name))) f r refl
    (λ t z g k same. subst (λ (o : Option Use). Ends an (expr_of an frame base) z t (Gives an frame map (the_expr id span (Index base name))) (evaluate_or_builtin an.program l frame id (Index base name) o t)) (sym unused)
    (ends_so an (expr_of an frame base) z t (λ vs u. (v : Value) × (vs ≡ v ∷ []) × OneGives an frame map id (Index base name) v u) (Gives an frame map (the_expr id span (Index base name)))
    (one (◌>>=◌ (base_of l frame base) (λ b. named_field an.program name b)) t)
    (λ vs u y q d i p. index_gives an frame map id span base name vs u (ap (λ (x : ReadModule). x.use_of id) (reads_same an w s frame fit r) ∙ unused) p)
    (ends_one an (expr_of an frame base) z t (OneGives an frame map id (Index base name)) (◌>>=◌ (base_of l frame base) (λ b. named_field an.program name b))
    (ends_then an (expr_of an frame base) z t (BaseGives an frame map base) (OneGives an frame map id (Index base name)) (base_of l frame base t) (λ b. named_field an.program name b)
    (base_forward an l fwd z t frame map base g (runs_kept an (expr_of an frame base) w z s t frame k r) (held_store an s t frame map same h) (within_index frame id span base name inside)
    (sub_tail _ (seen_expr (rules_of an frame) map base) (seen_of an frame) placed))
    (λ b m y d i p. ends_so an (expr_of an frame base) y m (NamedGives m name b) (OneGives an frame map id (Index base name)) (named_field an.program name b m)
    (λ v u x q c n p2. record {
      stands = subst (λ (a : Store). Stands a.heap v) (sym p2.0.same.0) p2.0.stands;
      typed = read_typed an w s frame map base name b v m m u fit r (within_index frame id span base name inside)
          (subst (λ (a : Value). holds m.store.heap a (typ (rules_of an frame) map base) ≡ true) (sym p.0.1) p.0.2.0.typed) p.1 refl p2;
      guard_shows = λ x firm. inl refl;
    }) (named_field_ends an (expr_of an frame base) y m name b d))))))

pub index_backward : (an : Analysis) (l : Layer) → Fit an → Forward an l → Backward an l → (w : World) (s : State) (frame : Frame) (map : TypeMap) (id : ℕ) (span : _) (base : Expr) (name : List ℕ)
    (around : List ReportKind) → frame.reading.use_of id ≡ None → Fine an w s → Runs an w s frame → Held an frame map s
    → Inside frame (of_expr (the_expr id span (Index base name))) (stats_of_expr (the_expr id span (Index base name)))
    → Placed an frame (seen_expr (rules_of an frame) map (the_expr id span (Index base name)))
    → Marked an frame (found (rules_of an frame) (seen_of an frame) around (the_expr id span (Index base name)))
    → (vs : List Value) (u : State) → values an.program l frame (the_expr id span (Index base name)) s ≡ Gave vs u → Pays an frame (the_expr id span (Index base name)) s vs u
unfolding ◌>>=◌ check_base
index_backward an l fit fwd bwd w s frame map id span base name around unused f r h inside placed marked vs u q =
    index_backward_at an l w s frame id span base name vs u fit unused f r q
    (λ z m g j same k. by_one z m g j (held_store an s m frame map same h) (one_gave (◌>>=◌ (base_of l frame base) (λ b. named_field an.program name b)) m vs u k))
  where
    placed_base : Placed an frame (seen_expr (rules_of an frame) map base)
    placed_base = sub_tail _ (seen_expr (rules_of an frame) map base) (seen_of an frame) placed

    marked_base : Marked an frame (found (rules_of an frame) (seen_of an frame) (index_kinds (seen_of an frame) base) base)
    marked_base = subst (λ (o : Option Use). Marked an frame (found (rules_of an frame) (seen_of an frame) (read_kinds (seen_of an frame) o base) base))
        (ap (λ (x : ReadModule). x.use_of id) (reads_same an w s frame fit r) ∙ unused)
        (sub_tail _ (found (rules_of an frame) (seen_of an frame) (read_kinds (seen_of an frame) ((rules_of an frame).reading.use_of id) base) base) (findings (rules_of an frame)) marked)

    by_one : (z : World) (m : State) → Fine an z m → Runs an z m frame → Held an frame map m
        → (v : Value) × (◌>>=◌ (base_of l frame base) (λ b. named_field an.program name b) m ≡ Gave v u) × (vs ≡ v ∷ []) → FormPays an frame id (Index base name) m vs u
    by_one z m g j held (v, k, e) = by_base (gave_then (base_of l frame base m) (λ b. named_field an.program name b) v u k)
      where
        by_base : (b : Base) × (t : State) × (base_of l frame base m ≡ Gave b t) × (named_field an.program name b t ≡ Gave v u) → FormPays an frame id (Index base name) m vs u
        by_base (b, t, gave_base, gave_field) = by_value (base_gave l frame base m b t gave_base)
          where
            by_value : (xs : List Value) × (l.values frame base m ≡ Gave xs t) × (b.value ≡ first xs) × (b.is_library ≡ is_library frame base) → FormPays an frame id (Index base name) m vs u
            by_value (xs, n, is, lib) = by_evaluated (evaluated an l fwd bwd z m frame map base (index_kinds (seen_of an frame) base) g j held (within_index frame id span base name inside)
                placed_base marked_base xs t n)
              where
                by_evaluated : Evaluated an z m frame map base xs t → FormPays an frame id (Index base name) m vs u
                by_evaluated o = by_field (ends_gave an (expr_of an frame base) o.world t (NamedGives t name b) (named_field an.program name b t) v u gave_field
                    (named_field_ends an (expr_of an frame base) o.world t name b o.fine))
                  where
                    by_field : (y : World) × Fine an y u × Kept an (expr_of an frame base) o.world t y u × NamedGives t name b v u → FormPays an frame id (Index base name) m vs u
                    by_field (y, d, kept, p) = record {
                      context = λ type i. subst (λ (a : List Value). holds u.store.heap (first a) type ≡ true) (sym e)
                          (field_pays an z m t t u frame map base name type xs b v fit j (within_index frame id span base name inside) o.pays is lib (λ set n. n) p i);
                      count = ap (λ trace. reached an frame.activation trace) p.0.same.1
                          ∙ operand_quiet an z m frame map base (by_set an frame base index_fail (Operand IndexOp)) xs t fit j placed_base marked_base o.gives o.pays
                          (λ i. clash (holds t.store.heap b.value index_fail) (subst (λ (a : Value). holds t.store.heap a index_fail ≡ true) (sym is) i) p.0.indexable);
                      own = refl;
                    }

-- ---- `a[k]`

at_form : (base key : Expr) → IsForm (At base key)
at_form base key = record { nameless = refl; pathless = refl; no_local = λ rules id span. refl }

pub within_at : (frame : Frame) (id : ℕ) (span : _) (base key : Expr) → Inside frame (of_expr (the_expr id span (At base key))) (stats_of_expr (the_expr id span (At base key)))
    → Inside frame (of_expr base ++ of_expr key) (stats_of_expr base ++ stats_of_expr key)
within_at frame id span base key h = record { nodes = sub_tail (AnExpr (the_expr id span (At base key))) (of_expr base ++ of_expr key) (of_block frame.reading.block) h.nodes; stats = h.stats }

-- what an element gives: by a key that is written as a string it is a field
abbrev pub LiteralGives : Expr → State → Base → Value → State → Type 0
LiteralGives (the_expr id span (StrExpr name)) t b v u = NamedGives t name b v u
LiteralGives _ t b v u = Indexed t b.value v u

pub literal_ends : (an : Analysis) (who : Doer) (w : World) (t : State) (key : Expr) (k : Value) (b : Base) → Fine an w t → KeyIs key k → Ends an who w t (LiteralGives key t b) (element an.program k b t)
literal_ends an who w t (the_expr id span (StrExpr name)) k b f is = subst (λ (x : Value). Ends an who w t (NamedGives t name b) (element an.program x b t)) (sym is) (named_field_ends an who w t name b f)
literal_ends an who w t (the_expr id span _) k b f is = element_ends an who w t k b f

pub literal_indexed : (key : Expr) (t : State) (b : Base) (v : Value) (u : State) → LiteralGives key t b v u → Indexed t b.value v u
literal_indexed (the_expr id span (StrExpr name)) t b v u g = g.0
literal_indexed (the_expr id span _) t b v u g = g

-- the element's type, where the base is still of its type
pub element_typed : (an : Analysis) (w : World) (s : State) (frame : Frame) (map : TypeMap) (id : ℕ) (base key : Expr) (b : Base) (v : Value) (n u : State) → Fit an → Runs an w s frame
    → Inside frame (of_expr base) (stats_of_expr base) → holds n.store.heap b.value (held (effects (rules_of an frame) key) (typ (rules_of an frame) map base)) ≡ true
    → b.is_library ≡ is_library frame base → LiteralGives key n b v u → holds u.store.heap v (type_of_kind (rules_of an frame) map id (At base key)) ≡ true
element_typed an w s frame map id base (the_expr key_id span (StrExpr name)) b v n u fit r inside typed lib g = read_typed an w s frame map base name b v n n u fit r inside typed lib refl g
element_typed an w s frame map id base (the_expr key_id span _) b v n u fit r inside typed lib g = unknown_all u.store.heap v

pub at_forward : (an : Analysis) (l : Layer) → Fit an → Forward an l → (w : World) (s : State) (frame : Frame) (map : TypeMap) (id : ℕ) (span : _) (base key : Expr) → Fine an w s
    → Runs an w s frame → Held an frame map s → Inside frame (of_expr (the_expr id span (At base key))) (stats_of_expr (the_expr id span (At base key)))
    → Placed an frame (seen_expr (rules_of an frame) map (the_expr id span (At base key)))
    → Ends an (expr_of an frame (the_expr id span (At base key))) w s (Gives an frame map (the_expr id span (At base key))) (values an.program l frame (the_expr id span (At base key)) s)
unfolding ◌>>=◌
at_forward an l fit fwd w s frame map id span base key f r h inside placed =
    form_forward an l w s frame id span (At base key) (Gives an frame map (the_expr id span (At base key))) fit (at_form base key) f r inside
    (λ t z g j same. ends_so an who z t (λ vs u. (v : Value) × (vs ≡ v ∷ []) × OneGives an frame map id (At base key) v u) (Gives an frame map (the_expr id span (At base key)))
    (one (◌>>=◌ (base_of l frame base) (λ b. ◌>>=◌ (value l frame key) (λ k. element an.program k b))) t)
    (λ vs u y q d k p. one_gives an frame map id span (At base key) vs u (at_form base key) (λ rules. refl) (form_read an w s frame id span (At base key) fit (at_form base key) r inside) p)
    (ends_one an who z t (OneGives an frame map id (At base key)) (◌>>=◌ (base_of l frame base) (λ b. ◌>>=◌ (value l frame key) (λ k. element an.program k b)))
    (ends_then an who z t (BaseGives an frame map base) (OneGives an frame map id (At base key)) (base_of l frame base t) (λ b. ◌>>=◌ (value l frame key) (λ k. element an.program k b))
    (ends_more an (expr_of an frame base) who z t (BaseGives an frame map base) (base_of l frame base t) (may_first frame (effects (rules_of an frame) base) (effects (rules_of an frame) key))
    (base_forward an l fwd z t frame map base g j (held_store an s t frame map same h) inside_base placed_base))
    (λ b m y d i p. after_base b m y d (runs_kept an who z y t m frame i j) p))))
  where
    who : Doer
    who = part_of frame (effects (rules_of an frame) base || effects (rules_of an frame) key)

    inside_base : Inside frame (of_expr base) (stats_of_expr base)
    inside_base = inside_left frame (of_expr base) (of_expr key) (stats_of_expr base) (stats_of_expr key) (within_at frame id span base key inside)

    inside_key : Inside frame (of_expr key) (stats_of_expr key)
    inside_key = inside_right frame (of_expr base) (of_expr key) (stats_of_expr base) (stats_of_expr key) (within_at frame id span base key inside)

    placed_both : Placed an frame (seen_expr (rules_of an frame) map base ++ seen_expr (rules_of an frame) (after (rules_of an frame) map base) key)
    placed_both = sub_tail _ (seen_expr (rules_of an frame) map base ++ seen_expr (rules_of an frame) (after (rules_of an frame) map base) key) (seen_of an frame) placed

    placed_base : Placed an frame (seen_expr (rules_of an frame) map base)
    placed_base = sub_left (seen_expr (rules_of an frame) map base) (seen_expr (rules_of an frame) (after (rules_of an frame) map base) key) (seen_of an frame) placed_both

    placed_key : Placed an frame (seen_expr (rules_of an frame) (after (rules_of an frame) map base) key)
    placed_key = sub_right (seen_expr (rules_of an frame) map base) (seen_expr (rules_of an frame) (after (rules_of an frame) map base) key) (seen_of an frame) placed_both

    -- after the key: its value, and the base as it is held
    Keyed : Base → Value → State → Type 0
    Keyed b k n = KeyIs key k × (holds n.store.heap b.value (held (effects (rules_of an frame) key) (typ (rules_of an frame) map base)) ≡ true)

    after_base : (b : Base) (m : State) (y : World) → Fine an y m → Runs an y m frame → BaseGives an frame map base b m
        → Ends an who y m (OneGives an frame map id (At base key)) (go_on (value l frame key m) (λ k. element an.program k b))
    after_base b m y d j p = ends_then an who y m (Keyed b) (OneGives an frame map id (At base key)) (value l frame key m) (λ k. element an.program k b)
        (ends_more an (expr_of an frame key) who y m (Keyed b) (value l frame key m) (may_second frame (effects (rules_of an frame) base) (effects (rules_of an frame) key))
        (ends_so an (expr_of an frame key) y m (FirstOf (After an frame (after (rules_of an frame) map base) key)) (Keyed b) (value l frame key m)
        (λ k n x e g kept q. (
          subst (λ (a : Value). KeyIs key a) (sym q.1) (key_is an y m frame (after (rules_of an frame) map base) key q.0 n fit j inside_key q.2.0),
          held_typed an y x m n frame (effects (rules_of an frame) key) b.value (typ (rules_of an frame) map base) d kept
              (subst (λ (a : Value). Stands m.store.heap a) (sym p.0.1) (first_stands m.store.heap p.0.0 p.0.2.0.stand))
              (subst (λ (a : Value). holds m.store.heap a (typ (rules_of an frame) map base) ≡ true) (sym p.0.1) p.0.2.0.typed),
        ))
        (value_forward an l fwd y m frame (after (rules_of an frame) map base) key d j p.0.2.1 inside_key placed_key)))
        (λ k n x c i q. ends_so an who x n (LiteralGives key n b) (OneGives an frame map id (At base key)) (element an.program k b n)
        (λ v u a e g kept o. record {
          stands = subst (λ (z : Store). Stands z.heap v) (sym (literal_indexed key n b v u o).same.0) (literal_indexed key n b v u o).stands;
          typed = element_typed an w s frame map id base key b v n u fit r inside_base q.1 p.1 o;
          guard_shows = λ x firm. inl refl;
        })
        (literal_ends an who x n key k b c q.0))

-- a key that is written as a string is calm
literal_calm : (rules : Rules) (key : Expr) (name : List ℕ) (id : ℕ) (span : _) → key ≡ the_expr id span (StrExpr name) → effects rules key ≡ false
literal_calm rules key name id span e = ap (λ (x : Expr). effects rules x) e

module _ (an : Analysis) (l : Layer) (fit : Fit an) (fwd : Forward an l) (bwd : Backward an l) (w : World) (s : State) (frame : Frame) (map : TypeMap) (id : ℕ) (span : _) (base key : Expr)
    (f : Fine an w s) (r : Runs an w s frame) (inside : Inside frame (of_expr (the_expr id span (At base key))) (stats_of_expr (the_expr id span (At base key))))
    (placed : Placed an frame (seen_expr (rules_of an frame) map (the_expr id span (At base key)))) where
  base_inside : Inside frame (of_expr base) (stats_of_expr base)
  base_inside = inside_left frame (of_expr base) (of_expr key) (stats_of_expr base) (stats_of_expr key) (within_at frame id span base key inside)

  key_inside : Inside frame (of_expr key) (stats_of_expr key)
  key_inside = inside_right frame (of_expr base) (of_expr key) (stats_of_expr base) (stats_of_expr key) (within_at frame id span base key inside)

  both_placed : Placed an frame (seen_expr (rules_of an frame) map base ++ seen_expr (rules_of an frame) (after (rules_of an frame) map base) key)
  both_placed = sub_tail _ (seen_expr (rules_of an frame) map base ++ seen_expr (rules_of an frame) (after (rules_of an frame) map base) key) (seen_of an frame) placed

  base_placed : Placed an frame (seen_expr (rules_of an frame) map base)
  base_placed = sub_left (seen_expr (rules_of an frame) map base) (seen_expr (rules_of an frame) (after (rules_of an frame) map base) key) (seen_of an frame) both_placed

  key_placed : Placed an frame (seen_expr (rules_of an frame) (after (rules_of an frame) map base) key)
  key_placed = sub_right (seen_expr (rules_of an frame) map base) (seen_expr (rules_of an frame) (after (rules_of an frame) map base) key) (seen_of an frame) both_placed

-- what was asked of the base, by the key
at_context : (an : Analysis) (w z : World) (s t n u : State) (frame : Frame) (map : TypeMap) (id : ℕ) (base key : Expr) (type : Term) (xs ys : List Value) (b : Base) (v : Value) → Fit an → Fine an w s
    → Runs an w s frame → Inside frame (of_expr base) (stats_of_expr base) → Placed an frame (seen_expr (rules_of an frame) map base)
    → Marked an frame (found (rules_of an frame) (seen_of an frame) (index_kinds (seen_of an frame) base) base)
    → (o : Evaluated an w s frame map base xs t) → Evaluated an o.world t frame (after (rules_of an frame) map base) key ys n → b.value ≡ first xs → b.is_library ≡ is_library frame base
    → LiteralGives key n b v u → Violated an frame (ev_in (rules_of an frame) (seen_of an frame) id (At base key) type) s → holds u.store.heap v type ≡ true
at_context an w z s t n u frame map id base (the_expr key_id key_span (StrExpr name)) type xs ys b v fit f r inside placed marked o i is lib g h =
    field_pays an w s t n u frame map base name type xs b v fit r inside o.pays is lib
    (λ set e. grown_holds t.store.heap n.store.heap b.value set o.fine.fields
    (subst (λ (a : Value). Stands t.store.heap a) (sym is) (first_stands t.store.heap xs o.gives.stand)) (i.kept.calm refl) e) g h
at_context an w z s t n u frame map id base (the_expr key_id key_span kind) type xs ys b v fit f r inside placed marked o i is lib g h =
    absurd (by_side (violated_followed an w o.world s t frame (ev (rules_of an frame) (seen_of an frame) base (left (index_kinds (seen_of an frame) base) index_fail))
    (ev (rules_of an frame) (seen_of an frame) (the_expr key_id key_span kind) never) (effects (rules_of an frame) base) f r o.kept h))
  where
    by_side : Violated an frame (ev (rules_of an frame) (seen_of an frame) base (left (index_kinds (seen_of an frame) base) index_fail)) s
        ⊎ Violated an frame (ev (rules_of an frame) (seen_of an frame) (the_expr key_id key_span kind) never) t → ⊥
    by_side (inl x) = operand_safe an w s frame map base (by_set an frame base index_fail (Operand IndexOp)) xs t fit r placed marked o.gives o.pays
        (λ y. clash (holds n.store.heap b.value index_fail)
        (kinds_hold n.store.heap b.value unindexable ∙ (sym (kinds_hold t.store.heap b.value unindexable) ∙ subst (λ (a : Value). holds t.store.heap a index_fail ≡ true) (sym is) y))
        (literal_indexed (the_expr key_id key_span kind) n b v u g).indexable) x
    by_side (inr x) = unchecked_context an frame (the_expr key_id key_span kind) t ys n i.pays x

pub at_backward : (an : Analysis) (l : Layer) → Fit an → Forward an l → Backward an l → (w : World) (s : State) (frame : Frame) (map : TypeMap) (id : ℕ) (span : _) (base key : Expr)
    (around : List ReportKind) → Fine an w s → Runs an w s frame → Held an frame map s
    → Inside frame (of_expr (the_expr id span (At base key))) (stats_of_expr (the_expr id span (At base key)))
    → Placed an frame (seen_expr (rules_of an frame) map (the_expr id span (At base key)))
    → Marked an frame (found (rules_of an frame) (seen_of an frame) around (the_expr id span (At base key)))
    → (vs : List Value) (u : State) → values an.program l frame (the_expr id span (At base key)) s ≡ Gave vs u → Pays an frame (the_expr id span (At base key)) s vs u
unfolding ◌>>=◌
at_backward an l fit fwd bwd w s frame map id span base key around f r h inside placed marked vs u q =
    form_backward an l w s frame id span (At base key) vs u fit (at_form base key) f r inside q
    (λ z m g j same k. by_one z m g j (held_store an s m frame map same h)
    (one_gave (◌>>=◌ (base_of l frame base) (λ b. ◌>>=◌ (value l frame key) (λ k. element an.program k b))) m vs u k))
  where
    marked_both : Marked an frame (found (rules_of an frame) (seen_of an frame) (index_kinds (seen_of an frame) base) base ++ found (rules_of an frame) (seen_of an frame) [] key)
    marked_both = subst (λ (o : Option Use). Marked an frame (found (rules_of an frame) (seen_of an frame) (read_kinds (seen_of an frame) o base) base ++ found (rules_of an frame) (seen_of an frame) [] key))
        (form_read an w s frame id span (At base key) fit (at_form base key) r inside)
        (sub_tail _ (found (rules_of an frame) (seen_of an frame) (read_kinds (seen_of an frame) ((rules_of an frame).reading.use_of id) base) base ++ found (rules_of an frame) (seen_of an frame) [] key)
        (findings (rules_of an frame)) marked)

    marked_base : Marked an frame (found (rules_of an frame) (seen_of an frame) (index_kinds (seen_of an frame) base) base)
    marked_base = sub_left (found (rules_of an frame) (seen_of an frame) (index_kinds (seen_of an frame) base) base) (found (rules_of an frame) (seen_of an frame) [] key) (findings (rules_of an frame)) marked_both

    marked_key : Marked an frame (found (rules_of an frame) (seen_of an frame) [] key)
    marked_key = sub_right (found (rules_of an frame) (seen_of an frame) (index_kinds (seen_of an frame) base) base) (found (rules_of an frame) (seen_of an frame) [] key) (findings (rules_of an frame)) marked_both

    inside_base : Inside frame (of_expr base) (stats_of_expr base)
    inside_base = base_inside an l fit fwd bwd w s frame map id span base key f r inside placed

    inside_key : Inside frame (of_expr key) (stats_of_expr key)
    inside_key = key_inside an l fit fwd bwd w s frame map id span base key f r inside placed

    placed_base : Placed an frame (seen_expr (rules_of an frame) map base)
    placed_base = base_placed an l fit fwd bwd w s frame map id span base key f r inside placed

    placed_key : Placed an frame (seen_expr (rules_of an frame) (after (rules_of an frame) map base) key)
    placed_key = key_placed an l fit fwd bwd w s frame map id span base key f r inside placed

    by_one : (z : World) (m : State) → Fine an z m → Runs an z m frame → Held an frame map m
        → (v : Value) × (◌>>=◌ (base_of l frame base) (λ b. ◌>>=◌ (value l frame key) (λ k. element an.program k b)) m ≡ Gave v u) × (vs ≡ v ∷ []) → FormPays an frame id (At base key) m vs u
    by_one z m g j held (v, k, e) = by_base (gave_then (base_of l frame base m) (λ b. ◌>>=◌ (value l frame key) (λ k. element an.program k b)) v u k)
      where
        by_base : (b : Base) × (t : State) × (base_of l frame base m ≡ Gave b t) × (◌>>=◌ (value l frame key) (λ k. element an.program k b) t ≡ Gave v u) → FormPays an frame id (At base key) m vs u
        by_base (b, t, gave_base, gave_key) = by_value (base_gave l frame base m b t gave_base) (gave_then (value l frame key t) (λ k. element an.program k b) v u gave_key)
          where
            by_value : (xs : List Value) × (l.values frame base m ≡ Gave xs t) × (b.value ≡ first xs) × (b.is_library ≡ is_library frame base)
                → (y : Value) × (n : State) × (value l frame key t ≡ Gave y n) × (element an.program y b n ≡ Gave v u) → FormPays an frame id (At base key) m vs u
            by_value (xs, c, is, lib) (y, n, gave_y, gave_element) = by_evaluated (evaluated an l fwd bwd z m frame map base (index_kinds (seen_of an frame) base) g j held inside_base placed_base marked_base xs t c)
                (value_gave l frame key t y n gave_y)
              where
                by_evaluated : Evaluated an z m frame map base xs t → (ys : List Value) × (l.values frame key t ≡ Gave ys n) × (y ≡ first ys) → FormPays an frame id (At base key) m vs u
                by_evaluated o (ys, d, key_is_first) = by_key (evaluated an l fwd bwd o.world t frame (after (rules_of an frame) map base) key [] o.fine o.runs o.held inside_key placed_key marked_key ys n d)
                  where
                    by_key : Evaluated an o.world t frame (after (rules_of an frame) map base) key ys n → FormPays an frame id (At base key) m vs u
                    by_key i = by_element (ends_gave an (expr_of an frame key) i.world n (LiteralGives key n b) (element an.program y b n) v u gave_element
                        (literal_ends an (expr_of an frame key) i.world n key y b i.fine
                        (subst (λ (a : Value). KeyIs key a) (sym key_is_first) (key_is an o.world t frame (after (rules_of an frame) map base) key ys n fit o.runs inside_key i.gives))))
                      where
                        by_element : (a : World) × Fine an a u × Kept an (expr_of an frame key) i.world n a u × LiteralGives key n b v u → FormPays an frame id (At base key) m vs u
                        by_element (a, fine_u, kept, p) = record {
                          context = λ type x. subst (λ (c : List Value). holds u.store.heap (first c) type ≡ true) (sym e)
                              (at_context an z z m t n u frame map id base key type xs ys b v fit g j inside_base placed_base marked_base o i is lib p x);
                          count = ap (λ trace. reached an frame.activation trace) (literal_indexed key n b v u p).same.1
                              ∙ (unchecked_count an o.world t frame key ys t n fit o.runs marked_key i.pays
                              ∙ operand_quiet an z m frame map base (by_set an frame base index_fail (Operand IndexOp)) xs t fit j placed_base marked_base o.gives o.pays
                              (λ x. clash (holds n.store.heap b.value index_fail)
                              (kinds_hold n.store.heap b.value unindexable ∙ (sym (kinds_hold t.store.heap b.value unindexable) ∙ subst (λ (c : Value). holds t.store.heap c index_fail ≡ true) (sym is) x))
                              (literal_indexed key n b v u p).indexable));
                          own = refl;
                        }
