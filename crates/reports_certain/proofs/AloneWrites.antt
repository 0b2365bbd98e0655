-- A write that stands alone: where a field of a local is written, its rows have the field with the value's type.
use Rattle.std.proofs.Common.{◌≡◌, ℕ, ◌==◌, Bool, true, false, if◌then◌else◌, List, [], ◌∷◌, Option, Some, None, inl, refl, sym, ◌∙◌, subst, slice_get}
use Rattle.std.proofs.lemmas.Bool.{eqb-true}
use Rattle.luau_values.specs.Value.{Value, Nil, Truth, Num, Str, Tab, Lit, Builtin, Other}
use Rattle.luau_values.specs.Stands.{Stands}
use Rattle.luau_run.specs.Machine.{Store, State, give}
use Rattle.luau_run.specs.Layer.{Frame}
use Rattle.luau_run.specs.Operators.{set_field}
use Rattle.luau_run.specs.Expressions.{cell_of}
use Rattle.luau_run.specs.Statements.{Target, LocalTarget, GlobalTarget, FieldTarget, ElementTarget, set_element, write_to}
use Rattle.type_arena.specs.Term.{Term}
use Rattle.type_normal.specs.Holds.{holds}
use Rattle.type_normal.specs.Rows.{is_empty}
use Rattle.type_normal.specs.HeapFree.{widen_at, free_of_name}
use Rattle.type_normal.specs.Cut.{cut_up}
use Rattle.type_normal.specs.Field.{with_row_field}
use Rattle.type_normal.proofs.Public.{cut_up_above, widen_at_above, widen_at_of, free_of_written, row_written, row_beside}
use Rattle.report_rules.specs.Rules.{loose}
use Rattle.report_rules.specs.Effects.{OfLocal, OfGlobal, OfField, OfElement}
use Rattle.report_rules.specs.Effects as rules_say
use Rattle.report_rules.specs.TypeMap.{TypeMap, set, widened, widened_at, written}
use Rattle.run_frame.specs.Analysis.{Analysis, is_loose}
use Rattle.run_frame.proofs.World.{World}
use Rattle.run_frame.proofs.Kept.{Doer}
use Rattle.run_frame.proofs.Fine.{HasValue, Fine}
use Rattle.run_frame.proofs.Held.{Runs, Reads, Held}
use Rattle.run_frame.proofs.Parts.{Ends, ends_so, ends_give}
use Rattle.run_frame.proofs.Layers.{rules_of}
use Rattle.reports_certain.proofs.Writes.{same_cell}
use Rattle.reports_certain.proofs.FieldWrites.{IsStored, Stored, held_stored, reads_stored, field_stored, field_ends, Names, Meets, base_in, table_ends}
use Rattle.reports_certain.proofs.ManyWrites.{full_type, still_live, is_ready, put_ends, MayWrite, held_under, held_disturbed, disturbed_of}

-- ---- an entry is set by what a local holds

same_value : (o : Option Value) (u v : Value) → o ≡ Some u → o ≡ Some v → u ≡ v
same_value o u v p q = cc

held_reset : (an : Analysis) (frame : Frame) (map : TypeMap) (t : State) (x c : ℕ) (v : Value) (type : Term) → Held an frame map t → Reads frame t x c v → holds t.store.heap v type ≡ true
    → Held an frame (set (rules_of an frame) x type map) t
held_reset an frame map t x c v type h reads here = record {
  live = still_live map.dead (loose (rules_of an frame) x) (is_empty type) h.live (full_type type (t.store.heap, v, here));
  full = λ y firm. by_name (y == x) y (h.full y firm);
  entries = λ y d u firm q. by_test y d u firm q (y == x) refl;
}
  where
    by_name : (b : Bool) (y : ℕ) → HasValue (map.entry y) → HasValue (if b then cut_up type else map.entry y)
    by_name true y q = (t.store.heap, v, cut_up_above t.store.heap v type here)
    by_name false y q = q

    by_test : (y d : ℕ) (u : Value) → is_loose an frame.module_at y ≡ false → Reads frame t y d u → (b : Bool) → (y == x) ≡ b
        → holds t.store.heap u (if b then cut_up type else map.entry y) ≡ true
    by_test y d u firm q false e = h.entries y d u firm q
    by_test y d u firm q true e = subst (λ (z : Value). holds t.store.heap z (cut_up type) ≡ true)
        (same_value (slice_get t.store.cells d) v u (subst (λ (n : ℕ). slice_get t.store.cells n ≡ Some v) same reads.1) q.1)
        (cut_up_above t.store.heap v type here)
      where
        same : c ≡ d
        same = same_cell (cell_of t.store.bindings frame.activation x) c d reads.0 (subst (λ (n : ℕ). cell_of t.store.bindings frame.activation n ≡ Some d) (eqb-true y x e) q.0)

-- ---- a field of a local

-- the local that a target's base is
abbrev pub base_local : rules_say.Target → Option ℕ
base_local (OfField base name) = base
base_local target = None

-- where it isn't loose it holds the base
abbrev pub IsBased : Analysis → Frame → State → rules_say.Target → Value → Type 0
IsBased an frame s r base = (x : ℕ) → base_local r ≡ Some x → is_loose an frame.module_at x ≡ false → (c : ℕ) × Reads frame s x c base

-- after the write the base is in its rows with the field
base_in_rows : (s t : State) (name : List ℕ) (base v : Value) (rows type : Term) → Stands s.store.heap base → holds s.store.heap v type ≡ true → holds s.store.heap base (widen_at name rows) ≡ true
    → IsStored s name base v t → holds t.store.heap base (with_row_field name (widen_at name type) (widen_at name rows)) ≡ true
base_in_rows s t name (Tab a) v rows type there typed h (thawed, e) =
    subst (λ (z : State). holds z.store.heap (Tab a) (with_row_field name (widen_at name type) (widen_at name rows)) ≡ true) (sym e)
    (row_written s.store.heap a name v (widen_at name rows) (widen_at name type) (widen_at_of name rows) there thawed h
    (free_of_written s.store.heap a name v v (widen_at name type) (widen_at_of name type) thawed (widen_at_above s.store.heap v name type typed)))
base_in_rows s t name (Other number) v rows type there typed h same =
    row_beside t.store.heap (Other number) name (widen_at name type) (widen_at name rows) (λ a q. cc)
    ∙ subst (λ (z : Store). holds z.heap (Other number) (widen_at name rows) ≡ true) (sym same.0) h
base_in_rows s t name Nil v rows type there typed h k = absurd k
base_in_rows s t name (Truth truth) v rows type there typed h k = absurd k
base_in_rows s t name (Num text) v rows type there typed h k = absurd k
base_in_rows s t name (Str bytes) v rows type there typed h k = absurd k
base_in_rows s t name (Lit home function cells) v rows type there typed h k = absurd k
base_in_rows s t name (Builtin path) v rows type there typed h k = absurd k

-- the map after a field was written
pub held_field : (an : Analysis) (frame : Frame) (map : TypeMap) (s t : State) (o : Option ℕ) (name : List ℕ) (base v : Value) (type : Term) → Held an frame map s → Stands s.store.heap base
    → holds s.store.heap v type ≡ true → IsBased an frame s (OfField o name) base → IsStored s name base v t → Held an frame (written (rules_of an frame) (OfField o name) type map) t
held_field an frame map s t o name base v type h there typed based p = by_local o based
  where
    kept : Stored (Names (OfField o name)) s base v t
    kept = field_stored (Names (OfField o name)) s name base v t refl p

    wide : Held an frame (widened_at name map) s
    wide = held_disturbed an frame (OfField o name ∷ []) map s (held_under an frame (OfField o name ∷ []) map s h)

    wide_after : Held an frame (widened_at name map) t
    wide_after = held_stored an (Names (OfField o name)) frame (widened_at name map) s base v t kept
        (λ x n e. subst (λ (m : List ℕ). free_of_name m (widen_at name (map.entry x)) ≡ true) (sym e) (widen_at_of name (map.entry x))) wide

    by_local : (z : Option ℕ) → IsBased an frame s (OfField z name) base → Held an frame (written (rules_of an frame) (OfField z name) type map) t
    by_local None b = wide_after
    by_local (Some x) b = by_loose (loose (rules_of an frame) x) refl
      where
        with_row : (c : ℕ) × Reads frame s x c base → is_loose an frame.module_at x ≡ false
            → Held an frame (set (rules_of an frame) x (with_row_field name (widen_at name type) (widen_at name (map.entry x))) (widened_at name map)) t
        with_row (c, reads) firm = held_reset an frame (widened_at name map) t x c base (with_row_field name (widen_at name type) (widen_at name (map.entry x))) wide_after
            (reads_stored (Names (OfField o name)) frame s base v t x c base kept reads)
            (base_in_rows s t name base v (map.entry x) type there typed (wide.entries x c base firm reads) p)

        by_loose : (l : Bool) → loose (rules_of an frame) x ≡ l
            → Held an frame (if l then widened_at name map else set (rules_of an frame) x (with_row_field name (widen_at name type) (widen_at name (map.entry x))) (widened_at name map)) t
        by_loose true e = wide_after
        by_loose false e = with_row (b x refl e) e

module _ (an : Analysis) (frame : Frame) (unassigned : (x : ℕ) (path : List ℕ) → (rules_of an frame).fixed x ≡ Some path → (rules_of an frame).assigned x ≡ false) where
  -- the map after a write that stands alone
  pub ends_alone : (who : Doer) (w : World) (s : State) (map : TypeMap) (r : rules_say.Target) (goal : Target) (type : Term) (v : Value) → Fine an w s → Runs an w s frame
      → Held an frame map s → who.runs ≡ Some frame.activation → Meets r goal → MayWrite who (rules_of an frame) r → Stands s.store.heap v → holds s.store.heap v type ≡ true
      → Stands s.store.heap (base_in goal) → IsBased an frame s r (base_in goal)
      → Ends an who w s (λ x t. Held an frame (written (rules_of an frame) r type map) t) (write_to frame goal v s)
  unfolding give
  ends_alone who w s map (OfLocal x) (LocalTarget y) type v f r h runs met may there typed stands based =
      subst (λ (n : ℕ). Ends an who w s (λ z t. Held an frame (set (rules_of an frame) x type map) t) (write_to frame (LocalTarget n) v s)) (sym met)
      (ends_so an who w s (λ z t. (t.store.heap ≡ s.store.heap) × Held an frame (set (rules_of an frame) x type map) t)
      (λ z t. Held an frame (set (rules_of an frame) x type map) t) (write_to frame (LocalTarget x) v s) (λ z t u e g k p. p.1)
      (put_ends an frame unassigned who w s [] map x type v f r h runs may there (is_ready s.store.heap [] type v typed)))
  ends_alone who w s map OfGlobal GlobalTarget type v f r h runs met may there typed stands based = ends_give an who w s (λ z t. Held an frame map t) (tt {0}) f h
  ends_alone who w s map (OfField o name) (FieldTarget b other) type v f r h runs met may there typed stands based =
      subst (λ (n : List ℕ). Ends an who w s (λ z t. Held an frame (written (rules_of an frame) (OfField o name) type map) t) (set_field n v b.value s)) (sym met)
      (ends_so an who w s (λ z t. IsStored s name b.value v t) (λ z t. Held an frame (written (rules_of an frame) (OfField o name) type map) t) (set_field name v b.value s)
      (λ z t u e g k p. held_field an frame map s t o name b.value v type h stands typed based p) (field_ends an who w s name v b.value may f there))
  ends_alone who w s map (OfField o name) (ElementTarget b key) type v f r h runs met may there typed stands based =
      subst (λ (n : Value). Ends an who w s (λ z t. Held an frame (written (rules_of an frame) (OfField o name) type map) t) (set_element n v b.value s)) (sym met)
      (ends_so an who w s (λ z t. IsStored s name b.value v t) (λ z t. Held an frame (written (rules_of an frame) (OfField o name) type map) t) (set_field name v b.value s)
      (λ z t u e g k p. held_field an frame map s t o name b.value v type h stands typed based p) (field_ends an who w s name v b.value may f there))
  ends_alone who w s map OfElement (ElementTarget b key) type v f r h runs met may there typed stands based =
      ends_so an who w s (λ z t. Stored (Names OfElement) s b.value v t) (λ z t. Held an frame (widened map) t) (write_to frame (ElementTarget b key) v s)
      (λ z t u e g k p. held_stored an (Names OfElement) frame (widened map) s b.value v t p (λ x name m. disturbed_of (OfElement ∷ []) (map.entry x) name (inl m))
      (held_disturbed an frame (OfElement ∷ []) map s (held_under an frame (OfElement ∷ []) map s h)))
      (table_ends an who w s frame OfElement (ElementTarget b key) v met tt may f there)
  ends_alone who w s map (OfLocal x) (_) type v f r h runs met may there typed stands based = absurd met
  ends_alone who w s map OfGlobal (_) type v f r h runs met may there typed stands based = absurd met
  ends_alone who w s map (OfField o name) (_) type v f r h runs met may there typed stands based = absurd met
  ends_alone who w s map OfElement (_) type v f r h runs met may there typed stands based = absurd met
