-- Writes to names, fields and elements, alone or from the left: the map after them matches.
use Rattle.std.proofs.Common.{◌≡◌, ℕ, ◌==◌, Bool, true, false, not, ◌&&◌, ◌||◌, if◌then◌else◌, List, [], ◌∷◌, length, Option, Some, None, ◌⊎◌, inl, inr, refl, sym, ◌∙◌, subst, arith, slice_get, slice_set, drop}
use Rattle.std.specs.List.{AllByRecursion}
use Rattle.std.proofs.lemmas.Bool.{eqb-true}
use Rattle.luau_values.specs.Value.{Value, Nil}
use Rattle.luau_values.specs.Heap.{Heap}
use Rattle.luau_values.specs.Stands.{Stands}
use Rattle.luau_values.proofs.Public.{stands_later}
use Rattle.luau_run.specs.Machine.{State, Ran, Gave, go_on, ◌>>=◌, give, spend, look, change}
use Rattle.luau_run.specs.Layer.{Frame, first}
use Rattle.luau_run.specs.Expressions.{cell_of, cell_or_spend}
use Rattle.luau_run.specs.Statements.{Target, LocalTarget, GlobalTarget, FieldTarget, ElementTarget, write_to, write_all}
use Rattle.type_arena.specs.Term.{Term}
use Rattle.type_normal.specs.Holds.{holds}
use Rattle.type_normal.specs.Rows.{is_empty}
use Rattle.type_normal.specs.HeapFree.{widen, widen_at, free_of_name}
use Rattle.type_normal.specs.Cut.{cut_up}
use Rattle.type_normal.specs.Kinds.{unknown}
use Rattle.type_normal.proofs.Public.{empty_holds, unknown_all, cut_up_above, widen_above, widen_at_above, widen_free, heap_free_of, widen_at_of, widen_at_keeps}
use Rattle.report_rules.specs.Rules.{Rules, loose}
use Rattle.report_rules.specs.Effects.{OfLocal, OfGlobal, OfField, OfElement}
use Rattle.report_rules.specs.Effects as rules_say
use Rattle.report_rules.specs.TypeMap.{TypeMap, set, widened, widened_at, first_type, not_given, stored_all, disturbed_all}
use Rattle.run_frame.specs.Analysis.{Analysis, is_loose}
use Rattle.run_frame.proofs.World.{World, all_map, set_get}
use Rattle.run_frame.proofs.Kept.{Doer, Kept}
use Rattle.run_frame.proofs.Fine.{HasValue, Fine}
use Rattle.run_frame.proofs.Held.{Runs, runs_kept, Reads, Held}
use Rattle.run_frame.proofs.Parts.{Ends, ends_then, ends_give}
use Rattle.run_frame.proofs.Cells.{assigned, kept_assigned, fine_assigned}
use Rattle.run_frame.proofs.Layers.{rules_of}
use Rattle.run_frame.proofs.Lists.{AreTyped}
use Rattle.reports_certain.proofs.Writes.{rest_types, store_one, first_there, rest_there, rest_count, set_here, same_cell, cells_apart, loose_so}
use Rattle.reports_certain.proofs.FieldWrites.{Stored, IsFreeOf, type_stored, held_stored, Names, Meets, base_in, table_ends}

clash : {P : Type 0} (b : Bool) → b ≡ true → b ≡ false → P
clash b p q = cc

-- ---- types after writes to tables

-- the names of fields that may be written at some targets
abbrev pub NamedIn : List rules_say.Target → List ℕ → Type 0
NamedIn [] name = ⊥
NamedIn (r ∷ rs) name = Names r name ⊎ NamedIn rs name

-- a type that is widened by each of them
abbrev pub disturbed_type : List rules_say.Target → Term → Term
disturbed_type [] type = type
disturbed_type (OfField base name ∷ rs) type = disturbed_type rs (widen_at name type)
disturbed_type (OfElement ∷ rs) type = disturbed_type rs (widen type)
disturbed_type (OfLocal x ∷ rs) type = disturbed_type rs type
disturbed_type (OfGlobal ∷ rs) type = disturbed_type rs type

disturbed_above : (rs : List rules_say.Target) (h : Heap) (v : Value) (type : Term) → holds h v type ≡ true → holds h v (disturbed_type rs type) ≡ true
disturbed_above [] h v type e = e
disturbed_above (OfField base name ∷ rs) h v type e = disturbed_above rs h v (widen_at name type) (widen_at_above h v name type e)
disturbed_above (OfElement ∷ rs) h v type e = disturbed_above rs h v (widen type) (widen_above h v type e)
disturbed_above (OfLocal x ∷ rs) h v type e = disturbed_above rs h v type e
disturbed_above (OfGlobal ∷ rs) h v type e = disturbed_above rs h v type e

disturbed_keeps : (rs : List rules_say.Target) (name : List ℕ) (type : Term) → free_of_name name type ≡ true → free_of_name name (disturbed_type rs type) ≡ true
disturbed_keeps [] name type e = e
disturbed_keeps (OfField base other ∷ rs) name type e = disturbed_keeps rs name (widen_at other type) (widen_at_keeps name other type e)
disturbed_keeps (OfElement ∷ rs) name type e = disturbed_keeps rs name (widen type) (heap_free_of name (widen type) (widen_free type))
disturbed_keeps (OfLocal x ∷ rs) name type e = disturbed_keeps rs name type e
disturbed_keeps (OfGlobal ∷ rs) name type e = disturbed_keeps rs name type e

-- it is free of what they write
pub disturbed_of : (rs : List rules_say.Target) (type : Term) → IsFreeOf (NamedIn rs) (disturbed_type rs type)
disturbed_of [] type name k = absurd k
disturbed_of (OfField base other ∷ rs) type name (inl e) =
    disturbed_keeps rs name (widen_at other type) (subst (λ (n : List ℕ). free_of_name n (widen_at other type) ≡ true) (sym e) (widen_at_of other type))
disturbed_of (OfField base other ∷ rs) type name (inr k) = disturbed_of rs (widen_at other type) name k
disturbed_of (OfElement ∷ rs) type name (inl e) = disturbed_keeps rs name (widen type) (heap_free_of name (widen type) (widen_free type))
disturbed_of (OfElement ∷ rs) type name (inr k) = disturbed_of rs (widen type) name k
disturbed_of (OfLocal x ∷ rs) type name (inl k) = absurd k
disturbed_of (OfLocal x ∷ rs) type name (inr k) = disturbed_of rs type name k
disturbed_of (OfGlobal ∷ rs) type name (inl k) = absurd k
disturbed_of (OfGlobal ∷ rs) type name (inr k) = disturbed_of rs type name k

-- ---- maps after writes to tables

-- a map each of whose entries is so widened
abbrev pub under : List rules_say.Target → TypeMap → TypeMap
under rs map = record { dead = map.dead; entry = λ x. disturbed_type rs (map.entry x) }

disturbed_dead : (rs : List rules_say.Target) (map : TypeMap) → (disturbed_all rs map).dead ≡ map.dead
disturbed_dead [] map = refl
disturbed_dead (OfField base name ∷ rs) map = disturbed_dead rs (widened_at name map)
disturbed_dead (OfElement ∷ rs) map = disturbed_dead rs (widened map)
disturbed_dead (OfLocal x ∷ rs) map = disturbed_dead rs map
disturbed_dead (OfGlobal ∷ rs) map = disturbed_dead rs map

disturbed_entry : (rs : List rules_say.Target) (map : TypeMap) (x : ℕ) → (disturbed_all rs map).entry x ≡ disturbed_type rs (map.entry x)
disturbed_entry [] map x = refl
disturbed_entry (OfField base name ∷ rs) map x = disturbed_entry rs (widened_at name map) x
disturbed_entry (OfElement ∷ rs) map x = disturbed_entry rs (widened map) x
disturbed_entry (OfLocal y ∷ rs) map x = disturbed_entry rs map x
disturbed_entry (OfGlobal ∷ rs) map x = disturbed_entry rs map x

-- maps with the same entries
held_equal : (an : Analysis) (frame : Frame) (map other : TypeMap) (s : State) → other.dead ≡ map.dead → ((x : ℕ) → other.entry x ≡ map.entry x) → Held an frame map s → Held an frame other s
held_equal an frame map other s dead entries h = record {
  live = dead ∙ h.live;
  full = λ x firm. subst (λ (type : Term). HasValue type) (sym (entries x)) (h.full x firm);
  entries = λ x c v firm q. subst (λ (type : Term). holds s.store.heap v type ≡ true) (sym (entries x)) (h.entries x c v firm q);
}

pub held_disturbed : (an : Analysis) (frame : Frame) (rs : List rules_say.Target) (map : TypeMap) (s : State) → Held an frame (under rs map) s → Held an frame (disturbed_all rs map) s
held_disturbed an frame rs map s h = held_equal an frame (under rs map) (disturbed_all rs map) s (disturbed_dead rs map) (disturbed_entry rs map) h

pub held_under : (an : Analysis) (frame : Frame) (rs : List rules_say.Target) (map : TypeMap) (s : State) → Held an frame map s → Held an frame (under rs map) s
held_under an frame rs map s h = record {
  live = h.live;
  full = λ x firm. let q : HasValue (map.entry x) = h.full x firm in (q.0, q.1, disturbed_above rs q.0 q.1 (map.entry x) q.2);
  entries = λ x c v firm q. disturbed_above rs s.store.heap v (map.entry x) (h.entries x c v firm q);
}

-- ---- values that wait to be written

-- a value that was of a type is of it as it is widened
abbrev pub IsReady : Heap → List rules_say.Target → Term → Value → Type 0
IsReady heap rs type v = HasValue type × (holds heap v (disturbed_type rs (cut_up type)) ≡ true)

abbrev pub AreReady : Heap → List rules_say.Target → List Term → List Value → Type 0
AreReady heap rs [] vs = Unit {0}
AreReady heap rs (type ∷ types) vs = IsReady heap rs type (first vs) × AreReady heap rs types (drop 1 vs)

pub is_ready : (heap : Heap) (rs : List rules_say.Target) (type : Term) (v : Value) → holds heap v type ≡ true → IsReady heap rs type v
is_ready heap rs type v e = ((heap, v, e), disturbed_above rs heap v (cut_up type) (cut_up_above heap v type e))

pub are_ready : (heap : Heap) (rs : List rules_say.Target) (types : List Term) (vs : List Value) → AreTyped heap types vs → AreReady heap rs types vs
are_ready heap rs [] vs h = tt
are_ready heap rs (type ∷ types) vs h = (is_ready heap rs type (first vs) h.0, are_ready heap rs types (drop 1 vs) h.1)

first_ready : (heap : Heap) (rs : List rules_say.Target) (expanding : Bool) (types : List Term) (vs : List Value) → AreReady heap rs types vs → (expanding ≡ false → length vs ≡ length types)
    → IsReady heap rs (first_type expanding types) (first vs)
first_ready heap rs expanding (type ∷ types) vs h number = h.0
first_ready heap rs true [] vs h number = is_ready heap rs unknown (first vs) (unknown_all heap (first vs))
first_ready heap rs false [] [] h number = is_ready heap rs (not_given false) Nil refl
first_ready heap rs false [] (v ∷ vs) h number = absurd (omega (arith, number refl))

rest_ready : (heap : Heap) (rs : List rules_say.Target) (types : List Term) (vs : List Value) → AreReady heap rs types vs → AreReady heap rs (rest_types types) (drop 1 vs)
rest_ready heap rs [] vs h = tt
rest_ready heap rs (type ∷ types) vs h = h.1

ready_stored : (may : List ℕ → Type 0) (s : State) (base v : Value) (t : State) (rs : List rules_say.Target) (types : List Term) (vs : List Value) → Stored may s base v t
    → ((name : List ℕ) → may name → NamedIn rs name) → AreReady s.store.heap rs types vs → AreReady t.store.heap rs types vs
ready_stored may s base v t rs [] vs k within h = tt
ready_stored may s base v t rs (type ∷ types) vs k within h = (
  (h.0.0, type_stored may s base v t (first vs) (disturbed_type rs (cut_up type)) k (λ name m. disturbed_of rs (cut_up type) name (within name m)) h.0.1),
  ready_stored may s base v t rs types (drop 1 vs) k within h.1,
)

-- ---- a local gets a value

pub full_type : (type : Term) → HasValue type → is_empty type ≡ false
full_type type (h, v, e) = by_test (is_empty type) refl
  where
    by_test : (b : Bool) → is_empty type ≡ b → b ≡ false
    by_test true k = clash (holds h v type) e (empty_holds h v type k)
    by_test false k = refl

pub still_live : (dead l empty : Bool) → dead ≡ false → empty ≡ false → dead || (not l && empty) ≡ false
still_live true l empty d e = d
still_live false true empty d e = refl
still_live false false empty d e = e

different : (m n : ℕ) → (m == n) ≡ false → m ≡ n → ⊥
different m n e q = clash (m == n) (subst (λ (k : ℕ). (m == k) ≡ true) q (itself m)) e
  where
    itself : (k : ℕ) → (k == k) ≡ true
    itself k = grind arith

held_put : (an : Analysis) (w : World) (s : State) (frame : Frame) (rs : List rules_say.Target) (map : TypeMap) (x c : ℕ) (value : Value) (type : Term) → Fine an w s → Held an frame (under rs map) s
    → cell_of s.store.bindings frame.activation x ≡ Some c → IsReady s.store.heap rs type value → Held an frame (under rs (set (rules_of an frame) x type map)) (assigned c value s)
held_put an w s frame rs map x c value type f h cell here = record {
  live = still_live map.dead (loose (rules_of an frame) x) (is_empty type) h.live (full_type type here.0);
  full = λ y firm. by_name (y == x) y (h.full y firm);
  entries = λ y d u firm q. by_test y d u firm q;
}
  where
    filled : HasValue type → HasValue (disturbed_type rs (cut_up type))
    filled (g, v, e) = (g, v, disturbed_above rs g v (cut_up type) (cut_up_above g v type e))

    by_name : (b : Bool) (y : ℕ) → HasValue (disturbed_type rs (map.entry y)) → HasValue (disturbed_type rs (if b then cut_up type else map.entry y))
    by_name true y q = filled here.0
    by_name false y q = q

    by_test : (y d : ℕ) (u : Value) → is_loose an frame.module_at y ≡ false → Reads frame (assigned c value s) y d u
        → holds s.store.heap u (disturbed_type rs (if y == x then cut_up type else map.entry y)) ≡ true
    by_test y d u firm q = by_same (y == x) refl
      where
        by_same : (b : Bool) → (y == x) ≡ b → holds s.store.heap u (disturbed_type rs (if b then cut_up type else map.entry y)) ≡ true
        by_same true e = subst (λ (v : Value). holds s.store.heap v (disturbed_type rs (cut_up type)) ≡ true)
            (set_here s.store.cells c value u (subst (λ (n : ℕ). slice_get (slice_set s.store.cells c value) n ≡ Some u)
            (same_cell (cell_of s.store.bindings frame.activation y) d c q.0 (subst (λ (n : ℕ). cell_of s.store.bindings frame.activation n ≡ Some c) (sym (eqb-true y x e)) cell)) q.1))
            here.1
        by_same false e = by_cell (set_get s.store.cells c d value u q.1)
          where
            by_cell : (slice_get s.store.cells d ≡ Some u) ⊎ ((value ≡ u) × (c ≡ d)) → holds s.store.heap u (disturbed_type rs (map.entry y)) ≡ true
            by_cell (inl k) = h.entries y d u firm (q.0, k)
            by_cell (inr k) = absurd (different y x e (cells_apart an w frame.activation y x c s.store.bindings f.bound
                (subst (λ (n : ℕ). cell_of s.store.bindings frame.activation y ≡ Some n) (sym k.1) q.0) cell))

-- the cell of a local is found, or the run is spent
local_ends : (an : Analysis) (who : Doer) (w : World) (s : State) (frame : Frame) (x : ℕ) (v : Value) (P : Unit {0} → State → Type 0) → Fine an w s
    → ((c : ℕ) → cell_of s.store.bindings frame.activation x ≡ Some c → Ends an who w s P (Gave (tt {0}) (assigned c v s))) → Ends an who w s P (write_to frame (LocalTarget x) v s)
unfolding ◌>>=◌ give spend look change
local_ends an who w s frame x v P f next = by_cell (cell_of s.store.bindings frame.activation x) refl
  where
    by_cell : (o : Option ℕ) → cell_of s.store.bindings frame.activation x ≡ o → Ends an who w s P (go_on (cell_or_spend o s) (λ cell t. Gave (tt {0}) (assigned cell v t)))
    by_cell None e = f.stays
    by_cell (Some c) e = next c e

-- ---- who may write

-- a local that who writes may assign, and that is assigned; a table where the part isn't calm
abbrev pub MayWrite : Doer → Rules → rules_say.Target → Type 0
MayWrite who rules (OfLocal x) = (who.assigns x ≡ true) × (rules.assigned x ≡ true)
MayWrite who rules OfGlobal = Unit {0}
MayWrite who rules (OfField base name) = who.calm ≡ false
MayWrite who rules OfElement = who.calm ≡ false

abbrev pub AllMeet : List rules_say.Target → List Target → Type 0
AllMeet [] [] = Unit {0}
AllMeet (r ∷ rs) (goal ∷ goals) = Meets r goal × AllMeet rs goals
AllMeet _ _ = ⊥

-- ---- writes from the left

module _ (an : Analysis) (frame : Frame) (unassigned : (x : ℕ) (path : List ℕ) → (rules_of an frame).fixed x ≡ Some path → (rules_of an frame).assigned x ≡ false) where
  -- a local is written
  pub put_ends : (who : Doer) (w : World) (s : State) (rs : List rules_say.Target) (map : TypeMap) (x : ℕ) (type : Term) (v : Value) → Fine an w s → Runs an w s frame
      → Held an frame (under rs map) s → who.runs ≡ Some frame.activation → MayWrite who (rules_of an frame) (OfLocal x) → Stands s.store.heap v → IsReady s.store.heap rs type v
      → Ends an who w s (λ y t. (t.store.heap ≡ s.store.heap) × Held an frame (under rs (set (rules_of an frame) x type map)) t) (write_to frame (LocalTarget x) v s)
  put_ends who w s rs map x type v f r h runs may there ready = local_ends an who w s frame x v
      (λ y t. (t.store.heap ≡ s.store.heap) × Held an frame (under rs (set (rules_of an frame) x type map)) t) f
      (λ c e. (
        w,
        fine_assigned an who w s frame x c v f r e there (λ path k. clash ((rules_of an frame).assigned x) may.1 (unassigned x path k)) (kept c e),
        kept c e,
        (refl, held_put an w s frame rs map x c v type f h e ready),
      ))
    where
      kept : (c : ℕ) → cell_of s.store.bindings frame.activation x ≡ Some c → Kept an who w s w (assigned c v s)
      kept c e = kept_assigned an who w s frame x c v f r e runs may.0 (loose_so an frame unassigned x may.1)

  -- a field or an element is written, and what follows goes on from there
  table_then : (who : Doer) (w : World) (s : State) (all : List rules_say.Target) (map : TypeMap) (r : rules_say.Target) (goal : Target) (types : List Term) (vs : List Value)
      (Q : Unit {0} → State → Type 0) (next : Unit {0} → State → Ran (Unit {0})) → Runs an w s frame → Held an frame (under all map) s → ((name : List ℕ) → Names r name → NamedIn all name)
      → AllByRecursion (Stands s.store.heap) vs → AreReady s.store.heap all types vs
      → Ends an who w s (λ x t. Stored (Names r) s (base_in goal) (first vs) t) (write_to frame goal (first vs) s)
      → ((x : Unit {0}) (z : World) (t : State) → Fine an z t → Runs an z t frame → Held an frame (under all map) t → AllByRecursion (Stands t.store.heap) (drop 1 vs)
      → AreReady t.store.heap all (rest_types types) (drop 1 vs) → Ends an who z t Q (next x t))
      → Ends an who w s Q (go_on (write_to frame goal (first vs) s) next)
  table_then who w s all map r goal types vs Q next runs h within there ready one again = ends_then an who w s
      (λ x t. Stored (Names r) s (base_in goal) (first vs) t) Q (write_to frame goal (first vs) s) next one
      (λ x t z g k p. again x z t g (runs_kept an who w z s t frame k runs)
      (held_stored an (Names r) frame (under all map) s (base_in goal) (first vs) t p (λ y name m. disturbed_of all (map.entry y) name (within name m)) h)
      (rest_there t.store.heap vs (all_map (Stands s.store.heap) (Stands t.store.heap) vs (λ u. stands_later s.store.heap t.store.heap u k.heap) there))
      (rest_ready t.store.heap all types vs (ready_stored (Names r) s (base_in goal) (first vs) t all types vs p within ready)))

  pub ends_all : (who : Doer) (w : World) (s : State) (all : List rules_say.Target) (map : TypeMap) (rs : List rules_say.Target) (goals : List Target) (expanding : Bool) (types : List Term)
      (vs : List Value) → Fine an w s → Runs an w s frame → Held an frame (under all map) s → who.runs ≡ Some frame.activation → AllMeet rs goals
      → AllByRecursion (MayWrite who (rules_of an frame)) rs → ((name : List ℕ) → NamedIn rs name → NamedIn all name) → AllByRecursion (Stands s.store.heap) vs
      → AreReady s.store.heap all types vs → (expanding ≡ false → length vs ≡ length types)
      → Ends an who w s (λ x t. Held an frame (under all (stored_all (rules_of an frame) rs expanding types map)) t) (write_all frame goals vs s)
  unfolding ◌>>=◌ give
  ends_all who w s all map [] [] expanding types vs f r h runs met may within there ready number = ends_give an who w s (λ x t. Held an frame (under all map) t) (tt {0}) f h
  ends_all who w s all map [] (goal ∷ goals) expanding types vs f r h runs met may within there ready number = absurd met
  ends_all who w s all map (r0 ∷ rs) [] expanding types vs f r h runs met may within there ready number = absurd met
  ends_all who w s all map (OfLocal x ∷ rs) (LocalTarget y ∷ goals) expanding types vs f r h runs met may within there ready number =
      subst (λ (m : TypeMap). Ends an who w s (λ z t. Held an frame (under all m) t) (write_all frame (LocalTarget y ∷ goals) vs s))
      (sym (store_one (rules_of an frame) (OfLocal x) rs expanding types map))
      (subst (λ (n : ℕ). Ends an who w s Q (write_all frame (LocalTarget n ∷ goals) vs s)) (sym met.0)
      (ends_then an who w s P Q (write_to frame (LocalTarget x) (first vs) s) (λ z. write_all frame goals (drop 1 vs))
      (put_ends who w s all map x (first_type expanding types) (first vs) f r h runs may.0 (first_there s.store.heap vs there) (first_ready s.store.heap all expanding types vs ready number))
      (λ z t v g k p. ends_all who v t all (set (rules_of an frame) x (first_type expanding types) map) rs goals expanding (rest_types types) (drop 1 vs) g (runs_kept an who w v s t frame k r) p.1
      runs met.1 may.1 (λ name m. within name (inr m))
      (rest_there t.store.heap vs (all_map (Stands s.store.heap) (Stands t.store.heap) vs (λ u. stands_later s.store.heap t.store.heap u k.heap) there))
      (subst (λ (heap : Heap). AreReady heap all (rest_types types) (drop 1 vs)) (sym p.0) (rest_ready s.store.heap all types vs ready)) (λ e. rest_count types vs (number e)))))
    where
      P : Unit {0} → State → Type 0
      P z t = (t.store.heap ≡ s.store.heap) × Held an frame (under all (set (rules_of an frame) x (first_type expanding types) map)) t

      Q : Unit {0} → State → Type 0
      Q z t = Held an frame (under all (stored_all (rules_of an frame) rs expanding (rest_types types) (set (rules_of an frame) x (first_type expanding types) map))) t
  ends_all who w s all map (OfLocal x ∷ rs) (_ ∷ goals) expanding types vs f r h runs met may within there ready number = absurd met.0
  ends_all who w s all map (OfGlobal ∷ rs) (GlobalTarget ∷ goals) expanding types vs f r h runs met may within there ready number =
      subst (λ (m : TypeMap). Ends an who w s (λ z t. Held an frame (under all m) t) (write_all frame goals (drop 1 vs) s))
      (sym (store_one (rules_of an frame) OfGlobal rs expanding types map))
      (ends_all who w s all map rs goals expanding (rest_types types) (drop 1 vs) f r h runs met.1 may.1 (λ name m. within name (inr m)) (rest_there s.store.heap vs there)
      (rest_ready s.store.heap all types vs ready) (λ e. rest_count types vs (number e)))
  ends_all who w s all map (OfGlobal ∷ rs) (_ ∷ goals) expanding types vs f r h runs met may within there ready number = absurd met.0
  ends_all who w s all map (OfField base name ∷ rs) (FieldTarget b other ∷ goals) expanding types vs f r h runs met may within there ready number =
      subst (λ (m : TypeMap). Ends an who w s (λ z t. Held an frame (under all m) t) (write_all frame (FieldTarget b other ∷ goals) vs s))
      (sym (store_one (rules_of an frame) (OfField base name) rs expanding types map))
      (table_then who w s all map (OfField base name) (FieldTarget b other) types vs (λ z t. Held an frame (under all (stored_all (rules_of an frame) rs expanding (rest_types types) map)) t)
      (λ z. write_all frame goals (drop 1 vs)) r h (λ n m. within n (inl m)) there ready
      (table_ends an who w s frame (OfField base name) (FieldTarget b other) (first vs) met.0 tt may.0 f (first_there s.store.heap vs there))
      (λ z v t g j held stands wait. ends_all who v t all map rs goals expanding (rest_types types) (drop 1 vs) g j held runs met.1 may.1 (λ n m. within n (inr m)) stands wait
      (λ e. rest_count types vs (number e))))
  ends_all who w s all map (OfField base name ∷ rs) (ElementTarget b key ∷ goals) expanding types vs f r h runs met may within there ready number =
      subst (λ (m : TypeMap). Ends an who w s (λ z t. Held an frame (under all m) t) (write_all frame (ElementTarget b key ∷ goals) vs s))
      (sym (store_one (rules_of an frame) (OfField base name) rs expanding types map))
      (table_then who w s all map (OfField base name) (ElementTarget b key) types vs (λ z t. Held an frame (under all (stored_all (rules_of an frame) rs expanding (rest_types types) map)) t)
      (λ z. write_all frame goals (drop 1 vs)) r h (λ n m. within n (inl m)) there ready
      (table_ends an who w s frame (OfField base name) (ElementTarget b key) (first vs) met.0 tt may.0 f (first_there s.store.heap vs there))
      (λ z v t g j held stands wait. ends_all who v t all map rs goals expanding (rest_types types) (drop 1 vs) g j held runs met.1 may.1 (λ n m. within n (inr m)) stands wait
      (λ e. rest_count types vs (number e))))
  ends_all who w s all map (OfField base name ∷ rs) (_ ∷ goals) expanding types vs f r h runs met may within there ready number = absurd met.0
  ends_all who w s all map (OfElement ∷ rs) (ElementTarget b key ∷ goals) expanding types vs f r h runs met may within there ready number =
      subst (λ (m : TypeMap). Ends an who w s (λ z t. Held an frame (under all m) t) (write_all frame (ElementTarget b key ∷ goals) vs s))
      (sym (store_one (rules_of an frame) OfElement rs expanding types map))
      (table_then who w s all map OfElement (ElementTarget b key) types vs (λ z t. Held an frame (under all (stored_all (rules_of an frame) rs expanding (rest_types types) map)) t)
      (λ z. write_all frame goals (drop 1 vs)) r h (λ n m. within n (inl m)) there ready
      (table_ends an who w s frame OfElement (ElementTarget b key) (first vs) met.0 tt may.0 f (first_there s.store.heap vs there))
      (λ z v t g j held stands wait. ends_all who v t all map rs goals expanding (rest_types types) (drop 1 vs) g j held runs met.1 may.1 (λ n m. within n (inr m)) stands wait
      (λ e. rest_count types vs (number e))))
  ends_all who w s all map (OfElement ∷ rs) (_ ∷ goals) expanding types vs f r h runs met may within there ready number = absurd met.0
