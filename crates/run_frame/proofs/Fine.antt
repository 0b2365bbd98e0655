-- What holds of the states of a run, between its parts.
use Rattle.std.proofs.Common.{◌≡◌, ℕ, ◌<◌, ◌≤◌, true, false, List, length, Some, ◌⊎◌, inl, sym, ◌∙◌, ap, subst, arith, slice_get, Contains}
use Rattle.std.specs.List.{AllByRecursion}
use Rattle.luau_values.specs.Value.{Value, Lit, Builtin}
use Rattle.luau_values.specs.Heap.{Heap}
use Rattle.luau_values.specs.Later.{Later}
use Rattle.luau_values.specs.Stands.{Stands, FieldsStand}
use Rattle.luau_values.specs.Start.{libraries}
use Rattle.luau_values.proofs.Public.{stands_later, no_fewer}
use Rattle.luau_run.specs.ReadModule.{ReadModule}
use Rattle.luau_run.specs.Program.{paths}
use Rattle.luau_run.specs.SyntaxNode.{of_block, of_body}
use Rattle.luau_run.specs.Machine.{Binding, Closure, Store, State}
use Rattle.luau_run.specs.Expressions.{number_of}
use Rattle.luau_run.specs.Certain.{StaysAt}
use Rattle.type_arena.specs.Term.{Term}
use Rattle.type_normal.specs.Holds.{holds}
use Rattle.type_normal.specs.HeapFree.{heap_free, widen}
use Rattle.type_normal.proofs.Public.{free_later, widen_free}
use Rattle.report_rules.specs.TypeMap.{TypeMap}
use Rattle.report_rules.specs.Seen.{seen_body, seen_module}
use Rattle.report_rules.specs.Findings.{found_body}
use Rattle.report_rules.specs.Reports.{findings}
use Rattle.run_frame.specs.Statements.{stats_of_block, stats_of_body}
use Rattle.run_frame.specs.Analysis.{Analysis, is_caught, is_loose}
use Rattle.run_frame.proofs.World.{Owner, World, Front, stays_at, all_map}
use Rattle.run_frame.proofs.Counts.{reached}
use Rattle.run_frame.proofs.Kept.{Doer, Kept}

-- a type has a value, in some heap
abbrev pub HasValue : Term → Type 0
HasValue type = (h : Heap) × (v : Value) × (holds h v type ≡ true)

-- what is in the one list is in the other
abbrev pub Sub : {A : Type 0} → List A → List A → Type 0
Sub {A} xs ys = (x : A) → Contains xs x → Contains ys x

-- a binding is of a cell of the same local, of the module where its activation runs; the cell is of that activation, or its
-- local is captured
abbrev pub IsBoundWell : Analysis → World → Binding → Type 0
IsBoundWell an w b = (o : Owner) × (slice_get w.owners b.cell ≡ Some o) × (o.local ≡ b.local) × (slice_get w.modules b.activation ≡ Some o.module_at)
    × ((o.activation ≡ b.activation) ⊎ (is_caught an o.module_at o.local ≡ true))

-- a captured cell of a closure, whose literal was evaluated in a map: it is of that local of the module, which some body
-- captures; and unless the local is loose, its value is in the map's entry as it is after effects
abbrev pub IsCaptured : Analysis → World → Store → (module_at : ℕ) → TypeMap → (ℕ × ℕ) → Type 0
IsCaptured an w store module_at known c = (o : Owner) × (slice_get w.owners c.1 ≡ Some o) × (o.module_at ≡ module_at) × (o.local ≡ c.0)
    × (is_caught an module_at c.0 ≡ true)
    × (is_loose an module_at c.0 ≡ false → (v : Value) → slice_get store.cells c.1 ≡ Some v → holds store.heap v (widen (known.entry c.0)) ≡ true)

-- a closure that was made is one of a body of its module, whose literal was evaluated in a live map, of which each entry of a
-- local that isn't loose has a value; what stands, is seen and is
-- found in the body stands, is seen and is found in the module
pub record IsClosure (an : Analysis) (w : World) (store : Store) (c : Closure) : Type 0 where
  pub reading : ReadModule
  pub known : TypeMap
  pub cells : List (ℕ × ℕ)
  pub module_is : slice_get an.program.modules c.module_at ≡ Some reading
  pub value_is : c.value ≡ Lit reading.home (number_of c.code) cells
  pub live : known.dead ≡ false
  pub full : (x : ℕ) → is_loose an c.module_at x ≡ false → HasValue (known.entry x)
  pub inside : Sub (of_body c.code) (of_block reading.block)
  pub statements : Sub (stats_of_body c.code) (stats_of_block reading.block)
  pub placed : Sub (seen_body (an.rules c.module_at) known c.code) (seen_module (an.rules c.module_at))
  pub marked : Sub (found_body (an.rules c.module_at) (seen_module (an.rules c.module_at)) c.code) (findings (an.rules c.module_at))
  pub captured : AllByRecursion (IsCaptured an w store c.module_at known) cells

-- a loaded module gave a value of the type that the rules say it gives
abbrev pub IsLoaded : Analysis → Heap → (ℕ × Value) → Type 0
IsLoaded an heap l = Stands heap l.1 × (heap_free (an.summary l.0) ≡ true) × (holds heap l.1 (an.summary l.0) ≡ true)

-- what holds of every state: each cell has an owner, which is of an activation that has begun, and each of these has a module;
-- bindings, closures and loaded modules are as they should be; all tables that values name are there, the libraries' among
-- them; a local that always holds a builtin does; what was logged stays at reports; and activations to come have reached none
pub record Fine (an : Analysis) (w : World) (s : State) : Type 0 where
  pub owned : length w.owners ≡ length s.store.cells
  pub ran : length w.modules ≡ s.store.begun
  pub older : (c : ℕ) (o : Owner) → slice_get w.owners c ≡ Some o → o.activation < s.store.begun
  pub bound : AllByRecursion (IsBoundWell an w) s.store.bindings
  pub stand : (c : ℕ) (v : Value) → slice_get s.store.cells c ≡ Some v → Stands s.store.heap v
  pub fields : FieldsStand s.store.heap
  pub libraries : length (libraries (paths an.program)) ≤ length s.store.heap
  pub fixed : (c : ℕ) (o : Owner) (path : List ℕ) (v : Value) → slice_get w.owners c ≡ Some o → (an.rules o.module_at).fixed o.local ≡ Some path
      → slice_get s.store.cells c ≡ Some v → v ≡ Builtin path
  pub closures : AllByRecursion (IsClosure an w s.store) s.store.closures
  pub loaded : AllByRecursion (IsLoaded an s.store.heap) s.store.loaded
  pub stays : StaysAt an.reports s.trace
  pub young : (b : ℕ) → s.store.begun ≤ b → reached an b s.trace ≡ 0

-- ---- what goes past a part

captured_kept : (an : Analysis) (who : Doer) (w v : World) (s t : State) (m : ℕ) (known : TypeMap) (c : ℕ × ℕ) → Kept an who w s v t
    → IsCaptured an w s.store m known c → IsCaptured an v t.store m known c
captured_kept an who w v s t m known c k h = (
  h.0,
  stays_at w.owners v.owners c.1 h.0 k.owners h.1,
  h.2,
  h.3,
  h.4,
  λ firm u e. free_later s.store.heap t.store.heap u (widen (known.entry c.0)) (widen_free (known.entry c.0)) k.heap
      (h.5 firm u (sym (k.cells c.1 h.0 h.1 (at_owner firm) (inl is_captured)) ∙ e)),
)
  where
    at_owner : is_loose an m c.0 ≡ false → is_loose an h.0.module_at h.0.local ≡ false
    at_owner firm = ap (λ n. is_loose an n h.0.local) h.2 ∙ (ap (λ x. is_loose an m x) h.3 ∙ firm)

    is_captured : is_caught an h.0.module_at h.0.local ≡ true
    is_captured = ap (λ n. is_caught an n h.0.local) h.2 ∙ (ap (λ x. is_caught an m x) h.3 ∙ h.4)

-- a closure stays one
pub closure_kept : (an : Analysis) (who : Doer) (w v : World) (s t : State) (c : Closure) → Kept an who w s v t → IsClosure an w s.store c → IsClosure an v t.store c
closure_kept an who w v s t c k h = record {
  reading = h.reading;
  known = h.known;
  cells = h.cells;
  module_is = h.module_is;
  value_is = h.value_is;
  live = h.live;
  full = h.full;
  inside = h.inside;
  statements = h.statements;
  placed = h.placed;
  marked = h.marked;
  captured = all_map (IsCaptured an w s.store c.module_at h.known) (IsCaptured an v t.store c.module_at h.known) h.cells
      (λ x. captured_kept an who w v s t c.module_at h.known x k) h.captured;
}

pub loaded_kept : (an : Analysis) (h g : Heap) (l : ℕ × Value) → Later h g → IsLoaded an h l → IsLoaded an g l
loaded_kept an h g l later k = (stands_later h g l.1 later k.0, k.1, free_later h g l.1 (an.summary l.0) k.1 later k.2)

pub bound_kept : (an : Analysis) (w v : World) (b : Binding) → Front w.owners v.owners → Front w.modules v.modules → IsBoundWell an w b → IsBoundWell an v b
bound_kept an w v b owners modules h =
    (h.0, stays_at w.owners v.owners b.cell h.0 owners h.1, h.2, stays_at w.modules v.modules b.activation h.0.module_at modules h.3, h.4)

-- the state after a move, where the move is known by what it may change of cells and what it logs. The rest follows
pub record Moved (an : Analysis) (w : World) (s : State) (v : World) (t : State) : Type 0 where
  pub owned : length v.owners ≡ length t.store.cells
  pub ran : length v.modules ≡ t.store.begun
  pub older : (c : ℕ) (o : Owner) → slice_get v.owners c ≡ Some o → o.activation < t.store.begun
  pub bound : AllByRecursion (IsBoundWell an v) t.store.bindings
  pub stand : (c : ℕ) (u : Value) → slice_get t.store.cells c ≡ Some u → Stands t.store.heap u
  pub fields : FieldsStand t.store.heap
  pub fixed : (c : ℕ) (o : Owner) (path : List ℕ) (u : Value) → slice_get v.owners c ≡ Some o → (an.rules o.module_at).fixed o.local ≡ Some path
      → slice_get t.store.cells c ≡ Some u → u ≡ Builtin path
  pub closures : t.store.closures ≡ s.store.closures
  pub loaded : t.store.loaded ≡ s.store.loaded
  pub stays : StaysAt an.reports t.trace
  pub young : (b : ℕ) → t.store.begun ≤ b → reached an b t.trace ≡ 0

pub fine_moved : (an : Analysis) (who : Doer) (w v : World) (s t : State) → Fine an w s → Kept an who w s v t → Moved an w s v t → Fine an v t
fine_moved an who w v s t f k m = record {
  owned = m.owned;
  ran = m.ran;
  older = m.older;
  bound = m.bound;
  stand = m.stand;
  fields = m.fields;
  libraries = omega (arith, f.libraries, no_fewer s.store.heap t.store.heap k.heap);
  fixed = m.fixed;
  closures = subst (λ (cs : List Closure). AllByRecursion (IsClosure an v t.store) cs) (sym m.closures)
      (all_map (IsClosure an w s.store) (IsClosure an v t.store) s.store.closures (λ c. closure_kept an who w v s t c k) f.closures);
  loaded = subst (λ (ls : List (ℕ × Value)). AllByRecursion (IsLoaded an t.store.heap) ls) (sym m.loaded)
      (all_map (IsLoaded an s.store.heap) (IsLoaded an t.store.heap) s.store.loaded (λ l. loaded_kept an s.store.heap t.store.heap l k.heap) f.loaded);
  stays = m.stays;
  young = m.young;
}

-- a state with the same store, which logged the same
pub fine_same : (an : Analysis) (w : World) (s t : State) → t.store ≡ s.store → t.trace ≡ s.trace → Fine an w s → Fine an w t
fine_same an w s t e k f = record {
  owned = f.owned ∙ ap (λ (x : Store). length x.cells) (sym e);
  ran = f.ran ∙ ap (λ (x : Store). x.begun) (sym e);
  older = subst (λ (x : Store). (c : ℕ) (o : Owner) → slice_get w.owners c ≡ Some o → o.activation < x.begun) (sym e) f.older;
  bound = subst (λ (x : Store). AllByRecursion (IsBoundWell an w) x.bindings) (sym e) f.bound;
  stand = subst (λ (x : Store). (c : ℕ) (v : Value) → slice_get x.cells c ≡ Some v → Stands x.heap v) (sym e) f.stand;
  fields = subst (λ (x : Store). FieldsStand x.heap) (sym e) f.fields;
  libraries = subst (λ (x : Store). length (libraries (paths an.program)) ≤ length x.heap) (sym e) f.libraries;
  fixed = subst (λ (x : Store). (c : ℕ) (o : Owner) (path : List ℕ) (v : Value) → slice_get w.owners c ≡ Some o → (an.rules o.module_at).fixed o.local ≡ Some path
      → slice_get x.cells c ≡ Some v → v ≡ Builtin path) (sym e) f.fixed;
  closures = subst (λ (x : Store). AllByRecursion (IsClosure an w x) x.closures) (sym e) f.closures;
  loaded = subst (λ (x : Store). AllByRecursion (IsLoaded an x.heap) x.loaded) (sym e) f.loaded;
  stays = subst (λ x. StaysAt an.reports x) (sym k) f.stays;
  young = λ b l. ap (λ x. reached an b x) k ∙ f.young b (subst (λ (x : Store). x.begun ≤ b) e l);
}
