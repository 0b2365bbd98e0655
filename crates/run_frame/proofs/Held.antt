-- The activation that runs: what its locals read as, the map that matches, contexts that are violated; and how these go past a
-- part.
use Rattle.std.proofs.Common.{◌≡◌, ℕ, ◌<◌, Bool, true, false, ◌&&◌, ◌==◌, if◌then◌else◌, List, [], ◌∷◌, Option, Some, ◌⊎◌, inl, inr, refl, sym, ◌∙◌, ap, subst, slice_get}
use Rattle.std.specs.List.{AllByRecursion, find}
use Rattle.std.specs.Option.{option_map}
use Rattle.std.proofs.lemmas.Bool.{eqb-true}
use Rattle.std.proofs.lemmas.Option.{slice_get_within}
use Rattle.luau_values.specs.Value.{Value}
use Rattle.luau_values.specs.Stands.{Stands}
use Rattle.luau_values.proofs.Public.{stands_later}
use Rattle.luau_run.specs.Machine.{Binding, Store, State}
use Rattle.luau_run.specs.Layer.{Frame}
use Rattle.luau_run.specs.Expressions.{cell_of}
use Rattle.type_arena.specs.Term.{Term, never}
use Rattle.type_normal.specs.Holds.{holds}
use Rattle.type_normal.specs.HeapFree.{heap_free}
use Rattle.type_normal.specs.Kinds.{unknown}
use Rattle.type_normal.proofs.Public.{free_later, grown_holds, unknown_all, never_none}
use Rattle.report_rules.specs.TypeMap.{TypeMap}
use Rattle.report_rules.specs.Context.{Context}
use Rattle.run_frame.specs.Analysis.{Analysis, is_caught, is_loose}
use Rattle.run_frame.proofs.World.{Owner, World, stays_at, all_map}
use Rattle.run_frame.proofs.Kept.{Doer, Kept, same_cell}
use Rattle.run_frame.proofs.Fine.{HasValue, IsBoundWell, Fine}

-- the frame is that of an activation that has begun, in its module; and the arguments past its parameters stand
pub record Runs (an : Analysis) (w : World) (s : State) (frame : Frame) : Type 0 where
  pub module_is : slice_get w.modules frame.activation ≡ Some frame.module_at
  pub reading : slice_get an.program.modules frame.module_at ≡ Some frame.reading
  pub further : AllByRecursion (Stands s.store.heap) frame.further

pub runs_kept : (an : Analysis) (who : Doer) (w v : World) (s t : State) (frame : Frame) → Kept an who w s v t → Runs an w s frame → Runs an v t frame
runs_kept an who w v s t frame k r = record {
  module_is = stays_at w.modules v.modules frame.activation frame.module_at k.modules r.module_is;
  reading = r.reading;
  further = all_map (Stands s.store.heap) (Stands t.store.heap) frame.further (λ u. stands_later s.store.heap t.store.heap u k.heap) r.further;
}

pub has_begun : (an : Analysis) (w : World) (s : State) (frame : Frame) → Fine an w s → Runs an w s frame → frame.activation < s.store.begun
has_begun an w s frame f r = subst (λ (n : ℕ). frame.activation < n) f.ran (slice_get_within w.modules frame.activation frame.module_at r.module_is)

-- the newest cell of a local of the frame, and what it holds
abbrev pub Reads : Frame → State → (local cell : ℕ) → Value → Type 0
Reads frame s x c v = (cell_of s.store.bindings frame.activation x ≡ Some c) × (slice_get s.store.cells c ≡ Some v)

-- the map matches: it is live, and what each local holds that isn't loose is in its entry; and that entry has a value, in some
-- heap, though the local may have no cell here
pub record Held (an : Analysis) (frame : Frame) (map : TypeMap) (s : State) : Type 0 where
  pub live : map.dead ≡ false
  pub full : (x : ℕ) → is_loose an frame.module_at x ≡ false → HasValue (map.entry x)
  pub entries : (x c : ℕ) (v : Value) → is_loose an frame.module_at x ≡ false → Reads frame s x c v → holds s.store.heap v (map.entry x) ≡ true

-- a context is violated: some local that isn't loose holds a value in its set
abbrev pub Violated : Analysis → Frame → Context → State → Type 0
Violated an frame context s = (x : ℕ) × (c : ℕ) × (v : Value) × (is_loose an frame.module_at x ≡ false) × Reads frame s x c v
    × (holds s.store.heap v (context x) ≡ true)

-- ---- the owner of a cell that the frame has

-- the owner of a cell that an activation has for a local
abbrev pub HasOwner : Analysis → World → (activation local cell : ℕ) → Type 0
HasOwner an w a x c = (o : Owner) × (slice_get w.owners c ≡ Some o) × (o.local ≡ x) × (slice_get w.modules a ≡ Some o.module_at)
    × ((o.activation ≡ a) ⊎ (is_caught an o.module_at o.local ≡ true))

owner_here : (an : Analysis) (w : World) (a x c : ℕ) (b : Binding) → IsBoundWell an w b → b.activation ≡ a → b.local ≡ x → b.cell ≡ c → HasOwner an w a x c
owner_here an w a x c b h p q r =
    (h.0, subst (λ (n : ℕ). slice_get w.owners n ≡ Some h.0) r h.1, h.2 ∙ q, subst (λ (n : ℕ). slice_get w.modules n ≡ Some h.0.module_at) p h.3, by_side h.4)
  where
    by_side : (h.0.activation ≡ b.activation) ⊎ (is_caught an h.0.module_at h.0.local ≡ true) → (h.0.activation ≡ a) ⊎ (is_caught an h.0.module_at h.0.local ≡ true)
    by_side (inl y) = inl (y ∙ p)
    by_side (inr y) = inr y

some_cell : (m n : ℕ) → Some m ≡ Some n → m ≡ n
some_cell m n k = cc

pub bound_well : (an : Analysis) (w : World) (a x c : ℕ) (bs : List Binding) → AllByRecursion (IsBoundWell an w) bs → cell_of bs a x ≡ Some c → HasOwner an w a x c
bound_well an w a x c [] h e = cc
bound_well an w a x c (b ∷ bs) h e = by_test (b.activation == a) (b.local == x) refl refl (bound_well an w a x c bs h.1) e
  where
    by_test : (p q : Bool) → (b.activation == a) ≡ p → (b.local == x) ≡ q → (cell_of bs a x ≡ Some c → HasOwner an w a x c)
        → option_map (λ (d : Binding). d.cell) (if p && q then Some b else find (λ (d : Binding). (d.activation == a) && (d.local == x)) bs) ≡ Some c → HasOwner an w a x c
    by_test true true p q k z = owner_here an w a x c b h.0 (eqb-true b.activation a p) (eqb-true b.local x q) (some_cell b.cell c z)
    by_test true false p q k z = k z
    by_test false q' p q k z = k z

pub same_some : (m n : ℕ) (o : Option ℕ) → o ≡ Some m → o ≡ Some n → m ≡ n
same_some m n o h k = cc

-- a cell of the frame, of a local that isn't loose and that the part doesn't assign, is as it was
pub same_value : (an : Analysis) (who : Doer) (w v : World) (s t : State) (frame : Frame) (x c : ℕ) → Fine an w s → Runs an w s frame → Kept an who w s v t
    → who.assigns x ≡ false → is_loose an frame.module_at x ≡ false → cell_of s.store.bindings frame.activation x ≡ Some c
    → slice_get t.store.cells c ≡ slice_get s.store.cells c
same_value an who w v s t frame x c f r k n l e = by_owner (bound_well an w frame.activation x c s.store.bindings f.bound e)
  where
    by_owner : HasOwner an w frame.activation x c → slice_get t.store.cells c ≡ slice_get s.store.cells c
    by_owner p = k.cells c p.0 p.1
        (ap (λ (y : ℕ). is_loose an p.0.module_at y) p.2
        ∙ (ap (λ (m : ℕ). is_loose an m x) (same_some p.0.module_at frame.module_at (slice_get w.modules frame.activation) p.3 r.module_is) ∙ l))
        (inr (inr (ap who.assigns p.2 ∙ n)))

-- ---- what goes past a part

-- a type of a local lasts: the part doesn't touch the local, and the part is calm, or the type holds in every later heap
pub record Lasts (who : Doer) (local : ℕ) (type : Term) : Type 0 where
  pub unassigned : who.assigns local ≡ false
  pub unbound : who.binds local ≡ false
  pub steady : (who.calm ≡ true) ⊎ (heap_free type ≡ true)

module _ (an : Analysis) (who : Doer) (w v : World) (s t : State) (frame : Frame) (f : Fine an w s) (r : Runs an w s frame) (k : Kept an who w s v t) where
  -- what a local reads as after the part it read as before
  pub reads_before : (x c : ℕ) (u : Value) → who.assigns x ≡ false → who.binds x ≡ false → is_loose an frame.module_at x ≡ false → Reads frame t x c u → Reads frame s x c u
  reads_before x c u n b l q =
      let cell : cell_of s.store.bindings frame.activation x ≡ Some c = sym (same_cell an who w v s t frame.activation x k (has_begun an w s frame f r) b) ∙ q.0 in
      (cell, sym (same_value an who w v s t frame x c f r k n l cell) ∙ q.1)

  pub reads_after : (x c : ℕ) (u : Value) → who.assigns x ≡ false → who.binds x ≡ false → is_loose an frame.module_at x ≡ false → Reads frame s x c u → Reads frame t x c u
  reads_after x c u n b l q =
      (same_cell an who w v s t frame.activation x k (has_begun an w s frame f r) b ∙ q.0, same_value an who w v s t frame x c f r k n l q.0 ∙ q.1)

  -- a type that a value is of, where the part is calm or the type is heap-free
  pub type_kept : (u : Value) (type : Term) → (who.calm ≡ true) ⊎ (heap_free type ≡ true) → Stands s.store.heap u → holds s.store.heap u type ≡ true
      → holds t.store.heap u type ≡ true
  type_kept u type (inl c) there h = grown_holds s.store.heap t.store.heap u type f.fields there (k.calm c) h
  type_kept u type (inr c) there h = free_later s.store.heap t.store.heap u type c k.heap h

  -- a map of which each entry is unknown or lasts
  pub held_kept : (map : TypeMap) → ((x : ℕ) → (map.entry x ≡ unknown) ⊎ Lasts who x (map.entry x)) → Held an frame map s → Held an frame map t
  held_kept map lasts h = record {
    live = h.live;
    full = h.full;
    entries = λ x c u l q. by_entry x c u l q (lasts x);
  }
    where
      by_entry : (x c : ℕ) (u : Value) → is_loose an frame.module_at x ≡ false → Reads frame t x c u → (map.entry x ≡ unknown) ⊎ Lasts who x (map.entry x)
          → holds t.store.heap u (map.entry x) ≡ true
      by_entry x c u l q (inl e) = subst (λ (type : Term). holds t.store.heap u type ≡ true) (sym e) (unknown_all t.store.heap u)
      by_entry x c u l q (inr e) =
          let before : Reads frame s x c u = reads_before x c u e.unassigned e.unbound l q in
          type_kept u (map.entry x) e.steady (f.stand c u before.1) (h.entries x c u l before)

  -- a context of which each entry is never or lasts
  pub violated_kept : (context : Context) → ((x : ℕ) → (context x ≡ never) ⊎ Lasts who x (context x)) → Violated an frame context s → Violated an frame context t
  violated_kept context lasts h = by_entry (lasts h.0)
    where
      by_entry : (context h.0 ≡ never) ⊎ Lasts who h.0 (context h.0) → Violated an frame context t
      by_entry (inl e) = absurd (none (subst (λ (type : Term). holds s.store.heap h.2 type ≡ true) e h.5) (never_none s.store.heap h.2))
        where
          none : holds s.store.heap h.2 never ≡ true → holds s.store.heap h.2 never ≡ false → ⊥
          none p q = cc
      by_entry (inr e) =
          let after : Reads frame t h.0 h.1 h.2 = reads_after h.0 h.1 h.2 e.unassigned e.unbound h.3 h.4 in
          (h.0, h.1, h.2, h.3, after, type_kept h.2 (context h.0) e.steady (f.stand h.1 h.2 h.4.1) h.5)

-- ---- what goes past where the store is the same

pub held_store : (an : Analysis) (s t : State) (frame : Frame) (map : TypeMap) → t.store ≡ s.store → Held an frame map s → Held an frame map t
held_store an s t frame map e h = record {
  live = h.live;
  full = h.full;
  entries = subst (λ (y : Store). (x c : ℕ) (v : Value) → is_loose an frame.module_at x ≡ false
      → (cell_of y.bindings frame.activation x ≡ Some c) × (slice_get y.cells c ≡ Some v) → holds y.heap v (map.entry x) ≡ true) (sym e) h.entries;
}

pub held_same : (an : Analysis) (s t : State) (frame : Frame) (map : TypeMap) → (t.store ≡ s.store) × (t.trace ≡ s.trace) → Held an frame map s → Held an frame map t
held_same an s t frame map e h = held_store an s t frame map e.0 h

pub violated_same : (an : Analysis) (s t : State) (frame : Frame) (context : Context) → t.store ≡ s.store → Violated an frame context s → Violated an frame context t
violated_same an s t frame context e h =
    subst (λ (y : Store). (x : ℕ) × (c : ℕ) × (v : Value) × (is_loose an frame.module_at x ≡ false)
    × ((cell_of y.bindings frame.activation x ≡ Some c) × (slice_get y.cells c ≡ Some v)) × (holds y.heap v (context x) ≡ true)) (sym e) h
