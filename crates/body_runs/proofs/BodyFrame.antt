-- Where a body begins to run: its captured locals stand for the cells that the closure has, and each parameter gets a cell.
use Rattle.std.proofs.Common.{◌≡◌, ℕ, Bool, true, false, not, ◌==◌, ◌&&◌, ◌||◌, if◌then◌else◌, List, [], ◌∷◌, length, Option, Some, None, ◌⊎◌, inl, inr, refl, sym, ◌∙◌, ap, subst, arith, slice_get, drop}
use Rattle.std.specs.List.{AllByRecursion, find, list_any}
use Rattle.std.specs.Option.{option_map}
use Rattle.std.proofs.lemmas.Bool.{eqb-true}
use Rattle.luau_values.specs.Value.{Value, Builtin}
use Rattle.luau_values.specs.Stands.{Stands}
use Rattle.luau_tree.specs.Tree.{the_bind, Binds, no_binds, more_binds}
use Rattle.luau_run.specs.ReadFolder.{is_among, are_distinct}
use Rattle.luau_run.specs.Machine.{Binding, State, ◌>>=◌, look, change, give}
use Rattle.luau_run.specs.Layer.{Frame, first}
use Rattle.luau_run.specs.Expressions.{cell_of}
use Rattle.luau_run.specs.Calls.{bind_captured, bind_params}
use Rattle.type_arena.specs.Term.{Term}
use Rattle.type_normal.specs.Holds.{holds}
use Rattle.type_normal.specs.HeapFree.{widen}
use Rattle.type_normal.specs.Cut.{cut_up}
use Rattle.type_normal.specs.Kinds.{unknown}
use Rattle.type_normal.proofs.Public.{widen_above, unknown_all}
use Rattle.report_rules.specs.TypeMap.{TypeMap, body_map}
use Rattle.run_frame.specs.Analysis.{Analysis, is_caught, is_loose}
use Rattle.run_frame.specs.Fit.{NoneFixed}
use Rattle.run_frame.proofs.World.{World, with_owner, last_get, stays_at}
use Rattle.run_frame.proofs.Kept.{Doer, Kept}
use Rattle.run_frame.proofs.Fine.{HasValue, IsBoundWell, IsCaptured, Fine}
use Rattle.run_frame.proofs.Held.{Runs, runs_kept, Reads, Held}
use Rattle.run_frame.proofs.Parts.{Ends, ends_after, ends_so, ends_give}
use Rattle.run_frame.proofs.Cells.{declared, owner_in, kept_declared, fine_declared, bound_to, kept_bound, fine_bound}
use Rattle.run_frame.proofs.Layers.{rules_of}
use Rattle.run_frame.proofs.Declarations.{held_set, run_locals}

-- a whole activation of a body may assign and bind each of its locals, and change any table
abbrev pub in_body : Frame → Doer
in_body frame = record { runs = Some frame.activation; assigns = λ x. true; binds = λ x. true; calm = false }

-- ---- the map that a body starts with

-- an entry of the map that a body starts with is unknown, or the widened one of the map where its literal stands
abbrev pub StartsAs : TypeMap → TypeMap → ℕ → Type 0
StartsAs known map x = (map.entry x ≡ unknown) ⊎ (map.entry x ≡ widen (known.entry x))

pub starts_as : (params : List ℕ) (known : TypeMap) (x : ℕ) → StartsAs known (body_map params known) x
starts_as params known x = by_test (list_any (λ local. local == x) params)
  where
    by_test : (b : Bool) → ((if b then unknown else widen (known.entry x)) ≡ unknown) ⊎ ((if b then unknown else widen (known.entry x)) ≡ widen (known.entry x))
    by_test true = inl refl
    by_test false = inr refl

-- and that of a parameter is unknown
pub forgotten : (params : List ℕ) (known : TypeMap) (x : ℕ) → is_among x params ≡ true → (body_map params known).entry x ≡ unknown
forgotten params known x e = by_test (list_any (λ local. local == x) params) (both_ways params ∙ e)
  where
    turned : (m n : ℕ) → (m == n) ≡ (n == m)
    turned m n = grind arith

    both_ways : (xs : List ℕ) → list_any (λ local. local == x) xs ≡ is_among x xs
    both_ways [] = refl
    both_ways (y ∷ xs) = ap (λ (b : Bool). b || list_any (λ local. local == x) xs) (turned y x) ∙ ap (λ (b : Bool). (x == y) || b) (both_ways xs)

    by_test : (b : Bool) → b ≡ true → (if b then unknown else widen (known.entry x)) ≡ unknown
    by_test true k = refl
    by_test false k = cc

-- each entry of a local that isn't loose has a value
pub start_full : (params : List ℕ) (known : TypeMap) (x : ℕ) → HasValue (known.entry x) → HasValue ((body_map params known).entry x)
start_full params known x q = by_entry (starts_as params known x)
  where
    by_entry : StartsAs known (body_map params known) x → HasValue ((body_map params known).entry x)
    by_entry (inl e) = subst (λ (type : Term). HasValue type) (sym e) (q.0, q.1, unknown_all q.0 q.1)
    by_entry (inr e) = subst (λ (type : Term). HasValue type) (sym e) (q.0, q.1, widen_above q.0 q.1 (known.entry x) q.2)

-- ---- what locals read as after a new binding

pub same_number : (n : ℕ) → (n == n) ≡ true
same_number n = grind arith

-- the newest binding of a local is the new one, or the one that was there
newest : (bs : List Binding) (a x c y d : ℕ) → cell_of (record { activation = a; local = x; cell = c } ∷ bs) a y ≡ Some d
    → ((x == y) ≡ true) × (c ≡ d) ⊎ ((x == y) ≡ false) × (cell_of bs a y ≡ Some d)
newest bs a x c y d e = by_test (a == a) (x == y) (same_number a) refl e
  where
    same : Some c ≡ Some d → c ≡ d
    same k = cc

    by_test : (p q : Bool) → p ≡ true → (x == y) ≡ q
        → option_map (λ (b : Binding). b.cell) (if p && q then Some (record { activation = a; local = x; cell = c }) else find (λ (b : Binding). (b.activation == a) && (b.local == y)) bs) ≡ Some d
        → ((x == y) ≡ true) × (c ≡ d) ⊎ ((x == y) ≡ false) × (cell_of bs a y ≡ Some d)
    by_test true true p q k = inl (q, same k)
    by_test true false p q k = inr (q, k)
    by_test false q' p q k = cc

-- a map matches after a captured cell was bound, whose value is in the local's entry
held_bound : (an : Analysis) (s : State) (frame : Frame) (map : TypeMap) (x c : ℕ) → Held an frame map s
    → (is_loose an frame.module_at x ≡ false → (v : Value) → slice_get s.store.cells c ≡ Some v → holds s.store.heap v (map.entry x) ≡ true)
    → Held an frame map (bound_to frame.activation x c s)
held_bound an s frame map x c h here = record {
  live = h.live;
  full = h.full;
  entries = λ y d u firm q. by_cell y d u firm q.1 (newest s.store.bindings frame.activation x c y d q.0);
}
  where
    by_cell : (y d : ℕ) (u : Value) → is_loose an frame.module_at y ≡ false → slice_get s.store.cells d ≡ Some u
        → ((x == y) ≡ true) × (c ≡ d) ⊎ ((x == y) ≡ false) × (cell_of s.store.bindings frame.activation y ≡ Some d) → holds s.store.heap u (map.entry y) ≡ true
    by_cell y d u firm k (inl e) = subst (λ (z : ℕ). holds s.store.heap u (map.entry z) ≡ true) (eqb-true x y e.0)
        (here (subst (λ (z : ℕ). is_loose an frame.module_at z ≡ false) (sym (eqb-true x y e.0)) firm) u (subst (λ (z : ℕ). slice_get s.store.cells z ≡ Some u) (sym e.1) k))
    by_cell y d u firm k (inr e) = h.entries y d u firm (e.1, k)

-- a map matches after a local got a new cell of which it says nothing
pub held_new : (an : Analysis) (w : World) (s : State) (frame : Frame) (map : TypeMap) (x : ℕ) (value : Value) → Fine an w s → Held an frame map s → map.entry x ≡ unknown
    → Held an frame map (declared frame.activation x value s)
held_new an w s frame map x value f h e = record {
  live = h.live;
  full = h.full;
  entries = λ y c u firm q. by_name y c u firm q (y == x) refl ((held_set an w s frame map x value unknown f h (unknown_all s.store.heap value)).entries y c u firm q);
}
  where
    by_name : (y c : ℕ) (u : Value) → is_loose an frame.module_at y ≡ false → Reads frame (declared frame.activation x value s) y c u → (b : Bool) → (y == x) ≡ b
        → holds s.store.heap u (if b then cut_up unknown else map.entry y) ≡ true → holds s.store.heap u (map.entry y) ≡ true
    by_name y c u firm q true k l = subst (λ (type : Term). holds s.store.heap u type ≡ true) (sym (subst (λ (z : ℕ). map.entry z ≡ unknown) (sym (eqb-true y x k)) e)) (unknown_all s.store.heap u)
    by_name y c u firm q false k l = l

-- ---- captured cells

module _ (an : Analysis) (frame : Frame) (map known : TypeMap) (starts : (x : ℕ) → StartsAs known map x) where
  captured_value : (w : World) (s : State) (c : ℕ × ℕ) → IsCaptured an w s.store frame.module_at known c → is_loose an frame.module_at c.0 ≡ false → (v : Value)
      → slice_get s.store.cells c.1 ≡ Some v → holds s.store.heap v (map.entry c.0) ≡ true
  captured_value w s c k firm v e = by_entry (starts c.0)
    where
      by_entry : StartsAs known map c.0 → holds s.store.heap v (map.entry c.0) ≡ true
      by_entry (inl n) = subst (λ (type : Term). holds s.store.heap v type ≡ true) (sym n) (unknown_all s.store.heap v)
      by_entry (inr n) = subst (λ (type : Term). holds s.store.heap v type ≡ true) (sym n) (k.5 firm v e)

  captured_well : (w : World) (s : State) (c : ℕ × ℕ) → Runs an w s frame → IsCaptured an w s.store frame.module_at known c
      → IsBoundWell an w (record { activation = frame.activation; local = c.0; cell = c.1 })
  captured_well w s c r k = (
    k.0,
    k.1,
    k.3,
    r.module_is ∙ ap (λ (m : ℕ). Some m) (sym k.2),
    inr (ap (λ (n : ℕ). is_caught an n k.0.local) k.2 ∙ (ap (λ (x : ℕ). is_caught an frame.module_at x) k.3 ∙ k.4)),
  )

  -- the captured cells are bound: the map matches, and nothing is logged
  pub ends_bind : (w : World) (s : State) (cells : List (ℕ × ℕ)) → Fine an w s → Runs an w s frame → Held an frame map s → AllByRecursion (IsCaptured an w s.store frame.module_at known) cells
      → Ends an (in_body frame) w s (λ x t. Held an frame map t × (t.trace ≡ s.trace)) (bind_captured frame.activation cells s)
  unfolding ◌>>=◌ change give
  ends_bind w s [] f r h all = ends_give an (in_body frame) w s (λ x t. Held an frame map t × (t.trace ≡ s.trace)) (tt {0}) f (h, refl)
  ends_bind w s (c ∷ cells) f r h all =
      ends_after an (in_body frame) w w s (bound_to frame.activation c.0 c.1 s) (λ x t. Held an frame map t × (t.trace ≡ s.trace))
      (bind_captured frame.activation cells (bound_to frame.activation c.0 c.1 s)) kept
      (ends_bind w (bound_to frame.activation c.0 c.1 s) cells (fine_bound an (in_body frame) w s frame.activation c.0 c.1 f (captured_well w s c r all.0) kept)
      (runs_kept an (in_body frame) w w s (bound_to frame.activation c.0 c.1 s) frame kept r)
      (held_bound an s frame map c.0 c.1 h (captured_value w s c all.0)) all.1)
    where
      kept : Kept an (in_body frame) w s w (bound_to frame.activation c.0 c.1 s)
      kept = kept_bound an (in_body frame) w s frame.activation c.0 c.1 refl refl

-- ---- parameters

-- each parameter reads as its argument, or nil
abbrev pub HaveArgs : Frame → Binds → List Value → State → Type 0
HaveArgs frame no_binds args t = Unit {0}
HaveArgs frame (more_binds (the_bind name span typ) rest) args t =
    ((c : ℕ) × Reads frame t (frame.reading.local_at span.start) c (first args)) × HaveArgs frame rest (drop 1 args) t

-- what holds once the parameters have their cells: the map matches, nothing was logged, each has its argument, and other locals
-- read as before
pub record Given (an : Analysis) (frame : Frame) (map : TypeMap) (params : Binds) (args : List Value) (s t : State) : Type 0 where
  pub held : Held an frame map t
  pub logged : t.trace ≡ s.trace
  pub have : HaveArgs frame params args t
  pub others : (y c : ℕ) (u : Value) → is_among y (run_locals frame params) ≡ false → Reads frame s y c u → Reads frame t y c u

reads_own : (frame : Frame) (s : State) (x : ℕ) (v : Value) → Reads frame (declared frame.activation x v s) x (length s.store.cells) v
reads_own frame s x v = (by_test (frame.activation == frame.activation) (x == x) (same_number frame.activation) (same_number x), last_get s.store.cells v)
  where
    by_test : (p q : Bool) → p ≡ true → q ≡ true
        → option_map (λ (b : Binding). b.cell) (if p && q then Some (record { activation = frame.activation; local = x; cell = length s.store.cells })
        else find (λ (b : Binding). (b.activation == frame.activation) && (b.local == x)) s.store.bindings) ≡ Some (length s.store.cells)
    by_test true true a b = refl
    by_test true false a b = cc
    by_test false q a b = cc

pub reads_other : (frame : Frame) (s : State) (x y c : ℕ) (v u : Value) → (x == y) ≡ false → Reads frame s y c u → Reads frame (declared frame.activation x v s) y c u
reads_other frame s x y c v u n h = (by_test (frame.activation == frame.activation) (x == y) n, stays_at s.store.cells (declared frame.activation x v s).store.cells c u (v ∷ [], refl) h.1)
  where
    by_test : (p q : Bool) → q ≡ false
        → option_map (λ (b : Binding). b.cell) (if p && q then Some (record { activation = frame.activation; local = x; cell = length s.store.cells })
        else find (λ (b : Binding). (b.activation == frame.activation) && (b.local == y)) s.store.bindings) ≡ Some c
    by_test true true a = cc
    by_test true false a = h.0
    by_test false q a = h.0

neither : (a b : Bool) → a || b ≡ false → (a ≡ false) × (b ≡ false)
neither true b e = cc
neither false b e = (refl, e)

first_apart : (x : ℕ) (xs : List ℕ) → are_distinct (x ∷ xs) ≡ true → (is_among x xs ≡ false) × (are_distinct xs ≡ true)
first_apart x xs h = by_parts (is_among x xs) (are_distinct xs) h
  where
    by_parts : (a b : Bool) → not a && b ≡ true → (a ≡ false) × (b ≡ true)
    by_parts true b k = cc
    by_parts false b k = (refl, k)

turned : (m n : ℕ) → (m == n) ≡ (n == m)
turned m n = grind arith

first_there : (an : Analysis) (w : World) (s : State) (vs : List Value) → AllByRecursion (Stands s.store.heap) vs → Stands s.store.heap (first vs)
first_there an w s [] h = tt
first_there an w s (v ∷ vs) h = h.0

rest_there : (an : Analysis) (w : World) (s : State) (vs : List Value) → AllByRecursion (Stands s.store.heap) vs → AllByRecursion (Stands s.store.heap) (drop 1 vs)
rest_there an w s [] h = tt
rest_there an w s (v ∷ vs) h = h.1

unfixed : (o : Option (List ℕ)) (path : List ℕ) (P : Type 0) → o ≡ None → o ≡ Some path → P
unfixed o path P e k = cc

module _ (an : Analysis) (frame : Frame) (map : TypeMap) where
  pub ends_params : (w : World) (s : State) (params : Binds) (args : List Value) → Fine an w s → Runs an w s frame → Held an frame map s
      → AllByRecursion (λ x. map.entry x ≡ unknown) (run_locals frame params) → NoneFixed (rules_of an frame) (run_locals frame params) → are_distinct (run_locals frame params) ≡ true
      → AllByRecursion (Stands s.store.heap) args → Ends an (in_body frame) w s (λ x t. Given an frame map params args s t) (bind_params frame params args s)
  unfolding ◌>>=◌ look change give
  ends_params w s no_binds args f r h free none distinct there = ends_give an (in_body frame) w s (λ x t. Given an frame map no_binds args s t) (tt {0}) f
      (record { held = h; logged = refl; have = tt; others = λ y c u n q. q })
  ends_params w s (more_binds (the_bind name span typ) rest) args f r h free none distinct there =
      ends_after an (in_body frame) w (with_owner w (owner_in frame x)) s next (λ y t. Given an frame map (more_binds (the_bind name span typ) rest) args s t)
      (bind_params frame rest (drop 1 args) next) kept
      (ends_so an (in_body frame) (with_owner w (owner_in frame x)) next (λ y t. Given an frame map rest (drop 1 args) next t)
      (λ y t. Given an frame map (more_binds (the_bind name span typ) rest) args s t) (bind_params frame rest (drop 1 args) next)
      (λ y t v e g k p. more t p)
      (ends_params (with_owner w (owner_in frame x)) next rest (drop 1 args)
      (fine_declared an (in_body frame) w s frame x (first args) f r (first_there an w s args there) (λ path e. unfixed ((rules_of an frame).fixed x) path (first args ≡ Builtin path) none.0 e) kept)
      (runs_kept an (in_body frame) w (with_owner w (owner_in frame x)) s next frame kept r)
      (held_new an w s frame map x (first args) f h free.0) free.1 none.1 apart.1 (rest_there an w s args there)))
    where
      x : ℕ
      x = frame.reading.local_at span.start

      next : State
      next = declared frame.activation x (first args) s

      kept : Kept an (in_body frame) w s (with_owner w (owner_in frame x)) next
      kept = kept_declared an (in_body frame) w s frame x (first args) f refl refl

      apart : (is_among x (run_locals frame rest) ≡ false) × (are_distinct (run_locals frame rest) ≡ true)
      apart = first_apart x (run_locals frame rest) distinct

      more : (t : State) → Given an frame map rest (drop 1 args) next t → Given an frame map (more_binds (the_bind name span typ) rest) args s t
      more t p = record {
        held = p.held;
        logged = p.logged;
        have = ((length s.store.cells, p.others x (length s.store.cells) (first args) apart.0 (reads_own frame s x (first args))), p.have);
        others = λ y c u n q. let k : ((y == x) ≡ false) × (is_among y (run_locals frame rest) ≡ false) = neither (y == x) (is_among y (run_locals frame rest)) n in
            p.others y c u k.1 (reads_other frame s x y c (first args) u (turned x y ∙ k.0) q);
      }
