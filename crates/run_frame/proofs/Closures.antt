-- Moves that keep something for later: a closure is made, a module's value is kept.
use Rattle.std.proofs.Common.{◌≡◌, ℕ, true, List, [], ◌∷◌, ◌++◌, Option, Some, None, refl, sym, ◌∙◌, ap, subst, arith, slice_get}
use Rattle.std.specs.List.{AllByRecursion}
use Rattle.luau_values.specs.Value.{Value, Lit}
use Rattle.luau_values.specs.Heap.{Heap}
use Rattle.luau_values.specs.Later.{Later}
use Rattle.luau_values.specs.Grows.{Grows}
use Rattle.luau_values.proofs.Public.{later_refl, grows_refl}
use Rattle.luau_tree.specs.Tree.{Body}
use Rattle.luau_run.specs.SyntaxNode.{of_block, of_body}
use Rattle.luau_run.specs.Machine.{Binding, Closure, Store, State, Gave, ◌>>=◌, look, change, give, spend}
use Rattle.luau_run.specs.Layer.{Frame}
use Rattle.luau_run.specs.Expressions.{cell_of, cell_or_spend, local_cell, captured_cells, number_of, make_closure}
use Rattle.luau_run.specs.Calls.{keep_loaded}
use Rattle.type_normal.proofs.Public.{widen_above}
use Rattle.report_rules.specs.TypeMap.{TypeMap}
use Rattle.report_rules.specs.Seen.{seen_body, seen_module}
use Rattle.report_rules.specs.Findings.{found_body}
use Rattle.report_rules.specs.Reports.{findings}
use Rattle.run_frame.specs.Statements.{stats_of_block, stats_of_body}
use Rattle.run_frame.specs.Analysis.{Analysis, is_caught}
use Rattle.run_frame.proofs.World.{World, front_refl, all_append, all_map}
use Rattle.run_frame.proofs.Counts.{reached}
use Rattle.run_frame.proofs.Kept.{Doer, nobody, Kept}
use Rattle.run_frame.proofs.Fine.{Sub, IsCaptured, IsClosure, closure_kept, IsLoaded, Fine}
use Rattle.run_frame.proofs.Held.{Runs, runs_kept, Held, held_same, HasOwner, bound_well, same_some}
use Rattle.run_frame.proofs.Parts.{Ends, Same, ends_then, ends_give}

-- a move that leaves cells, bindings and heap, begins nothing and logs nothing
abbrev pub LeavesAll : State → State → Type 0
LeavesAll s t = (t.store.cells ≡ s.store.cells) × (t.store.bindings ≡ s.store.bindings) × (t.store.heap ≡ s.store.heap) × (t.store.begun ≡ s.store.begun) × (t.trace ≡ s.trace)

pub kept_all : (an : Analysis) (who : Doer) (w : World) (s t : State) → LeavesAll s t → Kept an who w s w t
kept_all an who w s t e = record {
  owners = front_refl w.owners;
  modules = front_refl w.modules;
  cells = λ c o g l p. ap (λ (cs : List Value). slice_get cs c) e.0;
  new = [];
  bindings = e.1;
  whose = tt;
  heap = subst (λ (h : Heap). Later s.store.heap h) (sym e.2) (later_refl s.store.heap);
  calm = λ c. subst (λ (h : Heap). Grows s.store.heap h) (sym e.2) (grows_refl s.store.heap);
  counts = λ b l n. ap (λ x. reached an b x) e.4;
  begun = omega (arith, e.3);
}

-- ---- a closure is made

abbrev pub with_closure : Closure → State → State
with_closure c s = record s { store = record s.store { closures = s.store.closures ++ c ∷ [] } }

pub fine_closure : (an : Analysis) (w : World) (s : State) (c : Closure) → Fine an w s → IsClosure an w s.store c → Fine an w (with_closure c s)
fine_closure an w s c f h = record {
  owned = f.owned;
  ran = f.ran;
  older = f.older;
  bound = f.bound;
  stand = f.stand;
  fields = f.fields;
  libraries = f.libraries;
  fixed = f.fixed;
  closures = all_map (IsClosure an w s.store) (IsClosure an w (with_closure c s).store) (s.store.closures ++ c ∷ [])
      (λ d. closure_kept an (nobody true) w w s (with_closure c s) d (kept_all an (nobody true) w s (with_closure c s) (refl, refl, refl, refl, refl)))
      (all_append (IsClosure an w s.store) s.store.closures (c ∷ []) f.closures (h, tt));
  loaded = f.loaded;
  stays = f.stays;
  young = f.young;
}

-- the cell that a local of the frame stands for
pub ends_cell : (an : Analysis) (who : Doer) (w : World) (s : State) (frame : Frame) (x : ℕ) → Fine an w s
    → Ends an who w s (λ c t. Same s t × (cell_of s.store.bindings frame.activation x ≡ Some c)) (local_cell frame x s)
unfolding ◌>>=◌ look spend
ends_cell an who w s frame x f = by_cell (cell_of s.store.bindings frame.activation x) refl
  where
    by_cell : (o : Option ℕ) → cell_of s.store.bindings frame.activation x ≡ o
        → Ends an who w s (λ c t. Same s t × (cell_of s.store.bindings frame.activation x ≡ Some c)) (cell_or_spend o s)
    by_cell None e = f.stays
    by_cell (Some c) e = ends_give an who w s (λ d t. Same s t × (cell_of s.store.bindings frame.activation x ≡ Some d)) c f ((refl, refl), e)

-- a captured local's cell is the one that the frame has for it, and the local is captured
abbrev pub IsTaken : Analysis → Frame → List Binding → (ℕ × ℕ) → Type 0
IsTaken an frame bindings c = (cell_of bindings frame.activation c.0 ≡ Some c.1) × (is_caught an frame.module_at c.0 ≡ true)

abbrev pub AreTaken : Analysis → Frame → State → List (ℕ × ℕ) → State → Type 0
AreTaken an frame s cells t = Same s t × AllByRecursion (IsTaken an frame s.store.bindings) cells

pub ends_captured : (an : Analysis) (who : Doer) (w : World) (s : State) (frame : Frame) (xs : List ℕ) → Fine an w s
    → AllByRecursion (λ x. is_caught an frame.module_at x ≡ true) xs → Ends an who w s (AreTaken an frame s) (captured_cells frame xs s)
unfolding ◌>>=◌
ends_captured an who w s frame [] f h = ends_give an who w s (AreTaken an frame s) [] f ((refl, refl), tt)
ends_captured an who w s frame (x ∷ xs) f h =
    ends_then an who w s (λ c t. Same s t × (cell_of s.store.bindings frame.activation x ≡ Some c)) (AreTaken an frame s) (local_cell frame x s)
    (λ cell. ◌>>=◌ (captured_cells frame xs) (λ cells. give ((x, cell) ∷ cells))) (ends_cell an who w s frame x f)
    (λ c t v g k p. ends_then an who v t (AreTaken an frame t) (AreTaken an frame s) (captured_cells frame xs t) (λ cells. give ((x, c) ∷ cells))
    (ends_captured an who v t frame xs g h.1) (λ cells u z d j q. ends_give an who z u (AreTaken an frame s) ((x, c) ∷ cells) d
    ((q.0.0 ∙ p.0.0, q.0.1 ∙ p.0.1), ((p.1, h.0), subst (λ (y : Store). AllByRecursion (IsTaken an frame y.bindings) cells) p.0.0 q.1))))

-- the captured cells are as a closure wants them, from the map that matches
captured_one : (an : Analysis) (w : World) (s : State) (frame : Frame) (map : TypeMap) (c : ℕ × ℕ) → Fine an w s → Runs an w s frame → Held an frame map s
    → IsTaken an frame s.store.bindings c → IsCaptured an w s.store frame.module_at map c
captured_one an w s frame map c f r h k =
    let q : HasOwner an w frame.activation c.0 c.1 = bound_well an w frame.activation c.0 c.1 s.store.bindings f.bound k.0 in (
      q.0,
      q.1,
      same_some q.0.module_at frame.module_at (slice_get w.modules frame.activation) q.3 r.module_is,
      q.2,
      k.1,
      λ firm v e. widen_above s.store.heap v (map.entry c.0) (h.entries c.0 c.1 v firm (k.0, e)),
    )

-- a closure, whose literal has this body, of the frame's module
abbrev pub closure_in : Frame → Body → List (ℕ × ℕ) → Closure
closure_in frame code cells = record { value = Lit frame.reading.home (number_of code) cells; module_at = frame.module_at; code = code }

-- what stands, is seen and is found in a body stands, is seen and is found in the module; and the locals that the body captures
-- are captured
pub record Belongs (an : Analysis) (frame : Frame) (map : TypeMap) (code : Body) : Type 0 where
  pub inside : Sub (of_body code) (of_block frame.reading.block)
  pub statements : Sub (stats_of_body code) (stats_of_block frame.reading.block)
  pub placed : Sub (seen_body (an.rules frame.module_at) map code) (seen_module (an.rules frame.module_at))
  pub marked : Sub (found_body (an.rules frame.module_at) (seen_module (an.rules frame.module_at)) code) (findings (an.rules frame.module_at))
  pub caught : AllByRecursion (λ x. is_caught an frame.module_at x ≡ true) (frame.reading.captured (number_of code))

pub is_closure_in : (an : Analysis) (w : World) (s : State) (frame : Frame) (map : TypeMap) (code : Body) (cells : List (ℕ × ℕ)) → Fine an w s → Runs an w s frame
    → Held an frame map s → Belongs an frame map code → AllByRecursion (IsTaken an frame s.store.bindings) cells → IsClosure an w s.store (closure_in frame code cells)
is_closure_in an w s frame map code cells f r h b k = record {
  reading = frame.reading;
  known = map;
  cells = cells;
  module_is = r.reading;
  value_is = refl;
  live = h.live;
  full = h.full;
  inside = b.inside;
  statements = b.statements;
  placed = b.placed;
  marked = b.marked;
  captured = all_map (IsTaken an frame s.store.bindings) (IsCaptured an w s.store frame.module_at map) cells (λ c. captured_one an w s frame map c f r h) k;
}

-- a literal's value
abbrev pub IsLiteral : Frame → Body → Value → Type 0
IsLiteral frame code v = (cells : List (ℕ × ℕ)) × (v ≡ Lit frame.reading.home (number_of code) cells)

pub ends_closure : (an : Analysis) (who : Doer) (w : World) (s : State) (frame : Frame) (map : TypeMap) (code : Body) → Fine an w s → Runs an w s frame
    → Held an frame map s → Belongs an frame map code
    → Ends an who w s (λ v t. IsLiteral frame code v × LeavesAll s t) (make_closure frame code s)
unfolding ◌>>=◌ change give
ends_closure an who w s frame map code f r h b =
    ends_then an who w s (AreTaken an frame s) (λ v t. IsLiteral frame code v × LeavesAll s t) (captured_cells frame (frame.reading.captured (number_of code)) s)
    (λ cells t. Gave (Lit frame.reading.home (number_of code) cells) (with_closure (closure_in frame code cells) t))
    (ends_captured an who w s frame (frame.reading.captured (number_of code)) f b.caught)
    (λ cells t v g k p. made cells t v g k p)
  where
    made : (cells : List (ℕ × ℕ)) (t : State) (v : World) → Fine an v t → Kept an who w s v t → AreTaken an frame s cells t
        → Ends an who v t (λ x u. IsLiteral frame code x × LeavesAll s u) (Gave (Lit frame.reading.home (number_of code) cells) (with_closure (closure_in frame code cells) t))
    made cells t v g k p = (
      v,
      fine_closure an v t (closure_in frame code cells) g
          (is_closure_in an v t frame map code cells g (runs_kept an who w v s t frame k r)
          (held_same an s t frame map p.0 h) b (subst (λ (y : Store). AllByRecursion (IsTaken an frame y.bindings) cells) (sym p.0.0) p.1)),
      kept_all an who v t (with_closure (closure_in frame code cells) t) (refl, refl, refl, refl, refl),
      ((cells, refl), (ap (λ (x : Store). x.cells) p.0.0, ap (λ (x : Store). x.bindings) p.0.0, ap (λ (x : Store). x.heap) p.0.0, ap (λ (x : Store). x.begun) p.0.0, p.0.1)),
    )

-- ---- a loaded module's value is kept

abbrev pub with_loaded : ℕ → Value → State → State
with_loaded at v s = record s { store = record s.store { loaded = keep_loaded at v s.store.loaded } }

pub fine_loaded : (an : Analysis) (w : World) (s : State) (at : ℕ) (v : Value) → Fine an w s → IsLoaded an s.store.heap (at, v) → Fine an w (with_loaded at v s)
fine_loaded an w s at v f h = record {
  owned = f.owned;
  ran = f.ran;
  older = f.older;
  bound = f.bound;
  stand = f.stand;
  fields = f.fields;
  libraries = f.libraries;
  fixed = f.fixed;
  closures = all_map (IsClosure an w s.store) (IsClosure an w (with_loaded at v s).store) s.store.closures
      (λ d. closure_kept an (nobody true) w w s (with_loaded at v s) d (kept_all an (nobody true) w s (with_loaded at v s) (refl, refl, refl, refl, refl))) f.closures;
  loaded = all_append (IsLoaded an s.store.heap) s.store.loaded ((at, v) ∷ []) f.loaded (h, tt);
  stays = f.stays;
  young = f.young;
}
