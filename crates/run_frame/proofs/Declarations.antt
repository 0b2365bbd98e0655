-- Declarations of locals, forward.
use Rattle.std.proofs.Common.{◌≡◌, ℕ, suc, ◌<◌, Bool, true, false, not, ◌==◌, ◌&&◌, ◌||◌, if◌then◌else◌, List, [], ◌∷◌, ◌++◌, length, Option, Some, None, refl, sym, ◌∙◌, ap, subst, arith, slice_get, drop}
use Rattle.std.specs.List.{AllByRecursion, find}
use Rattle.std.specs.Option.{option_map}
use Rattle.std.proofs.lemmas.Option.{slice_get_within}
use Rattle.luau_values.specs.Value.{Value, Builtin}
use Rattle.luau_values.specs.Heap.{Heap}
use Rattle.luau_values.specs.Stands.{Stands}
use Rattle.luau_tree.specs.Tree.{Exprs, no_exprs, more_exprs, the_bind, Binds, no_binds, more_binds}
use Rattle.luau_run.specs.Machine.{Binding, State, ◌>>=◌, look, change, give}
use Rattle.luau_run.specs.Layer.{Frame, first}
use Rattle.luau_run.specs.Expressions.{cell_of}
use Rattle.luau_run.specs.Loops.{declare}
use Rattle.type_arena.specs.Term.{Term}
use Rattle.type_normal.specs.Holds.{holds}
use Rattle.type_normal.specs.Rows.{is_empty}
use Rattle.type_normal.specs.Cut.{cut_up}
use Rattle.type_normal.proofs.Public.{cut_up_above, empty_holds, unknown_all}
use Rattle.report_rules.specs.Rules.{Rules, loose, fixed_use}
use Rattle.report_rules.specs.TypeMap.{TypeMap, set, set_all, not_given}
use Rattle.run_frame.specs.Analysis.{Analysis, is_loose}
use Rattle.run_frame.specs.Fit.{FixedBy}
use Rattle.run_frame.proofs.World.{World, with_owner, last_get, same_within}
use Rattle.run_frame.proofs.Kept.{Doer}
use Rattle.run_frame.proofs.Fine.{HasValue, Fine}
use Rattle.run_frame.proofs.Held.{Runs, runs_kept, Held, HasOwner, bound_well}
use Rattle.run_frame.proofs.Parts.{Ends, ends_after, ends_give}
use Rattle.run_frame.proofs.Cells.{declared, owner_in, kept_declared, fine_declared}
use Rattle.run_frame.proofs.Layers.{rules_of}
use Rattle.run_frame.proofs.Lists.{AreTyped, AreFixed}

-- ---- the map after a local gets a new cell

same_some_value : (u v : Value) (o : Option Value) → o ≡ Some u → o ≡ Some v → u ≡ v
same_some_value u v o p q = cc

some_number : (m n : ℕ) → Some m ≡ Some n → m ≡ n
some_number m n e = cc

pub held_set : (an : Analysis) (w : World) (s : State) (frame : Frame) (map : TypeMap) (x : ℕ) (value : Value) (type : Term) → Fine an w s → Held an frame map s
    → holds s.store.heap value type ≡ true → Held an frame (set (rules_of an frame) x type map) (declared frame.activation x value s)
held_set an w s frame map x value type f h here = record {
  live = alive map.dead (loose (rules_of an frame) x) (is_empty type) h.live (is_full (is_empty type) refl);
  full = λ y firm. by_name (y == x) y (h.full y firm);
  entries = λ y c u firm q. by_cell y c u firm q.0 q.1;
}
  where
    clash : (b : Bool) → b ≡ true → b ≡ false → ⊥
    clash b p q = cc

    is_full : (b : Bool) → is_empty type ≡ b → is_empty type ≡ false
    is_full true e = absurd (clash (holds s.store.heap value type) here (empty_holds s.store.heap value type e))
    is_full false e = e

    by_name : (b : Bool) (y : ℕ) → HasValue (map.entry y) → HasValue (if b then cut_up type else map.entry y)
    by_name true y q = (s.store.heap, value, cut_up_above s.store.heap value type here)
    by_name false y q = q

    alive : (dead l empty : Bool) → dead ≡ false → empty ≡ false → dead || (not l && empty) ≡ false
    alive true l empty d e = d
    alive false true empty d e = refl
    alive false false empty d e = e

    new_or_old : (a b : ℕ) → (a == a) ≡ true
    new_or_old a b = grind arith

    old_value : (y c : ℕ) (u : Value) → is_loose an frame.module_at y ≡ false → cell_of s.store.bindings frame.activation y ≡ Some c
        → slice_get (s.store.cells ++ value ∷ []) c ≡ Some u → holds s.store.heap u (map.entry y) ≡ true
    old_value y c u firm e k =
        let o : HasOwner an w frame.activation y c = bound_well an w frame.activation y c s.store.bindings f.bound e in
        h.entries y c u firm (e, sym (same_within s.store.cells value c (subst (λ (n : ℕ). c < n) f.owned (slice_get_within w.owners c o.0 o.1))) ∙ k)

    by_cell : (y c : ℕ) (u : Value) → is_loose an frame.module_at y ≡ false
        → option_map (λ (b : Binding). b.cell) (if (frame.activation == frame.activation) && (x == y)
        then Some (record { activation = frame.activation; local = x; cell = length s.store.cells })
        else find (λ (b : Binding). (b.activation == frame.activation) && (b.local == y)) s.store.bindings) ≡ Some c
        → slice_get (s.store.cells ++ value ∷ []) c ≡ Some u
        → holds s.store.heap u (if y == x then cut_up type else map.entry y) ≡ true
    by_cell y c u firm e k = by_test (frame.activation == frame.activation) (x == y) (y == x) (same_number frame.activation) (turned x y) refl e
      where
        same_number : (n : ℕ) → (n == n) ≡ true
        same_number n = grind arith

        turned : (m n : ℕ) → (m == n) ≡ (n == m)
        turned m n = grind arith

        by_test : (p q z : Bool) → p ≡ true → q ≡ z → (y == x) ≡ z
            → option_map (λ (b : Binding). b.cell) (if p && q then Some (record { activation = frame.activation; local = x; cell = length s.store.cells })
            else find (λ (b : Binding). (b.activation == frame.activation) && (b.local == y)) s.store.bindings) ≡ Some c
            → holds s.store.heap u (if z then cut_up type else map.entry y) ≡ true
        by_test true true true p q z g = subst (λ (v : Value). holds s.store.heap v (cut_up type) ≡ true)
            (same_some_value value u (slice_get (s.store.cells ++ value ∷ []) (length s.store.cells)) (last_get s.store.cells value)
            (subst (λ (n : ℕ). slice_get (s.store.cells ++ value ∷ []) n ≡ Some u) (sym (some_number (length s.store.cells) c g)) k))
            (cut_up_above s.store.heap value type here)
        by_test true false false p q z g = old_value y c u firm g k
        by_test true true false p q z g = cc
        by_test true false true p q z g = cc
        by_test false q' z' p q z g = cc

-- ---- names and values

-- the locals of declared names, as the run reads them
abbrev pub run_locals : Frame → Binds → List ℕ
run_locals frame no_binds = []
run_locals frame (more_binds (the_bind name span typ) rest) = frame.reading.local_at span.start ∷ run_locals frame rest

-- a local that always holds a builtin gets it
abbrev pub GetFixed : Rules → List ℕ → List Value → Type 0
GetFixed rules [] vs = Unit {0}
GetFixed rules (x ∷ locals) vs = ((path : List ℕ) → rules.fixed x ≡ Some path → first vs ≡ Builtin path) × GetFixed rules locals (drop 1 vs)

pub get_fixed : (rules : Rules) (locals : List ℕ) (es : Exprs) (vs : List Value) → FixedBy rules locals es → AreFixed rules es vs → GetFixed rules locals vs
get_fixed rules [] es vs h k = tt
get_fixed rules (x ∷ locals) no_exprs vs h k = (λ path e. absurd (clash path (rules.fixed x) h.0 e), get_fixed rules locals no_exprs (drop 1 vs) h.1 tt)
  where
    clash : (path : List ℕ) (o : Option (List ℕ)) → o ≡ None → o ≡ Some path → ⊥
    clash path o p q = cc
get_fixed rules (x ∷ locals) (more_exprs e rest) vs h k =
    (λ path z. k.0 path (ap (fixed_use rules) (h.0 path z)), get_fixed rules locals rest (drop 1 vs) h.1 k.1)

first_there : (heap : Heap) (vs : List Value) → AllByRecursion (Stands heap) vs → Stands heap (first vs)
first_there heap [] h = tt
first_there heap (v ∷ vs) h = h.0

rest_there : (heap : Heap) (vs : List Value) → AllByRecursion (Stands heap) vs → AllByRecursion (Stands heap) (drop 1 vs)
rest_there heap [] h = tt
rest_there heap (v ∷ vs) h = h.1

rest_number : (vs : List Value) (n : ℕ) → length vs ≡ suc n → length (drop 1 vs) ≡ n
rest_number [] n e = absurd (omega (arith, e))
rest_number (v ∷ vs) n e = omega (arith, e)

none_left : (vs : List Value) → length vs ≡ 0 → length (drop 1 vs) ≡ 0
none_left [] e = refl
none_left (v ∷ vs) e = absurd (omega (arith, e))

-- a name that is given no value holds nil, or anything if the last value expands
not_given_typed : (heap : Heap) (expanding : Bool) (vs : List Value) → (expanding ≡ false → length vs ≡ 0) → holds heap (first vs) (not_given expanding) ≡ true
not_given_typed heap true vs h = unknown_all heap (first vs)
not_given_typed heap false [] h = refl
not_given_typed heap false (v ∷ vs) h = absurd (omega (arith, h refl))

-- new cells for the names of a list: the map after them matches
pub ends_declare : (an : Analysis) (who : Doer) (w : World) (s : State) (frame : Frame) (map : TypeMap) (binds : Binds) (expanding : Bool) (types : List Term) (vs : List Value)
    → Fine an w s → Runs an w s frame → Held an frame map s → who.runs ≡ Some frame.activation → AllByRecursion (λ x. who.binds x ≡ true) (run_locals frame binds)
    → AllByRecursion (Stands s.store.heap) vs → AreTyped s.store.heap types vs → (expanding ≡ false → length vs ≡ length types)
    → GetFixed (rules_of an frame) (run_locals frame binds) vs
    → Ends an who w s (λ x t. Held an frame (set_all (rules_of an frame) (run_locals frame binds) expanding types map) t) (declare frame binds vs s)
unfolding ◌>>=◌ look change give
ends_declare an who w s frame map no_binds expanding types vs f r h runs binds there typed number fixed =
    ends_give an who w s (λ x t. Held an frame map t) (tt {0}) f h
ends_declare an who w s frame map (more_binds (the_bind name span typ) rest) expanding [] vs f r h runs binds there typed number fixed =
    ends_after an who w (with_owner w (owner_in frame (frame.reading.local_at span.start))) s (declared frame.activation (frame.reading.local_at span.start) (first vs) s)
    (λ x t. Held an frame (set_all (rules_of an frame) (run_locals frame (more_binds (the_bind name span typ) rest)) expanding [] map) t)
    (declare frame rest (drop 1 vs) (declared frame.activation (frame.reading.local_at span.start) (first vs) s))
    (kept_declared an who w s frame (frame.reading.local_at span.start) (first vs) f runs binds.0)
    (ends_declare an who (with_owner w (owner_in frame (frame.reading.local_at span.start))) (declared frame.activation (frame.reading.local_at span.start) (first vs) s) frame
    (set (rules_of an frame) (frame.reading.local_at span.start) (not_given expanding) map) rest expanding [] (drop 1 vs)
    (fine_declared an who w s frame (frame.reading.local_at span.start) (first vs) f r (first_there s.store.heap vs there) fixed.0
    (kept_declared an who w s frame (frame.reading.local_at span.start) (first vs) f runs binds.0))
    (runs_kept an who w (with_owner w (owner_in frame (frame.reading.local_at span.start))) s (declared frame.activation (frame.reading.local_at span.start) (first vs) s) frame
    (kept_declared an who w s frame (frame.reading.local_at span.start) (first vs) f runs binds.0) r)
    (held_set an w s frame map (frame.reading.local_at span.start) (first vs) (not_given expanding) f h (not_given_typed s.store.heap expanding vs number))
    runs binds.1 (rest_there s.store.heap vs there) tt (λ e. none_left vs (number e)) fixed.1)
ends_declare an who w s frame map (more_binds (the_bind name span typ) rest) expanding (type ∷ types) vs f r h runs binds there typed number fixed =
    ends_after an who w (with_owner w (owner_in frame (frame.reading.local_at span.start))) s (declared frame.activation (frame.reading.local_at span.start) (first vs) s)
    (λ x t. Held an frame (set_all (rules_of an frame) (run_locals frame (more_binds (the_bind name span typ) rest)) expanding (type ∷ types) map) t)
    (declare frame rest (drop 1 vs) (declared frame.activation (frame.reading.local_at span.start) (first vs) s))
    (kept_declared an who w s frame (frame.reading.local_at span.start) (first vs) f runs binds.0)
    (ends_declare an who (with_owner w (owner_in frame (frame.reading.local_at span.start))) (declared frame.activation (frame.reading.local_at span.start) (first vs) s) frame
    (set (rules_of an frame) (frame.reading.local_at span.start) type map) rest expanding types (drop 1 vs)
    (fine_declared an who w s frame (frame.reading.local_at span.start) (first vs) f r (first_there s.store.heap vs there) fixed.0
    (kept_declared an who w s frame (frame.reading.local_at span.start) (first vs) f runs binds.0))
    (runs_kept an who w (with_owner w (owner_in frame (frame.reading.local_at span.start))) s (declared frame.activation (frame.reading.local_at span.start) (first vs) s) frame
    (kept_declared an who w s frame (frame.reading.local_at span.start) (first vs) f runs binds.0) r)
    (held_set an w s frame map (frame.reading.local_at span.start) (first vs) type f h typed.0)
    runs binds.1 (rest_there s.store.heap vs there) typed.1 (λ e. rest_number vs (length types) (number e)) fixed.1)
