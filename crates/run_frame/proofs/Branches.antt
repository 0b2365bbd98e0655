-- What a condition that came out one way says: of the contexts that it chooses between, and of the map where it did.
use Rattle.std.proofs.Common.{◌≡◌, ℕ, Bool, true, false, not, ◌==◌, ◌&&◌, ◌||◌, if◌then◌else◌, List, [], ◌∷◌, Option, Some, ◌⊎◌, inl, inr, refl, sym, ◌∙◌, subst, arith, slice_get}
use Rattle.std.specs.List.{list_any}
use Rattle.luau_values.specs.Value.{Value}
use Rattle.luau_values.specs.Heap.{Heap}
use Rattle.luau_tree.specs.Tree.{Expr}
use Rattle.luau_run.specs.ReadFolder.{is_among}
use Rattle.luau_run.specs.Machine.{State}
use Rattle.luau_run.specs.Layer.{Frame}
use Rattle.luau_run.specs.Expressions.{cell_of}
use Rattle.type_arena.specs.Term.{Term}
use Rattle.type_normal.specs.Holds.{holds}
use Rattle.type_normal.specs.Rows.{is_empty, is_unknown}
use Rattle.type_normal.specs.Kinds.{unknown}
use Rattle.type_normal.specs.Cut.{cut_up}
use Rattle.type_normal.specs.Operations.{union, meet, not_free, is_flat}
use Rattle.type_normal.proofs.Public.{cut_down_below, cut_up_above, union_holds, meet_holds, not_free_holds, unknown_all, empty_holds}
use Rattle.report_rules.specs.Guard.{guard, guarded}
use Rattle.report_rules.specs.TypeMap.{TypeMap, refined_by, refine}
use Rattle.report_rules.specs.Context.{Context, unless, branch}
use Rattle.run_frame.specs.Analysis.{Analysis, is_loose}
use Rattle.run_frame.proofs.Fine.{HasValue}
use Rattle.run_frame.proofs.Held.{Reads, Held, Violated}
use Rattle.run_frame.proofs.Layers.{rules_of, Shows}
use Rattle.run_frame.proofs.Passing.{one_of, both_of}
use Rattle.run_frame.proofs.Guards.{guarded_firm}

-- a condition that came out so shows what its guard says, of each local that isn't loose
abbrev pub ShowsAll : Analysis → Frame → Expr → Bool → State → Type 0
ShowsAll an frame cond truth t = (x : ℕ) → is_loose an frame.module_at x ≡ false → (guard (rules_of an frame) cond truth x ≡ unknown) ⊎ Shows frame t x (guard (rules_of an frame) cond truth x)

-- ---- one cell, one value

same_option : (c d : ℕ) (o : Option ℕ) → o ≡ Some c → o ≡ Some d → c ≡ d
same_option c d o p q = cc

same_content : (u v : Value) (o : Option Value) → o ≡ Some u → o ≡ Some v → u ≡ v
same_content u v o p q = cc

pub reads_once : (frame : Frame) (t : State) (x c d : ℕ) (u v : Value) → Reads frame t x c u → Reads frame t x d v → u ≡ v
reads_once frame t x c d u v p q = same_content u v (slice_get t.store.cells c) p.1
    (subst (λ (i : ℕ). slice_get t.store.cells i ≡ Some v) (sym (same_option c d (cell_of t.store.bindings frame.activation x) p.0 q.0)) q.1)

-- so what a local reads as is in what the guard says of it
shown : (an : Analysis) (frame : Frame) (cond : Expr) (truth : Bool) (t : State) (x c : ℕ) (v : Value) → ShowsAll an frame cond truth t → is_loose an frame.module_at x ≡ false
    → Reads frame t x c v → holds t.store.heap v (guard (rules_of an frame) cond truth x) ≡ true
shown an frame cond truth t x c v shows firm q = by_side (shows x firm)
  where
    by_side : (guard (rules_of an frame) cond truth x ≡ unknown) ⊎ Shows frame t x (guard (rules_of an frame) cond truth x)
        → holds t.store.heap v (guard (rules_of an frame) cond truth x) ≡ true
    by_side (inl e) = subst (λ (type : Term). holds t.store.heap v type ≡ true) (sym e) (unknown_all t.store.heap v)
    by_side (inr e) = subst (λ (u : Value). holds t.store.heap u (guard (rules_of an frame) cond truth x) ≡ true) (reads_once frame t x e.0 c e.1 v e.2 q) e.3

-- ---- contexts

-- what is in a set unless a guard fails, and in the guard, is in the set
unless_in : (h : Heap) (v : Value) (says type : Term) → is_flat says ≡ true → holds h v says ≡ true → holds h v (unless says type) ≡ true → holds h v type ≡ true
unless_in h v says type flat e k = by_side (one_of (holds h v type) (holds h v (not_free says)) (sym (union_holds h v type (not_free says)) ∙ cut_down_below h v (union type (not_free says)) k))
  where
    clash : (b : Bool) → b ≡ true → not b ≡ true → ⊥
    clash true p q = cc
    clash false p q = cc

    by_side : (holds h v type ≡ true) ⊎ (holds h v (not_free says) ≡ true) → holds h v type ≡ true
    by_side (inl p) = p
    by_side (inr p) = absurd (clash (holds h v says) e (sym (not_free_holds h v says flat) ∙ p))

-- where a condition chooses between two contexts, the one of the side that it chose is violated
pub violated_branch : (an : Analysis) (frame : Frame) (cond : Expr) (truth : Bool) (when_true when_false : Context) (t : State)
    → ((way : Bool) (x : ℕ) → is_flat (guard (rules_of an frame) cond way x) ≡ true) → ShowsAll an frame cond truth t
    → Violated an frame (branch (rules_of an frame) cond when_true when_false) t → Violated an frame (if truth then when_true else when_false) t
violated_branch an frame cond true when_true when_false t flat shows h = (
  h.0,
  h.1,
  h.2,
  h.3,
  h.4,
  unless_in t.store.heap h.2 (guard (rules_of an frame) cond true h.0) (when_true h.0) (flat true h.0) (shown an frame cond true t h.0 h.1 h.2 shows h.3 h.4)
      (both_of (holds t.store.heap h.2 (unless (guard (rules_of an frame) cond true h.0) (when_true h.0))) (holds t.store.heap h.2 (unless (guard (rules_of an frame) cond false h.0) (when_false h.0)))
      (sym (meet_holds t.store.heap h.2 (unless (guard (rules_of an frame) cond true h.0) (when_true h.0)) (unless (guard (rules_of an frame) cond false h.0) (when_false h.0)))
      ∙ cut_down_below t.store.heap h.2 (meet (unless (guard (rules_of an frame) cond true h.0) (when_true h.0)) (unless (guard (rules_of an frame) cond false h.0) (when_false h.0))) h.5)).0,
)
violated_branch an frame cond false when_true when_false t flat shows h = (
  h.0,
  h.1,
  h.2,
  h.3,
  h.4,
  unless_in t.store.heap h.2 (guard (rules_of an frame) cond false h.0) (when_false h.0) (flat false h.0) (shown an frame cond false t h.0 h.1 h.2 shows h.3 h.4)
      (both_of (holds t.store.heap h.2 (unless (guard (rules_of an frame) cond true h.0) (when_true h.0))) (holds t.store.heap h.2 (unless (guard (rules_of an frame) cond false h.0) (when_false h.0)))
      (sym (meet_holds t.store.heap h.2 (unless (guard (rules_of an frame) cond true h.0) (when_true h.0)) (unless (guard (rules_of an frame) cond false h.0) (when_false h.0)))
      ∙ cut_down_below t.store.heap h.2 (meet (unless (guard (rules_of an frame) cond true h.0) (when_true h.0)) (unless (guard (rules_of an frame) cond false h.0) (when_false h.0))) h.5)).1,
)

-- ---- the refined map

-- a value in an entry and in the guard is in the refined entry
refined_in : (h : Heap) (v : Value) (says type : Term) → holds h v says ≡ true → holds h v type ≡ true → holds h v (refined_by says type) ≡ true
refined_in h v says type e k = by_test (is_unknown says)
  where
    both : (p q : Bool) → p ≡ true → q ≡ true → p && q ≡ true
    both true q a b = b
    both false q a b = cc

    by_test : (b : Bool) → holds h v (if b then type else cut_up (meet type says)) ≡ true
    by_test true = k
    by_test false = cut_up_above h v (meet type says) (meet_holds h v type says ∙ both (holds h v type) (holds h v says) k e)

not_empty : (h : Heap) (v : Value) (type : Term) → holds h v type ≡ true → is_empty type ≡ false
not_empty h v type e = by_test (is_empty type) refl
  where
    clash : (b : Bool) → b ≡ true → b ≡ false → ⊥
    clash b p q = cc

    by_test : (b : Bool) → is_empty type ≡ b → is_empty type ≡ false
    by_test true p = absurd (clash (holds h v type) e (empty_holds h v type p))
    by_test false p = p

none_so : (p : ℕ → Bool) (xs : List ℕ) → ((x : ℕ) → is_among x xs ≡ true → p x ≡ false) → list_any p xs ≡ false
none_so p [] h = refl
none_so p (x ∷ xs) h = neither (p x) (list_any p xs) (h x (head (x == x) (is_among x xs) (itself x))) (none_so p xs (λ y e. h y (later (y == x) (is_among y xs) e)))
  where
    itself : (n : ℕ) → (n == n) ≡ true
    itself n = grind arith

    head : (a b : Bool) → a ≡ true → a || b ≡ true
    head true b e = refl
    head false b e = cc

    later : (a b : Bool) → b ≡ true → a || b ≡ true
    later true b e = refl
    later false b e = e

    neither : (a b : Bool) → a ≡ false → b ≡ false → a || b ≡ false
    neither true b e k = e
    neither false b e k = k

-- an entry that has a value isn't empty
value_full : (type : Term) → HasValue type → is_empty type ≡ false
value_full type q = not_empty q.0 q.1 type q.2

-- the map where a condition came out so. It is live: of a local of the condition that its guard says nothing of, the entry is as
-- it was, and has a value; and of one that its guard says something of, the value that it holds is in the new entry
pub held_refined : (an : Analysis) (frame : Frame) (map : TypeMap) (cond : Expr) (truth : Bool) (t : State) → ShowsAll an frame cond truth t
    → Held an frame map t → Held an frame (refine (rules_of an frame) cond truth map) t
held_refined an frame map cond truth t shows h = record {
  live = alive map.dead (list_any (λ local. is_empty (refined_by (guard (rules_of an frame) cond truth local) (map.entry local))) (guarded (rules_of an frame) cond)) h.live
      (none_so (λ local. is_empty (refined_by (guard (rules_of an frame) cond truth local) (map.entry local))) (guarded (rules_of an frame) cond)
      (λ x e. value_full (refined_by (guard (rules_of an frame) cond truth x) (map.entry x)) (by_side x (guarded_firm (rules_of an frame) cond x e) (shows x (guarded_firm (rules_of an frame) cond x e)))));
  full = λ x firm. by_side x firm (shows x firm);
  entries = λ x c v firm q. refined_in t.store.heap v (guard (rules_of an frame) cond truth x) (map.entry x) (shown an frame cond truth t x c v shows firm q) (h.entries x c v firm q);
}
  where
    alive : (a b : Bool) → a ≡ false → b ≡ false → a || b ≡ false
    alive true b e k = e
    alive false b e k = k

    by_side : (x : ℕ) → is_loose an frame.module_at x ≡ false → (guard (rules_of an frame) cond truth x ≡ unknown) ⊎ Shows frame t x (guard (rules_of an frame) cond truth x)
        → HasValue (refined_by (guard (rules_of an frame) cond truth x) (map.entry x))
    by_side x firm (inl e) = subst (λ (says : Term). HasValue (refined_by says (map.entry x))) (sym e) (h.full x firm)
    by_side x firm (inr e) = (t.store.heap, e.1, refined_in t.store.heap e.1 (guard (rules_of an frame) cond truth x) (map.entry x) e.3 (h.entries x e.0 e.1 firm e.2))
