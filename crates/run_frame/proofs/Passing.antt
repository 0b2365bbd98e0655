-- How maps and contexts go past an expression, and how joined contexts are violated.
use Rattle.std.proofs.Common.{◌≡◌, ℕ, Bool, true, false, ◌||◌, ◌&&◌, ◌⊎◌, inl, inr, refl, sym, ◌∙◌}
use Rattle.luau_values.specs.Value.{Value}
use Rattle.luau_run.specs.Machine.{State}
use Rattle.luau_run.specs.Layer.{Frame}
use Rattle.type_arena.specs.Term.{never}
use Rattle.type_normal.specs.Holds.{holds}
use Rattle.type_normal.specs.Operations.{union, meet}
use Rattle.type_normal.proofs.Public.{widen_above, widen_free, strip_below, strip_free, cut_down_below, union_holds, meet_holds, never_none}
use Rattle.report_rules.specs.TypeMap.{TypeMap, widened}
use Rattle.report_rules.specs.Forward.{after_part}
use Rattle.report_rules.specs.Context.{Context, none, join, meet_of, stripped, pass, followed}
use Rattle.run_frame.specs.Analysis.{Analysis}
use Rattle.run_frame.proofs.World.{World}
use Rattle.run_frame.proofs.Kept.{Kept}
use Rattle.run_frame.proofs.Fine.{HasValue, Fine}
use Rattle.run_frame.proofs.Held.{Runs, Held, Violated, held_kept, violated_kept}
use Rattle.run_frame.proofs.Layers.{part_of}

-- ---- past a part without effects, or with

-- a map that matches does so in a map with larger entries
widened_holds : (an : Analysis) (frame : Frame) (map : TypeMap) (s : State) → Held an frame map s → Held an frame (widened map) s
widened_holds an frame map s h = record {
  live = h.live;
  full = λ x firm. let q : HasValue (map.entry x) = h.full x firm in (q.0, q.1, widen_above q.0 q.1 (map.entry x) q.2);
  entries = λ x c v firm q. widen_above s.store.heap v (map.entry x) (h.entries x c v firm q);
}

pub held_after : (an : Analysis) (w v : World) (s t : State) (frame : Frame) (map : TypeMap) (b : Bool) → Fine an w s → Runs an w s frame → Kept an (part_of frame b) w s v t
    → Held an frame map s → Held an frame (after_part b map) t
held_after an w v s t frame map true f r k h = held_kept an (part_of frame true) w v s t frame f r k (widened map)
    (λ x. inr (record { unassigned = refl; unbound = refl; steady = inr (widen_free (map.entry x)) })) (widened_holds an frame map s h)
held_after an w v s t frame map false f r k h = held_kept an (part_of frame false) w v s t frame f r k map
    (λ x. inr (record { unassigned = refl; unbound = refl; steady = inl refl })) h

-- a violated context with smaller entries is one with larger entries
pub violated_more : (an : Analysis) (frame : Frame) (small large : Context) (s : State)
    → ((x : ℕ) (v : Value) → holds s.store.heap v (small x) ≡ true → holds s.store.heap v (large x) ≡ true) → Violated an frame small s → Violated an frame large s
violated_more an frame small large s below h = (h.0, h.1, h.2, h.3, h.4, below h.0 h.2 h.5)

-- a context that is passed is violated after the part too
pub violated_passed : (an : Analysis) (w v : World) (s t : State) (frame : Frame) (context : Context) (b : Bool) → Fine an w s → Runs an w s frame
    → Kept an (part_of frame b) w s v t → Violated an frame (pass b context) s → Violated an frame (pass b context) t
violated_passed an w v s t frame context true f r k h = violated_kept an (part_of frame true) w v s t frame f r k (stripped context)
    (λ x. inr (record { unassigned = refl; unbound = refl; steady = inr (strip_free (context x)) })) h
violated_passed an w v s t frame context false f r k h = violated_kept an (part_of frame false) w v s t frame f r k context
    (λ x. inr (record { unassigned = refl; unbound = refl; steady = inl refl })) h

pass_below : (an : Analysis) (frame : Frame) (context : Context) (s : State) (b : Bool) → Violated an frame (pass b context) s → Violated an frame context s
pass_below an frame context s true h = violated_more an frame (stripped context) context s (λ x v. strip_below s.store.heap v (context x)) h
pass_below an frame context s false h = h

-- and with it the context itself
pub violated_after : (an : Analysis) (w v : World) (s t : State) (frame : Frame) (context : Context) (b : Bool) → Fine an w s → Runs an w s frame
    → Kept an (part_of frame b) w s v t → Violated an frame (pass b context) s → Violated an frame context t
violated_after an w v s t frame context b f r k h = pass_below an frame context t b (violated_passed an w v s t frame context b f r k h)

-- ---- joined contexts

-- nothing is violated where nothing makes the code fail
pub none_violated : (an : Analysis) (frame : Frame) (s : State) → Violated an frame none s → ⊥
none_violated an frame s h = clash (holds s.store.heap h.2 never) h.5 (never_none s.store.heap h.2)
  where
    clash : (b : Bool) → b ≡ true → b ≡ false → ⊥
    clash b p q = cc

pub one_of : (p q : Bool) → p || q ≡ true → (p ≡ true) ⊎ (q ≡ true)
one_of true q e = inl refl
one_of false q e = inr e

pub both_of : (p q : Bool) → p && q ≡ true → (p ≡ true) × (q ≡ true)
both_of true q e = (refl, e)
both_of false q e = cc

-- where a join is violated, one of the two is; the other way round need not be so, since a join is cut
pub violated_join : (an : Analysis) (frame : Frame) (one other : Context) (s : State) → Violated an frame (join one other) s → Violated an frame one s ⊎ Violated an frame other s
violated_join an frame one other s h = by_side (one_of (holds s.store.heap h.2 (one h.0)) (holds s.store.heap h.2 (other h.0))
    (sym (union_holds s.store.heap h.2 (one h.0) (other h.0)) ∙ cut_down_below s.store.heap h.2 (union (one h.0) (other h.0)) h.5))
  where
    by_side : (holds s.store.heap h.2 (one h.0) ≡ true) ⊎ (holds s.store.heap h.2 (other h.0) ≡ true) → Violated an frame one s ⊎ Violated an frame other s
    by_side (inl e) = inl (h.0, h.1, h.2, h.3, h.4, e)
    by_side (inr e) = inr (h.0, h.1, h.2, h.3, h.4, e)

-- where a meet is violated, both are, at the same local
pub violated_meet : (an : Analysis) (frame : Frame) (one other : Context) (s : State) → Violated an frame (meet_of one other) s → Violated an frame one s × Violated an frame other s
violated_meet an frame one other s h =
    let e : (holds s.store.heap h.2 (one h.0) ≡ true) × (holds s.store.heap h.2 (other h.0) ≡ true) =
    both_of (holds s.store.heap h.2 (one h.0)) (holds s.store.heap h.2 (other h.0))
    (sym (meet_holds s.store.heap h.2 (one h.0) (other h.0)) ∙ cut_down_below s.store.heap h.2 (meet (one h.0) (other h.0)) h.5) in
    ((h.0, h.1, h.2, h.3, h.4, e.0), (h.0, h.1, h.2, h.3, h.4, e.1))

-- a part and what follows: the part's own context, or what follows after the part
pub violated_followed : (an : Analysis) (w v : World) (s t : State) (frame : Frame) (part rest : Context) (b : Bool) → Fine an w s → Runs an w s frame
    → Kept an (part_of frame b) w s v t → Violated an frame (followed part b rest) s → Violated an frame part s ⊎ Violated an frame rest t
violated_followed an w v s t frame part rest b f r k h = by_side (violated_join an frame part (pass b rest) s h)
  where
    by_side : Violated an frame part s ⊎ Violated an frame (pass b rest) s → Violated an frame part s ⊎ Violated an frame rest t
    by_side (inl e) = inl e
    by_side (inr e) = inr (violated_after an w v s t frame rest b f r k e)
