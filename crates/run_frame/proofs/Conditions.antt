-- Conditions that came out one way: the map after them, and the context that they choose.
use Rattle.std.proofs.Common.{◌≡◌, ℕ, Bool, true, false, if◌then◌else◌, List, ◌⊎◌, inl, inr, refl, ◌∙◌, subst}
use Rattle.luau_values.specs.Value.{Value}
use Rattle.luau_values.specs.Heap.{Heap}
use Rattle.luau_tree.specs.Tree.{Expr}
use Rattle.luau_run.specs.Machine.{State}
use Rattle.luau_run.specs.Layer.{Frame, first}
use Rattle.luau_run.specs.Operators.{is_true}
use Rattle.type_arena.specs.Term.{Term, term, no_rows, more_rows, no_fields, more_fields}
use Rattle.type_normal.specs.Holds.{holds}
use Rattle.type_normal.specs.Operations.{is_flat}
use Rattle.type_normal.specs.Kinds.{unknown}
use Rattle.report_rules.specs.Guard.{guard}
use Rattle.report_rules.specs.TypeMap.{TypeMap, refine}
use Rattle.report_rules.specs.Forward.{after}
use Rattle.report_rules.specs.Context.{Context, branch}
use Rattle.run_frame.specs.Analysis.{Analysis}
use Rattle.run_frame.proofs.World.{World}
use Rattle.run_frame.proofs.Kept.{Kept}
use Rattle.run_frame.proofs.Fine.{Fine}
use Rattle.run_frame.proofs.Held.{Runs, Held, Violated, reads_before, reads_after}
use Rattle.run_frame.proofs.Layers.{rules_of, part_of, Shows, Gives}
use Rattle.run_frame.proofs.Branches.{ShowsAll, violated_branch, held_refined}
use Rattle.run_frame.proofs.Guards.{guards_flat}

-- what a guard says has no rows but that of all tables
pub guard_flat : (an : Analysis) (frame : Frame) (cond : Expr) (truth : Bool) (x : ℕ) → is_flat (guard (rules_of an frame) cond truth x) ≡ true
guard_flat an frame cond truth x = guards_flat (rules_of an frame) cond truth x

-- so it holds in all heaps or in none
pub flat_any : (h g : Heap) (v : Value) (type : Term) → is_flat type ≡ true → holds h v type ≡ holds g v type
flat_any h g v (term free no_rows) e = refl
flat_any h g v (term free (more_rows false no_fields no_rows)) e = refl
flat_any h g v (term free (more_rows false no_fields (more_rows b fs rows))) e = cc
flat_any h g v (term free (more_rows false (more_fields name type fs) rows)) e = cc
flat_any h g v (term free (more_rows true fs rows)) e = cc

-- a condition that gave shows what its guard says
pub shows_all : (an : Analysis) (frame : Frame) (map : TypeMap) (cond : Expr) (vs : List Value) (t : State) (way : Bool) → is_true (first vs) ≡ way → Gives an frame map cond vs t
    → ShowsAll an frame cond way t
shows_all an frame map cond vs t way e g = subst (λ (b : Bool). ShowsAll an frame cond b t) e g.guard_shows

-- where a condition came out so, the refined map matches
pub held_way : (an : Analysis) (frame : Frame) (map : TypeMap) (cond : Expr) (vs : List Value) (t : State) (way : Bool) → is_true (first vs) ≡ way → Gives an frame map cond vs t
    → Held an frame (after (rules_of an frame) map cond) t → Held an frame (refine (rules_of an frame) cond way (after (rules_of an frame) map cond)) t
held_way an frame map cond vs t way e g h = held_refined an frame (after (rules_of an frame) map cond) cond way t (shows_all an frame map cond vs t way e g) h

-- what is shown after a part that assigns and binds nothing was so before it, and is so after a further one
pub shows_before : (an : Analysis) (w v : World) (s t : State) (frame : Frame) (b : Bool) (cond : Expr) (way : Bool) → Fine an w s → Runs an w s frame → Kept an (part_of frame b) w s v t
    → ShowsAll an frame cond way t → ShowsAll an frame cond way s
shows_before an w v s t frame b cond way f r k shows x firm = by_side (shows x firm)
  where
    by_side : (guard (rules_of an frame) cond way x ≡ unknown) ⊎ Shows frame t x (guard (rules_of an frame) cond way x)
        → (guard (rules_of an frame) cond way x ≡ unknown) ⊎ Shows frame s x (guard (rules_of an frame) cond way x)
    by_side (inl e) = inl e
    by_side (inr e) = inr (
      e.0,
      e.1,
      reads_before an (part_of frame b) w v s t frame f r k x e.0 e.1 refl refl firm e.2,
      flat_any s.store.heap t.store.heap e.1 (guard (rules_of an frame) cond way x) (guard_flat an frame cond way x) ∙ e.3,
    )

pub shows_later : (an : Analysis) (w v : World) (s t : State) (frame : Frame) (b : Bool) (cond : Expr) (way : Bool) → Fine an w s → Runs an w s frame → Kept an (part_of frame b) w s v t
    → ShowsAll an frame cond way s → ShowsAll an frame cond way t
shows_later an w v s t frame b cond way f r k shows x firm = by_side (shows x firm)
  where
    by_side : (guard (rules_of an frame) cond way x ≡ unknown) ⊎ Shows frame s x (guard (rules_of an frame) cond way x)
        → (guard (rules_of an frame) cond way x ≡ unknown) ⊎ Shows frame t x (guard (rules_of an frame) cond way x)
    by_side (inl e) = inl e
    by_side (inr e) = inr (
      e.0,
      e.1,
      reads_after an (part_of frame b) w v s t frame f r k x e.0 e.1 refl refl firm e.2,
      flat_any t.store.heap s.store.heap e.1 (guard (rules_of an frame) cond way x) (guard_flat an frame cond way x) ∙ e.3,
    )

-- the context that a condition chose, at its end or before it
pub way_violated : (an : Analysis) (frame : Frame) (cond : Expr) (way : Bool) (when_true when_false : Context) (t : State) → ShowsAll an frame cond way t
    → Violated an frame (branch (rules_of an frame) cond when_true when_false) t → Violated an frame (if way then when_true else when_false) t
way_violated an frame cond way when_true when_false t shows h = violated_branch an frame cond way when_true when_false t (λ b x. guard_flat an frame cond b x) shows h
