-- What a loop keeps at each of its turns, of maps and of contexts; and what it begins with.
use Rattle.std.proofs.Common.{◌≡◌, ℕ, Bool, true, false, not, ◌||◌, if◌then◌else◌, ◌⊎◌, inl, inr, refl, sym, ◌∙◌, ap, subst}
use Rattle.luau_values.specs.Value.{Value}
use Rattle.luau_values.specs.Heap.{Heap}
use Rattle.luau_tree.specs.Tree.{Block, Stat}
use Rattle.luau_run.specs.Machine.{State}
use Rattle.luau_run.specs.Layer.{Frame, Ending, Falls, Breaks, Continues, Returns, Loop}
use Rattle.type_arena.specs.Term.{Term, never}
use Rattle.type_normal.specs.Holds.{holds}
use Rattle.type_normal.specs.HeapFree.{heap_free, widen}
use Rattle.type_normal.specs.Operations.{union}
use Rattle.type_normal.specs.Kinds.{unknown}
use Rattle.type_normal.proofs.Public.{unknown_all, never_none, widen_above, widen_free, strip_below, strip_free, cut_down_below, union_holds}
use Rattle.report_rules.specs.Rules.{Rules}
use Rattle.report_rules.specs.Effects.{stirs, touches, assigns_block, returns_block}
use Rattle.report_rules.specs.TypeMap.{TypeMap, head}
use Rattle.report_rules.specs.Context.{Context, none, join, pass}
use Rattle.report_rules.specs.Statements.{keep}
use Rattle.run_frame.specs.Analysis.{Analysis}
use Rattle.run_frame.proofs.World.{World}
use Rattle.run_frame.proofs.Kept.{Kept}
use Rattle.run_frame.proofs.Fine.{HasValue, Fine}
use Rattle.run_frame.proofs.Held.{Runs, Held, Violated, Lasts, held_kept, violated_kept}
use Rattle.run_frame.proofs.Passing.{none_violated, one_of}
use Rattle.run_frame.proofs.Layers.{rules_of, loop_body, loop_stirs, loop_declares, loop_touches, loop_of, Steady, SteadyContext, IsBelow, EndsBad}
use Rattle.run_frame.proofs.LooseContexts.{SparesLoose}

clash : (b : Bool) → b ≡ true → b ≡ false → ⊥
clash b p q = cc

in_never : (h : Heap) (v : Value) (P : Type 0) → holds h v never ≡ true → P
in_never h v P e = absurd (clash (holds h v never) e (never_none h v))

or_true : (b : Bool) → b || true ≡ true
or_true true = refl
or_true false = refl

-- ---- what a turn keeps

-- a type that is a given one where the loop touches its local, and is heap-free where the loop stirs, lasts
lasts_loop : (an : Analysis) (frame : Frame) (loop : Loop) (x : ℕ) (type bound : Term) → (loop_touches (rules_of an frame) x loop ≡ true → type ≡ bound)
    → (loop_stirs (rules_of an frame) loop ≡ true → heap_free type ≡ true) → (type ≡ bound) ⊎ Lasts (loop_of an frame loop) x type
lasts_loop an frame loop x type bound touched stirred =
    by_touch (assigns_block (rules_of an frame) x (loop_body loop)) (loop_declares (rules_of an frame) x loop) (loop_stirs (rules_of an frame) loop) refl refl refl
  where
    by_touch : (a b c : Bool) → assigns_block (rules_of an frame) x (loop_body loop) ≡ a → loop_declares (rules_of an frame) x loop ≡ b → loop_stirs (rules_of an frame) loop ≡ c
        → (type ≡ bound) ⊎ Lasts (loop_of an frame loop) x type
    by_touch true b c p q r = inl (touched (ap (λ (y : Bool). y || loop_declares (rules_of an frame) x loop) p))
    by_touch false true c p q r = inl (touched (ap (λ (y : Bool). assigns_block (rules_of an frame) x (loop_body loop) || y) q ∙ or_true (assigns_block (rules_of an frame) x (loop_body loop))))
    by_touch false false true p q r = inr (record { unassigned = p; unbound = q; steady = inr (stirred r) })
    by_touch false false false p q r = inr (record { unassigned = p; unbound = q; steady = inl (ap not r) })

-- a steady map matches after what a turn may do
pub steady_held : (an : Analysis) (frame : Frame) (loop : Loop) (map : TypeMap) → Steady (rules_of an frame) loop map → (w v : World) (s t : State) → Fine an w s → Runs an w s frame
    → Kept an (loop_of an frame loop) w s v t → Held an frame map s → Held an frame map t
steady_held an frame loop map steady w v s t f r k h = held_kept an (loop_of an frame loop) w v s t frame f r k map
    (λ x. lasts_loop an frame loop x (map.entry x) unknown (steady.touched x) (steady.stirred x)) h

-- and a steady context is violated after it
pub steady_violated : (an : Analysis) (frame : Frame) (loop : Loop) (kept : Context) → SteadyContext (rules_of an frame) loop kept → (w v : World) (s t : State) → Fine an w s → Runs an w s frame
    → Kept an (loop_of an frame loop) w s v t → Violated an frame kept s → Violated an frame kept t
steady_violated an frame loop kept steady w v s t f r k h = violated_kept an (loop_of an frame loop) w v s t frame f r k kept
    (λ x. lasts_loop an frame loop x (kept x) never (steady.touched x) (steady.stirred x)) h

-- it isn't where the body may return
pub kept_returns : (an : Analysis) (frame : Frame) (loop : Loop) (kept : Context) (s : State) → SteadyContext (rules_of an frame) loop kept → returns_block (loop_body loop) ≡ true
    → Violated an frame kept s → ⊥
kept_returns an frame loop kept s steady e h =
    in_never s.store.heap h.2 ⊥ (subst (λ (type : Term). holds s.store.heap h.2 type ≡ true) (steady.returned h.0 e) h.5)

-- what is below another context is violated with it
pub below_violated : (an : Analysis) (frame : Frame) (small large : Context) (s : State) → IsBelow small large → Violated an frame small s → Violated an frame large s
below_violated an frame small large s below h = (h.0, h.1, h.2, h.3, h.4, below h.0 s.store.heap h.2 h.5)

-- ---- what a loop begins with

head_at : (h : Heap) (v : Value) (a b : Bool) (type : Term) → holds h v type ≡ true → holds h v (if a then unknown else if b then widen type else type) ≡ true
head_at h v true b type e = unknown_all h v
head_at h v false true type e = widen_above h v type e
head_at h v false false type e = e

pub head_held : (an : Analysis) (frame : Frame) (st : Stat) (map : TypeMap) (s : State) → Held an frame map s → Held an frame (head (rules_of an frame) st map) s
head_held an frame st map s h = record {
  live = h.live;
  full = λ x firm. let q : HasValue (map.entry x) = h.full x firm in
      (q.0, q.1, head_at q.0 q.1 (touches (rules_of an frame) x st) (stirs (rules_of an frame) st) (map.entry x) q.2);
  entries = λ x c v firm q. head_at s.store.heap v (touches (rules_of an frame) x st) (stirs (rules_of an frame) st) (map.entry x) (h.entries x c v firm q);
}

-- its map is steady, where the loop touches and stirs what the statement does
pub head_steady : (rules : Rules) (st : Stat) (loop : Loop) (map : TypeMap) → ((x : ℕ) → loop_touches rules x loop ≡ true → touches rules x st ≡ true) → (loop_stirs rules loop ≡ true → stirs rules st ≡ true)
    → Steady rules loop (head rules st map)
head_steady rules st loop map touch stir = record {
  touched = λ x e. ap (λ (b : Bool). if b then unknown else if stirs rules st then widen (map.entry x) else map.entry x) (touch x e);
  stirred = λ x e. free (touches rules x st) (stirs rules st) x (stir e);
}
  where
    free : (a b : Bool) (x : ℕ) → b ≡ true → heap_free (if a then unknown else if b then widen (map.entry x) else map.entry x) ≡ true
    free true b x k = refl
    free false true x k = widen_free (map.entry x)
    free false false x k = cc

-- what it keeps of the context behind it
keep_below_at : (h : Heap) (v : Value) (a b c : Bool) (behind : Context) (x : ℕ) → holds h v (if a then never else if b then never else pass c behind x) ≡ true → holds h v (behind x) ≡ true
keep_below_at h v true b c behind x e = in_never h v (holds h v (behind x) ≡ true) e
keep_below_at h v false true c behind x e = in_never h v (holds h v (behind x) ≡ true) e
keep_below_at h v false false true behind x e = strip_below h v (behind x) e
keep_below_at h v false false false behind x e = e

pub keep_below : (rules : Rules) (st : Stat) (body : Block) (behind : Context) → IsBelow (keep rules st body behind) behind
keep_below rules st body behind x h v e = keep_below_at h v (returns_block body) (touches rules x st) (stirs rules st) behind x e

pub keep_spares : (rules : Rules) (st : Stat) (body : Block) (behind : Context) → SparesLoose rules behind → SparesLoose rules (keep rules st body behind)
keep_spares rules st body behind spares x l h v e = spares x l h v (keep_below rules st body behind x h v e)

pub keep_steady : (rules : Rules) (st : Stat) (loop : Loop) (behind : Context) → ((x : ℕ) → loop_touches rules x loop ≡ true → touches rules x st ≡ true) → (loop_stirs rules loop ≡ true → stirs rules st ≡ true)
    → SteadyContext rules loop (keep rules st (loop_body loop) behind)
keep_steady rules st loop behind touch stir = record {
  touched = λ x e. untouched (returns_block (loop_body loop)) (touches rules x st) (stirs rules st) x (touch x e);
  stirred = λ x e. free (returns_block (loop_body loop)) (touches rules x st) (stirs rules st) x (stir e);
  returned = λ x e. ap (λ (b : Bool). if b then never else if touches rules x st then never else pass (stirs rules st) behind x) e;
}
  where
    untouched : (a b c : Bool) (x : ℕ) → b ≡ true → (if a then never else if b then never else pass c behind x) ≡ never
    untouched true b c x k = refl
    untouched false true c x k = refl
    untouched false false c x k = cc

    free : (a b c : Bool) (x : ℕ) → c ≡ true → heap_free (if a then never else if b then never else pass c behind x) ≡ true
    free true b c x k = refl
    free false true c x k = refl
    free false false true x k = strip_free (behind x)
    free false false false x k = cc

-- a join says nothing of loose locals where neither part does
pub join_spares : (rules : Rules) (one other : Context) → SparesLoose rules one → SparesLoose rules other → SparesLoose rules (join one other)
join_spares rules one other p q x l h v e = by_side (one_of (holds h v (one x)) (holds h v (other x))
    (sym (union_holds h v (one x) (other x)) ∙ cut_down_below h v (union (one x) (other x)) e))
  where
    by_side : (holds h v (one x) ≡ true) ⊎ (holds h v (other x) ≡ true) → ⊥
    by_side (inl k) = p x l h v k
    by_side (inr k) = q x l h v k

-- a loop leaves no `break` and no `continue`
pub loop_end : (an : Analysis) (frame : Frame) (behind breaks_to continues_to : Context) (ending : Ending) (t : State) → EndsBad an frame behind none none ending t
    → EndsBad an frame behind breaks_to continues_to ending t
loop_end an frame behind breaks_to continues_to Falls t h = h
loop_end an frame behind breaks_to continues_to Breaks t h = absurd (none_violated an frame t h)
loop_end an frame behind breaks_to continues_to Continues t h = absurd (none_violated an frame t h)
loop_end an frame behind breaks_to continues_to (Returns vs) t h = h
