-- Moves on cells: a local of the frame gets a new cell, a local gets a value, and a captured cell is bound.
use Rattle.std.proofs.Common.{◌≡◌, ℕ, ◌+◌, ◌<◌, Bool, true, false, List, [], ◌∷◌, ◌++◌, length, Some, ◌⊎◌, inl, inr, refl, sym, ◌∙◌, ap, subst, arith, slice_get, slice_set, length-append}
use Rattle.std.proofs.lemmas.Option.{slice_get_within}
use Rattle.luau_values.specs.Value.{Value, Builtin}
use Rattle.luau_values.specs.Stands.{Stands}
use Rattle.luau_values.proofs.Public.{later_refl, grows_refl}
use Rattle.luau_run.specs.Machine.{State, Gave, ◌>>=◌, look, change, give, new_cell, bind_local, set_cell}
use Rattle.luau_run.specs.Layer.{Frame}
use Rattle.luau_run.specs.Expressions.{cell_of}
use Rattle.run_frame.specs.Analysis.{Analysis, is_caught, is_loose}
use Rattle.run_frame.proofs.World.{Owner, World, with_owner, front_refl, all_map, last_get, old_or_last, same_within, set_length, set_get, set_elsewhere}
use Rattle.run_frame.proofs.Kept.{Doer, IsSpared, Kept}
use Rattle.run_frame.proofs.Fine.{IsBoundWell, bound_kept, Fine, fine_moved}
use Rattle.run_frame.proofs.Held.{Runs, HasOwner, bound_well, same_some, has_begun}

-- ---- a new cell for a local of the activation that runs

-- the state after that
abbrev pub declared : (activation local : ℕ) → Value → State → State
declared a x v s = record s {
  store = record s.store {
    cells = s.store.cells ++ v ∷ [];
    bindings = record { activation = a; local = x; cell = length s.store.cells } ∷ s.store.bindings;
  };
}

-- the owner of the cell
abbrev pub owner_in : Frame → ℕ → Owner
owner_in frame x = record { module_at = frame.module_at; local = x; activation = frame.activation }

pub declares_so : (a x : ℕ) (v : Value) (s : State) → ◌>>=◌ (new_cell v) (λ c. bind_local a x c) s ≡ Gave tt (declared a x v s)
unfolding ◌>>=◌ look change give
declares_so a x v s = refl

pub kept_declared : (an : Analysis) (who : Doer) (w : World) (s : State) (frame : Frame) (x : ℕ) (value : Value) → Fine an w s → who.runs ≡ Some frame.activation
    → who.binds x ≡ true → Kept an who w s (with_owner w (owner_in frame x)) (declared frame.activation x value s)
kept_declared an who w s frame x value f runs binds = record {
  owners = (_, refl);
  modules = front_refl w.modules;
  cells = λ c o e l p. same_within s.store.cells value c (subst (λ (n : ℕ). c < n) f.owned (slice_get_within w.owners c o e));
  new = record { activation = frame.activation; local = x; cell = length s.store.cells } ∷ [];
  bindings = refl;
  whose = (inr (runs, binds), tt);
  heap = later_refl s.store.heap;
  calm = λ c. grows_refl s.store.heap;
  counts = λ b l n. refl;
  begun = omega arith;
}

-- a local that always holds a builtin gets that
pub fine_declared : (an : Analysis) (who : Doer) (w : World) (s : State) (frame : Frame) (x : ℕ) (value : Value) → Fine an w s → Runs an w s frame
    → Stands s.store.heap value → ((path : List ℕ) → (an.rules frame.module_at).fixed x ≡ Some path → value ≡ Builtin path)
    → Kept an who w s (with_owner w (owner_in frame x)) (declared frame.activation x value s)
    → Fine an (with_owner w (owner_in frame x)) (declared frame.activation x value s)
fine_declared an who w s frame x value f r there fixed k = fine_moved an who w (with_owner w (owner_in frame x)) s (declared frame.activation x value s) f k (record {
  owned = length-append w.owners ((owner_in frame x) ∷ []) ∙ (ap (λ (n : ℕ). n + 1) f.owned ∙ sym (length-append s.store.cells (value ∷ [])));
  ran = f.ran;
  older = λ c o e. by_older c o (old_or_last w.owners (owner_in frame x) c o e);
  bound = (newest, all_map (IsBoundWell an w) (IsBoundWell an (with_owner w (owner_in frame x))) s.store.bindings (λ b. bound_kept an w (with_owner w (owner_in frame x)) b ((owner_in frame x) ∷ [], refl) (front_refl w.modules)) f.bound);
  stand = λ c u e. by_value c u (old_or_last s.store.cells value c u e);
  fields = f.fields;
  fixed = λ c o path u e g h. by_fixed c o path u g (old_or_last w.owners (owner_in frame x) c o e) (old_or_last s.store.cells value c u h);
  closures = refl;
  loaded = refl;
  stays = f.stays;
  young = f.young;
})
  where
    newest : IsBoundWell an (with_owner w (owner_in frame x)) (record { activation = frame.activation; local = x; cell = length s.store.cells })
    newest = ((owner_in frame x), subst (λ (n : ℕ). slice_get (with_owner w (owner_in frame x)).owners n ≡ Some (owner_in frame x)) f.owned (last_get w.owners (owner_in frame x)), refl, r.module_is, inl refl)

    by_older : (c : ℕ) (o : Owner) → (slice_get w.owners c ≡ Some o) ⊎ (((owner_in frame x) ≡ o) × (c ≡ length w.owners)) → o.activation < s.store.begun
    by_older c o (inl e) = f.older c o e
    by_older c o (inr e) = subst (λ (y : Owner). y.activation < s.store.begun) e.0 (has_begun an w s frame f r)

    by_value : (c : ℕ) (u : Value) → (slice_get s.store.cells c ≡ Some u) ⊎ ((value ≡ u) × (c ≡ length s.store.cells)) → Stands s.store.heap u
    by_value c u (inl e) = f.stand c u e
    by_value c u (inr e) = subst (λ (y : Value). Stands s.store.heap y) e.0 there

    by_fixed : (c : ℕ) (o : Owner) (path : List ℕ) (u : Value) → (an.rules o.module_at).fixed o.local ≡ Some path
        → (slice_get w.owners c ≡ Some o) ⊎ (((owner_in frame x) ≡ o) × (c ≡ length w.owners)) → (slice_get s.store.cells c ≡ Some u) ⊎ ((value ≡ u) × (c ≡ length s.store.cells))
        → u ≡ Builtin path
    by_fixed c o path u g (inl e) (inl h) = f.fixed c o path u e g h
    by_fixed c o path u g (inl e) (inr h) = absurd (omega (arith, slice_get_within w.owners c o e, f.owned, h.1))
    by_fixed c o path u g (inr e) (inl h) = absurd (omega (arith, slice_get_within s.store.cells c u h, f.owned, e.1))
    by_fixed c o path u g (inr e) (inr h) = sym h.0 ∙ fixed path (subst (λ (y : Owner). (an.rules y.module_at).fixed y.local ≡ Some path) (sym e.0) g)

-- ---- a local of the frame gets a value

-- the state after that
abbrev pub assigned : (cell : ℕ) → Value → State → State
assigned c v s = record s { store = record s.store { cells = slice_set s.store.cells c v } }

pub assigns_so : (c : ℕ) (v : Value) (s : State) → set_cell c v s ≡ Gave tt (assigned c v s)
unfolding change
assigns_so c v s = refl

-- a local that is assigned is loose where it is captured
pub kept_assigned : (an : Analysis) (who : Doer) (w : World) (s : State) (frame : Frame) (x c : ℕ) (value : Value) → Fine an w s → Runs an w s frame
    → cell_of s.store.bindings frame.activation x ≡ Some c → who.runs ≡ Some frame.activation → who.assigns x ≡ true
    → (is_caught an frame.module_at x ≡ true → is_loose an frame.module_at x ≡ true) → Kept an who w s w (assigned c value s)
kept_assigned an who w s frame x c value f r cell runs assigns legit = record {
  owners = front_refl w.owners;
  modules = front_refl w.modules;
  cells = λ d o e l p. by_place d o e l p (set_elsewhere s.store.cells c d value);
  new = [];
  bindings = refl;
  whose = tt;
  heap = later_refl s.store.heap;
  calm = λ k. grows_refl s.store.heap;
  counts = λ b l n. refl;
  begun = omega arith;
}
  where
    off : (b : Bool) → b ≡ true → b ≡ false → ⊥
    off b y z = cc

    q : HasOwner an w frame.activation x c
    q = bound_well an w frame.activation x c s.store.bindings f.bound cell

    -- the cell itself isn't spared
    clash : (o : Owner) → o.local ≡ x → o.module_at ≡ frame.module_at → (o.activation ≡ frame.activation) ⊎ (is_caught an o.module_at o.local ≡ true)
        → is_loose an o.module_at o.local ≡ false → IsSpared an who o → ⊥
    clash o p m own l b = by_spared own b
      where
        loose_too : is_caught an o.module_at o.local ≡ true → ⊥
        loose_too g = off (is_loose an o.module_at o.local)
            (ap (λ (n : ℕ). is_loose an n o.local) m ∙ (ap (is_loose an frame.module_at) p
            ∙ legit (sym (ap (λ (n : ℕ). is_caught an n o.local) m ∙ ap (is_caught an frame.module_at) p) ∙ g))) l

        by_spared : (o.activation ≡ frame.activation) ⊎ (is_caught an o.module_at o.local ≡ true) → IsSpared an who o → ⊥
        by_spared (inr g) b = loose_too g
        by_spared (inl a) (inl g) = loose_too g
        by_spared (inl a) (inr (inl n)) = n (runs ∙ ap Some (sym a))
        by_spared (inl a) (inr (inr n)) = off (who.assigns o.local) (ap who.assigns p ∙ assigns) n

    same : (d : ℕ) (o q : Owner) → slice_get w.owners d ≡ Some o → slice_get w.owners d ≡ Some q → o ≡ q
    same d o q e k = cc

    by_place : (d : ℕ) (o : Owner) → slice_get w.owners d ≡ Some o → is_loose an o.module_at o.local ≡ false → IsSpared an who o
        → (slice_get (slice_set s.store.cells c value) d ≡ slice_get s.store.cells d) ⊎ (c ≡ d)
        → slice_get (slice_set s.store.cells c value) d ≡ slice_get s.store.cells d
    by_place d o e l p (inl k) = k
    by_place d o e l p (inr k) = absurd (clash o (ap (λ (y : Owner). y.local) eq ∙ q.2)
        (same_some o.module_at frame.module_at (slice_get w.modules frame.activation) (q.3 ∙ ap (λ (y : Owner). Some y.module_at) (sym eq)) r.module_is) side l p)
      where
        eq : o ≡ q.0
        eq = same d o q.0 e (subst (λ (n : ℕ). slice_get w.owners n ≡ Some q.0) k q.1)

        side : (o.activation ≡ frame.activation) ⊎ (is_caught an o.module_at o.local ≡ true)
        side = subst (λ (y : Owner). (y.activation ≡ frame.activation) ⊎ (is_caught an y.module_at y.local ≡ true)) (sym eq) q.4

pub fine_assigned : (an : Analysis) (who : Doer) (w : World) (s : State) (frame : Frame) (x c : ℕ) (value : Value) → Fine an w s → Runs an w s frame
    → cell_of s.store.bindings frame.activation x ≡ Some c → Stands s.store.heap value
    → ((path : List ℕ) → (an.rules frame.module_at).fixed x ≡ Some path → value ≡ Builtin path)
    → Kept an who w s w (assigned c value s) → Fine an w (assigned c value s)
fine_assigned an who w s frame x c value f r cell there fixed k = fine_moved an who w w s (assigned c value s) f k (record {
  owned = f.owned ∙ sym (set_length s.store.cells c value);
  ran = f.ran;
  older = f.older;
  bound = f.bound;
  stand = λ d u e. by_value d u (set_get s.store.cells c d value u e);
  fields = f.fields;
  fixed = λ d o path u e g h. by_fixed d o path u e g (set_get s.store.cells c d value u h);
  closures = refl;
  loaded = refl;
  stays = f.stays;
  young = f.young;
})
  where
    q : HasOwner an w frame.activation x c
    q = bound_well an w frame.activation x c s.store.bindings f.bound cell

    by_value : (d : ℕ) (u : Value) → (slice_get s.store.cells d ≡ Some u) ⊎ ((value ≡ u) × (c ≡ d)) → Stands s.store.heap u
    by_value d u (inl e) = f.stand d u e
    by_value d u (inr e) = subst (λ (y : Value). Stands s.store.heap y) e.0 there

    same : (d : ℕ) (o q : Owner) → slice_get w.owners d ≡ Some o → slice_get w.owners d ≡ Some q → o ≡ q
    same d o q e k = cc

    by_fixed : (d : ℕ) (o : Owner) (path : List ℕ) (u : Value) → slice_get w.owners d ≡ Some o → (an.rules o.module_at).fixed o.local ≡ Some path
        → (slice_get s.store.cells d ≡ Some u) ⊎ ((value ≡ u) × (c ≡ d)) → u ≡ Builtin path
    by_fixed d o path u e g (inl h) = f.fixed d o path u e g h
    by_fixed d o path u e g (inr h) = sym h.0 ∙ fixed path here
      where
        eq : o ≡ q.0
        eq = same d o q.0 e (subst (λ (n : ℕ). slice_get w.owners n ≡ Some q.0) h.1 q.1)

        module_is : o.module_at ≡ frame.module_at
        module_is = same_some o.module_at frame.module_at (slice_get w.modules frame.activation) (q.3 ∙ ap (λ (y : Owner). Some y.module_at) (sym eq)) r.module_is

        local_is : o.local ≡ x
        local_is = ap (λ (y : Owner). y.local) eq ∙ q.2

        here : (an.rules frame.module_at).fixed x ≡ Some path
        here = sym (ap (λ (m : ℕ). (an.rules m).fixed o.local) module_is ∙ ap (λ (y : ℕ). (an.rules frame.module_at).fixed y) local_is) ∙ g

-- ---- a captured cell is bound

-- the state after that
abbrev pub bound_to : (activation local cell : ℕ) → State → State
bound_to a x c s = record s { store = record s.store { bindings = record { activation = a; local = x; cell = c } ∷ s.store.bindings } }

pub binds_so : (a x c : ℕ) (s : State) → bind_local a x c s ≡ Gave tt (bound_to a x c s)
unfolding change
binds_so a x c s = refl

pub kept_bound : (an : Analysis) (who : Doer) (w : World) (s : State) (a x c : ℕ) → who.runs ≡ Some a → who.binds x ≡ true → Kept an who w s w (bound_to a x c s)
kept_bound an who w s a x c runs binds = record {
  owners = front_refl w.owners;
  modules = front_refl w.modules;
  cells = λ d o e l p. refl;
  new = record { activation = a; local = x; cell = c } ∷ [];
  bindings = refl;
  whose = (inr (runs, binds), tt);
  heap = later_refl s.store.heap;
  calm = λ k. grows_refl s.store.heap;
  counts = λ b l n. refl;
  begun = omega arith;
}

pub fine_bound : (an : Analysis) (who : Doer) (w : World) (s : State) (a x c : ℕ) → Fine an w s → IsBoundWell an w (record { activation = a; local = x; cell = c })
    → Kept an who w s w (bound_to a x c s) → Fine an w (bound_to a x c s)
fine_bound an who w s a x c f well k = fine_moved an who w w s (bound_to a x c s) f k (record {
  owned = f.owned;
  ran = f.ran;
  older = f.older;
  bound = (well, f.bound);
  stand = f.stand;
  fields = f.fields;
  fixed = f.fixed;
  closures = refl;
  loaded = refl;
  stays = f.stays;
  young = f.young;
})
