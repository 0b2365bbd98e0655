-- What a part of a run may change: the frame condition.
use Rattle.std.proofs.Common.{◌≡◌, ◌≢◌, ℕ, ◌<◌, ◌≤◌, Bool, true, false, ◌&&◌, ◌==◌, if◌then◌else◌, List, [], ◌∷◌, ◌++◌, Option, Some, None, ◌⊎◌, inl, inr, refl, sym, ◌∙◌, ap, subst, arith, append_assoc, slice_get}
use Rattle.std.specs.List.{AllByRecursion, find}
use Rattle.std.specs.Option.{option_map}
use Rattle.std.proofs.lemmas.Bool.{eqb-true}
use Rattle.luau_values.specs.Later.{Later}
use Rattle.luau_values.specs.Grows.{Grows}
use Rattle.luau_values.proofs.Public.{later_refl, later_trans, grows_refl, grows_trans}
use Rattle.luau_run.specs.Machine.{Binding, State}
use Rattle.luau_run.specs.Expressions.{cell_of}
use Rattle.run_frame.specs.Analysis.{Analysis, is_caught, is_loose}
use Rattle.run_frame.proofs.World.{Owner, World, Front, front_refl, front_trans, stays_at, all_append, all_map}
use Rattle.run_frame.proofs.Counts.{reached}

-- who acts in a part: the activation that runs, if it is of one; the locals of that one which the part may assign, and those
-- which it may bind; and whether the part is calm, which is to change no table that was there but by freezing it
pub record Doer : Type 0 where
  pub runs : Option ℕ
  pub assigns : ℕ → Bool
  pub binds : ℕ → Bool
  pub calm : Bool

-- a part that is of no activation, as a call is to its caller
abbrev pub nobody : (calm : Bool) → Doer
nobody calm = record { runs = None; assigns = λ local. false; binds = λ local. false; calm = calm }

-- a binding made in a part is of an activation that began in it, or of the one that runs and of a local that it binds
abbrev pub IsNew : Doer → ℕ → Binding → Type 0
IsNew who begun b = (begun ≤ b.activation) ⊎ ((who.runs ≡ Some b.activation) × (who.binds b.local ≡ true))

-- a cell that a part doesn't change: its local is captured, or of another activation, or not assigned in the part
abbrev pub IsSpared : Analysis → Doer → Owner → Type 0
IsSpared an who o = (is_caught an o.module_at o.local ≡ true) ⊎ (who.runs ≢ Some o.activation) ⊎ (who.assigns o.local ≡ false)

-- what a part keeps, from one state to another: worlds grow; the cells of locals that aren't loose keep their values, if they
-- are spared; bindings are added as above; the heap is later, and where the part is calm it has grown; and no other activation
-- that had begun reaches a reported place
pub record Kept (an : Analysis) (who : Doer) (w : World) (s : State) (v : World) (t : State) : Type 0 where
  pub owners : Front w.owners v.owners
  pub modules : Front w.modules v.modules
  pub cells : (c : ℕ) (o : Owner) → slice_get w.owners c ≡ Some o → is_loose an o.module_at o.local ≡ false → IsSpared an who o
      → slice_get t.store.cells c ≡ slice_get s.store.cells c
  pub new : List Binding
  pub bindings : t.store.bindings ≡ new ++ s.store.bindings
  pub whose : AllByRecursion (IsNew who s.store.begun) new
  pub heap : Later s.store.heap t.store.heap
  pub calm : who.calm ≡ true → Grows s.store.heap t.store.heap
  pub counts : (b : ℕ) → b < s.store.begun → who.runs ≢ Some b → reached an b t.trace ≡ reached an b s.trace
  pub begun : s.store.begun ≤ t.store.begun

pub kept_trans : (an : Analysis) (who : Doer) (w v u : World) (s t r : State) → Kept an who w s v t → Kept an who v t u r → Kept an who w s u r
kept_trans an who w v u s t r h k = record {
  owners = front_trans w.owners v.owners u.owners h.owners k.owners;
  modules = front_trans w.modules v.modules u.modules h.modules k.modules;
  cells = λ c o e l p. k.cells c o (stays_at w.owners v.owners c o h.owners e) l p ∙ h.cells c o e l p;
  new = k.new ++ h.new;
  bindings = k.bindings ∙ (ap (λ l. k.new ++ l) h.bindings ∙ sym (append_assoc k.new h.new s.store.bindings));
  whose = all_append (IsNew who s.store.begun) k.new h.new (all_map (IsNew who t.store.begun) (IsNew who s.store.begun) k.new (earlier h.begun) k.whose) h.whose;
  heap = later_trans s.store.heap t.store.heap r.store.heap h.heap k.heap;
  calm = λ c. grows_trans s.store.heap t.store.heap r.store.heap (h.calm c) (k.calm c);
  counts = λ b l n. k.counts b (omega (arith, l, h.begun)) n ∙ h.counts b l n;
  begun = omega (arith, h.begun, k.begun);
}
  where
    earlier : s.store.begun ≤ t.store.begun → (b : Binding) → IsNew who t.store.begun b → IsNew who s.store.begun b
    earlier l b (inl e) = inl (omega arith)
    earlier l b (inr e) = inr e

-- what changes neither the store nor what was logged keeps all
pub kept_same : (an : Analysis) (who : Doer) (w : World) (s t : State) → t.store ≡ s.store → t.trace ≡ s.trace → Kept an who w s w t
kept_same an who w s t e f = record {
  owners = front_refl w.owners;
  modules = front_refl w.modules;
  cells = λ c o g l p. ap (λ x. slice_get x.cells c) e;
  new = [];
  bindings = ap (λ x. x.bindings) e;
  whose = tt;
  heap = subst (λ x. Later s.store.heap x.heap) (sym e) (later_refl s.store.heap);
  calm = λ c. subst (λ x. Grows s.store.heap x.heap) (sym e) (grows_refl s.store.heap);
  counts = λ b l n. ap (λ x. reached an b x) f;
  begun = omega (arith, ap (λ x. x.begun) e);
}

-- ---- a part may do less than it might

-- whatever the one may do, the other may
pub record MayMore (who more : Doer) : Type 0 where
  pub runs : (who.runs ≡ None) ⊎ (who.runs ≡ more.runs)
  pub assigns : (local : ℕ) → more.assigns local ≡ false → who.assigns local ≡ false
  pub binds : (local : ℕ) → who.binds local ≡ true → more.binds local ≡ true
  pub calm : more.calm ≡ true → who.calm ≡ true

others : (who more : Doer) (a : ℕ) → MayMore who more → more.runs ≢ Some a → who.runs ≢ Some a
others who more a m n e = by_side m.runs
  where
    by_side : (who.runs ≡ None) ⊎ (who.runs ≡ more.runs) → ⊥
    by_side (inl k) = clash (sym k ∙ e)
      where
        clash : None ≡ Some a → ⊥
        clash z = cc
    by_side (inr k) = n (sym k ∙ e)

pub kept_more : (an : Analysis) (who more : Doer) (w v : World) (s t : State) → MayMore who more → Kept an who w s v t → Kept an more w s v t
kept_more an who more w v s t m k = record {
  owners = k.owners;
  modules = k.modules;
  cells = λ c o e l p. k.cells c o e l (spared o p);
  new = k.new;
  bindings = k.bindings;
  whose = all_map (IsNew who s.store.begun) (IsNew more s.store.begun) k.new newer k.whose;
  heap = k.heap;
  calm = λ c. k.calm (m.calm c);
  counts = λ b l n. k.counts b l (others who more b m n);
  begun = k.begun;
}
  where
    spared : (o : Owner) → IsSpared an more o → IsSpared an who o
    spared o (inl e) = inl e
    spared o (inr (inl e)) = inr (inl (others who more o.activation m e))
    spared o (inr (inr e)) = inr (inr (m.assigns o.local e))

    by_runs : (b : Binding) → who.runs ≡ Some b.activation → (who.runs ≡ None) ⊎ (who.runs ≡ more.runs) → more.runs ≡ Some b.activation
    by_runs b e (inl k') = absurd (clash (sym k' ∙ e))
      where
        clash : None ≡ Some b.activation → ⊥
        clash z = cc
    by_runs b e (inr k') = sym k' ∙ e

    newer : (b : Binding) → IsNew who s.store.begun b → IsNew more s.store.begun b
    newer b (inl e) = inl e
    newer b (inr e) = inr (by_runs b e.0 m.runs, m.binds b.local e.1)

-- ---- the newest cell of a local of an activation that runs on

-- whether a binding is of this local of this activation
abbrev is_of : ℕ → ℕ → Binding → Bool
is_of a x b = (b.activation == a) && (b.local == x)

and_false : (q : Bool) → (q && false) ≡ false
and_false true = refl
and_false false = refl

not_of : (who : Doer) (a x begun : ℕ) (b : Binding) → a < begun → who.binds x ≡ false → IsNew who begun b → is_of a x b ≡ false
not_of who a x begun b l n (inl e) = ap (λ p. p && (b.local == x)) (other_number b.activation a (omega arith))
  where
    other_number : (m n : ℕ) → n < m → (m == n) ≡ false
    other_number m n h = grind arith
not_of who a x begun b l n (inr e) = by_local (b.local == x) refl
  where
    clash : who.binds x ≡ true → (b.activation == a) && (b.local == x) ≡ false
    clash k = cc

    by_local : (q : Bool) → (b.local == x) ≡ q → (b.activation == a) && (b.local == x) ≡ false
    by_local true h = clash (subst (λ (y : ℕ). who.binds y ≡ true) (eqb-true b.local x h) e.1)
    by_local false h = rw h (and_false (b.activation == a))

cell_past : (who : Doer) (a x begun : ℕ) (new old : List Binding) → a < begun → who.binds x ≡ false → AllByRecursion (IsNew who begun) new
    → cell_of (new ++ old) a x ≡ cell_of old a x
cell_past who a x begun [] old l n h = refl
cell_past who a x begun (b ∷ new) old l n h = by_test (is_of a x b) (not_of who a x begun b l n h.0) (cell_past who a x begun new old l n h.1)
  where
    by_test : (q : Bool) → q ≡ false → cell_of (new ++ old) a x ≡ cell_of old a x
        → option_map (λ (c : Binding). c.cell) (if q then Some b else find (is_of a x) (new ++ old)) ≡ cell_of old a x
    by_test true e k = cc
    by_test false e k = k

-- a local of an activation that had begun, which the part doesn't bind, has the cell that it had
pub same_cell : (an : Analysis) (who : Doer) (w v : World) (s t : State) (a x : ℕ) → Kept an who w s v t → a < s.store.begun → who.binds x ≡ false
    → cell_of t.store.bindings a x ≡ cell_of s.store.bindings a x
same_cell an who w v s t a x k l n = ap (λ (bs : List Binding). cell_of bs a x) k.bindings ∙ cell_past who a x s.store.begun k.new s.store.bindings l n k.whose
