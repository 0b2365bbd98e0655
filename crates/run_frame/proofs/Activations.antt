-- Moves of activations: one begins, reaches places, and is left.
use Rattle.std.proofs.Common.{◌≡◌, ◌≢◌, ℕ, ◌+◌, ◌<◌, ◌≤◌, Bool, true, false, ◌&&◌, ◌==◌, if◌then◌else◌, List, [], ◌∷◌, ◌++◌, length, Option, Some, None, inl, inr, refl, sym, ◌∙◌, ap, subst, arith, slice_get, length-append, append_assoc}
use Rattle.std.specs.List.{AllByRecursion, find}
use Rattle.std.specs.Option.{option_map}
use Rattle.std.proofs.lemmas.Bool.{eqb-true}
use Rattle.std.proofs.lemmas.Option.{slice_get_within}
use Rattle.luau_values.specs.Value.{Value}
use Rattle.luau_values.specs.Stands.{Stands}
use Rattle.luau_values.proofs.Public.{later_refl, later_trans, grows_refl, grows_trans}
use Rattle.luau_tree.specs.declared.names.Place.{Place}
use Rattle.luau_run.specs.ReadModule.{ReadModule}
use Rattle.luau_run.specs.Machine.{Event, Reach, Leave, Binding, State, Ran, Gave, Failed, Spent, Part, go_on, ◌>>=◌, look, log, change, give, begin, activate}
use Rattle.luau_run.specs.Layer.{Frame}
use Rattle.luau_run.specs.Expressions.{cell_of}
use Rattle.luau_run.specs.Calls.{frame_of}
use Rattle.report_rules.specs.TypeMap.{TypeMap}
use Rattle.run_frame.specs.Analysis.{Analysis, is_loose}
use Rattle.run_frame.proofs.World.{Owner, World, with_module, front_refl, front_trans, stays_at, all_append, all_map, last_get}
use Rattle.run_frame.proofs.Counts.{is_reported, reached, one_if, reached_own, reached_other, reached_leave, stays_reach, stays_leave}
use Rattle.run_frame.proofs.Kept.{Doer, nobody, IsNew, Kept, kept_trans}
use Rattle.run_frame.proofs.Fine.{HasValue, IsBoundWell, bound_kept, Fine, fine_moved}
use Rattle.run_frame.proofs.Held.{Runs, Held, has_begun}
use Rattle.run_frame.proofs.Parts.{Ends}

-- the state with another trace
abbrev pub logged : Event → State → State
logged event s = record s { trace = s.trace ++ event ∷ [] }

pub logs_so : (event : Event) (s : State) → log event s ≡ Gave tt (logged event s)
unfolding log
logs_so event s = refl

-- what was logged is of no other activation that had begun
kept_logged : (an : Analysis) (who : Doer) (w : World) (s : State) (event : Event)
    → ((b : ℕ) → b < s.store.begun → who.runs ≢ Some b → reached an b (s.trace ++ event ∷ []) ≡ reached an b s.trace) → Kept an who w s w (logged event s)
kept_logged an who w s event counts = record {
  owners = front_refl w.owners;
  modules = front_refl w.modules;
  cells = λ c o e l p. refl;
  new = [];
  bindings = refl;
  whose = tt;
  heap = later_refl s.store.heap;
  calm = λ c. grows_refl s.store.heap;
  counts = counts;
  begun = omega arith;
}

-- ---- the activation that runs reaches a place

differ : (a b : ℕ) (runs : Option ℕ) → runs ≡ Some a → runs ≢ Some b → a ≢ b
differ a b runs e n q = n (e ∙ ap Some q)

pub kept_reached : (an : Analysis) (who : Doer) (w : World) (s : State) (a m : ℕ) (p : Place) → who.runs ≡ Some a → Kept an who w s w (logged (Reach a m p) s)
kept_reached an who w s a m p runs = kept_logged an who w s (Reach a m p) (λ b l n. reached_other an b a m p s.trace (differ a b who.runs runs n))

pub fine_reached : (an : Analysis) (w : World) (s : State) (a m : ℕ) (p : Place) → Fine an w s → a < s.store.begun → Fine an w (logged (Reach a m p) s)
fine_reached an w s a m p f l = record {
  owned = f.owned;
  ran = f.ran;
  older = f.older;
  bound = f.bound;
  stand = f.stand;
  fields = f.fields;
  libraries = f.libraries;
  fixed = f.fixed;
  closures = f.closures;
  loaded = f.loaded;
  stays = stays_reach an.reports a m p s.trace f.stays;
  young = λ b k. reached_other an b a m p s.trace (λ q. absurd (omega (arith, l, k, q))) ∙ f.young b k;
}

-- one more where the place is reported, and nothing else
abbrev pub IsReached : Analysis → (activation module_at : ℕ) → Place → State → State → Type 0
IsReached an a m p s t = (t.store ≡ s.store) × (reached an a t.trace ≡ reached an a s.trace + one_if (is_reported an m p))

pub ends_reached : (an : Analysis) (who : Doer) (w : World) (s : State) (frame : Frame) (p : Place) → Fine an w s → Runs an w s frame → who.runs ≡ Some frame.activation
    → Ends an who w s (λ x t. IsReached an frame.activation frame.module_at p s t) (log (Reach frame.activation frame.module_at p) s)
ends_reached an who w s frame p f r runs =
    subst (λ (q : Ran (Unit {0})). Ends an who w s (λ x t. IsReached an frame.activation frame.module_at p s t) q) (sym (logs_so (Reach frame.activation frame.module_at p) s)) (
      w,
      fine_reached an w s frame.activation frame.module_at p f (has_begun an w s frame f r),
      kept_reached an who w s frame.activation frame.module_at p runs,
      (refl, reached_own an frame.activation frame.module_at p s.trace),
    )

-- ---- an activation that reached no reported place is left

pub kept_left : (an : Analysis) (who : Doer) (w : World) (s : State) (a : ℕ) → Kept an who w s w (logged (Leave a) s)
kept_left an who w s a = kept_logged an who w s (Leave a) (λ b l n. reached_leave an b a s.trace)

pub fine_left : (an : Analysis) (w : World) (s : State) (a : ℕ) → Fine an w s → reached an a s.trace ≡ 0 → Fine an w (logged (Leave a) s)
fine_left an w s a f z = record {
  owned = f.owned;
  ran = f.ran;
  older = f.older;
  bound = f.bound;
  stand = f.stand;
  fields = f.fields;
  libraries = f.libraries;
  fixed = f.fixed;
  closures = f.closures;
  loaded = f.loaded;
  stays = stays_leave an a s.trace z f.stays;
  young = λ b k. reached_leave an b a s.trace ∙ f.young b k;
}

-- ---- an activation begins, in a module

abbrev pub one_begun : State → State
one_begun s = record s { store = record s.store { begun = s.store.begun + 1 } }

pub begins_so : (s : State) → begin s ≡ Gave s.store.begun (one_begun s)
unfolding ◌>>=◌ look change give
begins_so s = refl

pub kept_begun : (an : Analysis) (who : Doer) (w : World) (s : State) (m : ℕ) → Kept an who w s (with_module w m) (one_begun s)
kept_begun an who w s m = record {
  owners = front_refl w.owners;
  modules = (m ∷ [], refl);
  cells = λ c o e l p. refl;
  new = [];
  bindings = refl;
  whose = tt;
  heap = later_refl s.store.heap;
  calm = λ c. grows_refl s.store.heap;
  counts = λ b l n. refl;
  begun = omega arith;
}

pub fine_begun : (an : Analysis) (w : World) (s : State) (m : ℕ) → Fine an w s → Fine an (with_module w m) (one_begun s)
fine_begun an w s m f = fine_moved an (nobody true) w (with_module w m) s (one_begun s) f (kept_begun an (nobody true) w s m) (record {
  owned = f.owned;
  ran = length-append w.modules (m ∷ []) ∙ ap (λ (n : ℕ). n + 1) f.ran;
  older = λ c o e. omega (arith, f.older c o e);
  bound = all_map (IsBoundWell an w) (IsBoundWell an (with_module w m)) s.store.bindings
      (λ b. bound_kept an w (with_module w m) b (front_refl w.owners) (m ∷ [], refl)) f.bound;
  stand = f.stand;
  fields = f.fields;
  fixed = f.fixed;
  closures = refl;
  loaded = refl;
  stays = f.stays;
  young = λ b l. f.young b (omega (arith, l));
})

pub runs_begun : (an : Analysis) (w : World) (s : State) (m : ℕ) (reading : ReadModule) (further : List Value) → Fine an w s
    → slice_get an.program.modules m ≡ Some reading → AllByRecursion (Stands s.store.heap) further
    → Runs an (with_module w m) (one_begun s) (frame_of m reading further s.store.begun)
runs_begun an w s m reading further f e there = record {
  module_is = subst (λ (n : ℕ). slice_get (w.modules ++ m ∷ []) n ≡ Some m) f.ran (last_get w.modules m);
  reading = e;
  further = there;
}

-- no local has a cell yet
no_binding : (an : Analysis) (w : World) (n x : ℕ) (bs : List Binding) → length w.modules ≡ n → AllByRecursion (IsBoundWell an w) bs → cell_of bs n x ≡ None
no_binding an w n x [] e h = refl
no_binding an w n x (b ∷ bs) e h = by_test (b.activation == n) refl (no_binding an w n x bs e h.1)
  where
    by_test : (p : Bool) → (b.activation == n) ≡ p → cell_of bs n x ≡ None
        → option_map (λ (d : Binding). d.cell) (if p && (b.local == x) then Some b else find (λ (d : Binding). (d.activation == n) && (d.local == x)) bs) ≡ None
    by_test true q k = absurd (omega (arith, slice_get_within w.modules b.activation h.0.0.module_at h.0.3, e, eqb-true b.activation n q))
    by_test false q k = k

pub no_cell : (an : Analysis) (w : World) (s : State) (x : ℕ) → Fine an w s → cell_of s.store.bindings s.store.begun x ≡ None
no_cell an w s x f = no_binding an w s.store.begun x s.store.bindings f.ran f.bound

-- so every live map matches
pub held_begun : (an : Analysis) (w : World) (s : State) (frame : Frame) (map : TypeMap) → Fine an w s → frame.activation ≡ s.store.begun → map.dead ≡ false
    → ((x : ℕ) → is_loose an frame.module_at x ≡ false → HasValue (map.entry x)) → Held an frame map (one_begun s)
held_begun an w s frame map f e live full = record {
  live = live;
  full = full;
  entries = λ x c v l q. absurd (no (cell_of s.store.bindings frame.activation x) c (ap (λ (n : ℕ). cell_of s.store.bindings n x) e ∙ no_cell an w s x f) q.0);
}
  where
    no : (o : Option ℕ) (c : ℕ) → o ≡ None → o ≡ Some c → ⊥
    no o c p q = cc

-- ---- what an activation keeps, its caller keeps

new_to_caller : (who : Doer) (low high : ℕ) (b : Binding) (calm : Bool) → who.runs ≡ Some low → low ≤ high → IsNew who high b → IsNew (nobody calm) low b
new_to_caller who low high b calm runs l (inl e) = inl (omega (arith, l, e))
new_to_caller who low high b calm runs l (inr e) = inl (omega (arith, some_is low b.activation (sym runs ∙ e.0)))
  where
    some_is : (m n : ℕ) → Some m ≡ Some n → m ≡ n
    some_is m n k = cc

pub kept_inner : (an : Analysis) (who : Doer) (calm : Bool) (w v u : World) (s t r : State) → Fine an w s → who.runs ≡ Some s.store.begun → (calm ≡ true → who.calm ≡ true)
    → Kept an (nobody calm) w s v t → Kept an who v t u r → Kept an (nobody calm) w s u r
kept_inner an who calm w v u s t r f runs quiet h k = record {
  owners = front_trans w.owners v.owners u.owners h.owners k.owners;
  modules = front_trans w.modules v.modules u.modules h.modules k.modules;
  cells = λ c o e l p. k.cells c o (stays_at w.owners v.owners c o h.owners e) l (inr (inl (λ q. not_older c o e (some_is s.store.begun o.activation (sym runs ∙ q)))))
      ∙ h.cells c o e l (inr (inr refl));
  new = k.new ++ h.new;
  bindings = k.bindings ∙ (ap (λ l. k.new ++ l) h.bindings ∙ sym (append_assoc k.new h.new s.store.bindings));
  whose = all_append (IsNew (nobody calm) s.store.begun) k.new h.new
      (all_map (IsNew who t.store.begun) (IsNew (nobody calm) s.store.begun) k.new (λ b. new_to_caller who s.store.begun t.store.begun b calm runs h.begun) k.whose) h.whose;
  heap = later_trans s.store.heap t.store.heap r.store.heap h.heap k.heap;
  calm = λ c. grows_trans s.store.heap t.store.heap r.store.heap (h.calm c) (k.calm (quiet c));
  counts = λ b l n. k.counts b (omega (arith, l, h.begun)) (λ q. absurd (omega (arith, l, some_is s.store.begun b (sym runs ∙ q)))) ∙ h.counts b l n;
  begun = omega (arith, h.begun, k.begun);
}
  where
    some_is : (m n : ℕ) → Some m ≡ Some n → m ≡ n
    some_is m n z = cc

    not_older : (c : ℕ) (o : Owner) → slice_get w.owners c ≡ Some o → s.store.begun ≡ o.activation → ⊥
    not_older c o e q = absurd (omega (arith, f.older c o e, q))

pub ends_inner : (an : Analysis) (who : Doer) (calm : Bool) (w v : World) (s t : State) {A : Type 0} (P : A → State → Type 0) (r : Ran A) → Fine an w s
    → who.runs ≡ Some s.store.begun → (calm ≡ true → who.calm ≡ true) → Kept an (nobody calm) w s v t → Ends an who v t P r → Ends an (nobody calm) w s P r
ends_inner an who calm w v s t P (Gave x u) f runs quiet k h = (h.0, h.1, kept_inner an who calm w v h.0 s t u f runs quiet k h.2, h.3)
ends_inner an who calm w v s t P (Failed u) f runs quiet k h = (h.0, h.1, kept_inner an who calm w v h.0 s t u f runs quiet k h.2)
ends_inner an who calm w v s t P (Spent u) f runs quiet k h = h

-- ---- a whole activation

leaves_so : {A : Type 0} (n : ℕ) (x : A) (s : State) → ◌>>=◌ (log (Leave n)) (λ _. give x) s ≡ Gave x (logged (Leave n) s)
unfolding ◌>>=◌ log give
leaves_so n x s = refl

activates_so : {A : Type 0} (body : ℕ → Part A) (s : State)
    → activate body s ≡ go_on (body s.store.begun (one_begun s)) (λ x. ◌>>=◌ (log (Leave s.store.begun)) (λ _. give x))
unfolding activate ◌>>=◌ look change give
activates_so body s = refl

-- where its body gave, and had reached no reported place, it is left
ends_left : (an : Analysis) (who : Doer) (w : World) (s : State) (n : ℕ) {A : Type 0} (P : A → State → Type 0) (r : Ran A)
    → ((x : A) (t : State) → r ≡ Gave x t → reached an n t.trace ≡ 0) → ((x : A) (t : State) → P x t → P x (logged (Leave n) t))
    → Ends an who w s P r → Ends an who w s P (go_on r (λ x. ◌>>=◌ (log (Leave n)) (λ _. give x)))
ends_left an who w s n {A} P (Gave x t) none goes h = subst (λ (q : Ran A). Ends an who w s P q) (sym (leaves_so n x t))
    (h.0, fine_left an h.0 t n h.1 (none x t refl), kept_trans an who w h.0 h.0 s t (logged (Leave n) t) h.2 (kept_left an who h.0 t n), goes x t h.3)
ends_left an who w s n P (Failed t) none goes h = h
ends_left an who w s n P (Spent t) none goes h = h

pub ends_activate : (an : Analysis) (who : Doer) (calm : Bool) (w : World) (s : State) (m : ℕ) {A : Type 0} (P : A → State → Type 0) (body : ℕ → Part A) → Fine an w s
    → who.runs ≡ Some s.store.begun → (calm ≡ true → who.calm ≡ true)
    → Ends an who (with_module w m) (one_begun s) P (body s.store.begun (one_begun s))
    → ((x : A) (t : State) → body s.store.begun (one_begun s) ≡ Gave x t → reached an s.store.begun t.trace ≡ 0)
    → ((x : A) (t : State) → P x t → P x (logged (Leave s.store.begun) t))
    → Ends an (nobody calm) w s P (activate body s)
ends_activate an who calm w s m {A} P body f runs quiet h none goes = subst (λ (q : Ran A). Ends an (nobody calm) w s P q) (sym (activates_so body s))
    (ends_inner an who calm w (with_module w m) s (one_begun s) P
    (go_on (body s.store.begun (one_begun s)) (λ x. ◌>>=◌ (log (Leave s.store.begun)) (λ _. give x))) f runs quiet (kept_begun an (nobody calm) w s m)
    (ends_left an who (with_module w m) (one_begun s) s.store.begun P (body s.store.begun (one_begun s)) none goes h))
