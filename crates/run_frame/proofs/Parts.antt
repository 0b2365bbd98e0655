-- How a part of a run ends, and parts in a row.
use Rattle.std.proofs.Common.{◌≡◌, ℕ, zero, suc, List, [], ◌∷◌, refl, sym, ap, subst}
use Rattle.luau_run.specs.Machine.{Answer, Reply, Unfit, Fails, Fits, replied, asked, ask, step, step_of, look, Store, State, Ran, Gave, Failed, Spent, Part, go_on, ◌>>=◌, give, caught}
use Rattle.luau_run.specs.Certain.{StaysAt}
use Rattle.run_frame.specs.Analysis.{Analysis}
use Rattle.run_frame.proofs.World.{World}
use Rattle.run_frame.proofs.Kept.{Doer, MayMore, Kept, kept_trans, kept_same, kept_more}
use Rattle.run_frame.proofs.Fine.{Fine, fine_same}

-- a part that gave or failed, since a builtin may catch the failure, leaves a state as it should be, and kept what it had to;
-- what was logged stays at reports even where the run is spent. What holds of what the part gave doesn't speak of the world
abbrev pub Ends : Analysis → Doer → World → State → {A : Type 0} → (A → State → Type 0) → Ran A → Type 0
Ends an who w s P (Gave x t) = (v : World) × Fine an v t × Kept an who w s v t × P x t
Ends an who w s P (Failed t) = (v : World) × Fine an v t × Kept an who w s v t
Ends an who w s P (Spent t) = StaysAt an.reports t.trace

-- after another part
pub ends_after : (an : Analysis) (who : Doer) (w v : World) (s t : State) {A : Type 0} (P : A → State → Type 0) (r : Ran A)
    → Kept an who w s v t → Ends an who v t P r → Ends an who w s P r
ends_after an who w v s t P (Gave x u) k h = (h.0, h.1, kept_trans an who w v h.0 s t u k h.2, h.3)
ends_after an who w v s t P (Failed u) k h = (h.0, h.1, kept_trans an who w v h.0 s t u k h.2)
ends_after an who w v s t P (Spent u) k h = h

-- one part and then the next
pub ends_then : (an : Analysis) (who : Doer) (w : World) (s : State) {A B : Type 0} (P : A → State → Type 0) (Q : B → State → Type 0) (r : Ran A) (next : A → Part B)
    → Ends an who w s P r → ((x : A) (t : State) (v : World) → Fine an v t → Kept an who w s v t → P x t → Ends an who v t Q (next x t))
    → Ends an who w s Q (go_on r next)
ends_then an who w s P Q (Gave x t) next h k = ends_after an who w h.0 s t Q (next x t) h.2 (k x t h.0 h.1 h.2 h.3)
ends_then an who w s P Q (Failed t) next h k = h
ends_then an who w s P Q (Spent t) next h k = h

-- what is said of what was given may be less, and in words of what the part kept
pub ends_so : (an : Analysis) (who : Doer) (w : World) (s : State) {A : Type 0} (P Q : A → State → Type 0) (r : Ran A)
    → ((x : A) (t : State) (v : World) → r ≡ Gave x t → Fine an v t → Kept an who w s v t → P x t → Q x t) → Ends an who w s P r → Ends an who w s Q r
ends_so an who w s P Q (Gave x t) f h = (h.0, h.1, h.2, f x t h.0 refl h.1 h.2 h.3)
ends_so an who w s P Q (Failed t) f h = h
ends_so an who w s P Q (Spent t) f h = h

-- a part that does less than it may
pub ends_more : (an : Analysis) (who more : Doer) (w : World) (s : State) {A : Type 0} (P : A → State → Type 0) (r : Ran A)
    → MayMore who more → Ends an who w s P r → Ends an more w s P r
ends_more an who more w s P (Gave x t) m h = (h.0, h.1, kept_more an who more w h.0 s t m h.2, h.3)
ends_more an who more w s P (Failed t) m h = (h.0, h.1, kept_more an who more w h.0 s t m h.2)
ends_more an who more w s P (Spent t) m h = h

-- a caught failure
pub ends_caught : (an : Analysis) (who : Doer) (w : World) (s : State) {A : Type 0} (P : A → State → Type 0) (r : Ran A) → Ends an who w s P r
    → Ends an who w s (λ x t. Unit {0}) (caught r)
ends_caught an who w s P (Gave x t) h = (h.0, h.1, h.2, tt)
ends_caught an who w s P (Failed t) h = (h.0, h.1, h.2, tt)
ends_caught an who w s P (Spent t) h = h

-- what holds where a part gave
pub ends_gave : (an : Analysis) (who : Doer) (w : World) (s : State) {A : Type 0} (P : A → State → Type 0) (r : Ran A) (x : A) (t : State) → r ≡ Gave x t
    → Ends an who w s P r → (v : World) × Fine an v t × Kept an who w s v t × P x t
ends_gave an who w s {A} P r x t e h = subst (λ (q : Ran A). Ends an who w s P q) e h

-- what gave, gave in parts
pub gave_then : {A B : Type 0} (r : Ran A) (next : A → Part B) (y : B) (u : State) → go_on r next ≡ Gave y u
    → (x : A) × (t : State) × (r ≡ Gave x t) × (next x t ≡ Gave y u)
gave_then (Gave x t) next y u e = (x, t, refl, e)
gave_then (Failed t) next y u e = cc
gave_then (Spent t) next y u e = cc

-- what gave isn't a failure, and gave one thing
pub gave_not_failed : {A : Type 0} (t u : State) (y : A) → Failed t ≡ Gave y u → ⊥
gave_not_failed t u y e = cc

pub gave_not_spent : {A : Type 0} (t u : State) (y : A) → Spent t ≡ Gave y u → ⊥
gave_not_spent t u y e = cc

pub gave_same : {A : Type 0} (x y : A) (t u : State) → Gave x t ≡ Gave y u → (x ≡ y) × (t ≡ u)
gave_same x y t u e = (cc, cc)

-- ---- parts that change no store and log nothing

-- the store and what was logged are the same
abbrev pub Same : State → State → Type 0
Same s t = (t.store ≡ s.store) × (t.trace ≡ s.trace)

pub ends_here : (an : Analysis) (who : Doer) (w : World) (s t : State) {A : Type 0} (P : A → State → Type 0) (x : A) → Fine an w s → Same s t → P x t
    → Ends an who w s P (Gave x t)
ends_here an who w s t P x f e p = (w, fine_same an w s t e.0 e.1 f, kept_same an who w s t e.0 e.1, p)

pub ends_give : (an : Analysis) (who : Doer) (w : World) (s : State) {A : Type 0} (P : A → State → Type 0) (x : A) → Fine an w s → P x s → Ends an who w s P (give x s)
unfolding give
ends_give an who w s P x f p = ends_here an who w s s P x f (refl, refl) p

pub ends_fail : (an : Analysis) (who : Doer) (w : World) (s t : State) {A : Type 0} (P : A → State → Type 0) → Fine an w s → Same s t
    → Ends an who w s P (Failed t)
ends_fail an who w s t P f e = (w, fine_same an w s t e.0 e.1 f, kept_same an who w s t e.0 e.1)

ends_step_of : (an : Analysis) (who : Doer) (w : World) (s : State) (n : ℕ) → Fine an w s → Ends an who w s (λ x t. Same s t) (step_of n s)
ends_step_of an who w s zero f = f.stays
ends_step_of an who w s (suc left) f = ends_here an who w s (record s { steps = left }) (λ x t. Same s t) (tt {0}) f (refl, refl) (refl, refl)

pub ends_step : (an : Analysis) (who : Doer) (w : World) (s : State) → Fine an w s → Ends an who w s (λ x t. Same s t) (step s)
unfolding step
ends_step an who w s f = ends_step_of an who w s s.steps f

-- what an answer said that fits
abbrev pub Says : {A : Type 0} → (Answer → Reply A) → A → Type 0
Says reply x = (answer : Answer) × (reply answer ≡ Fits x)

ends_replied : (an : Analysis) (who : Doer) (w : World) (s : State) {A : Type 0} (reply : Answer → Reply A) (answer : Answer) (rest : List Answer) (r : Reply A)
    → reply answer ≡ r → Fine an w s → Ends an who w s (λ x t. Same s t × Says reply x) (replied r s (record s { tape = rest }))
ends_replied an who w s reply answer rest Unfit e f = f.stays
ends_replied an who w s reply answer rest Fails e f = ends_fail an who w s (record s { tape = rest }) (λ x t. Same s t × Says reply x) f (refl, refl)
ends_replied an who w s reply answer rest (Fits x) e f =
    ends_here an who w s (record s { tape = rest }) (λ y t. Same s t × Says reply y) x f (refl, refl) ((refl, refl), (answer, e))

ends_asked : (an : Analysis) (who : Doer) (w : World) (s : State) {A : Type 0} (reply : Answer → Reply A) (tape : List Answer) → Fine an w s
    → Ends an who w s (λ x t. Same s t × Says reply x) (asked reply tape s)
ends_asked an who w s reply [] f = f.stays
ends_asked an who w s reply (answer ∷ rest) f = ends_replied an who w s reply answer rest (reply answer) refl f

pub ends_ask : (an : Analysis) (who : Doer) (w : World) (s : State) {A : Type 0} (reply : Answer → Reply A) → Fine an w s
    → Ends an who w s (λ x t. Same s t × Says reply x) (ask reply s)
unfolding ask
ends_ask an who w s reply f = ends_asked an who w s reply s.tape f

-- what a part is that begins with a look at the store
pub looked : {A : Type 0} (next : Store → Part A) (s : State) → ◌>>=◌ look next s ≡ next s.store s
unfolding ◌>>=◌ look
looked next s = refl

-- a part that follows another, opened
pub opened : {A B : Type 0} (part : Part A) (next : A → Part B) (s : State) → ◌>>=◌ part next s ≡ go_on (part s) next
unfolding ◌>>=◌
opened part next s = refl

-- a step was taken
step_gave : (n : ℕ) (s t : State) → step_of n s ≡ Gave tt t → Same s t
step_gave zero s t e = cc
step_gave (suc left) s t e = (ap (λ (x : State). x.store) (sym (gave_same (tt {0}) (tt {0}) (record s { steps = left }) t e).1), ap (λ (x : State). x.trace) (sym (gave_same (tt {0}) (tt {0}) (record s { steps = left }) t e).1))

pub step_same : (s t : State) → step s ≡ Gave tt t → Same s t
unfolding step
step_same s t e = step_gave s.steps s t e
