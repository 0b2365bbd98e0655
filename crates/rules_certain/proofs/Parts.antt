-- What parts of a run log, while no reported place is reached.
use Rattle.std.proofs.Common.{ℕ, zero, suc, List, [], ◌∷◌, ◌++◌, Contains}
use Rattle.std.specs.Bool.{⊤}
use Rattle.luau_tree.specs.declared.names.Place.{Place}
use Rattle.luau_run.specs.Machine.{Event, Reach, Leave, Store, State, Ran, Gave, Failed, Spent, Part, go_on, ◌>>=◌, step_of, step}
use Rattle.luau_run.specs.Certain.{IsNotLeft, StaysAt}

-- no body ends
abbrev pub NoLeave : List Event → Type 0
NoLeave [] = ⊤
NoLeave (Reach a m place ∷ events) = NoLeave events
NoLeave (Leave a ∷ events) = ⊥

-- no body ends, and no reported place is reached
abbrev pub Clear : List (ℕ × Place) → List Event → Type 0
Clear reports [] = ⊤
Clear reports (Reach a m place ∷ events) = (Contains reports (m, place) → ⊥) × Clear reports events
Clear reports (Leave a ∷ events) = ⊥

pub clear_no_leave : (reports : List (ℕ × Place)) (events : List Event) → Clear reports events → NoLeave events
clear_no_leave reports [] h = tt
clear_no_leave reports (Reach a m place ∷ events) h = clear_no_leave reports events h.1
clear_no_leave reports (Leave a ∷ events) h = h

pub reach_no_leave : (events : List Event) (a m : ℕ) (place : Place) → NoLeave events → NoLeave (events ++ Reach a m place ∷ [])
reach_no_leave [] a m place h = tt
reach_no_leave (Reach b n q ∷ events) a m place h = reach_no_leave events a m place h
reach_no_leave (Leave b ∷ events) a m place h = h

pub reach_clear : (reports : List (ℕ × Place)) (events : List Event) (a m : ℕ) (place : Place) → (Contains reports (m, place) → ⊥)
    → Clear reports events → Clear reports (events ++ Reach a m place ∷ [])
reach_clear reports [] a m place u h = (u, tt)
reach_clear reports (Reach b n q ∷ events) a m place u h = (h.0, reach_clear reports events a m place u h.1)
reach_clear reports (Leave b ∷ events) a m place u h = h

not_left : (a : ℕ) (events : List Event) → NoLeave events → IsNotLeft a events
not_left a [] h = tt
not_left a (Reach b m place ∷ events) h = not_left a events h
not_left a (Leave b ∷ events) h = absurd h

pub no_leave_stays : (reports : List (ℕ × Place)) (events : List Event) → NoLeave events → StaysAt reports events
no_leave_stays reports [] h = tt
no_leave_stays reports (Reach a m place ∷ events) h = (λ c. not_left a events h, no_leave_stays reports events h)
no_leave_stays reports (Leave a ∷ events) h = absurd h

pub clear_left_stays : (reports : List (ℕ × Place)) (events : List Event) (a : ℕ) → Clear reports events → StaysAt reports (events ++ Leave a ∷ [])
clear_left_stays reports [] a h = tt
clear_left_stays reports (Reach b m place ∷ events) a h = (λ c. absurd (h.0 c), clear_left_stays reports events a h.1)
clear_left_stays reports (Leave b ∷ events) a h = absurd h

-- where a part gives something, this and its state are such; where it doesn't, no body has ended
abbrev pub Post : {A : Type 0} → (A → State → Type 0) → Ran A → Type 0
Post P (Gave x t) = P x t
Post P (Failed t) = NoLeave t.trace
Post P (Spent t) = NoLeave t.trace

pub post_then : {A B : Type 0} (P : A → State → Type 0) (Q : B → State → Type 0) (r : Ran A) (next : A → Part B)
    → Post P r → ((x : A) (t : State) → P x t → Post Q (next x t)) → Post Q (go_on r next)
post_then P Q (Gave x t) next h k = k x t h
post_then P Q (Failed t) next h k = h
post_then P Q (Spent t) next h k = h

-- a step and what follows it, which begins with the same trace and the same store
pub post_step : {B : Type 0} (Q : B → State → Type 0) (P : Store → List Event → Type 0) (p : Part B) (s : State) → (NoLeave s.trace) → P s.store s.trace
    → ((t : State) → P t.store t.trace → Post Q (p t)) → Post Q (◌>>=◌ step (λ _. p) s)
unfolding ◌>>=◌ step
post_step Q P p s n h k = by_steps s.steps
  where
    by_steps : (steps : ℕ) → Post Q (go_on (step_of steps s) (λ _. p))
    by_steps zero = n
    by_steps (suc steps) = k (record s { steps = steps }) h
