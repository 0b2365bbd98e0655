-- How the states and the traces of a run stand to one another.
use Rattle.std.specs.Prelude.{◌≡◌, ◌≢◌, ℕ, ◌+◌, ◌<◌, ◌≤◌, List, [], ◌∷◌, ◌++◌, length, Option, Some, None, ◌⊎◌, ⊤}
use Rattle.luau_values.specs.Later.{Later}
use Rattle.luau_run.specs.Machine.{Event, Reach, Leave, Answer, State, Ran, Gave, Failed, Spent}
use Rattle.luau_run.specs.Run.{end_of}

-- the activation that an event belongs to
abbrev pub activation_of : Event → ℕ
activation_of (Reach activation module_at place) = activation
activation_of (Leave activation) = activation

-- none of the events belongs to an activation
abbrev pub NoneOf : ℕ → List Event → Type 0
NoneOf activation [] = ⊤
NoneOf activation (e ∷ events) = (activation_of e ≢ activation) × NoneOf activation events

-- the end of an activation's body is the activation's last event
abbrev pub LeavesLast : List Event → Type 0
LeavesLast [] = ⊤
LeavesLast (Reach activation module_at place ∷ later) = LeavesLast later
LeavesLast (Leave activation ∷ later) = NoneOf activation later × LeavesLast later

-- an event is a reach of the activation that runs, or belongs to one that began in the meantime,
-- with a number from `low` on and below `high`
abbrev pub IsInside : (runs : Option ℕ) → (low high : ℕ) → Event → Type 0
IsInside None low high e = (low ≤ activation_of e) × (activation_of e < high)
IsInside (Some runs) low high (Reach activation module_at place) = (activation ≡ runs) ⊎ ((low ≤ activation) × (activation < high))
IsInside (Some runs) low high (Leave activation) = (low ≤ activation) × (activation < high)

-- each of the events is inside
abbrev pub AllInside : (runs : Option ℕ) → (low high : ℕ) → List Event → Type 0
AllInside runs low high [] = ⊤
AllInside runs low high (e ∷ events) = IsInside runs low high e × AllInside runs low high events

-- the activation that runs, if there is one, has begun
abbrev pub HasBegun : (runs : Option ℕ) → ℕ → Type 0
HasBegun None begun = ⊤
HasBegun (Some runs) begun = runs < begun

-- what a part of a run does to a state: it logs more, of the activation that runs and of new ones,
-- each of which ends at most once and then logs nothing; the heap is later; and steps and answers
-- are only taken
pub record After (runs : Option ℕ) (old new : State) : Type 0 where
  pub events : List Event
  pub logged : new.trace ≡ old.trace ++ events
  pub inside : AllInside runs old.store.begun new.store.begun events
  pub last : LeavesLast events
  pub heap : Later old.store.heap new.store.heap
  pub begun : old.store.begun ≤ new.store.begun
  pub steps : new.steps ≤ old.steps
  pub tape : length new.tape ≤ length old.tape

-- the state with more steps and with more answers behind its own
abbrev pub with_more : (steps : ℕ) → List Answer → State → State
with_more steps answers state = record state { steps = state.steps + steps; tape = state.tape ++ answers }

-- a list begins with another
abbrev pub Begins : List Event → List Event → Type 0
Begins first whole = (rest : List Event) × (whole ≡ first ++ rest)

-- what becomes of a part of a run with more steps and answers: where it was spent, it logs the same
-- and goes on; else it ends the same
abbrev pub GoesOn : {A : Type 0} → (steps : ℕ) → List Answer → Ran A → Ran A → Type 0
GoesOn steps answers (Gave given state) ran = ran ≡ Gave given (with_more steps answers state)
GoesOn steps answers (Failed state) ran = ran ≡ Failed (with_more steps answers state)
GoesOn steps answers (Spent state) ran = Begins state.trace (end_of ran).trace
