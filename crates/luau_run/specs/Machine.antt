-- What a run is made of: its state, what it logs, and parts of a run that follow one another.
use Rattle.std.specs.Prelude.{ℕ, zero, suc, ◌+◌, Bool, if◌then◌else◌, List, [], ◌∷◌, ◌++◌, length, Option, Some, None, slice_set}
use Rattle.luau_values.specs.Value.{Value}
use Rattle.luau_values.specs.Heap.{Heap, Field, is_frozen, with_table, with_field, with_frozen}
use Rattle.luau_tree.specs.Tree.{Body}
use Rattle.luau_tree.specs.declared.names.Place.{Place}

-- an activation, which is one running of a body, begins to evaluate the expression at a place of a
-- module, or has an argument in the annotation of the parameter there; or its body has ended,
-- normally or by return
pub data Event : Type 0 where
  Reach : (activation module_at : ℕ) (place : Place) → Event
  Leave : (activation : ℕ) → Event

-- what a builtin does before it ends: it writes a field of a table, freezes a table, makes one, or
-- calls a function, with its failure passed on or caught
pub data Act : Type 0 where
  Write : (table : ℕ) (name : List ℕ) (value : Value) → Act
  Freeze : (table : ℕ) → Act
  Make : Act
  Calls : (callee : Value) (args : List Value) → Act
  Catches : (callee : Value) (args : List Value) → Act

-- an answer to what the rules leave open: a value; yes or no; a failure; one more turn of a loop,
-- with values for its variables, or no more; an act of a builtin, or its end with results
pub data Answer : Type 0 where
  One : (value : Value) → Answer
  Says : (truth : Bool) → Answer
  Fail : Answer
  Turn : (values : List Value) → Answer
  Stop : Answer
  Does : (act : Act) → Answer
  Done : (results : List Value) → Answer

-- a closure that was made, with the body that it runs and the module that this stands in
pub record Closure : Type 0 where
  pub value : Value
  pub module_at : ℕ
  pub code : Body

-- the cell that a local of an activation stands for
pub record Binding : Type 0 where
  pub activation : ℕ
  pub local : ℕ
  pub cell : ℕ

-- what a run has made so far: cells with values, closures, tables, the newest binding of each local
-- first, the values of loaded modules, and the number of activations that have begun
pub record Store : Type 0 where
  pub cells : List Value
  pub closures : List Closure
  pub heap : Heap
  pub bindings : List Binding
  pub loaded : List (ℕ × Value)
  pub begun : ℕ

-- the state of a run: its store, the answers and the steps that are left, and what it has logged,
-- oldest first
pub record State : Type 0 where
  pub store : Store
  pub tape : List Answer
  pub steps : ℕ
  pub trace : List Event

-- how a part of a run ends: it gives something, it fails by a run-time error, or steps or answers
-- are spent
pub data Ran (A : Type 0) : Type 0 where
  Gave : (given : A) (state : State) → Ran A
  Failed : (state : State) → Ran A
  Spent : (state : State) → Ran A

-- a part of a run, from the state where it begins
abbrev pub Part : Type 0 → Type 0
Part A = State → Ran A

-- what follows the end of a part
abbrev pub go_on : {A B : Type 0} → Ran A → (A → Part B) → Ran B
go_on (Gave given state) next = next given state
go_on (Failed state) next = Failed state
go_on (Spent state) next = Spent state

infixl 4 ◌>>=◌
infixl 4 ◌>>◌
-- one part, and then the next with what it gave; where the first fails or is spent, so does the
-- whole
unfoldable pub ◌>>=◌ : {A B : Type 0} → Part A → (A → Part B) → Part B
◌>>=◌ part next state = go_on (part state) next

-- one part, and then another
abbrev pub ◌>>◌ : {A B : Type 0} → Part A → Part B → Part B
◌>>◌ part next = ◌>>=◌ part (λ _. next)

-- gives something at once
unfoldable pub give : {A : Type 0} → A → Part A
give given state = Gave given state

-- fails
unfoldable pub fail : {A : Type 0} → Part A
fail state = Failed state

-- is spent
unfoldable pub spend : {A : Type 0} → Part A
spend state = Spent state

-- a step, where so many are left
abbrev pub step_of : ℕ → Part (Unit {0})
step_of zero state = Spent state
step_of (suc left) state = Gave tt (record state { steps = left })

-- takes one of the steps
unfoldable pub step : Part (Unit {0})
step state = step_of state.steps state

-- logs an event
unfoldable pub log : Event → Part (Unit {0})
log event state = Gave tt (record state { trace = state.trace ++ event ∷ [] })

-- the store now
unfoldable pub look : Part Store
look state = Gave state.store state

-- changes the store
unfoldable pub change : (Store → Store) → Part (Unit {0})
change f state = Gave tt (record state { store = f state.store })

-- what an answer is where it is asked for: it doesn't fit, it is a failure, or it fits and says
-- something
pub data Reply (A : Type 0) : Type 0 where
  Unfit : Reply A
  Fails : Reply A
  Fits : (said : A) → Reply A

-- what a reply does, from the states before and after the answer is taken
abbrev pub replied : {A : Type 0} → Reply A → (before after : State) → Ran A
replied Unfit before after = Spent before
replied Fails before after = Failed after
replied (Fits said) before after = Gave said after

-- what is done with what is left of the tape
abbrev pub asked : {A : Type 0} → (Answer → Reply A) → List Answer → Part A
asked reply [] state = Spent state
asked reply (answer ∷ rest) state = replied (reply answer) state (record state { tape = rest })

-- takes the next answer; the run is spent where there is none, or where it doesn't fit
unfoldable pub ask : {A : Type 0} → (Answer → Reply A) → Part A
ask reply state = asked reply state.tape state

-- a failure as an end without anything given
abbrev pub caught : {A : Type 0} → Ran A → Ran (Option A)
caught (Gave given state) = Gave (Some given) state
caught (Failed state) = Gave None state
caught (Spent state) = Spent state

-- a part whose failure is caught
unfoldable pub catch : {A : Type 0} → Part A → Part (Option A)
catch part state = caught (part state)

-- a new table with its first fields; it gives the address
abbrev pub make_table : List Field → Part ℕ
make_table fields = do
  store ← look
  change (λ s. record s { heap = with_table fields s.heap })
  give (length store.heap)

-- a write to a field of a table, which fails where the table is frozen
unfoldable pub write_field : ℕ → List ℕ → Value → Part (Unit {0})
write_field table name value state =
    if is_frozen state.store.heap table then Failed state
    else Gave tt (record state { store = record state.store { heap = with_field table name value state.store.heap } })

-- freezes a table
abbrev pub freeze_table : ℕ → Part (Unit {0})
freeze_table table = change (λ s. record s { heap = with_frozen table s.heap })

-- a new cell with a value; it gives the number
abbrev pub new_cell : Value → Part ℕ
new_cell value = do
  store ← look
  change (λ s. record s { cells = s.cells ++ value ∷ [] })
  give (length store.cells)

-- puts a value into a cell
abbrev pub set_cell : ℕ → Value → Part (Unit {0})
set_cell cell value = change (λ s. record s { cells = slice_set s.cells cell value })

-- from now on a local of an activation stands for a cell
abbrev pub bind_local : (activation local cell : ℕ) → Part (Unit {0})
bind_local activation local cell =
    change (λ s. record s { bindings = record { activation = activation; local = local; cell = cell } ∷ s.bindings })

-- the next number for an activation
abbrev pub begin : Part ℕ
begin = do
  store ← look
  change (λ s. record s { begun = s.begun + 1 })
  give store.begun

-- an activation: it gets a number of its own, and when its body has ended, that is logged
unfoldable pub activate : {A : Type 0} → (ℕ → Part A) → Part A
activate body = do
  number ← begin
  given ← body number
  log (Leave number)
  give given
