-- What comes of a worked run: how it ends, what it returns, what it logs.
use Rattle.std.specs.Prelude.{ℕ, ◌+◌, List, Option, Some, None}
use Rattle.luau_values.specs.Value.{Value}
use Rattle.luau_tree.specs.declared.names.Place.TheVariants.{Expr as ExprPlace}
use Rattle.luau_run.specs.Program.{Program}
use Rattle.luau_run.specs.Machine.{Event, Reach, Answer, Ran, Gave, Failed, Spent}
use Rattle.luau_run.specs.Layer.{Ending, Falls, Breaks, Continues, Returns}
use Rattle.luau_run.specs.Run.{run}

-- how a run ends
pub data Outcome : Type 0 where
  Normal : Outcome
  Return : Outcome
  Break : Outcome
  Continue : Outcome
  Failure : Outcome
  Unfinished : Outcome

abbrev pub outcome_of : Ending → Outcome
outcome_of Falls = Normal
outcome_of Breaks = Break
outcome_of Continues = Continue
outcome_of (Returns values) = Return

abbrev pub outcome : Ran Ending → Outcome
outcome (Gave ending state) = outcome_of ending
outcome (Failed state) = Failure
outcome (Spent state) = Unfinished

-- the place of an expression of the first module is reached by its own activation
abbrev pub reached : ℕ → Event
reached id = Reach 0 0 (ExprPlace (record { 0 = id }))

-- what a run returns, or none where it ends in another way
abbrev pub returned_of : Ran Ending → Option (List Value)
returned_of (Gave (Returns values) state) = Some values
returned_of _ = None

-- what the first module of a program returns
abbrev pub gives : Program → (steps : ℕ) → List Answer → Option (List Value)
gives program steps tape = returned_of (run program 0 steps tape)

-- how the run of the first module of a program ends
abbrev pub ends : Program → (steps : ℕ) → List Answer → Outcome
ends program steps tape = outcome (run program 0 steps tape)

-- how it ends with so many steps, and with one more
abbrev pub one_more : Program → (steps : ℕ) → List Answer → Outcome × Outcome
one_more program steps tape = (ends program steps tape, ends program (steps + 1) tape)
