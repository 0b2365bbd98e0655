-- What runs of a bounded depth do: each form of syntax is defined over the layer below.
use Rattle.std.specs.Prelude.{ℕ, List, [], ◌∷◌, Option}
use Rattle.luau_values.specs.Value.{Value, Nil}
use Rattle.luau_tree.specs.Tree.{Expr, Stat, Block, Binds}
use Rattle.luau_run.specs.ReadModule.{ReadModule}
use Rattle.luau_run.specs.Machine.{Part}
use Rattle.luau_run.specs.Answers.{Aim, Freedom}

-- where code runs: an activation of a body of a module, and the arguments past its parameters
pub record Frame : Type 0 where
  pub activation : ℕ
  pub module_at : ℕ
  pub reading : ReadModule
  pub further : List Value

-- how a statement ends
pub data Ending : Type 0 where
  Falls : Ending
  Breaks : Ending
  Continues : Ending
  Returns : (values : List Value) → Ending

-- a loop that has begun: what each of its turns needs
pub data Loop : Type 0 where
  WhileLoop : (cond : Expr) (body : Block) → Loop
  RepeatLoop : (body : Block) (cond : Expr) → Loop
  -- a numeric `for` over a local
  NumLoop : (local : ℕ) (body : Block) → Loop
  -- an iteration over a function, with the second value of the list, and the first value of the
  -- call before
  FunctionLoop : (iterator second control : Value) (binds : Binds) (body : Block) → Loop
  TableLoop : (binds : Binds) (body : Block) → Loop
  OtherLoop : (binds : Binds) (body : Block) → Loop

-- what runs of a bounded depth do with each form of syntax, with calls and with acts
pub record Layer : Type 0 where
  -- evaluates an expression to its values: more or fewer than one only where a call or `...`
  -- expands
  pub values : Frame → Expr → Part (List Value)
  pub stat : Frame → Stat → Part Ending
  -- the turns of a loop from here on
  pub turns : Frame → Loop → Part Ending
  -- what a call does once it has taken its step
  pub call : (callee : Value) (args : List Value) → Part (List Value)
  -- runs a module that is required, unless it has a loaded value
  pub require : (module_at : ℕ) → Part (List Value)
  -- acts from here on, and what they end with
  pub acts : Freedom → Aim → Part (Option (List Value))

-- the first of some values, and nil where there is none
abbrev pub first : List Value → Value
first [] = Nil
first (v ∷ values) = v
