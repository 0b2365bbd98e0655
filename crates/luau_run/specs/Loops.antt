-- The turns of loops, over the layer below. A turn takes a step before anything else.
use Rattle.std.specs.Prelude.{ℕ, if◌then◌else◌, List, [], ◌∷◌, Option, Some, None, drop}
use Rattle.luau_values.specs.Value.{Value, is_nil}
use Rattle.luau_tree.specs.Tree.{Expr, Block, Binds, no_binds, more_binds, the_bind}
use Rattle.luau_run.specs.Program.{Program}
use Rattle.luau_run.specs.Machine.{Part, ◌>>=◌, ◌>>◌, give, step, look, ask, new_cell, bind_local}
use Rattle.luau_run.specs.Answers.{a_number_turn, a_turn, ForTurn, Free}
use Rattle.luau_run.specs.Layer.{Frame, Ending, Falls, Breaks, Returns, Loop, WhileLoop, RepeatLoop, NumLoop, FunctionLoop, TableLoop, OtherLoop, Layer, first}
use Rattle.luau_run.specs.Operators.{is_true}
use Rattle.luau_run.specs.Calls.{block}
use Rattle.luau_run.specs.Expressions.{value}

-- new cells for the names of a list, with values or nil
abbrev pub declare : Frame → Binds → List Value → Part (Unit {0})
declare frame no_binds values = give tt
declare frame (more_binds (the_bind name span typ) rest) values = do
  cell ← new_cell (first values)
  bind_local frame.activation (frame.reading.local_at span.start) cell
  declare frame rest (drop 1 values)

-- after a turn's body: a break ends the loop, a return ends the body around, and else the loop goes
-- on
abbrev pub next_turn : Part Ending → Ending → Part Ending
next_turn again Breaks = give Falls
next_turn again (Returns values) = give (Returns values)
next_turn again ending = again

-- `repeat`: the condition is in the turn, also after `continue`
abbrev pub until : Layer → Frame → Expr → Part Ending → Ending → Part Ending
until layer frame cond again Breaks = give Falls
until layer frame cond again (Returns values) = give (Returns values)
until layer frame cond again ending = do
  c ← value layer frame cond
  if is_true c then give Falls else again

-- a turn with values for the variables, or the loop's end
abbrev pub turn_with : Layer → Frame → Binds → Block → Part Ending → Option (List Value) → Part Ending
turn_with layer frame binds body again None = give Falls
turn_with layer frame binds body again (Some values) = do
  declare frame binds values
  ending ← block layer frame body
  next_turn again ending

-- a turn of a numeric `for`, or its end
abbrev pub number_turn : Layer → Frame → ℕ → Block → Part Ending → Option Value → Part Ending
number_turn layer frame local body again None = give Falls
number_turn layer frame local body again (Some v) = do
  cell ← new_cell v
  bind_local frame.activation local cell
  ending ← block layer frame body
  next_turn again ending

-- what a turn of an iteration over a function does with what the function gave: nil first ends the
-- loop
abbrev pub function_turn : Layer → Frame → (iterator second : Value) → Binds → Block → List Value → Part Ending
function_turn layer frame iterator second binds body values =
    if is_nil (first values) then give Falls
    else turn_with layer frame binds body (layer.turns frame (FunctionLoop iterator second (first values) binds body)) (Some values)

-- what a turn of a loop does once it has taken its step
abbrev pub turn : Program → Layer → Frame → Loop → Part Ending
turn program layer frame (WhileLoop cond body) = do
  c ← value layer frame cond
  if is_true c then (block layer frame body >>= next_turn (layer.turns frame (WhileLoop cond body))) else give Falls
turn program layer frame (RepeatLoop body cond) = do
  ending ← block layer frame body
  until layer frame cond (layer.turns frame (RepeatLoop body cond)) ending
turn program layer frame (NumLoop local body) = do
  v ← ask a_number_turn
  number_turn layer frame local body (layer.turns frame (NumLoop local body)) v
turn program layer frame (FunctionLoop iterator second control binds body) = do
  step
  values ← layer.call iterator (second ∷ control ∷ [])
  function_turn layer frame iterator second binds body values
turn program layer frame (TableLoop binds body) = do
  store ← look
  values ← ask (a_turn program store)
  turn_with layer frame binds body (layer.turns frame (TableLoop binds body)) values
turn program layer frame (OtherLoop binds body) = do
  values ← layer.acts Free ForTurn
  turn_with layer frame binds body (layer.turns frame (OtherLoop binds body)) values

-- the turns of a loop from here on
unfoldable pub turns : Program → Layer → Frame → Loop → Part Ending
turns program layer frame loop = step >> turn program layer frame loop
