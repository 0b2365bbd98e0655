-- Runs: layers, one upon another, and the run of a module of a program.
use Rattle.std.specs.Prelude.{ℕ, zero, suc, ◌+◌, List, [], length, slice_get}
use Rattle.luau_values.specs.Start.{start_heap}
use Rattle.luau_run.specs.Program.{Program, paths}
use Rattle.luau_run.specs.Machine.{Event, Answer, State, Ran, Gave, Failed, Spent, spend}
use Rattle.luau_run.specs.Layer.{Ending, Layer}
use Rattle.luau_run.specs.Expressions.{values}
use Rattle.luau_run.specs.Statements.{stat}
use Rattle.luau_run.specs.Loops.{turns}
use Rattle.luau_run.specs.Calls.{call, require, acts, enter_module}

-- the layer above another
abbrev pub next : Program → Layer → Layer
next program layer = record {
  values = values program layer;
  stat = stat program layer;
  turns = turns program layer;
  call = call program layer;
  require = require program layer;
  acts = acts program layer;
}

-- the lowest layer, where everything is spent at once
abbrev pub lowest : Layer
lowest = record {
  values = λ frame e. spend;
  stat = λ frame s. spend;
  turns = λ frame loop. spend;
  call = λ callee args. spend;
  require = λ module_at. spend;
  acts = λ freedom aim. spend;
}

-- the layer of a depth
abbrev pub layer_of : Program → ℕ → Layer
layer_of program zero = lowest
layer_of program (suc depth) = next program (layer_of program depth)

-- where a run begins
abbrev pub start : Program → (steps : ℕ) → List Answer → State
start program steps tape = record {
  store = record { cells = []; closures = []; heap = start_heap (paths program); bindings = []; loaded = []; begun = 0 };
  tape = tape;
  steps = steps;
  trace = [];
}

-- the run of a module of a program, with a number of steps and a tape of answers; no deeper layer
-- would give another
abbrev pub run : Program → (entry steps : ℕ) → List Answer → Ran Ending
run program entry steps tape =
    enter_module (layer_of program (suc (steps + length tape))) entry (slice_get program.modules entry) (start program steps tape)

-- the state in which a part ends
abbrev pub end_of : {A : Type 0} → Ran A → State
end_of (Gave given state) = state
end_of (Failed state) = state
end_of (Spent state) = state

-- what a run logged
abbrev pub trace : Program → (entry steps : ℕ) → List Answer → List Event
trace program entry steps tape = (end_of (run program entry steps tape)).trace
