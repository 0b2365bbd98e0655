-- Calls: of closures, of builtins and of what is `Other`, and the run of a module that is required.
use Rattle.std.specs.Prelude.{ℕ, ◌+◌, not, ◌&&◌, ◌==◌, if◌then◌else◌, List, [], ◌∷◌, ◌++◌, length, Option, Some, None, codes, slice_get, drop}
use Rattle.std.specs.Option.{option_map}
use Rattle.std.specs.List.{find}
use Rattle.std.specs.Str.{bytes_eq}
use Rattle.luau_values.specs.Value.{Value, Nil, Truth, Num, Str, Tab, Lit, Builtin, Other}
use Rattle.luau_values.specs.Heap.{is_frozen}
use Rattle.luau_tree.specs.Tree.{Block, no_stats, more_stats, Body, the_body, the_bind, Binds, no_binds, more_binds, Varargs, no_varargs, varargs}
use Rattle.luau_tree.specs.declared.names.Place.TheVariants.{Param}
use Rattle.luau_run.specs.Signature.{Signature, declaration, takes, may_give}
use Rattle.luau_run.specs.ReadModule.{ReadModule}
use Rattle.luau_run.specs.Program.{Program}
use Rattle.luau_run.specs.Machine.{Reach, Act, Write, Freeze, Make, Calls, Catches, Closure, Part, ◌>>=◌, ◌>>◌, give, fail, spend, step, log, look, change, ask, catch, make_table, write_field, freeze_table, new_cell, bind_local, activate}
use Rattle.luau_run.specs.Answers.{is_closure, yes_or_fail, other_kind, Aim, ForResults, Freedom, Free, Quiet, Move, Acts, Ends, a_move}
use Rattle.luau_run.specs.Layer.{Frame, Ending, Falls, Returns, Layer, first}

-- one act
abbrev pub act : Layer → Act → Part (Unit {0})
act layer (Write table name value) = write_field table name value
act layer (Freeze table) = freeze_table table
act layer Make = make_table [] >> give tt
act layer (Calls callee args) = step >> layer.call callee args >> give tt
act layer (Catches callee args) = step >> catch (layer.call callee args) >> give tt

-- an act and what follows it, or the end
abbrev pub acts_from : Layer → Freedom → Aim → Move → Part (Option (List Value))
acts_from layer freedom aim (Acts a) = act layer a >> layer.acts freedom aim
acts_from layer freedom aim (Ends values) = give values

-- acts up to their end
unfoldable pub acts : Program → Layer → Freedom → Aim → Part (Option (List Value))
acts program layer freedom aim = do
  store ← look
  move ← ask (a_move program store freedom aim)
  acts_from layer freedom aim move

-- the results of a call, which fails where they aren't in the declaration
abbrev pub given_by : Signature → List Value → Part (List Value)
given_by signature results = do
  store ← look
  if may_give signature store.heap results then give results else fail

-- what `type` says of a value
abbrev pub type_name : Value → Part Value
type_name Nil = give (Str (codes "nil"))
type_name (Truth truth) = give (Str (codes "boolean"))
type_name (Num text) = give (Str (codes "number"))
type_name (Str bytes) = give (Str (codes "string"))
type_name (Tab address) = give (Str (codes "table"))
type_name (Lit home function cells) = give (Str (codes "function"))
type_name (Builtin path) = give (Str (codes "function"))
type_name (Other number) = ask other_kind

-- `table.freeze`, which may fail on a table that is frozen already
abbrev pub frozen : Value → Part Value
frozen (Tab address) = do
  store ← look
  if is_frozen store.heap address then ask yes_or_fail else freeze_table address
  give (Tab address)
frozen _ = fail

-- the results that acts ended with
abbrev pub results_or_none : Option (List Value) → List Value
results_or_none None = []
results_or_none (Some results) = results

-- how free a builtin is that is called where the heap has so many tables
abbrev pub freedom_of : Signature → ℕ → Freedom
freedom_of signature from = if signature.quiet then Quiet from else Free

-- a builtin without an exact meaning
abbrev pub free_builtin : Layer → Signature → Part (List Value)
free_builtin layer signature = do
  store ← look
  results ← layer.acts (freedom_of signature (length store.heap)) ForResults
  given_by signature (results_or_none results)

-- what a builtin does with arguments that it takes
abbrev pub meaning : Layer → Signature → List ℕ → List Value → Part (List Value)
meaning layer signature path args =
    if bytes_eq path (codes "type") then (type_name (first args) >>= (λ v. given_by signature (v ∷ [])))
    else (if bytes_eq path (codes "table.freeze") then (frozen (first args) >>= (λ v. given_by signature (v ∷ [])))
    else free_builtin layer signature)

-- a builtin fails on arguments outside its declaration where it is checked
abbrev pub declared_call : Layer → Option Signature → List ℕ → List Value → Part (List Value)
declared_call layer None path args = spend
declared_call layer (Some signature) path args = do
  store ← look
  if signature.checked && not (takes signature store.heap args) then fail else meaning layer signature path args

-- a call of a builtin
unfoldable pub call_builtin : Program → Layer → List ℕ → List Value → Part (List Value)
call_builtin program layer path args = declared_call layer (declaration program.builtins path) path args

-- what an ending leaves of a block
abbrev pub block_rest : Part Ending → Ending → Part Ending
block_rest rest Falls = rest
block_rest rest ending = give ending

-- a body's statements, up to the first that doesn't fall through
abbrev pub block : Layer → Frame → Block → Part Ending
block layer frame no_stats = give Falls
block layer frame (more_stats s rest) = layer.stat frame s >>= block_rest (block layer frame rest)

-- the values with which a body ends
abbrev pub returned : Ending → List Value
returned (Returns values) = values
returned _ = []

-- each parameter gets a cell with its argument, or nil
abbrev pub bind_params : Frame → Binds → List Value → Part (Unit {0})
bind_params frame no_binds args = give tt
bind_params frame (more_binds (the_bind name span typ) rest) args = do
  cell ← new_cell (first args)
  bind_local frame.activation (frame.reading.local_at span.start) cell
  bind_params frame rest (drop 1 args)

-- the place of each parameter whose argument is in its annotation is reached
abbrev pub reach_params : Frame → (function index : ℕ) → Binds → List Value → Part (Unit {0})
reach_params frame function index no_binds args = give tt
reach_params frame function index (more_binds b rest) args = do
  store ← look
  if frame.reading.annotated function index store.heap (first args)
      then log (Reach frame.activation frame.module_at (Param (record { 0 = function }) index)) else give tt
  reach_params frame function (index + 1) rest (drop 1 args)

-- the captured locals stand for the cells that the closure has
abbrev pub bind_captured : ℕ → List (ℕ × ℕ) → Part (Unit {0})
bind_captured activation [] = give tt
bind_captured activation (c ∷ cells) = bind_local activation c.0 c.1 >> bind_captured activation cells

-- the arguments past the parameters, which only a body with `...` keeps
abbrev pub further_args : Varargs → Binds → List Value → List Value
further_args no_varargs params args = []
further_args (varargs t) no_binds args = args
further_args (varargs t) (more_binds b rest) args = further_args (varargs t) rest (drop 1 args)

-- the frame of an activation of a body of a module, with further arguments
abbrev pub frame_of : (module_at : ℕ) → ReadModule → (further : List Value) → (activation : ℕ) → Frame
frame_of at reading further activation = record { activation = activation; module_at = at; reading = reading; further = further }

-- what a body does in a frame of its own: the captured cells, the parameters, the places of these,
-- the statements
abbrev pub run_in : Layer → Frame → List (ℕ × ℕ) → Body → List Value → Part Ending
run_in layer frame cells (the_body id has_self generics params vararg result code span) args = do
  bind_captured frame.activation cells
  bind_params frame params args
  reach_params frame id 0 params args
  block layer frame code

-- the arguments that a body keeps for `...`
abbrev pub kept_args : Body → List Value → List Value
kept_args (the_body id has_self generics params vararg result code span) args = further_args vararg params args

-- a call of a closure; no `break` or `continue` leads out of a body
abbrev pub enter : Layer → Option ReadModule → List (ℕ × ℕ) → ℕ → Body → List Value → Part (List Value)
enter layer None cells at code args = spend
enter layer (Some reading) cells at code args = do
  ending ← activate (λ activation. run_in layer (frame_of at reading (kept_args code args) activation) cells code args)
  give (returned ending)

-- a call of a closure that was made
abbrev pub call_closure : Program → Layer → List (ℕ × ℕ) → Option Closure → List Value → Part (List Value)
call_closure program layer cells None args = spend
call_closure program layer cells (Some c) args = enter layer (slice_get program.modules c.module_at) cells c.module_at c.code args

-- a call of a value
unfoldable pub call : Program → Layer → Value → List Value → Part (List Value)
call program layer (Lit home function cells) args = do
  store ← look
  call_closure program layer cells (find (λ c. is_closure home function cells c.value) store.closures) args
call program layer (Builtin path) args = call_builtin program layer path args
call program layer (Other number) args = layer.acts Free ForResults >>= (λ results. give (results_or_none results))
call program layer _ args = fail

-- the value of a loaded module: the first that was kept
abbrev pub loaded_value : List (ℕ × Value) → ℕ → Option Value
loaded_value loaded at = option_map (λ l. l.1) (find (λ l. l.0 == at) loaded)

-- the value of a module is kept behind those that are there by now; so it counts unless one of the
-- same module is
abbrev pub keep_loaded : ℕ → Value → List (ℕ × Value) → List (ℕ × Value)
keep_loaded at value loaded = loaded ++ (at, value) ∷ []

-- a new activation of a module's own body
abbrev pub enter_module : Layer → ℕ → Option ReadModule → Part Ending
enter_module layer at None = spend
enter_module layer at (Some reading) = activate (λ activation. block layer (frame_of at reading [] activation) reading.block)

-- the loaded value, or a run of the module, whose first value is given and kept
abbrev pub require_from : Program → Layer → ℕ → Option Value → Part (List Value)
require_from program layer at (Some value) = give (value ∷ [])
require_from program layer at None = do
  ending ← enter_module layer at (slice_get program.modules at)
  let value : Value = first (returned ending)
  change (λ s. record s { loaded = keep_loaded at value s.loaded })
  give (value ∷ [])

-- a module that is required
unfoldable pub require : Program → Layer → ℕ → Part (List Value)
require program layer at = do
  store ← look
  require_from program layer at (loaded_value store.loaded at)
