-- What the forms of statements do, over the layer below.
use Rattle.std.specs.Prelude.{ℕ, Bool, true, false, not, if◌then◌else◌, List, [], ◌∷◌, Option, Some, None, drop}
use Rattle.std.specs.List.{list_any}
use Rattle.luau_values.specs.Value.{Value, Nil, Str, Tab, Lit, Builtin, Other}
use Rattle.luau_values.specs.Heap.{is_frozen}
use Rattle.luau_tree.specs.Tree.{Expr, the_expr, Exprs, no_exprs, more_exprs, MaybeExpr, no_expr, an_expr, NameExpr, Index, At, Block, Stat, the_stat, StatKind, Assign, Compound, CallStat, Do, While, Repeat, If, NumFor, GenFor, FunctionStat, LocalFunction, Local, TypeAlias, TypeFunction, Return, Break, Continue, Arms, no_arms, more_arms, MaybeBlock, no_block, a_block, Body, Bind, the_bind, Binds}
use Rattle.luau_tree.specs.declared.names.BinOp.{BinOp}
use Rattle.luau_tree.specs.declared.names.Place.TheVariants.{Expr as ExprPlace}
use Rattle.luau_run.specs.ReadModule.{Use, UseLocal}
use Rattle.luau_run.specs.Program.{Program}
use Rattle.luau_run.specs.Machine.{Reach, Part, ◌>>=◌, ◌>>◌, give, fail, spend, step, log, look, ask, new_cell, set_cell, bind_local}
use Rattle.luau_run.specs.Answers.{yes_or_fail}
use Rattle.luau_run.specs.Layer.{Frame, Ending, Falls, Breaks, Continues, Returns, WhileLoop, RepeatLoop, NumLoop, FunctionLoop, TableLoop, OtherLoop, Layer, first}
use Rattle.luau_run.specs.Operators.{is_true, binary, any_value, Base, named_field, element, set_field, Sort, NumberSort, WrongSort, sort}
use Rattle.luau_run.specs.Calls.{block}
use Rattle.luau_run.specs.Expressions.{value, base_of, all_values, local_cell, local_value, make_closure}
use Rattle.luau_run.specs.Loops.{declare}

-- a target whose base and key were evaluated
pub data Target : Type 0 where
  LocalTarget : (local : ℕ) → Target
  GlobalTarget : Target
  FieldTarget : (base : Base) (name : List ℕ) → Target
  ElementTarget : (base : Base) (key : Value) → Target

-- the target that a name is
abbrev pub name_target : Option Use → Target
name_target (Some (UseLocal local)) = LocalTarget local
name_target _ = GlobalTarget

-- the target itself isn't evaluated, but its base and its key are
abbrev pub target : Layer → Frame → Expr → Part Target
target layer frame (the_expr id span (NameExpr name)) = give (name_target (frame.reading.use_of id))
target layer frame (the_expr id span (Index base name)) = do
  b ← base_of layer frame base
  give (FieldTarget b name)
target layer frame (the_expr id span (At base key)) = do
  b ← base_of layer frame base
  k ← value layer frame key
  give (ElementTarget b k)
target layer frame (the_expr id span kind) = spend

-- the targets of an assignment, from the left
abbrev pub targets : Layer → Frame → Exprs → Part (List Target)
targets layer frame no_exprs = give []
targets layer frame (more_exprs e rest) = do
  t ← target layer frame e
  ts ← targets layer frame rest
  give (t ∷ ts)

-- a write by a key that is no string: a frozen table and what can't be written fail; else it is
-- asked whether it fails
abbrev pub set_other : Value → Part (Unit {0})
set_other (Tab address) = do
  store ← look
  if is_frozen store.heap address then fail else ask yes_or_fail
set_other (Other number) = ask yes_or_fail
set_other _ = fail

-- a write by a key; only a string is a name
abbrev pub set_element : (key written base : Value) → Part (Unit {0})
set_element (Str name) written base = set_field name written base
set_element key written base = set_other base

-- a write; of a global it does nothing
abbrev pub write_to : Frame → Target → Value → Part (Unit {0})
write_to frame (LocalTarget local) written = local_cell frame local >>= (λ cell. set_cell cell written)
write_to frame GlobalTarget written = give tt
write_to frame (FieldTarget base name) written = set_field name written base.value
write_to frame (ElementTarget base key) written = set_element key written base.value

-- the writes of an assignment, from the left
abbrev pub write_all : Frame → List Target → List Value → Part (Unit {0})
write_all frame [] values = give tt
write_all frame (t ∷ ts) values = write_to frame t (first values) >> write_all frame ts (drop 1 values)

-- what a target of a compound assignment holds
abbrev pub read_from : Program → Frame → Target → Part Value
read_from program frame (LocalTarget local) = local_value frame local
read_from program frame GlobalTarget = any_value program
read_from program frame (FieldTarget base name) = named_field program name base
read_from program frame (ElementTarget base key) = element program key base

-- the number of an expression
abbrev pub place_of : Expr → ℕ
place_of (the_expr id span kind) = id

-- a compound assignment: the target's place, its base and key, the read, the value, the operation,
-- the write
abbrev pub compound : Program → Layer → Frame → Expr → BinOp → Expr → Part Ending
compound program layer frame at op e = do
  log (Reach frame.activation frame.module_at (ExprPlace (record { 0 = place_of at })))
  t ← target layer frame at
  old ← read_from program frame t
  v ← value layer frame e
  new ← binary program op old v
  write_to frame t new
  give Falls

-- the first arm whose condition is true, or the last block
abbrev pub branches : Layer → Frame → Arms → MaybeBlock → Part Ending
branches layer frame no_arms no_block = give Falls
branches layer frame no_arms (a_block last) = block layer frame last
branches layer frame (more_arms cond body rest) last = do
  c ← value layer frame cond
  if is_true c then block layer frame body else branches layer frame rest last

-- whether a sort is that of no bound
abbrev pub is_wrong_sort : Sort → Bool
is_wrong_sort WrongSort = true
is_wrong_sort _ = false

-- whether a value is no bound
abbrev pub is_wrong : Value → Bool
is_wrong v = is_wrong_sort (sort v)

-- whether a sort is that of numbers
abbrev pub is_number_sort : Sort → Bool
is_number_sort NumberSort = true
is_number_sort _ = false

-- whether a value is a bound that doesn't fail
abbrev pub is_sure_bound : Value → Bool
is_sure_bound v = is_number_sort (sort v)

-- a numeric `for` begins: a bound that is nil, a boolean, a function or a table fails; one that is
-- a string or something else may fail
abbrev pub begin_for : List Value → Part (Unit {0})
begin_for bounds =
    if list_any is_wrong bounds then fail
    else (if list_any (λ v. not (is_sure_bound v)) bounds then ask yes_or_fail else give tt)

-- the bound that may be written
abbrev pub bounds_of : Layer → Frame → MaybeExpr → Part (List Value)
bounds_of layer frame no_expr = give []
bounds_of layer frame (an_expr e) = value layer frame e >>= (λ v. give (v ∷ []))

-- an iteration begins, by its first value
abbrev pub iterate : Layer → Frame → Binds → Block → List Value → Value → Part Ending
iterate layer frame binds body rest (Lit home function cells) =
    layer.turns frame (FunctionLoop (Lit home function cells) (first rest) (first (drop 1 rest)) binds body)
iterate layer frame binds body rest (Builtin path) =
    layer.turns frame (FunctionLoop (Builtin path) (first rest) (first (drop 1 rest)) binds body)
iterate layer frame binds body rest (Tab address) = layer.turns frame (TableLoop binds body)
iterate layer frame binds body rest (Other number) = layer.turns frame (OtherLoop binds body)
iterate layer frame binds body rest _ = fail

-- a function statement: the base, the closure, the write
abbrev pub define : Program → Layer → Frame → Expr → Option (List ℕ) → Body → Part Ending
define program layer frame path None code = do
  t ← target layer frame path
  closure ← make_closure frame code
  write_to frame t closure
  give Falls
define program layer frame path (Some method) code = do
  base ← value layer frame path
  closure ← make_closure frame code
  set_field method closure base
  give Falls

-- a local function: its cell is there before the closure, which may capture it
abbrev pub define_local : Frame → Bind → Body → Part Ending
define_local frame (the_bind name span typ) code = do
  cell ← new_cell Nil
  bind_local frame.activation (frame.reading.local_at span.start) cell
  closure ← make_closure frame code
  set_cell cell closure
  give Falls

-- a numeric `for`: its bounds, its begin, its turns
abbrev pub number_for : Layer → Frame → Bind → (from to : Expr) → MaybeExpr → Block → Part Ending
number_for layer frame (the_bind name span typ) from to by body = do
  a ← value layer frame from
  b ← value layer frame to
  c ← bounds_of layer frame by
  begin_for (a ∷ b ∷ c)
  layer.turns frame (NumLoop (frame.reading.local_at span.start) body)

-- what a statement does once it has taken its step
abbrev pub execute : Program → Layer → Frame → StatKind → Part Ending
execute program layer frame (Assign to values) = do
  ts ← targets layer frame to
  vs ← all_values layer frame values
  write_all frame ts vs
  give Falls
execute program layer frame (Compound at op e) = compound program layer frame at op e
execute program layer frame (CallStat e) = layer.values frame e >> give Falls
execute program layer frame (Do body) = block layer frame body
execute program layer frame (While cond body) = layer.turns frame (WhileLoop cond body)
execute program layer frame (Repeat body cond) = layer.turns frame (RepeatLoop body cond)
execute program layer frame (If arms last) = branches layer frame arms last
execute program layer frame (NumFor bind from to by body) = number_for layer frame bind from to by body
execute program layer frame (GenFor binds values body) = do
  vs ← all_values layer frame values
  iterate layer frame binds body (drop 1 vs) (first vs)
execute program layer frame (FunctionStat path method code) = define program layer frame path method code
execute program layer frame (LocalFunction name code) = define_local frame name code
execute program layer frame (Local binds values) = do
  vs ← all_values layer frame values
  declare frame binds vs
  give Falls
execute program layer frame (TypeAlias exported name generics typ) = give Falls
execute program layer frame (TypeFunction exported name code) = give Falls
execute program layer frame (Return values) = all_values layer frame values >>= (λ vs. give (Returns vs))
execute program layer frame Break = give Breaks
execute program layer frame Continue = give Continues

-- a statement
unfoldable pub stat : Program → Layer → Frame → Stat → Part Ending
stat program layer frame (the_stat span kind) = step >> execute program layer frame kind
