-- What the forms of expressions do, over the layer below.
use Rattle.std.specs.Prelude.{ℕ, Bool, true, false, not, ◌==◌, ◌&&◌, if◌then◌else◌, List, [], ◌∷◌, ◌++◌, Option, Some, None, slice_get}
use Rattle.std.specs.Option.{option_map}
use Rattle.std.specs.List.{find, position}
use Rattle.std.specs.Str.{bytes_eq}
use Rattle.luau_values.specs.Value.{Value, Nil, Truth, Num, Str, Tab, Lit, Builtin}
use Rattle.luau_values.specs.Heap.{Field, written}
use Rattle.luau_values.specs.Start.{libraries}
use Rattle.luau_tree.specs.Tree.{Expr, the_expr, Exprs, no_exprs, more_exprs, ExprKind, NilExpr, TrueExpr, FalseExpr, NumberExpr, StrExpr, Vararg, FunctionExpr, NameExpr, Index, At, Call, Method, Paren, Unary, Binary, IfElse, TableExpr, Interp, Assert, Choices, no_choices, more_choices, Item, Keyed, Plain, Items, no_items, more_items, Body, the_body}
use Rattle.luau_tree.specs.Tree as plain
use Rattle.luau_tree.specs.declared.names.BinOp.{BinOp}
use Rattle.luau_tree.specs.declared.names.BinOp.TheVariants.{Or, And}
use Rattle.luau_tree.specs.declared.names.Place.TheVariants.{Expr as ExprPlace}
use Rattle.luau_run.specs.ReadModule.{Use, UseLocal, UseBuiltin, UseLibrary, UseGlobal}
use Rattle.luau_run.specs.Program.{Program, paths}
use Rattle.luau_run.specs.Machine.{Reach, Binding, Part, ◌>>=◌, ◌>>◌, give, spend, step, log, look, change, ask, make_table}
use Rattle.luau_run.specs.Answers.{a_string, yes_or_fail}
use Rattle.luau_run.specs.Layer.{Frame, Layer, first}
use Rattle.luau_run.specs.Operators.{is_true, binary, unary, any_value, Base, named_field, element}

-- the one value of an expression where it doesn't expand
abbrev pub value : Layer → Frame → Expr → Part Value
value layer frame e = layer.values frame e >>= (λ values. give (first values))

-- the values of a list of expressions; the last one expands
abbrev pub all_values : Layer → Frame → Exprs → Part (List Value)
all_values layer frame no_exprs = give []
all_values layer frame (more_exprs e no_exprs) = layer.values frame e
all_values layer frame (more_exprs e (more_exprs next rest)) = do
  v ← value layer frame e
  values ← all_values layer frame (more_exprs next rest)
  give (v ∷ values)

-- an activation begins to evaluate an expression: this takes a step, and the place is logged
abbrev pub reach : Frame → ℕ → Part (Unit {0})
reach frame id = step >> log (Reach frame.activation frame.module_at (ExprPlace (record { 0 = id })))

-- the newest cell of a local of an activation
abbrev pub cell_of : List Binding → (activation local : ℕ) → Option ℕ
cell_of bindings activation local =
    option_map (λ b. b.cell) (find (λ b. (b.activation == activation) && (b.local == local)) bindings)

-- the cell of a local, without which a run is spent
abbrev pub cell_or_spend : Option ℕ → Part ℕ
cell_or_spend None = spend
cell_or_spend (Some cell) = give cell

-- the cell that a local stands for now
abbrev pub local_cell : Frame → ℕ → Part ℕ
local_cell frame local = look >>= (λ store. cell_or_spend (cell_of store.bindings frame.activation local))

-- what a cell holds, without which a run is spent
abbrev pub cell_value : Option Value → Part Value
cell_value None = spend
cell_value (Some v) = give v

-- what a local holds
abbrev pub local_value : Frame → ℕ → Part Value
local_value frame local = do
  cell ← local_cell frame local
  store ← look
  cell_value (slice_get store.cells cell)

-- the table of a library, at the library's position, without which a run is spent
abbrev pub table_or_spend : Option ℕ → Part Value
table_or_spend None = spend
table_or_spend (Some address) = give (Tab address)

-- what a name stands for
abbrev pub named : Program → Frame → List ℕ → Option Use → Part Value
named program frame name (Some (UseLocal local)) = local_value frame local
named program frame name (Some (UseBuiltin path)) = give (Builtin path)
named program frame name (Some UseLibrary) = table_or_spend (position (bytes_eq name) (libraries (paths program)))
named program frame name (Some UseGlobal) = any_value program
named program frame name None = spend

-- the cells of the captured locals
abbrev pub captured_cells : Frame → List ℕ → Part (List (ℕ × ℕ))
captured_cells frame [] = give []
captured_cells frame (local ∷ locals) = do
  cell ← local_cell frame local
  cells ← captured_cells frame locals
  give ((local, cell) ∷ cells)

-- the number of a body
abbrev pub number_of : Body → ℕ
number_of (the_body id has_self generics params vararg result block span) = id

-- a new closure
abbrev pub make_closure : Frame → Body → Part Value
make_closure frame code = do
  cells ← captured_cells frame (frame.reading.captured (number_of code))
  let closure : Value = Lit frame.reading.home (number_of code) cells
  change (λ s. record s { closures = s.closures ++ record { value = closure; module_at = frame.module_at; code = code } ∷ [] })
  give closure

-- whether a name stands for a library
abbrev pub stands_for_library : Option Use → Bool
stands_for_library (Some UseLibrary) = true
stands_for_library _ = false

-- whether an expression is the name of a library
abbrev pub is_library : Frame → Expr → Bool
is_library frame (the_expr id span kind) = stands_for_library (frame.reading.use_of id)

-- the base of a read or a write is evaluated for one value
abbrev pub base_of : Layer → Frame → Expr → Part Base
base_of layer frame e = value layer frame e >>= (λ v. give (record { value = v; is_library = is_library frame e }))

-- the rest of `a and b` and of `a or b`, after a
abbrev pub either_value : Layer → Frame → (done : Bool) → Value → Expr → Part Value
either_value layer frame done v right = if done then give v else value layer frame right

-- the rest of a binary operation, after the left side
abbrev pub binary_rest : Program → Layer → Frame → BinOp → Value → Expr → Part Value
binary_rest program layer frame And v right = either_value layer frame (not (is_true v)) v right
binary_rest program layer frame Or v right = either_value layer frame (is_true v) v right
binary_rest program layer frame op v right = value layer frame right >>= binary program op v

-- the values of an if-expression
abbrev pub chosen : Layer → Frame → Choices → Expr → Part Value
chosen layer frame no_choices last = value layer frame last
chosen layer frame (more_choices cond v rest) last = do
  c ← value layer frame cond
  if is_true c then value layer frame v else chosen layer frame rest last

-- the fields that an item `[k] = v` gives: one where k is a string; else it is asked whether the
-- write fails
abbrev pub keyed_field : (key v : Value) → List Field → Part (List Field)
keyed_field (Str name) v fields = give (written name v fields)
keyed_field key v fields = ask yes_or_fail >> give fields

-- the named fields of the items of a table
abbrev pub item_fields : Layer → Frame → Items → List Field → Part (List Field)
item_fields layer frame no_items fields = give fields
item_fields layer frame (more_items (plain.Field name e) rest) fields = do
  v ← value layer frame e
  item_fields layer frame rest (written name v fields)
item_fields layer frame (more_items (Keyed key e) rest) fields = do
  k ← value layer frame key
  v ← value layer frame e
  more ← keyed_field k v fields
  item_fields layer frame rest more
item_fields layer frame (more_items (Plain e) rest) fields = layer.values frame e >> item_fields layer frame rest fields

-- a part that gives one value, as a list
abbrev pub one : Part Value → Part (List Value)
one part = part >>= (λ v. give (v ∷ []))

-- a static require: its name and its string are reached, and it is a call
abbrev pub static_require : Layer → Frame → ℕ → Expr → Exprs → Part (List Value)
static_require layer frame at (the_expr id span kind) args = do
  reach frame id
  all_values layer frame args
  step
  layer.require at

-- a call: the callee, the arguments, and a step for the call itself
abbrev pub call_expr : Layer → Frame → Option ℕ → Expr → Exprs → Part (List Value)
call_expr layer frame (Some at) callee args = static_require layer frame at callee args
call_expr layer frame None callee args = do
  f ← value layer frame callee
  values ← all_values layer frame args
  step
  layer.call f values

-- each expression of a list, for one value
abbrev pub each_value : Layer → Frame → Exprs → Part (Unit {0})
each_value layer frame no_exprs = give tt
each_value layer frame (more_exprs e rest) = value layer frame e >> each_value layer frame rest

-- what an expression does once its place is logged
abbrev pub evaluate : Program → Layer → Frame → ℕ → ExprKind → Part (List Value)
evaluate program layer frame id NilExpr = give (Nil ∷ [])
evaluate program layer frame id TrueExpr = give (Truth true ∷ [])
evaluate program layer frame id FalseExpr = give (Truth false ∷ [])
evaluate program layer frame id (NumberExpr text) = give (Num text ∷ [])
evaluate program layer frame id (StrExpr bytes) = give (Str bytes ∷ [])
evaluate program layer frame id Vararg = give frame.further
evaluate program layer frame id (FunctionExpr code) = one (make_closure frame code)
evaluate program layer frame id (NameExpr name) = one (named program frame name (frame.reading.use_of id))
evaluate program layer frame id (Index base name) = one (do
  b ← base_of layer frame base
  named_field program name b)
evaluate program layer frame id (At base key) = one (do
  b ← base_of layer frame base
  k ← value layer frame key
  element program k b)
evaluate program layer frame id (Call callee args) = call_expr layer frame (frame.reading.required id) callee args
evaluate program layer frame id (Method base name name_span args) = do
  b ← base_of layer frame base
  values ← all_values layer frame args
  f ← named_field program name b
  step
  layer.call f (b.value ∷ values)
evaluate program layer frame id (Paren e) = one (value layer frame e)
evaluate program layer frame id (Unary op e) = one (value layer frame e >>= unary program op)
evaluate program layer frame id (Binary op left right) = one (do
  v ← value layer frame left
  binary_rest program layer frame op v right)
evaluate program layer frame id (IfElse arms last) = one (chosen layer frame arms last)
evaluate program layer frame id (TableExpr items) = one (do
  fields ← item_fields layer frame items []
  address ← make_table fields
  give (Tab address))
evaluate program layer frame id (Interp texts parts) = one (do
  each_value layer frame parts
  ask a_string)
evaluate program layer frame id (Assert e typ) = one (value layer frame e)

-- an expression that is a builtin's path is evaluated whole
abbrev pub evaluate_or_builtin : Program → Layer → Frame → ℕ → ExprKind → Option Use → Part (List Value)
evaluate_or_builtin program layer frame id kind (Some (UseBuiltin path)) = give (Builtin path ∷ [])
evaluate_or_builtin program layer frame id kind _ = evaluate program layer frame id kind

-- an expression
unfoldable pub values : Program → Layer → Frame → Expr → Part (List Value)
values program layer frame (the_expr id span kind) = do
  reach frame id
  evaluate_or_builtin program layer frame id kind (frame.reading.use_of id)
