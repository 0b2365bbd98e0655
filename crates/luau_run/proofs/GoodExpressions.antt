-- Expressions are good parts over good layers.
use Rattle.std.proofs.Common.{◌≡◌, ℕ, zero, suc, pred, Bool, not, List, [], ◌∷◌, Option, Some, None, refl, arith}
use Rattle.luau_values.specs.Value.{Value, Nil, Truth, Num, Str, Tab, Lit, Builtin, Other}
use Rattle.luau_values.specs.Heap.{Field, written}
use Rattle.luau_values.proofs.Public.{later_refl}
use Rattle.luau_tree.specs.Tree.{Expr, the_expr, Exprs, no_exprs, more_exprs, ExprKind, NilExpr, TrueExpr, FalseExpr, NumberExpr, StrExpr, Vararg, FunctionExpr, NameExpr, Index, At, Call, Method, Paren, Unary, Binary, IfElse, TableExpr, Interp, Assert, Choices, no_choices, more_choices, Item, Keyed, Plain, Items, no_items, more_items, Body}
use Rattle.luau_tree.specs.Tree as plain
use Rattle.luau_tree.specs.declared.names.BinOp.{BinOp}
use Rattle.luau_tree.specs.declared.names.BinOp.TheVariants.{Or, And, Less, Greater, LessEqual, GreaterEqual, NotEqual, Equal, Concat, Add, Sub, Mul, Div, FloorDiv, Mod, Pow}
use Rattle.luau_run.specs.ReadModule.{Use, UseLocal, UseBuiltin, UseLibrary, UseGlobal}
use Rattle.luau_run.specs.Program.{Program}
use Rattle.luau_run.specs.Machine.{Event, State, Part, ◌>>=◌, step, step_of, log, go_on}
use Rattle.luau_run.specs.Layer.{Frame, Layer}
use Rattle.luau_run.specs.Operators.{is_true, binary}
use Rattle.luau_run.specs.Expressions.{value, all_values, reach, cell_or_spend, local_cell, cell_value, local_value, table_or_spend, named, captured_cells, make_closure, base_of, either_value, binary_rest, chosen, keyed_field, item_fields, one, static_require, call_expr, each_value, evaluate, evaluate_or_builtin, values}
use Rattle.luau_run.proofs.Good.{Good, good_then, good_taken, good_step, good_log, HasTaken, left, good_ask, good_change, good_any, good_give, good_look, good_if, good_spend}
use Rattle.luau_run.proofs.GoodOperators.{good_table, good_binary, good_unary, good_any_value, good_named_field, good_element}
use Rattle.luau_run.proofs.GoodLayer.{GoodLayer, good_step_then}
use Rattle.luau_run.proofs.GoodCalls.{good_call}

good_cell_or_spend : (depth : ℕ) (runs : Option ℕ) (cell : Option ℕ) → Good depth runs (cell_or_spend cell) (cell_or_spend cell)
good_cell_or_spend depth runs None = good_spend depth runs ℕ
good_cell_or_spend depth runs (Some cell) = good_give depth runs cell

pub good_local_cell : (depth : ℕ) (frame : Frame) (local : ℕ) → Good depth (Some frame.activation) (local_cell frame local) (local_cell frame local)
good_local_cell depth frame local = good_then depth (Some frame.activation) _ _ _ _ (good_look depth (Some frame.activation)) (λ store. good_cell_or_spend depth (Some frame.activation) _)

good_cell_value : (depth : ℕ) (runs : Option ℕ) (v : Option Value) → Good depth runs (cell_value v) (cell_value v)
good_cell_value depth runs None = good_spend depth runs Value
good_cell_value depth runs (Some v) = good_give depth runs v

pub good_local_value : (depth : ℕ) (frame : Frame) (local : ℕ) → Good depth (Some frame.activation) (local_value frame local) (local_value frame local)
good_local_value depth frame local =
    good_then depth (Some frame.activation) _ _ _ _ (good_local_cell depth frame local) (λ cell. good_then depth (Some frame.activation) _ _ _ _ (good_look depth (Some frame.activation)) (λ store. good_cell_value depth (Some frame.activation) _))

good_table_or_spend : (depth : ℕ) (runs : Option ℕ) (address : Option ℕ) → Good depth runs (table_or_spend address) (table_or_spend address)
good_table_or_spend depth runs None = good_spend depth runs Value
good_table_or_spend depth runs (Some address) = good_give depth runs _

good_named : (depth : ℕ) (program : Program) (frame : Frame) (name : List ℕ) (u : Option Use) → Good depth (Some frame.activation) (named program frame name u) (named program frame name u)
good_named depth program frame name (Some (UseLocal local)) = good_local_value depth frame local
good_named depth program frame name (Some (UseBuiltin path)) = good_give depth (Some frame.activation) _
good_named depth program frame name (Some UseLibrary) = good_table_or_spend depth (Some frame.activation) _
good_named depth program frame name (Some UseGlobal) = good_any_value depth (Some frame.activation) program
good_named depth program frame name None = good_spend depth (Some frame.activation) Value

good_cells : (depth : ℕ) (frame : Frame) (locals : List ℕ) → Good depth (Some frame.activation) (captured_cells frame locals) (captured_cells frame locals)
good_cells depth frame [] = good_give depth (Some frame.activation) _
good_cells depth frame (local ∷ locals) = good_then depth (Some frame.activation) _ _ _ _ (good_local_cell depth frame local) (λ cell. good_then depth (Some frame.activation) _ _ _ _ (good_cells depth frame locals) (λ cells. good_give depth (Some frame.activation) _))

pub good_closure : (depth : ℕ) (frame : Frame) (code : Body) → Good depth (Some frame.activation) (make_closure frame code) (make_closure frame code)
good_closure depth frame code = good_then depth (Some frame.activation) _ _ _ _ (good_cells depth frame _) (λ cells.
    good_then depth (Some frame.activation) _ _ _ _ (good_change depth (Some frame.activation) _ (λ s. later_refl s.heap) (λ s. refl)) (λ x. good_give depth (Some frame.activation) _))

good_keyed : (depth : ℕ) (runs : Option ℕ) (key v : Value) (fields : List Field) → Good depth runs (keyed_field key v fields) (keyed_field key v fields)
good_keyed depth runs Nil v fields = good_then depth runs _ _ _ _ (good_ask depth runs _) (λ x. good_give depth runs fields)
good_keyed depth runs (Truth t) v fields = good_then depth runs _ _ _ _ (good_ask depth runs _) (λ x. good_give depth runs fields)
good_keyed depth runs (Num n) v fields = good_then depth runs _ _ _ _ (good_ask depth runs _) (λ x. good_give depth runs fields)
good_keyed depth runs (Str s) v fields = good_give depth runs _
good_keyed depth runs (Tab a) v fields = good_then depth runs _ _ _ _ (good_ask depth runs _) (λ x. good_give depth runs fields)
good_keyed depth runs (Lit h2 f2 c2) v fields = good_then depth runs _ _ _ _ (good_ask depth runs _) (λ x. good_give depth runs fields)
good_keyed depth runs (Builtin p) v fields = good_then depth runs _ _ _ _ (good_ask depth runs _) (λ x. good_give depth runs fields)
good_keyed depth runs (Other k) v fields = good_then depth runs _ _ _ _ (good_ask depth runs _) (λ x. good_give depth runs fields)

pub good_reach : (depth : ℕ) (frame : Frame) (id : ℕ) → Good depth (Some frame.activation) (reach frame id) (reach frame id)
good_reach depth frame id = good_then depth (Some frame.activation) _ _ _ _ (good_step depth (Some frame.activation)) (λ x. good_log depth frame.activation frame.module_at _)

logged_taken : (e : Event) (s : State) (n : ℕ) → s.steps ≡ n → HasTaken s (go_on (step_of n s) (λ x. log e))
unfolding log
logged_taken e s zero k = tt
logged_taken e s (suc n) k = omega arith

-- to reach a place takes a step
reach_takes : (frame : Frame) (id : ℕ) (s : State) → HasTaken s (reach frame id s)
unfolding step ◌>>=◌
reach_takes frame id s = logged_taken _ s s.steps refl

module _ (depth : ℕ) (l m : Layer) (h : GoodLayer depth l m) where
  pub good_value : (frame : Frame) (e : Expr) → Good depth (Some frame.activation) (value l frame e) (value m frame e)
  good_value frame e = good_then depth (Some frame.activation) _ _ _ _ (h.values frame e) (λ vs. good_give depth (Some frame.activation) _)

  pub good_base : (frame : Frame) (e : Expr) → Good depth (Some frame.activation) (base_of l frame e) (base_of m frame e)
  good_base frame e = good_then depth (Some frame.activation) _ _ _ _ (good_value frame e) (λ v. good_give depth (Some frame.activation) _)

  pub good_all : (frame : Frame) (es : Exprs) → Good depth (Some frame.activation) (all_values l frame es) (all_values m frame es)
  good_all frame no_exprs = good_give depth (Some frame.activation) _
  good_all frame (more_exprs e no_exprs) = h.values frame e
  good_all frame (more_exprs e (more_exprs next rest)) = good_then depth (Some frame.activation) _ _ _ _ (good_value frame e) (λ v. good_then depth (Some frame.activation) _ _ _ _ (good_all frame (more_exprs next rest)) (λ vs. good_give depth (Some frame.activation) _))

  good_each : (frame : Frame) (es : Exprs) → Good depth (Some frame.activation) (each_value l frame es) (each_value m frame es)
  good_each frame no_exprs = good_give depth (Some frame.activation) _
  good_each frame (more_exprs e rest) = good_then depth (Some frame.activation) _ _ _ _ (good_value frame e) (λ v. good_each frame rest)

  good_one : (frame : Frame) (p q : Part Value) → Good depth (Some frame.activation) p q → Good depth (Some frame.activation) (one p) (one q)
  good_one frame p q k = good_then depth (Some frame.activation) _ _ _ _ k (λ v. good_give depth (Some frame.activation) _)

  good_either : (frame : Frame) (done : Bool) (v : Value) (right : Expr) → Good depth (Some frame.activation) (either_value l frame done v right) (either_value m frame done v right)
  good_either frame done v right = good_if depth (Some frame.activation) done _ _ _ _ (good_give depth (Some frame.activation) v) (good_value frame right)

  good_operation : (program : Program) (frame : Frame) (op : BinOp) (v : Value) (right : Expr)
      → Good depth (Some frame.activation) (◌>>=◌ (value l frame right) (binary program op v)) (◌>>=◌ (value m frame right) (binary program op v))
  good_operation program frame op v right = good_then depth (Some frame.activation) _ _ _ _ (good_value frame right) (λ w. good_binary depth (Some frame.activation) program op v w)

  good_rest : (program : Program) (frame : Frame) (op : BinOp) (v : Value) (right : Expr) → Good depth (Some frame.activation) (binary_rest program l frame op v right) (binary_rest program m frame op v right)
  good_rest program frame And v right = good_either frame (not (is_true v)) v right
  good_rest program frame Or v right = good_either frame (is_true v) v right
  good_rest program frame Less v right = good_operation program frame Less v right
  good_rest program frame Greater v right = good_operation program frame Greater v right
  good_rest program frame LessEqual v right = good_operation program frame LessEqual v right
  good_rest program frame GreaterEqual v right = good_operation program frame GreaterEqual v right
  good_rest program frame NotEqual v right = good_operation program frame NotEqual v right
  good_rest program frame Equal v right = good_operation program frame Equal v right
  good_rest program frame Concat v right = good_operation program frame Concat v right
  good_rest program frame Add v right = good_operation program frame Add v right
  good_rest program frame Sub v right = good_operation program frame Sub v right
  good_rest program frame Mul v right = good_operation program frame Mul v right
  good_rest program frame Div v right = good_operation program frame Div v right
  good_rest program frame FloorDiv v right = good_operation program frame FloorDiv v right
  good_rest program frame Mod v right = good_operation program frame Mod v right
  good_rest program frame Pow v right = good_operation program frame Pow v right

  good_chosen : (frame : Frame) (arms : Choices) (last : Expr) → Good depth (Some frame.activation) (chosen l frame arms last) (chosen m frame arms last)
  good_chosen frame no_choices last = good_value frame last
  good_chosen frame (more_choices cond v rest) last = good_then depth (Some frame.activation) _ _ _ _ (good_value frame cond)
      (λ c. good_if depth (Some frame.activation) (is_true c) _ _ _ _ (good_value frame v) (good_chosen frame rest last))

  good_items : (frame : Frame) (items : Items) (fields : List Field) → Good depth (Some frame.activation) (item_fields l frame items fields) (item_fields m frame items fields)
  good_items frame no_items fields = good_give depth (Some frame.activation) _
  good_items frame (more_items (plain.Field name e) rest) fields = good_then depth (Some frame.activation) _ _ _ _ (good_value frame e) (λ v. good_items frame rest (written name v fields))
  good_items frame (more_items (Keyed key e) rest) fields = good_then depth (Some frame.activation) _ _ _ _ (good_value frame key) (λ k. good_then depth (Some frame.activation) _ _ _ _ (good_value frame e) (λ v.
      good_then depth (Some frame.activation) _ _ _ _ (good_keyed depth (Some frame.activation) k v fields) (λ more. good_items frame rest more)))
  good_items frame (more_items (Plain e) rest) fields = good_then depth (Some frame.activation) _ _ _ _ (h.values frame e) (λ vs. good_items frame rest fields)

  good_required : (frame : Frame) (module_at : ℕ) → Good (pred depth) (Some frame.activation) (l.require module_at) (m.require module_at)
  good_required frame module_at = good_any (Some frame.activation) (h.require module_at)

  good_static : (frame : Frame) (at : ℕ) (callee : Expr) (args : Exprs) → Good depth (Some frame.activation) (static_require l frame at callee args) (static_require m frame at callee args)
  good_static frame at (the_expr id span kind) args = good_then depth (Some frame.activation) _ _ _ _ (good_reach depth frame id) (λ x. good_then depth (Some frame.activation) _ _ _ _ (good_all frame args) (λ vs.
      good_step_then depth (Some frame.activation) _ _ (good_required frame at)))

  good_call_expr : (frame : Frame) (at : Option ℕ) (callee : Expr) (args : Exprs) → Good depth (Some frame.activation) (call_expr l frame at callee args) (call_expr m frame at callee args)
  good_call_expr frame (Some at) callee args = good_static frame at callee args
  good_call_expr frame None callee args = good_then depth (Some frame.activation) _ _ _ _ (good_value frame callee) (λ f. good_then depth (Some frame.activation) _ _ _ _ (good_all frame args) (λ vs.
      good_step_then depth (Some frame.activation) _ _ (good_call depth l m h (Some frame.activation) f vs)))

  good_evaluate : (program : Program) (frame : Frame) (id : ℕ) (kind : ExprKind) → Good depth (Some frame.activation) (evaluate program l frame id kind) (evaluate program m frame id kind)
  good_evaluate program frame id NilExpr = good_give depth (Some frame.activation) _
  good_evaluate program frame id TrueExpr = good_give depth (Some frame.activation) _
  good_evaluate program frame id FalseExpr = good_give depth (Some frame.activation) _
  good_evaluate program frame id (NumberExpr text) = good_give depth (Some frame.activation) _
  good_evaluate program frame id (StrExpr bytes) = good_give depth (Some frame.activation) _
  good_evaluate program frame id Vararg = good_give depth (Some frame.activation) _
  good_evaluate program frame id (FunctionExpr code) = good_one frame _ _ (good_closure depth frame code)
  good_evaluate program frame id (NameExpr name) = good_one frame _ _ (good_named depth program frame name _)
  good_evaluate program frame id (Index base name) = good_one frame _ _ (good_then depth (Some frame.activation) _ _ _ _ (good_base frame base) (λ b.
      good_named_field depth (Some frame.activation) program name b))
  good_evaluate program frame id (At base key) = good_one frame _ _ (good_then depth (Some frame.activation) _ _ _ _ (good_base frame base) (λ b. good_then depth (Some frame.activation) _ _ _ _ (good_value frame key) (λ k.
      good_element depth (Some frame.activation) program k b)))
  good_evaluate program frame id (Call callee args) = good_call_expr frame (frame.reading.required id) callee args
  good_evaluate program frame id (Method base name name_span args) = good_then depth (Some frame.activation) _ _ _ _ (good_base frame base) (λ b. good_then depth (Some frame.activation) _ _ _ _ (good_all frame args) (λ vs.
      good_then depth (Some frame.activation) _ _ _ _ (good_named_field depth (Some frame.activation) program name b) (λ f.
      good_step_then depth (Some frame.activation) _ _ (good_call depth l m h (Some frame.activation) f (b.value ∷ vs)))))
  good_evaluate program frame id (Paren e) = good_one frame _ _ (good_value frame e)
  good_evaluate program frame id (Unary op e) = good_one frame _ _ (good_then depth (Some frame.activation) _ _ _ _ (good_value frame e) (λ v. good_unary depth (Some frame.activation) program op v))
  good_evaluate program frame id (Binary op left right) = good_one frame _ _ (good_then depth (Some frame.activation) _ _ _ _ (good_value frame left) (λ v. good_rest program frame op v right))
  good_evaluate program frame id (IfElse arms last) = good_one frame _ _ (good_chosen frame arms last)
  good_evaluate program frame id (TableExpr items) = good_one frame _ _ (good_then depth (Some frame.activation) _ _ _ _ (good_items frame items []) (λ fields.
      good_then depth (Some frame.activation) _ _ _ _ (good_table depth (Some frame.activation) fields) (λ address. good_give depth (Some frame.activation) _)))
  good_evaluate program frame id (Interp texts es) = good_one frame _ _ (good_then depth (Some frame.activation) _ _ _ _ (good_each frame es) (λ x. good_ask depth (Some frame.activation) _))
  good_evaluate program frame id (Assert e typ) = good_one frame _ _ (good_value frame e)

  good_or_builtin : (program : Program) (frame : Frame) (id : ℕ) (kind : ExprKind) (u : Option Use)
      → Good depth (Some frame.activation) (evaluate_or_builtin program l frame id kind u) (evaluate_or_builtin program m frame id kind u)
  good_or_builtin program frame id kind (Some (UseBuiltin path)) = good_give depth (Some frame.activation) _
  good_or_builtin program frame id kind (Some (UseLocal local)) = good_evaluate program frame id kind
  good_or_builtin program frame id kind (Some UseLibrary) = good_evaluate program frame id kind
  good_or_builtin program frame id kind (Some UseGlobal) = good_evaluate program frame id kind
  good_or_builtin program frame id kind None = good_evaluate program frame id kind

  pub values_next : (program : Program) (frame : Frame) (e : Expr) → Good (suc depth) (Some frame.activation) (values program l frame e) (values program m frame e)
  unfolding values
  values_next program frame (the_expr id span kind) = good_taken depth (Some frame.activation) _ _ _ _ (good_reach (suc depth) frame id) (reach_takes frame id)
      (λ x. good_or_builtin program frame id kind (frame.reading.use_of id))
