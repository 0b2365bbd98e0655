-- Statements are good parts over good layers.
use Rattle.std.proofs.Common.{ℕ, suc, not, List, [], ◌∷◌, Option, Some, None, drop}
use Rattle.std.specs.List.{list_any}
use Rattle.luau_values.specs.Value.{Value, Nil, Truth, Num, Str, Tab, Lit, Builtin, Other}
use Rattle.luau_tree.specs.Tree.{Expr, the_expr, Exprs, no_exprs, more_exprs, MaybeExpr, no_expr, an_expr, NilExpr, TrueExpr, FalseExpr, NumberExpr, StrExpr, Vararg, FunctionExpr, NameExpr, Index, At, Call, Method, Paren, Unary, Binary, IfElse, TableExpr, Interp, Block, Stat, the_stat, StatKind, Assign, Compound, CallStat, Do, While, Repeat, If, NumFor, GenFor, FunctionStat, LocalFunction, Local, TypeAlias, TypeFunction, Return, Break, Continue, Arms, no_arms, more_arms, MaybeBlock, no_block, a_block, Body, Bind, the_bind, Binds}
use Rattle.luau_tree.specs.Tree as plain
use Rattle.luau_tree.specs.declared.names.BinOp.{BinOp}
use Rattle.luau_run.specs.Program.{Program}
use Rattle.luau_run.specs.Layer.{Frame, Ending, WhileLoop, RepeatLoop, NumLoop, TableLoop, OtherLoop, Layer, first}
use Rattle.luau_run.specs.Operators.{is_true}
use Rattle.luau_run.specs.Statements.{Target, LocalTarget, GlobalTarget, FieldTarget, ElementTarget, target, targets, set_other, set_element, write_to, write_all, read_from, compound, branches, is_wrong, is_sure_bound, begin_for, bounds_of, iterate, define, define_local, number_for, execute, stat}
use Rattle.luau_run.proofs.Good.{Good, good_then, good_taken, good_step, step_takes, good_ask, good_give, good_look, good_if, good_log, good_spend, good_fail}
use Rattle.luau_run.proofs.GoodOperators.{good_new_cell, good_set_cell, good_bind, good_binary, good_any_value, good_named_field, good_element, good_set_field}
use Rattle.luau_run.proofs.GoodLayer.{GoodLayer}
use Rattle.luau_run.proofs.GoodCalls.{good_block}
use Rattle.luau_run.proofs.GoodExpressions.{good_value, good_base, good_all, good_local_cell, good_local_value, good_closure}
use Rattle.luau_run.proofs.GoodLoops.{good_declare}

good_set_other : (depth : ℕ) (runs : Option ℕ) (base : Value) → Good depth runs (set_other base) (set_other base)
good_set_other depth runs Nil = good_fail depth runs (Unit {0})
good_set_other depth runs (Truth t) = good_fail depth runs (Unit {0})
good_set_other depth runs (Num n) = good_fail depth runs (Unit {0})
good_set_other depth runs (Str s) = good_fail depth runs (Unit {0})
good_set_other depth runs (Tab a) = good_then depth runs _ _ _ _ (good_look depth runs) (λ store. good_if depth runs _ _ _ _ _ (good_fail depth runs (Unit {0})) (good_ask depth runs _))
good_set_other depth runs (Lit h2 f2 c2) = good_fail depth runs (Unit {0})
good_set_other depth runs (Builtin p) = good_fail depth runs (Unit {0})
good_set_other depth runs (Other k) = good_ask depth runs _

good_set_element : (depth : ℕ) (runs : Option ℕ) (key written base : Value) → Good depth runs (set_element key written base) (set_element key written base)
good_set_element depth runs Nil written base = good_set_other depth runs base
good_set_element depth runs (Truth t) written base = good_set_other depth runs base
good_set_element depth runs (Num n) written base = good_set_other depth runs base
good_set_element depth runs (Str s) written base = good_set_field depth runs s written base
good_set_element depth runs (Tab a) written base = good_set_other depth runs base
good_set_element depth runs (Lit h2 f2 c2) written base = good_set_other depth runs base
good_set_element depth runs (Builtin p) written base = good_set_other depth runs base
good_set_element depth runs (Other k) written base = good_set_other depth runs base

good_write_to : (depth : ℕ) (frame : Frame) (t : Target) (written : Value) → Good depth (Some frame.activation) (write_to frame t written) (write_to frame t written)
good_write_to depth frame (LocalTarget local) written = good_then depth (Some frame.activation) _ _ _ _ (good_local_cell depth frame local) (λ cell. good_set_cell depth (Some frame.activation) cell written)
good_write_to depth frame GlobalTarget written = good_give depth (Some frame.activation) _
good_write_to depth frame (FieldTarget base name) written = good_set_field depth (Some frame.activation) name written base.value
good_write_to depth frame (ElementTarget base key) written = good_set_element depth (Some frame.activation) key written base.value

good_write_all : (depth : ℕ) (frame : Frame) (ts : List Target) (values : List Value) → Good depth (Some frame.activation) (write_all frame ts values) (write_all frame ts values)
good_write_all depth frame [] values = good_give depth (Some frame.activation) _
good_write_all depth frame (t ∷ ts) values = good_then depth (Some frame.activation) _ _ _ _ (good_write_to depth frame t (first values)) (λ x. good_write_all depth frame ts (drop 1 values))

good_read : (depth : ℕ) (program : Program) (frame : Frame) (t : Target) → Good depth (Some frame.activation) (read_from program frame t) (read_from program frame t)
good_read depth program frame (LocalTarget local) = good_local_value depth frame local
good_read depth program frame GlobalTarget = good_any_value depth (Some frame.activation) program
good_read depth program frame (FieldTarget base name) = good_named_field depth (Some frame.activation) program name base
good_read depth program frame (ElementTarget base key) = good_element depth (Some frame.activation) program key base

good_begin : (depth : ℕ) (runs : Option ℕ) (bounds : List Value) → Good depth runs (begin_for bounds) (begin_for bounds)
good_begin depth runs bounds = good_if depth runs (list_any is_wrong bounds) _ _ _ _ (good_fail depth runs (Unit {0}))
    (good_if depth runs (list_any (λ v. not (is_sure_bound v)) bounds) _ _ _ _ (good_ask depth runs _) (good_give depth runs tt))

good_define_local : (depth : ℕ) (frame : Frame) (name : Bind) (code : Body) → Good depth (Some frame.activation) (define_local frame name code) (define_local frame name code)
good_define_local depth frame (the_bind name span typ) code = good_then depth (Some frame.activation) _ _ _ _ (good_new_cell depth (Some frame.activation) Nil) (λ cell.
    good_then depth (Some frame.activation) _ _ _ _ (good_bind depth (Some frame.activation) frame.activation _ cell) (λ x. good_then depth (Some frame.activation) _ _ _ _ (good_closure depth frame code) (λ closure.
    good_then depth (Some frame.activation) _ _ _ _ (good_set_cell depth (Some frame.activation) cell closure) (λ y. good_give depth (Some frame.activation) _))))

module _ (depth : ℕ) (l m : Layer) (h : GoodLayer depth l m) where
  good_target : (frame : Frame) (e : Expr) → Good depth (Some frame.activation) (target l frame e) (target m frame e)
  good_target frame (the_expr id span (NameExpr name)) = good_give depth (Some frame.activation) _
  good_target frame (the_expr id span (Index base name)) = good_then depth (Some frame.activation) _ _ _ _ (good_base depth l m h frame base) (λ b. good_give depth (Some frame.activation) _)
  good_target frame (the_expr id span (At base key)) = good_then depth (Some frame.activation) _ _ _ _ (good_base depth l m h frame base) (λ b. good_then depth (Some frame.activation) _ _ _ _ (good_value depth l m h frame key) (λ k. good_give depth (Some frame.activation) _))
  good_target frame (the_expr id span NilExpr) = good_spend depth (Some frame.activation) Target
  good_target frame (the_expr id span TrueExpr) = good_spend depth (Some frame.activation) Target
  good_target frame (the_expr id span FalseExpr) = good_spend depth (Some frame.activation) Target
  good_target frame (the_expr id span (NumberExpr a)) = good_spend depth (Some frame.activation) Target
  good_target frame (the_expr id span (StrExpr a)) = good_spend depth (Some frame.activation) Target
  good_target frame (the_expr id span Vararg) = good_spend depth (Some frame.activation) Target
  good_target frame (the_expr id span (FunctionExpr a)) = good_spend depth (Some frame.activation) Target
  good_target frame (the_expr id span (Call a b)) = good_spend depth (Some frame.activation) Target
  good_target frame (the_expr id span (Method a b c d)) = good_spend depth (Some frame.activation) Target
  good_target frame (the_expr id span (Paren a)) = good_spend depth (Some frame.activation) Target
  good_target frame (the_expr id span (Unary a b)) = good_spend depth (Some frame.activation) Target
  good_target frame (the_expr id span (Binary a b c)) = good_spend depth (Some frame.activation) Target
  good_target frame (the_expr id span (IfElse a b)) = good_spend depth (Some frame.activation) Target
  good_target frame (the_expr id span (TableExpr a)) = good_spend depth (Some frame.activation) Target
  good_target frame (the_expr id span (Interp a b)) = good_spend depth (Some frame.activation) Target
  good_target frame (the_expr id span (plain.Assert a b)) = good_spend depth (Some frame.activation) Target

  good_targets : (frame : Frame) (es : Exprs) → Good depth (Some frame.activation) (targets l frame es) (targets m frame es)
  good_targets frame no_exprs = good_give depth (Some frame.activation) _
  good_targets frame (more_exprs e rest) = good_then depth (Some frame.activation) _ _ _ _ (good_target frame e) (λ t. good_then depth (Some frame.activation) _ _ _ _ (good_targets frame rest) (λ ts. good_give depth (Some frame.activation) _))

  good_compound : (program : Program) (frame : Frame) (at : Expr) (op : BinOp) (e : Expr) → Good depth (Some frame.activation) (compound program l frame at op e) (compound program m frame at op e)
  good_compound program frame at op e = good_then depth (Some frame.activation) _ _ _ _ (good_log depth frame.activation frame.module_at _) (λ x. good_then depth (Some frame.activation) _ _ _ _ (good_target frame at) (λ t.
      good_then depth (Some frame.activation) _ _ _ _ (good_read depth program frame t) (λ old. good_then depth (Some frame.activation) _ _ _ _ (good_value depth l m h frame e) (λ v.
      good_then depth (Some frame.activation) _ _ _ _ (good_binary depth (Some frame.activation) program op old v) (λ new. good_then depth (Some frame.activation) _ _ _ _ (good_write_to depth frame t new) (λ y. good_give depth (Some frame.activation) _))))))

  good_branches : (frame : Frame) (arms : Arms) (last : MaybeBlock) → Good depth (Some frame.activation) (branches l frame arms last) (branches m frame arms last)
  good_branches frame no_arms no_block = good_give depth (Some frame.activation) _
  good_branches frame no_arms (a_block last) = good_block depth l m h frame last
  good_branches frame (more_arms cond body rest) last = good_then depth (Some frame.activation) _ _ _ _ (good_value depth l m h frame cond)
      (λ c. good_if depth (Some frame.activation) (is_true c) _ _ _ _ (good_block depth l m h frame body) (good_branches frame rest last))

  good_bounds : (frame : Frame) (e : MaybeExpr) → Good depth (Some frame.activation) (bounds_of l frame e) (bounds_of m frame e)
  good_bounds frame no_expr = good_give depth (Some frame.activation) _
  good_bounds frame (an_expr e) = good_then depth (Some frame.activation) _ _ _ _ (good_value depth l m h frame e) (λ v. good_give depth (Some frame.activation) _)

  good_iterate : (frame : Frame) (binds : Binds) (body : Block) (rest : List Value) (v : Value) → Good depth (Some frame.activation) (iterate l frame binds body rest v) (iterate m frame binds body rest v)
  good_iterate frame binds body rest Nil = good_fail depth (Some frame.activation) Ending
  good_iterate frame binds body rest (Truth t) = good_fail depth (Some frame.activation) Ending
  good_iterate frame binds body rest (Num n) = good_fail depth (Some frame.activation) Ending
  good_iterate frame binds body rest (Str s) = good_fail depth (Some frame.activation) Ending
  good_iterate frame binds body rest (Tab a) = h.turns frame (TableLoop binds body)
  good_iterate frame binds body rest (Lit h2 f2 c2) = h.turns frame _
  good_iterate frame binds body rest (Builtin p) = h.turns frame _
  good_iterate frame binds body rest (Other k) = h.turns frame (OtherLoop binds body)

  good_define : (program : Program) (frame : Frame) (path : Expr) (method : Option (List ℕ)) (code : Body) → Good depth (Some frame.activation) (define program l frame path method code) (define program m frame path method code)
  good_define program frame path None code = good_then depth (Some frame.activation) _ _ _ _ (good_target frame path) (λ t. good_then depth (Some frame.activation) _ _ _ _ (good_closure depth frame code) (λ closure. good_then depth (Some frame.activation) _ _ _ _ (good_write_to depth frame t closure) (λ x. good_give depth (Some frame.activation) _)))
  good_define program frame path (Some method) code = good_then depth (Some frame.activation) _ _ _ _ (good_value depth l m h frame path) (λ base. good_then depth (Some frame.activation) _ _ _ _ (good_closure depth frame code) (λ closure.
      good_then depth (Some frame.activation) _ _ _ _ (good_set_field depth (Some frame.activation) method closure base) (λ x. good_give depth (Some frame.activation) _)))

  good_number_for : (frame : Frame) (bind : Bind) (from to : Expr) (by : MaybeExpr) (body : Block)
      → Good depth (Some frame.activation) (number_for l frame bind from to by body) (number_for m frame bind from to by body)
  good_number_for frame (the_bind name span typ) from to by body = good_then depth (Some frame.activation) _ _ _ _ (good_value depth l m h frame from) (λ a. good_then depth (Some frame.activation) _ _ _ _ (good_value depth l m h frame to) (λ b.
      good_then depth (Some frame.activation) _ _ _ _ (good_bounds frame by) (λ c. good_then depth (Some frame.activation) _ _ _ _ (good_begin depth (Some frame.activation) (a ∷ b ∷ c)) (λ x. h.turns frame (NumLoop (frame.reading.local_at span.start) body)))))

  good_execute : (program : Program) (frame : Frame) (kind : StatKind) → Good depth (Some frame.activation) (execute program l frame kind) (execute program m frame kind)
  good_execute program frame (Assign to values) = good_then depth (Some frame.activation) _ _ _ _ (good_targets frame to) (λ ts. good_then depth (Some frame.activation) _ _ _ _ (good_all depth l m h frame values) (λ vs. good_then depth (Some frame.activation) _ _ _ _ (good_write_all depth frame ts vs) (λ x. good_give depth (Some frame.activation) _)))
  good_execute program frame (Compound at op e) = good_compound program frame at op e
  good_execute program frame (CallStat e) = good_then depth (Some frame.activation) _ _ _ _ (h.values frame e) (λ vs. good_give depth (Some frame.activation) _)
  good_execute program frame (Do body) = good_block depth l m h frame body
  good_execute program frame (While cond body) = h.turns frame (WhileLoop cond body)
  good_execute program frame (Repeat body cond) = h.turns frame (RepeatLoop body cond)
  good_execute program frame (If arms last) = good_branches frame arms last
  good_execute program frame (NumFor bind from to by body) = good_number_for frame bind from to by body
  good_execute program frame (GenFor binds values body) = good_then depth (Some frame.activation) _ _ _ _ (good_all depth l m h frame values) (λ vs. good_iterate frame binds body (drop 1 vs) (first vs))
  good_execute program frame (FunctionStat path method code) = good_define program frame path method code
  good_execute program frame (LocalFunction name code) = good_define_local depth frame name code
  good_execute program frame (Local binds values) = good_then depth (Some frame.activation) _ _ _ _ (good_all depth l m h frame values) (λ vs. good_then depth (Some frame.activation) _ _ _ _ (good_declare depth frame binds vs) (λ x. good_give depth (Some frame.activation) _))
  good_execute program frame (TypeAlias exported name generics typ) = good_give depth (Some frame.activation) _
  good_execute program frame (TypeFunction exported name code) = good_give depth (Some frame.activation) _
  good_execute program frame (Return values) = good_then depth (Some frame.activation) _ _ _ _ (good_all depth l m h frame values) (λ vs. good_give depth (Some frame.activation) _)
  good_execute program frame Break = good_give depth (Some frame.activation) _
  good_execute program frame Continue = good_give depth (Some frame.activation) _

  pub stat_next : (program : Program) (frame : Frame) (s : Stat) → Good (suc depth) (Some frame.activation) (stat program l frame s) (stat program m frame s)
  unfolding stat
  stat_next program frame (the_stat span kind) = good_taken depth (Some frame.activation) _ _ _ _ (good_step (suc depth) (Some frame.activation)) step_takes (λ x. good_execute program frame kind)
