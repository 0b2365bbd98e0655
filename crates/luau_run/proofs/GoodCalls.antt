-- Calls are good parts over good layers.
use Rattle.std.proofs.Common.{ℕ, suc, pred, ◌+◌, List, [], ◌∷◌, Option, Some, None, refl, slice_get, codes, drop}
use Rattle.std.specs.Str.{bytes_eq}
use Rattle.luau_values.specs.Value.{Value, Nil, Truth, Num, Str, Tab, Lit, Builtin, Other}
use Rattle.luau_values.proofs.Public.{later_refl}
use Rattle.luau_tree.specs.Tree.{Block, no_stats, more_stats, Body, the_body, the_bind, Binds, no_binds, more_binds}
use Rattle.luau_run.specs.Signature.{Signature, declaration}
use Rattle.luau_run.specs.ReadModule.{ReadModule}
use Rattle.luau_run.specs.Program.{Program}
use Rattle.luau_run.specs.Machine.{Act, Write, Freeze, Make, Calls, Catches, Closure, Part}
use Rattle.luau_run.specs.Answers.{Aim, ForResults, Freedom, Free, Move, Acts, Ends}
use Rattle.luau_run.specs.Layer.{Frame, Ending, Falls, Breaks, Continues, Returns, Layer, first}
use Rattle.luau_run.specs.Calls.{act, acts_from, acts, given_by, type_name, frozen, free_builtin, meaning, declared_call, call_builtin, block, block_rest, bind_params, reach_params, bind_captured, run_in, kept_args, frame_of, enter, call_closure, call, enter_module, require_from, require}
use Rattle.luau_run.proofs.Good.{Good, good_then, good_taken, ask_takes, good_ask, good_change, good_any, good_give, good_look, good_if, good_log, good_spend, good_fail, good_write, good_catch}
use Rattle.luau_run.proofs.GoodActivation.{good_activate}
use Rattle.luau_run.proofs.GoodOperators.{good_table, good_freeze, good_bind, good_new_cell}
use Rattle.luau_run.proofs.GoodLayer.{GoodLayer, good_step_then, parts}

pub good_block_rest : (depth : ℕ) (runs : Option ℕ) (p q : Part Ending) (ending : Ending) → Good depth runs p q → Good depth runs (block_rest p ending) (block_rest q ending)
good_block_rest depth runs p q Falls h = h
good_block_rest depth runs p q Breaks h = good_give depth runs _
good_block_rest depth runs p q Continues h = good_give depth runs _
good_block_rest depth runs p q (Returns values) h = good_give depth runs _

good_given : (depth : ℕ) (runs : Option ℕ) (signature : Signature) (results : List Value) → Good depth runs (given_by signature results) (given_by signature results)
good_given depth runs signature results = search parts

good_type : (depth : ℕ) (runs : Option ℕ) (v : Value) → Good depth runs (type_name v) (type_name v)
good_type depth runs Nil = good_give depth runs _
good_type depth runs (Truth t) = good_give depth runs _
good_type depth runs (Num n) = good_give depth runs _
good_type depth runs (Str s) = good_give depth runs _
good_type depth runs (Tab a) = good_give depth runs _
good_type depth runs (Lit h f c) = good_give depth runs _
good_type depth runs (Builtin p) = good_give depth runs _
good_type depth runs (Other k) = good_ask depth runs _

good_frozen : (depth : ℕ) (runs : Option ℕ) (v : Value) → Good depth runs (frozen v) (frozen v)
good_frozen depth runs Nil = good_fail depth runs Value
good_frozen depth runs (Truth t) = good_fail depth runs Value
good_frozen depth runs (Num n) = good_fail depth runs Value
good_frozen depth runs (Str s) = good_fail depth runs Value
good_frozen depth runs (Tab a) = good_then depth runs _ _ _ _ (good_look depth runs) (λ store. good_then depth runs _ _ _ _
    (good_if depth runs _ _ _ _ _ (good_ask depth runs _) (good_freeze depth runs a)) (λ x. good_give depth runs _))
good_frozen depth runs (Lit h f c) = good_fail depth runs Value
good_frozen depth runs (Builtin p) = good_fail depth runs Value
good_frozen depth runs (Other k) = good_fail depth runs Value

pub good_captured : (depth activation : ℕ) (cells : List (ℕ × ℕ)) → Good depth (Some activation) (bind_captured activation cells) (bind_captured activation cells)
good_captured depth activation [] = good_give depth (Some activation) tt
good_captured depth activation (c ∷ cells) = good_then depth (Some activation) _ _ _ _ (good_bind depth (Some activation) activation c.0 c.1) (λ x. good_captured depth activation cells)

good_params : (depth : ℕ) (frame : Frame) (params : Binds) (args : List Value) → Good depth (Some frame.activation) (bind_params frame params args) (bind_params frame params args)
good_params depth frame no_binds args = good_give depth (Some frame.activation) tt
good_params depth frame (more_binds (the_bind name span typ) rest) args =
    good_then depth (Some frame.activation) _ _ _ _ (good_new_cell depth (Some frame.activation) _) (λ cell.
    good_then depth (Some frame.activation) _ _ _ _ (good_bind depth (Some frame.activation) frame.activation _ cell) (λ x.
    good_params depth frame rest (drop 1 args)))

good_reaches : (depth : ℕ) (frame : Frame) (function index : ℕ) (params : Binds) (args : List Value)
    → Good depth (Some frame.activation) (reach_params frame function index params args) (reach_params frame function index params args)
good_reaches depth frame function index no_binds args = good_give depth (Some frame.activation) tt
good_reaches depth frame function index (more_binds b rest) args =
    good_then depth (Some frame.activation) _ _ _ _ (good_look depth (Some frame.activation)) (λ store.
    good_then depth (Some frame.activation) _ _ _ _
    (good_if depth (Some frame.activation) _ _ _ _ _ (good_log depth frame.activation frame.module_at _) (good_give depth (Some frame.activation) tt)) (λ x.
    good_reaches depth frame function (index + 1) rest (drop 1 args)))

module _ (depth : ℕ) (l m : Layer) (h : GoodLayer depth l m) where
  pub good_call : (runs : Option ℕ) (callee : Value) (args : List Value) → Good (pred depth) runs (l.call callee args) (m.call callee args)
  good_call runs callee args = good_any runs (h.call callee args)

  pub good_acts : (runs : Option ℕ) (freedom : Freedom) (aim : Aim) → Good depth runs (l.acts freedom aim) (m.acts freedom aim)
  good_acts runs freedom aim = good_any runs (h.acts freedom aim)

  good_act : (a : Act) → Good depth None (act l a) (act m a)
  good_act (Write table name value) = good_write depth None table name value
  good_act (Freeze table) = good_freeze depth None table
  good_act Make = good_then depth None _ _ _ _ (good_table depth None []) (λ x. good_give depth None tt)
  good_act (Calls callee args) = good_then depth None _ _ _ _ (good_step_then depth None _ _ (h.call callee args)) (λ x. good_give depth None tt)
  good_act (Catches callee args) =
      good_then depth None _ _ _ _ (good_step_then depth None _ _ (good_catch (pred depth) None _ _ (h.call callee args))) (λ x. good_give depth None tt)

  good_move : (freedom : Freedom) (aim : Aim) (move : Move) → Good depth None (acts_from l freedom aim move) (acts_from m freedom aim move)
  good_move freedom aim (Acts a) = good_then depth None _ _ _ _ (good_act a) (λ x. h.acts freedom aim)
  good_move freedom aim (Ends values) = good_give depth None values

  pub acts_next : (program : Program) (freedom : Freedom) (aim : Aim) → Good (suc depth) None (acts program l freedom aim) (acts program m freedom aim)
  unfolding acts
  acts_next program freedom aim = good_then (suc depth) None _ _ _ _ (good_look (suc depth) None) (λ store.
      good_taken depth None _ _ _ _ (good_ask (suc depth) None _) (ask_takes _) (λ move. good_move freedom aim move))

  pub good_block : (frame : Frame) (code : Block) → Good depth (Some frame.activation) (block l frame code) (block m frame code)
  good_block frame no_stats = good_give depth (Some frame.activation) Falls
  good_block frame (more_stats s rest) = good_then depth (Some frame.activation) _ _ _ _ (h.stat frame s)
      (λ ending. good_block_rest depth (Some frame.activation) _ _ ending (good_block frame rest))

  good_free : (signature : Signature) → Good depth None (free_builtin l signature) (free_builtin m signature)
  good_free signature = good_then depth None _ _ _ _ (good_look depth None) (λ store. good_then depth None _ _ _ _ (h.acts _ ForResults) (λ results. good_given depth None signature _))

  good_meaning : (signature : Signature) (path : List ℕ) (args : List Value) → Good depth None (meaning l signature path args) (meaning m signature path args)
  good_meaning signature path args =
      good_if depth None (bytes_eq path (codes "type")) _ _ _ _
      (good_then depth None _ _ _ _ (good_type depth None (first args)) (λ v. good_given depth None signature (v ∷ [])))
      (good_if depth None (bytes_eq path (codes "table.freeze")) _ _ _ _
      (good_then depth None _ _ _ _ (good_frozen depth None (first args)) (λ v. good_given depth None signature (v ∷ [])))
      (good_free signature))

  good_declared : (signature : Option Signature) (path : List ℕ) (args : List Value) → Good depth None (declared_call l signature path args) (declared_call m signature path args)
  good_declared None path args = good_spend depth None (List Value)
  good_declared (Some signature) path args =
      good_then depth None _ _ _ _ (good_look depth None) (λ store. good_if depth None _ _ _ _ _ (good_fail depth None (List Value)) (good_meaning signature path args))

  good_builtin : (program : Program) (path : List ℕ) (args : List Value) → Good depth None (call_builtin program l path args) (call_builtin program m path args)
  unfolding call_builtin
  good_builtin program path args = good_declared (declaration program.builtins path) path args

  good_body : (frame : Frame) (cells : List (ℕ × ℕ)) (code : Body) (args : List Value) → Good depth (Some frame.activation) (run_in l frame cells code args) (run_in m frame cells code args)
  good_body frame cells (the_body id has_self generics params vararg result code span) args =
      good_then depth (Some frame.activation) _ _ _ _ (good_captured depth frame.activation cells) (λ x.
      good_then depth (Some frame.activation) _ _ _ _ (good_params depth frame params args) (λ y.
      good_then depth (Some frame.activation) _ _ _ _ (good_reaches depth frame id 0 params args) (λ z. good_block frame code)))

  good_enter : (reading : Option ReadModule) (cells : List (ℕ × ℕ)) (at : ℕ) (code : Body) (args : List Value) → Good depth None (enter l reading cells at code args) (enter m reading cells at code args)
  good_enter None cells at code args = good_spend depth None (List Value)
  good_enter (Some reading) cells at code args =
      good_then depth None _ _ _ _ (good_activate depth _ _ (λ n. good_body (frame_of at reading (kept_args code args) n) cells code args)) (λ ending. good_give depth None _)

  good_closure_call : (program : Program) (cells : List (ℕ × ℕ)) (c : Option Closure) (args : List Value) → Good depth None (call_closure program l cells c args) (call_closure program m cells c args)
  good_closure_call program cells None args = good_spend depth None (List Value)
  good_closure_call program cells (Some c) args = good_enter (slice_get program.modules c.module_at) cells c.module_at c.code args

  pub call_next : (program : Program) (callee : Value) (args : List Value) → Good depth None (call program l callee args) (call program m callee args)
  unfolding call
  call_next program Nil args = good_fail depth None (List Value)
  call_next program (Truth t) args = good_fail depth None (List Value)
  call_next program (Num n) args = good_fail depth None (List Value)
  call_next program (Str s) args = good_fail depth None (List Value)
  call_next program (Tab a) args = good_fail depth None (List Value)
  call_next program (Lit home function cells) args = good_then depth None _ _ _ _ (good_look depth None) (λ store. good_closure_call program cells _ args)
  call_next program (Builtin path) args = good_builtin program path args
  call_next program (Other k) args = good_then depth None _ _ _ _ (h.acts Free ForResults) (λ results. good_give depth None _)

  pub good_module : (at : ℕ) (reading : Option ReadModule) → Good depth None (enter_module l at reading) (enter_module m at reading)
  good_module at None = good_spend depth None Ending
  good_module at (Some reading) = good_activate depth _ _ (λ n. good_block (frame_of at reading [] n) reading.block)

  good_require_from : (program : Program) (at : ℕ) (v : Option Value) → Good depth None (require_from program l at v) (require_from program m at v)
  good_require_from program at (Some v) = good_give depth None _
  good_require_from program at None = good_then depth None _ _ _ _ (good_module at (slice_get program.modules at)) (λ ending.
      good_then depth None _ _ _ _ (good_change depth None _ (λ s. later_refl s.heap) (λ s. refl)) (λ x. good_give depth None _))

  pub require_next : (program : Program) (at : ℕ) → Good depth None (require program l at) (require program m at)
  unfolding require
  require_next program at = good_then depth None _ _ _ _ (good_look depth None) (λ store. good_require_from program at _)
