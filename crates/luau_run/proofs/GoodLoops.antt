-- The turns of loops are good parts over good layers.
use Rattle.std.proofs.Common.{ℕ, zero, suc, pred, ◌≤◌, arith, List, [], ◌∷◌, Option, Some, None, drop}
use Rattle.luau_values.specs.Value.{Value, is_nil}
use Rattle.luau_tree.specs.Tree.{Expr, Block, Binds, no_binds, more_binds, the_bind}
use Rattle.luau_run.specs.Program.{Program}
use Rattle.luau_run.specs.Machine.{Part}
use Rattle.luau_run.specs.Answers.{ForTurn, Free}
use Rattle.luau_run.specs.Layer.{Frame, Ending, Falls, Breaks, Continues, Returns, Loop, WhileLoop, RepeatLoop, NumLoop, FunctionLoop, TableLoop, OtherLoop, Layer, first}
use Rattle.luau_run.specs.Operators.{is_true}
use Rattle.luau_run.specs.Loops.{declare, next_turn, until, turn_with, number_turn, function_turn, turn, turns}
use Rattle.luau_run.proofs.Good.{Good, good_then, good_taken, good_step, step_takes, good_ask, good_give, good_look, good_if, shallow}
use Rattle.luau_run.proofs.GoodOperators.{good_new_cell, good_bind}
use Rattle.luau_run.proofs.GoodLayer.{GoodLayer, good_step_then}
use Rattle.luau_run.proofs.GoodCalls.{good_call, good_acts, good_block}
use Rattle.luau_run.proofs.GoodExpressions.{good_value}

pub good_declare : (depth : ℕ) (frame : Frame) (binds : Binds) (values : List Value) → Good depth (Some frame.activation) (declare frame binds values) (declare frame binds values)
good_declare depth frame no_binds values = good_give depth (Some frame.activation) _
good_declare depth frame (more_binds (the_bind name span typ) rest) values = good_then depth (Some frame.activation) _ _ _ _ (good_new_cell depth (Some frame.activation) _) (λ cell.
    good_then depth (Some frame.activation) _ _ _ _ (good_bind depth (Some frame.activation) frame.activation _ cell) (λ x. good_declare depth frame rest (drop 1 values)))

good_next : (depth : ℕ) (runs : Option ℕ) (p q : Part Ending) (ending : Ending) → Good depth runs p q → Good depth runs (next_turn p ending) (next_turn q ending)
good_next depth runs p q Falls h = h
good_next depth runs p q Breaks h = good_give depth runs _
good_next depth runs p q Continues h = h
good_next depth runs p q (Returns values) h = good_give depth runs _

one_less : (n : ℕ) → pred n ≤ n
one_less zero = omega arith
one_less (suc n) = omega arith

module _ (depth : ℕ) (l m : Layer) (h : GoodLayer depth l m) where
  good_until : (frame : Frame) (cond : Expr) (p q : Part Ending) (ending : Ending) → Good depth (Some frame.activation) p q
      → Good depth (Some frame.activation) (until l frame cond p ending) (until m frame cond q ending)
  good_until frame cond p q Falls k = good_then depth (Some frame.activation) _ _ _ _ (good_value depth l m h frame cond) (λ c. good_if depth (Some frame.activation) (is_true c) _ _ _ _ (good_give depth (Some frame.activation) _) k)
  good_until frame cond p q Breaks k = good_give depth (Some frame.activation) _
  good_until frame cond p q Continues k = good_then depth (Some frame.activation) _ _ _ _ (good_value depth l m h frame cond) (λ c. good_if depth (Some frame.activation) (is_true c) _ _ _ _ (good_give depth (Some frame.activation) _) k)
  good_until frame cond p q (Returns values) k = good_give depth (Some frame.activation) _

  good_with : (frame : Frame) (binds : Binds) (body : Block) (p q : Part Ending) (values : Option (List Value)) → Good depth (Some frame.activation) p q
      → Good depth (Some frame.activation) (turn_with l frame binds body p values) (turn_with m frame binds body q values)
  good_with frame binds body p q None k = good_give depth (Some frame.activation) _
  good_with frame binds body p q (Some values) k = good_then depth (Some frame.activation) _ _ _ _ (good_declare depth frame binds values) (λ x. good_then depth (Some frame.activation) _ _ _ _ (good_block depth l m h frame body)
      (λ ending. good_next depth (Some frame.activation) p q ending k))

  good_number : (frame : Frame) (local : ℕ) (body : Block) (p q : Part Ending) (v : Option Value) → Good depth (Some frame.activation) p q
      → Good depth (Some frame.activation) (number_turn l frame local body p v) (number_turn m frame local body q v)
  good_number frame local body p q None k = good_give depth (Some frame.activation) _
  good_number frame local body p q (Some v) k = good_then depth (Some frame.activation) _ _ _ _ (good_new_cell depth (Some frame.activation) v) (λ cell. good_then depth (Some frame.activation) _ _ _ _ (good_bind depth (Some frame.activation) frame.activation local cell) (λ x.
      good_then depth (Some frame.activation) _ _ _ _ (good_block depth l m h frame body) (λ ending. good_next depth (Some frame.activation) p q ending k)))

  good_function : (frame : Frame) (iterator second : Value) (binds : Binds) (body : Block) (values : List Value)
      → Good depth (Some frame.activation) (function_turn l frame iterator second binds body values) (function_turn m frame iterator second binds body values)
  good_function frame iterator second binds body values = good_if depth (Some frame.activation) (is_nil (first values)) _ _ _ _ (good_give depth (Some frame.activation) _)
      (good_with frame binds body _ _ (Some values) (h.turns frame (FunctionLoop iterator second (first values) binds body)))

  good_turn : (program : Program) (frame : Frame) (loop : Loop) → Good depth (Some frame.activation) (turn program l frame loop) (turn program m frame loop)
  good_turn program frame (WhileLoop cond body) = good_then depth (Some frame.activation) _ _ _ _ (good_value depth l m h frame cond) (λ c. good_if depth (Some frame.activation) (is_true c) _ _ _ _
      (good_then depth (Some frame.activation) _ _ _ _ (good_block depth l m h frame body) (λ ending. good_next depth (Some frame.activation) _ _ ending (h.turns frame (WhileLoop cond body)))) (good_give depth (Some frame.activation) _))
  good_turn program frame (RepeatLoop body cond) = good_then depth (Some frame.activation) _ _ _ _ (good_block depth l m h frame body) (λ ending. good_until frame cond _ _ ending (h.turns frame (RepeatLoop body cond)))
  good_turn program frame (NumLoop local body) = good_then depth (Some frame.activation) _ _ _ _ (good_ask depth (Some frame.activation) _) (λ v. good_number frame local body _ _ v (h.turns frame (NumLoop local body)))
  good_turn program frame (FunctionLoop iterator second control binds body) =
      good_step_then depth (Some frame.activation) _ _ (good_then (pred depth) (Some frame.activation) _ _ _ _ (good_call depth l m h (Some frame.activation) iterator (second ∷ control ∷ []))
      (λ values. shallow (one_less depth) (good_function frame iterator second binds body values)))
  good_turn program frame (TableLoop binds body) = good_then depth (Some frame.activation) _ _ _ _ (good_look depth (Some frame.activation)) (λ store. good_then depth (Some frame.activation) _ _ _ _ (good_ask depth (Some frame.activation) _) (λ values.
      good_with frame binds body _ _ values (h.turns frame (TableLoop binds body))))
  good_turn program frame (OtherLoop binds body) = good_then depth (Some frame.activation) _ _ _ _ (good_acts depth l m h (Some frame.activation) Free ForTurn) (λ values.
      good_with frame binds body _ _ values (h.turns frame (OtherLoop binds body)))

  pub turns_next : (program : Program) (frame : Frame) (loop : Loop) → Good (suc depth) (Some frame.activation) (turns program l frame loop) (turns program m frame loop)
  unfolding turns
  turns_next program frame loop = good_taken depth (Some frame.activation) _ _ _ _ (good_step (suc depth) (Some frame.activation)) step_takes (λ x. good_turn program frame loop)
