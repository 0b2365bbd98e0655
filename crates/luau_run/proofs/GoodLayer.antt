-- A layer beside a deeper one, and the forms that take a step first.
use Rattle.std.proofs.Common.{ℕ, zero, suc, pred, Option, Some, None, List}
use Rattle.luau_values.specs.Value.{Value}
use Rattle.luau_tree.specs.Tree.{Expr, Stat}
use Rattle.luau_run.specs.Machine.{Part, ◌>>=◌, step}
use Rattle.luau_run.specs.Answers.{Aim, Freedom}
use Rattle.luau_run.specs.Layer.{Frame, Loop, Layer}
use Rattle.luau_run.proofs.Good.{Good, good_then, good_taken, good_step, step_takes, shallow, good_any, good_give, good_fail, good_spend, good_look, good_ask, good_log, good_if, good_catch, good_write}
use Rattle.luau_run.proofs.GoodOperators.{good_anything, good_table, good_freeze, good_new_cell, good_set_cell, good_bind}

-- each part of a layer is good beside that of a deeper one; a call has taken its step before
pub record GoodLayer (depth : ℕ) (l m : Layer) : Type 0 where
  pub values : (frame : Frame) (e : Expr) → Good depth (Some frame.activation) (l.values frame e) (m.values frame e)
  pub stat : (frame : Frame) (s : Stat) → Good depth (Some frame.activation) (l.stat frame s) (m.stat frame s)
  pub turns : (frame : Frame) (loop : Loop) → Good depth (Some frame.activation) (l.turns frame loop) (m.turns frame loop)
  pub call : (callee : Value) (args : List Value) → Good (pred depth) None (l.call callee args) (m.call callee args)
  pub require : (module_at : ℕ) → Good (pred depth) None (l.require module_at) (m.require module_at)
  pub acts : (freedom : Freedom) (aim : Aim) → Good depth None (l.acts freedom aim) (m.acts freedom aim)

-- a step and then a part of the layer below
pub good_step_then : (depth : ℕ) (runs : Option ℕ) {A : Type 0} (p q : Part A) → Good (pred depth) runs p q → Good depth runs (◌>>=◌ step (λ _. p)) (◌>>=◌ step (λ _. q))
good_step_then zero runs p q h = good_then zero runs step step (λ _. p) (λ _. q) (good_step zero runs) (λ x. h)
good_step_then (suc depth) runs p q h = good_taken depth runs step step (λ _. p) (λ _. q) (good_step (suc depth) runs) step_takes (λ x. h)

pub ruleset parts = (good_then, good_give, good_fail, good_spend, good_look, good_ask, good_log, good_if, good_catch, good_write, good_anything, good_table, good_freeze, good_new_cell, good_set_cell, good_bind)
