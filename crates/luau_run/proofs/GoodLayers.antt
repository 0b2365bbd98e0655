-- Each layer beside a deeper one, and runs beside runs with more steps and answers.
use Rattle.std.proofs.Common.{◌≡◌, ℕ, zero, suc, ◌+◌, ◌<◌, List, [], ◌++◌, length, Some, None, sym, ◌∙◌, ap, subst, arith, slice_get, length-append, suc-add, append-nil}
use Rattle.luau_values.specs.Later.{Later}
use Rattle.luau_values.specs.Start.{start_heap}
use Rattle.luau_values.specs.Value.{Value}
use Rattle.luau_tree.specs.Tree.{Expr, Stat}
use Rattle.luau_run.specs.Program.{Program, paths}
use Rattle.luau_run.specs.Machine.{Event, Answer, State, Ran, Gave, Failed, Spent, Part}
use Rattle.luau_run.specs.Layer.{Frame, Ending, Layer}
use Rattle.luau_run.specs.Calls.{enter_module}
use Rattle.luau_run.specs.Run.{next, lowest, layer_of, start, run, end_of, trace}
use Rattle.luau_run.specs.After.{LeavesLast, After, Begins, GoesOn}
use Rattle.luau_run.proofs.Good.{Good, good_spend, good_lowest}
use Rattle.luau_run.proofs.GoodLayer.{GoodLayer}
use Rattle.luau_run.proofs.GoodCalls.{acts_next, call_next, require_next, good_module}
use Rattle.luau_run.proofs.GoodExpressions.{values_next}
use Rattle.luau_run.proofs.GoodLoops.{turns_next}
use Rattle.luau_run.proofs.GoodStatements.{stat_next}

-- the layers above good layers are good
good_next : (program : Program) (depth : ℕ) (l m : Layer) → GoodLayer depth l m → GoodLayer (suc depth) (next program l) (next program m)
good_next program depth l m h = record {
  values = values_next depth l m h program;
  stat = stat_next depth l m h program;
  turns = turns_next depth l m h program;
  call = call_next depth l m h program;
  require = require_next depth l m h program;
  acts = acts_next depth l m h program;
}

-- the lowest layer is good beside any that is good beside itself
good_above_lowest : (depth : ℕ) (m : Layer) → GoodLayer depth m m → GoodLayer zero lowest m
good_above_lowest depth m h = record {
  values = λ frame e. good_lowest (Some frame.activation) _ (h.values frame e).after;
  stat = λ frame s. good_lowest (Some frame.activation) _ (h.stat frame s).after;
  turns = λ frame loop. good_lowest (Some frame.activation) _ (h.turns frame loop).after;
  call = λ callee args. good_lowest None _ (h.call callee args).after;
  require = λ module_at. good_lowest None _ (h.require module_at).after;
  acts = λ freedom aim. good_lowest None _ (h.acts freedom aim).after;
}

lowest_itself : GoodLayer zero lowest lowest
lowest_itself = record {
  values = λ frame e. good_spend zero (Some frame.activation) _;
  stat = λ frame s. good_spend zero (Some frame.activation) _;
  turns = λ frame loop. good_spend zero (Some frame.activation) _;
  call = λ callee args. good_spend zero None _;
  require = λ module_at. good_spend zero None _;
  acts = λ freedom aim. good_spend zero None _;
}

-- a layer beside itself
itself : (program : Program) (depth : ℕ) → GoodLayer depth (layer_of program depth) (layer_of program depth)
itself program zero = lowest_itself
itself program (suc depth) = good_next program depth (layer_of program depth) (layer_of program depth) (itself program depth)

-- a layer beside a deeper one
pub deeper : (program : Program) (depth more : ℕ) → GoodLayer depth (layer_of program depth) (layer_of program (depth + more))
deeper program zero more = good_above_lowest (zero + more) (layer_of program (zero + more)) (itself program (zero + more))
deeper program (suc depth) more = subst (λ (n : ℕ). GoodLayer (suc depth) (layer_of program (suc depth)) (layer_of program n)) (sym (suc-add depth more))
    (good_next program depth (layer_of program depth) (layer_of program (depth + more)) (deeper program depth more))

-- a module's run at a depth
at_depth : Program → ℕ → ℕ → Part Ending
at_depth program entry depth = enter_module (layer_of program depth) entry (slice_get program.modules entry)

good_run : (program : Program) (entry depth more : ℕ) → Good depth None (at_depth program entry depth) (at_depth program entry (depth + more))
unfolding at_depth
good_run program entry depth more =
    good_module depth (layer_of program depth) (layer_of program (depth + more)) (deeper program depth more) entry (slice_get program.modules entry)

-- ---- runs

depth_of : (steps n : ℕ) (tape more : List Answer) → suc ((steps + n) + length (tape ++ more)) ≡ suc (steps + length tape) + (n + length more)
depth_of steps n tape more = omega (arith, length-append tape more)

pub run_after : (program : Program) (entry steps : ℕ) (tape : List Answer) → After None (start program steps tape) (end_of (run program entry steps tape))
run_after program entry steps tape =
    (good_module (suc (steps + length tape)) (layer_of program (suc (steps + length tape))) (layer_of program (suc (steps + length tape)))
    (itself program (suc (steps + length tape))) entry (slice_get program.modules entry)).after (start program steps tape) tt

pub run_goes_on : (program : Program) (entry steps : ℕ) (tape : List Answer) (n : ℕ) (more : List Answer)
    → GoesOn n more (run program entry steps tape) (run program entry (steps + n) (tape ++ more))
unfolding at_depth
run_goes_on program entry steps tape n more =
    subst (λ (d : ℕ). GoesOn n more (run program entry steps tape) (at_depth program entry d (start program (steps + n) (tape ++ more)))) (sym (depth_of steps n tape more))
    ((good_run program entry (suc (steps + length tape)) (n + length more)).goes_on n more (start program steps tape) tt)

pub deep_enough : (program : Program) (entry steps : ℕ) (tape : List Answer) (more : ℕ)
    → run program entry steps tape ≡ enter_module (layer_of program (suc (steps + length tape) + more)) entry (slice_get program.modules entry) (start program steps tape)
unfolding at_depth
deep_enough program entry steps tape more =
    (good_run program entry (suc (steps + length tape)) more).agrees (start program steps tape) tt (omega arith)

pub leaves_last : (program : Program) (entry steps : ℕ) (tape : List Answer) → LeavesLast (trace program entry steps tape)
leaves_last program entry steps tape =
    let h : After None (start program steps tape) (end_of (run program entry steps tape)) = run_after program entry steps tape in
    subst (λ (l : List Event). LeavesLast l) (sym h.logged) h.last

pub heap_later : (program : Program) (entry steps : ℕ) (tape : List Answer) → Later (start_heap (paths program)) (end_of (run program entry steps tape)).store.heap
heap_later program entry steps tape = (run_after program entry steps tape).heap

pub trace_goes_on : (program : Program) (entry steps : ℕ) (tape : List Answer) (n : ℕ) (more : List Answer)
    → Begins (trace program entry steps tape) (trace program entry (steps + n) (tape ++ more))
trace_goes_on program entry steps tape n more =
    same_or_longer (run program entry steps tape) (run program entry (steps + n) (tape ++ more)) (run_goes_on program entry steps tape n more)
  where
    same_or_longer : (r r' : Ran Ending) → GoesOn n more r r' → Begins (end_of r).trace (end_of r').trace
    same_or_longer (Gave x t) r' e = ([], ap (λ (w : Ran Ending). (end_of w).trace) e ∙ sym (append-nil t.trace))
    same_or_longer (Failed t) r' e = ([], ap (λ (w : Ran Ending). (end_of w).trace) e ∙ sym (append-nil t.trace))
    same_or_longer (Spent t) r' e = e

-- ---- parts of runs

module _ (program : Program) (depth : ℕ) where
  pub values_after : (frame : Frame) (e : Expr) (s : State) → frame.activation < s.store.begun → After (Some frame.activation) s (end_of ((layer_of program depth).values frame e s))
  values_after frame e s b = ((itself program depth).values frame e).after s b

  pub stat_after : (frame : Frame) (x : Stat) (s : State) → frame.activation < s.store.begun → After (Some frame.activation) s (end_of ((layer_of program depth).stat frame x s))
  stat_after frame x s b = ((itself program depth).stat frame x).after s b

  pub call_after : (callee : Value) (args : List Value) (s : State) → After None s (end_of ((layer_of program depth).call callee args s))
  call_after callee args s = ((itself program depth).call callee args).after s tt
