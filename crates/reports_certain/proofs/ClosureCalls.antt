-- Calls of closures, on the layer below.
use Rattle.std.proofs.Common.{◌≡◌, ℕ, false, List, Option, Some, None, refl, ap, subst, slice_get}
use Rattle.std.specs.List.{find}
use Rattle.luau_values.specs.Value.{Value, Lit}
use Rattle.luau_tree.specs.Tree.{Body, the_body}
use Rattle.luau_run.specs.ReadModule.{ReadModule}
use Rattle.luau_run.specs.Program.{Program}
use Rattle.luau_run.specs.Machine.{Leave, Closure, State, Ran, Part, go_on, ◌>>=◌, look, log, change, give, activate}
use Rattle.luau_run.specs.Answers.{is_closure}
use Rattle.luau_run.specs.Layer.{Frame, Ending, Layer}
use Rattle.luau_run.specs.Calls.{returned, bind_captured, bind_params, reach_params, frame_of, run_in, kept_args, enter, call_closure}
use Rattle.run_frame.specs.Analysis.{Analysis}
use Rattle.run_frame.specs.Fit.{Fit}
use Rattle.run_frame.proofs.Kept.{nobody}
use Rattle.run_frame.proofs.Parts.{Ends}
use Rattle.run_frame.proofs.Layers.{Answers, Forward, Backward}
use Rattle.run_frame.proofs.Activations.{one_begun}
use Rattle.body_runs.proofs.BodyCalls.{closure_answers}
use Rattle.reports_certain.proofs.Closed.{closed, block_closed}
use Rattle.reports_certain.proofs.BuiltinCalls.{ClosuresAnswer}

-- a body does the same on a layer whose loops are closed
run_closed : (an : Analysis) (l : Layer) (frame : Frame) (cells : List (ℕ × ℕ)) (code : Body) (args : List Value) → run_in (closed an l) frame cells code args ≡ run_in l frame cells code args
run_closed an l frame cells (the_body id has_self generics params vararg result code span) args =
    ap (λ (p : Part Ending). ◌>>=◌ (bind_captured frame.activation cells) (λ x. ◌>>=◌ (bind_params frame params args) (λ y. ◌>>=◌ (reach_params frame id 0 params args) (λ z. p)))) (block_closed an l frame code)

enter_closed : (an : Analysis) (l : Layer) (o : Option ReadModule) (cells : List (ℕ × ℕ)) (at : ℕ) (code : Body) (args : List Value) (s : State)
    → enter (closed an l) o cells at code args s ≡ enter l o cells at code args s
unfolding activate ◌>>=◌ look change give
enter_closed an l None cells at code args s = refl
enter_closed an l (Some reading) cells at code args s =
    ap (λ (p : Part Ending). go_on (go_on (p (one_begun s)) (λ ending. ◌>>=◌ (log (Leave s.store.begun)) (λ x. give ending))) (λ ending. give (returned ending)))
    (run_closed an l (frame_of at reading (kept_args code args) s.store.begun) cells code args)

call_closed : (program : Program) (an : Analysis) (l : Layer) (cells : List (ℕ × ℕ)) (o : Option Closure) (args : List Value) (s : State)
    → call_closure program (closed an l) cells o args s ≡ call_closure program l cells o args s
call_closed program an l cells None args s = refl
call_closed program an l cells (Some c) args s = enter_closed an l (slice_get program.modules c.module_at) cells c.module_at c.code args s

pub closures_answer : (an : Analysis) → Fit an → (l : Layer) → Forward an (closed an l) → Backward an (closed an l) → ClosuresAnswer an l
closures_answer an fit l fwd bwd w s home function cells args f there =
    subst (λ (r : Ran (List Value)). Ends an (nobody false) w s (Answers an (Lit home function cells) args s) r)
    (call_closed an.program an l cells (find (λ (c : Closure). is_closure home function cells c.value) s.store.closures) args s)
    (closure_answers an fit (closed an l) fwd bwd w s home function cells args f there)
