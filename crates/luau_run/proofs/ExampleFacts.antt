-- A report at a wrong argument is certain; one at a right argument isn't.
use Rattle.std.proofs.Common.{◌≡◌, ℕ, zero, suc, ◌+◌, List, [], ◌∷◌, length, refl, subst, arith, codes, slice_get}
use Rattle.luau_values.specs.Value.{Num}
use Rattle.luau_tree.specs.Tree.{StrExpr, NumberExpr}
use Rattle.luau_run.specs.Program.{Program}
use Rattle.luau_run.specs.Machine.{Event, Answer, Done, ◌>>=◌, give, fail, spend, step, log, look, change, ask, catch, write_field, activate}
use Rattle.luau_run.specs.Operators.{anything}
use Rattle.luau_run.specs.Calls.{acts, call_builtin, call, require, enter_module}
use Rattle.luau_run.specs.Expressions.{values}
use Rattle.luau_run.specs.Loops.{turns}
use Rattle.luau_run.specs.Statements.{stat}
use Rattle.luau_run.specs.Run.{layer_of, start, end_of}
use Rattle.luau_run.specs.Certain.{StaysAt, Certain}
use Rattle.luau_run.specs.runs.CallOfAbs.{calling_abs, at_literal}

abbrev wrong : Program
wrong = calling_abs (StrExpr (codes "hi"))

-- what is logged at a depth
abbrev logged : (depth steps : ℕ) → List Answer → List Event
logged depth steps tape = (end_of (enter_module (layer_of wrong depth) 0 (slice_get wrong.modules 0) (start wrong steps tape))).trace

no_step : (d : ℕ) (tape : List Answer) → StaysAt at_literal (logged (suc d) zero tape)
unfolding ◌>>=◌ give fail spend step log look change ask catch write_field activate anything acts call_builtin call require values turns stat
no_step d tape = tt

one_step : (d : ℕ) (tape : List Answer) → StaysAt at_literal (logged (suc (suc d)) (suc zero) tape)
unfolding ◌>>=◌ give fail spend step log look change ask catch write_field activate anything acts call_builtin call require values turns stat
one_step d tape = tt

two_steps : (d : ℕ) (tape : List Answer) → StaysAt at_literal (logged (suc (suc (suc d))) (suc (suc zero)) tape)
unfolding ◌>>=◌ give fail spend step log look change ask catch write_field activate anything acts call_builtin call require values turns stat
two_steps d tape = (λ c. tt, tt)

three_steps : (d : ℕ) (tape : List Answer) → StaysAt at_literal (logged (suc (suc (suc (suc d)))) (suc (suc (suc zero))) tape)
unfolding ◌>>=◌ give fail spend step log look change ask catch write_field activate anything acts call_builtin call require values turns stat
three_steps d tape = (λ c. tt, (λ c. tt, tt))

four_steps : (d : ℕ) (tape : List Answer) → StaysAt at_literal (logged (suc (suc (suc (suc (suc d))))) (suc (suc (suc (suc zero)))) tape)
unfolding ◌>>=◌ give fail spend step log look change ask catch write_field activate anything acts call_builtin call require values turns stat
four_steps d tape = (λ c. tt, (λ c. tt, (λ c. tt, tt)))

more_steps : (d n : ℕ) (tape : List Answer) → StaysAt at_literal (logged (suc (suc (suc (suc (suc (suc d)))))) (suc (suc (suc (suc (suc n))))) tape)
unfolding ◌>>=◌ give fail spend step log look change ask catch write_field activate anything acts call_builtin call require values turns stat
more_steps d n tape = (λ c. tt, (λ c. tt, (λ c. tt, tt)))

at_depth : (steps depth : ℕ) (tape : List Answer) → depth ≡ suc (steps + length tape) → StaysAt at_literal (logged depth steps tape) → StaysAt at_literal (logged (suc (steps + length tape)) steps tape)
at_depth steps depth tape e h = subst (λ (d : ℕ). StaysAt at_literal (logged d steps tape)) e h

pub wrong_is_certain : Certain wrong at_literal
unfolding spend
wrong_is_certain (suc entry) steps tape = tt
wrong_is_certain zero zero tape = at_depth zero (suc (length tape)) tape (omega arith) (no_step (length tape) tape)
wrong_is_certain zero (suc zero) tape = at_depth (suc zero) (suc (suc (length tape))) tape (omega arith) (one_step (length tape) tape)
wrong_is_certain zero (suc (suc zero)) tape = at_depth (suc (suc zero)) (suc (suc (suc (length tape)))) tape (omega arith) (two_steps (length tape) tape)
wrong_is_certain zero (suc (suc (suc zero))) tape = at_depth (suc (suc (suc zero))) (suc (suc (suc (suc (length tape))))) tape (omega arith) (three_steps (length tape) tape)
wrong_is_certain zero (suc (suc (suc (suc zero)))) tape = at_depth (suc (suc (suc (suc zero)))) (suc (suc (suc (suc (suc (length tape)))))) tape (omega arith) (four_steps (length tape) tape)
wrong_is_certain zero (suc (suc (suc (suc (suc n))))) tape =
    at_depth (suc (suc (suc (suc (suc n))))) (suc (suc (suc (suc (suc (suc (n + length tape))))))) tape (omega arith) (more_steps (n + length tape) n tape)

pub right_is_not_certain : Certain (calling_abs (NumberExpr (codes "1"))) at_literal → ⊥
unfolding ◌>>=◌ give fail spend step log look change ask catch write_field activate anything acts call_builtin call require values turns stat
right_is_not_certain h = ((h 0 9 (Done (Num (codes "1") ∷ []) ∷ [])).1.1.0 (0, omega arith, refl)).0 refl
