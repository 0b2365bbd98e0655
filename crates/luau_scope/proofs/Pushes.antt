-- What a task that is pushed amounts to.
use Rattle.std.proofs.Common.{◌≡◌, List, [], ◌∷◌, ◌++◌, Result, Ok, Err, ap, ◌∙◌}
use Rattle.std.specs.Prelude.{OnOk}
use Rattle.luau_scope.specs.declared.task.Task.{Task}
use Rattle.luau_scope.specs.declared.walker.Walker.{Walker}
use Rattle.luau_scope.specs.Steps.{act, run}
use Rattle.luau_scope.proofs.Walk.{run_last}

-- a task that is to be done before those that are there
pub before : (old new : List Task) (t : Task) (s : Walker) → new ≡ old ++ t ∷ [] → run new s ≡ run old (act t s)
before old new t s e = ap (λ (tasks : List Task). run tasks s) e ∙ run_last old t s

-- the last that is pushed
pub pushed : {E : Type 0} (r : Result (Unit {0}) E) (old new : List Task) (t : Task) (s x : Walker) (first : List Task) → OnOk r (new ≡ old ++ t ∷ []) → run old (act t s) ≡ run first x → OnOk r (run new s ≡ run first x)
pushed (Ok u) old new t s x first e h = before old new t s e ∙ h
pushed (Err u) old new t s x first e h = tt
