-- Certainty: no activation that reaches a reported place is left but by a run-time error.
use Rattle.std.specs.Prelude.{◌≢◌, ℕ, List, [], ◌∷◌, ⊤}
use Rattle.std.specs.List.{Contains}
use Rattle.luau_tree.specs.declared.names.Place.{Place}
use Rattle.luau_run.specs.Program.{Program}
use Rattle.luau_run.specs.Machine.{Event, Reach, Leave, Answer}
use Rattle.luau_run.specs.Run.{trace}

-- the body of an activation doesn't end
abbrev pub IsNotLeft : (activation : ℕ) → List Event → Type 0
IsNotLeft activation [] = ⊤
IsNotLeft activation (Reach a module_at place ∷ later) = IsNotLeft activation later
IsNotLeft activation (Leave a ∷ later) = (a ≢ activation) × IsNotLeft activation later

-- an activation that reaches a reported place, which is a place of a module, isn't left afterwards
abbrev pub StaysAt : (reports : List (ℕ × Place)) → List Event → Type 0
StaysAt reports [] = ⊤
StaysAt reports (Reach activation module_at place ∷ later) =
    (Contains reports (module_at, place) → IsNotLeft activation later) × StaysAt reports later
StaysAt reports (Leave activation ∷ later) = StaysAt reports later

-- the reports are certain of a program: whichever of its modules is run, with whatever steps and
-- answers
abbrev pub Certain : Program → (reports : List (ℕ × Place)) → Type 0
Certain program reports = (entry steps : ℕ) (tape : List Answer) → StaysAt reports (trace program entry steps tape)
