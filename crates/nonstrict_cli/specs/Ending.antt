-- How a run ends in which neither the folder nor the output fails.
use Rattle.std.specs.Prelude.{◌≡◌, ◌⊎◌, ℕ, List, Option}
use Rattle.outside.specs.Written.{Appends}
use Rattle.nonstrict_cli.specs.declared.status.Status.{Status}
use Rattle.nonstrict_cli.specs.declared.status.Status.TheVariants.{NoMemory}
use Rattle.nonstrict_cli.specs.Output.{Output}

-- the run has the status of the output and appended its bytes, or memory ran out and the sink is as
-- it was
abbrev pub EndsWell : {A : Type 0} → (A → Option (List ℕ)) → A → A → Status → Output → Type 0
EndsWell written before after status output =
    ((status ≡ NoMemory) × (after ≡ before))
    ⊎ ((status ≡ output.status) × Appends (written before) (written after) output.bytes)
