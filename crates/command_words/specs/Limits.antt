-- How great the numbers are that a command says.
use Rattle.std.specs.Prelude.{◌≤◌, ℕ}
use Rattle.command_words.specs.declared.options.Options.{Options}
use Rattle.command_words.specs.declared.options.Source.{Source}
use Rattle.command_words.specs.declared.options.Source.TheVariants.{Folder, Sample}

-- a number is from 1 to a limit
abbrev pub IsUpTo : ℕ → ℕ → Type 0
IsUpTo most number = (1 ≤ number) × (number ≤ most)

-- a sample has from 1 to 10,000 modules
abbrev pub IsSmall : Source → Type 0
IsSmall (Folder folder) = Unit {0}
IsSmall (Sample number) = IsUpTo 10000 number

-- there are from 1 to 64 workers, and a sample is small
pub record IsWithin (options : Options) : Type 0 where
  pub workers : IsUpTo 64 options.workers
  pub sample : IsSmall options.source
