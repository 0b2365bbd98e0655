-- Folders whose modules are read off their own trees.
use Rattle.std.specs.Prelude.{◌≡◌, ◌<◌, ℕ, true, List, ◌∷◌, length, map, Option, None}
use Rattle.std.specs.List.{AllByRecursion}
use Rattle.luau_scope.specs.Refusals.{refusal_of}
use Rattle.annotations.specs.Annotated.{annotated}
use Rattle.luau_run.specs.ReadModule.{ReadModule}
use Rattle.luau_run.specs.Program.{Program, paths}
use Rattle.luau_run.specs.ReadFolder.{are_distinct, Requires, Leads}
use Rattle.tree_readings.specs.Paths.{are_paths}
use Rattle.tree_readings.specs.Apart.{StandsApart}
use Rattle.module_reading.specs.Readings.{reading_of}

-- a module is read off its own tree, which stands apart and of which the profile refuses nothing: its reading is that of the
-- tree, over the paths of the declared builtins, with its home, what is written of its parameters, and the modules to which its
-- static requires lead
pub record IsReadOffTree (program : Program) (reading : ReadModule) : Type 0 where
  pub leads : List ℕ → Option ℕ
  pub same : reading ≡ reading_of (paths program) reading.home reading.block (annotated reading.block) leads
  pub apart : StandsApart reading.block
  pub accepted : refusal_of (paths program) reading.block ≡ None

-- a folder is read off its trees: each module is, over paths of builtins; homes are distinct and not 0; and requires mean
-- modules of the folder and form no cycle
pub record IsFolderOfTrees (program : Program) : Type 0 where
  pub paths : are_paths (paths program) ≡ true
  pub homes : are_distinct (0 ∷ map (λ reading. reading.home) program.modules) ≡ true
  pub listed : (at other : ℕ) → Requires program at other → other < length program.modules
  pub no_cycle : (more at : ℕ) → Leads program more at at → ⊥
  pub readings : AllByRecursion (IsReadOffTree program) program.modules
