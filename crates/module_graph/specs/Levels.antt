-- The levels of a plan.
use Rattle.std.specs.Prelude.{◌≡◌, ◌≢◌, ℕ, suc, ◌+◌, ◌<◌, ◌≤◌, ◌==◌, Bool, true, false, List, [], ◌∷◌, Some, length, All, ◌⊎◌, slice_get, if◌then◌else◌}
use Rattle.module_graph.specs.declared.needs.ModuleNeeds.{ModuleNeeds}
use Rattle.module_graph.specs.declared.needs.Plan.{Plan}
use Rattle.module_graph.specs.declared.needs.Fate.{Fate}
use Rattle.module_graph.specs.declared.needs.Fate.TheVariants.{Checked, Refused, Already, Skipped}
use Rattle.module_graph.specs.Requires.{nodes_of}
use Rattle.module_graph.specs.Fates.{AreFates}

-- whether a module is checked at a level
abbrev pub is_checked_at : ℕ → Fate → Bool
is_checked_at level (Checked own needs) = own == level
is_checked_at level Already = false
is_checked_at level (Refused why at) = false
is_checked_at level (Skipped at needs) = false

-- the modules of a level, in their order, of those from a position on
abbrev pub level_from : ℕ → ℕ → List Fate → List ℕ
level_from level file [] = []
level_from level file (fate ∷ fates) = if is_checked_at level fate then file ∷ level_from level (file + 1) fates else level_from level (file + 1) fates

-- the levels list the checked modules: each the modules of that level, and none is empty or left out
pub record AreLevels (fates : List Fate) (levels : List (List ℕ)) : Type 0 where
  pub each : (level : ℕ) (modules : List ℕ) → slice_get levels level ≡ Some modules → modules ≡ level_from level 0 fates
  pub inhabited : All (λ modules. modules ≢ []) levels
  pub all : (level : ℕ) → length levels ≤ level → level_from level 0 fates ≡ []

-- so many levels are enough for all checked modules, and no fewer are
pub record IsCount (fates : List Fate) (count : ℕ) : Type 0 where
  pub enough : (file level : ℕ) (needs : List ℕ) → slice_get fates file ≡ Some (Checked level needs) → level < count
  pub reached : (count ≡ 0) ⊎ ((file : ℕ) × (level : ℕ) × (needs : List ℕ) × (slice_get fates file ≡ Some (Checked level needs)) × (count ≡ level + 1))

-- below a module that is checked at a level above the lowest there is one at the next lower level
abbrev pub AreDense : List Fate → Type 0
AreDense fates = (level : ℕ) → (level_from (suc level) 0 fates ≢ []) → level_from level 0 fates ≢ []

-- the plan of a folder
pub record IsPlan (files : List ModuleNeeds) (plan : Plan) : Type 0 where
  pub fates : AreFates (nodes_of files) plan.fates
  pub levels : AreLevels plan.fates plan.levels
