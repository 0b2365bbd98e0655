-- Whether modules are refused, skipped or checked, and at which levels, as it is found out one after the other.
use Rattle.std.specs.Prelude.{◌≡◌, ℕ, ◌≤◌, List, Some, None, Option, slice_get, Contains}
use Rattle.std.specs.Option.{option_and_then}
use Rattle.luau_tree.specs.declared.position.Span.{Span}
use Rattle.module_graph.specs.declared.node.Call.{Call}
use Rattle.module_graph.specs.declared.node.Node.{Node}
use Rattle.module_graph.specs.declared.standing.Standing.{Standing}
use Rattle.module_graph.specs.declared.standing.Standing.TheVariants.{Refused, Skipped, Level}
use Rattle.module_graph.specs.Fates.{IsRefused, IsSkipped, IsLevel, IsLeast}

-- the require means no module, or one of the group with this number
abbrev pub Refuses : List ℕ → ℕ → Option ℕ → Type 0
Refuses numbers own None = Unit {0}
Refuses numbers own (Some to) = slice_get numbers to ≡ Some own

-- how a module stands; its level is at most the number of its group
abbrev pub IsStanding : List Node → ℕ → ℕ → Standing → Type 0
IsStanding nodes file number Refused = IsRefused nodes file
IsStanding nodes file number Skipped = IsSkipped nodes file
IsStanding nodes file number (Level level) = (¬ IsRefused nodes file) × (¬ IsSkipped nodes file) × IsLevel nodes file level × (level ≤ number)

-- the number of the group of the module that a require means, if it means one
abbrev pub group_of : List ℕ → Option ℕ → Option ℕ
group_of numbers to = option_and_then (slice_get numbers) to

-- the place of the least require of a kind, or none where no require is of that kind
abbrev pub IsLeastOf : (Option ℕ → Type 0) → List Call → Option Span → Type 0
IsLeastOf kind calls None = (call : Call) → Contains calls call → kind call.to → ⊥
IsLeastOf kind calls (Some at) = IsLeast kind calls at

-- the module that a require means has no level
abbrev pub Stops : List Standing → Option ℕ → Type 0
Stops standings to = (next : ℕ) × (standing : Standing) × (to ≡ Some next) × (slice_get standings next ≡ Some standing) × ((level : ℕ) → standing ≡ Level level → ⊥)

-- every require that means a module means one with a level
abbrev pub AreLevelled : List Standing → List Call → Type 0
AreLevelled standings calls = (to : ℕ) (call : Call) → Contains calls call → call.to ≡ Some to → (level : ℕ) × (slice_get standings to ≡ Some (Level level))

-- how each module stands
abbrev pub AreStandings : List Node → List ℕ → List Standing → Type 0
AreStandings nodes numbers standings = (file number : ℕ) (standing : Standing) → slice_get numbers file ≡ Some number → slice_get standings file ≡ Some standing → IsStanding nodes file number standing
