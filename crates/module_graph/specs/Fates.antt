-- What becomes of each module.
use Rattle.std.specs.Prelude.{◌≡◌, ℕ, ◌<◌, ◌≤◌, Bool, true, false, List, [], ◌∷◌, ◌++◌, Option, None, Some, map, length, All, Contains, ◌⊎◌, slice_get, IfSome}
use Rattle.luau_tree.specs.declared.position.Span.{Span}
use Rattle.module_graph.specs.declared.node.Call.{Call}
use Rattle.module_graph.specs.declared.node.Node.{Node}
use Rattle.module_graph.specs.declared.needs.GraphRefusal.{GraphRefusal}
use Rattle.module_graph.specs.declared.needs.GraphRefusal.TheVariants.{MissingModule, RequireCycle}
use Rattle.module_graph.specs.declared.needs.Fate.{Fate}
use Rattle.module_graph.specs.declared.needs.Fate.TheVariants.{Checked, Refused, Already, Skipped}
use Rattle.module_graph.specs.Requires.{refused_at, calls_at, Requires, Reaches, HasChain}

-- a require of the module means no module of the folder
abbrev pub Misses : List Node → ℕ → Type 0
Misses nodes file = (call : Call) × Contains (calls_at nodes file) call × (call.to ≡ None)

-- the module is on a cycle: it reaches itself
abbrev pub IsCyclic : List Node → ℕ → Type 0
IsCyclic nodes file = Reaches nodes file file

-- the module is refused: already, since it misses a module, or since it is on a cycle
pub data IsRefused (nodes : List Node) : ℕ → Type 0 where
  already : {file : ℕ} → refused_at nodes file ≡ true → IsRefused nodes file
  misses : {file : ℕ} → Misses nodes file → IsRefused nodes file
  cyclic : {file : ℕ} → IsCyclic nodes file → IsRefused nodes file

-- the module is skipped: it isn't refused, and requires a module that is refused or skipped
pub data IsSkipped (nodes : List Node) : ℕ → Type 0 where
  by_refused : {file next : ℕ} → ¬ IsRefused nodes file → Requires nodes file next → IsRefused nodes next → IsSkipped nodes file
  by_skipped : {file next : ℕ} → ¬ IsRefused nodes file → Requires nodes file next → IsSkipped nodes next → IsSkipped nodes file

-- the module is refused or skipped, so it isn't checked
abbrev pub IsStopped : List Node → ℕ → Type 0
IsStopped nodes file = IsRefused nodes file ⊎ IsSkipped nodes file

-- the level of a module is the number of requires in its longest chain of requires
pub record IsLevel (nodes : List Node) (file level : ℕ) : Type 0 where
  pub chain : HasChain nodes file level
  pub longest : (more : ℕ) → HasChain nodes file more → more ≤ level

-- a place comes no later than another: it begins at an earlier byte, or at the same and ends no later
abbrev pub IsNoLater : Span → Span → Type 0
IsNoLater a b = (a.start < b.start) ⊎ ((a.start ≡ b.start) × (a.end ≤ b.end))

-- the place is that of the least of the requires whose meaning is of a kind
pub record IsLeast (kind : Option ℕ → Type 0) (calls : List Call) (at : Span) : Type 0 where
  pub one : (call : Call) × Contains calls call × kind call.to × (call.at ≡ at)
  pub least : (call : Call) → Contains calls call → kind call.to → IsNoLater at call.at

-- the require is the first whose meaning is of a kind
abbrev pub IsFirst : (Option ℕ → Type 0) → List Call → Call → Type 0
IsFirst kind calls call = (before : List Call) × (after : List Call) × (calls ≡ before ++ call ∷ after) × kind call.to × All (λ other. ¬ kind other.to) before

-- the require means a module that reaches this one
abbrev pub LeadsBack : List Node → ℕ → Option ℕ → Type 0
LeadsBack nodes file to = (next : ℕ) × (to ≡ Some next) × Reaches nodes next file

-- the require means a module that isn't checked
abbrev pub IsStopping : List Node → Option ℕ → Type 0
IsStopping nodes to = (next : ℕ) × (to ≡ Some next) × IsStopped nodes next

-- the graph refuses the module for this reason at this place: what it misses comes before cycles
abbrev pub RefusesAt : List Node → ℕ → GraphRefusal → Span → Type 0
RefusesAt nodes file MissingModule at = IsLeast (λ to. to ≡ None) (calls_at nodes file) at
RefusesAt nodes file RequireCycle at = (¬ Misses nodes file) × IsCyclic nodes file × IsLeast (LeadsBack nodes file) (calls_at nodes file) at

-- what becomes of a module
abbrev pub IsFate : List Node → ℕ → Fate → Type 0
IsFate nodes file Already = refused_at nodes file ≡ true
IsFate nodes file (Refused why at) = (refused_at nodes file ≡ false) × RefusesAt nodes file why at
IsFate nodes file (Skipped at needs) = IsSkipped nodes file × IsFirst (IsStopping nodes) (calls_at nodes file) (record { at = at; to = Some needs })
IsFate nodes file (Checked level needs) = (¬ IsRefused nodes file) × (¬ IsSkipped nodes file) × IsLevel nodes file level × (map (λ call. call.to) (calls_at nodes file) ≡ map Some needs)

-- what becomes of each module, at its position
pub record AreFates (nodes : List Node) (fates : List Fate) : Type 0 where
  pub each : (file : ℕ) (fate : Fate) → slice_get fates file ≡ Some fate → IsFate nodes file fate
  pub all : length fates ≡ length nodes
