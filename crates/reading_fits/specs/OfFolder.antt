-- Analyses of folders whose modules are read off their own trees.
use Rattle.std.specs.Prelude.{◌≡◌, ◌↔◌, ℕ, List, map, Option, Some, Contains, slice_get}
use Rattle.luau_tree.specs.declared.names.Place.{Place}
use Rattle.luau_tree.specs.Tree.{Block}
use Rattle.luau_run.specs.ReadModule.{ReadModule}
use Rattle.type_arena.specs.Term.{Term}
use Rattle.type_decl.specs.Signatures.{Signature}
use Rattle.type_decl.specs.Runs.{builtins_of}
use Rattle.report_rules.specs.Rules.{Rules}
use Rattle.report_rules.specs.After.{summary}
use Rattle.run_frame.specs.Analysis.{Analysis}
use Rattle.run_frame.specs.Fit.{IsFound}
use Rattle.module_reading.specs.ReadRules.{rules_of}
use Rattle.tree_readings.specs.FromTrees.{IsFolderOfTrees}

-- the paths that a table of signatures declares
abbrev pub paths_of : List (List ℕ × Signature) → List (List ℕ)
paths_of table = map (λ entry. entry.0) table

-- the rules of a module over the paths of a table
abbrev pub rules_over : (table : List (List ℕ × Signature)) → (home : ℕ) → Block
    → (leads : List ℕ → Option ℕ) → (import : ℕ → Term) → Rules
rules_over table home block leads import = rules_of (paths_of table) home block leads table import

-- what each static require of a module gives is what the module that it means gives
abbrev pub HasSummaries : Analysis → Rules → Type 0
HasSummaries an rules = (id other : ℕ) → rules.reading.required id ≡ Some other → rules.import id ≡ an.summary other

-- the rules of a module are those of its own tree, its reading is theirs, and they know what the modules give that it requires
pub record HasOwnRules (table : List (List ℕ × Signature)) (an : Analysis) (module_at : ℕ) (reading : ReadModule) : Type 0 where
  pub leads : List ℕ → Option ℕ
  pub import : ℕ → Term
  pub rules : an.rules module_at ≡ rules_over table reading.home reading.block leads import
  pub same : reading ≡ (an.rules module_at).reading
  pub imports : HasSummaries an (an.rules module_at)
  pub gives : an.summary module_at ≡ summary (an.rules module_at)

-- an analysis is that of a folder over a table of builtins: its modules are read off their trees, each has its own rules, and
-- what is reported is what these find
pub record IsOfFolder (table : List (List ℕ × Signature)) (an : Analysis) : Type 0 where
  pub builtins : an.program.builtins ≡ builtins_of table
  pub folder : IsFolderOfTrees an.program
  pub modules : (m : ℕ) (reading : ReadModule)
      → slice_get an.program.modules m ≡ Some reading → HasOwnRules table an m reading
  pub found : (m : ℕ) (p : Place) → Contains an.reports (m, p)
      ↔ ((reading : ReadModule) × (slice_get an.program.modules m ≡ Some reading) × IsFound an m p)
