-- The analysis of a folder, made of the trees of its modules.
use Rattle.std.specs.Prelude.{◌≡◌, ℕ, true, List, ◌∷◌, map, Option, None, slice_get}
use Rattle.std.specs.Option.{option_map_or}
use Rattle.std.specs.List.{AllByRecursion}
use Rattle.luau_tree.specs.Tree.{Block, no_stats}
use Rattle.luau_scope.specs.Refusals.{refusal_of}
use Rattle.luau_run.specs.ReadFolder.{are_distinct}
use Rattle.type_normal.specs.Kinds.{unknown}
use Rattle.type_decl.specs.Signatures.{Signature}
use Rattle.type_decl.specs.Runs.{program_over}
use Rattle.report_rules.specs.Rules.{Rules}
use Rattle.report_rules.specs.Program.{summary_of, linked, RequireEarlier}
use Rattle.report_rules.specs.Reports.{places_of_program}
use Rattle.run_frame.specs.Analysis.{Analysis}
use Rattle.tree_readings.specs.Paths.{are_paths}
use Rattle.tree_readings.specs.Apart.{StandsApart}
use Rattle.reading_fits.specs.OfFolder.{paths_of, rules_over}

-- a module of a folder: its home, its tree, and the position of the module to which each way of a static require leads
pub record TreeModule : Type 0 where
  pub home : ℕ
  pub block : Block
  pub leads : List ℕ → Option ℕ

-- the rules of a module, where nothing is known of what its static requires give
abbrev pub rules_alone : (table : List (List ℕ × Signature)) → TreeModule → Rules
rules_alone table m = rules_over table m.home m.block m.leads (λ id. unknown)

-- the rules of the modules of a folder, one after the other: each knows what the ones before it give
abbrev pub rules_in : (table : List (List ℕ × Signature)) → List TreeModule → List Rules
rules_in table modules = linked (map (rules_alone table) modules)

-- the rules at a position; past the last those of an empty module
abbrev pub rules_at : (table : List (List ℕ × Signature)) → List Rules → ℕ → Rules
rules_at table rules m =
    option_map_or (λ found. found) (slice_get rules m)
    (rules_alone table (record { home = 0; block = no_stats; leads = λ way. None }))

-- the analysis of a folder over a table of builtins: what is reported are the places of its modules' reports
abbrev pub analysis_of : (table : List (List ℕ × Signature)) → List TreeModule → Analysis
analysis_of table modules = record {
  program = program_over table (map (λ rules. rules.reading) (rules_in table modules));
  rules = rules_at table (rules_in table modules);
  summary = λ m. summary_of (slice_get (rules_in table modules) m);
  reports = places_of_program (rules_in table modules);
}

-- a tree stands apart, and the profile refuses nothing of it
pub record IsAccepted (table : List (List ℕ × Signature)) (m : TreeModule) : Type 0 where
  pub apart : StandsApart m.block
  pub accepted : refusal_of (paths_of table) m.block ≡ None

-- modules make a folder: homes are distinct and not 0, each module requires earlier ones alone, and each tree is accepted; and
-- what is declared are paths
pub record IsFolder (table : List (List ℕ × Signature)) (modules : List TreeModule) : Type 0 where
  pub paths : are_paths (paths_of table) ≡ true
  pub homes : are_distinct (0 ∷ map (λ m. m.home) modules) ≡ true
  pub order : RequireEarlier 0 (map (rules_alone table) modules)
  pub trees : AllByRecursion (IsAccepted table) modules
