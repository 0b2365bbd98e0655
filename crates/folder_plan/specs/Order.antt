-- The order in which the modules of a folder are checked, and the modules in it.
use Rattle.std.specs.Prelude.{ℕ, suc, ◌==◌, List, [], ◌∷◌, ◌++◌, Option, Some, None, option_map, slice_get, if◌then◌else◌}
use Rattle.std.specs.Option.{option_and_then, option_map_or}
use Rattle.luau_tree.specs.Tree.{Block, no_stats}
use Rattle.type_decl.specs.Signatures.{Signature}
use Rattle.reading_fits.specs.OfFolder.{paths_of}
use Rattle.reading_fits.specs.FolderAnalysis.{TreeModule}
use Rattle.module_graph.specs.Names.{meant_file}
use Rattle.module_graph.specs.Levels.{IsPlan}
use Rattle.module_graph.specs.declared.needs.ModuleNeeds.{ModuleNeeds}
use Rattle.module_graph.specs.declared.needs.Plan.{Plan}
use Rattle.folder_plan.specs.Files.{File, all_needs}

-- a plan is that of a folder's files
abbrev pub IsPlanOf : (table : List (List ℕ × Signature)) → List File → Plan → Type 0
IsPlanOf table files plan = IsPlan (all_needs (paths_of table) files) plan

-- some lists, one behind the other
abbrev pub joined : List (List ℕ) → List ℕ
joined [] = []
joined (list ∷ lists) = list ++ joined lists

-- the checked files, level by level, by their positions in the folder
abbrev pub order_of : Plan → List ℕ
order_of plan = joined plan.levels

-- the place of a file in an order, if it is there
abbrev pub place_of : ℕ → List ℕ → Option ℕ
place_of file [] = None
place_of file (other ∷ order) = if other == file then Some 0 else option_map suc (place_of file order)

-- the place in an order of the module that a way means from a path
abbrev pub led_to : List ModuleNeeds → (order : List ℕ) → (path way : List ℕ) → Option ℕ
led_to needs order path way = option_and_then (λ file. place_of file order) (meant_file needs path way)

-- the tree of a file, or an empty one
abbrev pub block_of : Option Block → Block
block_of None = no_stats
block_of (Some block) = block

-- a file as a module with a home
abbrev pub module_with : List ModuleNeeds → (order : List ℕ) → (home : ℕ) → File → TreeModule
module_with needs order home file = record { home = home; block = block_of file.tree; leads = led_to needs order file.path }

-- past the last file stands none
abbrev pub no_file : File
no_file = record { path = []; tree = None }

abbrev pub file_at : List File → ℕ → File
file_at files position = option_map_or (λ file. file) (slice_get files position) no_file

-- the modules at some positions, whose homes count on from one
abbrev pub modules_from : List ModuleNeeds → List File → (order : List ℕ) → (home : ℕ) → List ℕ → List TreeModule
modules_from needs files order home [] = []
modules_from needs files order home (position ∷ rest) =
    module_with needs order home (file_at files position) ∷ modules_from needs files order (suc home) rest

-- the checked modules of a planned folder in their order, with the homes 1, 2, 3 and on
abbrev pub modules_of : (table : List (List ℕ × Signature)) → List File → Plan → List TreeModule
modules_of table files plan = modules_from (all_needs (paths_of table) files) files (order_of plan) 1 (order_of plan)
