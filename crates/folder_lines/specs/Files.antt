-- The files of a folder, as the plan of the folder sees them.
use Rattle.std.specs.Prelude.{ℕ, List, Option, Some, None, map}
use Rattle.luau_tree.specs.Tree.{Block}
use Rattle.type_decl.specs.Signatures.{Signature}
use Rattle.reading_fits.specs.OfFolder.{paths_of}
use Rattle.module_graph.specs.declared.needs.Plan.{Plan}
use Rattle.folder_plan.specs.Files.{File}
use Rattle.folder_plan.specs.Order.{IsPlanOf}
use Rattle.source_files.specs.declared.file.SourceFile.{SourceFile}
use Rattle.source_files.specs.Reading.{Reading, Refused, Read, reading_of}

-- the paths of some files
abbrev pub file_paths : List SourceFile → List (List ℕ)
file_paths files = map (λ file. file.path) files

-- how each file of a folder reads, over the paths of the declared builtins
abbrev pub readings : (table : List (List ℕ)) → List SourceFile → List Reading
readings table files = map (reading_of table (file_paths files)) files

-- the tree of a file, if it isn't refused
abbrev pub tree_read : Reading → Option Block
tree_read (Refused at why) = None
tree_read (Read text block) = Some block

-- a file with its tree, if it isn't refused
abbrev pub planned_file : (table paths : List (List ℕ)) → SourceFile → File
planned_file table paths file = record { path = file.path; tree = tree_read (reading_of table paths file) }

-- the files of a folder with their trees
abbrev pub planned_files : (table : List (List ℕ)) → List SourceFile → List File
planned_files table files = map (planned_file table (file_paths files)) files

-- a plan is that of a folder
abbrev pub IsPlanFor : (table : List (List ℕ × Signature)) → List SourceFile → Plan → Type 0
IsPlanFor table files plan = IsPlanOf table (planned_files (paths_of table) files) plan
