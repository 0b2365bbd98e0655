-- Folders whose trees the profile accepts.
use Rattle.std.specs.Prelude.{⊤, ℕ, List, Option, Some, None}
use Rattle.std.specs.List.{AllByRecursion}
use Rattle.luau_tree.specs.Tree.{Block}
use Rattle.type_decl.specs.Signatures.{Signature}
use Rattle.reading_fits.specs.FolderAnalysis.{IsAccepted}
use Rattle.folder_plan.specs.Files.{File}

-- a tree stands apart and the profile refuses nothing of it, if there is one
abbrev pub IsAcceptedTree : (table : List (List ℕ × Signature)) → Option Block → Type 0
IsAcceptedTree table None = ⊤
IsAcceptedTree table (Some block) = IsAccepted table (record { home = 0; block = block; leads = λ way. None })

-- the trees of a folder's files are accepted
abbrev pub AreAccepted : (table : List (List ℕ × Signature)) → List File → Type 0
AreAccepted table files = AllByRecursion (λ file. IsAcceptedTree table file.tree) files
