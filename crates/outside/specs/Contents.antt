-- What a tree holds.
use Rattle.std.specs.Prelude.{◌≡◌, ◌&&◌, ℕ, Bool, true, List, [], ◌∷◌, Option, None, Some, map, take, if◌then◌else◌, IfSome, IsSomeAnd, MatchOption, IsTrue}
use Rattle.std.specs.Str.{bytes_eq}
use Rattle.std.specs.Ordering.{nat_cmp, is_lt}
use Rattle.std.specs.Cmp.Lexicographic.{slice_cmp}
use Rattle.outside.specs.Cause.{Rose}

-- a file: its path and its bytes
abbrev pub File : Type 0
File = List ℕ × List ℕ

-- what a tree holds: the files of each root
abbrev pub Contents : Type 0
Contents = List ℕ → List File

-- the paths of some files
abbrev pub paths_of : List File → List (List ℕ)
paths_of files = map (λ f. f.0) files

-- the bytes of the file at a path, if there is one
abbrev pub file_at : List File → List ℕ → Option (List ℕ)
file_at [] path = None
file_at (file ∷ files) path = if bytes_eq file.0 path then Some file.1 else file_at files path

-- whether one path comes before another, by bytes
abbrev pub comes_before : List ℕ → List ℕ → Bool
comes_before p q = is_lt (slice_cmp nat_cmp p q)

-- whether each path comes before the next, so that no path repeats
abbrev pub in_order : List (List ℕ) → Bool
in_order [] = true
in_order (p ∷ []) = true
in_order (p ∷ q ∷ paths) = comes_before p q && in_order (q ∷ paths)

-- the files of every root are in the order of their paths
abbrev pub IsOrdered : Contents → Type 0
IsOrdered contents = (root : List ℕ) → IsTrue (in_order (paths_of (contents root)))

-- where contents are told, these bytes are the first ones of the file at the path, and the file is
-- there
abbrev pub Reads : Option Contents → List ℕ → List ℕ → ℕ → List ℕ → Type 0
Reads told root path at_most bytes =
    IfSome told (λ contents.
    IsSomeAnd (file_at (contents root) path) (λ file. bytes ≡ take at_most file))

-- a file is absent: where contents are told, there is none at the path and the count stays; else
-- the count rose
abbrev pub Lacks : Option Contents → List ℕ → List ℕ → ℕ → ℕ → Type 0
Lacks told root path before after =
    MatchOption told (Rose before after) (λ contents.
    (file_at (contents root) path ≡ None) × (after ≡ before))
