-- Where the files of a root lie.
use Rattle.std.specs.Prelude.{ℕ, List, [], ◌∷◌, ◌++◌, codes}

-- a name inside a folder, with `/` between; the empty folder is the one where paths begin
abbrev pub join : List ℕ → List ℕ → List ℕ
join [] name = name
join (byte ∷ folder) name = byte ∷ folder ++ 47 ∷ name

-- where a path of a root lies: the root without a name is the folder in which the program runs, and
-- the path without a name is the root itself
abbrev pub place : List ℕ → List ℕ → List ℕ
place [] [] = codes "."
place (byte ∷ root) [] = byte ∷ root
place root (byte ∷ path) = join root (byte ∷ path)
