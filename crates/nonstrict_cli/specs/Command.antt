-- The words of a command.
use Rattle.std.specs.Prelude.{◌&&◌, ◌==◌, ℕ, Bool, not, List, [], ◌∷◌, Option, None, Some, length, nat_eq, codes, if◌then◌else◌}
use Rattle.std.specs.List.{starts_with}

-- whether a word names a folder: it isn't empty, and begins neither with `-` nor with `sample:`
abbrev pub is_folder : List ℕ → Bool
is_folder word =
    not (length word == 0) && not (starts_with nat_eq word (codes "-"))
    && not (starts_with nat_eq word (codes "sample:"))

-- the folder that a command names: a command is one word, and that word names a folder
abbrev pub command : List (List ℕ) → Option (List ℕ)
command [] = None
command (word ∷ []) = if is_folder word then Some word else None
command (word ∷ more ∷ rest) = None
