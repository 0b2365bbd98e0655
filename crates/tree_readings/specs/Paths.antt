-- The paths of declared builtins.
use Rattle.std.specs.Prelude.{ℕ, ◌==◌, Bool, true, not, List, [], ◌∷◌, if◌then◌else◌}
use Rattle.std.specs.List.{list_all}
use Rattle.luau_run.specs.ReadFolder.{is_among}

-- whether a path is a name, or a library's name, a dot and another name: behind its first dot there is none
abbrev pub has_one_dot : List ℕ → Bool
has_one_dot [] = true
has_one_dot (c ∷ path) = if c == 46 then not (is_among 46 path) else has_one_dot path

-- whether each of some paths is so
abbrev pub are_paths : List (List ℕ) → Bool
are_paths paths = list_all has_one_dot paths
