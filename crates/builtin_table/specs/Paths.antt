-- Which lists of paths can be declared together.
use Rattle.std.specs.Prelude.{ℕ, Bool, true, ◌&&◌, ◌||◌, List, [], ◌∷◌, ◌++◌, codes, nat_eq}
use Rattle.std.specs.List.{starts_with}
use Rattle.std.specs.Ordering.{is_lt}
use Rattle.luau_tree.specs.Sorted.{bytes_cmp}
use Rattle.std.specs.Str.{bytes_eq}

-- a path as the front of longer ones: with a dot behind it
abbrev pub as_library : List ℕ → List ℕ
as_library path = path ++ 46 ∷ []

-- whether one path begins with another and a dot
abbrev pub lies_in : List ℕ → List ℕ → Bool
lies_in path library = starts_with nat_eq path (as_library library)

-- whether a path is `require`, or begins with it and a dot: that name is never declared
abbrev pub is_kept_back : List ℕ → Bool
is_kept_back path = bytes_eq path (codes "require") || lies_in path (codes "require")

-- whether a path comes before each of some others, and whether each path comes before all later ones
abbrev pub comes_before : List ℕ → List (List ℕ) → Bool
comes_before path [] = true
comes_before path (other ∷ others) = is_lt (bytes_cmp path other) && comes_before path others

abbrev pub ascends : List (List ℕ) → Bool
ascends [] = true
ascends (path ∷ paths) = comes_before path paths && ascends paths
