-- The heap at the start of a run: the tables of the libraries, in an order that a tape can count
-- by.
use Rattle.std.specs.Prelude.{ℕ, true, if◌then◌else◌, ◌==◌, List, [], ◌∷◌, ◌++◌, map, length, drop, Option, Some, None}
use Rattle.std.specs.Option.{option_map}
use Rattle.std.specs.List.{filter_map, starts_with}
use Rattle.std.specs.BTreeSet.{insert_key}
use Rattle.std.specs.Cmp.Lexicographic.{slice_cmp}
use Rattle.std.specs.Ordering.{nat_cmp}
use Rattle.std.specs.declared.cmp.Ordering.{Ordering}
use Rattle.luau_values.specs.Value.{Builtin}
use Rattle.luau_values.specs.Heap.{Field, Heap}

-- what follows a prefix
abbrev pub after_prefix : List ℕ → List ℕ → Option (List ℕ)
after_prefix prefix text = if starts_with ◌==◌ text prefix then Some (drop (length prefix) text) else None

-- the library of a builtin whose path has a dot
abbrev pub library_of : List ℕ → Option (List ℕ)
library_of [] = None
library_of (c ∷ path) = if c == 46 then Some [] else option_map (λ library. c ∷ library) (library_of path)

-- names are compared by their bytes, from the first on, and a beginning comes before the whole
abbrev pub name_cmp : List ℕ → List ℕ → Ordering
name_cmp = slice_cmp nat_cmp

-- some names in their order, each once: every name is put in its place among the others, unless it
-- is there already
abbrev pub in_order : List (List ℕ) → List (List ℕ)
in_order [] = []
in_order (name ∷ names) = insert_key name_cmp (in_order names) name

-- the libraries of some paths, each once, in the order of their names; a library's number is its
-- position here
abbrev pub libraries : List (List ℕ) → List (List ℕ)
libraries paths = in_order (filter_map library_of paths)

-- the fields of a library: the builtins among some paths that stand in it, one for each path
abbrev pub library_fields : List ℕ → List (List ℕ) → List Field
library_fields library paths =
    filter_map (λ path. option_map (λ name. record { name = name; value = Builtin path })
    (after_prefix (library ++ 46 ∷ []) path)) paths

-- the heap at the start of a run over builtins with these paths: a frozen table for each library,
-- and nothing else
abbrev pub start_heap : List (List ℕ) → Heap
start_heap paths =
    map (λ library. record { frozen = true; fields = library_fields library paths }) (libraries paths)
