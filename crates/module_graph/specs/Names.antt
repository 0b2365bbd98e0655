-- Names of modules, and the module that a require's text means.
use Rattle.std.specs.Prelude.{◌≡◌, AllPairs, ℕ, ◌==◌, ◌-◌, ◌||◌, Bool, List, [], ◌∷◌, ◌++◌, length, take, codes, Option, None, Some, option_map, if◌then◌else◌}
use Rattle.std.specs.Option.{option_and_then}
use Rattle.std.specs.List.{slice_split, join_with_byte, position}
use Rattle.std.specs.Str.{bytes_eq}
use Rattle.std.specs.Ordering.{nat_cmp}
use Rattle.std.specs.Cmp.Lexicographic.{slice_cmp}
use Rattle.std.specs.declared.cmp.Ordering.TheVariants.{Less}
use Rattle.module_graph.specs.declared.needs.ModuleNeeds.{ModuleNeeds}

-- the parts of a path or of a require's text, which stand between its slashes
abbrev pub parts : List ℕ → List (List ℕ)
parts text = slice_split (λ b. b == 47) text

-- some parts without the last one
abbrev pub without_last : List (List ℕ) → List (List ℕ)
without_last here = take (length here - 1) here

-- the folder around a folder; the root has none
abbrev pub above : List (List ℕ) → Option (List (List ℕ))
above [] = None
above (part ∷ rest) = Some (without_last (part ∷ rest))

-- where a part leads from a folder: `.` stays, `..` goes up and not out of the root, an empty part leads nowhere, and any other goes down
abbrev pub step : List (List ℕ) → List ℕ → Option (List (List ℕ))
step here part =
    if bytes_eq part [] then None
    else if bytes_eq part (codes ".") then Some here
    else if bytes_eq part (codes "..") then above here
    else Some (here ++ part ∷ [])

-- where some parts lead from a folder, one after the other
abbrev pub walk : List (List ℕ) → List (List ℕ) → Option (List (List ℕ))
walk here [] = Some here
walk here (part ∷ rest) = option_and_then (λ next. walk next rest) (step here part)

-- the name of a module that a text means from a folder, if any
abbrev pub name_from : List (List ℕ) → List ℕ → Option (List ℕ)
name_from here text = option_map (join_with_byte 47) (walk here (parts text))

-- the paths of files rise by their bytes
abbrev pub AreOrdered : List ModuleNeeds → Type 0
AreOrdered files = AllPairs (λ a b. slice_cmp nat_cmp a.path b.path ≡ Less) files

-- whether a file has a module's name: its path is the name with `.lua` or `.luau` at its end
abbrev pub has_name : List ℕ → ModuleNeeds → Bool
has_name name file = bytes_eq file.path (name ++ codes ".lua") || bytes_eq file.path (name ++ codes ".luau")

-- the file that a name stands for: the first with that name
abbrev pub file_named : List ModuleNeeds → List ℕ → Option ℕ
file_named files name = position (has_name name) files

-- the file that a text means from a folder, if any
abbrev pub file_from : List ModuleNeeds → List (List ℕ) → List ℕ → Option ℕ
file_from files here text = option_and_then (file_named files) (name_from here text)

-- the file that a text means from the file at a path, if any: the walk begins in the file's folder
abbrev pub meant_file : List ModuleNeeds → List ℕ → List ℕ → Option ℕ
meant_file files path text = file_from files (without_last (parts path)) text
