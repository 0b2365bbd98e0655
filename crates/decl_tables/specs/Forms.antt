-- Which lists of declarations are a table, and the fault of the others.
use Rattle.std.specs.Prelude.{ℕ, Bool, true, false, ◌||◌, List, [], ◌∷◌, map, Option, None, Some, if◌then◌else◌}
use Rattle.std.specs.List.{list_any}
use Rattle.std.specs.Option.{option_or}
use Rattle.std.specs.Str.{bytes_eq}
use Rattle.builtin_table.specs.Paths.{is_kept_back, lies_in}
use Rattle.decl_grammar.specs.declared.mark.Mark.{Mark}
use Rattle.decl_grammar.specs.declared.mark.Mark.TheVariants.{Checked, Quiet}
use Rattle.decl_grammar.specs.Declarations.{Declaration}
use Rattle.decl_tables.specs.declared.error.DeclError.{DeclError}
use Rattle.decl_tables.specs.declared.error.DeclError.TheVariants.{RepeatedName, BadForm}

abbrev pub is_checked : Mark → Bool
is_checked Checked = true
is_checked Quiet = false

abbrev pub is_quiet : Mark → Bool
is_quiet Checked = false
is_quiet Quiet = true

-- whether two of some marks have this
abbrev pub is_twice : (Mark → Bool) → List Mark → Bool
is_twice is [] = false
is_twice is (mark ∷ marks) = if is mark then list_any is marks else is_twice is marks

-- whether a declaration has a bad form, among all the paths of its file: a mark stands before it twice, its path is `require` or
-- begins with `require.`, or its path is the library of another
abbrev pub is_bad : List (List ℕ) → Declaration → Bool
is_bad paths d =
    (is_twice is_checked d.marks || is_twice is_quiet d.marks)
    || (is_kept_back d.path || list_any (λ path. lies_in path d.path) paths)

-- the paths that some declarations declare
abbrev pub paths_of : List Declaration → List (List ℕ)
paths_of ds = map (λ d. d.path) ds

-- the fault of a declaration behind others of these paths, among all the paths of its file
abbrev pub fault_at : List (List ℕ) → List (List ℕ) → Declaration → Option DeclError
fault_at paths before d =
    if is_bad paths d then Some (BadForm d.at)
    else if list_any (λ path. bytes_eq path d.path) before then Some (RepeatedName d.at)
    else None

-- the first fault of declarations behind others
abbrev pub first_fault : List (List ℕ) → List (List ℕ) → List Declaration → Option DeclError
first_fault paths before [] = None
first_fault paths before (d ∷ ds) = option_or (fault_at paths before d) (first_fault paths (d.path ∷ before) ds)

-- the fault of a file's declarations, if there is one
abbrev pub fault_of : List Declaration → Option DeclError
fault_of ds = first_fault (paths_of ds) [] ds
