-- The modules of a folder, and the limits on them.
use Rattle.std.specs.Prelude.{drop, ◌+◌, ◌-◌, ◌++◌, ◌||◌, ℕ, Bool, List, [], ◌∷◌, Option, None, Some, unwrap_or, map, filter, take, length, nat_eq, nat_lt, codes, if◌then◌else◌, option_map}
use Rattle.std.specs.List.{ends_with, list_any, starts_with}
use Rattle.std.specs.Str.{bytes_eq}
use Rattle.luau_tree.specs.declared.position.TheConstants.{MAX_TEXT}
use Rattle.luau_tree.specs.Sorted.{bytes_cmp, sorted_by}
use Rattle.outside.specs.Contents.{File, file_at, paths_of}
use Rattle.nonstrict_cli.specs.declared.reason.Reason.{Reason}
use Rattle.nonstrict_cli.specs.declared.reason.Reason.TheVariants.{FileTooLarge, DirectoryModule, RepeatedName}
use Rattle.nonstrict_cli.specs.declared.status.Limit.{Limit}
use Rattle.nonstrict_cli.specs.declared.status.Limit.TheVariants.{Files, Bytes}
use Rattle.nonstrict_cli.specs.declared.limits.TheConstants.{MAX_FILES, MAX_READ, MAX_TOTAL}

-- whether a path is that of a module: it ends in `.luau` or in `.lua`
abbrev pub is_module_path : List ℕ → Bool
is_module_path path = ends_with nat_eq path (codes ".luau") || ends_with nat_eq path (codes ".lua")

-- some paths in the order of their bytes, each once
abbrev pub sorted_paths : List (List ℕ) → List (List ℕ)
sorted_paths = sorted_by bytes_cmp

-- the paths of the modules among some paths, in order
abbrev pub modules_among : List (List ℕ) → List (List ℕ)
modules_among paths = sorted_paths (filter is_module_path paths)

-- the paths of the modules of a folder, in order
abbrev pub module_paths : List File → List (List ℕ)
module_paths files = modules_among (paths_of files)

-- what is read of the file at a path: its bytes, or the first 1,048,577 of them
abbrev pub source : List File → List ℕ → List ℕ
source files path = take MAX_READ (unwrap_or (file_at files path) [])

-- how many bytes are read of the file at a path
abbrev pub size_read : List File → List ℕ → ℕ
size_read files path = length (source files path)

-- the text of a file behind a byte order mark, which is dropped and isn't counted in places
abbrev pub text_behind_mark : List ℕ → List ℕ
text_behind_mark bytes =
    if starts_with nat_eq bytes (239 ∷ 187 ∷ 191 ∷ []) then drop 3 bytes else bytes

-- whether the last part of a path is `init.luau` or `init.lua`
abbrev pub is_init : List ℕ → Bool
is_init path =
    bytes_eq path (codes "init.luau") || bytes_eq path (codes "init.lua")
    || ends_with nat_eq path (codes "/init.luau") || ends_with nat_eq path (codes "/init.lua")

-- the name of the module at a path: the path without its ending
abbrev pub module_name : List ℕ → List ℕ
module_name path =
    if ends_with nat_eq path (codes ".luau") then take (length path - 5) path
    else take (length path - 4) path

-- the path of the same module name with the other ending, which is a `u` more or less
abbrev pub twin_of : List ℕ → List ℕ
twin_of path =
    if ends_with nat_eq path (codes ".luau") then take (length path - 1) path else path ++ codes "u"

-- why a file of a folder with these paths is refused for its size or its name, if it is: it has
-- more than 1,048,576 bytes, or it stands for its folder, or another file has its module name
abbrev pub refusal_of : List (List ℕ) → List ℕ → List ℕ → Option Reason
refusal_of paths path text =
    if nat_lt MAX_TEXT (length text) then Some FileTooLarge
    else if is_init path then Some DirectoryModule
    else if list_any (λ other. bytes_eq other (twin_of path)) paths then Some RepeatedName
    else None

-- the first sum of these sizes that passes the limit on bytes, from a sum before them
abbrev pub first_over : ℕ → List ℕ → Option ℕ
first_over before [] = None
first_over before (size ∷ sizes) =
    if nat_lt MAX_TOTAL (before + size) then Some (before + size)
    else first_over (before + size) sizes

-- the limit that a folder passes: on the number of its modules, or else on the bytes that are read
abbrev pub limit_of : List File → Option Limit
limit_of files =
    if nat_lt MAX_FILES (length (module_paths files))
    then Some (Files (length (module_paths files)))
    else option_map Bytes (first_over 0 (map (size_read files) (module_paths files)))
