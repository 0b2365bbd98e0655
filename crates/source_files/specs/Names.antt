-- What is said of a file by its size and its name.
use Rattle.std.specs.Prelude.{drop, ◌-◌, ◌++◌, ◌||◌, ℕ, Bool, List, [], ◌∷◌, Option, None, Some, take, length, nat_eq, nat_lt, codes, if◌then◌else◌}
use Rattle.std.specs.List.{ends_with, list_any, starts_with}
use Rattle.std.specs.Str.{bytes_eq}
use Rattle.luau_tree.specs.declared.position.TheConstants.{MAX_TEXT}
use Rattle.source_files.specs.declared.reason.Reason.{Reason}
use Rattle.source_files.specs.declared.reason.Reason.TheVariants.{FileTooLarge, DirectoryModule, RepeatedName}

-- the text of a file behind a byte order mark, which is dropped and isn't counted in places
abbrev pub text_behind_mark : List ℕ → List ℕ
text_behind_mark bytes = if starts_with nat_eq bytes (239 ∷ 187 ∷ 191 ∷ []) then drop 3 bytes else bytes

-- whether the last part of a path is `init.luau` or `init.lua`
abbrev pub is_init : List ℕ → Bool
is_init path =
    bytes_eq path (codes "init.luau") || bytes_eq path (codes "init.lua")
    || ends_with nat_eq path (codes "/init.luau") || ends_with nat_eq path (codes "/init.lua")

-- the path of the same module name with the other ending, which is a `u` more or less
abbrev pub twin_of : List ℕ → List ℕ
twin_of path = if ends_with nat_eq path (codes ".luau") then take (length path - 1) path else path ++ codes "u"

-- why a file of a folder with these paths is refused for its size or its name, if it is: it has more than 1,048,576 bytes, or it
-- stands for its folder, or another file has its module name
abbrev pub refusal_of : (paths : List (List ℕ)) → (path bytes : List ℕ) → Option Reason
refusal_of paths path bytes =
    if nat_lt MAX_TEXT (length bytes) then Some FileTooLarge
    else if is_init path then Some DirectoryModule
    else if list_any (λ other. bytes_eq other (twin_of path)) paths then Some RepeatedName
    else None
