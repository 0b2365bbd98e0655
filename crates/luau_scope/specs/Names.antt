-- Which globals are builtins and libraries, by the set of declared paths, and which the profile speaks of.
use Rattle.std.specs.Prelude.{ℕ, Bool, ◌||◌, List, [], ◌∷◌, ◌++◌, Option, Some, None, if◌then◌else◌, codes, nat_eq}
use Rattle.std.specs.List.{list_any, starts_with}
use Rattle.std.specs.Str.{bytes_eq}
use Rattle.luau_scope.specs.declared.refusal.Refusal.{Refusal}
use Rattle.luau_scope.specs.declared.refusal.Refusal.TheVariants.{Metatable, Coroutine, Environment, DynamicRequire}

-- whether some bytes are the front of others
abbrev pub is_front : List ℕ → List ℕ → Bool
is_front front bytes = starts_with nat_eq bytes front

-- whether some bytes are among others
abbrev pub is_one_of : List (List ℕ) → List ℕ → Bool
is_one_of names name = list_any (bytes_eq name) names

-- a name, a dot and a name behind it
abbrev pub dotted : List ℕ → List ℕ → List ℕ
dotted name behind = name ++ 46 ∷ behind

-- whether a global is a library: some path begins with it and a dot
abbrev pub is_library : List (List ℕ) → List ℕ → Bool
is_library paths name = list_any (is_front (dotted name [])) paths

-- why the use of a global is refused, but for that of `require`
abbrev pub banned : List ℕ → Option Refusal
banned name =
    if is_one_of (codes "setmetatable" ∷ codes "getmetatable" ∷ codes "newproxy" ∷ []) name then Some Metatable
    else if bytes_eq name (codes "coroutine") then Some Coroutine
    else if is_one_of (codes "getfenv" ∷ codes "setfenv" ∷ codes "loadstring" ∷ codes "_G" ∷ []) name then Some Environment
    else None

-- whether a global is the one that loads modules
abbrev pub is_require : List ℕ → Bool
is_require name = bytes_eq name (codes "require")

-- why the use of a global is refused, where it is no static require's callee
abbrev pub banned_alone : List ℕ → Option Refusal
banned_alone name = if is_require name then Some DynamicRequire else banned name

-- whether a string names a module as a static require does: by a way that begins with `./` or `../`
abbrev pub is_way : List ℕ → Bool
is_way text = is_front (codes "./") text || is_front (codes "../") text
