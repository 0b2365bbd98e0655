-- Which files a walk lists.
use Rattle.std.specs.Prelude.{◌≡◌, ◌≢◌, ◌<◌, ◌==◌, ◌&&◌, not, ℕ, Bool, true, false, List, [], ◌∷◌, IsTrue, All, length, slice_index, string_bytes}
use Rattle.luau_nonstrict.specs.Place.{join}
use Rattle.luau_nonstrict.specs.declared.walk.Walk.{Walk}

-- whether a name begins with `.`
abbrev pub is_hidden : List ℕ → Bool
is_hidden [] = false
is_hidden (byte ∷ name) = byte == 46

-- whether no name that begins in the rest of a path begins with `.`; a name may begin at its front,
-- and does after `/`
abbrev pub shows_from : Bool → List ℕ → Bool
shows_from begins [] = true
shows_from begins (byte ∷ rest) = not (begins && byte == 46) && shows_from (byte == 47) rest

-- no name of the path begins with `.`
abbrev pub IsShown : List ℕ → Type 0
IsShown path = IsTrue (shows_from true path)

-- a name has no `/`
abbrev pub IsName : List ℕ → Type 0
IsName name = (i : ℕ) → i < length name → slice_index name i ≢ 47

-- no folder on the way to the file has a name that begins with `.`
abbrev pub IsVisible : List ℕ → Type 0
IsVisible path =
    (folder : List ℕ) × (name : List ℕ) × (path ≡ join folder name) × IsShown folder × IsName name

-- a walk has found visible files alone, and is to enter no folder that lies in a hidden one or is
-- one
pub record StaysVisible (walk : Walk) : Type 0 where
  pub pending : All (λ folder. IsShown (string_bytes folder)) walk.pending.items
  pub found : All (λ path. IsVisible (string_bytes path)) walk.found.items
