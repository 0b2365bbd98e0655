-- What a walk keeps of what it meets.
use Rattle.std.specs.Prelude.{◌≡◌, ℕ, List, [], ◌∷◌, ◌++◌, map, string_bytes}
use Rattle.luau_nonstrict.specs.declared.walk.Walk.{Walk}

-- the paths of the files that a walk has found
abbrev pub found_by : Walk → List (List ℕ)
found_by walk = map string_bytes walk.found.items

-- the paths of the folders that a walk is still to enter
abbrev pub pending_in : Walk → List (List ℕ)
pending_in walk = map string_bytes walk.pending.items

-- a walk found one more file
abbrev pub Finds : Walk → Walk → List ℕ → Type 0
Finds old new path = (found_by new ≡ found_by old ++ path ∷ []) × (new.pending ≡ old.pending)

-- a walk is to enter one more folder
abbrev pub IsToEnter : Walk → Walk → List ℕ → Type 0
IsToEnter old new path = (pending_in new ≡ pending_in old ++ path ∷ []) × (new.found ≡ old.found)
