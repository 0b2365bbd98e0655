-- Folders whose trees are calls of the built form.
use Rattle.std.specs.Prelude.{◌≡◌, ⊤, List, [], ◌∷◌}
use Rattle.luau_run.specs.ReadModule.{ReadModule}
use Rattle.rules_certain.specs.Calls.{Written, block_of}

-- the tree of each module of a list is that of the calls at the same position
abbrev pub AreTrees : List (List Written) → List ReadModule → Type 0
AreTrees [] [] = ⊤
AreTrees (calls ∷ modules) (reading ∷ readings) = (reading.block ≡ block_of 0 calls) × AreTrees modules readings
AreTrees _ _ = ⊥
