-- What is run: modules as they were read, over declared builtins.
use Rattle.std.specs.Prelude.{ℕ, List, map}
use Rattle.luau_run.specs.Signature.{Declared}
use Rattle.luau_run.specs.ReadModule.{ReadModule}

-- modules over declared builtins
pub record Program : Type 0 where
  pub modules : List ReadModule
  pub builtins : List Declared

-- the paths of the declared builtins
abbrev pub paths : Program → List (List ℕ)
paths program = map (λ d. d.path) program.builtins
