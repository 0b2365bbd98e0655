-- What a sink was given.
use Rattle.std.specs.Prelude.{◌≡◌, List, ◌++◌, Option, IfSome, IsSomeAnd}

-- a sink that tells its bytes, or what else it keeps in order, after a call told them before it,
-- and the call appended these
abbrev pub Appends : {A : Type 0} → Option (List A) → Option (List A) → List A → Type 0
Appends before after added = IfSome after (λ now. IsSomeAnd before (λ then. now ≡ then ++ added))
