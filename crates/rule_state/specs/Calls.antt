-- What a call gives, by references.
use Rattle.std.specs.Prelude.{List, [], ◌∷◌, Contains}
use Rattle.type_arena.specs.Term.{Term}
use Rattle.type_arena.specs.declared.node.TypeRef.{TypeRef}
use Rattle.type_normal.specs.Field.{frozen_rows}
use Rattle.type_normal.specs.Kinds.{unknown, nil_type}
use Rattle.type_normal.specs.Operations.{union}
use Rattle.type_decl.specs.Tables.{refs_in}
use Rattle.type_decl.specs.declared.sig.Sig.{Sig}
use Rattle.rule_state.specs.declared.calls.Gives.{Gives}
use Rattle.rule_state.specs.declared.calls.Gives.TheVariants.{Anything, Frozen, Exactly, OrNil, Nil}

-- the type that a call gives, once it is known what references mean
abbrev pub given_type : (TypeRef → Term) → Gives → (first_argument : Term) → Term
given_type means Anything first_argument = unknown
given_type means Frozen first_argument = frozen_rows first_argument
given_type means (Exactly at) first_argument = means at
given_type means (OrNil at) first_argument = union (means at) nil_type
given_type means Nil first_argument = nil_type

-- the references in it
abbrev pub refs_given : Gives → List TypeRef
refs_given (Exactly at) = at ∷ []
refs_given (OrNil at) = at ∷ []
refs_given _ = []

-- a reference is in one of some `Sig`s
abbrev pub IsDeclared : List Sig → TypeRef → Type 0
IsDeclared sigs at = (sig : Sig) × Contains sigs sig × Contains (refs_in sig) at
