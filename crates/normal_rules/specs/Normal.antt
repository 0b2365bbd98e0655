-- Rules whose types are in normal form.
use Rattle.std.specs.Prelude.{◌≡◌, ⊤, ℕ, true, List, Option, Some, None}
use Rattle.std.specs.List.{AllByRecursion}
use Rattle.type_arena.specs.Term.{Term}
use Rattle.type_decl.specs.Signatures.{Signature}
use Rattle.type_normal.specs.Rows.{is_normal}
use Rattle.report_rules.specs.Rules.{Rules, TypedBuiltin}
use Rattle.report_rules.specs.Seen.{Seen, SeenExpr, SeenBody}

-- a type is in normal form
abbrev pub IsNormal : Term → Type 0
IsNormal type = is_normal type ≡ true

-- so is one, if it is there
abbrev pub IsNormalIf : Option Term → Type 0
IsNormalIf None = ⊤
IsNormalIf (Some type) = IsNormal type

-- the types of a declared builtin are in normal form
pub record HasNormalSignature (b : TypedBuiltin) : Type 0 where
  pub params : AllByRecursion IsNormal b.params
  pub rest : IsNormalIf b.rest
  pub results : AllByRecursion IsNormal b.results
  pub more : IsNormalIf b.more

-- so are those that the rules of a module have: of the declared builtins, of what is written, and of what static requires give
pub record HaveNormalTypes (rules : Rules) : Type 0 where
  pub builtins : AllByRecursion HasNormalSignature rules.table
  pub annotations : (function index : ℕ) → IsNormal (rules.annotation function index)
  pub imports : (id : ℕ) → IsNormal (rules.import id)

-- the type of what was seen is in normal form
abbrev pub IsSeenNormal : Seen → Type 0
IsSeenNormal (SeenExpr id type live) = IsNormal type
IsSeenNormal (SeenBody id live) = ⊤

-- the types of a signature are in normal form
pub record IsNormalSignature (signature : Signature) : Type 0 where
  pub params : AllByRecursion IsNormal signature.params
  pub rest : IsNormalIf signature.rest
  pub results : AllByRecursion IsNormal signature.results
  pub more : IsNormalIf signature.more

-- the types of all that is declared are in normal form
abbrev pub AreNormalSignatures : List (List ℕ × Signature) → Type 0
AreNormalSignatures table = AllByRecursion (λ entry. IsNormalSignature entry.1) table
