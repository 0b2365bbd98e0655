-- What stays while the rules of a module are applied.
use Rattle.std.specs.Prelude.{ℕ, List, Option}
use Rattle.type_arena.specs.Store.{Store}
use Rattle.type_arena.specs.Term.{Term}
use Rattle.type_arena.specs.declared.node.TypeRef.{TypeRef}
use Rattle.type_decl.specs.Signatures.{Signature}

-- the home of the module's types and of its function literals; the arenas below that of its types, and the types that came from
-- elsewhere; the declared builtins; and what each static require gives that leads to a module, by the number of its call
pub record Around : Type 0 where
  pub home : ℕ
  pub below : Store
  pub outside : List TypeRef
  pub builtins : List (List ℕ × Signature)
  pub imports : ℕ → Option Term
