-- What the lists of a guard mean, and their references.
use Rattle.std.specs.Prelude.{◌≡◌, ℕ, true, false, List, ◌++◌, All}
use Rattle.luau_tree.specs.Tree.{Expr}
use Rattle.report_rules.specs.Rules.{Rules}
use Rattle.type_arena.specs.Arena.{store_of}
use Rattle.type_arena.specs.Meaning.{term_of}
use Rattle.type_arena.specs.Term.{Term}
use Rattle.type_arena.specs.declared.arena.Arena.{Arena}
use Rattle.type_arena.specs.declared.node.TypeRef.{TypeRef}
use Rattle.guards.specs.Lists.{meant, refs_listed}
use Rattle.guards.specs.Made.{made}
use Rattle.guards.specs.Own.{IsOwn}
use Rattle.guards.specs.declared.guarding.Guard.{Guard}

-- the references of both lists
abbrev pub guard_refs : Guard → List TypeRef
guard_refs guard = refs_listed guard.when_true ++ refs_listed guard.when_false

-- only the arena's own home is reached from them
pub record AreOwn (arena : Arena) (guard : Guard) : Type 0 where
  pub when_true : All (IsOwn arena) (refs_listed guard.when_true)
  pub when_false : All (IsOwn arena) (refs_listed guard.when_false)

-- the two lists mean these locals with these types
pub record Means (arena : Arena) (guard : Guard) (truth falsity : List (ℕ × Term)) : Type 0 where
  pub when_true : meant (term_of (store_of arena)) guard.when_true ≡ truth
  pub when_false : meant (term_of (store_of arena)) guard.when_false ≡ falsity

-- it is a guard of a condition: its lists are those that are made for the condition by its form
abbrev pub IsGuard : Arena → Rules → Expr → Guard → Type 0
IsGuard arena rules e guard = Means arena guard (made rules e true) (made rules e false)
