-- Sets and contexts that stand in the arena of the types, and what calls do to it.
use Rattle.std.specs.Prelude.{◌≡◌, ℕ, true, false, IsTrue, All}
use Rattle.luau_tree.specs.Tree.{Expr}
use Rattle.type_arena.specs.Arena.{home_of, below_of, store_of}
use Rattle.type_arena.specs.Store.{Keeps, has}
use Rattle.type_arena.specs.declared.node.TypeRef.{TypeRef}
use Rattle.type_normal.specs.Rows.{is_normal}
use Rattle.error_context.specs.Entries.{refs_in, guard_of, IsContext, IsGuard}
use Rattle.error_context.specs.declared.context.Context.{Context as ContextRef}
use Rattle.guards.specs.declared.guarding.Guard.{Guard}
use Rattle.report_rules.specs.Guard.{guard as guard_term}
use Rattle.report_rules.specs.Rules.{Rules}
use Rattle.context_types.specs.Confined.{IsMade}
use Rattle.context_types.specs.Types.{arena_of, outside_of, set_in}
use Rattle.context_types.specs.declared.types.ContextTypes.{ContextTypes}

-- a type stands there in normal form, made of what is there or of what came from elsewhere
pub record Stands (types : ContextTypes) (at : TypeRef) : Type 0 where
  pub there : IsTrue (has (store_of (arena_of types)) at)
  pub normal : is_normal (set_in types at) ≡ true
  pub made : IsMade (arena_of types) (outside_of types) at

-- so does a context
pub record StandsContext (types : ContextTypes) (context : ContextRef) : Type 0 where
  pub is : IsContext (arena_of types) context.entries
  pub made : All (IsMade (arena_of types) (outside_of types)) (refs_in context.entries)

-- so does what a condition says of locals
pub record StandsGuard (types : ContextTypes) (guard : Guard) : Type 0 where
  pub truth : IsGuard (arena_of types) guard.when_true
  pub falsity : IsGuard (arena_of types) guard.when_false
  pub true_made : All (IsMade (arena_of types) (outside_of types)) (refs_in guard.when_true)
  pub false_made : All (IsMade (arena_of types) (outside_of types)) (refs_in guard.when_false)

-- it is what a condition says by the rules of a module
pub record Says (types : ContextTypes) (rules : Rules) (cond : Expr) (guard : Guard) : Type 0 where
  pub truth : (local : ℕ) → guard_of (arena_of types) guard.when_true local ≡ guard_term rules cond true local
  pub falsity : (local : ℕ) → guard_of (arena_of types) guard.when_false local ≡ guard_term rules cond false local

-- the arena stands over the same shelf and has the same home, what came from elsewhere is the same, and each type that was there
-- keeps its node and its meaning
pub record Grows (old new : ContextTypes) : Type 0 where
  pub outside : outside_of new ≡ outside_of old
  pub below : below_of (arena_of new) ≡ below_of (arena_of old)
  pub home : home_of (arena_of new) ≡ home_of (arena_of old)
  pub keeps : Keeps (store_of (arena_of old)) (store_of (arena_of new))
  pub kept : (at : TypeRef) → IsTrue (has (store_of (arena_of old)) at) → set_in new at ≡ set_in old at
