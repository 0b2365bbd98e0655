-- What is handed over at the end, in the arena of the types.
use Rattle.std.specs.Prelude.{ℕ, Bool, List, All, IsTrue}
use Rattle.type_arena.specs.Meaning.{term_of}
use Rattle.type_arena.specs.Store.{Store}
use Rattle.type_arena.specs.declared.arena.Arena.{Arena}
use Rattle.type_arena.specs.declared.node.TypeRef.{TypeRef}
use Rattle.local_types.specs.Growing.{HaveHomes, StaysWithin}
use Rattle.report_rules.specs.Seen.{Seen, SeenExpr, SeenBody}
use Rattle.rule_state.specs.Sound.{types_in}
use Rattle.rule_state.specs.declared.point.Seen.{Seen as SeenRef}
use Rattle.rule_state.specs.declared.point.Seen.TheVariants.{Expr, Body}

-- what was seen, with what its type means in some arenas
abbrev pub seen_in : Store → SeenRef → Seen
seen_in store (Expr id at live) = SeenExpr id.0 (term_of store at) live
seen_in store (Body id live) = SeenBody id.0 live

-- an arena stays within the homes that pass a test, and so do a type and those of what was seen
pub record StayWithin (test : ℕ → Bool) (arena : Arena) (at : TypeRef) (all : List SeenRef) : Type 0 where
  pub stays : StaysWithin test arena
  pub value : IsTrue (test at.home)
  pub seen : All (λ one. HaveHomes test (types_in one)) all
