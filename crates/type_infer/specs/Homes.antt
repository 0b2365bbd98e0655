-- Which homes the answers lead to.
use Rattle.std.specs.Prelude.{ℕ, Bool, IsTrue}
use Rattle.local_types.specs.Growing.{HaveHomes, StaysWithin}
use Rattle.seen_types.specs.Seen.{refs_seen}
use Rattle.seen_types.specs.Tables.{seen_in}
use Rattle.type_infer.specs.declared.types.Types.{Types}

-- the arena leads to no home but those that pass a test, and so does each type that is answered
pub record AnswerWithin (test : ℕ → Bool) (types : Types) : Type 0 where
  pub arena : StaysWithin test types.arena
  pub summary : IsTrue (test types.summary.home)
  pub seen : HaveHomes test (refs_seen (seen_in types.seen))
