-- What is found of which types are below others.
use Rattle.std.specs.Prelude.{◌≡◌, Bool, Some, IfSome, IsTrue}
use Rattle.std.specs.HashMap.{get, HashMap}
use Rattle.std.specs.declared.hash.FoldHasher.{FoldHasher}
use Rattle.std.specs.declared.hash.BuildHasherDefault.{BuildHasherDefault}
use Rattle.type_arena.specs.Store.{Store, has}
use Rattle.subtype_check.specs.Checking.{Answers}
use Rattle.subtype_check.specs.declared.known.Pair.{Pair}
use Rattle.subtype_check.specs.contracts.known.PairPartialEq.TheImpl as PairEq

-- an answer on two types that are there is that of the definition, where the lower type is in normal form
pub record IsFound (store : Store) (pair : Pair) (answer : Bool) : Type 0 where
  pub lower : IfSome pair.lower (λ at. IsTrue (has store at))
  pub upper : IsTrue (has store pair.upper)
  pub answers : Answers store pair answer

-- answers, by the two types
abbrev pub Answered : Type 0
Answered = HashMap Pair Bool (BuildHasherDefault FoldHasher)

-- each answer that is remembered is right
abbrev pub AreRight : Store → Answered → Type 0
AreRight store known = (pair : Pair) (answer : Bool) → get PairEq.ghosts.eq known pair ≡ Some answer → IsFound store pair answer
