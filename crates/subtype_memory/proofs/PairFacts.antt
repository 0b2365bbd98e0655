-- What is remembered stays right when an answer is added, and while arenas get nodes.
use Rattle.std.proofs.Common.{◌≡◌, Bool, true, false, List, [], sym, ap, ◌∙◌, subst, refl}
use Rattle.std.specs.Prelude.{Option, Some, None, IfSome, IsTrue, if◌then◌else◌}
use Rattle.std.specs.HashMap.{get}
use Rattle.std.specs.Map.{lookup}
use Rattle.std.specs.Option.{option_eq}
use Rattle.type_arena.specs.Store.{Store, IsSound, Keeps, has}
use Rattle.type_arena.specs.declared.node.TypeRef.{TypeRef}
use Rattle.type_arena.specs.contracts.node.TypeRefPartialEq.TheImpl as TypeRefEq
use Rattle.type_arena.proofs.EqLemmas.{ref_tested}
use Rattle.type_arena.proofs.MeaningLemmas.{term_of-kept}
use Rattle.type_normal.specs.Rows.{is_normal}
use Rattle.type_normal.proofs.AddsFacts.{there_kept}
use Rattle.type_normal.proofs.HoldsFacts.{left, right}
use Rattle.subtype_check.specs.Below.{is_above}
use Rattle.subtype_check.specs.Checking.{type_at}
use Rattle.subtype_check.specs.declared.known.Pair.{Pair}
use Rattle.subtype_check.specs.contracts.known.PairPartialEq.TheImpl as PairEq
use Rattle.subtype_memory.specs.Remembering.{IsFound, Answered, AreRight}
use Rattle.subtype_memory.specs.Memory.{IsRight}
use Rattle.subtype_memory.specs.declared.memory.Remembered.{Remembered}

-- pairs that are equal by their test are equal
maybe_tested : (a b : Option TypeRef) → option_eq TypeRefEq.ghosts.eq a b ≡ true → a ≡ b
maybe_tested None None e = refl
maybe_tested None (Some y) e = cc
maybe_tested (Some x) None e = cc
maybe_tested (Some x) (Some y) e = ap Some ((ref_tested x y).0 e)

pair_tested : (a b : Pair) → PairEq.ghosts.eq a b ≡ true → a ≡ b
pair_tested a b e =
    let lower = maybe_tested a.lower b.lower (left _ _ e) in
    let upper = (ref_tested a.upper b.upper).0 (right _ _ e) in
    λ i. record { lower = lower i; upper = upper i }

some_is : (a b : Bool) → Some a ≡ Some b → b ≡ a
some_is a b e = cc

-- a memory without entries is right
pub none_right : (store : Store) (known : Answered) → known.entries ≡ [] → AreRight store known
none_right store known empty q s e = absurd (cc (ap (λ (entries : List (Pair × Bool)). lookup (PairEq.ghosts.eq q) entries) empty))

-- one with the same entries is right too
pub right_same : (store : Store) (old new : Answered) → AreRight store old → new.entries ≡ old.entries → AreRight store new
right_same store old new known same q s e = known q s (sym (ap (λ (entries : List (Pair × Bool)). lookup (PairEq.ghosts.eq q) entries) same) ∙ e)

-- and one with one more answer
pub right_more : (store : Store) (old new : Answered) (k : Pair) (v : Bool) → AreRight store old → IsFound store k v
    → ((q : Pair) → get PairEq.ghosts.eq new q ≡ (if PairEq.ghosts.eq k q then Some v else get PairEq.ghosts.eq old q)) → AreRight store new
right_more store old new k v known found puts q s e = go (PairEq.ghosts.eq k q) refl
  where
    go : (b : Bool) → PairEq.ghosts.eq k q ≡ b → IsFound store q s
    go true m =
        let p : Some v ≡ Some s = sym (puts q ∙ ap (λ (b : Bool). if b then Some v else get PairEq.ghosts.eq old q) m) ∙ e in
        subst (λ (b : Bool). IsFound store q b) (sym (some_is v s p)) (subst (λ (r : Pair). IsFound store r v) (pair_tested k q m) found)
    go false m = known q s (sym (puts q ∙ ap (λ (b : Bool). if b then Some v else get PairEq.ghosts.eq old q) m) ∙ e)

-- what was found stays right while arenas get nodes
lower_kept : (old new : Store) → IsSound old → IsSound new → Keeps old new → (at : Option TypeRef) → IfSome at (λ at. IsTrue (has old at)) → type_at old at ≡ type_at new at
lower_kept old new sound later keeps None there = refl
lower_kept old new sound later keeps (Some at) there = term_of-kept old new sound later keeps at there

lower_there : (old new : Store) → Keeps old new → (at : Option TypeRef) → IfSome at (λ at. IsTrue (has old at)) → IfSome at (λ at. IsTrue (has new at))
lower_there old new keeps None there = there
lower_there old new keeps (Some at) there = there_kept old new at keeps there

found_later : (old new : Store) → IsSound old → IsSound new → Keeps old new → (pair : Pair) (answer : Bool) → IsFound old pair answer → IsFound new pair answer
found_later old new sound later keeps pair answer found =
    let lower = lower_kept old new sound later keeps pair.lower found.lower in
    let upper = term_of-kept old new sound later keeps pair.upper found.upper in
    record {
      lower = lower_there old new keeps pair.lower found.lower;
      upper = there_kept old new pair.upper keeps found.upper;
      answers = λ normal. found.answers (ap is_normal lower ∙ normal) ∙ (λ i. is_above (upper i) (lower i));
    }

pub right_later : (old new : Store) (known : Remembered) → IsSound old → IsSound new → Keeps old new → IsRight old known → IsRight new known
right_later old new known sound later keeps right q s e = found_later old new sound later keeps q s (right q s e)
