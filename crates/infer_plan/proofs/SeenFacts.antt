-- What was seen of an expression whose type came later.
use Rattle.std.proofs.Common.{◌≡◌, ℕ, zero, suc, List, [], ◌∷◌, ◌++◌, length, refl, ap, ◌∙◌, append_assoc}
use Rattle.type_arena.specs.Term.{Term}
use Rattle.report_rules.specs.Seen.{Seen}
use Rattle.rule_work.specs.Moves.{retyped, retyped_at}

-- the type of the one behind some
pub retyped_behind : (type : Term) (first : List Seen) (one : Seen) (rest : List Seen)
    → retyped_at type (length first) ((first ++ one ∷ []) ++ rest) ≡ first ++ (retyped type one ∷ rest)
retyped_behind type [] one rest = refl
retyped_behind type (x ∷ first) one rest = ap (λ (xs : List Seen). x ∷ xs) (retyped_behind type first one rest)
