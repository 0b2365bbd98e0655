-- What was seen, with another type at one place.
use Rattle.std.proofs.Common.{◌≡◌, ℕ, zero, suc, ◌<◌, ◌≤◌, List, [], ◌∷◌, length, refl, ap, ◌∙◌, arith}
use Rattle.std.specs.Prelude.{map, slice_set, slice_index_or}
use Rattle.type_arena.specs.Term.{Term}
use Rattle.type_arena.specs.declared.node.TypeRef.{TypeRef}
use Rattle.local_types.specs.Entries.{arenas_of, type_of}
use Rattle.local_types.specs.declared.types.LocalTypes.{LocalTypes}
use Rattle.report_rules.specs.Seen.{Seen as PlainSeen}
use Rattle.rule_state.specs.Answers.{seen_in}
use Rattle.rule_work.specs.Moves.{retyped, retyped_at}
use Rattle.rule_state.specs.Work.{seen_of, retyped_ref}
use Rattle.rule_state.specs.declared.point.Seen.{Seen}
use Rattle.rule_state.specs.declared.point.Seen.TheVariants.{Expr, Body}

one_retyped : (types : LocalTypes) (at : TypeRef) (seen : Seen) → seen_of types (retyped_ref at seen) ≡ retyped (type_of types at) (seen_of types seen)
one_retyped types at (Expr id old live) = refl
one_retyped types at (Body id live) = refl

pub list_retyped : (types : LocalTypes) (at : TypeRef) (xs : List Seen) (i : ℕ) (d : Seen) → i < length xs → map (seen_of types) (slice_set xs i (retyped_ref at (slice_index_or xs i d))) ≡ retyped_at (type_of types at) i (map (seen_of types) xs)
list_retyped types at [] i d inside = absurd (omega (arith, inside))
list_retyped types at (x ∷ xs) zero d inside = ap (λ (first : PlainSeen). first ∷ map (seen_of types) xs) (one_retyped types at x)
list_retyped types at (x ∷ xs) (suc i) d inside = ap (λ (rest : List PlainSeen). seen_of types x ∷ rest) (list_retyped types at xs i d (omega (arith, inside)))

pub past_retyped : (type : Term) (i : ℕ) (xs : List PlainSeen) → length xs ≤ i → retyped_at type i xs ≡ xs
past_retyped type i [] past = refl
past_retyped type zero (x ∷ xs) past = absurd (omega (arith, past))
past_retyped type (suc i) (x ∷ xs) past = ap (λ (rest : List PlainSeen). x ∷ rest) (past_retyped type i xs (omega (arith, past)))

-- the same by the arena of the types
seen_in_arena : (types : LocalTypes) (seen : Seen) → seen_in (arenas_of types) seen ≡ seen_of types seen
seen_in_arena types (Expr id at live) = refl
seen_in_arena types (Body id live) = refl

pub all_seen_in : (types : LocalTypes) (seen : List Seen) → map (seen_in (arenas_of types)) seen ≡ map (seen_of types) seen
all_seen_in types [] = refl
all_seen_in types (one ∷ seen) = ap (λ (first : PlainSeen). first ∷ map (seen_in (arenas_of types)) seen) (seen_in_arena types one) ∙ ap (λ (rest : List PlainSeen). seen_of types one ∷ rest) (all_seen_in types seen)
