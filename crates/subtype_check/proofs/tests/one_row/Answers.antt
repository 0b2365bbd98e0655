use Rattle.std.proofs.Common.{◌≡◌, ℕ, List, [], ◌∷◌, ◌++◌, refl, sym, ap, subst}
use Rattle.std.specs.Prelude.{All}
use Rattle.std.proofs.lemmas.List.Elements.{All-push}
use Rattle.type_arena.specs.Store.{field_types}
use Rattle.type_arena.specs.declared.node.TypeRef.{TypeRef}
use Rattle.subtype_check.proofs.tests.one_row.Goals as goal

types_behind : (fields : List (List ℕ × TypeRef)) (f : List ℕ × TypeRef) → field_types (fields ++ f ∷ []) ≡ field_types fields ++ f.1 ∷ []
types_behind [] f = refl
types_behind (x ∷ fields) f = ap (λ xs. x.1 ∷ xs) (types_behind fields f)

pushed : (P : TypeRef → Type 0) (fields : List (List ℕ × TypeRef)) (f : List ℕ × TypeRef) → All P (field_types fields) → P f.1 → All P (field_types (fields ++ f ∷ []))
pushed P fields f all own = subst (λ (xs : List TypeRef). All P xs) (sym (types_behind fields f)) (All-push P (field_types fields) f.1 all own)

pub loop-letter-preserved : goal.loop-letter-preserved
loop-letter-preserved c =
    subst (λ (xs : List (List ℕ × TypeRef)). All (λ child. child ≡ c.args.at) (field_types xs)) (sym c.in_ok-push.ensures.items)
    (pushed (λ child. child ≡ c.args.at) c.loop-letter.fields.items _ c.loop-letter.invariant refl)
