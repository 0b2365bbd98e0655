-- The one type of a list.
use Rattle.std.proofs.Common.{◌≡◌, Bool, true, false, List, [], ◌∷◌, ◌++◌, map, refl, sym, ◌∙◌, ap}
use Rattle.std.specs.Prelude.{Option, Some, None, is_some, MatchOption}
use Rattle.luau_tree.specs.declared.tree.TypeSyntax.{TypeSyntax}
use Rattle.luau_tree.specs.View.{view_type}
use Rattle.luau_grammar.specs.Phrases.{one_of}
use Rattle.phrase_reader.specs.Outcomes.{seen_option}

false_true : {A : Type 0} → false ≡ true → A
false_true h = absurd (cc)

pub not_some : {A : Type 0} (o : Option A) → is_some o ≡ false → o ≡ None
not_some None e = refl
not_some (Some x) e = false_true (sym e)

last_is_one : (ys : List TypeSyntax) (t : TypeSyntax) → is_some (one_of (map view_type (ys ++ t ∷ []))) ≡ true
    → Some (view_type t) ≡ one_of (map view_type (ys ++ t ∷ []))
last_is_one [] t h = refl
last_is_one (y ∷ []) t h = false_true h
last_is_one (y ∷ z ∷ zs) t h = false_true h

-- what the last of a list of one is
pub popped : (xs ys : List TypeSyntax) (r : Option TypeSyntax) → is_some (one_of (map view_type xs)) ≡ true
    → MatchOption r ((xs ≡ []) × (ys ≡ [])) (λ last. xs ≡ ys ++ last ∷ []) → seen_option r ≡ one_of (map view_type xs)
popped xs ys None h m = false_true (ap (λ l. is_some (one_of (map view_type l))) (sym m.0) ∙ h)
popped xs ys (Some t) h m =
    last_is_one ys t (ap (λ l. is_some (one_of (map view_type l))) (sym m) ∙ h) ∙ ap (λ l. one_of (map view_type l)) (sym m)
