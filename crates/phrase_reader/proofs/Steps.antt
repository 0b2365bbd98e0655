-- One more of a list, seen by a view.
use Rattle.std.proofs.Common.{◌≡◌, List, [], ◌∷◌, ◌++◌, map, sym, ap, ◌∙◌}
use Rattle.std.proofs.lemmas.List.{map-append}
use Rattle.std.specs.Prelude.{Ok, Result}
use Rattle.luau_grammar.specs.declared.error.ParseError.{ParseError}
use Rattle.luau_grammar.specs.Places.{Place}

pub one_more : {A B : Type 0} (f : A → B) (xs : List A) (x : A) (all : List A) → all ≡ xs ++ x ∷ [] → map f xs ++ f x ∷ [] ≡ map f all
one_more f xs x all e = sym (ap (map f) e ∙ map-append f xs (x ∷ []))

-- the outcome with an equal list
pub ok_same : {A : Type 0} (x y : A) (q : Place) (r : Result (A × Place) ParseError) → r ≡ Ok (x, q) → x ≡ y → r ≡ Ok (y, q)
ok_same x y q r is e = is ∙ ap (λ z. Ok (z, q)) e
