-- Marks of types: one more of them, and their numbers.
use Rattle.std.proofs.Common.{◌≡◌, List, [], ◌∷◌, ◌++◌, refl, ap, ◌∙◌}
use Rattle.luau_tree.specs.declared.position.Span.{Span}
use Rattle.luau_tree.specs.Tree.{TypeSyntax, the_type, Optional}
use Rattle.tree_numbers.specs.declared.numbers.Numbers.{Numbers}
use Rattle.tree_numbers.specs.Marks.{marked}
use Rattle.tree_numbers.specs.Numbered.{of_type}

-- the last of them is the first that is put
pub marked_last : (xs : List Span) (span : Span) (t : TypeSyntax) → marked (xs ++ span ∷ []) t ≡ marked xs (the_type span (Optional t))
marked_last [] span t = refl
marked_last (x ∷ xs) span t = ap (λ u. the_type x (Optional u)) (marked_last xs span t)

-- marks have no numbers
pub of_marked : (xs : List Span) (t : TypeSyntax) (n : Numbers) → of_type (marked xs t) n ≡ (marked xs (of_type t n).0, (of_type t n).1)
of_marked [] t n = refl
of_marked (x ∷ xs) t n = ap (λ p. (the_type x (Optional p.0), p.1)) (of_marked xs t n)

pub marked_gives : (xs : List Span) (t t2 : TypeSyntax) (n m : Numbers) → of_type t n ≡ (t2, m) → of_type (marked xs t) n ≡ (marked xs t2, m)
marked_gives xs t t2 n m e = of_marked xs t n ∙ ap (λ p. (marked xs p.0, p.1)) e
