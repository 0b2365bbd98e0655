-- One more operation within another.
use Rattle.std.proofs.Common.{◌≡◌, ℕ, suc, refl, sym, ◌∙◌, ap}
use Rattle.std.specs.Prelude.{Ok, Err}
use Rattle.luau_tree.specs.Tree.{Expr}
use Rattle.luau_grammar.specs.declared.error.ParseError.{ParseError}
use Rattle.luau_grammar.specs.Places.{Place, start_of}
use Rattle.luau_grammar.specs.Reading.{Setting, Readers, and_then}
use Rattle.luau_grammar.specs.ReadExpressions.{operand, climb, climb_from, operation}

operation_is : (set : Setting) (inner : Readers) (turns m least : ℕ) (p : Place) → turns ≡ suc m
    → operation set inner turns least p ≡ and_then (operand set inner (operation set inner m) p) (climb_from set inner (operation set inner m) least (start_of p))
unfolding operation climb
operation_is set inner turns m least p e = rw e refl

-- the first operand is read, and then the operators behind it
pub operation_reads : (set : Setting) (inner : Readers) (turns m least from : ℕ) (p q : Place) (x : Expr) → turns ≡ suc m → from ≡ start_of p
    → operand set inner (operation set inner m) p ≡ Ok (x, q) → operation set inner turns least p ≡ climb_from set inner (operation set inner m) least from x q
operation_reads set inner turns m least from p q x e f h =
    operation_is set inner turns m least p e
    ∙ ap (λ r. and_then r (climb_from set inner (operation set inner m) least (start_of p))) h
    ∙ ap (λ s. climb_from set inner (operation set inner m) least s x q) (sym f)

-- the first operand isn't read
pub operation_fails : (set : Setting) (inner : Readers) (turns m least : ℕ) (p : Place) (fault : ParseError) → turns ≡ suc m
    → operand set inner (operation set inner m) p ≡ Err fault → operation set inner turns least p ≡ Err fault
operation_fails set inner turns m least p fault e h =
    operation_is set inner turns m least p e
    ∙ ap (λ r. and_then r (climb_from set inner (operation set inner m) least (start_of p))) h
