-- Imports by their numbers.
use Rattle.std.proofs.Common.{◌≡◌, ℕ, ◌-◌, ◌<◌, ◌≤◌, Bool, List, length, get_or, drop, refl, sym, ap, ◌∙◌, arith}
use Rattle.std.specs.Prelude.{◌==◌, Option, Some, if◌then◌else◌}
use Rattle.std.specs.Ordering.{nat_cmp, is_eq}
use Rattle.std.proofs.lemmas.Grind.{common_steps}
use Rattle.luau_tree.specs.declared.names.ExprId.{ExprId}
use Rattle.type_arena.specs.declared.node.TypeRef.{TypeRef}
use Rattle.infer_plan.proofs.Plans.{here}
use Rattle.type_infer.specs.Imports.{import_at}

at_number : (k q : ℕ) → is_eq (nat_cmp k q) ≡ (k == q)
at_number k q = grind (arith, common_steps)

-- one more, which stands before those that were found
pub one_found : (xs : List (ExprId × TypeRef)) (d : ExprId × TypeRef) (i id : ℕ) (rest : Option TypeRef) → rest ≡ import_at (drop i xs) id → 0 < i → i ≤ length xs
    → (if is_eq (nat_cmp (get_or xs (i - 1) d).0.0 id) then Some (get_or xs (i - 1) d).1 else rest) ≡ import_at (drop (i - 1) xs) id
one_found xs d i id rest found some within =
    let x = get_or xs (i - 1) d in
    ap (λ (b : Bool). if b then Some x.1 else rest) (at_number x.0.0 id)
    ∙ ap (λ (r : Option TypeRef). if x.0.0 == id then Some x.1 else r) found
    ∙ sym (ap (λ (ys : List (ExprId × TypeRef)). import_at ys id) (here xs x d i refl some within))
