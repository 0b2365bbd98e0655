-- Each body of a module has its own annotations.
use Rattle.std.proofs.Common.{◌≡◌, ℕ, zero, suc, ◌<◌, Bool, false, List, [], ◌∷◌, cond, length, get_or, map, refl, ap, ◌∙◌, arith, eq-eqb}
use Rattle.std.specs.Prelude.{◌==◌, Option, Some, All}
use Rattle.std.specs.Option.{option_map_or}
use Rattle.std.specs.List.{find, IsDistinct, AllByRecursion}
use Rattle.luau_tree.specs.Tree.{Block}
use Rattle.type_normal.specs.Kinds.{unknown}
use Rattle.annotations.specs.Annotated.{Annotated, annotation, in_block, type_at}
use Rattle.type_lower.specs.Parameters.{AreSaid}

apart : (n : ℕ) (xs : List Annotated) (k : ℕ) (d : Annotated) → k < length xs → AllByRecursion (λ (m : ℕ). (n == m) ≡ false) (map (λ (a : Annotated). a.function) xs) → (n == (get_or xs k d).function) ≡ false
apart n [] k d l h = absurd (omega arith)
apart n (x ∷ xs) zero d l h = h.0
apart n (x ∷ xs) (suc k) d l h = apart n xs k d (let s : k < length xs = omega arith in s) h.1

found : (xs : List Annotated) (k : ℕ) (d : Annotated) → k < length xs → IsDistinct (λ (m n : ℕ). m == n) (map (λ (a : Annotated). a.function) xs)
    → find (λ (b : Annotated). b.function == (get_or xs k d).function) xs ≡ Some (get_or xs k d)
unfolding IsDistinct
found [] k d l h = absurd (omega arith)
found (x ∷ xs) zero d l h = ap (λ (b : Bool). cond b (Some x) (find (λ (a : Annotated). a.function == x.function) xs)) (eq-eqb x.function x.function refl)
found (x ∷ xs) (suc k) d l h =
    ap (λ (b : Bool). cond b (Some x) (find (λ (a : Annotated). a.function == (get_or xs k d).function) xs)) (apart x.function xs k d (let s : k < length xs = omega arith in s) h.0)
    ∙ found xs k d (let s : k < length xs = omega arith in s) h.1

pub said : (block : Block) → IsDistinct (λ (m n : ℕ). m == n) (map (λ (a : Annotated). a.function) (in_block [] block)) → All (AreSaid (annotation block)) (in_block [] block)
said block h k d l index = ap (λ (o : Option Annotated). option_map_or (λ (a : Annotated). type_at index a.params) o unknown) (found (in_block [] block) k d l h)
