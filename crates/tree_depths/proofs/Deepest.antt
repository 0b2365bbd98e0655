-- The phrases that hold one another, at each depth, and what follows for modules.
use Rattle.std.proofs.Common.{◌≡◌, ℕ, zero, suc, ◌+◌, ◌-◌, ◌*◌, ◌≤◌, ◌⊎◌, List, inl, inr, refl, ap, ◌∙◌, subst, arith}
use Rattle.std.proofs.Math.Nat.{suc-mul, mul-suc}
use Rattle.std.specs.Prelude.{Some, None}
use Rattle.luau_tree.specs.Tree.{Block, Expr, TypeSyntax}
use Rattle.luau_tree.specs.View.{types}
use Rattle.luau_lex.specs.Tokens.{Tok}
use Rattle.luau_grammar.specs.Places.{Place, Rules, raised}
use Rattle.luau_grammar.specs.Phrases.{Listed}
use Rattle.luau_grammar.specs.Types.{IsType}
use Rattle.luau_grammar.specs.Expressions.{IsExpression}
use Rattle.luau_grammar.specs.Statements.{IsBlock}
use Rattle.luau_grammar.specs.Modules.{IsBare, phrases, before}
use Rattle.luau_grammar.specs.Laws.{StandUpTo}
use Rattle.luau_grammar.specs.Reading.{Setting}
use Rattle.luau_grammar.proofs.CompleteTypes.{type_bounded}
use Rattle.tree_depths.specs.Depths.{of_block, of_expr, of_type, of_types, deepest}
use Rattle.tree_depths.proofs.DeepTypes.{Held, wide}
use Rattle.tree_depths.proofs.DeepTypes as written
use Rattle.tree_depths.proofs.DeepValues as values
use Rattle.tree_depths.proofs.DeepStatements as statements

-- how deep a phrase is at most where so many levels are left
abbrev most_with : ℕ → ℕ
most_with zero = 0
most_with (suc left) = left + left + 7 + most_with left

one_more : (left : ℕ) → most_with left ≤ most_with (suc left)
one_more left = let l : most_with left ≤ left + left + 7 + most_with left = omega arith in l

grows : (k left more : ℕ) → more ≡ k + left → most_with left ≤ most_with more
grows zero left more e = let same : left ≡ more = omega (arith, e) in subst (λ n. most_with left ≤ most_with n) same (omega arith)
grows (suc k) left zero e = absurd (omega (arith, e))
grows (suc k) left (suc more) e =
    let l : most_with left ≤ most_with more = grows k left more (omega (arith, e)) in
    let m : most_with more ≤ most_with (suc more) = one_more more in
    omega (arith, l, m)

-- as a product
product : (n : ℕ) → most_with n ≡ deepest n
product zero = refl
product (suc n) =
    let a : most_with n ≡ n * (n + 6) = product n in
    let b : suc n * (suc n + 6) ≡ n * (suc n + 6) + (suc n + 6) = suc-mul n (suc n + 6) in
    let c : n * suc (n + 6) ≡ n * (n + 6) + n = mul-suc n (n + 6) in
    let d : n * (suc n + 6) ≡ n * suc (n + 6) = ap (λ m. n * m) (omega arith) in
    let e : n + n + 7 + most_with n ≡ suc n * (suc n + 6) = omega (arith, a, b, c, d) in
    e

-- the levels that are left behind a level, as those before it see them
module _ (limit low at : ℕ) (l : low ≤ at) (m : at + 1 ≤ limit) where
  next_most : most_with (suc (limit - (at + 1))) ≤ most_with (limit - at)
  next_most = grows 0 (suc (limit - (at + 1))) (limit - at) (omega (arith, m))

  first_most : most_with (limit - at) ≤ most_with (limit - low)
  first_most = grows (at - low) (limit - at) (limit - low) (omega (arith, l, m))

  raised_most : (n : ℕ) → (let left = limit - (at + 1) in n ≤ left + left + 7 + most_with left) → n ≤ most_with (limit - low)
  raised_most n k =
      let a : n ≤ most_with (suc (limit - (at + 1))) = k in
      let b = next_most in
      let c = first_most in
      omega (arith, a, b, c)

module _ (rules : Rules) (limit : ℕ) (bounded : StandUpTo rules limit) where
  setting : Setting
  setting = record { rules = rules; limit = limit; len = 0 }

  -- what is known of the phrases one deeper, behind a level
  module _ (deep : ℕ) (held : (low : ℕ) → Held low (most_with (limit - low)) (limit - low) (phrases rules deep)) (low : ℕ) (p a : Place) (k : low ≤ p.level) where
    left : ℕ
    left = limit - (p.level + 1)

    fits : limit ≤ (p.level + 1) + left
    unfolding left
    fits = omega arith

    exp_at : (e : Expr) → IsExpression rules (phrases rules deep) (raised p) a e → of_expr e ≤ most_with (limit - low)
    unfolding left
    exp_at e h =
        let w = values.whole rules limit bounded (phrases rules deep) (p.level + 1) (most_with left) left fits (held (p.level + 1)) (raised p) a e (omega arith) h in
        let d : of_expr e ≤ left + 1 + suc (suc (suc (left + 3 + most_with left))) = w.1 in
        raised_most limit low p.level k w.0 (of_expr e) (omega (arith, d))

    typ_at : (t : TypeSyntax) → IsType rules (phrases rules deep) None (raised p) a t → of_type t ≤ most_with (limit - low)
    unfolding left setting
    typ_at t h =
        let l : p.level + 1 ≤ limit = type_bounded setting (phrases rules deep) bounded (raised p) a t h in
        let w = written.whole rules limit bounded (phrases rules deep) (p.level + 1) (most_with left) left fits (held (p.level + 1)) None (raised p) a t
        (wide (most_with left) left) (omega arith) (omega arith) tt h in
        let d : of_type t ≤ left + 3 + (left + 3 + most_with left) = w.1 in
        raised_most limit low p.level k l (of_type t) (omega (arith, d))

    begun_at : (b : Listed) (t : TypeSyntax) (n : ℕ) → most_with (limit - low) ≤ n → of_types (types b.types) ≤ n
        → IsType rules (phrases rules deep) (Some b) (raised p) a t → of_type t ≤ (limit - low) + 2 + n
    unfolding left
    begun_at b t n m f h = by_left (limit - p.level) refl
      where
        by_left : (r : ℕ) → limit - p.level ≡ r → of_type t ≤ (limit - low) + 2 + n
        by_left zero e =
            let w = written.alone rules limit bounded (phrases rules deep) b (raised p) a t n (omega (arith, e)) f h in
            let d : of_type t ≤ n = w.1 in
            omega (arith, d)
        by_left (suc r) e =
            let l : p.level + 1 ≤ limit = omega (arith, e) in
            let x : most_with (suc left) ≤ most_with (limit - p.level) = next_most limit low p.level k l in
            let y : most_with (limit - p.level) ≤ most_with (limit - low) = first_most limit low p.level k l in
            let z : left + left + 7 + most_with left ≤ n = omega (arith, m, x, y) in
            let w = written.whole rules limit bounded (phrases rules deep) (p.level + 1) (most_with left) left fits (held (p.level + 1)) (Some b) (raised p) a t n
            (omega arith) (omega (arith, z)) f h in
            let d : of_type t ≤ left + 3 + n = w.1 in
            omega (arith, k, l, d)

    block_at : (b : Block) → IsBlock rules (phrases rules deep) (raised p) a b → of_block b ≤ most_with (limit - low)
    unfolding left
    block_at b h = by_case (statements.whole rules limit bounded (phrases rules deep) (p.level + 1) (most_with left) left fits (held (p.level + 1)) (raised p) a b (omega arith) h)
      where
        by_case : (of_block b ≡ 0) ⊎ ((p.level + 1 ≤ limit) × (of_block b ≤ suc (suc (left + 3 + most_with left)))) → of_block b ≤ most_with (limit - low)
        by_case (inl e) = omega (arith, e)
        by_case (inr (l, d)) = raised_most limit low p.level k l (of_block b) (omega (arith, d))

  held_at : (deep low : ℕ) → Held low (most_with (limit - low)) (limit - low) (phrases rules deep)
  held_at zero low = record {
    exp = λ p q e k h. absurd h;
    typ = λ p q t k h. absurd h;
    begun = λ b p q t n k m f h. absurd h;
    block = λ p q b k h. absurd h;
  }
  held_at (suc deep) low = record {
    exp = λ p q e k h. (ap (λ (z : Place). z.level) h.2, exp_at deep (held_at deep) low p h.0 k e h.1);
    typ = λ p q t k h. (ap (λ (z : Place). z.level) h.2, typ_at deep (held_at deep) low p h.0 k t h.1);
    begun = λ b p q t n k m f h. (ap (λ (z : Place). z.level) h.2, begun_at deep (held_at deep) low p h.0 k b t n m f h.1);
    block = λ p q b k h. (ap (λ (z : Place). z.level) h.2, block_at deep (held_at deep) low p h.0 k b h.1);
  }

pub bare_deep : (rules : Rules) (limit : ℕ) → StandUpTo rules limit → (ts : List Tok) (b : Block) → IsBare rules ts b → of_block b ≤ deepest limit
bare_deep rules limit bounded ts b is =
    let d : of_block b ≤ most_with (limit - 0) = ((held_at rules limit bounded is.0 0).block (before ts) is.1 b (omega arith) is.2).1 in
    let all : limit - 0 ≡ limit = omega arith in
    let e : most_with (limit - 0) ≡ deepest limit = ap most_with all ∙ product limit in
    subst (λ n. of_block b ≤ n) e d
