-- Nodes that have the next numbers, one by one.
use Rattle.std.proofs.Common.{◌≡◌, ℕ, zero, suc, ◌+◌, List, [], ◌∷◌, ◌++◌, map, length, refl, ap, ◌∙◌, arith}
use Rattle.std.specs.List.{range_with_len}
use Rattle.std.proofs.lemmas.List.{map-append, length-append}
use Rattle.luau_tree.specs.Nodes.{Node, AnExpr, ABody, ABind, exprs_among, bodies_among, expr_number, body_number}
use Rattle.luau_tree.specs.Tree.{Expr, Bind, Body}
use Rattle.tree_numbers.specs.declared.numbers.Numbers.{Numbers}

-- Among `new` the expressions and bodies have the numbers from `n` on to before `m`, and there are as many as in `old`.
pub record Counted (old new : List Node) (n m : Numbers) : Type 0 where
  pub exprs : map expr_number (exprs_among new) ≡ range_with_len n.exprs (length (exprs_among old))
  pub bodies : map body_number (bodies_among new) ≡ range_with_len n.bodies (length (bodies_among old))
  pub next_exprs : m.exprs ≡ n.exprs + length (exprs_among old)
  pub next_bodies : m.bodies ≡ n.bodies + length (bodies_among old)

exprs_append : (xs ys : List Node) → exprs_among (xs ++ ys) ≡ exprs_among xs ++ exprs_among ys
exprs_append [] ys = refl
exprs_append (AnExpr e ∷ xs) ys = ap (λ rest. e ∷ rest) (exprs_append xs ys)
exprs_append (ABody body ∷ xs) ys = exprs_append xs ys
exprs_append (ABind bind ∷ xs) ys = exprs_append xs ys

bodies_append : (xs ys : List Node) → bodies_among (xs ++ ys) ≡ bodies_among xs ++ bodies_among ys
bodies_append [] ys = refl
bodies_append (AnExpr e ∷ xs) ys = bodies_append xs ys
bodies_append (ABody body ∷ xs) ys = ap (λ rest. body ∷ rest) (bodies_append xs ys)
bodies_append (ABind bind ∷ xs) ys = bodies_append xs ys

-- the numbers from one on, and those behind them
range_append : (a k l b j : ℕ) → b ≡ a + k → j ≡ k + l → range_with_len a k ++ range_with_len b l ≡ range_with_len a j
range_append a zero l b j eb ej = rw (eb, ej) (ap (λ x. range_with_len x l) (omega arith) ∙ ap (λ x. range_with_len a x) (omega arith))
range_append a (suc k) l b zero eb ej = absurd (omega arith)
range_append a (suc k) l b (suc j) eb ej = ap (λ rest. a ∷ rest) (range_append (a + 1) k l b j (omega arith) (omega arith))

-- the length of both
total : {A : Type 0} (whole xs ys : List A) → whole ≡ xs ++ ys → length whole ≡ length xs + length ys
total whole xs ys e = ap length e ∙ length-append xs ys

-- the numbers of both
numbers : {A : Type 0} (number : A → ℕ) (whole xs ys : List A) (a k l b j : ℕ) → whole ≡ xs ++ ys
    → map number xs ≡ range_with_len a k → map number ys ≡ range_with_len b l → b ≡ a + k → j ≡ k + l
    → map number whole ≡ range_with_len a j
numbers number whole xs ys a k l b j e ex ey eb ej =
    ap (map number) e ∙ map-append number xs ys ∙ ap (λ zs. zs ++ map number ys) ex ∙ ap (λ zs. range_with_len a k ++ zs) ey
    ∙ range_append a k l b j eb ej

pub none : (n : Numbers) → Counted [] [] n n
none n = record { exprs = refl; bodies = refl; next_exprs = omega arith; next_bodies = omega arith }

pub join : {o1 w1 o2 w2 : List Node} {n m k : Numbers} → Counted o1 w1 n m → Counted o2 w2 m k → Counted (o1 ++ o2) (w1 ++ w2) n k
join {o1} {w1} {o2} {w2} p q =
    let es = total _ _ _ (exprs_append o1 o2) in
    let bs = total _ _ _ (bodies_append o1 o2) in
    record {
      exprs = numbers expr_number _ _ _ _ _ _ _ _ (exprs_append w1 w2) p.exprs q.exprs p.next_exprs es;
      bodies = numbers body_number _ _ _ _ _ _ _ _ (bodies_append w1 w2) p.bodies q.bodies p.next_bodies bs;
      next_exprs = omega (arith, es, p.next_exprs, q.next_exprs);
      next_bodies = omega (arith, bs, p.next_bodies, q.next_bodies);
    }

abbrev one_more : Numbers → Numbers
one_more n = record { exprs = n.exprs + 1; bodies = n.bodies }

abbrev one_body_more : Numbers → Numbers
one_body_more n = record { exprs = n.exprs; bodies = n.bodies + 1 }

-- the numbers from the next one on
from_next : (a l : ℕ) (xs : List ℕ) → xs ≡ range_with_len (a + 1) l → a ∷ xs ≡ range_with_len a (suc l)
from_next a l xs e = ap (λ rest. a ∷ rest) e

pub one_expr : {w o : List Node} {n m : Numbers} {x y : Expr} → expr_number y ≡ n.exprs → Counted o w (one_more n) m
    → Counted (AnExpr x ∷ o) (AnExpr y ∷ w) n m
one_expr {w} e p = record {
  exprs = ap (λ a. a ∷ map expr_number (exprs_among w)) e ∙ from_next _ _ _ p.exprs;
  bodies = p.bodies;
  next_exprs = omega (arith, p.next_exprs);
  next_bodies = p.next_bodies;
}

pub one_body : {w o : List Node} {n m : Numbers} {x y : Body} → body_number y ≡ n.bodies → Counted o w (one_body_more n) m
    → Counted (ABody x ∷ o) (ABody y ∷ w) n m
one_body {w} e p = record {
  exprs = p.exprs;
  bodies = ap (λ a. a ∷ map body_number (bodies_among w)) e ∙ from_next _ _ _ p.bodies;
  next_exprs = p.next_exprs;
  next_bodies = omega (arith, p.next_bodies);
}

pub one_bind : {o w : List Node} {n m : Numbers} {x y : Bind} → Counted o w n m → Counted (ABind x ∷ o) (ABind y ∷ w) n m
one_bind p = record { exprs = p.exprs; bodies = p.bodies; next_exprs = p.next_exprs; next_bodies = p.next_bodies }
