-- Expressions that begin with one another: one more, and the way back.
use Rattle.std.proofs.Common.{◌≡◌, ℕ, List, [], ◌∷◌, ◌++◌, refl, sym, ap, ◌∙◌}
use Rattle.luau_tree.specs.declared.tree as code
use Rattle.luau_tree.specs.declared.names.ExprId.{ExprId}
use Rattle.luau_tree.specs.declared.position.Span.{Span}
use Rattle.luau_tree.specs.Tree.{Expr}
use Rattle.luau_tree.specs.View.{view_expr, view_expr_kind}
use Rattle.tree_numbers.specs.declared.numbers.Numbers.{Numbers}
use Rattle.tree_numbers.specs.declared.tails.Tail.{Tail}
use Rattle.tree_numbers.specs.declared.tails.Outer.{Outer}
use Rattle.tree_numbers.specs.declared.tails.Opened.{Opened}
use Rattle.tree_numbers.specs.declared.tails.Opened.TheVariants as opened
use Rattle.tree_numbers.specs.Counting.{go_on, next_expr}
use Rattle.tree_numbers.specs.Numbered.{of_expr, of_expr_kind}
use Rattle.tree_numbers.specs.Outcomes.{at_number}
use Rattle.tree_numbers.specs.Tails.{with_tail, closed, goes_on}
use Rattle.tree_numbers.proofs.Layers.{expr_layer}

-- the last of them is the first that is closed
pub closed_last : (xs : List Outer) (x : Outer) (e : Expr) (n : Numbers)
    → closed (xs ++ x ∷ []) e n ≡ go_on (closed xs) (at_number x.id.0 x.span (with_tail x.tail e) n)
closed_last [] x e n = refl
closed_last (y ∷ xs) x e n = ap (go_on (λ a. at_number y.id.0 y.span (with_tail y.tail a))) (closed_last xs x e n)

-- an expression behind its number
behind_number : (inner : code.Expr.Expr) (n n1 : Numbers) (id : ℕ) → next_expr n ≡ (id, n1)
    → of_expr (view_expr inner) n ≡ at_number id inner.span (of_expr_kind (view_expr_kind inner.kind)) n1
behind_number inner n n1 id e =
    ap (λ x. of_expr x n) (expr_layer inner)
    ∙ ap (λ p. at_number p.0 inner.span (of_expr_kind (view_expr_kind inner.kind)) p.1) e

-- one turn inwards
pub opens : (all : Expr) (first n n1 m : Numbers) (outer : List Outer) (inner : code.Expr.Expr) (id : ℕ) (found : Opened)
    → of_expr all first ≡ go_on (closed outer) (of_expr (view_expr inner) n)
    → next_expr n ≡ (id, n1)
    → at_number id inner.span (of_expr_kind (view_expr_kind inner.kind)) n1 ≡ goes_on id inner.span found m
    → of_expr all first ≡ go_on (closed outer) (goes_on id inner.span found m)
opens all first n n1 m outer inner id found h e o =
    h ∙ ap (go_on (closed outer)) (behind_number inner n n1 id e ∙ o)

-- one more expression that begins with another one
pub more : (outer outer2 : List Outer) (id : ExprId) (span : Span) (tail : Tail) (begun : code.Expr.Expr) (m : Numbers)
    → outer2 ≡ outer ++ record { id = id; span = span; tail = tail } ∷ []
    → go_on (closed outer) (goes_on id.0 span (opened.Begun begun tail) m) ≡ go_on (closed outer2) (of_expr (view_expr begun) m)
more outer outer2 id span tail begun m e =
    sym (closed_last outer record { id = id; span = span; tail = tail } (of_expr (view_expr begun) m).0 (of_expr (view_expr begun) m).1)
    ∙ ap (λ xs. go_on (closed xs) (of_expr (view_expr begun) m)) (sym e)

-- one turn inwards, where one more expression begins with another one
pub turn : (all : Expr) (first n n1 m : Numbers) (outer outer2 : List Outer) (inner : code.Expr.Expr) (id : ExprId) (tail : Tail) (begun : code.Expr.Expr)
    → of_expr all first ≡ go_on (closed outer) (of_expr (view_expr inner) n)
    → next_expr n ≡ (id.0, n1)
    → at_number id.0 inner.span (of_expr_kind (view_expr_kind inner.kind)) n1 ≡ goes_on id.0 inner.span (opened.Begun begun tail) m
    → outer2 ≡ outer ++ record { id = id; span = inner.span; tail = tail } ∷ []
    → of_expr all first ≡ go_on (closed outer2) (of_expr (view_expr begun) m)
turn all first n n1 m outer outer2 inner id tail begun h e o grown =
    opens all first n n1 m outer inner id.0 (opened.Begun begun tail) h e o ∙ more outer outer2 id inner.span tail begun m grown

-- the last turn inwards
pub stop : (all : Expr) (first n n1 m : Numbers) (outer : List Outer) (inner done : code.Expr.Expr) (id : ExprId)
    → of_expr all first ≡ go_on (closed outer) (of_expr (view_expr inner) n)
    → next_expr n ≡ (id.0, n1)
    → at_number id.0 inner.span (of_expr_kind (view_expr_kind inner.kind)) n1 ≡ goes_on id.0 inner.span (opened.Done done) m
    → of_expr all first ≡ closed outer (view_expr done) m
stop all first n n1 m outer inner done id h e o = opens all first n n1 m outer inner id.0 (opened.Done done) h e o

-- one turn outwards
pub closes : (all : Expr × Numbers) (rest rest2 : List Outer) (x : Outer) (e e2 : Expr) (n m : Numbers)
    → all ≡ closed rest e n → rest ≡ rest2 ++ x ∷ [] → at_number x.id.0 x.span (with_tail x.tail e) n ≡ (e2, m)
    → all ≡ closed rest2 e2 m
closes all rest rest2 x e e2 n m h er o =
    h ∙ ap (λ xs. closed xs e n) er ∙ closed_last rest2 x e n ∙ ap (go_on (closed rest2)) o
