-- What stands as an operand, which operator comes next, and what a loop of steps reads.
use Rattle.std.proofs.Common.{◌≡◌, ℕ, zero, suc, ◌<◌, ◌≤◌, Bool, true, false, refl, sym, ◌∙◌, ap, subst, nat_lt, is_some, if◌then◌else◌, ltb-true, ltb-false, lt-ltb, le-ltb}
use Rattle.std.specs.Prelude.{Option, Some, None, Ok}
use Rattle.std.proofs.lemmas.Bool.{true≢false, false≢true}
use Rattle.std.proofs.lemmas.Option.{none-some, same_Some}
use Rattle.luau_tree.specs.declared.position.Span.{Span}
use Rattle.luau_tree.specs.declared.names.BinOp.{BinOp}
use Rattle.luau_tree.specs.Tree.{Expr, ExprKind}
use Rattle.luau_tree.specs.Tree as tree
use Rattle.luau_grammar.specs.Places.{Place, Rules, symbol}
use Rattle.luau_grammar.specs.Phrases.{Phrases}
use Rattle.luau_grammar.specs.Operators.{binary_of, tightness, loosest_left, loosest_right, no_operator}
use Rattle.luau_grammar.specs.Expressions as grammar
use Rattle.luau_grammar.specs.Reading.{Setting, Parser, Outcome, Readers, repeats}
use Rattle.luau_grammar.specs.ReadExpressions.{binary, climb_step, tighter, tighter_by}
use Rattle.luau_grammar.proofs.Assertions.{IsAssertion, IsAssertionForm}
use Rattle.luau_grammar.proofs.Primitives.{Reads, reads_ok, reads_err, reads_if, reads_then, bind_by}
use Rattle.luau_grammar.proofs.Tightness.{Fits}

-- ---- operands

module _ (rules : Rules) (inner : Phrases) where
  assertion_form : (p q : Place) (kind : ExprKind) → IsAssertionForm rules inner p q kind → grammar.IsOperationForm rules inner p q kind
  assertion_form p q (tree.Binary op left right) h = absurd h
  assertion_form p q (tree.Unary op e) h = absurd h
  assertion_form p q kind h = h

  pub assertion_is : (p q : Place) (e : Expr) → IsAssertion rules inner p q e → grammar.IsOperation rules inner p q e
  assertion_is p q (tree.the_expr id span kind) h = (h.0, h.1, assertion_form p q kind h.2)

  left_form : (p q : Place) (id : ℕ) (span : Span) (kind : ExprKind) → IsAssertionForm rules inner p q kind → loosest_left (tree.the_expr id span kind) ≡ no_operator
  left_form p q id span (tree.Binary op left right) h = absurd h
  left_form p q id span (tree.Unary op e) h = absurd h
  left_form p q id span kind h = refl

  right_form : (p q : Place) (id : ℕ) (span : Span) (kind : ExprKind) → IsAssertionForm rules inner p q kind → loosest_right (tree.the_expr id span kind) ≡ no_operator
  right_form p q id span (tree.Binary op left right) h = absurd h
  right_form p q id span (tree.Unary op e) h = absurd h
  right_form p q id span kind h = refl

  pub assertion_left : (p q : Place) (e : Expr) → IsAssertion rules inner p q e → loosest_left e ≡ no_operator
  assertion_left p q (tree.the_expr id span kind) h = left_form p q id span kind h.2

  pub assertion_right : (p q : Place) (e : Expr) → IsAssertion rules inner p q e → loosest_right e ≡ no_operator
  assertion_right p q (tree.the_expr id span kind) h = right_form p q id span kind h.2

-- ---- the next operator

-- no operator that binds tighter comes next
abbrev pub Stops : ℕ → Place → Type 0
Stops least q = (op : BinOp) → binary_of (symbol q) ≡ Some op → tightness op ≤ least

-- an operator that comes next may stand behind this tree
abbrev pub FitsAt : Expr → Place → Type 0
FitsAt e q = (op : BinOp) → binary_of (symbol q) ≡ Some op → Fits op e

tests_true : (b : Bool) (op : BinOp) → is_some (if b then Some op else None) ≡ true → b ≡ true
tests_true true op h = refl
tests_true false op h = absurd (false≢true h)

tests_false : (b : Bool) (op : BinOp) → is_some (if b then Some op else None) ≡ false → b ≡ false
tests_false true op h = absurd (true≢false h)
tests_false false op h = refl

tighter_is : (least : ℕ) (o : Option BinOp) → is_some (tighter_by least o) ≡ true → (op : BinOp) × (o ≡ Some op) × (least < tightness op)
tighter_is least None h = absurd (false≢true h)
tighter_is least (Some op) h = (op, refl, ltb-true least (tightness op) (tests_true (nat_lt least (tightness op)) op h))

tighter_not : (least : ℕ) (o : Option BinOp) → is_some (tighter_by least o) ≡ false → (op : BinOp) → o ≡ Some op → tightness op ≤ least
tighter_not least None h op e = absurd (none-some op e)
tighter_not least (Some other) h op e =
    subst (λ z. tightness z ≤ least) (same_Some other op e)
    (ltb-false least (tightness other) (tests_false (nat_lt least (tightness other)) other h))

tighter_none : (least : ℕ) (o : Option BinOp) → ((op : BinOp) → o ≡ Some op → tightness op ≤ least) → is_some (tighter_by least o) ≡ false
tighter_none least None h = refl
tighter_none least (Some op) h = ap (λ b. is_some (if b then Some op else None)) (le-ltb least (tightness op) (h op refl))

tighter_some : (least : ℕ) (op : BinOp) → least < tightness op → is_some (tighter_by least (Some op)) ≡ true
tighter_some least op h = ap (λ b. is_some (if b then Some op else None)) (lt-ltb least (tightness op) h)

pub next_tighter : (least : ℕ) (p : Place) → is_some (tighter least p) ≡ true → (op : BinOp) × (binary_of (symbol p) ≡ Some op) × (least < tightness op)
unfolding tighter
next_tighter least p h = tighter_is least (binary_of (symbol p)) h

pub stops_at : (least : ℕ) (p : Place) → is_some (tighter least p) ≡ false → Stops least p
unfolding tighter
stops_at least p h = tighter_not least (binary_of (symbol p)) h

pub goes_at : (least : ℕ) (p : Place) (op : BinOp) → binary_of (symbol p) ≡ Some op → least < tightness op → is_some (tighter least p) ≡ true
unfolding tighter
goes_at least p op e h = ap (λ o. is_some (tighter_by least o)) e ∙ tighter_some least op h

pub ends_at : (least : ℕ) (p : Place) → Stops least p → is_some (tighter least p) ≡ false
unfolding tighter
ends_at least p h = tighter_none least (binary_of (symbol p)) h

-- where no operator comes next, none does
pub none_next : (o : Option BinOp) → is_some o ≡ false → (op : BinOp) → o ≡ Some op → ⊥
none_next None h op e = none-some op e
none_next (Some other) h op e = true≢false h

pub no_next : (o : Option BinOp) → ((op : BinOp) → o ≡ Some op → ⊥) → is_some o ≡ false
no_next None h = refl
no_next (Some op) h = absurd (h op refl)

-- ---- steps

pub reads_as : {A : Type 0} {Is : Place → A → Type 0} {o other : Outcome A} → o ≡ other → Reads Is other → Reads Is o
reads_as e r q x h = r q x (sym e ∙ h)

-- a step reads the operator that comes next
pub step_is : (set : Setting) (readers : Readers) (operation : ℕ → Parser Expr) (from : ℕ) (left : Expr) (a : Place) (op : BinOp)
    → binary_of (symbol a) ≡ Some op → climb_step set readers operation from left a ≡ binary set readers operation from left op a
step_is set readers operation from left a op e = rw e refl

module _ (set : Setting) {S : Type 0} (goes : S → Place → Bool) (step : S → Parser S) where
  -- What each step keeps holds in the end, where no further step is taken.
  pub steps_sound : (Holds : Place → S → Type 0)
      → ((p : Place) (x : S) → Holds p x → goes x p ≡ true → Reads Holds (step x p))
      → (turns : ℕ) (p : Place) (x : S) → Holds p x → Reads (λ q y. Holds q y × (goes y q ≡ false)) (repeats set goes step turns x p)
  unfolding repeats
  steps_sound Holds keeps zero p x holds = reads_if (goes x p) (λ h. reads_err _) (λ h. reads_ok _ (holds, h))
  steps_sound Holds keeps (suc turns) p x holds =
      reads_if (goes x p)
      (λ h. reads_then (keeps p x holds h) (λ a y n. steps_sound Holds keeps turns a y n))
      (λ h. reads_ok _ (holds, h))

  pub steps_end : (turns : ℕ) (p : Place) (x : S) → goes x p ≡ false → repeats set goes step turns x p ≡ Ok (x, p)
  unfolding repeats
  steps_end zero p x h = rw h refl
  steps_end (suc turns) p x h = rw h refl

  pub one_step : (turns : ℕ) (p q : Place) (x y : S) → goes x p ≡ true → step x p ≡ Ok (y, q)
      → repeats set goes step (suc turns) x p ≡ repeats set goes step turns y q
  unfolding repeats
  one_step turns p q x y h e = rw h (bind_by (step x p) (repeats set goes step turns) e refl)
