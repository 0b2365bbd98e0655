-- The parsers of operations depend on what they take, however many turns they have.
use Rattle.std.proofs.Common.{◌≡◌, ℕ, zero, suc, ◌+◌, ◌≤◌, List, [], ◌∷◌, length, refl, ap, subst, sym, ◌∙◌, if◌then◌else◌, Option, Some, None, is_some, arith, true}
use Rattle.std.specs.Prelude.{Ok, Err}
use Rattle.luau_tree.specs.declared.names.UnOp.{UnOp}
use Rattle.luau_tree.specs.declared.names.BinOp.{BinOp}
use Rattle.luau_tree.specs.Tree.{Expr}
use Rattle.luau_tree.specs.Tree as tree
use Rattle.luau_grammar.specs.Places.{Place, symbol, sees, start_of}
use Rattle.luau_grammar.specs.Symbols.{same, symbol_of}
use Rattle.luau_lex.specs.Tokens.{Tok}
use Rattle.luau_grammar.specs.Operators.{binary_of, unary_of, unary_tightness}
use Rattle.luau_grammar.specs.Reading.{Setting, Parser, Outcome, Readers, ◌>>=◌, pure, span_from, and_then, refuse, next, raise, repeats}
use Rattle.luau_grammar.specs.ReadExpressions as code
use Rattle.other_ends.proofs.Fork.{Fork, Near, Shorter, Forked, Peeks, Names, Dotted, Aside, here, both, least, at_start, at_span, done, peeks_symbol, peeks_of, Far, IsDeep}
use Rattle.other_ends.proofs.ForkCases.{by_symbol}
use Rattle.other_ends.proofs.ForkNames.{name_is, names_then, names_start, dotted_then, dotted_start}
use Rattle.other_ends.proofs.ForkTokens.{refuses, any, raises}
use Rattle.other_ends.proofs.ForkSteps.{steps, taken_of, weaker}
use Rattle.other_ends.proofs.ForkTypes.{ForkReaders}
use Rattle.other_ends.proofs.ForkExpressions.{assertion_forked, assertion_names, assertion_before_dot}

-- an operator and its right operand, where one comes next
abbrev by_operator : Setting → Readers → (ℕ → Parser Expr) → ℕ → Expr → Option BinOp → Parser Expr
by_operator set inner operation from left None = refuse set
by_operator set inner operation from left (Some op) = code.binary set inner operation from left op

-- ---- parsers of operations that depend on what they take

module _ (set : Setting) (inner : Readers) (w : Fork) (held : ForkReaders set w inner) (operation : ℕ → Parser Expr)
    (right : (at : ℕ) → Forked w 1 (operation at)) where
  pub unary_forked : (op : UnOp) → Forked w 1 (code.unary set inner (operation unary_tightness) op)
  unfolding code.unary
  unary_forked op =
      least 1 refl (both at_start (λ from. both (any set) (λ _. both (raises set) (λ _. both (right unary_tightness) (λ e. both (at_span from) (λ span.
      done (tree.the_expr 0 span (tree.Unary op e))))))))

  pub operand_by_forked : (o : Option UnOp) → Forked w 1 (code.operand_by set inner operation o)
  operand_by_forked None = assertion_forked set inner w held
  operand_by_forked (Some op) = unary_forked op

  pub operand_forked : Forked w 1 (code.operand set inner operation)
  unfolding code.operand
  operand_forked =
      by_symbol (λ p. unary_of (symbol p)) (code.operand_by set inner operation) (peeks_of unary_of peeks_symbol) operand_by_forked

  pub binary_forked : (from : ℕ) (left : Expr) (op : BinOp) → Forked w 1 (code.binary set inner operation from left op)
  unfolding code.binary
  binary_forked from left op =
      least 1 refl (both (any set) (λ _. both (raises set) (λ _. both (right (code.right_least op)) (λ e. both (at_span from) (λ span.
      done (tree.the_expr 0 span (tree.Binary op left e)))))))

  pub climb_by_forked : (from : ℕ) (left : Expr) (o : Option BinOp) → Forked w 1 (by_operator set inner operation from left o)
  climb_by_forked from left None = refuses set 1
  climb_by_forked from left (Some op) = binary_forked from left op

  pub step_forked : (from : ℕ) (left : Expr) → Forked w 1 (code.climb_step set inner operation from left)
  step_forked from left =
      by_symbol (λ p. binary_of (symbol p)) (by_operator set inner operation from left) (peeks_of binary_of peeks_symbol) (climb_by_forked from left)

  peeks_tighter : (at : ℕ) → Peeks w (λ p. is_some (code.tighter at p))
  unfolding code.tighter
  peeks_tighter at = peeks_of (λ x. is_some (code.tighter_by at (binary_of x))) peeks_symbol

  pub from_forked : (at from : ℕ) (first : Expr) → Forked w 0 (code.climb_from set inner operation at from first)
  unfolding code.climb_from
  from_forked at from first = steps set (λ _ p. is_some (code.tighter at p)) (code.climb_step set inner operation from) (λ _. peeks_tighter at) (step_forked from) first

  pub climb_forked : (at : ℕ) → Forked w 1 (code.climb set inner operation at)
  unfolding code.climb
  climb_forked at = least 1 refl (both at_start (λ from. both operand_forked (λ first. from_forked at from first)))

module _ (set : Setting) (inner : Readers) (w : Fork) (held : ForkReaders set w inner) where
  pub operation_forked : (turns at : ℕ) → Forked w 1 (code.operation set inner turns at)
  unfolding code.operation
  operation_forked zero at = refuses set 1
  operation_forked (suc turns) at = climb_forked set inner w held (code.operation set inner turns) (operation_forked turns) at

-- ---- more turns than tokens change nothing

and_same : {A B : Type 0} {f g : A → Parser B} (o : Outcome A) → ((x : A) (q : Place) → o ≡ Ok (x, q) → f x q ≡ g x q) → and_then o f ≡ and_then o g
and_same (Ok x) h = h x.0 x.1 refl
and_same (Err e) h = refl

and_from : {A B : Type 0} (o r : Outcome A) (f : A → Parser B) → o ≡ r → and_then o f ≡ and_then r f
and_from o r f e = ap (λ z. and_then z f) e

module _ (set : Setting) (inner : Readers) (w : Fork) (held : ForkReaders set w inner) (one other : ℕ → Parser Expr) (m : ℕ)
    (alike : (at : ℕ) (p : Place) → length p.ahead ≤ m → one at p ≡ other at p) (right : (at : ℕ) → Forked w 1 (one at)) where
  behind_any : (p a : Place) (t : Tok) → next set p ≡ Ok (t, a) → length p.ahead ≤ m + 1 → length a.ahead ≤ m
  behind_any p a t e l = taken_of 1 m p a t (next set p) e ((any set {w = w}).takes p) l

  behind_raise : (a b : Place) (x : Unit {0}) → raise set a ≡ Ok (x, b) → length a.ahead ≤ m → length b.ahead ≤ m
  behind_raise a b x e l = taken_of 0 m a b x (raise set a) e ((raises set {w = w}).takes a) (omega arith)

  unary_same : (op : UnOp) (p : Place) → length p.ahead ≤ m + 1
      → code.unary set inner (one unary_tightness) op p ≡ code.unary set inner (other unary_tightness) op p
  unfolding code.unary
  unary_same op p l =
      and_same (next set p) (λ t a e. and_same (raise set a) (λ x b d.
      and_from (one unary_tightness b) (other unary_tightness b)
      (λ y. span_from (start_of p) >>= (λ span. pure (tree.the_expr 0 span (tree.Unary op y))))
      (alike unary_tightness b (behind_raise a b x d (behind_any p a t e l)))))

  operand_by_same : (o : Option UnOp) (p : Place) → length p.ahead ≤ m + 1 → code.operand_by set inner one o p ≡ code.operand_by set inner other o p
  operand_by_same None p l = refl
  operand_by_same (Some op) p l = unary_same op p l

  operand_same : (p : Place) → length p.ahead ≤ m + 1 → code.operand set inner one p ≡ code.operand set inner other p
  unfolding code.operand
  operand_same p l = operand_by_same (unary_of (symbol p)) p l

  climb_by_same : (from : ℕ) (left : Expr) (o : Option BinOp) (p : Place) → length p.ahead ≤ m + 1
      → by_operator set inner one from left o p ≡ by_operator set inner other from left o p
  unfolding code.binary
  climb_by_same from left None p l = refl
  climb_by_same from left (Some op) p l =
      and_same (next set p) (λ t a e. and_same (raise set a) (λ x b d.
      and_from (one (code.right_least op) b) (other (code.right_least op) b)
      (λ y. span_from from >>= (λ span. pure (tree.the_expr 0 span (tree.Binary op left y))))
      (alike (code.right_least op) b (behind_raise a b x d (behind_any p a t e l)))))

  pub step_takes : (from : ℕ) (left : Expr) (p : Place) → Shorter 1 p (code.climb_step set inner one from left p)
  step_takes from left p = (step_forked set inner w held one right from left).takes p

  from_same : (at from : ℕ) (turns : ℕ) (left : Expr) (p : Place) → length p.ahead ≤ m + 1
      → repeats set (λ _ p. is_some (code.tighter at p)) (code.climb_step set inner one from) turns left p
      ≡ repeats set (λ _ p. is_some (code.tighter at p)) (code.climb_step set inner other from) turns left p
  unfolding repeats
  from_same at from zero left p l = refl
  from_same at from (suc turns) left p l =
      ap (λ o. if is_some (code.tighter at p) then o else Ok (left, p))
      (and_same (code.climb_step set inner one from left p)
      (λ x a e. from_same at from turns x a (taken_of 0 (m + 1) p a x (code.climb_step set inner one from left p) e
      (weaker p (code.climb_step set inner one from left p) (step_takes from left p)) (omega arith)))
      ∙ ap (λ o. and_then o (repeats set (λ _ p. is_some (code.tighter at p)) (code.climb_step set inner other from) turns))
      (climb_by_same from left (binary_of (symbol p)) p l))

  pub climb_same : (at : ℕ) (p : Place) → length p.ahead ≤ m + 1 → code.climb set inner one at p ≡ code.climb set inner other at p
  unfolding code.climb code.climb_from
  climb_same at p l =
      and_same (code.operand set inner one p)
      (λ x a e. from_same at (start_of p) (length a.ahead) x a
      (taken_of 0 (m + 1) p a x (code.operand set inner one p) e
      (weaker p (code.operand set inner one p) ((operand_forked set inner w held one right).takes p)) (omega arith)))
      ∙ ap (λ o. and_then o (code.climb_from set inner other at (start_of p))) (operand_same p l)

module _ (set : Setting) (inner : Readers) (w : Fork) (held : ForkReaders set w inner) where
  no_turns : (m at : ℕ) (ts : List Tok) (last level : ℕ) → length ts ≤ 0
      → code.operation set inner zero at (record { ahead = ts; last = last; level = level })
      ≡ code.operation set inner (suc m) at (record { ahead = ts; last = last; level = level })
  unfolding code.operation code.climb code.operand code.assertion code.simple code.form symbol sees same
  no_turns m at [] last level l = refl
  no_turns m at (t ∷ ts) last level l = absurd (omega arith)

  pub one_more_turn : (m at : ℕ) (p : Place) → length p.ahead ≤ m → code.operation set inner m at p ≡ code.operation set inner (suc m) at p
  unfolding code.operation
  one_more_turn zero at p l = no_turns 0 at (p.ahead) (p.last) (p.level) l
  one_more_turn (suc m) at p l =
      climb_same set inner w held (code.operation set inner m) (code.operation set inner (suc m)) m (one_more_turn m) (operation_forked set inner w held m) at p (omega arith)

  pub more_turns : (k m : ℕ) (p : Place) → length p.ahead ≤ m → code.operation set inner m 0 p ≡ code.operation set inner (k + m) 0 p
  more_turns zero m p l =
      let e : m ≡ 0 + m = omega arith in
      ap (λ z. code.operation set inner z 0 p) e
  more_turns (suc k) m p l =
      let e : suc (k + m) ≡ suc k + m = omega arith in
      more_turns k m p l ∙ (one_more_turn (k + m) 0 p (omega arith) ∙ ap (λ z. code.operation set inner z 0 p) e)

  pub expression_inside_forked : Forked w 1 (code.expression_inside set inner)
  unfolding code.expression_inside
  expression_inside_forked = record {
    near = λ p q i.
        let m = length p.ahead in
        let n = length q.ahead in
        let e : code.operation set inner n 0 q ≡ code.operation set inner (n + m) 0 q =
        more_turns m n q (omega arith) ∙ (let c : m + n ≡ n + m = omega arith in ap (λ z. code.operation set inner z 0 q) c)
        in
        subst (λ o. Near w o (code.operation set inner n 0 q)) (sym (more_turns n m p (omega arith)))
        (subst (λ o. Near w (code.operation set inner (n + m) 0 p) o) (sym e) ((operation_forked set inner w held (n + m) 0).near p q i));
    one = λ b p l. (operation_forked set inner w held (length p.ahead) 0).one b p l;
    takes = λ p. (operation_forked set inner w held (length p.ahead) 0).takes p;
  }

-- ---- an expression that begins with a name

module _ (set : Setting) (inner : Readers) (w : Fork) (held : ForkReaders set w inner) where
  operand_names : (operation : ℕ → Parser Expr) → Names true w (code.operand set inner operation)
  unfolding code.operand symbol
  operand_names operation = record {
    taken = λ e ts l m b z.
        subst (λ x. Far w.bound (code.operand_by set inner operation (unary_of x) (here w.token ts l m))) (sym (name_is (symbol_of w.token) e)) ((assertion_names set inner w held).taken e ts l m b z);
    deep = λ e ts l m b z.
        subst (λ x. IsDeep (code.operand_by set inner operation (unary_of x) (here w.token ts l m))) (sym (name_is (symbol_of w.token) e)) ((assertion_names set inner w held).deep e ts l m b z);
  }

  climb_names : (turns at : ℕ) → Names true w (code.climb set inner (code.operation set inner turns) at)
  unfolding code.climb
  climb_names turns at =
      names_start (λ from. names_then (operand_names (code.operation set inner turns)) (λ first. from_forked set inner w held (code.operation set inner turns) (operation_forked set inner w held turns) at from first))

  pub expression_inside_names : Names true w (code.expression_inside set inner)
  unfolding code.expression_inside code.operation
  expression_inside_names = record { taken = λ e ts l m b z. (climb_names (length ts) 0).taken e ts l m b z; deep = λ e ts l m b z. (climb_names (length ts) 0).deep e ts l m b z }

  -- ---- an expression that begins with a name before a `.`

  operand_before_dot : (operation : ℕ → Parser Expr) → Dotted w (code.operand set inner operation)
  unfolding code.operand symbol
  operand_before_dot operation = record {
    aside = λ e d l m.
        subst (λ x. Aside w.one (code.operand_by set inner operation (unary_of x) (here w.token w.one l m))) (sym (name_is (symbol_of w.token) e)) ((assertion_before_dot set inner w held).aside e d l m);
  }

  climb_before_dot : (turns at : ℕ) → Dotted w (code.climb set inner (code.operation set inner turns) at)
  unfolding code.climb
  climb_before_dot turns at =
      dotted_start (λ from. dotted_then (operand_before_dot (code.operation set inner turns)) (λ first. from_forked set inner w held (code.operation set inner turns) (operation_forked set inner w held turns) at from first))

  pub expression_inside_before_dot : Dotted w (code.expression_inside set inner)
  unfolding code.expression_inside code.operation
  expression_inside_before_dot = record { aside = λ e d l m. (climb_before_dot (length w.one) 0).aside e d l m }
