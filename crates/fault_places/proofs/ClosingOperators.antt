-- The parsers of operators and of whole expressions up to a refused token.
use Rattle.std.proofs.Common.{◌≡◌, ℕ, zero, suc, ◌+◌, ◌-◌, ◌≤◌, true, false, List, [], ◌∷◌, ◌++◌, length, refl, sym, ◌∙◌, ap, arith, Option, Some, None, is_some}
use Rattle.luau_lex.specs.Tokens.{Tok}
use Rattle.luau_tree.specs.declared.names.UnOp.{UnOp}
use Rattle.luau_tree.specs.declared.names.BinOp.{BinOp}
use Rattle.luau_tree.specs.Tree.{Expr}
use Rattle.luau_tree.specs.Tree as tree
use Rattle.luau_grammar.specs.declared.symbol.Symbol.{Symbol}
use Rattle.luau_grammar.specs.declared.symbol.Symbol.TheVariants as s
use Rattle.luau_grammar.specs.Symbols.{same, symbol_of}
use Rattle.luau_grammar.specs.Places.{Place, first_symbol, symbol, sees, start_of}
use Rattle.luau_grammar.specs.Operators.{binary_of, unary_of, unary_tightness}
use Rattle.luau_grammar.specs.Reading as read
use Rattle.luau_grammar.specs.Reading.{Setting, Parser, Readers, ◌>>=◌, pure, start}
use Rattle.luau_grammar.specs.ReadExpressions as code
use Rattle.grammar_faults.proofs.Local.{Shorter}
use Rattle.grammar_faults.proofs.LocalTypes.{LocalReaders}
use Rattle.grammar_faults.proofs.LocalOperators.{operation_local, climb_same, one_more_turn, step_local}
use Rattle.fault_places.proofs.Closing.{Frame, place, roof, peak, Opens, Goes, both_by}
use Rattle.fault_places.proofs.ClosingTokens.{anything, any, never, goes_by, opens_from, refuses, refuses_with, deep_goes, value_opens}
use Rattle.fault_places.proofs.ClosingSteps.{Reads, link, rest, idle, loop_reads}
use Rattle.fault_places.proofs.ClosingWords.{EndsValue, the_name}
use Rattle.fault_places.proofs.ClosingSymbols.{given, at_start, spanned, peek_start}
use Rattle.fault_places.proofs.ClosingLists.{Held, some_tails}
use Rattle.fault_places.proofs.ClosingBodies.{then_then}
use Rattle.fault_places.proofs.ClosingMembers.{is_name}
use Rattle.fault_places.proofs.ClosingExpressions.{assertion_reads, only_assertion}
use Rattle.fault_places.proofs.ClosingChoices.{by_peek, opens_at, opens_link, loop_opens}

-- an operator and its right operand, where one comes next
abbrev by_operator : Setting → Readers → (ℕ → Parser Expr) → ℕ → Expr → Option BinOp → Parser Expr
by_operator set inner operation from left None = read.refuse set
by_operator set inner operation from left (Some op) = code.binary set inner operation from left op

module _ (f : Frame) where
  -- any token, and what goes on one level deeper
  deeper_token : {B D : Type 0} {G : Symbol → Type 0} {th : B → D} {close : List Tok → List Tok} {kind : D} {g k : Unit {0} → Parser B}
      → ((x y : Unit {0}) → Reads f G th close kind never (g x) (k y))
      → Goes f G th never (read.next f.low >>= (λ _. read.raise f.low >>= g)) (read.next f.high >>= (λ _. read.raise f.high >>= k))
  deeper_token {B = B} {D = D} {G = G} {th = th} {close = close} {kind = kind} {g = g} {k = k} h =
      goes_by f
      (λ p. then_then (read.next f.low p) (λ _. read.raise f.low) g)
      (λ p. then_then (read.next f.high p) (λ _. read.raise f.high) k)
      (both_by f (Unit {0}) B (Unit {0}) D anything G any th never (λ _ _. ⊥) never (read.next f.low >>= (λ _. read.raise f.low)) (read.next f.high >>= (λ _. read.raise f.high)) g k
      (λ _. close) (λ _. kind) (deep_goes f) (λ x y _. (h x y).goes) (λ y. (h y y).opens) (λ _ _ _. tt) (λ _ _ b. absurd b) (λ _ _ _ b. b) (λ y. (h y y).late))

not_tighter : (least : ℕ) (zs : List Tok) (l m : ℕ) → EndsValue (first_symbol zs) → is_some (code.tighter least (place zs l m)) ≡ false
unfolding code.tighter symbol
not_tighter least zs l m z = ap (λ o. is_some (code.tighter_by least o)) z.binary

module _ (f : Frame) (high : Readers) (others : LocalReaders some_tails high) where
  -- ---- with as many turns as tokens

  abbrev whole : ℕ → Parser Expr
  whole least = λ p. code.operation f.high high (length p.ahead) least p

  more : (k m at : ℕ) (p : Place) → length p.ahead ≤ m → code.operation f.high high m at p ≡ code.operation f.high high (k + m) at p
  more zero m at p l =
      let e : m ≡ 0 + m = omega arith in
      ap (λ z. code.operation f.high high z at p) e
  more (suc k) m at p l =
      let e : suc (k + m) ≡ suc k + m = omega arith in
      more k m at p l ∙ (one_more_turn f.high high some_tails others (k + m) at p (omega arith) ∙ ap (λ z. code.operation f.high high z at p) e)

  enough : (m at : ℕ) (p : Place) → length p.ahead ≤ m → code.operation f.high high m at p ≡ whole at p
  enough m at p l =
      let e : (m - length p.ahead) + length p.ahead ≡ m = omega arith in
      sym (more (m - length p.ahead) (length p.ahead) at p (omega arith) ∙ ap (λ z. code.operation f.high high z at p) e)

  none_left : (at l m : ℕ) → code.operation f.high high 0 at (place [] l m) ≡ code.climb f.high high whole at (place [] l m)
  unfolding code.operation code.climb code.operand code.assertion code.simple code.form symbol sees same
  none_left at l m = refl

  whole_at : (at : ℕ) (ts : List Tok) (l m : ℕ) → whole at (place ts l m) ≡ code.climb f.high high whole at (place ts l m)
  unfolding code.operation
  whole_at at [] l m = none_left at l m
  whole_at at (t ∷ ts) l m =
      climb_same f.high high some_tails others (code.operation f.high high (length ts)) whole (length ts) (λ least q k. enough (length ts) least q k) (operation_local f.high high some_tails others (length ts)) at
      (place (t ∷ ts) l m) (omega arith)

  whole_is : (at : ℕ) (p : Place) → whole at p ≡ code.climb f.high high whole at p
  whole_is at p = whole_at at p.ahead p.last p.level

  -- ---- a name, and nothing more

  module _ (a : ℕ) (fits : a ≤ peak f) (u : Tok) (e : same (symbol_of u) s.Name ≡ true) where
    only_operand : Opens f a EndsValue any (λ zs. u ∷ zs) tt (code.operand f.high high whole)
    unfolding code.operand symbol
    only_operand =
        opens_at f {close = λ zs. u ∷ zs} (λ p. unary_of (symbol p)) (code.operand_by f.high high whole) None (λ zs l m _. ap unary_of (is_name (symbol_of u) e))
        (only_assertion f high a fits u e)

    only_operation : (least : ℕ) → Opens f a EndsValue any (λ zs. u ∷ zs) tt (whole least)
    unfolding code.climb code.climb_from
    only_operation least =
        opens_from f (whole_is least)
        (opens_link f a (value_opens f a anything any start_of tt (λ p. refl)) (λ b.
        opens_link f a only_operand (λ x. loop_opens f a any (λ _ p. is_some (code.tighter least p)) (code.climb_step f.high high whole b) x (λ zs l m z. not_tighter least zs l m z)) (λ _ z. z)) (λ _ _. tt))

    pub only_expression : Opens f a EndsValue any (λ zs. u ∷ zs) tt (code.expression_inside f.high high)
    unfolding code.expression_inside
    only_expression = only_operation 0

module _ (f : Frame) (low high : Readers) (held : Held f low high) (local : LocalReaders some_tails low) (others : LocalReaders some_tails high) where
  abbrev naming : List Tok → List Tok
  naming = λ zs. the_name f.at ∷ zs

  peek_unary : (u : Tok) (ts us : List Tok) (l m : ℕ) → unary_of (symbol (place (u ∷ ts) l m)) ≡ unary_of (symbol (place (u ∷ us) l m))
  unfolding symbol
  peek_unary u ts us l m = refl

  peek_binary : (u : Tok) (ts us : List Tok) (l m : ℕ) → binary_of (symbol (place (u ∷ ts) l m)) ≡ binary_of (symbol (place (u ∷ us) l m))
  unfolding symbol
  peek_binary u ts us l m = refl

  peek_tighter : (least : ℕ) (u : Tok) (ts us : List Tok) (l m : ℕ) → is_some (code.tighter least (place (u ∷ us) l m)) ≡ is_some (code.tighter least (place (u ∷ ts) l m))
  unfolding code.tighter symbol
  peek_tighter least u ts us l m = refl

  -- ---- over parsers of right operands

  module _ (one other : ℕ → Parser Expr) (right : (at : ℕ) → Reads f EndsValue any naming tt never (one at) (other at))
      (takes : (from : ℕ) (x : Expr) (p : Place) → Shorter 1 p (code.climb_step f.low low one from x p)) where
    unary_goes : (op : UnOp) → Goes f EndsValue any never (code.unary f.low low (one unary_tightness) op) (code.unary f.high high (other unary_tightness) op)
    unfolding code.unary
    unary_goes op =
        by_peek f start_of
        (λ from. read.next f.low >>= (λ _. read.raise f.low >>= (λ _. one unary_tightness >>= (λ e. read.span_from from >>= (λ i. pure (tree.the_expr 0 i (tree.Unary op e)))))))
        (λ from. read.next f.high >>= (λ _. read.raise f.high >>= (λ _. other unary_tightness >>= (λ e. read.span_from from >>= (λ i. pure (tree.the_expr 0 i (tree.Unary op e)))))))
        peek_start
        (λ from. deeper_token f (λ _ _.
        rest f (right unary_tightness) (λ x y.
        idle f (spanned f EndsValue from from) (λ i j. given f EndsValue (tree.the_expr 0 i (tree.Unary op x)) (tree.the_expr 0 j (tree.Unary op y))) (λ _ z. z)) (λ _ z. z)))

    operand_by_goes : (o : Option UnOp) → Goes f EndsValue any never (code.operand_by f.low low one o) (code.operand_by f.high high other o)
    operand_by_goes None = (assertion_reads f low high held local others).goes
    operand_by_goes (Some op) = unary_goes op

    operand_reads : Reads f EndsValue any naming tt never (code.operand f.low low one) (code.operand f.high high other)
    unfolding code.operand symbol same symbol_of
    operand_reads = record {
      goes = by_peek f (λ p. unary_of (symbol p)) (code.operand_by f.low low one) (code.operand_by f.high high other) peek_unary operand_by_goes;
      opens = opens_at f {close = naming} (λ p. unary_of (symbol p)) (code.operand_by f.high high other) None (λ zs l m _. refl) (assertion_reads f low high held local others).opens;
      late = λ zs fol b. (let x : f.at ≤ f.at = omega arith in x, b);
    }

    binary_goes : (a b : ℕ) (x y : Expr) (op : BinOp) → Goes f EndsValue any never (code.binary f.low low one a x op) (code.binary f.high high other b y op)
    unfolding code.binary
    binary_goes a b x y op =
        deeper_token f (λ _ _.
        rest f (right (code.right_least op)) (λ v w.
        idle f (spanned f EndsValue a b) (λ i j. given f EndsValue (tree.the_expr 0 i (tree.Binary op x v)) (tree.the_expr 0 j (tree.Binary op y w))) (λ _ z. z)) (λ _ z. z))

    by_operator_goes : (a b : ℕ) (x y : Expr) (o : Option BinOp) → Goes f EndsValue any never (by_operator f.low low one a x o) (by_operator f.high high other b y o)
    by_operator_goes a b x y None = refuses f EndsValue any never
    by_operator_goes a b x y (Some op) = binary_goes a b x y op

    step_goes : (a b : ℕ) (x y : Expr) → Goes f EndsValue any never (code.climb_step f.low low one a x) (code.climb_step f.high high other b y)
    step_goes a b x y = by_peek f (λ p. binary_of (symbol p)) (by_operator f.low low one a x) (by_operator f.high high other b y) peek_binary (by_operator_goes a b x y)

    from_reads : (least a b : ℕ) (x y : Expr) → Reads f EndsValue any (λ zs. zs) tt (λ z. z ≡ tt) (code.climb_from f.low low one least a x) (code.climb_from f.high high other least b y)
    unfolding code.climb_from
    from_reads least a b x y =
        loop_reads f Expr (Unit {0}) EndsValue EndsValue any (λ _ p. is_some (code.tighter least p)) (code.climb_step f.low low one a) (code.climb_step f.high high other b)
        (λ x y e u ts us l m. peek_tighter least u ts us l m) (λ x y _. step_goes a b x y) (λ y zs l m z. not_tighter least zs l m z) (λ x z. z) (takes a) x y refl tt refl

    climb_reads : (least : ℕ) → Reads f EndsValue any naming tt never (code.climb f.low low one least) (code.climb f.high high other least)
    unfolding code.climb
    climb_reads least = link f (at_start f anything) (λ a b. rest f operand_reads (λ x y. from_reads least a b x y) (λ _ z. z)) (λ _ _. tt)

  -- ---- whole expressions

  operation_goes : (n at : ℕ) → Goes f EndsValue any never (code.operation f.low low n at) (whole f high others at)
  unfolding code.operation same symbol_of
  operation_goes zero at = refuses_with f EndsValue any never (whole f high others at)
  operation_goes (suc n) at =
      goes_by f (λ p. refl) (whole_is f high others at)
      (climb_reads (code.operation f.low low n) (whole f high others)
      (λ least. record {
        goes = operation_goes n least;
        opens = only_operation f high others (roof f) (let x : roof f ≤ peak f = omega arith in x) (the_name f.at) refl least;
        late = λ zs fol b. (let x : f.at ≤ f.at = omega arith in x, b);
      })
      (λ from x p. (step_local f.low low some_tails local (code.operation f.low low n) (operation_local f.low low some_tails local n) from x).takes p) at).goes

  pub expression_goes : Goes f EndsValue any never (code.expression_inside f.low low) (code.expression_inside f.high high)
  unfolding code.expression_inside
  expression_goes = record {
    idle = λ l m. (operation_goes (length f.cut) 0).idle l m;
    inside = λ u us l m b a. (operation_goes (length (u ∷ (us ++ f.cut))) 0).inside u us l m b a;
    far = λ p b. (operation_goes (length p.ahead) 0).far p b;
  }
