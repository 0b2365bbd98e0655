-- What the grammar says of operators, their parsers read.
use Rattle.std.proofs.Common.{◌≡◌, ℕ, zero, suc, ◌-◌, ◌<◌, ◌≤◌, true, List, [], ◌∷◌, length, refl, sym, ◌∙◌, ap, ap₂, subst, arith, is_some, le_refl, ◌||◌}
use Rattle.std.specs.Prelude.{Option, Some, None, Ok, Err, if◌then◌else◌}
use Rattle.std.proofs.lemmas.Option.{same_Some}
use Rattle.luau_tree.specs.declared.position.Span.{Span}
use Rattle.luau_tree.specs.declared.names.UnOp.{UnOp}
use Rattle.luau_tree.specs.declared.names.BinOp.{BinOp}
use Rattle.luau_tree.specs.Tree.{Expr, ExprKind}
use Rattle.luau_tree.specs.Tree as tree
use Rattle.luau_lex.specs.Tokens.{Tok}
use Rattle.luau_grammar.specs.declared.symbol.Symbol.{Symbol}
use Rattle.luau_grammar.specs.declared.symbol.Symbol.TheVariants as s
use Rattle.luau_grammar.specs.Symbols.{same}
use Rattle.luau_grammar.specs.Places.{Place, symbol, first_symbol, sees, start_of, from_to, over, raised}
use Rattle.luau_grammar.specs.Phrases.{Phrases}
use Rattle.luau_grammar.specs.Operators.{binary_of, unary_of, tightness, unary_tightness, loosest_left, HasOperands, HasOperand}
use Rattle.luau_grammar.specs.Expressions as grammar
use Rattle.luau_grammar.specs.Reading.{Setting, Parser, Outcome, Readers, and_then, repeats, refusal}
use Rattle.luau_grammar.specs.ReadExpressions as reads
use Rattle.luau_grammar.specs.ReadExpressions.{right_least, tighter}
use Rattle.luau_grammar.proofs.Agreement.{Bounded, Complete, Reached}
use Rattle.luau_grammar.proofs.Primitives.{Gives, Taken, gives_ok, gives_same, gives_then, gives_next, raise_complete, takes_symbol, takes_taken, takes_bounded, reached_then}
use Rattle.luau_grammar.proofs.Assertions.{IsAssertion}
use Rattle.luau_grammar.proofs.Tightness.{Fits, positive, left_fits, right_tight, least_behind, fits_right, least_behind_unary, fits_operand_of}
use Rattle.luau_grammar.proofs.OperatorSteps.{Stops, FitsAt, goes_at, ends_at, none_next, steps_end, step_is, one_step}

gives_as : {A : Type 0} {low : ℕ} {p q : Place} {o other : Outcome A} {x : A} → o ≡ other → Gives low p other q x → Gives low p o q x
gives_as e g = (e ∙ g.0, g.1)

same_expr : (id : ℕ) (span other : Span) (kind : ExprKind) → id ≡ 0 → span ≡ other → tree.the_expr 0 other kind ≡ tree.the_expr id span kind
same_expr id span other kind i e = ap₂ (λ n z. tree.the_expr n z kind) (sym i) (sym e)

-- each tree has a left end that binds tighter than nothing
some_left : (e : Expr) → 0 < loosest_left e
some_left (tree.the_expr id span (tree.Binary op left right)) =
    let h : 0 < loosest_left left = some_left left in
    let pos : 1 ≤ tightness op = positive op in
    omega arith
some_left (tree.the_expr id span kind) = omega arith

-- ---- what an operand begins with

module _ (set : Setting) (readers : Readers) where
  simple_at : (p : Place) (x : Symbol) → symbol p ≡ x
      → reads.simple set readers p
      ≡ (if same x s.Name || same x s.LeftParen then reads.prefix set readers p else reads.form_by set readers (start_of p) x p)
  unfolding reads.simple reads.form sees
  simple_at p x e =
      ap (λ y. if same y s.Name || same y s.LeftParen then reads.prefix set readers p else reads.form_by set readers (start_of p) y p) e

  assertion_at : (p : Place) → reads.simple set readers p ≡ Err (refusal set p) → reads.assertion set readers p ≡ Err (refusal set p)
  unfolding reads.assertion
  assertion_at p e = ap (λ o. and_then o (reads.asserted set readers (start_of p))) e

  refused : (p q : Place) (e : Expr) → reads.assertion set readers p ≡ Err (refusal set p) → reads.assertion set readers p ≡ Ok (e, q) → ⊥
  refused p q e h k = absurd (cc)

  not_unary : (p q : Place) (e : Expr) → reads.assertion set readers p ≡ Ok (e, q) → (x : Symbol) → symbol p ≡ x → unary_of x ≡ None
  unfolding same
  not_unary p q e k s.Minus h = absurd (refused p q e (assertion_at p (simple_at p s.Minus h)) k)
  not_unary p q e k s.Not h = absurd (refused p q e (assertion_at p (simple_at p s.Not h)) k)
  not_unary p q e k s.Hash h = absurd (refused p q e (assertion_at p (simple_at p s.Hash h)) k)
  not_unary p q e k _ h = refl

  assertion_begins : (p q : Place) (e : Expr) → reads.assertion set readers p ≡ Ok (e, q) → (l : List Tok) → p.ahead ≡ l → 1 ≤ length l
  unfolding same symbol
  assertion_begins p q e k [] h = absurd (refused p q e (assertion_at p (simple_at p s.Stop (ap first_symbol h))) k)
  assertion_begins p q e k (t ∷ ts) h = omega arith

module _ (low : ℕ) (set : Setting) (inner : Phrases) (readers : Readers) where
  abbrev IsOperation : Place → Place → Expr → Type 0
  IsOperation = grammar.IsOperation set.rules inner

  -- what a parser of operations that bind tighter than a number reads, of so many tokens
  abbrev CompleteAt : (ℕ → Parser Expr) → ℕ → Type 0
  CompleteAt operation tokens =
      (least : ℕ) (p q : Place) (e : Expr) → low ≤ p.level → length p.ahead ≤ tokens → IsOperation p q e → least < loosest_left e
      → FitsAt e q → Stops least q → Gives low p (operation least p) q e

  -- ---- operands

  operand_is : (operation : ℕ → Parser Expr) (p : Place) (o : Option UnOp) → unary_of (symbol p) ≡ o
      → reads.operand set readers operation p ≡ reads.operand_by set readers operation o p
  unfolding reads.operand
  operand_is operation p o e = ap (λ z. reads.operand_by set readers operation z p) e

  assertion_operand : Complete low (IsAssertion set.rules inner) (reads.assertion set readers) → (operation : ℕ → Parser Expr)
      → (p q : Place) (e : Expr) → low ≤ p.level → IsAssertion set.rules inner p q e → Gives low p (reads.operand set readers operation p) q e
  assertion_operand complete operation p q e level is =
      let g = complete p q e level is in
      gives_as (operand_is operation p None (not_unary set readers p q e g.0 (symbol p) refl)) g

  unary_complete : Bounded set → (operation : ℕ → Parser Expr) (tokens : ℕ) → CompleteAt operation tokens
      → (op : UnOp) (p a q : Place) (id : ℕ) (span : Span) (e : Expr) → low ≤ p.level → length p.ahead ≤ suc tokens
      → grammar.TakesUnary set.rules inner op p a → IsOperation (raised a) q e → HasOperand e
      → FitsAt (tree.the_expr id span (tree.Unary op e)) q
      → Gives low p (reads.unary set readers (operation unary_tightness) op p) q (tree.the_expr 0 (over p q) (tree.Unary op e))
  unfolding reads.unary
  unary_complete bounded operation tokens complete op p a q id span e level enough takes is tight fits =
      let t : Taken p a = takes_taken set.rules p a takes.0 takes.2 in
      let most = takes_bounded set p a takes.0 bounded takes.2 in
      gives_next set _ takes.0 p a level takes.2 (λ tok l.
      gives_then _ (raise_complete set low a (raised a) tt l (omega arith, refl)) (λ l.
      gives_then _ (complete unary_tightness (raised a) q e l (omega arith) is tight
      (λ other h. fits_operand_of other op id span e (fits other h))
      (λ other h. least_behind_unary other op id span e (fits other h)))
      (λ l. gives_ok l)))

  unary_operand : Bounded set → (operation : ℕ → Parser Expr) (tokens : ℕ) → CompleteAt operation tokens
      → (op : UnOp) (p a q : Place) (id : ℕ) (span : Span) (e : Expr) → low ≤ p.level → length p.ahead ≤ suc tokens
      → id ≡ 0 → span ≡ over p q
      → grammar.TakesUnary set.rules inner op p a → IsOperation (raised a) q e → HasOperand e
      → FitsAt (tree.the_expr id span (tree.Unary op e)) q
      → Gives low p (reads.operand set readers operation p) q (tree.the_expr id span (tree.Unary op e))
  unary_operand bounded operation tokens complete op p a q id span e level enough i at takes is tight fits =
      gives_as (operand_is operation p (Some op) (ap unary_of (takes_symbol set.rules p a takes.0 takes.2) ∙ takes.1))
      (gives_same (same_expr id span (over p q) (tree.Unary op e) i at)
      (unary_complete bounded operation tokens complete op p a q id span e level enough takes is tight fits))

  -- ---- one operator behind others

  binary_complete : Bounded set → (operation : ℕ → Parser Expr) (from : ℕ) (op : BinOp) (a b q : Place) (left right : Expr)
      → low ≤ a.level → grammar.TakesBinary set.rules inner op a b
      → Gives low (raised b) (operation (right_least op) (raised b)) q right
      → Gives low a (reads.binary set readers operation from left op a) q (tree.the_expr 0 (from_to from q) (tree.Binary op left right))
  unfolding reads.binary
  binary_complete bounded operation from op a b q left right level takes g =
      let t : Taken a b = takes_taken set.rules a b takes.0 takes.2 in
      let most = takes_bounded set a b takes.0 bounded takes.2 in
      gives_next set _ takes.0 a b level takes.2 (λ tok l.
      gives_then _ (raise_complete set low b (raised b) tt l (omega arith, refl)) (λ l.
      gives_then _ g (λ l. gives_ok l)))

  -- ---- the operators of a tree, along its left side

  -- The first operand is read, and the loop comes from it to the whole tree.
  record ClimbedTo (operation : ℕ → Parser Expr) (least : ℕ) (p q : Place) (e : Expr) : Type 0 where
    first : Expr
    place : Place
    reads_first : reads.operand set readers operation p ≡ Ok (first, place)
    reached : Reached low p q
    turns : ℕ
    enough : length q.ahead ≤ turns
    climbed : repeats set (λ _ z. is_some (tighter least z)) (reads.climb_step set readers operation (start_of p)) (length place.ahead) first place
        ≡ repeats set (λ _ z. is_some (tighter least z)) (reads.climb_step set readers operation (start_of p)) turns e q

  climbs_operand : (operation : ℕ → Parser Expr) (least : ℕ) (p q : Place) (e : Expr)
      → Gives low p (reads.operand set readers operation p) q e → ClimbedTo operation least p q e
  climbs_operand operation least p q e g = record {
    first = e;
    place = q;
    reads_first = g.0;
    reached = g.1;
    turns = length q.ahead;
    enough = le_refl (length q.ahead);
    climbed = refl;
  }

  loop_step : (operation : ℕ → Parser Expr) (from least turns : ℕ) (a q : Place) (left e : Expr) → 1 ≤ turns
      → is_some (tighter least a) ≡ true → reads.climb_step set readers operation from left a ≡ Ok (e, q)
      → repeats set (λ _ z. is_some (tighter least z)) (reads.climb_step set readers operation from) turns left a
      ≡ repeats set (λ _ z. is_some (tighter least z)) (reads.climb_step set readers operation from) (turns - 1) e q
  loop_step operation from least zero a q left e some goes step = absurd (omega arith)
  loop_step operation from least (suc turns) a q left e some goes step =
      let turns_is : suc turns - 1 ≡ turns = omega arith in
      one_step set (λ _ z. is_some (tighter least z)) (reads.climb_step set readers operation from) turns a q left e goes step
      ∙ ap (λ n. repeats set (λ _ z. is_some (tighter least z)) (reads.climb_step set readers operation from) n e q) (sym turns_is)

  next_is : (op : BinOp) (a b : Place) → grammar.TakesBinary set.rules inner op a b → binary_of (symbol a) ≡ Some op
  next_is op a b takes = ap binary_of (takes_symbol set.rules a b takes.0 takes.2) ∙ takes.1

  climbs_binary : Bounded set → (operation : ℕ → Parser Expr) (tokens : ℕ) → CompleteAt operation tokens
      → (least : ℕ) (op : BinOp) (p a b q : Place) (id : ℕ) (span : Span) (left right : Expr)
      → length p.ahead ≤ suc tokens → id ≡ 0 → span ≡ over p q → least < tightness op
      → ClimbedTo operation least p a left → grammar.TakesBinary set.rules inner op a b → IsOperation (raised b) q right → HasOperands op left right
      → FitsAt (tree.the_expr id span (tree.Binary op left right)) q
      → ClimbedTo operation least p q (tree.the_expr id span (tree.Binary op left right))
  climbs_binary bounded operation tokens complete least op p a b q id span left right enough i at tight c takes is has fits =
      let t : Taken a b = takes_taken set.rules a b takes.0 takes.2 in
      let inside : length a.ahead ≤ length p.ahead = c.reached.ahead in
      let above : low ≤ a.level = c.reached.level in
      let rest : length a.ahead ≤ c.turns = c.enough in
      let g = complete (right_least op) (raised b) q right (omega arith) (omega arith) is (right_tight op left right has)
      (λ other h. fits_right other op id span left right (fits other h))
      (λ other h. least_behind other op id span left right (fits other h)) in
      let step = gives_same (same_expr id span (over p q) (tree.Binary op left right) i at)
      (gives_as (step_is set readers operation (start_of p) left a op (next_is op a b takes))
      (binary_complete bounded operation (start_of p) op a b q left right above takes g)) in
      let last : length q.ahead ≤ length b.ahead = g.1.ahead in
      record {
        first = c.first;
        place = c.place;
        reads_first = c.reads_first;
        reached = reached_then c.reached step.1;
        turns = c.turns - 1;
        enough = omega arith;
        climbed =
            c.climbed
            ∙ loop_step operation (start_of p) least c.turns a q left (tree.the_expr id span (tree.Binary op left right)) (omega arith)
            (goes_at least a op (next_is op a b takes) tight) step.0;
      }

  left_fits_at : (op : BinOp) (a b : Place) (left right : Expr) → grammar.TakesBinary set.rules inner op a b → HasOperands op left right
      → FitsAt left a
  left_fits_at op a b left right takes has other h =
      subst (λ z. Fits z left) (same_Some op other (sym (next_is op a b takes) ∙ h)) (left_fits op left right has)

  climbs : Bounded set → Complete low (IsAssertion set.rules inner) (reads.assertion set readers)
      → (operation : ℕ → Parser Expr) (tokens : ℕ) → CompleteAt operation tokens
      → (least : ℕ) (e : Expr) (p q : Place) → low ≤ p.level → length p.ahead ≤ suc tokens → IsOperation p q e → least < loosest_left e
      → FitsAt e q → ClimbedTo operation least p q e
  climbs bounded assertion operation tokens complete least (tree.the_expr id span (tree.Binary op left right)) p q level enough is tight fits =
      climbs_binary bounded operation tokens complete least op p is.2.0 is.2.1 q id span left right enough is.0 is.1 (omega arith)
      (climbs bounded assertion operation tokens complete least left p is.2.0 level enough is.2.2 (omega arith)
      (left_fits_at op is.2.0 is.2.1 left right is.2.3 is.2.5))
      is.2.3 is.2.4 is.2.5 fits
  climbs bounded assertion operation tokens complete least (tree.the_expr id span (tree.Unary op e)) p q level enough is tight fits =
      climbs_operand operation least p q (tree.the_expr id span (tree.Unary op e))
      (unary_operand bounded operation tokens complete op p is.2.0 q id span e level enough is.0 is.1 is.2.1 is.2.2 is.2.3 fits)
  climbs bounded assertion operation tokens complete least (tree.the_expr id span kind) p q level enough is tight fits =
      climbs_operand operation least p q (tree.the_expr id span kind)
      (assertion_operand assertion operation p q (tree.the_expr id span kind) level is)

  -- ---- whole operations

  begins : Complete low (IsAssertion set.rules inner) (reads.assertion set readers) → (e : Expr) (p q : Place) → low ≤ p.level
      → IsOperation p q e → 1 ≤ length p.ahead
  begins assertion (tree.the_expr id span (tree.Binary op left right)) p q level is = begins assertion left p is.2.0 level is.2.2
  begins assertion (tree.the_expr id span (tree.Unary op e)) p q level is =
      let t : Taken p is.2.0 = takes_taken set.rules p is.2.0 is.2.1.0 is.2.1.2 in
      omega arith
  begins assertion (tree.the_expr id span kind) p q level is =
      assertion_begins set readers p q (tree.the_expr id span kind) (assertion p q (tree.the_expr id span kind) level is).0 p.ahead refl

  climb_complete : Bounded set → Complete low (IsAssertion set.rules inner) (reads.assertion set readers)
      → (operation : ℕ → Parser Expr) (tokens : ℕ) → CompleteAt operation tokens → CompleteAt (reads.climb set readers operation) (suc tokens)
  unfolding reads.climb reads.climb_from
  climb_complete bounded assertion operation tokens complete least p q e level enough is tight fits stops =
      let c = climbs bounded assertion operation tokens complete least e p q level enough is tight fits in (
        ap (λ o. and_then o (reads.climb_from set readers operation least (start_of p))) c.reads_first
            ∙ (c.climbed
            ∙ steps_end set (λ _ z. is_some (tighter least z)) (reads.climb_step set readers operation (start_of p)) c.turns q e (ends_at least q stops)),
        c.reached,
      )

  operation_complete : Bounded set → Complete low (IsAssertion set.rules inner) (reads.assertion set readers) → (tokens : ℕ)
      → CompleteAt (reads.operation set readers tokens) tokens
  unfolding reads.operation
  operation_complete bounded assertion zero least p q e level enough is tight fits stops =
      let some : 1 ≤ length p.ahead = begins assertion e p q level is in absurd (omega arith)
  operation_complete bounded assertion (suc tokens) least p q e level enough is tight fits stops =
      climb_complete bounded assertion (reads.operation set readers tokens) tokens (operation_complete bounded assertion tokens)
      least p q e level enough is tight fits stops

  -- Each expression is read by `expression_inside`, where `assertion` reads operands.
  pub expression_complete_by : Bounded set → Complete low (IsAssertion set.rules inner) (reads.assertion set readers)
      → Complete low (grammar.IsExpression set.rules inner) (reads.expression_inside set readers)
  unfolding reads.expression_inside
  expression_complete_by bounded assertion p q e level is =
      operation_complete bounded assertion (length p.ahead) 0 p q e level (le_refl (length p.ahead)) is.0 (some_left e)
      (λ op h. absurd (none_next (binary_of (symbol q)) is.1 op h)) (λ op h. absurd (none_next (binary_of (symbol q)) is.1 op h))
