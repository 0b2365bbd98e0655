-- What the parsers of operators read, the grammar says.
use Rattle.std.proofs.Common.{◌≡◌, ℕ, zero, suc, ◌<◌, ◌≤◌, true, length, refl, sym, subst, arith, is_some}
use Rattle.std.specs.Prelude.{Option, Some, None}
use Rattle.luau_tree.specs.declared.names.UnOp.{UnOp}
use Rattle.luau_tree.specs.declared.names.BinOp.{BinOp}
use Rattle.luau_tree.specs.Tree.{Expr}
use Rattle.luau_tree.specs.Tree as tree
use Rattle.luau_lex.specs.Tokens.{Tok}
use Rattle.luau_grammar.specs.Places.{Place, IsNext, Takes, symbol, start_of, from_to, over, raised}
use Rattle.luau_grammar.specs.Phrases.{Phrases}
use Rattle.luau_grammar.specs.Operators.{binary_of, unary_of, tightness, unary_tightness, no_operator, loosest_left, HasOperands, HasOperand}
use Rattle.luau_grammar.specs.Expressions as grammar
use Rattle.luau_grammar.specs.Reading.{Setting, Parser, Readers}
use Rattle.luau_grammar.specs.ReadExpressions as reads
use Rattle.luau_grammar.specs.ReadExpressions.{right_least, tighter}
use Rattle.luau_grammar.proofs.Agreement.{Sound}
use Rattle.luau_grammar.proofs.Primitives.{Reads, reads_ok, reads_err, reads_weaker, reads_then, next_symbol, next_sound, raise_sound}
use Rattle.luau_grammar.proofs.Assertions.{IsAssertion}
use Rattle.luau_grammar.proofs.Tightness.{fits_operand, has_operands, fits_behind, fits_behind_unary, least_below, positive}
use Rattle.luau_grammar.proofs.OperatorSteps.{assertion_is, assertion_left, assertion_right, Stops, FitsAt, next_tighter, stops_at, no_next, reads_as, step_is, steps_sound}

-- An operand, behind which each operator that comes next may stand.
record Operand (set : Setting) (inner : Phrases) (p q : Place) (e : Expr) : Type 0 where
  is : grammar.IsOperation set.rules inner p q e
  left : loosest_left e ≡ no_operator
  fits : FitsAt e q

-- Operands with operators that bind tighter than a number, behind which each operator that comes next may stand.
record Climbed (set : Setting) (inner : Phrases) (least : ℕ) (p q : Place) (e : Expr) : Type 0 where
  is : grammar.IsOperation set.rules inner p q e
  tight : least < loosest_left e
  fits : FitsAt e q

record Grouped (set : Setting) (inner : Phrases) (least : ℕ) (p q : Place) (e : Expr) : Type 0 where
  climbed : Climbed set inner least p q e
  stops : Stops least q

module _ (set : Setting) (inner : Phrases) (readers : Readers) where
  abbrev SoundAt : (ℕ → Parser Expr) → Type 0
  SoundAt operation = (least : ℕ) → least < no_operator → (p : Place) → Reads (Grouped set inner least p) (operation least p)

  unary_is : (op : UnOp) (p a q : Place) (e : Expr) → grammar.TakesUnary set.rules inner op p a
      → grammar.IsOperation set.rules inner (raised a) q e → HasOperand e
      → grammar.IsOperation set.rules inner p q (tree.the_expr 0 (over p q) (tree.Unary op e))
  unary_is op p a q e takes is tight = (refl, refl, (a, takes, is, tight))

  binary_is : (op : BinOp) (p a b q : Place) (left right : Expr) → grammar.IsOperation set.rules inner p a left
      → grammar.TakesBinary set.rules inner op a b → grammar.IsOperation set.rules inner (raised b) q right → HasOperands op left right
      → grammar.IsOperation set.rules inner p q (tree.the_expr 0 (over p q) (tree.Binary op left right))
  binary_is op p a b q left right before takes is has = (refl, refl, (a, b, before, takes, is, has))

  -- the symbol of the next token is that of the token which was taken
  taken : (p q : Place) (t : Tok) → IsNext set.rules p q t → Takes set.rules (symbol p) p q
  unfolding Takes
  taken p q t n = (t, sym (next_symbol set.rules p q t n), n)

  unary_sound : (operation : ℕ → Parser Expr) → SoundAt operation → (op : UnOp) (p : Place) → unary_of (symbol p) ≡ Some op
      → Reads (Operand set inner p) (reads.unary set readers (operation unary_tightness) op p)
  unfolding reads.unary
  unary_sound operation sound op p e =
      reads_then (next_sound set p) (λ a t n. reads_then (raise_sound set a) (λ b u r.
      reads_then (sound unary_tightness (omega arith) b) (λ q x g. reads_ok _ (record {
        is =
            unary_is op p a q x (symbol p, e, taken p a t n) (subst (λ z. grammar.IsOperation set.rules inner z q x) r.1 g.climbed.is)
            g.climbed.tight;
        left = refl;
        fits = λ other h. fits_behind_unary other op 0 (from_to (start_of p) q) x (g.stops other h) (g.climbed.fits other h);
      }))))

  operand_by_sound : (operation : ℕ → Parser Expr) → SoundAt operation → Sound (IsAssertion set.rules inner) (reads.assertion set readers)
      → (p : Place) (o : Option UnOp) → unary_of (symbol p) ≡ o
      → Reads (Operand set inner p) (reads.operand_by set readers operation o p)
  operand_by_sound operation sound assertion p None e =
      reads_weaker (assertion p) (λ q x h. record {
        is = assertion_is set.rules inner p q x h;
        left = assertion_left set.rules inner p q x h;
        fits = λ other next. fits_operand other x (assertion_right set.rules inner p q x h);
      })
  operand_by_sound operation sound assertion p (Some op) e = unary_sound operation sound op p e

  operand_sound : (operation : ℕ → Parser Expr) → SoundAt operation → Sound (IsAssertion set.rules inner) (reads.assertion set readers)
      → (p : Place) → Reads (Operand set inner p) (reads.operand set readers operation p)
  unfolding reads.operand
  operand_sound operation sound assertion p = operand_by_sound operation sound assertion p (unary_of (symbol p)) refl

  binary_sound : (operation : ℕ → Parser Expr) → SoundAt operation → (least : ℕ) (p a : Place) (left : Expr) (op : BinOp)
      → Climbed set inner least p a left → binary_of (symbol a) ≡ Some op → least < tightness op
      → Reads (Climbed set inner least p) (reads.binary set readers operation (start_of p) left op a)
  unfolding reads.binary
  binary_sound operation sound least p a left op c e tight =
      reads_then (next_sound set a) (λ b t n. reads_then (raise_sound set b) (λ d u r.
      reads_then (sound (right_least op) (least_below op) d) (λ q right g. reads_ok _ (record {
        is =
            binary_is op p a b q left right c.is (symbol a, e, taken a b t n)
            (subst (λ z. grammar.IsOperation set.rules inner z q right) r.1 g.climbed.is)
            (has_operands op left right (c.fits op e) g.climbed.tight);
        tight = (let h : least < loosest_left left = c.tight in omega arith);
        fits = λ other h. fits_behind other op 0 (from_to (start_of p) q) left right (g.stops other h) (g.climbed.fits other h);
      }))))

  step_sound : (operation : ℕ → Parser Expr) → SoundAt operation → (least : ℕ) (p a : Place) (left : Expr)
      → Climbed set inner least p a left → is_some (tighter least a) ≡ true
      → Reads (Climbed set inner least p) (reads.climb_step set readers operation (start_of p) left a)
  step_sound operation sound least p a left c h =
      let (op, e, tight) = next_tighter least a h in
      reads_as (step_is set readers operation (start_of p) left a op e) (binary_sound operation sound least p a left op c e tight)

  climb_from_sound : (operation : ℕ → Parser Expr) → SoundAt operation → (least : ℕ) (p a : Place) (first : Expr)
      → Climbed set inner least p a first
      → Reads (Grouped set inner least p) (reads.climb_from set readers operation least (start_of p) first a)
  unfolding reads.climb_from
  climb_from_sound operation sound least p a first c =
      reads_weaker
      (steps_sound set (λ _ q. is_some (tighter least q)) (reads.climb_step set readers operation (start_of p)) (Climbed set inner least p)
      (λ b x d h. step_sound operation sound least p b x d h) (length a.ahead) a first c)
      (λ q x h. record { climbed = h.0; stops = stops_at least q h.1 })

  operand_climbed : (least : ℕ) → least < no_operator → (p q : Place) (e : Expr) → Operand set inner p q e → Climbed set inner least p q e
  operand_climbed least below p q e o = record {
    is = o.is;
    tight = rw o.left below;
    fits = o.fits;
  }

  climb_sound : (operation : ℕ → Parser Expr) → SoundAt operation → Sound (IsAssertion set.rules inner) (reads.assertion set readers)
      → SoundAt (reads.climb set readers operation)
  unfolding reads.climb
  climb_sound operation sound assertion least below p =
      reads_then (operand_sound operation sound assertion p) (λ a first o.
      climb_from_sound operation sound least p a first (operand_climbed least below p a first o))

  operation_sound : Sound (IsAssertion set.rules inner) (reads.assertion set readers) → (turns : ℕ)
      → SoundAt (reads.operation set readers turns)
  unfolding reads.operation
  operation_sound assertion zero least below p = reads_err _
  operation_sound assertion (suc turns) least below p =
      climb_sound (reads.operation set readers turns) (operation_sound assertion turns) assertion least below p

  -- What `expression_inside` reads is an expression, where operands are what `assertion` reads.
  pub expression_sound_by : Sound (IsAssertion set.rules inner) (reads.assertion set readers)
      → Sound (grammar.IsExpression set.rules inner) (reads.expression_inside set readers)
  unfolding reads.expression_inside
  expression_sound_by assertion p =
      reads_weaker (operation_sound assertion (length p.ahead) 0 (omega arith) p)
      (λ q x g. (g.climbed.is, no_next (binary_of (symbol q)) (λ op e. absurd (loose op (g.stops op e)))))
    where
      loose : (op : BinOp) → tightness op ≤ 0 → ⊥
      loose op h = let pos : 1 ≤ tightness op = positive op in omega arith
