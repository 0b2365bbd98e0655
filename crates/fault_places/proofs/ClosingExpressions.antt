-- The parsers of expressions without operators up to a refused token.
use Rattle.std.proofs.Common.{◌≡◌, ℕ, ◌≤◌, true, false, ◌||◌, ◌∷◌, refl, ◌∙◌, ap, codes, arith, Option, None}
use Rattle.luau_lex.specs.Tokens.{Tok}
use Rattle.luau_tree.specs.declared.position.Span.{Span}
use Rattle.luau_tree.specs.Tree.{Expr, ExprKind, Items}
use Rattle.luau_tree.specs.Tree as tree
use Rattle.luau_grammar.specs.declared.symbol.Symbol.{Symbol}
use Rattle.luau_grammar.specs.declared.symbol.Symbol.TheVariants as s
use Rattle.luau_grammar.specs.Symbols.{same, symbol_of}
use Rattle.luau_grammar.specs.Places.{Place, symbol, sees, start_of}
use Rattle.luau_grammar.specs.Reading as read
use Rattle.luau_grammar.specs.Reading.{Parser, Readers, ◌>>=◌, pure, start}
use Rattle.luau_grammar.specs.ReadPhrases as phrases
use Rattle.luau_grammar.specs.ReadExpressions as code
use Rattle.grammar_faults.proofs.LocalTypes.{LocalReaders}
use Rattle.fault_places.proofs.Closing.{Frame, place, peak, Opens, Goes, far_then}
use Rattle.fault_places.proofs.ClosingTokens.{anything, any, never, choose_goes, this_opens, other_opens, refuses, under, under_opens, forget, forget_opens, level_goes, value_opens}
use Rattle.fault_places.proofs.ClosingSteps.{Reads, link, rest, idle}
use Rattle.fault_places.proofs.ClosingWords.{EndsValue, the_name, the_sign, the_word, the_text, the_number}
use Rattle.fault_places.proofs.ClosingSymbols.{symbol_of_it, given, at_start, spanned, a_string, if_seen, fitted, peek_sees, sees_first}
use Rattle.fault_places.proofs.ClosingLists.{Held, some_tails, typ_reads}
use Rattle.fault_places.proofs.ClosingBodies.{body_reads}
use Rattle.fault_places.proofs.ClosingBraces.{table_reads}
use Rattle.fault_places.proofs.ClosingValues.{attributes_reads, if_else_reads, word_reads}
use Rattle.fault_places.proofs.ClosingPairs.{var_annotation_reads}
use Rattle.fault_places.proofs.ClosingTypes.{generics_reads}
use Rattle.fault_places.proofs.ClosingForms.{result_reads}
use Rattle.fault_places.proofs.ClosingArguments.{table_far, table_idle}
use Rattle.fault_places.proofs.ClosingSuffixes.{value_suffix, prefix_reads, only_prefix}
use Rattle.fault_places.proofs.ClosingParts.{interpolation_goes, whole_goes}
use Rattle.fault_places.proofs.ClosingChoices.{by_peek, opens_link, never_then}

-- ---- a name, and nothing more

module _ (f : Frame) (high : Readers) (a : ℕ) (fits : a ≤ peak f) (u : Tok) (e : same (symbol_of u) s.Name ≡ true) where
  only_simple : Opens f a EndsValue any (λ zs. u ∷ zs) tt (code.simple f.high high)
  unfolding code.simple sees symbol
  only_simple =
      this_opens f {close = λ zs. u ∷ zs} (λ p. sees s.Name p || sees s.LeftParen p) (code.form f.high high) (λ zs l m _. ap (λ z. z || same (symbol_of u) s.LeftParen) e)
      (under_opens f value_suffix (only_prefix f high a fits u e))

  only_plain : (b : ℕ) (x : Expr) → Opens f a EndsValue any (λ zs. zs) tt (code.asserted f.high high b x)
  unfolding code.asserted
  only_plain b x =
      other_opens f {close = λ zs. zs} (sees s.DoubleColon) (read.expect f.high s.DoubleColon >>= (λ _. phrases.typ f.high high None >>= (λ t. read.span_from b >>= (λ i. pure (tree.the_expr 0 i (tree.Assert x t))))))
      (λ zs l m z. sees_first s.DoubleColon zs l m ∙ z.cast) (value_opens f a EndsValue any (λ p. x) tt (λ p. refl))

  pub only_assertion : Opens f a EndsValue any (λ zs. u ∷ zs) tt (code.assertion f.high high)
  unfolding code.assertion
  only_assertion =
      opens_link f a (value_opens f a anything any start_of tt (λ p. refl)) (λ b. opens_link f a only_simple (λ x. only_plain b x) (λ _ z. z)) (λ _ _. tt)

module _ (f : Frame) (low high : Readers) (held : Held f low high) (local : LocalReaders some_tails low) (others : LocalReaders some_tails high) where
  pub a_body_reads : (m n : Option Span) → Reads f anything any (λ zs. the_sign f.at (codes "(") ∷ the_sign f.at (codes ")") ∷ the_word f.at (codes "end") ∷ zs) tt never
      (code.body f.low low m) (code.body f.high high n)
  a_body_reads =
      body_reads f low high held local (var_annotation_reads f low high held local) (result_reads f low high held local)
      (generics_reads f low high held local (result_reads f low high held local) false)

  -- ---- forms

  function_goes : (a b : ℕ) → Goes f anything any never (code.function f.low low a) (code.function f.high high b)
  unfolding code.function same symbol_of
  function_goes a b =
      (link f (attributes_reads f low high held local) (λ _ _.
      link f (symbol_of_it f s.Function (the_word f.at (codes "function")) refl refl) (λ _ _.
      rest f (a_body_reads None None) (λ v w.
      idle f (spanned f anything a b) (λ i j. given f anything (tree.the_expr 0 i (tree.FunctionExpr v)) (tree.the_expr 0 j (tree.FunctionExpr w))) (λ _ z. z)) (λ _ z. z)) (λ _ _. tt)) (λ _ _. refl)).goes

  number_goes : (a b : ℕ) → Goes f anything any never (code.number f.low low a) (code.number f.high high b)
  unfolding code.number same symbol_of
  number_goes a b =
      (rest f (symbol_of_it f s.Number (the_number f.at) refl refl) (λ v w.
      idle f (spanned f anything a b) (λ i j. given f anything (tree.the_expr 0 i (tree.NumberExpr v.bytes)) (tree.the_expr 0 j (tree.NumberExpr w.bytes))) (λ _ z. z)) (λ _ z. z)).goes

  literal_goes : (a b : ℕ) → Goes f anything any never (code.literal f.low low a) (code.literal f.high high b)
  unfolding code.literal same symbol_of
  literal_goes a b =
      (rest f (a_string f s.Text (the_text f.at) refl refl) (λ v w.
      idle f (spanned f anything a b) (λ i j. given f anything (tree.the_expr 0 i (tree.StrExpr v)) (tree.the_expr 0 j (tree.StrExpr w))) (λ _ z. z)) (λ _ z. z)).goes

  abbrev filled : ℕ → Items → Parser Expr
  filled from x = read.span_from from >>= (λ i. pure (tree.the_expr 0 i (tree.TableExpr x)))

  constructor_goes : (a b : ℕ) → Goes f anything any never (code.constructor f.low low a) (code.constructor f.high high b)
  unfolding code.constructor same symbol_of
  constructor_goes a b =
      level_goes f
      (λ n h. (rest f (table_reads f low high held local n h) (λ x y.
      idle f (spanned f anything a b) (λ i j. given f anything (tree.the_expr 0 i (tree.TableExpr x)) (tree.the_expr 0 j (tree.TableExpr y))) (λ _ z. z)) (λ _ z. z)).goes)
      (λ l m. never_then f any any never (filled a) (code.table f.low low m (place f.cut l m)) (table_idle f low high held local any never m l m) (λ _ _ c. c))
      (λ p c. far_then f (filled a) (code.table f.low low p.level p)
      (table_far f low high held local p.level p ((symbol_of_it f s.LeftBrace (the_sign f.at (codes "{")) refl refl).goes.far p c)) (λ _ _ d. d))

  a_word : (a b : ℕ) (kind : ExprKind) → Goes f anything any never (code.word f.low low a kind) (code.word f.high high b kind)
  a_word a b kind = (word_reads f low high held local a b kind).goes

  form_by_goes : (a b : ℕ) (x : Symbol) → Goes f EndsValue any never (code.form_by f.low low a x) (code.form_by f.high high b x)
  form_by_goes a b s.Nil = under f (λ _ _. tt) (a_word a b tree.NilExpr)
  form_by_goes a b s.True = under f (λ _ _. tt) (a_word a b tree.TrueExpr)
  form_by_goes a b s.False = under f (λ _ _. tt) (a_word a b tree.FalseExpr)
  form_by_goes a b s.Dots = under f (λ _ _. tt) (a_word a b tree.Vararg)
  form_by_goes a b s.Number = under f (λ _ _. tt) (number_goes a b)
  form_by_goes a b s.Text = under f (λ _ _. tt) (literal_goes a b)
  form_by_goes a b s.LeftBrace = under f (λ _ _. tt) (constructor_goes a b)
  form_by_goes a b s.Function = under f (λ _ _. tt) (function_goes a b)
  form_by_goes a b s.AtSign = under f (λ _ _. tt) (function_goes a b)
  form_by_goes a b s.If = (if_else_reads f low high held local a b).goes
  form_by_goes a b s.Whole = under f (λ _ _. tt) (whole_goes f low high held local others a b)
  form_by_goes a b s.Begin = under f (λ _ _. tt) (interpolation_goes f low high held local others a b)
  form_by_goes a b _ = refuses f EndsValue any never

  abbrev seen_first : Place → ℕ × Symbol
  seen_first p = (start_of p, symbol p)

  form_goes : Goes f EndsValue any never (code.form f.low low) (code.form f.high high)
  unfolding code.form symbol start_of
  form_goes = by_peek f seen_first (λ x. code.form_by f.low low x.0 x.1) (λ x. code.form_by f.high high x.0 x.1) (λ u ts us l m. refl) (λ x. form_by_goes x.0 x.0 x.1)

  -- ---- prefixes and forms, and `::`

  simple_reads : Reads f EndsValue any (λ zs. the_name f.at ∷ zs) tt never (code.simple f.low low) (code.simple f.high high)
  unfolding code.simple sees symbol same symbol_of
  simple_reads =
      let prefix = fitted f value_suffix (prefix_reads f low high held local) in
      record {
        goes = choose_goes f (λ p. sees s.Name p || sees s.LeftParen p) (λ u ts us l m. refl) (forget f (λ d b. b) prefix.goes) form_goes;
        opens = this_opens f {close = λ zs. the_name f.at ∷ zs} (λ p. sees s.Name p || sees s.LeftParen p) (code.form f.high high) (λ zs l m _. refl) (forget_opens f prefix.opens);
        late = λ zs fol b. (let x : f.at ≤ f.at = omega arith in x, b);
      }

  asserted_reads : (a b : ℕ) (x y : Expr) → Reads f EndsValue any (λ zs. zs) tt (λ z. z ≡ tt) (code.asserted f.low low a x) (code.asserted f.high high b y)
  unfolding code.asserted same symbol_of
  asserted_reads a b x y =
      if_seen f (sees s.DoubleColon) (peek_sees s.DoubleColon) (λ zs l m z. sees_first s.DoubleColon zs l m ∙ z.cast)
      (link f (symbol_of_it f s.DoubleColon (the_sign f.at (codes "::")) refl refl) (λ _ _.
      rest f (typ_reads f low high held) (λ t u.
      idle f (spanned f EndsValue a b) (λ i j. given f EndsValue (tree.the_expr 0 i (tree.Assert x t)) (tree.the_expr 0 j (tree.Assert y u))) (λ _ z. z)) (λ _ z. z.typ)) (λ _ _. tt))
      (given f EndsValue x y)

  pub assertion_reads : Reads f EndsValue any (λ zs. the_name f.at ∷ zs) tt never (code.assertion f.low low) (code.assertion f.high high)
  unfolding code.assertion
  assertion_reads = link f (at_start f anything) (λ a b. rest f simple_reads (λ x y. asserted_reads a b x y) (λ _ z. z)) (λ _ _. tt)
