-- The parsers of expressions up to a refused token.
use Rattle.std.proofs.Common.{◌≡◌, ℕ, true, false, List, [], ◌∷◌, ◌++◌, refl, ◌∙◌, codes}
use Rattle.luau_lex.specs.Tokens.{Tok}
use Rattle.luau_tree.specs.Tree.{Expr, ExprKind}
use Rattle.luau_tree.specs.Tree as tree
use Rattle.luau_tree.specs.View.{choices}
use Rattle.luau_grammar.specs.declared.symbol.Symbol.{Symbol}
use Rattle.luau_grammar.specs.declared.symbol.Symbol.TheVariants as s
use Rattle.luau_grammar.specs.Symbols.{same, symbol_of}
use Rattle.luau_grammar.specs.Places.{symbol, sees}
use Rattle.luau_grammar.specs.Reading.{Readers}
use Rattle.luau_grammar.specs.ReadPhrases as phrases
use Rattle.luau_grammar.specs.ReadExpressions as code
use Rattle.grammar_faults.proofs.LocalTypes as locals
use Rattle.grammar_faults.proofs.LocalTypes.{LocalReaders}
use Rattle.grammar_faults.proofs.LocalExpressions as terms
use Rattle.fault_places.proofs.Closing.{Frame}
use Rattle.fault_places.proofs.ClosingTokens.{anything, any, never}
use Rattle.fault_places.proofs.ClosingSteps.{Reads, link, rest, idle, loop_reads}
use Rattle.fault_places.proofs.ClosingWords.{EndsType, EndsValue, the_name, the_sign, the_word, value_paren, value_bracket, value_then, value_else}
use Rattle.fault_places.proofs.ClosingSymbols.{symbol_of_it, token, given, at_start, spanned, a_name, either, if_seen, peek_sees, sees_first}
use Rattle.fault_places.proofs.ClosingLists.{Held, EndsList, some_tails, expression_reads, typ_reads, separated_reads}

abbrev Unlike : Symbol → Symbol → Type 0
Unlike x y = same y x ≡ false

-- no choice of an if-expression goes on with a symbol
record EndsChoice (x : Symbol) : Type 0 where
  pub value : EndsValue x
  pub more : same x s.ElseIf ≡ false

choice_else : EndsChoice s.Else
unfolding same
choice_else = record { value = value_else; more = refl }

module _ (f : Frame) (low high : Readers) (held : Held f low high) (local : LocalReaders some_tails low) where
  exp : Reads f EndsValue any (λ zs. the_name f.at ∷ zs) tt never (phrases.expression f.low low) (phrases.expression f.high high)
  exp = expression_reads f low high held

  pub expressions_reads : Reads f (EndsList EndsValue) any (λ zs. the_name f.at ∷ zs) tt never (code.expressions f.low low) (code.expressions f.high high)
  unfolding code.expressions
  expressions_reads =
      separated_reads f EndsValue (λ zs. the_name f.at ∷ zs) (phrases.expression f.low low) (phrases.expression f.high high) (locals.exp_local f.low low some_tails local) exp

  attribute_reads : (x y : Unit {0}) → Reads f anything any (λ zs. the_sign f.at (codes "@") ∷ the_name f.at ∷ zs) tt never (code.attribute f.low low x) (code.attribute f.high high y)
  unfolding code.attribute same symbol_of
  attribute_reads x y =
      rest f (link f (symbol_of_it f s.AtSign (the_sign f.at (codes "@")) refl refl) (λ _ _. a_name f) (λ _ _. tt)) (λ _ _. given f anything (tt {0}) (tt {0})) (λ _ z. z)

  pub attributes_reads : Reads f (Unlike s.AtSign) any (λ zs. zs) tt (λ z. z ≡ tt) (code.attributes f.low low) (code.attributes f.high high)
  unfolding code.attributes
  attributes_reads =
      loop_reads f (Unit {0}) (Unit {0}) (Unlike s.AtSign) anything any (λ _ p. sees s.AtSign p) (code.attribute f.low low) (code.attribute f.high high)
      (λ x y e u ts us l m. peek_sees s.AtSign u us ts l m) (λ x y e. (attribute_reads x y).goes) (λ y zs l m z. sees_first s.AtSign zs l m ∙ z) (λ x z. tt)
      (λ x. (terms.attribute_local f.low low some_tails local x).takes) tt tt refl tt refl

  annotation_reads : Reads f EndsType any (λ zs. zs) tt (λ z. z ≡ tt) (code.annotation f.low low) (code.annotation f.high high)
  unfolding code.annotation same symbol_of
  annotation_reads =
      if_seen f (sees s.Colon) (peek_sees s.Colon) (λ zs l m z. sees_first s.Colon zs l m ∙ z.colon)
      (link f (symbol_of_it f s.Colon (the_sign f.at (codes ":")) refl refl) (λ _ _.
      rest f (typ_reads f low high held) (λ x y. given f EndsType (tree.a_type x) (tree.a_type y)) (λ _ z. z)) (λ _ _. tt))
      (given f EndsType tree.no_type tree.no_type)

  pub bind_reads : Reads f EndsType any (λ zs. the_name f.at ∷ zs) tt never (code.bind f.low low) (code.bind f.high high)
  unfolding code.bind
  bind_reads =
      link f (at_start f anything) (λ a b.
      rest f (a_name f) (λ n o.
      idle f (spanned f EndsType a b) (λ i j.
      idle f annotation_reads (λ x y. given f EndsType (tree.the_bind n i x) (tree.the_bind o j y)) (λ _ z. z)) (λ _ z. z))
      (λ _ _. tt)) (λ _ _. tt)

  pub keyed_reads : Reads f EndsValue any (λ zs. the_sign f.at (codes "[") ∷ the_name f.at ∷ the_sign f.at (codes "]") ∷ the_sign f.at (codes "=") ∷ the_name f.at ∷ zs) tt never (code.keyed f.low low) (code.keyed f.high high)
  unfolding code.keyed same symbol_of
  keyed_reads =
      link f (symbol_of_it f s.LeftBracket (the_sign f.at (codes "[")) refl refl) (λ _ _.
      link f exp (λ k i.
      link f (symbol_of_it f s.RightBracket (the_sign f.at (codes "]")) refl refl) (λ _ _.
      link f (symbol_of_it f s.Assign (the_sign f.at (codes "=")) refl refl) (λ _ _.
      rest f exp (λ x y. given f EndsValue (tree.Keyed k x) (tree.Keyed i y)) (λ _ z. z))
      (λ _ _. tt)) (λ _ _. tt)) (λ _ _. value_bracket)) (λ _ _. tt)

  pub field_reads : Reads f EndsValue any (λ zs. the_name f.at ∷ the_sign f.at (codes "=") ∷ the_name f.at ∷ zs) tt never (code.field f.low low) (code.field f.high high)
  unfolding code.field same symbol_of
  field_reads =
      link f (a_name f) (λ n o.
      link f (symbol_of_it f s.Assign (the_sign f.at (codes "=")) refl refl) (λ _ _.
      rest f exp (λ x y. given f EndsValue (tree.Field n x) (tree.Field o y)) (λ _ z. z)) (λ _ _. tt)) (λ _ _. tt)

  paren_reads : Reads f anything any (λ zs. the_sign f.at (codes "(") ∷ the_name f.at ∷ the_sign f.at (codes ")") ∷ zs) tt never (code.paren f.low low) (code.paren f.high high)
  unfolding code.paren same symbol_of
  paren_reads =
      link f (at_start f anything) (λ a b.
      link f (symbol_of_it f s.LeftParen (the_sign f.at (codes "(")) refl refl) (λ _ _.
      link f exp (λ x y.
      rest f (symbol_of_it f s.RightParen (the_sign f.at (codes ")")) refl refl) (λ _ _.
      idle f (spanned f anything a b) (λ i j. given f anything (tree.the_expr 0 i (tree.Paren x)) (tree.the_expr 0 j (tree.Paren y))) (λ _ z. z)) (λ _ z. z))
      (λ _ _. value_paren)) (λ _ _. tt)) (λ _ _. tt)

  pub name_expression_reads : Reads f anything any (λ zs. the_name f.at ∷ zs) tt never (code.name_expression f.low low) (code.name_expression f.high high)
  unfolding code.name_expression
  name_expression_reads =
      link f (at_start f anything) (λ a b.
      rest f (a_name f) (λ n o.
      idle f (spanned f anything a b) (λ i j. given f anything (tree.the_expr 0 i (tree.NameExpr n)) (tree.the_expr 0 j (tree.NameExpr o))) (λ _ z. z)) (λ _ z. z)) (λ _ _. tt)

  primary_reads : Reads f anything any (λ zs. the_name f.at ∷ zs) tt never (code.primary f.low low) (code.primary f.high high)
  unfolding code.primary sees symbol same symbol_of
  primary_reads = either f {close = λ zs. the_name f.at ∷ zs} (sees s.LeftParen) (peek_sees s.LeftParen) (λ zs l m _. refl) paren_reads name_expression_reads

  choice_reads : (word : Symbol) (t : Tok) → same (symbol_of t) word ≡ true → t.span.start ≡ f.at
      → Reads f EndsValue any (λ zs. t ∷ the_name f.at ∷ the_word f.at (codes "then") ∷ the_name f.at ∷ zs) tt never (code.choice f.low low word) (code.choice f.high high word)
  unfolding code.choice same symbol_of
  choice_reads word t e d =
      link f (symbol_of_it f word t e d) (λ _ _.
      link f exp (λ x y.
      link f (symbol_of_it f s.Then (the_word f.at (codes "then")) refl refl) (λ _ _.
      rest f exp (λ v w. given f EndsValue (x, v) (y, w)) (λ _ z. z))
      (λ _ _. tt)) (λ _ _. value_then)) (λ _ _. tt)

  another_choice_reads : (x y : List (Expr × Expr))
      → Reads f EndsValue any (λ zs. the_word f.at (codes "elseif") ∷ the_name f.at ∷ the_word f.at (codes "then") ∷ the_name f.at ∷ zs) tt never (code.another_choice f.low low x) (code.another_choice f.high high y)
  unfolding code.another_choice same symbol_of
  another_choice_reads x y = rest f (choice_reads s.ElseIf (the_word f.at (codes "elseif")) refl refl) (λ v w. given f EndsValue (x ++ v ∷ []) (y ++ w ∷ [])) (λ _ z. z)

  all_choices_reads : Reads f EndsChoice any (λ zs. the_word f.at (codes "if") ∷ the_name f.at ∷ the_word f.at (codes "then") ∷ the_name f.at ∷ zs) tt never (code.all_choices f.low low) (code.all_choices f.high high)
  unfolding code.all_choices same symbol_of
  all_choices_reads =
      rest f (choice_reads s.If (the_word f.at (codes "if")) refl refl) (λ x y.
      idle f (loop_reads f (List (Expr × Expr)) (Unit {0}) EndsChoice EndsValue any (λ _ p. sees s.ElseIf p) (code.another_choice f.low low) (code.another_choice f.high high)
      (λ x y e u ts us l m. peek_sees s.ElseIf u us ts l m) (λ x y e. (another_choice_reads x y).goes) (λ y zs l m z. sees_first s.ElseIf zs l m ∙ z.more) (λ x z. z.value)
      (λ x. (terms.another_choice_local f.low low some_tails local x).takes) (x ∷ []) (y ∷ []) refl tt refl)
      (λ v w. given f EndsChoice (choices v) (choices w)) (λ _ z. z)) (λ _ z. z.value)

  pub if_else_reads : (a b : ℕ) → Reads f EndsValue any
      (λ zs. the_word f.at (codes "if") ∷ the_name f.at ∷ the_word f.at (codes "then") ∷ the_name f.at ∷ the_word f.at (codes "else") ∷ the_name f.at ∷ zs) tt never (code.if_else f.low low a) (code.if_else f.high high b)
  unfolding code.if_else same symbol_of
  if_else_reads a b =
      link f all_choices_reads (λ x y.
      link f (symbol_of_it f s.Else (the_word f.at (codes "else")) refl refl) (λ _ _.
      rest f exp (λ v w. idle f (spanned f EndsValue a b) (λ i j. given f EndsValue (tree.the_expr 0 i (tree.IfElse x v)) (tree.the_expr 0 j (tree.IfElse y w))) (λ _ z. z)) (λ _ z. z))
      (λ _ _. tt)) (λ _ _. choice_else)

  pub word_reads : (a b : ℕ) (kind : ExprKind) → Reads f anything any (λ zs. the_name f.at ∷ zs) tt never (code.word f.low low a kind) (code.word f.high high b kind)
  unfolding code.word
  word_reads a b kind =
      rest f (token f (the_name f.at) refl) (λ _ _. idle f (spanned f anything a b) (λ i j. given f anything (tree.the_expr 0 i kind) (tree.the_expr 0 j kind)) (λ _ z. z)) (λ _ z. z)
