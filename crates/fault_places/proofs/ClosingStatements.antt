-- The parsers of statements up to a refused token, over those of prefixes, generics and bodies.
use Rattle.std.proofs.Common.{◌≡◌, ℕ, Bool, true, false, List, [], ◌∷◌, ◌++◌, refl, ◌∙◌, codes, Option, None}
use Rattle.luau_lex.specs.Tokens.{Tok}
use Rattle.luau_tree.specs.declared.position.Span.{Span}
use Rattle.luau_tree.specs.Tree.{Expr, Block, StatKind, Bind}
use Rattle.luau_tree.specs.Tree as tree
use Rattle.luau_tree.specs.View.{exprs, binds, arms}
use Rattle.luau_grammar.specs.declared.symbol.Symbol.{Symbol}
use Rattle.luau_grammar.specs.declared.symbol.Symbol.TheVariants as s
use Rattle.luau_grammar.specs.Symbols.{same, symbol_of}
use Rattle.luau_grammar.specs.Places.{symbol, sees}
use Rattle.luau_grammar.specs.Reading as read
use Rattle.luau_grammar.specs.Reading.{Readers, ◌>>=◌, pure}
use Rattle.luau_grammar.specs.ReadPhrases as phrases
use Rattle.luau_grammar.specs.ReadTypes as types
use Rattle.luau_grammar.specs.ReadExpressions as values
use Rattle.luau_grammar.specs.ReadStatements as code
use Rattle.luau_grammar.specs.ReadStatements.{Range}
use Rattle.grammar_faults.proofs.LocalTypes.{LocalReaders}
use Rattle.grammar_faults.proofs.LocalExpressions as terms
use Rattle.grammar_faults.proofs.LocalStatements as locals
use Rattle.fault_places.proofs.Closing.{Frame}
use Rattle.fault_places.proofs.ClosingTokens.{anything, any, never}
use Rattle.fault_places.proofs.ClosingSteps.{Reads, link, rest, idle, loop_reads}
use Rattle.fault_places.proofs.ClosingWords.{EndsType, EndsValue, the_name, the_sign, the_word, value_then, value_do, value_comma, type_in}
use Rattle.fault_places.proofs.ClosingSymbols.{symbol_of_it, token, given, at_start, spanned, a_name, either, if_seen, fitted, peek_sees, sees_first}
use Rattle.fault_places.proofs.ClosingLists.{Held, EndsList, EndsBlock, some_tails, expression_reads, typ_reads, block_reads, separated_reads, separated_from_reads}
use Rattle.fault_places.proofs.ClosingValues.{expressions_reads, bind_reads}

abbrev Unlike : Symbol → Symbol → Type 0
Unlike x y = same y x ≡ false

pub block_end : EndsBlock s.End
unfolding same
block_end = record {
  value = record { typ = record { question = refl; pipe = refl; ampersand = refl; arrow = refl; less = refl; dot = refl; dots = refl; colon = refl; paren = refl; assign = refl; name = refl; bracket = refl }; bracket = refl; brace = refl; text = refl; cast = refl; binary = refl };
  comma = refl;
  semicolon = refl;
  statement = refl;
  closes = refl;
  compound = refl;
  expression = refl;
}

block_until : EndsBlock s.Until
unfolding same
block_until = record {
  value = record { typ = record { question = refl; pipe = refl; ampersand = refl; arrow = refl; less = refl; dot = refl; dots = refl; colon = refl; paren = refl; assign = refl; name = refl; bracket = refl }; bracket = refl; brace = refl; text = refl; cast = refl; binary = refl };
  comma = refl;
  semicolon = refl;
  statement = refl;
  closes = refl;
  compound = refl;
  expression = refl;
}

-- no arm of an `if` goes on with a symbol, nor the `if`
record EndsArm (x : Symbol) : Type 0 where
  pub block : EndsBlock x
  pub more : same x s.ElseIf ≡ false
  pub last : same x s.Else ≡ false

arm_end : EndsArm s.End
unfolding same
arm_end = record { block = block_end; more = refl; last = refl }

values_do : EndsList EndsValue s.Do
unfolding same
values_do = record { one = value_do; comma = refl }

types_in : EndsList EndsType s.In
unfolding same
types_in = record { one = type_in; comma = refl }

module _ (f : Frame) (low high : Readers) (held : Held f low high) (local : LocalReaders some_tails low) where
  exp : Reads f EndsValue any (λ zs. the_name f.at ∷ zs) tt never (phrases.expression f.low low) (phrases.expression f.high high)
  exp = expression_reads f low high held

  block : Reads f EndsBlock any (λ zs. zs) tt (λ z. z ≡ tt) (phrases.block f.low low) (phrases.block f.high high)
  block = block_reads f low high held

  several : Reads f (EndsList EndsValue) any (λ zs. the_name f.at ∷ zs) tt never (values.expressions f.low low) (values.expressions f.high high)
  several = expressions_reads f low high held local

  the_end : Reads f anything any (λ zs. the_word f.at (codes "end") ∷ zs) tt never (read.expect f.low s.End) (read.expect f.high s.End)
  unfolding same symbol_of
  the_end = symbol_of_it f s.End (the_word f.at (codes "end")) refl refl

  pub do_block_reads : Reads f anything any (λ zs. the_word f.at (codes "do") ∷ the_word f.at (codes "end") ∷ zs) tt never (code.do_block f.low low) (code.do_block f.high high)
  unfolding code.do_block same symbol_of
  do_block_reads =
      link f (symbol_of_it f s.Do (the_word f.at (codes "do")) refl refl) (λ _ _.
      link f block (λ b c.
      rest f the_end (λ _ _. given f anything b c) (λ _ z. z)) (λ _ _. block_end)) (λ _ _. tt)

  pub while_reads : (a b : ℕ) → Reads f anything any (λ zs. the_word f.at (codes "while") ∷ the_name f.at ∷ the_word f.at (codes "do") ∷ the_word f.at (codes "end") ∷ zs) tt never (code.while_statement f.low low a) (code.while_statement f.high high b)
  unfolding code.while_statement same symbol_of
  while_reads a b =
      link f (symbol_of_it f s.While (the_word f.at (codes "while")) refl refl) (λ _ _.
      link f exp (λ x y.
      rest f do_block_reads (λ v w.
      idle f (spanned f anything a b) (λ i j. given f anything (tree.the_stat i (tree.While x v)) (tree.the_stat j (tree.While y w))) (λ _ z. z)) (λ _ z. z))
      (λ _ _. value_do)) (λ _ _. tt)

  pub repeat_reads : (a b : ℕ) → Reads f EndsValue any (λ zs. the_word f.at (codes "repeat") ∷ the_word f.at (codes "until") ∷ the_name f.at ∷ zs) tt never (code.repeat_statement f.low low a) (code.repeat_statement f.high high b)
  unfolding code.repeat_statement same symbol_of
  repeat_reads a b =
      link f (symbol_of_it f s.Repeat (the_word f.at (codes "repeat")) refl refl) (λ _ _.
      link f block (λ x y.
      link f (symbol_of_it f s.Until (the_word f.at (codes "until")) refl refl) (λ _ _.
      rest f exp (λ v w.
      idle f (spanned f EndsValue a b) (λ i j. given f EndsValue (tree.the_stat i (tree.Repeat x v)) (tree.the_stat j (tree.Repeat y w))) (λ _ z. z)) (λ _ z. z))
      (λ _ _. tt)) (λ _ _. block_until)) (λ _ _. tt)

  arm_reads : (word : Symbol) (t : Tok) → same (symbol_of t) word ≡ true → t.span.start ≡ f.at
      → Reads f EndsBlock any (λ zs. t ∷ the_name f.at ∷ the_word f.at (codes "then") ∷ zs) tt never (code.arm f.low low word) (code.arm f.high high word)
  unfolding code.arm same symbol_of
  arm_reads word t e d =
      link f (symbol_of_it f word t e d) (λ _ _.
      link f exp (λ x y.
      rest f (symbol_of_it f s.Then (the_word f.at (codes "then")) refl refl) (λ _ _.
      idle f block (λ v w. given f EndsBlock (x, v) (y, w)) (λ _ z. z)) (λ _ _. tt))
      (λ _ _. value_then)) (λ _ _. tt)

  another_arm_reads : (x y : List (Expr × Block))
      → Reads f EndsBlock any (λ zs. the_word f.at (codes "elseif") ∷ the_name f.at ∷ the_word f.at (codes "then") ∷ zs) tt never (code.another_arm f.low low x) (code.another_arm f.high high y)
  unfolding code.another_arm same symbol_of
  another_arm_reads x y = rest f (arm_reads s.ElseIf (the_word f.at (codes "elseif")) refl refl) (λ v w. given f EndsBlock (x ++ v ∷ []) (y ++ w ∷ [])) (λ _ z. z)

  all_arms_reads : Reads f EndsArm any (λ zs. the_word f.at (codes "if") ∷ the_name f.at ∷ the_word f.at (codes "then") ∷ zs) tt never (code.all_arms f.low low) (code.all_arms f.high high)
  unfolding code.all_arms same symbol_of
  all_arms_reads =
      rest f (arm_reads s.If (the_word f.at (codes "if")) refl refl) (λ x y.
      idle f (loop_reads f (List (Expr × Block)) (Unit {0}) EndsArm EndsBlock any (λ _ p. sees s.ElseIf p) (code.another_arm f.low low) (code.another_arm f.high high)
      (λ x y e u ts us l m. peek_sees s.ElseIf u us ts l m) (λ x y e. (another_arm_reads x y).goes) (λ y zs l m z. sees_first s.ElseIf zs l m ∙ z.more) (λ x z. z.block)
      (λ x. (locals.another_arm_local f.low low some_tails local x).takes) (x ∷ []) (y ∷ []) refl tt refl)
      (λ v w. given f EndsArm (arms v) (arms w)) (λ _ z. z)) (λ _ z. z.block)

  else_reads : Reads f EndsArm any (λ zs. zs) tt (λ z. z ≡ tt) (code.maybe_else f.low low) (code.maybe_else f.high high)
  unfolding code.maybe_else same symbol_of
  else_reads =
      if_seen f (sees s.Else) (peek_sees s.Else) (λ zs l m z. sees_first s.Else zs l m ∙ z.last)
      (rest f (symbol_of_it f s.Else (the_word f.at (codes "else")) refl refl) (λ _ _.
      idle f block (λ v w. given f EndsArm (tree.a_block v) (tree.a_block w)) (λ _ z. z.block)) (λ _ _. tt))
      (given f EndsArm tree.no_block tree.no_block)

  pub if_reads : (a b : ℕ) → Reads f anything any (λ zs. the_word f.at (codes "if") ∷ the_name f.at ∷ the_word f.at (codes "then") ∷ the_word f.at (codes "end") ∷ zs) tt never (code.if_statement f.low low a) (code.if_statement f.high high b)
  unfolding code.if_statement symbol_of
  if_reads a b =
      link f all_arms_reads (λ x y.
      link f else_reads (λ v w.
      rest f the_end (λ _ _.
      idle f (spanned f anything a b) (λ i j. given f anything (tree.the_stat i (tree.If x v)) (tree.the_stat j (tree.If y w))) (λ _ z. z)) (λ _ z. z))
      (λ _ _. arm_end)) (λ _ _. arm_end)

  step_reads : Reads f (EndsList EndsValue) any (λ zs. zs) tt (λ z. z ≡ tt) (code.maybe_step f.low low) (code.maybe_step f.high high)
  unfolding code.maybe_step same symbol_of
  step_reads =
      if_seen f (sees s.Comma) (peek_sees s.Comma) (λ zs l m z. sees_first s.Comma zs l m ∙ z.comma)
      (link f (symbol_of_it f s.Comma (the_sign f.at (codes ",")) refl refl) (λ _ _.
      rest f exp (λ v w. given f (EndsList EndsValue) (tree.an_expr v) (tree.an_expr w)) (λ _ z. z.one)) (λ _ _. tt))
      (given f (EndsList EndsValue) tree.no_expr tree.no_expr)

  range_reads : Reads f (EndsList EndsValue) any (λ zs. the_name f.at ∷ the_sign f.at (codes ",") ∷ the_name f.at ∷ zs) tt never (code.range f.low low) (code.range f.high high)
  unfolding code.range same symbol_of
  range_reads =
      link f exp (λ x y.
      link f (symbol_of_it f s.Comma (the_sign f.at (codes ",")) refl refl) (λ _ _.
      rest f exp (λ v w.
      idle f step_reads (λ i j. given f (EndsList EndsValue) (record { first = x; to = v; step = i }) (record { first = y; to = w; step = j })) (λ _ z. z)) (λ _ z. z.one))
      (λ _ _. tt)) (λ _ _. value_comma)

  numeric_reads : (a b : ℕ) (x y : Bind) → Reads f anything any
      (λ zs. the_sign f.at (codes "=") ∷ the_name f.at ∷ the_sign f.at (codes ",") ∷ the_name f.at ∷ the_word f.at (codes "do") ∷ the_word f.at (codes "end") ∷ zs) tt never
      (code.numeric_for f.low low a x) (code.numeric_for f.high high b y)
  unfolding code.numeric_for same symbol_of
  numeric_reads a b x y =
      link f (symbol_of_it f s.Assign (the_sign f.at (codes "=")) refl refl) (λ _ _.
      link f range_reads (λ r t.
      rest f do_block_reads (λ v w.
      idle f (spanned f anything a b) (λ i j. given f anything (tree.the_stat i (tree.NumFor x r.first r.to r.step v)) (tree.the_stat j (tree.NumFor y t.first t.to t.step w))) (λ _ z. z)) (λ _ z. z))
      (λ _ _. values_do)) (λ _ _. tt)

  generic_for_reads : (a b : ℕ) (x y : Bind) → Reads f anything any
      (λ zs. the_word f.at (codes "in") ∷ the_name f.at ∷ the_word f.at (codes "do") ∷ the_word f.at (codes "end") ∷ zs) tt never
      (code.generic_for f.low low a x) (code.generic_for f.high high b y)
  unfolding code.generic_for same symbol_of
  generic_for_reads a b x y =
      link f (separated_from_reads f EndsType (λ zs. the_name f.at ∷ zs) (values.bind f.low low) (values.bind f.high high) (terms.bind_local f.low low some_tails local)
      (bind_reads f low high held local) (x ∷ []) (y ∷ [])) (λ n o.
      link f (symbol_of_it f s.In (the_word f.at (codes "in")) refl refl) (λ _ _.
      link f several (λ r t.
      rest f do_block_reads (λ v w.
      idle f (spanned f anything a b) (λ i j. given f anything (tree.the_stat i (tree.GenFor (binds n) (exprs r) v)) (tree.the_stat j (tree.GenFor (binds o) (exprs t) w))) (λ _ z. z)) (λ _ z. z))
      (λ _ _. values_do)) (λ _ _. tt)) (λ _ _. types_in)

  pub for_reads : (a b : ℕ) → Reads f anything any
      (λ zs. the_word f.at (codes "for") ∷ the_name f.at ∷ the_word f.at (codes "in") ∷ the_name f.at ∷ the_word f.at (codes "do") ∷ the_word f.at (codes "end") ∷ zs) tt never
      (code.for_statement f.low low a) (code.for_statement f.high high b)
  unfolding code.for_statement sees symbol same symbol_of
  for_reads a b =
      link f (symbol_of_it f s.For (the_word f.at (codes "for")) refl refl) (λ _ _.
      link f (bind_reads f low high held local) (λ x y.
      either f {close = λ zs. the_word f.at (codes "in") ∷ the_name f.at ∷ the_word f.at (codes "do") ∷ the_word f.at (codes "end") ∷ zs} (sees s.Assign) (peek_sees s.Assign) (λ zs l m _. refl)
      (numeric_reads a b x y) (generic_for_reads a b x y)) (λ _ _. type_in)) (λ _ _. tt)

  values_reads : Reads f (EndsList EndsValue) any (λ zs. zs) tt (λ z. z ≡ tt) (code.maybe_values f.low low) (code.maybe_values f.high high)
  unfolding code.maybe_values same symbol_of
  values_reads =
      if_seen f (sees s.Assign) (peek_sees s.Assign) (λ zs l m z. sees_first s.Assign zs l m ∙ z.one.typ.assign)
      (link f (symbol_of_it f s.Assign (the_sign f.at (codes "=")) refl refl) (λ _ _.
      rest f several (λ v w. given f (EndsList EndsValue) (exprs v) (exprs w)) (λ _ z. z)) (λ _ _. tt))
      (given f (EndsList EndsValue) tree.no_exprs tree.no_exprs)

  local_names_reads : (a b : ℕ) → Reads f (EndsList EndsValue) any (λ zs. the_name f.at ∷ zs) tt never (code.local_names f.low low a) (code.local_names f.high high b)
  unfolding code.local_names
  local_names_reads a b =
      rest f (separated_reads f EndsType (λ zs. the_name f.at ∷ zs) (values.bind f.low low) (values.bind f.high high) (terms.bind_local f.low low some_tails local)
      (bind_reads f low high held local)) (λ x y.
      idle f values_reads (λ v w.
      idle f (spanned f (EndsList EndsValue) a b) (λ i j. given f (EndsList EndsValue) (tree.the_stat i (tree.Local (binds x) v)) (tree.the_stat j (tree.Local (binds y) w))) (λ _ z. z)) (λ _ z. z))
      (λ _ z. record { one = z.one.typ; comma = z.comma })

  -- ---- over the parsers of bodies and generics

  module _ (body : (m n : Option Span) → Reads f anything any (λ zs. the_sign f.at (codes "(") ∷ the_sign f.at (codes ")") ∷ the_word f.at (codes "end") ∷ zs) tt never (values.body f.low low m) (values.body f.high high n))
      (generics : Reads f (Unlike s.Less) any (λ zs. zs) tt (λ z. z ≡ tt) (types.generics f.low low true) (types.generics f.high high true)) where
    pub local_function_reads : (a b : ℕ) → Reads f anything any
        (λ zs. the_word f.at (codes "function") ∷ the_name f.at ∷ the_sign f.at (codes "(") ∷ the_sign f.at (codes ")") ∷ the_word f.at (codes "end") ∷ zs) tt never
        (code.local_function f.low low a) (code.local_function f.high high b)
    unfolding code.local_function same symbol_of
    local_function_reads a b =
        link f (symbol_of_it f s.Function (the_word f.at (codes "function")) refl refl) (λ _ _.
        link f (at_start f anything) (λ c d.
        link f (a_name f) (λ n o.
        link f (spanned f anything c d) (λ i j.
        rest f (body None None) (λ v w.
        idle f (spanned f anything a b) (λ k l.
        given f anything (tree.the_stat k (tree.LocalFunction (tree.the_bind n i tree.no_type) v)) (tree.the_stat l (tree.LocalFunction (tree.the_bind o j tree.no_type) w))) (λ _ z. z)) (λ _ z. z))
        (λ _ _. tt)) (λ _ _. tt)) (λ _ _. tt)) (λ _ _. tt)

    pub local_reads : (a b : ℕ) → Reads f (EndsList EndsValue) any (λ zs. the_word f.at (codes "local") ∷ the_name f.at ∷ zs) tt never (code.local_statement f.low low a) (code.local_statement f.high high b)
    unfolding code.local_statement sees symbol same symbol_of
    local_reads a b =
        link f (symbol_of_it f s.Local (the_word f.at (codes "local")) refl refl) (λ _ _.
        either f {close = λ zs. the_name f.at ∷ zs} (sees s.Function) (peek_sees s.Function) (λ zs l m _. refl)
        (fitted f (λ _ _. tt) (local_function_reads a b)) (local_names_reads a b)) (λ _ _. tt)

    pub alias_reads : (a b : ℕ) (x : Bool) → Reads f EndsType any (λ zs. the_name f.at ∷ the_sign f.at (codes "=") ∷ the_name f.at ∷ zs) tt never (code.alias f.low low a x) (code.alias f.high high b x)
    unfolding code.alias same symbol_of
    alias_reads a b x =
        link f (a_name f) (λ n o.
        link f generics (λ g h.
        link f (symbol_of_it f s.Assign (the_sign f.at (codes "=")) refl refl) (λ _ _.
        rest f (typ_reads f low high held) (λ t u.
        idle f (spanned f EndsType a b) (λ i j. given f EndsType (tree.the_stat i (tree.TypeAlias x n g t)) (tree.the_stat j (tree.TypeAlias x o h u))) (λ _ z. z)) (λ _ z. z))
        (λ _ _. tt)) (λ _ _. refl)) (λ _ _. tt)

    pub type_function_reads : (a b : ℕ) (x : Bool) → Reads f anything any
        (λ zs. the_word f.at (codes "function") ∷ the_name f.at ∷ the_sign f.at (codes "(") ∷ the_sign f.at (codes ")") ∷ the_word f.at (codes "end") ∷ zs) tt never
        (code.type_function f.low low a x) (code.type_function f.high high b x)
    unfolding code.type_function same symbol_of
    type_function_reads a b x =
        link f (symbol_of_it f s.Function (the_word f.at (codes "function")) refl refl) (λ _ _.
        link f (a_name f) (λ n o.
        rest f (body None None) (λ v w.
        idle f (spanned f anything a b) (λ i j. given f anything (tree.the_stat i (tree.TypeFunction x n v)) (tree.the_stat j (tree.TypeFunction x o w))) (λ _ z. z)) (λ _ z. z))
        (λ _ _. tt)) (λ _ _. tt)

    pub type_statement_reads : (a b : ℕ) (x : Bool) → Reads f EndsType any (λ zs. the_name f.at ∷ the_name f.at ∷ the_sign f.at (codes "=") ∷ the_name f.at ∷ zs) tt never
        (code.type_statement f.low low a x) (code.type_statement f.high high b x)
    unfolding code.type_statement sees symbol same symbol_of
    type_statement_reads a b x =
        link f (token f (the_name f.at) refl) (λ _ _.
        either f {close = λ zs. the_name f.at ∷ the_sign f.at (codes "=") ∷ the_name f.at ∷ zs} (sees s.Function) (peek_sees s.Function) (λ zs l m _. refl)
        (fitted f (λ _ _. tt) (type_function_reads a b x)) (alias_reads a b x)) (λ _ _. tt)

  pub word_statement_reads : (a b : ℕ) (kind : StatKind) → Reads f anything any (λ zs. the_name f.at ∷ zs) tt never (code.word_statement f.low low a kind) (code.word_statement f.high high b kind)
  unfolding code.word_statement
  word_statement_reads a b kind =
      rest f (token f (the_name f.at) refl) (λ _ _. idle f (spanned f anything a b) (λ i j. given f anything (tree.the_stat i kind) (tree.the_stat j kind)) (λ _ z. z)) (λ _ z. z)

  pub do_reads : (a b : ℕ) → Reads f anything any (λ zs. the_word f.at (codes "do") ∷ the_word f.at (codes "end") ∷ zs) tt never (code.do_statement f.low low a) (code.do_statement f.high high b)
  unfolding code.do_statement
  do_reads a b =
      rest f do_block_reads (λ v w. idle f (spanned f anything a b) (λ i j. given f anything (tree.the_stat i (tree.Do v)) (tree.the_stat j (tree.Do w))) (λ _ z. z)) (λ _ z. z)
