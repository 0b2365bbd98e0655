-- The parsers of prefixes, with their suffixes, up to a refused token.
use Rattle.std.proofs.Common.{◌≡◌, ℕ, ◌≤◌, Bool, true, false, ◌||◌, List, ◌∷◌, refl, codes}
use Rattle.luau_lex.specs.Tokens.{Tok}
use Rattle.luau_tree.specs.Tree.{Expr}
use Rattle.luau_tree.specs.Tree as tree
use Rattle.luau_grammar.specs.declared.symbol.Symbol.{Symbol}
use Rattle.luau_grammar.specs.declared.symbol.Symbol.TheVariants as s
use Rattle.luau_grammar.specs.Symbols.{same, symbol_of}
use Rattle.luau_grammar.specs.Places.{first_symbol, symbol, sees, start_of}
use Rattle.luau_grammar.specs.Expressions.{begins_suffix}
use Rattle.luau_grammar.specs.Reading as read
use Rattle.luau_grammar.specs.Reading.{Parser, Readers, ◌>>=◌, pure, start}
use Rattle.luau_grammar.specs.ReadExpressions as code
use Rattle.grammar_faults.proofs.LocalTypes.{LocalReaders}
use Rattle.grammar_faults.proofs.LocalExpressions as terms
use Rattle.fault_places.proofs.Closing.{Frame, place, peak, Opens, Goes}
use Rattle.fault_places.proofs.ClosingTokens.{anything, any, never, choose_goes, other_opens, value_opens}
use Rattle.fault_places.proofs.ClosingSteps.{Reads, link, rest, idle, loop_reads}
use Rattle.fault_places.proofs.ClosingWords.{EndsValue, the_name, the_sign, value_paren}
use Rattle.fault_places.proofs.ClosingSymbols.{symbol_of_it, at_start, spanned, a_name, either, peek_sees}
use Rattle.fault_places.proofs.ClosingLists.{Held, some_tails, expression_reads}
use Rattle.fault_places.proofs.ClosingBodies.{sort, told, index_goes, at_goes}
use Rattle.fault_places.proofs.ClosingArguments.{call_goes, method_goes}
use Rattle.fault_places.proofs.ClosingChoices.{follow_by, opens_link, loop_opens}
use Rattle.fault_places.proofs.ClosingMembers.{either_no, name_unlike}
use Rattle.fault_places.proofs.ClosingForms.{only_name}

-- no suffix begins with a symbol
pub record NoSuffix (x : Symbol) : Type 0 where
  pub dot : same x s.Dot ≡ false
  pub bracket : same x s.LeftBracket ≡ false
  pub colon : same x s.Colon ≡ false
  pub paren : same x s.LeftParen ≡ false
  pub brace : same x s.LeftBrace ≡ false
  pub text : same x s.Text ≡ false

pub value_suffix : (x : Symbol) → EndsValue x → NoSuffix x
value_suffix x z = record { dot = z.typ.dot; bracket = z.bracket; colon = z.typ.colon; paren = z.typ.paren; brace = z.brace; text = z.text }

pub no_suffix : (zs : List Tok) (l m : ℕ) → NoSuffix (first_symbol zs) → begins_suffix (place zs l m) ≡ false
unfolding sees symbol
no_suffix zs l m z =
    let x = first_symbol zs in
    either_no (same x s.Dot || (same x s.LeftBracket || same x s.Colon)) (same x s.LeftParen || (same x s.LeftBrace || same x s.Text))
    (either_no (same x s.Dot) (same x s.LeftBracket || same x s.Colon) z.dot (either_no (same x s.LeftBracket) (same x s.Colon) z.bracket z.colon))
    (either_no (same x s.LeftParen) (same x s.LeftBrace || same x s.Text) z.paren (either_no (same x s.LeftBrace) (same x s.Text) z.brace z.text))

-- ---- a name, and nothing more

module _ (f : Frame) (high : Readers) (a : ℕ) (fits : a ≤ peak f) (u : Tok) (e : same (symbol_of u) s.Name ≡ true) where
  only_primary : Opens f a anything any (λ zs. u ∷ zs) tt (code.primary f.high high)
  unfolding code.primary code.name_expression sees symbol same
  only_primary =
      other_opens f {close = λ zs. u ∷ zs} (sees s.LeftParen) (code.paren f.high high) (λ zs l m _. name_unlike (symbol_of u) s.LeftParen e refl)
      (opens_link f a (value_opens f a anything any start_of tt (λ p. refl)) (λ b.
      opens_link f a (only_name f high a fits u e) (λ n.
      opens_link f a (value_opens f a anything any (λ p. record { start = b; end = p.last }) tt (λ p. refl)) (λ i.
      value_opens f a anything any (λ p. tree.the_expr 0 i (tree.NameExpr n)) tt (λ p. refl)) (λ _ _. tt)) (λ _ _. tt)) (λ _ _. tt))

  pub only_prefix : Opens f a NoSuffix any (λ zs. u ∷ zs) tt (code.prefix f.high high)
  unfolding code.prefix
  only_prefix =
      opens_link f a (value_opens f a anything any start_of tt (λ p. refl)) (λ b.
      opens_link f a only_primary (λ x. loop_opens f a any (λ _ p. begins_suffix p) (code.suffix f.high high b) x (λ zs l m z. no_suffix zs l m z)) (λ _ _. tt)) (λ _ _. tt)

module _ (f : Frame) (low high : Readers) (held : Held f low high) (local : LocalReaders some_tails low) where
  pub suffix_goes : (a b : ℕ) (x y : Expr) → Goes f anything sort never (code.suffix f.low low a x) (code.suffix f.high high b y)
  unfolding code.suffix
  suffix_goes a b x y =
      choose_goes f (sees s.Dot) (peek_sees s.Dot) (index_goes f low high held local a b x y)
      (choose_goes f (sees s.LeftBracket) (peek_sees s.LeftBracket) (at_goes f low high held local a b x y)
      (choose_goes f (sees s.Colon) (peek_sees s.Colon) (method_goes f low high held local a b x y) (call_goes f low high held local a b x y)))

  suffixes_reads : (a b : ℕ) (x y : Expr) → sort y ≡ sort x
      → Reads f NoSuffix sort (λ zs. zs) (sort x) (λ z. z ≡ sort x) (read.repeat f.low (λ _ p. begins_suffix p) (code.suffix f.low low a) x) (read.repeat f.high (λ _ p. begins_suffix p) (code.suffix f.high high b) y)
  unfolding sees symbol
  suffixes_reads a b x y e =
      loop_reads f Expr (Bool × Bool) NoSuffix anything sort (λ _ p. begins_suffix p) (code.suffix f.low low a) (code.suffix f.high high b)
      (λ x y e u ts us l m. refl) (λ x y _. suffix_goes a b x y) (λ y zs l m z. no_suffix zs l m z) (λ x z. tt)
      (λ x. (terms.suffix_local f.low low some_tails local a x).takes) x y e (sort x) refl

  paren_sort : Reads f anything sort (λ zs. the_sign f.at (codes "(") ∷ the_name f.at ∷ the_sign f.at (codes ")") ∷ zs) (false, false) never (code.paren f.low low) (code.paren f.high high)
  unfolding code.paren same symbol_of
  paren_sort =
      link f (at_start f anything) (λ a b.
      link f (symbol_of_it f s.LeftParen (the_sign f.at (codes "(")) refl refl) (λ _ _.
      link f (expression_reads f low high held) (λ x y.
      rest f (symbol_of_it f s.RightParen (the_sign f.at (codes ")")) refl refl) (λ _ _.
      idle f (spanned f anything a b) (λ i j. told f anything sort (tree.the_expr 0 i (tree.Paren x)) (tree.the_expr 0 j (tree.Paren y)) (false, false) refl refl) (λ _ z. z)) (λ _ z. z))
      (λ _ _. value_paren)) (λ _ _. tt)) (λ _ _. tt)

  pub name_sort : Reads f anything sort (λ zs. the_name f.at ∷ zs) (true, false) never (code.name_expression f.low low) (code.name_expression f.high high)
  unfolding code.name_expression
  name_sort =
      link f (at_start f anything) (λ a b.
      rest f (a_name f) (λ n o.
      idle f (spanned f anything a b) (λ i j. told f anything sort (tree.the_expr 0 i (tree.NameExpr n)) (tree.the_expr 0 j (tree.NameExpr o)) (true, false) refl refl) (λ _ z. z)) (λ _ z. z)) (λ _ _. tt)

  pub primary_sort : Reads f anything sort (λ zs. the_name f.at ∷ zs) (true, false) never (code.primary f.low low) (code.primary f.high high)
  unfolding code.primary sees symbol same symbol_of
  primary_sort = either f {close = λ zs. the_name f.at ∷ zs} (sees s.LeftParen) (peek_sees s.LeftParen) (λ zs l m _. refl) paren_sort name_sort

  pub prefix_reads : Reads f NoSuffix sort (λ zs. the_name f.at ∷ zs) (true, false) never (code.prefix f.low low) (code.prefix f.high high)
  unfolding code.prefix
  prefix_reads = link f (at_start f anything) (λ a b. follow_by f {sh = sort} {th = sort} (λ k. k) primary_sort (λ x y e. suffixes_reads a b x y e) (λ _ _. tt)) (λ _ _. tt)
