-- The parsers of parameters and bodies, and of suffixes with a name or a key, up to a refused token.
use Rattle.std.proofs.Common.{◌≡◌, ℕ, Bool, true, false, ◌&&◌, List, [], ◌∷◌, ◌++◌, refl, sym, ◌∙◌, ap₂, codes, Option, is_some, if◌then◌else◌}
use Rattle.std.specs.Prelude.{Ok, Err}
use Rattle.luau_lex.specs.Tokens.{Tok}
use Rattle.luau_tree.specs.declared.position.Span.{Span}
use Rattle.luau_tree.specs.Tree.{Expr, Bind}
use Rattle.luau_tree.specs.Tree as tree
use Rattle.luau_tree.specs.View.{binds}
use Rattle.luau_grammar.specs.declared.symbol.Symbol.{Symbol}
use Rattle.luau_grammar.specs.declared.symbol.Symbol.TheVariants as s
use Rattle.luau_grammar.specs.Symbols.{same, symbol_of}
use Rattle.luau_grammar.specs.Places.{first_symbol, symbol, sees}
use Rattle.luau_grammar.specs.Statements.{is_variable, is_call}
use Rattle.luau_grammar.specs.Reading as read
use Rattle.luau_grammar.specs.Reading.{Parser, Outcome, Readers, ◌>>=◌, and_then, pure}
use Rattle.luau_grammar.specs.ReadTypes as types
use Rattle.luau_grammar.specs.ReadExpressions as code
use Rattle.luau_grammar.specs.ReadExpressions.{Parameters, goes_parameters, no_parameters, is_open, with_self}
use Rattle.grammar_faults.proofs.LocalTypes.{LocalReaders}
use Rattle.grammar_faults.proofs.LocalExpressions as terms
use Rattle.fault_places.proofs.Closing.{Frame, place, roof, Goes, both_by, opens_by}
use Rattle.fault_places.proofs.ClosingTokens.{anything, any, never, settle, refuses, choose_goes, this_opens, value_goes, value_opens, goes_by, deep_goes, forget, forget_opens}
use Rattle.fault_places.proofs.ClosingSteps.{Reads, link, rest, idle, loop_reads}
use Rattle.fault_places.proofs.ClosingWords.{EndsType, the_name, the_sign, the_word, right_paren, value_bracket}
use Rattle.fault_places.proofs.ClosingSymbols.{symbol_of_it, given, at_start, spanned, a_name, either, if_seen, fitted, peek_sees, sees_first}
use Rattle.fault_places.proofs.ClosingLists.{Held, EndsList, some_tails, expression_reads, block_reads}
use Rattle.fault_places.proofs.ClosingValues.{bind_reads}
use Rattle.fault_places.proofs.ClosingStatements.{block_end}

abbrev Unlike : Symbol → Symbol → Type 0
Unlike x y = same y x ≡ false

abbrev opens_more : Parameters → Bool
opens_more given = is_open given.rest

-- whether an expression can be assigned to, and whether it is a call
abbrev pub sort : Expr → Bool × Bool
sort e = (is_variable e, is_call e)

-- a list of parameters ends in `)`
record AtParen (x : Symbol) : Type 0 where
  pub sees : same x s.RightParen ≡ true
  pub list : EndsList EndsType x

at_paren : AtParen s.RightParen
unfolding same
at_paren = record { sees = refl; list = record { one = right_paren.one; comma = right_paren.comma } }

and_no : (a b : Bool) → b ≡ false → (a && b) ≡ false
and_no true b h = h
and_no false b h = refl

pub then_if : {A B : Type 0} (b : Bool) (o r : Outcome A) (g : A → Parser B) → and_then (if b then o else r) g ≡ (if b then and_then o g else and_then r g)
then_if true o r g = refl
then_if false o r g = refl

pub then_then : {A B C : Type 0} (o : Outcome A) (g : A → Parser B) (h : B → Parser C) → and_then o (λ x q. and_then (g x q) h) ≡ and_then (and_then o g) h
then_then (Ok x) g h = refl
then_then (Err e) g h = refl

module _ (f : Frame) where
  -- a value of which one thing is known
  pub told : {A C : Type 0} (F : Symbol → Type 0) (sh : A → C) (x y : A) (kind : C) → sh x ≡ kind → sh y ≡ kind → Reads f F sh (λ zs. zs) kind (λ z. z ≡ kind) (pure x) (pure y)
  told F sh x y kind d e = record {
    goes = value_goes f F sh (λ p. x) (λ p. y) (λ u ts us l m. refl) (λ p q. e ∙ sym d) kind (λ p. d);
    opens = value_opens f (roof f) F sh (λ p. y) kind (λ p. e);
    late = λ _ _ b. b;
  }

  -- a symbol, and one level deeper
  pub deep_symbol : (x : Symbol) → Goes f anything any never (read.expect f.low x >>= (λ _. read.raise f.low)) (read.expect f.high x >>= (λ _. read.raise f.high))
  unfolding read.expect
  deep_symbol x =
      goes_by f
      (λ p. then_if (sees x p) (read.next f.low p) (Err (read.refusal f.low p)) (λ _. read.raise f.low))
      (λ p. then_if (sees x p) (read.next f.high p) (Err (read.refusal f.high p)) (λ _. read.raise f.high))
      (choose_goes f (sees x) (peek_sees x) (deep_goes f) (refuses f anything any never))

  -- what goes on one level deeper
  pub deeper : {B D : Type 0} {G : Symbol → Type 0} {th : B → D} {close : List Tok → List Tok} {kind : D} {g k : Unit {0} → Parser B} (x : Symbol)
      → ((x y : Unit {0}) → Reads f G th close kind never (g x) (k y))
      → Goes f G th never (read.expect f.low x >>= (λ _. read.raise f.low >>= g)) (read.expect f.high x >>= (λ _. read.raise f.high >>= k))
  deeper {B = B} {D = D} {G = G} {th = th} {close = close} {kind = kind} {g = g} {k = k} x h =
      goes_by f
      (λ p. then_then (read.expect f.low x p) (λ _. read.raise f.low) g)
      (λ p. then_then (read.expect f.high x p) (λ _. read.raise f.high) k)
      (both_by f (Unit {0}) B (Unit {0}) D anything G any th never (λ _ _. ⊥) never (read.expect f.low x >>= (λ _. read.raise f.low)) (read.expect f.high x >>= (λ _. read.raise f.high)) g k
      (λ _. close) (λ _. kind) (deep_symbol x) (λ x y _. (h x y).goes) (λ y. (h y y).opens) (λ _ _ _. tt) (λ _ _ b. absurd b) (λ _ _ _ b. b) (λ y. (h y y).late))

module _ (f : Frame) (low high : Readers) (held : Held f low high) (local : LocalReaders some_tails low) where
  pub index_goes : (a b : ℕ) (x y : Expr) → Goes f anything sort never (code.index f.low low a x) (code.index f.high high b y)
  unfolding code.index
  index_goes a b x y =
      deeper f s.Dot (λ _ _.
      rest f (a_name f) (λ n o.
      idle f (spanned f anything a b) (λ i j. told f anything sort (tree.the_expr 0 i (tree.Index x n)) (tree.the_expr 0 j (tree.Index y o)) (true, false) refl refl) (λ _ z. z)) (λ _ z. z))

  pub at_goes : (a b : ℕ) (x y : Expr) → Goes f anything sort never (code.at f.low low a x) (code.at f.high high b y)
  unfolding code.at same symbol_of
  at_goes a b x y =
      deeper f s.LeftBracket (λ _ _.
      link f (expression_reads f low high held) (λ v w.
      rest f (symbol_of_it f s.RightBracket (the_sign f.at (codes "]")) refl refl) (λ _ _.
      idle f (spanned f anything a b) (λ i j. told f anything sort (tree.the_expr 0 i (tree.At x v)) (tree.the_expr 0 j (tree.At y w)) (true, false) refl refl) (λ _ z. z)) (λ _ z. z))
      (λ _ _. value_bracket))

  -- ---- parameters and bodies, over the parsers of their types

  module _ (annotation : Reads f EndsType any (λ zs. zs) tt (λ z. z ≡ tt) (code.var_annotation f.low low) (code.var_annotation f.high high)) where
    varparam_reads : Reads f EndsType any (λ zs. the_sign f.at (codes "...") ∷ zs) tt never (code.varparam f.low low) (code.varparam f.high high)
    unfolding code.varparam same symbol_of
    varparam_reads = rest f (symbol_of_it f s.Dots (the_sign f.at (codes "...")) refl refl) (λ _ _. annotation) (λ _ _. tt)

    rest_parameter_reads : (x y : Parameters) → Reads f EndsType opens_more (λ zs. the_sign f.at (codes "...") ∷ zs) false never (code.rest_parameter f.low low x) (code.rest_parameter f.high high y)
    unfolding code.rest_parameter
    rest_parameter_reads x y =
        rest f varparam_reads (λ t u. told f EndsType opens_more (record { found = x.found; rest = tree.varargs t }) (record { found = y.found; rest = tree.varargs u }) false refl refl) (λ _ z. z)

    named_parameter_reads : (x y : Parameters) → Reads f EndsType opens_more (λ zs. the_name f.at ∷ zs) true never (code.named_parameter f.low low x) (code.named_parameter f.high high y)
    unfolding code.named_parameter
    named_parameter_reads x y =
        rest f (bind_reads f low high held local) (λ t u.
        told f EndsType opens_more (record { found = x.found ++ t ∷ []; rest = tree.no_varargs }) (record { found = y.found ++ u ∷ []; rest = tree.no_varargs }) true refl refl) (λ _ z. z)

    parameter_reads : (x y : Parameters) → Reads f EndsType opens_more (λ zs. the_name f.at ∷ zs) true never (code.parameter f.low low x) (code.parameter f.high high y)
    unfolding code.parameter sees symbol same symbol_of
    parameter_reads x y = either f {close = λ zs. the_name f.at ∷ zs} (sees s.Dots) (peek_sees s.Dots) (λ zs l m _. refl) (rest_parameter_reads x y) (named_parameter_reads x y)

    another_parameter_reads : (x y : Parameters) → Reads f EndsType opens_more (λ zs. the_sign f.at (codes ",") ∷ the_name f.at ∷ zs) true never (code.another_parameter f.low low x) (code.another_parameter f.high high y)
    unfolding code.another_parameter same symbol_of
    another_parameter_reads x y = link f (symbol_of_it f s.Comma (the_sign f.at (codes ",")) refl refl) (λ _ _. parameter_reads x y) (λ _ _. tt)

    parameters_from_reads : (x y : Parameters) → opens_more y ≡ opens_more x
        → Reads f (EndsList EndsType) opens_more (λ zs. zs) (opens_more x) (λ z. z ≡ opens_more x) (code.parameters_from f.low low x) (code.parameters_from f.high high y)
    unfolding code.parameters_from
    parameters_from_reads x y e =
        loop_reads f Parameters Bool (EndsList EndsType) EndsType opens_more goes_parameters (code.another_parameter f.low low) (code.another_parameter f.high high)
        (λ x y e u ts us l m. ap₂ (λ v w. v && w) e (peek_sees s.Comma u us ts l m)) (λ x y e. (another_parameter_reads x y).goes)
        (λ y zs l m z. and_no (opens_more y) (sees s.Comma (place zs l m)) (sees_first s.Comma zs l m ∙ z.comma)) (λ x z. z.one)
        (λ x. (terms.another_parameter_local f.low low some_tails local x).takes) x y e (opens_more x) refl

    -- one that takes a token, of whose value one thing is known, and one that may take none
    rest_by : {A B C : Type 0} {F G : Symbol → Type 0} {sh : A → C} {first : List Tok → List Tok} {c : C} {r s : Parser A} {g k : A → Parser B}
        → Reads f F sh first c never r s → ((x y : A) → sh y ≡ sh x → Reads f G any (λ zs. zs) tt (λ z. z ≡ tt) (g x) (k y)) → ((x : Symbol) → G x → F x)
        → Reads f G any first tt never (r >>= g) (s >>= k)
    rest_by {A = A} {B = B} {C = C} {F = F} {G = G} {sh = sh} {first = first} {r = r} {s = s} {g = g} {k = k} h second joins = record {
      goes = both_by f A B C (Unit {0}) F G sh any never (λ _ z. z ≡ tt) never r s g k (λ _ zs. zs) (λ _. tt) h.goes (λ x y e. (second x y e).goes) (λ y. (second y y refl).opens)
          (λ _ zs. joins (first_symbol zs)) (λ _ _ e. ((λ zs. refl), e)) (λ _ _ b _. b) (λ _ _ _ b. b);
      opens = opens_by f A B C (Unit {0}) F G sh any never (λ _ z. z ≡ tt) never r s g k (λ _ zs. zs) (λ _. tt) h.opens (λ y. (second y y refl).opens) (λ _ zs. joins (first_symbol zs));
      late = λ zs fol. h.late zs (joins (first_symbol zs) fol);
    }

    some_parameters_reads : Reads f (EndsList EndsType) any (λ zs. the_name f.at ∷ zs) tt never (code.some_parameters f.low low) (code.some_parameters f.high high)
    unfolding code.some_parameters
    some_parameters_reads =
        rest_by (parameter_reads no_parameters no_parameters) (λ x y e.
        let h = parameters_from_reads x y e in
        record { goes = forget f (λ d _. refl) h.goes; opens = forget_opens f h.opens; late = h.late }) (λ x z. z.one)

    parameters_reads : Reads f AtParen any (λ zs. zs) tt (λ z. z ≡ tt) (code.parameters f.low low) (code.parameters f.high high)
    unfolding code.parameters
    parameters_reads = record {
      goes = choose_goes f (sees s.RightParen) (peek_sees s.RightParen) (given f AtParen no_parameters no_parameters).goes
          (settle f (λ d b. absurd b) (fitted f (λ x z. z.list) some_parameters_reads).goes);
      opens = this_opens f {close = λ zs. zs} (sees s.RightParen) (code.some_parameters f.high high) (λ zs l m h. sees_first s.RightParen zs l m ∙ h.sees) (given f AtParen no_parameters no_parameters).opens;
      late = λ _ _ b. b;
    }

    module _ (result : Reads f EndsType any (λ zs. the_name f.at ∷ zs) tt never (types.result f.low low) (types.result f.high high))
        (generics : Reads f (Unlike s.Less) any (λ zs. zs) tt (λ z. z ≡ tt) (types.generics f.low low false) (types.generics f.high high false)) where
      maybe_result_reads : Reads f EndsType any (λ zs. zs) tt (λ z. z ≡ tt) (code.maybe_result f.low low) (code.maybe_result f.high high)
      unfolding code.maybe_result same symbol_of
      maybe_result_reads =
          if_seen f (sees s.Colon) (peek_sees s.Colon) (λ zs l m z. sees_first s.Colon zs l m ∙ z.colon)
          (link f (symbol_of_it f s.Colon (the_sign f.at (codes ":")) refl refl) (λ _ _.
          rest f result (λ x y. given f EndsType (tree.a_type x) (tree.a_type y)) (λ _ z. z)) (λ _ _. tt))
          (given f EndsType tree.no_type tree.no_type)

      pub body_reads : (m n : Option Span) → Reads f anything any (λ zs. the_sign f.at (codes "(") ∷ the_sign f.at (codes ")") ∷ the_word f.at (codes "end") ∷ zs) tt never
          (code.body f.low low m) (code.body f.high high n)
      unfolding code.body same symbol_of
      body_reads m n =
          link f (at_start f anything) (λ a b.
          link f generics (λ g h.
          link f (symbol_of_it f s.LeftParen (the_sign f.at (codes "(")) refl refl) (λ _ _.
          link f parameters_reads (λ x y.
          link f (symbol_of_it f s.RightParen (the_sign f.at (codes ")")) refl refl) (λ _ _.
          link f maybe_result_reads (λ r t.
          link f (block_reads f low high held) (λ v w.
          rest f (symbol_of_it f s.End (the_word f.at (codes "end")) refl refl) (λ _ _.
          idle f (spanned f anything a b) (λ i j.
          given f anything (tree.the_body 0 (is_some m) g (binds (with_self m x.found)) x.rest r v i) (tree.the_body 0 (is_some n) h (binds (with_self n y.found)) y.rest t w j)) (λ _ z. z)) (λ _ z. z))
          (λ _ _. block_end)) (λ _ _. block_end.value.typ)) (λ _ _. tt)) (λ _ _. at_paren)) (λ _ _. tt)) (λ _ _. refl)) (λ _ _. tt)
