-- Lists with commas, up to a refused token, and what is said of the parsers of phrases that hold one another.
use Rattle.std.proofs.Common.{◌≡◌, ◌≤◌, true, false, List, [], ◌∷◌, ◌++◌, refl, ◌∙◌, Some, None, is_some, codes, arith}
use Rattle.luau_lex.specs.Tokens.{Tok}
use Rattle.luau_grammar.specs.declared.symbol.Symbol.{Symbol}
use Rattle.luau_grammar.specs.declared.symbol.Symbol.TheVariants as s
use Rattle.luau_grammar.specs.Symbols.{same, symbol_of}
use Rattle.luau_grammar.specs.Places.{sees}
use Rattle.luau_grammar.specs.Phrases.{Listed, in_parens}
use Rattle.luau_grammar.specs.Operators.{compound_of}
use Rattle.luau_grammar.specs.Expressions as expressions
use Rattle.luau_grammar.specs.Statements as statements
use Rattle.luau_grammar.specs.Reading as read
use Rattle.luau_grammar.specs.Reading.{Setting, Parser, Readers, ◌>>=◌, pure}
use Rattle.luau_grammar.specs.ReadPhrases as phrases
use Rattle.grammar_faults.proofs.Local.{Tails, Local}
use Rattle.grammar_faults.proofs.LocalSteps.{one_more}
use Rattle.luau_lex.specs.declared.token.Kind.TheVariants as kind
use Rattle.fault_places.proofs.Closing.{Frame, peak, Opens, Goes}
use Rattle.fault_places.proofs.ClosingTokens.{any, never, phrase_goes, phrase_opens}
use Rattle.fault_places.proofs.ClosingSteps.{Reads, link, rest, loop_reads}
use Rattle.fault_places.proofs.ClosingWords.{EndsType, EndsValue, the_name, the_sign}
use Rattle.fault_places.proofs.ClosingSymbols.{peek_sees, sees_first, symbol_of_it, given}

-- two lists that go on alike behind a prefix, for what no list matters
pub some_tails : Tails
some_tails = record {
  bound = 0;
  token = record { kind = kind.Sign; span = record { start = 0; end = 0 }; bytes = [] };
  one = [];
  other = [];
  one_late = (let h : 0 ≤ 0 = omega arith in h, tt);
  other_late = (let h : 0 ≤ 0 = omega arith in h, tt);
}

-- no list goes on with a symbol, and no item of it
pub record EndsList (G : Symbol → Type 0) (x : Symbol) : Type 0 where
  pub one : G x
  pub comma : same x s.Comma ≡ false

-- no block goes on with a symbol, nor what ends a statement
pub record EndsBlock (x : Symbol) : Type 0 where
  pub value : EndsValue x
  pub comma : same x s.Comma ≡ false
  pub semicolon : same x s.Semicolon ≡ false
  pub statement : statements.begins x ≡ false
  pub closes : statements.closes x ≡ true
  pub compound : compound_of x ≡ None
  pub expression : expressions.begins x ≡ false

module _ (f : Frame) where
  -- What the parsers of phrases read up to the cut can be closed.
  pub record Held (low high : Readers) : Type 0 where
    pub exp : Goes f EndsValue any never low.exp high.exp
    pub exp_opens : (u : Tok) → same (symbol_of u) s.Name ≡ true → Opens f (peak f) EndsValue any (λ zs. u ∷ zs) tt high.exp
    pub typ : Goes f EndsType any never (low.typ None) (high.typ None)
    pub typ_opens : (u : Tok) → same (symbol_of u) s.Name ≡ true → Opens f (peak f) EndsType any (λ zs. u ∷ zs) tt (high.typ None)
    pub begun : (l k : Listed) → is_some (in_parens k) ≡ is_some (in_parens l) → Goes f EndsType any (λ z. z ≡ tt) (low.typ (Some l)) (high.typ (Some k))
    pub block : Goes f EndsBlock any (λ z. z ≡ tt) low.block high.block
    pub block_opens : Opens f (peak f) EndsBlock any (λ zs. zs) tt high.block

  module _ {A : Type 0} (G : Symbol → Type 0) (close : List Tok → List Tok) (item other : Parser A) (local : Local some_tails 1 item) (h : Reads f G any close tt never item other) where
    one_other : (found more : List A) → Reads f G any (λ zs. the_sign f.at (codes ",") ∷ close zs) tt never (read.another f.low item found) (read.another f.high other more)
    unfolding same symbol_of
    one_other found more = link f (symbol_of_it f s.Comma (the_sign f.at (codes ",")) refl refl) (λ _ _. rest f h (λ x y. given f G (found ++ x ∷ []) (more ++ y ∷ [])) (λ x z. z)) (λ zs z. tt)

    pub separated_from_reads : (found more : List A) → Reads f (EndsList G) any (λ zs. zs) tt (λ z. z ≡ tt) (read.separated_from f.low item found) (read.separated_from f.high other more)
    unfolding read.separated_from
    separated_from_reads found more =
        loop_reads f (List A) (Unit {0}) (EndsList G) G any (λ _ p. sees s.Comma p) (read.another f.low item) (read.another f.high other)
        (λ x y e u ts us l m. peek_sees s.Comma u us ts l m) (λ x y e. (one_other x y).goes) (λ y zs l m z. sees_first s.Comma zs l m ∙ z.comma) (λ x z. z.one)
        (λ x. (one_more f.low {w = some_tails} local x).takes) found more refl tt refl

    pub separated_reads : Reads f (EndsList G) any close tt never (read.separated f.low item) (read.separated f.high other)
    unfolding read.separated
    separated_reads = rest f h (λ x y. separated_from_reads (x ∷ []) (y ∷ [])) (λ x z. z.one)

  module _ (low high : Readers) (held : Held low high) where
    pub expression_reads : Reads f EndsValue any (λ zs. the_name f.at ∷ zs) tt never (phrases.expression f.low low) (phrases.expression f.high high)
    unfolding phrases.expression same symbol_of
    expression_reads = record { goes = phrase_goes f phrases.may_begin_expression held.exp; opens = phrase_opens f phrases.may_begin_expression (held.exp_opens (the_name f.at) refl); late = λ zs fol b. (let x : f.at ≤ f.at = omega arith in x, b) }

    pub typ_reads : Reads f EndsType any (λ zs. the_name f.at ∷ zs) tt never (phrases.typ f.low low None) (phrases.typ f.high high None)
    unfolding phrases.typ same symbol_of
    typ_reads = record { goes = phrase_goes f (phrases.may_begin_type None) held.typ; opens = phrase_opens f (phrases.may_begin_type None) (held.typ_opens (the_name f.at) refl); late = λ zs fol b. (let x : f.at ≤ f.at = omega arith in x, b) }

    pub block_reads : Reads f EndsBlock any (λ zs. zs) tt (λ z. z ≡ tt) (phrases.block f.low low) (phrases.block f.high high)
    unfolding phrases.block
    block_reads = record { goes = phrase_goes f phrases.may_begin_block held.block; opens = phrase_opens f phrases.may_begin_block held.block_opens; late = λ _ _ b. b }
