-- The parsers of types up to a refused token.
use Rattle.std.proofs.Common.{◌≡◌, ℕ, Bool, true, false, ◌&&◌, List, ◌∷◌, refl, ◌∙◌, ap, codes, Some, None}
use Rattle.luau_tree.specs.Tree.{TypeSyntax, TypeKind}
use Rattle.luau_tree.specs.Tree as tree
use Rattle.luau_tree.specs.View.{types, gens}
use Rattle.luau_grammar.specs.declared.symbol.Symbol.{Symbol}
use Rattle.luau_grammar.specs.declared.symbol.Symbol.TheVariants as s
use Rattle.luau_grammar.specs.Symbols.{same, symbol_of}
use Rattle.luau_grammar.specs.Places.{symbol, sees}
use Rattle.luau_grammar.specs.Phrases.{Listed}
use Rattle.luau_grammar.specs.Reading as read
use Rattle.luau_grammar.specs.Reading.{Readers, ◌>>=◌, pure}
use Rattle.luau_grammar.specs.ReadTypes as code
use Rattle.grammar_faults.proofs.LocalTypes as locals
use Rattle.grammar_faults.proofs.LocalTypes.{LocalReaders}
use Rattle.fault_places.proofs.Closing.{Frame, place}
use Rattle.fault_places.proofs.ClosingTokens.{anything, any, never, settle, choose_goes, this_opens}
use Rattle.fault_places.proofs.ClosingSteps.{Reads, link, rest, idle}
use Rattle.fault_places.proofs.ClosingWords.{EndsType, the_name, the_sign, right_bracket, right_brace, greater, value_paren}
use Rattle.fault_places.proofs.ClosingSymbols.{symbol_of_it, token, given, at_start, spanned, a_name, eaten, either, if_seen, fitted, peek_sees, sees_first}
use Rattle.fault_places.proofs.ClosingLists.{Held, EndsList, some_tails, expression_reads, typ_reads, separated_reads}

-- a list of results ends in `>`
record AtGreater (x : Symbol) : Type 0 where
  pub sees : same x s.Greater ≡ true
  pub list : EndsList EndsType x

at_greater : AtGreater s.Greater
unfolding same
at_greater = record { sees = refl; list = record { one = greater.one; comma = greater.comma } }

abbrev NoLess : Symbol → Type 0
NoLess x = same x s.Less ≡ false

and_false : (a b : Bool) → b ≡ false → (a && b) ≡ false
and_false true b h = h
and_false false b h = refl

module _ (f : Frame) (low high : Readers) (held : Held f low high) (local : LocalReaders some_tails low) where
  pub variadic_reads : Reads f EndsType any (λ zs. the_sign f.at (codes "...") ∷ the_name f.at ∷ zs) tt never (code.variadic f.low low) (code.variadic f.high high)
  unfolding code.variadic same symbol_of
  variadic_reads =
      link f (at_start f anything) (λ a b.
      link f (symbol_of_it f s.Dots (the_sign f.at (codes "...")) refl refl) (λ _ _.
      rest f (typ_reads f low high held) (λ t u. idle f (spanned f EndsType a b) (λ x y. given f EndsType (tree.the_type x (tree.Variadic t)) (tree.the_type y (tree.Variadic u))) (λ _ z. z)) (λ _ z. z))
      (λ _ _. tt)) (λ _ _. tt)

  pub generic_pack_reads : Reads f anything any (λ zs. the_name f.at ∷ the_sign f.at (codes "...") ∷ zs) tt never (code.generic_pack f.low low) (code.generic_pack f.high high)
  unfolding code.generic_pack same symbol_of
  generic_pack_reads =
      link f (at_start f anything) (λ a b.
      link f (a_name f) (λ n o.
      rest f (symbol_of_it f s.Dots (the_sign f.at (codes "...")) refl refl) (λ _ _.
      idle f (spanned f anything a b) (λ x y. given f anything (tree.the_type x (tree.GenericPack n)) (tree.the_type y (tree.GenericPack o))) (λ _ z. z)) (λ _ z. z))
      (λ _ _. tt)) (λ _ _. tt)

  indexer_reads : Reads f anything any (λ zs. the_sign f.at (codes "[") ∷ the_name f.at ∷ the_sign f.at (codes "]") ∷ the_sign f.at (codes ":") ∷ zs) tt never (code.indexer f.low low) (code.indexer f.high high)
  unfolding code.indexer same symbol_of
  indexer_reads =
      link f (symbol_of_it f s.LeftBracket (the_sign f.at (codes "[")) refl refl) (λ _ _.
      link f (typ_reads f low high held) (λ t u.
      link f (symbol_of_it f s.RightBracket (the_sign f.at (codes "]")) refl refl) (λ _ _.
      rest f (symbol_of_it f s.Colon (the_sign f.at (codes ":")) refl refl) (λ _ _. given f anything (tree.Indexer t) (tree.Indexer u)) (λ _ z. z))
      (λ _ _. tt)) (λ _ _. right_bracket.one)) (λ _ _. tt)

  property_name_reads : Reads f anything any (λ zs. the_name f.at ∷ the_sign f.at (codes ":") ∷ zs) tt never (code.property_name f.low low) (code.property_name f.high high)
  unfolding code.property_name same symbol_of
  property_name_reads =
      link f (a_name f) (λ n o. rest f (symbol_of_it f s.Colon (the_sign f.at (codes ":")) refl refl) (λ _ _. given f anything (tree.NameKey n) (tree.NameKey o)) (λ _ z. z)) (λ _ _. tt)

  pub key_reads : Reads f anything any (λ zs. the_name f.at ∷ the_sign f.at (codes ":") ∷ zs) tt never (code.key f.low low) (code.key f.high high)
  unfolding code.key sees symbol same symbol_of
  key_reads = either f {close = λ zs. the_name f.at ∷ the_sign f.at (codes ":") ∷ zs} (sees s.LeftBracket) (peek_sees s.LeftBracket) (λ zs l m _. refl) indexer_reads property_name_reads

  pub array_reads : (a b : ℕ) → Reads f anything any (λ zs. the_name f.at ∷ the_sign f.at (codes "}") ∷ zs) tt never (code.array f.low low a) (code.array f.high high b)
  unfolding code.array same symbol_of
  array_reads a b =
      link f (typ_reads f low high held) (λ t u.
      rest f (symbol_of_it f s.RightBrace (the_sign f.at (codes "}")) refl refl) (λ _ _.
      idle f (spanned f anything a b) (λ x y. given f anything (tree.the_type x (tree.Array t)) (tree.the_type y (tree.Array u))) (λ _ z. z)) (λ _ z. z))
      (λ _ _. right_brace.one)

  pub typeof_reads : Reads f anything any (λ zs. the_name f.at ∷ the_sign f.at (codes "(") ∷ the_name f.at ∷ the_sign f.at (codes ")") ∷ zs) tt never (code.typeof_form f.low low) (code.typeof_form f.high high)
  unfolding code.typeof_form same symbol_of
  typeof_reads =
      link f (at_start f anything) (λ a b.
      link f (symbol_of_it f s.Name (the_name f.at) refl refl) (λ _ _.
      link f (symbol_of_it f s.LeftParen (the_sign f.at (codes "(")) refl refl) (λ _ _.
      link f (expression_reads f low high held) (λ t u.
      rest f (symbol_of_it f s.RightParen (the_sign f.at (codes ")")) refl refl) (λ _ _.
      idle f (spanned f anything a b) (λ x y. given f anything (tree.the_type x (tree.Typeof t)) (tree.the_type y (tree.Typeof u))) (λ _ z. z)) (λ _ z. z))
      (λ _ _. value_paren)) (λ _ _. tt)) (λ _ _. tt)) (λ _ _. tt)

  pub word_reads : (kind : TypeKind) → Reads f anything any (λ zs. the_name f.at ∷ zs) tt never (code.word f.low low kind) (code.word f.high high kind)
  unfolding code.word
  word_reads kind =
      link f (at_start f anything) (λ a b.
      rest f (token f (the_name f.at) refl) (λ _ _. idle f (spanned f anything a b) (λ x y. given f anything (tree.the_type x kind) (tree.the_type y kind)) (λ _ z. z)) (λ _ z. z)) (λ _ _. tt)

  -- ---- behind results, of which it is known that they can be closed

  module _ (result : Reads f EndsType any (λ zs. the_name f.at ∷ zs) tt never (code.result f.low low) (code.result f.high high)) where
    pub function_behind_reads : (l k : Listed) → Reads f EndsType any (λ zs. the_sign f.at (codes "->") ∷ the_name f.at ∷ zs) tt never (code.function_behind f.low low l) (code.function_behind f.high high k)
    unfolding code.function_behind same symbol_of
    function_behind_reads l k =
        link f (symbol_of_it f s.Arrow (the_sign f.at (codes "->")) refl refl) (λ _ _.
        rest f result (λ r t. idle f (spanned f EndsType (l.start) (k.start)) (λ x y.
        given f EndsType (tree.the_type x (tree.Func tree.no_gens (types l.types) r)) (tree.the_type y (tree.Func tree.no_gens (types k.types) t))) (λ _ z. z)) (λ _ z. z))
        (λ _ _. tt)

    results_reads : Reads f AtGreater any (λ zs. zs) tt (λ z. z ≡ tt) (code.maybe_results f.low low) (code.maybe_results f.high high)
    unfolding code.maybe_results
    results_reads =
        let several = rest f (separated_reads f EndsType (λ zs. the_name f.at ∷ zs) (code.result f.low low) (code.result f.high high) (locals.result_local f.low low some_tails local) result)
        (λ x y. given f AtGreater (types x) (types y)) (λ _ z. z.list) in
        record {
          goes = choose_goes f (sees s.Greater) (peek_sees s.Greater) (given f AtGreater tree.no_types tree.no_types).goes (settle f (λ d b. absurd b) several.goes);
          opens = this_opens f {close = λ zs. zs} (sees s.Greater) (read.separated f.high (code.result f.high high) >>= (λ ts. pure (types ts)))
              (λ zs l m h. sees_first s.Greater zs l m ∙ h.sees) (given f AtGreater tree.no_types tree.no_types).opens;
          late = λ _ _ b. b;
        }

    type_arguments_reads : Reads f EndsType any (λ zs. zs) tt (λ z. z ≡ tt) (code.type_arguments f.low low) (code.type_arguments f.high high)
    unfolding code.type_arguments same symbol_of
    type_arguments_reads =
        if_seen f (sees s.Less) (peek_sees s.Less) (λ zs l m h. sees_first s.Less zs l m ∙ h.less)
        (link f (symbol_of_it f s.Less (the_sign f.at (codes "<")) refl refl) (λ _ _.
        link f results_reads (λ x y.
        rest f (symbol_of_it f s.Greater (the_sign f.at (codes ">")) refl refl) (λ _ _. given f EndsType x y) (λ _ _. tt))
        (λ _ _. at_greater)) (λ _ _. tt))
        (given f EndsType tree.no_types tree.no_types)

    dotted_reads : (a b : ℕ) (n o : List ℕ) → Reads f EndsType any (λ zs. the_sign f.at (codes ".") ∷ the_name f.at ∷ zs) tt never (code.dotted f.low low a n) (code.dotted f.high high b o)
    unfolding code.dotted same symbol_of
    dotted_reads a b n o =
        link f (symbol_of_it f s.Dot (the_sign f.at (codes ".")) refl refl) (λ _ _.
        rest f (a_name f) (λ m q.
        idle f type_arguments_reads (λ x y.
        idle f (spanned f EndsType a b) (λ i j. given f EndsType (tree.the_type i (tree.Named (Some n) m x)) (tree.the_type j (tree.Named (Some o) q y))) (λ _ z. z)) (λ _ z. z))
        (λ _ _. tt)) (λ _ _. tt)

    undotted_reads : (a b : ℕ) (n o : List ℕ) → Reads f EndsType any (λ zs. zs) tt (λ z. z ≡ tt) (code.undotted f.low low a n) (code.undotted f.high high b o)
    unfolding code.undotted
    undotted_reads a b n o =
        idle f type_arguments_reads (λ x y.
        idle f (spanned f EndsType a b) (λ i j. given f EndsType (tree.the_type i (tree.Named None n x)) (tree.the_type j (tree.Named None o y))) (λ _ z. z)) (λ _ z. z)

    named_behind_reads : (a b : ℕ) (n o : List ℕ) → Reads f EndsType any (λ zs. zs) tt (λ z. z ≡ tt) (code.named_behind f.low low a n) (code.named_behind f.high high b o)
    unfolding code.named_behind
    named_behind_reads a b n o =
        if_seen f (sees s.Dot) (peek_sees s.Dot) (λ zs l m h. sees_first s.Dot zs l m ∙ h.dot) (dotted_reads a b n o) (undotted_reads a b n o)

    pub named_reads : Reads f EndsType any (λ zs. the_name f.at ∷ zs) tt never (code.named f.low low) (code.named f.high high)
    unfolding code.named
    named_reads = link f (at_start f anything) (λ a b. rest f (a_name f) (λ n o. named_behind_reads a b n o) (λ _ _. tt)) (λ _ _. tt)

    default_reads : (may : Bool) → Reads f EndsType any (λ zs. zs) tt (λ z. z ≡ tt) (code.default f.low low may) (code.default f.high high may)
    unfolding code.default same symbol_of
    default_reads may =
        if_seen f (λ p. may && sees s.Assign p) (λ u ts us l m. ap (λ z. may && z) (peek_sees s.Assign u ts us l m))
        (λ zs l m h. and_false may (sees s.Assign (place zs l m)) (sees_first s.Assign zs l m ∙ h.assign))
        (link f (symbol_of_it f s.Assign (the_sign f.at (codes "=")) refl refl) (λ _ _.
        rest f result (λ x y. given f EndsType (tree.a_type x) (tree.a_type y)) (λ _ z. z)) (λ _ _. tt))
        (given f EndsType tree.no_type tree.no_type)

    generic_reads : (may : Bool) → Reads f EndsType any (λ zs. the_name f.at ∷ zs) tt never (code.generic f.low low may) (code.generic f.high high may)
    unfolding code.generic same symbol_of
    generic_reads may =
        link f (at_start f anything) (λ a b.
        rest f (a_name f) (λ n o.
        idle f (spanned f EndsType a b) (λ i j.
        idle f (eaten f s.Dots (the_sign f.at (codes "...")) refl refl) (λ x y.
        idle f (default_reads may) (λ d e. given f EndsType (tree.the_gen n i x d) (tree.the_gen o j y e)) (λ _ z. z)) (λ _ z. z.dots)) (λ _ z. z))
        (λ _ _. tt)) (λ _ _. tt)

    generics_behind_reads : (may : Bool) → Reads f anything any (λ zs. the_name f.at ∷ the_sign f.at (codes ">") ∷ zs) tt never (code.generics_behind f.low low may) (code.generics_behind f.high high may)
    unfolding code.generics_behind same symbol_of
    generics_behind_reads may =
        link f (separated_reads f EndsType (λ zs. the_name f.at ∷ zs) (code.generic f.low low may) (code.generic f.high high may) (locals.generic_local f.low low some_tails local may) (generic_reads may)) (λ x y.
        rest f (symbol_of_it f s.Greater (the_sign f.at (codes ">")) refl refl) (λ _ _. given f anything (gens x) (gens y)) (λ _ z. z))
        (λ _ _. at_greater.list)

    pub generics_reads : (may : Bool) → Reads f NoLess any (λ zs. zs) tt (λ z. z ≡ tt) (code.generics f.low low may) (code.generics f.high high may)
    unfolding code.generics same symbol_of
    generics_reads may =
        if_seen f (sees s.Less) (peek_sees s.Less) (λ zs l m h. sees_first s.Less zs l m ∙ h)
        (link f (symbol_of_it f s.Less (the_sign f.at (codes "<")) refl refl) (λ _ _. fitted f (λ _ _. tt) (generics_behind_reads may)) (λ _ _. tt))
        (given f NoLess tree.no_gens tree.no_gens)
