-- The parsers of results and of whole types up to a refused token.
use Rattle.std.proofs.Common.{◌≡◌, ℕ, ◌≤◌, Bool, true, false, ◌&&◌, ◌||◌, List, [], ◌∷◌, ◌++◌, refl, sym, ◌∙◌, ap, codes, None, Some, Option, is_some, arith, bytes_eq, if◌then◌else◌}
use Rattle.luau_lex.specs.Tokens.{Tok}
use Rattle.luau_tree.specs.Tree.{TypeSyntax}
use Rattle.luau_tree.specs.Tree as tree
use Rattle.luau_tree.specs.View.{types}
use Rattle.luau_grammar.specs.declared.symbol.Symbol.{Symbol}
use Rattle.luau_grammar.specs.declared.symbol.Symbol.TheVariants as s
use Rattle.luau_grammar.specs.Symbols.{same, symbol_of}
use Rattle.luau_grammar.specs.Places.{Place, first_symbol, symbol, symbol_behind, sees, sees_behind, sees_word, start_of}
use Rattle.luau_grammar.specs.Phrases.{Listed, in_parens}
use Rattle.luau_grammar.specs.Types.{begins_tail, is_type_front, pack_of, goes_on, sees_typeof}
use Rattle.luau_grammar.specs.Reading as read
use Rattle.luau_grammar.specs.Reading.{Parser, Readers, ◌>>=◌, pure, start}
use Rattle.luau_grammar.specs.ReadPhrases as phrases
use Rattle.luau_grammar.specs.ReadTypes as code
use Rattle.luau_grammar.specs.ReadTypes.{goes_marks, goes_options}
use Rattle.grammar_faults.proofs.LocalTypes as locals
use Rattle.grammar_faults.proofs.LocalTypes.{LocalReaders}
use Rattle.fault_places.proofs.Closing.{Frame, ApartOf, place, Beyond, Late, roof, peak, Far, Opens, Goes, far_then, both_by, opens_by}
use Rattle.fault_places.proofs.ClosingTokens.{anything, any, never, Peek, settle, choose_goes, this_opens, other_opens, goes_by, refuses, under, phrase_goes, next_opens, value_opens}
use Rattle.fault_places.proofs.ClosingSteps.{Reads, link, rest, idle, loop_reads}
use Rattle.fault_places.proofs.ClosingWords.{EndsType, the_name, the_sign, the_text}
use Rattle.fault_places.proofs.ClosingSymbols.{symbol_of_it, token, given, at_start, spanned, a_string, either, if_seen, peek_symbol, peek_sees, sees_first}
use Rattle.fault_places.proofs.ClosingLists.{Held, some_tails, expression_reads, typ_reads}
use Rattle.fault_places.proofs.ClosingNames.{seen_far, first_far}
use Rattle.fault_places.proofs.ClosingPairs.{typ_named, second, no_second}
use Rattle.fault_places.proofs.ClosingTypes.{function_behind_reads, named_reads, generics_reads, typeof_reads, word_reads}
use Rattle.fault_places.proofs.ClosingChoices.{forget_reads, follow_by, by_two, by_peek, opens_at, opens_link, loop_opens, idle_goes, deeper_rest, restored, restored_opens}
use Rattle.fault_places.proofs.ClosingMembers.{is_single, listed_reads, tail_reads, tail_far, not_tail, plain_tail, two_tail, either_no, is_name, name_unlike}

no_typeof : (u : Tok) → same (symbol_of u) s.Name ≡ true → (zs : List Tok) (l m : ℕ) → EndsType (first_symbol zs) → sees_typeof (place (u ∷ zs) l m) ≡ false
unfolding sees sees_behind symbol symbol_behind
no_typeof u e zs l m z = no_second (sees_word (codes "typeof") (place (u ∷ zs) l m)) (same (first_symbol zs) s.LeftParen) z.paren

-- ---- a name, and nothing more

module _ (f : Frame) (high : Readers) (a : ℕ) (fits : a ≤ peak f) (u : Tok) (e : same (symbol_of u) s.Name ≡ true) where
  pub only_name : Opens f a anything any (λ zs. u ∷ zs) tt (read.name f.high)
  unfolding read.name read.expect sees symbol
  only_name =
      opens_link f a (this_opens f {close = λ zs. u ∷ zs} (sees s.Name) (read.refuse f.high) (λ zs l m _. e) (next_opens f a fits u))
      (λ t. value_opens f a anything any (λ p. t.bytes) tt (λ p. refl)) (λ _ _. tt)

  pub only_span : (b : ℕ) (kind : tree.TypeKind) → Opens f a EndsType any (λ zs. zs) tt (read.span_from b >>= (λ i. pure (tree.the_type i kind)))
  only_span b kind =
      opens_link f a (value_opens f a EndsType any (λ p. record { start = b; end = p.last }) tt (λ p. refl)) (λ i. value_opens f a EndsType any (λ p. tree.the_type i kind) tt (λ p. refl)) (λ _ z. z)

  no_arguments : Opens f a EndsType any (λ zs. zs) tt (code.type_arguments f.high high)
  unfolding code.type_arguments
  no_arguments =
      other_opens f {close = λ zs. zs} (sees s.Less) (read.expect f.high s.Less >>= (λ _. code.maybe_results f.high high >>= (λ ts. read.expect f.high s.Greater >>= (λ _. pure ts))))
      (λ zs l m z. sees_first s.Less zs l m ∙ z.less) (value_opens f a EndsType any (λ p. tree.no_types) tt (λ p. refl))

  only_undotted : (b : ℕ) (n : List ℕ) → Opens f a EndsType any (λ zs. zs) tt (code.undotted f.high high b n)
  unfolding code.undotted
  only_undotted b n = opens_link f a no_arguments (λ x. only_span b (tree.Named None n x)) (λ _ z. z)

  only_behind : (b : ℕ) (n : List ℕ) → Opens f a EndsType any (λ zs. zs) tt (code.named_behind f.high high b n)
  unfolding code.named_behind
  only_behind b n = other_opens f {close = λ zs. zs} (sees s.Dot) (code.dotted f.high high b n) (λ zs l m z. sees_first s.Dot zs l m ∙ z.dot) (only_undotted b n)

  only_named : Opens f a EndsType any (λ zs. u ∷ zs) tt (code.named f.high high)
  unfolding code.named
  only_named =
      opens_link f a (value_opens f a anything any start_of tt (λ p. refl)) (λ b. opens_link f a only_name (λ n. only_behind b n) (λ _ _. tt)) (λ _ _. tt)

  only_name_form : Opens f a EndsType any (λ zs. u ∷ zs) tt (code.name_form f.high high)
  unfolding code.name_form
  only_name_form = other_opens f {close = λ zs. u ∷ zs} sees_typeof (code.typeof_form f.high high) (no_typeof u e) only_named

  only_form : Opens f a EndsType any (λ zs. u ∷ zs) tt (code.form f.high high)
  unfolding code.form symbol
  only_form = opens_at f {close = λ zs. u ∷ zs} symbol (code.form_by f.high high) s.Name (λ zs l m _. is_name (symbol_of u) e) only_name_form

  only_basic : Opens f a EndsType any (λ zs. u ∷ zs) tt (code.basic f.high high None)
  unfolding code.basic sees symbol same
  only_basic =
      other_opens f {close = λ zs. u ∷ zs} (sees s.LeftParen) (code.listed f.high high >>= code.listed_type f.high high) (λ zs l m _. name_unlike (symbol_of u) s.LeftParen e refl) only_form

  no_marks : (b : ℕ) (t : TypeSyntax) → Opens f a EndsType any (λ zs. zs) tt (code.marks f.high high b t)
  unfolding code.marks code.all_marks
  no_marks b t = restored_opens f (loop_opens f a any goes_marks (code.mark f.high high b) t (λ zs l m z. sees_first s.Question zs l m ∙ z.question))

  only_option : Opens f a EndsType any (λ zs. u ∷ zs) tt (code.option f.high high None)
  unfolding code.option
  only_option =
      opens_link f a (value_opens f a anything any start_of tt (λ p. refl)) (λ b. opens_link f a only_basic (λ t. no_marks b t) (λ _ z. z)) (λ _ _. tt)

  only_first : (b : ℕ) (t : TypeSyntax) → Opens f a EndsType any (λ zs. zs) tt (code.joined f.high high b t)
  unfolding code.joined
  only_first b t =
      other_opens f {close = λ zs. zs} (sees s.Pipe) (code.union_behind f.high high b t) (λ zs l m z. sees_first s.Pipe zs l m ∙ z.pipe)
      (other_opens f {close = λ zs. zs} (sees s.Ampersand) (code.meet_behind f.high high b t) (λ zs l m z. sees_first s.Ampersand zs l m ∙ z.ampersand)
      (value_opens f a EndsType any (λ p. t) tt (λ p. refl)))

  no_bar : Opens f a (λ x. same x s.Name ≡ true) any (λ zs. zs) tt (code.bar f.high high None)
  unfolding code.bar sees symbol same
  no_bar =
      other_opens f {close = λ zs. zs} (λ p. sees s.Pipe p || sees s.Ampersand p) (read.next f.high >>= (λ _. pure tt))
      (λ zs l m z. either_no (same (first_symbol zs) s.Pipe) (same (first_symbol zs) s.Ampersand) (name_unlike (first_symbol zs) s.Pipe z refl) (name_unlike (first_symbol zs) s.Ampersand z refl))
      (value_opens f a (λ x. same x s.Name ≡ true) any (λ p. tt {0}) tt (λ p. refl))

  pub only_type : Opens f a EndsType any (λ zs. u ∷ zs) tt (code.type_inside f.high high None)
  unfolding code.type_inside
  only_type =
      opens_link f a no_bar (λ _. opens_link f a (value_opens f a anything any start_of tt (λ p. refl)) (λ b. opens_link f a only_option (λ t. only_first b t) (λ _ z. z)) (λ _ _. tt)) (λ _ _. e)

module _ (f : Frame) (low high : Readers) (held : Held f low high) (local : LocalReaders some_tails low) where
  -- ---- behind a list in parentheses

  peek_front : (l : Listed) → Peek (is_type_front l)
  unfolding sees symbol
  peek_front l u ts us i m = refl

  no_front : (k : Listed) (zs : List Tok) (l m : ℕ) → EndsType (first_symbol zs) → is_type_front k (place zs l m) ≡ false
  unfolding sees symbol
  no_front k zs l m z =
      either_no (same (first_symbol zs) s.Arrow) (is_single k && (same (first_symbol zs) s.Question || (same (first_symbol zs) s.Pipe || same (first_symbol zs) s.Ampersand))) z.arrow
      (no_second (is_single k) (same (first_symbol zs) s.Question || (same (first_symbol zs) s.Pipe || same (first_symbol zs) s.Ampersand))
      (either_no (same (first_symbol zs) s.Question) (same (first_symbol zs) s.Pipe || same (first_symbol zs) s.Ampersand) z.question
      (either_no (same (first_symbol zs) s.Pipe) (same (first_symbol zs) s.Ampersand) z.pipe z.ampersand)))

  begun_goes : (l k : Listed) → is_single k ≡ is_single l → Goes f EndsType any (λ z. z ≡ tt) (phrases.typ f.low low (Some l)) (phrases.typ f.high high (Some k))
  unfolding phrases.typ read.phrase
  begun_goes l k e = goes_by f (λ p. refl) (λ p. refl) (phrase_goes f (λ p. true) (held.begun l k e))

  after_reads : (l k : Listed) → is_single k ≡ is_single l → Reads f EndsType any (λ zs. zs) tt (λ z. z ≡ tt) (code.after_list f.low low l) (code.after_list f.high high k)
  unfolding code.after_list
  after_reads l k e =
      let packed = given f EndsType (pack_of l) (pack_of k) in
      record {
        goes = goes_by f (λ p. refl)
            (λ p. ap (λ z. if (sees s.Arrow p || (z && goes_on p)) then phrases.typ f.high high (Some k) p else pure (pack_of k) p) e)
            (choose_goes f (is_type_front l) (peek_front l) (begun_goes l k e) packed.goes);
        opens = other_opens f {close = λ zs. zs} (is_type_front k) (phrases.typ f.high high (Some k)) (no_front k) packed.opens;
        late = λ _ _ b. b;
      }

  unparened_reads : Reads f EndsType any (λ zs. the_name f.at ∷ zs) tt never
      (λ p. if begins_tail p then code.tail f.low low p else phrases.typ f.low low None p) (λ p. if begins_tail p then code.tail f.high high p else phrases.typ f.high high None p)
  unfolding same symbol_of
  unparened_reads = record {
    goes = by_two f TypeSyntax (Unit {0}) EndsType any begins_tail (code.tail f.low low) (code.tail f.high high) (phrases.typ f.low low None) (phrases.typ f.high high None)
        (plain_tail f low high held local) (two_tail f low high held local) (tail_far f low high held local) (not_tail f low high held local) (λ zs. zs) (λ _ _ b. b) tt (not_tail f low high held local)
        (typ_named f low high held local) ((locals.typ_local f.low low some_tails local).takes) (tail_reads f low high held local).goes (typ_reads f low high held).goes;
    opens = other_opens f {close = λ zs. the_name f.at ∷ zs} begins_tail (code.tail f.high high) (not_tail f low high held local (the_name f.at) refl) (typ_named f low high held local (the_name f.at) refl);
    late = λ zs fol b. (let x : f.at ≤ f.at = omega arith in x, b);
  }

  pub result_reads : Reads f EndsType any (λ zs. the_name f.at ∷ zs) tt never (code.result f.low low) (code.result f.high high)
  unfolding code.result sees symbol same symbol_of
  result_reads =
      either f {close = λ zs. the_name f.at ∷ zs} (sees s.LeftParen) (peek_sees s.LeftParen) (λ zs l m _. refl)
      (follow_by f {sh = is_single} {th = any} (λ _. tt) (listed_reads f low high held local) after_reads (λ _ _. tt)) unparened_reads

  -- ---- a list in parentheses that is a type

  abbrev Stays : Bool → Unit {0} → Type 0
  Stays true = λ _. Unit {0}
  Stays false = λ _. ⊥

  abbrev behind_list : Bool → List Tok → List Tok
  behind_list true = λ zs. zs
  behind_list false = λ zs. the_sign f.at (codes "->") ∷ the_name f.at ∷ zs

  arrow_reads : (l k : Listed) → Reads f EndsType any (λ zs. the_sign f.at (codes "->") ∷ the_name f.at ∷ zs) tt never (code.function_behind f.low low l) (code.function_behind f.high high k)
  arrow_reads = function_behind_reads f low high held local result_reads

  only_goes : (o w : Option TypeSyntax) → is_some w ≡ is_some o → Goes f EndsType any (Stays (is_some o)) (code.only_in_parens f.low low o) (code.only_in_parens f.high high w)
  only_goes None None e = refuses f EndsType any (Stays false)
  only_goes (Some t) (Some u) e = settle f (λ _ _. tt) (given f EndsType t u).goes
  only_goes None (Some u) e = absurd (cc)
  only_goes (Some t) None e = absurd (cc)

  listed_goes : (l k : Listed) → is_single k ≡ is_single l → Goes f EndsType any (Stays (is_single l)) (code.listed_type f.low low l) (code.listed_type f.high high k)
  unfolding code.listed_type
  listed_goes l k e =
      choose_goes f (sees s.Arrow) (peek_sees s.Arrow) (settle f (λ d b. absurd b) (arrow_reads l k).goes) (only_goes (in_parens l) (in_parens k) e)

  only_opens : (k : Listed) (o : Option TypeSyntax)
      → Opens f (roof f) EndsType any (behind_list (is_some o)) tt (λ p. if sees s.Arrow p then code.function_behind f.high high k p else code.only_in_parens f.high high o p)
  unfolding sees symbol same symbol_of
  only_opens k (Some t) = other_opens f {close = λ zs. zs} (sees s.Arrow) (code.function_behind f.high high k) (λ zs l m z. z.arrow) (given f EndsType t t).opens
  only_opens k None =
      this_opens f {close = λ zs. the_sign f.at (codes "->") ∷ the_name f.at ∷ zs} (sees s.Arrow) (code.only_in_parens f.high high None) (λ zs l m _. refl) (arrow_reads k k).opens

  listed_opens : (k : Listed) → Opens f (roof f) EndsType any (behind_list (is_single k)) tt (code.listed_type f.high high k)
  unfolding code.listed_type
  listed_opens k = only_opens k (in_parens k)

  list_quiet : (c : Bool) (d : Unit {0}) → Stays c d → ((zs : List Tok) → behind_list c zs ≡ zs) × (d ≡ tt)
  list_quiet true d h = ((λ zs. refl), refl)
  list_quiet false d h = absurd h

  list_late : (c : Bool) → Late f EndsType (behind_list c)
  list_late true zs fol b = b
  list_late false zs fol b = let x : f.at ≤ f.at = omega arith in (x, (x, b))

  parened_reads : Reads f EndsType any (λ zs. the_sign f.at (codes "(") ∷ the_sign f.at (codes ")") ∷ behind_list false zs) tt never
      (code.listed f.low low >>= code.listed_type f.low low) (code.listed f.high high >>= code.listed_type f.high high)
  parened_reads =
      let first = listed_reads f low high held local in
      record {
        goes = both_by f Listed TypeSyntax Bool (Unit {0}) anything EndsType is_single any never Stays never (code.listed f.low low) (code.listed f.high high)
            (code.listed_type f.low low) (code.listed_type f.high high) behind_list (λ _. tt) first.goes listed_goes listed_opens (λ _ _ _. tt) list_quiet (λ _ _ b _. b) (λ y. list_late (is_single y));
        opens = opens_by f Listed TypeSyntax Bool (Unit {0}) anything EndsType is_single any never Stays never (code.listed f.low low) (code.listed f.high high)
            (code.listed_type f.low low) (code.listed_type f.high high) behind_list (λ _. tt) first.opens listed_opens (λ _ _ _. tt);
        late = λ zs fol b. first.late (behind_list false zs) tt (list_late false zs fol b);
      }

  -- ---- forms that begin with a name

  abbrev typeof_rest : ℕ → Parser TypeSyntax
  typeof_rest from = phrases.expression f.low low >>= (λ e. read.expect f.low s.RightParen >>= (λ _. read.span_from from >>= (λ span. pure (tree.the_type span (tree.Typeof e)))))

  typeof_rest_far : (from : ℕ) (q : Place) → Beyond f q.ahead → Far f (typeof_rest from q)
  unfolding same symbol_of
  typeof_rest_far from q b =
      far_then f (λ e. read.expect f.low s.RightParen >>= (λ _. read.span_from from >>= (λ span. pure (tree.the_type span (tree.Typeof e))))) (phrases.expression f.low low q)
      ((expression_reads f low high held).goes.far q b) (λ e p c.
      far_then f (λ _. read.span_from from >>= (λ span. pure (tree.the_type span (tree.Typeof e)))) (read.expect f.low s.RightParen p)
      ((symbol_of_it f s.RightParen (the_sign f.at (codes ")")) refl refl).goes.far p c) (λ _ _ d. d))

  typeof_beyond : (u : Tok) (l m : ℕ) → ApartOf f.cut u → same (symbol_of u) s.Name ≡ true → sees_typeof (place (u ∷ f.cut) l m) ≡ true → Far f (code.typeof_form f.low low (place (u ∷ f.cut) l m))
  unfolding code.typeof_form sees sees_behind symbol symbol_behind start_of same
  typeof_beyond u l m a e d =
      first_far f s.Name u l m a (λ _. read.expect f.low s.LeftParen >>= (λ _. typeof_rest u.span.start))
      (far_then f (λ _. typeof_rest u.span.start) (read.expect f.low s.LeftParen (place f.cut u.span.end m))
      (seen_far f s.LeftParen u.span.end m refl (second (sees_word (codes "typeof") (place (u ∷ f.cut) l m)) (same (first_symbol f.cut) s.LeftParen) d))
      (λ _ q b. typeof_rest_far u.span.start q b))

  plain_typeof : (u : Tok) → same (symbol_of u) s.Name ≡ false → (ts us : List Tok) (l m : ℕ) → sees_typeof (place (u ∷ ts) l m) ≡ sees_typeof (place (u ∷ us) l m)
  unfolding sees sees_behind symbol symbol_behind sees_word
  plain_typeof u e ts us l m =
      ap (λ z. (z && bytes_eq u.bytes (codes "typeof")) && same (first_symbol ts) s.LeftParen) e ∙ sym (ap (λ z. (z && bytes_eq u.bytes (codes "typeof")) && same (first_symbol us) s.LeftParen) e)

  two_typeof : (u w : Tok) (ts us : List Tok) (l m : ℕ) → sees_typeof (place (u ∷ (w ∷ ts)) l m) ≡ sees_typeof (place (u ∷ (w ∷ us)) l m)
  unfolding sees sees_behind symbol symbol_behind sees_word
  two_typeof u w ts us l m = refl

  -- ---- whole types, over those of tables

  name_form_goes : Goes f EndsType any never (code.name_form f.low low) (code.name_form f.high high)
  unfolding code.name_form
  name_form_goes =
      by_two f TypeSyntax (Unit {0}) EndsType any sees_typeof (code.typeof_form f.low low) (code.typeof_form f.high high) (code.named f.low low) (code.named f.high high)
      plain_typeof two_typeof typeof_beyond no_typeof (λ zs. zs) (λ _ _ b. b) tt no_typeof (only_named f high (roof f) (let x : roof f ≤ peak f = omega arith in x)) ((locals.named_local f.low low some_tails local).takes)
      (under f (λ _ _. tt) (typeof_reads f low high held local).goes) (named_reads f low high held local result_reads).goes

  literal_goes : Goes f EndsType any never (code.literal f.low low) (code.literal f.high high)
  unfolding code.literal same symbol_of
  literal_goes =
      (link f (at_start f anything) (λ a b.
      rest f (a_string f s.Text (the_text f.at) refl refl) (λ v w.
      idle f (spanned f EndsType a b) (λ i j. given f EndsType (tree.the_type i (tree.StrType v)) (tree.the_type j (tree.StrType w))) (λ _ z. z)) (λ _ _. tt)) (λ _ _. tt)).goes

  generic_goes : Goes f EndsType any never (code.generic_function f.low low) (code.generic_function f.high high)
  unfolding code.generic_function same symbol_of
  generic_goes =
      (link f (at_start f anything) (λ a b.
      link f (generics_reads f low high held local result_reads false) (λ g h.
      link f (forget_reads f (listed_reads f low high held local)) (λ v w.
      link f (symbol_of_it f s.Arrow (the_sign f.at (codes "->")) refl refl) (λ _ _.
      rest f result_reads (λ r t.
      idle f (spanned f EndsType a b) (λ i j. given f EndsType (tree.the_type i (tree.Func g (types v.types) r)) (tree.the_type j (tree.Func h (types w.types) t))) (λ _ z. z)) (λ _ z. z))
      (λ _ _. tt)) (λ _ _. tt)) (λ _ _. refl)) (λ _ _. tt)).goes

  module _ (tables : Goes f EndsType any never (code.table_or_array f.low low) (code.table_or_array f.high high)) where
    plain_word : (kind : tree.TypeKind) → Goes f EndsType any never (code.word f.low low kind) (code.word f.high high kind)
    plain_word kind = under f (λ _ _. tt) (word_reads f low high held local kind).goes

    form_by_goes : (x : Symbol) → Goes f EndsType any never (code.form_by f.low low x) (code.form_by f.high high x)
    form_by_goes s.Nil = plain_word tree.NilType
    form_by_goes s.True = plain_word (tree.BoolType true)
    form_by_goes s.False = plain_word (tree.BoolType false)
    form_by_goes s.Text = literal_goes
    form_by_goes s.Name = name_form_goes
    form_by_goes s.LeftBrace = tables
    form_by_goes s.Less = generic_goes
    form_by_goes _ = refuses f EndsType any never

    form_reads : Reads f EndsType any (λ zs. the_name f.at ∷ zs) tt never (code.form f.low low) (code.form f.high high)
    unfolding code.form same symbol_of
    form_reads = record {
      goes = by_peek f symbol (code.form_by f.low low) (code.form_by f.high high) peek_symbol form_by_goes;
      opens = only_form f high (roof f) (let x : roof f ≤ peak f = omega arith in x) (the_name f.at) refl;
      late = λ zs fol b. (let x : f.at ≤ f.at = omega arith in x, b);
    }

    basic_reads : Reads f EndsType any (λ zs. the_name f.at ∷ zs) tt never (code.basic f.low low None) (code.basic f.high high None)
    unfolding code.basic sees symbol same symbol_of
    basic_reads = either f {close = λ zs. the_name f.at ∷ zs} (sees s.LeftParen) (peek_sees s.LeftParen) (λ zs l m _. refl) parened_reads form_reads

    mark_goes : (a b : ℕ) (t u : TypeSyntax) → Goes f EndsType any never (code.mark f.low low a t) (code.mark f.high high b u)
    unfolding code.mark
    mark_goes a b t u =
        deeper_rest f s.Question (λ _ _.
        idle f (spanned f EndsType a b) (λ i j. given f EndsType (tree.the_type i (tree.Optional t)) (tree.the_type j (tree.Optional u))) (λ _ z. z))

    marks_reads : (a b : ℕ) (t u : TypeSyntax) → Reads f EndsType any (λ zs. zs) tt (λ z. z ≡ tt) (code.marks f.low low a t) (code.marks f.high high b u)
    unfolding code.marks code.all_marks
    marks_reads a b t u =
        let all = loop_reads f TypeSyntax (Unit {0}) EndsType EndsType any goes_marks (code.mark f.low low a) (code.mark f.high high b)
        (λ x y e v ts us l m. peek_sees s.Question v us ts l m) (λ x y e. mark_goes a b x y) (λ y zs l m z. sees_first s.Question zs l m ∙ z.question) (λ x z. z)
        (λ x. (locals.mark_local f.low low some_tails local a x).takes) t u refl tt refl in
        record { goes = restored f all.goes; opens = restored_opens f all.opens; late = λ _ _ b. b }

    option_reads : Reads f EndsType any (λ zs. the_name f.at ∷ zs) tt never (code.option f.low low None) (code.option f.high high None)
    unfolding code.option
    option_reads = link f (at_start f anything) (λ a b. rest f basic_reads (λ t u. marks_reads a b t u) (λ _ z. z)) (λ _ _. tt)

    another_goes : (sign : Symbol) (t : Tok) → same (symbol_of t) sign ≡ true → t.span.start ≡ f.at → (x y : List TypeSyntax)
        → Goes f EndsType any never (code.another_option f.low low sign x) (code.another_option f.high high sign y)
    unfolding code.another_option
    another_goes sign t e d x y = (link f (symbol_of_it f sign t e d) (λ _ _. rest f option_reads (λ v w. given f EndsType (x ++ v ∷ []) (y ++ w ∷ [])) (λ _ z. z)) (λ _ _. tt)).goes

    options_goes : (sign : Symbol) (t : Tok) → same (symbol_of t) sign ≡ true → t.span.start ≡ f.at → ((x : Symbol) → EndsType x → same x sign ≡ false) → (x y : TypeSyntax)
        → Reads f EndsType any (λ zs. zs) tt (λ z. z ≡ tt) (code.options f.low low sign x) (code.options f.high high sign y)
    unfolding code.options code.options_from
    options_goes sign t e d ends x y =
        loop_reads f (List TypeSyntax) (Unit {0}) EndsType EndsType any (goes_options sign) (code.another_option f.low low sign) (code.another_option f.high high sign)
        (λ x y e v ts us l m. peek_sees sign v us ts l m) (λ x y _. another_goes sign t e d x y) (λ y zs l m z. sees_first sign zs l m ∙ ends (first_symbol zs) z) (λ x z. z)
        (λ x. (locals.another_option_local f.low low some_tails local sign x).takes) (x ∷ []) (y ∷ []) refl tt refl

    union_reads : (a b : ℕ) (t u : TypeSyntax) → Reads f EndsType any (λ zs. zs) tt (λ z. z ≡ tt) (code.union_behind f.low low a t) (code.union_behind f.high high b u)
    unfolding code.union_behind same symbol_of
    union_reads a b t u =
        idle f (options_goes s.Pipe (the_sign f.at (codes "|")) refl refl (λ x z. z.pipe) t u) (λ x y.
        idle f (spanned f EndsType a b) (λ i j. given f EndsType (tree.the_type i (tree.Union (types x))) (tree.the_type j (tree.Union (types y)))) (λ _ z. z)) (λ _ z. z)

    meet_reads : (a b : ℕ) (t u : TypeSyntax) → Reads f EndsType any (λ zs. zs) tt (λ z. z ≡ tt) (code.meet_behind f.low low a t) (code.meet_behind f.high high b u)
    unfolding code.meet_behind same symbol_of
    meet_reads a b t u =
        idle f (options_goes s.Ampersand (the_sign f.at (codes "&")) refl refl (λ x z. z.ampersand) t u) (λ x y.
        idle f (spanned f EndsType a b) (λ i j. given f EndsType (tree.the_type i (tree.Meet (types x))) (tree.the_type j (tree.Meet (types y)))) (λ _ z. z)) (λ _ z. z)

    joined_reads : (a b : ℕ) (t u : TypeSyntax) → Reads f EndsType any (λ zs. zs) tt (λ z. z ≡ tt) (code.joined f.low low a t) (code.joined f.high high b u)
    unfolding code.joined
    joined_reads a b t u =
        let first = given f EndsType t u in
        record {
          goes = choose_goes f (sees s.Pipe) (peek_sees s.Pipe) (union_reads a b t u).goes (choose_goes f (sees s.Ampersand) (peek_sees s.Ampersand) (meet_reads a b t u).goes first.goes);
          opens = other_opens f {close = λ zs. zs} (sees s.Pipe) (code.union_behind f.high high b u) (λ zs l m z. sees_first s.Pipe zs l m ∙ z.pipe)
              (other_opens f {close = λ zs. zs} (sees s.Ampersand) (code.meet_behind f.high high b u) (λ zs l m z. sees_first s.Ampersand zs l m ∙ z.ampersand) first.opens);
          late = λ _ _ b. b;
        }

    bar_reads : Reads f (λ x. same x s.Name ≡ true) any (λ zs. zs) tt (λ z. z ≡ tt) (code.bar f.low low None) (code.bar f.high high None)
    unfolding code.bar sees symbol same symbol_of
    bar_reads =
        if_seen f (λ p. sees s.Pipe p || sees s.Ampersand p) (λ u ts us l m. refl)
        (λ zs l m z. either_no (same (first_symbol zs) s.Pipe) (same (first_symbol zs) s.Ampersand) (name_unlike (first_symbol zs) s.Pipe z refl) (name_unlike (first_symbol zs) s.Ampersand z refl))
        (rest f (token f (the_sign f.at (codes "|")) refl) (λ _ _. given f (λ x. same x s.Name ≡ true) (tt {0}) (tt {0})) (λ _ _. tt))
        (given f (λ x. same x s.Name ≡ true) (tt {0}) (tt {0}))

    pub type_goes : Goes f EndsType any never (code.type_inside f.low low None) (code.type_inside f.high high None)
    unfolding code.type_inside same symbol_of
    type_goes = (link f bar_reads (λ _ _. link f (at_start f anything) (λ a b. rest f option_reads (λ t u. joined_reads a b t u) (λ _ z. z)) (λ _ _. tt)) (λ _ _. refl)).goes

    pub begun_type_goes : (l k : Listed) → is_single k ≡ is_single l → Goes f EndsType any (λ z. z ≡ tt) (code.type_inside f.low low (Some l)) (code.type_inside f.high high (Some k))
    unfolding code.type_inside code.option code.basic code.bar
    begun_type_goes l k e =
        goes_by f (λ p. refl) (λ p. refl)
        (idle_goes f (idle_goes f (settle f (λ _ _. refl) (listed_goes l k e)) (λ t u. marks_reads l.start k.start t u) (λ _ z. z)) (λ t u. joined_reads l.start k.start t u) (λ _ z. z))
