-- The parsers of table types up to a refused token.
use Rattle.std.proofs.Common.{◌≡◌, ℕ, zero, suc, ◌≤◌, Bool, true, false, not, ◌&&◌, ◌||◌, List, [], ◌∷◌, ◌++◌, length, refl, sym, ◌∙◌, ap, subst, codes, None, arith, bytes_eq, if◌then◌else◌}
use Rattle.std.specs.Prelude.{Ok, Err}
use Rattle.luau_lex.specs.Tokens.{Tok}
use Rattle.luau_tree.specs.declared.names.Access.{Access}
use Rattle.luau_tree.specs.declared.names.Access.TheVariants.{Both, Read, Write}
use Rattle.luau_tree.specs.Tree.{TypeSyntax, Prop, PropKey}
use Rattle.luau_tree.specs.Tree as tree
use Rattle.luau_tree.specs.View.{props}
use Rattle.luau_grammar.specs.declared.error.ParseError.TheVariants.{Nesting}
use Rattle.luau_grammar.specs.declared.symbol.Symbol.TheVariants as s
use Rattle.luau_grammar.specs.Symbols.{same, symbol_of}
use Rattle.luau_grammar.specs.Places.{Place, first_symbol, symbol, symbol_behind, sees, sees_behind, sees_word, behind}
use Rattle.luau_grammar.specs.Types.{sees_access, begins_property}
use Rattle.luau_grammar.specs.Reading as read
use Rattle.luau_grammar.specs.Reading.{Parser, Readers, ◌>>=◌, ◌>>◌, and_then, pure, start}
use Rattle.luau_grammar.specs.ReadPhrases as phrases
use Rattle.luau_grammar.specs.ReadTypes as code
use Rattle.luau_grammar.specs.ReadTypes.{Braced, goes_braced}
use Rattle.grammar_faults.proofs.Local.{Shorter, both, done, least, shorter_if}
use Rattle.grammar_faults.proofs.LocalTokens as tokens
use Rattle.grammar_faults.proofs.LocalTypes as locals
use Rattle.grammar_faults.proofs.LocalTypes.{LocalReaders}
use Rattle.fault_places.proofs.Closing.{Frame, ApartOf, place, Beyond, Late, roof, peak, Far, Opens, Goes, far_then}
use Rattle.fault_places.proofs.ClosingTokens.{anything, any, never, this_opens, other_opens, goes_by, opens_from, refuses, far_if, nesting_apart, under, under_opens, value_opens}
use Rattle.fault_places.proofs.ClosingSteps.{Reads, link, rest, idle}
use Rattle.fault_places.proofs.ClosingWords.{EndsType, the_name, the_sign, right_brace}
use Rattle.fault_places.proofs.ClosingSymbols.{symbol_of_it, token, given, at_start, spanned}
use Rattle.fault_places.proofs.ClosingLists.{Held, some_tails, typ_reads}
use Rattle.fault_places.proofs.ClosingNames.{seen_far, then_far}
use Rattle.fault_places.proofs.ClosingBodies.{then_if, then_then}
use Rattle.fault_places.proofs.ClosingBraces.{AtBrace, braced_reads, separator_reads}
use Rattle.fault_places.proofs.ClosingPairs.{typ_named, name_far, second, no_second}
use Rattle.fault_places.proofs.ClosingTypes.{key_reads, array_reads}
use Rattle.fault_places.proofs.ClosingChoices.{opens_link, by_two}
use Rattle.fault_places.proofs.ClosingMembers.{either_no, or_second, name_unlike}
use Rattle.fault_places.proofs.ClosingForms.{only_name, only_span}

at_brace : AtBrace EndsType s.RightBrace
unfolding same
at_brace = record { brace = refl; item = record { one = right_brace.one; apart = record { comma = refl; semicolon = refl } } }

or_first : (a b : Bool) → (a || b) ≡ true → b ≡ false → a ≡ true
or_first true b h k = refl
or_first false b h k = absurd (cc)

drop_first : (a b c : Bool) → ((a || b) || c) ≡ true → a ≡ false → (b || c) ≡ true
drop_first true b c h k = absurd (cc)
drop_first false b c h k = h

three : (r b n n' a a' w w' : Bool) → n ≡ n' → a ≡ a' → w ≡ w' → (r || ((b || n) || (a || w))) ≡ (r || ((b || n') || (a' || w')))
three r b n n' a a' w w' h k l = cc

module _ (f : Frame) where
  -- any token before the cut is taken, or the fault stands there
  pub any_far : {B : Type 0} (u : Tok) (l m : ℕ) → (h : Tok → Parser B) → Far f (h u (place f.cut u.span.end m)) → Far f ((read.next f.low >>= h) (place (u ∷ f.cut) l m))
  unfolding read.next
  any_far u l m h k =
      then_far f (f.low.rules.may_stand u m) (Ok (u, behind u f.cut m)) (Err (Nesting u.span.start)) h k (nesting_apart f.low.len u.span.start f.cut)

  pub turns_far : {S : Type 0} (goes : S → Place → Bool) (step : S → Parser S) → ((x : S) (q : Place) → Beyond f q.ahead → Far f (step x q)) → (n : ℕ) (x : S) (q : Place) → Beyond f q.ahead
      → Far f (read.repeats f.low goes step n x q)
  unfolding read.repeats
  turns_far {S = S} goes step h zero x q b = far_if f (goes x q) (read.refuse f.low q) (Ok (x, q)) ((refuses f {A = S} anything any never).far q b) b
  turns_far {S = S} goes step h (suc n) x q b =
      far_if f (goes x q) (and_then (step x q) (read.repeats f.low goes step n)) (Ok (x, q)) (far_then f (read.repeats f.low goes step n) (step x q) (h x q b) (λ y p c. turns_far goes step h n y p c)) b

  pub repeat_far : {S : Type 0} (goes : S → Place → Bool) (step : S → Parser S) → ((x : S) (q : Place) → Beyond f q.ahead → Far f (step x q)) → (x : S) (u : Tok) (ts : List Tok) (l m : ℕ)
      → goes x (place (u ∷ ts) l m) ≡ true → Far f (step x (place (u ∷ ts) l m)) → Far f (read.repeat f.low goes step x (place (u ∷ ts) l m))
  unfolding read.repeats
  repeat_far goes step h x u ts l m e k =
      let q = place (u ∷ ts) l m in
      subst (λ b. Far f (if b then and_then (step x q) (read.repeats f.low goes step (length ts)) else Ok (x, q))) (sym e)
      (far_then f (read.repeats f.low goes step (length ts)) (step x q) k (λ y p c. turns_far goes step h (length ts) y p c))

module _ (f : Frame) (low high : Readers) (held : Held f low high) (local : LocalReaders some_tails low) where
  abbrev behind_low : Access → Parser Prop
  behind_low how = code.key f.low low >>= (λ what. phrases.typ f.low low None >>= (λ t. pure (tree.the_prop how what t)))

  abbrev behind_high : Access → Parser Prop
  behind_high how = code.key f.high high >>= (λ what. phrases.typ f.high high None >>= (λ t. pure (tree.the_prop how what t)))

  abbrev word_low : Access → Parser Prop
  word_low how = (read.next f.low >> pure how) >>= behind_low

  abbrev word_high : Access → Parser Prop
  word_high how = (read.next f.high >> pure how) >>= behind_high

  abbrev is_read : Place → Bool
  is_read p = sees_access (codes "read") p

  abbrev is_write : Place → Bool
  is_write p = sees_access (codes "write") p

  behind_reads : (v w : Access) → Reads f EndsType any (λ zs. the_name f.at ∷ the_sign f.at (codes ":") ∷ the_name f.at ∷ zs) tt never (behind_low v) (behind_high w)
  behind_reads v w =
      link f (key_reads f low high held local) (λ x y.
      rest f (typ_reads f low high held) (λ t u. given f EndsType (tree.the_prop v x t) (tree.the_prop w y u)) (λ _ z. z)) (λ _ _. tt)

  word_reads : (how : Access) → Reads f EndsType any (λ zs. the_name f.at ∷ the_name f.at ∷ the_sign f.at (codes ":") ∷ the_name f.at ∷ zs) tt never (word_low how) (word_high how)
  word_reads how = link f (rest f (token f (the_name f.at) refl) (λ _ _. given f anything how how) (λ _ z. z)) (λ v w. behind_reads v w) (λ _ _. tt)

  -- ---- what a name and the token behind it say

  key_behind : (p : Place) → Bool
  key_behind p = sees_behind s.Name p || sees_behind s.LeftBracket p

  plain_access : (w : List ℕ) (u : Tok) → same (symbol_of u) s.Name ≡ false → (ts us : List Tok) (l m : ℕ) → sees_access w (place (u ∷ ts) l m) ≡ sees_access w (place (u ∷ us) l m)
  unfolding sees sees_behind symbol symbol_behind sees_word
  plain_access w u e ts us l m =
      ap (λ z. (z && bytes_eq u.bytes w) && (same (first_symbol ts) s.Name || same (first_symbol ts) s.LeftBracket)) e
      ∙ sym (ap (λ z. (z && bytes_eq u.bytes w) && (same (first_symbol us) s.Name || same (first_symbol us) s.LeftBracket)) e)

  two_access : (w : List ℕ) (u v : Tok) (ts us : List Tok) (l m : ℕ) → sees_access w (place (u ∷ (v ∷ ts)) l m) ≡ sees_access w (place (u ∷ (v ∷ us)) l m)
  unfolding sees sees_behind symbol symbol_behind sees_word
  two_access w u v ts us l m = refl

  no_access : (w : List ℕ) (u : Tok) (zs : List Tok) (l m : ℕ) → EndsType (first_symbol zs) → sees_access w (place (u ∷ zs) l m) ≡ false
  unfolding sees_behind symbol_behind
  no_access w u zs l m z =
      no_second (sees_word w (place (u ∷ zs) l m)) (same (first_symbol zs) s.Name || same (first_symbol zs) s.LeftBracket) (either_no (same (first_symbol zs) s.Name) (same (first_symbol zs) s.LeftBracket) z.name z.bracket)

  colon_no_access : (w : List ℕ) (u : Tok) (zs : List Tok) (l m : ℕ) → sees_access w (place (u ∷ the_sign f.at (codes ":") ∷ zs) l m) ≡ false
  unfolding sees_behind symbol_behind same symbol_of
  colon_no_access w u zs l m = no_second (sees_word w (place (u ∷ the_sign f.at (codes ":") ∷ zs) l m)) false refl

  -- ---- what is far where the cut stands behind a name

  name_key_far : (q : Place) → Far f (read.expect f.low s.Name q) → Far f (code.property_name f.low low q)
  unfolding code.property_name read.name same symbol_of
  name_key_far q h =
      far_then f (λ n. read.expect f.low s.Colon >>= (λ _. pure (tree.NameKey n))) ((read.expect f.low s.Name >>= (λ t. pure t.bytes)) q)
      (far_then f (λ t. pure t.bytes) (read.expect f.low s.Name q) h (λ _ _ b. b))
      (λ n p b. far_then f (λ _. pure (tree.NameKey n)) (read.expect f.low s.Colon p) ((symbol_of_it f s.Colon (the_sign f.at (codes ":")) refl refl).goes.far p b) (λ _ _ c. c))

  abbrev bracket_rest : Parser PropKey
  bracket_rest = phrases.typ f.low low None >>= (λ t. read.expect f.low s.RightBracket >>= (λ _. read.expect f.low s.Colon >>= (λ _. pure (tree.Indexer t))))

  bracket_key_far : (q : Place) → Far f (read.expect f.low s.LeftBracket q) → Far f (code.indexer f.low low q)
  unfolding code.indexer same symbol_of
  bracket_key_far q h =
      far_then f (λ _. bracket_rest) (read.expect f.low s.LeftBracket q) h
      (λ _ p b. far_then f (λ t. read.expect f.low s.RightBracket >>= (λ _. read.expect f.low s.Colon >>= (λ _. pure (tree.Indexer t)))) (phrases.typ f.low low None p) ((typ_reads f low high held).goes.far p b)
      (λ t o c. far_then f (λ _. read.expect f.low s.Colon >>= (λ _. pure (tree.Indexer t))) (read.expect f.low s.RightBracket o) ((symbol_of_it f s.RightBracket (the_sign f.at (codes "]")) refl refl).goes.far o c)
      (λ _ n d. far_then f (λ _. pure (tree.Indexer t)) (read.expect f.low s.Colon n) ((symbol_of_it f s.Colon (the_sign f.at (codes ":")) refl refl).goes.far n d) (λ _ _ e. e))))

  key_at_cut : (l m : ℕ) → (b : Bool) → same (first_symbol f.cut) s.LeftBracket ≡ b → (same (first_symbol f.cut) s.Name || same (first_symbol f.cut) s.LeftBracket) ≡ true
      → Far f (code.key f.low low (place f.cut l m))
  unfolding code.key sees symbol same
  key_at_cut l m true e d =
      let q = place f.cut l m in
      subst (λ b. Far f (if b then code.indexer f.low low q else code.property_name f.low low q)) (sym e) (bracket_key_far q (seen_far f s.LeftBracket l m refl e))
  key_at_cut l m false e d =
      let q = place f.cut l m in
      let n : same (first_symbol f.cut) s.Name ≡ true = or_first (same (first_symbol f.cut) s.Name) (same (first_symbol f.cut) s.LeftBracket) d e in
      subst (λ b. Far f (if b then code.indexer f.low low q else code.property_name f.low low q)) (sym e) (name_key_far q (seen_far f s.Name l m refl n))

  behind_far : (how : Access) (q : Place) → Far f (code.key f.low low q) → Far f (behind_low how q)
  behind_far how q h =
      far_then f (λ what. phrases.typ f.low low None >>= (λ t. pure (tree.the_prop how what t))) (code.key f.low low q) h
      (λ what p b. far_then f (λ t. pure (tree.the_prop how what t)) (phrases.typ f.low low None p) ((typ_reads f low high held).goes.far p b) (λ _ _ c. c))

  word_beyond : (how : Access) (w : List ℕ) (u : Tok) (l m : ℕ) → sees_access w (place (u ∷ f.cut) l m) ≡ true → Far f (word_low how (place (u ∷ f.cut) l m))
  unfolding sees_behind symbol_behind
  word_beyond how w u l m d =
      subst (λ o. Far f o) (then_then (read.next f.low (place (u ∷ f.cut) l m)) (λ _. pure how) behind_low)
      (any_far f u l m (λ _. behind_low how)
      (behind_far how (place f.cut u.span.end m)
      (key_at_cut (u.span.end) m (same (first_symbol f.cut) s.LeftBracket) refl
      (second (sees_word w (place (u ∷ f.cut) l m)) (same (first_symbol f.cut) s.Name || same (first_symbol f.cut) s.LeftBracket) d))))

  -- ---- properties

  module _ (u : Tok) (e : same (symbol_of u) s.Name ≡ true) where
    only_key : Opens f (roof f) anything any (λ zs. u ∷ the_sign f.at (codes ":") ∷ zs) tt (code.key f.high high)
    unfolding code.key code.property_name sees symbol same symbol_of
    only_key =
        other_opens f {close = λ zs. u ∷ the_sign f.at (codes ":") ∷ zs} (sees s.LeftBracket) (code.indexer f.high high) (λ zs l m _. name_unlike (symbol_of u) s.LeftBracket e refl)
        (opens_link f (roof f) (only_name f high (roof f) (let x : roof f ≤ peak f = omega arith in x) u e)
        (λ n. opens_link f (roof f) (symbol_of_it f s.Colon (the_sign f.at (codes ":")) refl refl).opens (λ _. value_opens f (roof f) anything any (λ p. tree.NameKey n) tt (λ p. refl)) (λ _ _. tt)) (λ _ _. tt))

    only_behind : Opens f (roof f) EndsType any (λ zs. u ∷ the_sign f.at (codes ":") ∷ the_name f.at ∷ zs) tt (behind_high Both)
    only_behind =
        opens_link f (roof f) only_key
        (λ k. opens_link f (roof f) (typ_reads f low high held).opens (λ t. value_opens f (roof f) EndsType any (λ p. tree.the_prop Both k t) tt (λ p. refl)) (λ _ z. z)) (λ _ _. tt)

  abbrev write_low : Parser Prop
  write_low = λ p. if is_write p then word_low Write p else behind_low Both p

  abbrev write_high : Parser Prop
  write_high = λ p. if is_write p then word_high Write p else behind_high Both p

  abbrev behind_name : List Tok → List Tok
  behind_name = λ zs. the_sign f.at (codes ":") ∷ the_name f.at ∷ zs

  late_behind : Late f EndsType behind_name
  late_behind zs fol b = let x : f.at ≤ f.at = omega arith in (x, (x, b))

  key_takes : (how : Access) (p : Place) → Shorter 1 p (behind_low how p)
  key_takes how p =
      (least 1 refl (both (locals.key_local f.low low some_tails local) (λ what. both (locals.typ_local f.low low some_tails local) (λ t. done (tree.the_prop how what t))))).takes p

  word_takes : (how : Access) (p : Place) → Shorter 1 p (word_low how p)
  word_takes how p =
      (least 1 refl (both (both (tokens.any f.low {w = some_tails}) (λ _. done how))
      (λ v. both (locals.key_local f.low low some_tails local) (λ what. both (locals.typ_local f.low low some_tails local) (λ t. done (tree.the_prop v what t)))))).takes p

  write_named : (u : Tok) → same (symbol_of u) s.Name ≡ true → Opens f (roof f) EndsType any (λ zs. u ∷ behind_name zs) tt write_high
  write_named u e = other_opens f {close = λ zs. u ∷ behind_name zs} is_write (word_high Write) (λ zs l m _. colon_no_access (codes "write") u (the_name f.at ∷ zs) l m) (only_behind u e)

  write_goes : Goes f EndsType any never write_low write_high
  write_goes =
      by_two f Prop (Unit {0}) EndsType any is_write (word_low Write) (word_high Write) (behind_low Both) (behind_high Both)
      (plain_access (codes "write")) (two_access (codes "write")) (λ u l m a e d. word_beyond Write (codes "write") u l m d) (λ u e. no_access (codes "write") u)
      behind_name late_behind tt (λ u e zs l m _. colon_no_access (codes "write") u (the_name f.at ∷ zs) l m) only_behind (key_takes Both) (word_reads Write).goes (behind_reads Both Both).goes

  read_goes : Goes f EndsType any never (λ p. if is_read p then word_low Read p else write_low p) (λ p. if is_read p then word_high Read p else write_high p)
  read_goes =
      by_two f Prop (Unit {0}) EndsType any is_read (word_low Read) (word_high Read) write_low write_high
      (plain_access (codes "read")) (two_access (codes "read")) (λ u l m a e d. word_beyond Read (codes "read") u l m d) (λ u e. no_access (codes "read") u)
      behind_name late_behind tt (λ u e zs l m _. colon_no_access (codes "read") u (the_name f.at ∷ zs) l m) write_named
      (λ p. shorter_if 1 p (is_write p) (word_low Write p) (behind_low Both p) (word_takes Write p) (key_takes Both p)) (word_reads Read).goes write_goes

  property_is : (p : Place) → code.property f.low low p ≡ (if is_read p then word_low Read p else write_low p)
  unfolding code.property code.access
  property_is p =
      then_if (is_read p) ((read.next f.low >> pure Read) p) (if is_write p then (read.next f.low >> pure Write) p else Ok (Both, p)) behind_low
      ∙ ap (λ z. if is_read p then word_low Read p else z) (then_if (is_write p) ((read.next f.low >> pure Write) p) (Ok (Both, p)) behind_low)

  property_is_high : (p : Place) → code.property f.high high p ≡ (if is_read p then word_high Read p else write_high p)
  unfolding code.property code.access
  property_is_high p =
      then_if (is_read p) ((read.next f.high >> pure Read) p) (if is_write p then (read.next f.high >> pure Write) p else Ok (Both, p)) behind_high
      ∙ ap (λ z. if is_read p then word_high Read p else z) (then_if (is_write p) ((read.next f.high >> pure Write) p) (Ok (Both, p)) behind_high)

  property_reads : Reads f EndsType any (λ zs. the_name f.at ∷ behind_name zs) tt never (code.property f.low low) (code.property f.high high)
  unfolding same symbol_of
  property_reads = record {
    goes = goes_by f property_is property_is_high read_goes;
    opens = opens_from f property_is_high
        (other_opens f {close = λ zs. the_name f.at ∷ behind_name zs} is_read (word_high Read) (λ zs l m _. colon_no_access (codes "read") (the_name f.at) (the_name f.at ∷ zs) l m) (write_named (the_name f.at) refl));
    late = λ zs fol b. let x : f.at ≤ f.at = omega arith in (x, (x, (x, b)));
  }

  -- ---- tables

  table_reads : (a b : ℕ) → Reads f anything any (λ zs. the_sign f.at (codes "}") ∷ zs) tt never (code.table f.low low a) (code.table f.high high b)
  unfolding code.table same symbol_of
  table_reads a b =
      link f (braced_reads f EndsType (λ zs. the_name f.at ∷ behind_name zs) (code.property f.low low) (code.property f.high high) (locals.property_local f.low low some_tails local) property_reads) (λ x y.
      rest f (symbol_of_it f s.RightBrace (the_sign f.at (codes "}")) refl refl) (λ _ _.
      idle f (spanned f anything a b) (λ i j. given f anything (tree.the_type i (tree.TableType (props x.items))) (tree.the_type j (tree.TableType (props y.items)))) (λ _ z. z)) (λ _ z. z)) (λ _ _. at_brace)

  property_cases : (u : Tok) (l m : ℕ) → ApartOf f.cut u → same (symbol_of u) s.Name ≡ true
      → ((same (symbol_of u) s.Name && same (first_symbol f.cut) s.Colon) || (is_read (place (u ∷ f.cut) l m) || is_write (place (u ∷ f.cut) l m))) ≡ true
      → (v w : Bool) → is_read (place (u ∷ f.cut) l m) ≡ v → is_write (place (u ∷ f.cut) l m) ≡ w
      → Far f (if v then word_low Read (place (u ∷ f.cut) l m) else if w then word_low Write (place (u ∷ f.cut) l m) else behind_low Both (place (u ∷ f.cut) l m))
  unfolding code.key code.property_name sees symbol same symbol_of
  property_cases u l m a e d true w h k = word_beyond Read (codes "read") u l m h
  property_cases u l m a e d false true h k = word_beyond Write (codes "write") u l m k
  property_cases u l m a e d false false h k =
      let q = place (u ∷ f.cut) l m in
      let c : (same (symbol_of u) s.Name && same (first_symbol f.cut) s.Colon) ≡ true =
      or_first (same (symbol_of u) s.Name && same (first_symbol f.cut) s.Colon) (is_read q || is_write q) d (either_no (is_read q) (is_write q) h k) in
      behind_far Both q
      (subst (λ b. Far f (if b then code.indexer f.low low q else code.property_name f.low low q)) (sym (name_unlike (symbol_of u) s.LeftBracket e refl))
      (name_far f u l m a (λ n. read.expect f.low s.Colon >>= (λ _. pure (tree.NameKey n)))
      (far_then f (λ _. pure (tree.NameKey u.bytes)) (read.expect f.low s.Colon (place f.cut u.span.end m))
      (seen_far f s.Colon u.span.end m refl (second (same (symbol_of u) s.Name) (same (first_symbol f.cut) s.Colon) c)) (λ _ _ b. b))))

  property_beyond : (u : Tok) (l m : ℕ) → ApartOf f.cut u → same (symbol_of u) s.Name ≡ true
      → ((same (symbol_of u) s.Name && same (first_symbol f.cut) s.Colon) || (is_read (place (u ∷ f.cut) l m) || is_write (place (u ∷ f.cut) l m))) ≡ true
      → Far f (code.property f.low low (place (u ∷ f.cut) l m))
  property_beyond u l m a e d =
      let q = place (u ∷ f.cut) l m in
      let cases = property_cases u l m a e d in
      subst (λ o. Far f o) (sym (property_is q))
      (subst (λ v. Far f (if v then word_low Read q else if is_write q then word_low Write q else behind_low Both q)) refl (cases (is_read q) (is_write q) refl refl))

  abbrev one_low : Braced Prop → Parser (Braced Prop)
  one_low = code.one_braced f.low (code.property f.low low)

  one_far : (found : Braced Prop) (q : Place) → Far f (code.property f.low low q) → Far f (one_low found q)
  one_far found q h =
      far_then f (λ x. code.separator f.low >>= (λ more. pure (record { items = found.items ++ x ∷ []; open_ended = more }))) (code.property f.low low q) h
      (λ x p b. far_then f (λ more. pure (record { items = found.items ++ x ∷ []; open_ended = more })) (code.separator f.low p) ((separator_reads f).goes.far p b) (λ _ _ c. c))

  abbrev is_table : Place → Bool
  is_table p = sees s.RightBrace p || begins_property p

  is_table_far : (a : ℕ) (u : Tok) (l m : ℕ) → ApartOf f.cut u → same (symbol_of u) s.Name ≡ true → is_table (place (u ∷ f.cut) l m) ≡ true → Far f (code.table f.low low a (place (u ∷ f.cut) l m))
  unfolding code.table code.braced sees sees_behind symbol symbol_behind same symbol_of
  is_table_far a u l m h e d =
      let q = place (u ∷ f.cut) l m in
      let n = same (symbol_of u) s.Name && same (first_symbol f.cut) s.Colon in
      let no_brace = name_unlike (symbol_of u) s.RightBrace e refl in
      let property : ((same (symbol_of u) s.LeftBracket || n) || (is_read q || is_write q)) ≡ true =
      or_second (same (symbol_of u) s.RightBrace) ((same (symbol_of u) s.LeftBracket || n) || (is_read q || is_write q)) d no_brace in
      let behind : (n || (is_read q || is_write q)) ≡ true = drop_first (same (symbol_of u) s.LeftBracket) n (is_read q || is_write q) property (name_unlike (symbol_of u) s.LeftBracket e refl) in
      far_then f (λ found. read.expect f.low s.RightBrace >>= (λ _. read.span_from a >>= (λ span. pure (tree.the_type span (tree.TableType (props found.items)))))) (code.braced f.low (code.property f.low low) q)
      (repeat_far f goes_braced one_low (λ x p b. one_far x p (property_reads.goes.far p b)) (record { items = []; open_ended = true }) u (f.cut) l m (ap not no_brace)
      (one_far (record { items = []; open_ended = true }) q (property_beyond u l m h e behind)))
      (λ found p b. far_then f (λ _. read.span_from a >>= (λ span. pure (tree.the_type span (tree.TableType (props found.items))))) (read.expect f.low s.RightBrace p)
      ((symbol_of_it f s.RightBrace (the_sign f.at (codes "}")) refl refl).goes.far p b) (λ _ _ c. c))

  plain_table : (u : Tok) → same (symbol_of u) s.Name ≡ false → (ts us : List Tok) (l m : ℕ) → is_table (place (u ∷ ts) l m) ≡ is_table (place (u ∷ us) l m)
  unfolding sees sees_behind symbol symbol_behind
  plain_table u e ts us l m =
      three (same (symbol_of u) s.RightBrace) (same (symbol_of u) s.LeftBracket) (same (symbol_of u) s.Name && same (first_symbol ts) s.Colon) (same (symbol_of u) s.Name && same (first_symbol us) s.Colon)
      (is_read (place (u ∷ ts) l m)) (is_read (place (u ∷ us) l m)) (is_write (place (u ∷ ts) l m)) (is_write (place (u ∷ us) l m))
      (ap (λ z. z && same (first_symbol ts) s.Colon) e ∙ sym (ap (λ z. z && same (first_symbol us) s.Colon) e)) (plain_access (codes "read") u e ts us l m) (plain_access (codes "write") u e ts us l m)

  two_table : (u v : Tok) (ts us : List Tok) (l m : ℕ) → is_table (place (u ∷ (v ∷ ts)) l m) ≡ is_table (place (u ∷ (v ∷ us)) l m)
  unfolding sees sees_behind symbol symbol_behind sees_word
  two_table u v ts us l m = refl

  no_table : (u : Tok) → same (symbol_of u) s.Name ≡ true → (zs : List Tok) (l m : ℕ) → EndsType (first_symbol zs) → is_table (place (u ∷ zs) l m) ≡ false
  unfolding sees sees_behind symbol symbol_behind same
  no_table u e zs l m z =
      let q = place (u ∷ zs) l m in
      let n = same (symbol_of u) s.Name && same (first_symbol zs) s.Colon in
      either_no (same (symbol_of u) s.RightBrace) ((same (symbol_of u) s.LeftBracket || n) || (is_read q || is_write q)) (name_unlike (symbol_of u) s.RightBrace e refl)
      (either_no (same (symbol_of u) s.LeftBracket || n) (is_read q || is_write q)
      (either_no (same (symbol_of u) s.LeftBracket) n (name_unlike (symbol_of u) s.LeftBracket e refl) (no_second (same (symbol_of u) s.Name) (same (first_symbol zs) s.Colon) z.colon))
      (either_no (is_read q) (is_write q) (no_access (codes "read") u zs l m z) (no_access (codes "write") u zs l m z)))

  abbrev brace_behind : List Tok → List Tok
  brace_behind = λ zs. the_sign f.at (codes "}") ∷ zs

  array_named : (b : ℕ) (u : Tok) → same (symbol_of u) s.Name ≡ true → Opens f (roof f) EndsType any (λ zs. u ∷ brace_behind zs) tt (code.array f.high high b)
  unfolding code.array same symbol_of
  array_named b u e =
      opens_link f (roof f) (typ_named f low high held local u e)
      (λ t. opens_link f (roof f) (symbol_of_it f s.RightBrace (the_sign f.at (codes "}")) refl refl).opens
      (λ _. only_span f high (roof f) (let x : roof f ≤ peak f = omega arith in x) u e b (tree.Array t)) (λ _ _. tt)) (λ _ _. right_brace.one)

  either_table : (a b : ℕ) → Reads f EndsType any brace_behind tt never (λ p. if is_table p then code.table f.low low a p else code.array f.low low a p) (λ p. if is_table p then code.table f.high high b p else code.array f.high high b p)
  unfolding sees symbol same symbol_of
  either_table a b =
      record {
        goes = by_two f TypeSyntax (Unit {0}) EndsType any is_table (code.table f.low low a) (code.table f.high high b) (code.array f.low low a) (code.array f.high high b)
            plain_table two_table (is_table_far a) no_table brace_behind (λ zs _ c. (let x : f.at ≤ f.at = omega arith in x, c)) tt
            (λ u e zs l m _. no_table u e (the_sign f.at (codes "}") ∷ zs) l m right_brace.one) (array_named b) ((locals.array_local f.low low some_tails local a).takes)
            (under f (λ _ _. tt) (table_reads a b).goes) (under f (λ _ _. tt) (array_reads f low high held local a b).goes);
        opens = this_opens f {close = brace_behind} is_table (code.array f.high high b) (λ zs l m _. refl) (under_opens f (λ _ _. tt) (table_reads a b).opens);
        late = λ zs _ c. (let x : f.at ≤ f.at = omega arith in x, c);
      }

  pub table_or_array_goes : Goes f EndsType any never (code.table_or_array f.low low) (code.table_or_array f.high high)
  unfolding code.table_or_array same symbol_of
  table_or_array_goes =
      (link f (at_start f anything) (λ a b. link f (symbol_of_it f s.LeftBrace (the_sign f.at (codes "{")) refl refl) (λ _ _. either_table a b) (λ _ _. tt)) (λ _ _. tt)).goes
