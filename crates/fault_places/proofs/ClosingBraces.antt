-- Lists in braces up to a refused token.
use Rattle.std.proofs.Common.{◌≡◌, ℕ, ◌≤◌, Bool, true, false, not, ◌&&◌, ◌||◌, List, [], ◌∷◌, ◌++◌, refl, ◌∙◌, ap, ap₂, codes, arith}
use Rattle.luau_lex.specs.Tokens.{Tok}
use Rattle.luau_tree.specs.View.{items}
use Rattle.luau_grammar.specs.declared.symbol.Symbol.{Symbol}
use Rattle.luau_grammar.specs.declared.symbol.Symbol.TheVariants as s
use Rattle.luau_grammar.specs.Symbols.{same, symbol_of}
use Rattle.luau_grammar.specs.Places.{first_symbol, symbol, sees}
use Rattle.luau_grammar.specs.Lists.{sees_separator}
use Rattle.luau_grammar.specs.Reading.{Parser, Readers, ◌>>=◌, pure, set_level}
use Rattle.luau_grammar.specs.ReadTypes as types
use Rattle.luau_grammar.specs.ReadTypes.{Braced, goes_braced}
use Rattle.luau_grammar.specs.ReadExpressions as code
use Rattle.grammar_faults.proofs.Local.{Local}
use Rattle.grammar_faults.proofs.LocalTypes as locals
use Rattle.grammar_faults.proofs.LocalTypes.{LocalReaders}
use Rattle.grammar_faults.proofs.LocalExpressions as terms
use Rattle.fault_places.proofs.Closing.{Frame, place, top, roof, both_by, opens_by}
use Rattle.fault_places.proofs.ClosingTokens.{anything, any, never, forget, forget_opens, to_level_goes, to_level_opens}
use Rattle.fault_places.proofs.ClosingSteps.{Reads, link, rest, idle, loop_reads}
use Rattle.fault_places.proofs.ClosingWords.{EndsValue, the_name, the_sign, value_brace}
use Rattle.fault_places.proofs.ClosingSymbols.{symbol_of_it, token, given, peek_sees, sees_first, if_seen, fitted}
use Rattle.fault_places.proofs.ClosingLists.{Held, some_tails}
use Rattle.fault_places.proofs.ClosingBodies.{told}
use Rattle.fault_places.proofs.ClosingPairs.{item_reads}

-- no item is followed by another behind a symbol
pub record NoSeparator (x : Symbol) : Type 0 where
  pub comma : same x s.Comma ≡ false
  pub semicolon : same x s.Semicolon ≡ false

pub record EndsItem (G : Symbol → Type 0) (x : Symbol) : Type 0 where
  pub one : G x
  pub apart : NoSeparator x

-- a list in braces ends in `}`
pub record AtBrace (G : Symbol → Type 0) (x : Symbol) : Type 0 where
  pub brace : same x s.RightBrace ≡ true
  pub item : EndsItem G x

neither : (a b : Bool) → a ≡ false → b ≡ false → (a || b) ≡ false
neither true b h k = h
neither false b h k = k

and_not : (a b : Bool) → b ≡ true → (a && not b) ≡ false
and_not true b h = ap not h
and_not false b h = refl

abbrev bit : Bool → Bool
bit b = b

abbrev going : {A : Type 0} → Braced A → Bool
going found = found.open_ended

module _ (f : Frame) where
  pub separator_reads : Reads f NoSeparator bit (λ zs. zs) false (λ z. z ≡ false) (types.separator f.low) (types.separator f.high)
  unfolding types.separator sees symbol
  separator_reads =
      if_seen f sees_separator (λ u ts us l m. refl) (λ zs l m z. neither (same (first_symbol zs) s.Comma) (same (first_symbol zs) s.Semicolon) z.comma z.semicolon)
      (rest f (token f (the_sign f.at (codes ",")) refl) (λ _ _. told f NoSeparator bit true true true refl refl) (λ _ _. tt))
      (told f NoSeparator bit false false false refl refl)

  module _ {A : Type 0} (G : Symbol → Type 0) (close : List Tok → List Tok) (item other : Parser A) (local : Local some_tails 1 item) (h : Reads f G any close tt never item other) where
    abbrev with_more : Braced A → A → Bool → Parser (Braced A)
    with_more found x more = pure (record { items = found.items ++ x ∷ []; open_ended = more })

    behind_reads : (found more : Braced A) (x y : A) → Reads f NoSeparator going (λ zs. zs) false (λ z. z ≡ false) (types.separator f.low >>= with_more found x) (types.separator f.high >>= with_more more y)
    behind_reads found more x y = record {
      goes = both_by f Bool (Braced A) Bool Bool NoSeparator NoSeparator bit going (λ z. z ≡ false) (λ c d. d ≡ c) (λ z. z ≡ false) (types.separator f.low) (types.separator f.high)
          (with_more found x) (with_more more y) (λ _ zs. zs) (λ c. c) separator_reads.goes
          (λ a b e. (told f NoSeparator going (record { items = found.items ++ x ∷ []; open_ended = a }) (record { items = more.items ++ y ∷ []; open_ended = b }) a refl e).goes)
          (λ b. (told f NoSeparator going (record { items = more.items ++ y ∷ []; open_ended = b }) (record { items = more.items ++ y ∷ []; open_ended = b }) b refl refl).opens)
          (λ _ zs z. z) (λ c d e. ((λ zs. refl), e)) (λ c d p q. q ∙ p) (λ _ _ _ b. b);
      opens = opens_by f Bool (Braced A) Bool Bool NoSeparator NoSeparator bit going (λ z. z ≡ false) (λ c d. d ≡ c) (λ z. z ≡ false) (types.separator f.low) (types.separator f.high)
          (with_more found x) (with_more more y) (λ _ zs. zs) (λ c. c) separator_reads.opens
          (λ b. (told f NoSeparator going (record { items = more.items ++ y ∷ []; open_ended = b }) (record { items = more.items ++ y ∷ []; open_ended = b }) b refl refl).opens)
          (λ _ zs z. z);
      late = λ _ _ b. b;
    }

    one_reads : (found more : Braced A) → Reads f (EndsItem G) going close false never (types.one_braced f.low item found) (types.one_braced f.high other more)
    one_reads found more = rest f h (λ x y. fitted f (λ _ z. z.apart) (behind_reads found more x y)) (λ _ z. z.one)

    pub braced_reads : Reads f (AtBrace G) any (λ zs. zs) tt (λ z. z ≡ tt) (types.braced f.low item) (types.braced f.high other)
    unfolding types.braced
    braced_reads =
        let all = loop_reads f (Braced A) Bool (AtBrace G) (EndsItem G) going goes_braced (types.one_braced f.low item) (types.one_braced f.high other)
        (λ x y e u ts us l m. ap₂ (λ v w. v && not w) e (peek_sees s.RightBrace u us ts l m)) (λ x y e. (one_reads x y).goes)
        (λ y zs l m z. and_not (going y) (sees s.RightBrace (place zs l m)) (sees_first s.RightBrace zs l m ∙ z.brace)) (λ x z. z.item)
        (λ x. (locals.one_braced_local f.low {w = some_tails} local x).takes)
        (record { items = []; open_ended = true }) (record { items = []; open_ended = true }) refl true refl in
        record { goes = forget f (λ d _. refl) all.goes; opens = forget_opens f all.opens; late = all.late }

at_brace : AtBrace EndsValue s.RightBrace
unfolding same
at_brace = record { brace = refl; item = record { one = value_brace; apart = record { comma = refl; semicolon = refl } } }

module _ (f : Frame) (low high : Readers) (held : Held f low high) (local : LocalReaders some_tails low) where
  pub fields_reads : Reads f (AtBrace EndsValue) any (λ zs. zs) tt (λ z. z ≡ tt) (code.fields f.low low) (code.fields f.high high)
  unfolding code.fields
  fields_reads =
      idle f (braced_reads f EndsValue (λ zs. the_name f.at ∷ zs) (code.item f.low low) (code.item f.high high) (terms.item_local f.low low some_tails local) (item_reads f low high held local))
      (λ x y. given f (AtBrace EndsValue) (items x.items) (items y.items)) (λ _ z. z)

  -- whose inside stands at a level that the first parser allows
  pub table_reads : (n : ℕ) → n ≤ top f → Reads f anything any (λ zs. the_sign f.at (codes "{") ∷ the_sign f.at (codes "}") ∷ zs) tt never (code.table f.low low n) (code.table f.high high n)
  unfolding code.table same symbol_of
  table_reads n h =
      let leveled : Reads f anything any (λ zs. zs) tt (λ z. z ≡ tt) (set_level n) (set_level n) =
      record { goes = to_level_goes f anything n h; opens = to_level_opens f (roof f) n (let x : n ≤ roof f = omega arith in x) anything; late = λ _ _ b. b } in
      link f (symbol_of_it f s.LeftBrace (the_sign f.at (codes "{")) refl refl) (λ _ _.
      link f leveled (λ _ _.
      link f fields_reads (λ x y.
      rest f (symbol_of_it f s.RightBrace (the_sign f.at (codes "}")) refl refl) (λ _ _. given f anything x y) (λ _ z. z))
      (λ _ _. at_brace)) (λ _ _. tt)) (λ _ _. tt)
