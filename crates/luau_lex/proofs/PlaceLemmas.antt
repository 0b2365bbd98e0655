-- What is of a form at the front of a text is no longer than the token that is read there.
use Rattle.std.proofs.Common.{◌≡◌, ◌≢◌, ℕ, zero, suc, ◌+◌, ◌<◌, ◌≤◌, Bool, true, false, ◌&&◌, ◌||◌, eqb, cond, List, [], ◌∷◌, ◌++◌, length, take, drop, slice_index, Option, Some, None, sym, refl, ap, ◌∙◌, arith, eqb-true, eq-eqb}
use Rattle.std.specs.List.{prefix_len, list_all}
use Rattle.std.specs.Char.{is_ascii_digit}
use Rattle.luau_lex.specs.declared.token.Kind.{Kind}
use Rattle.luau_lex.specs.declared.token.Kind.TheVariants.{Numeral, Quoted, Long, Whole, Begin}
use Rattle.luau_lex.specs.declared.token.LexError.{LexError}
use Rattle.luau_lex.specs.declared.token.LexError.TheVariants.{UnfinishedString, BadNumeral, DoubleBrace}
use Rattle.luau_lex.specs.declared.piece.Piece.TheVariants.{Gap, Found, Faulty}
use Rattle.luau_lex.specs.declared.piece.Open.{Open}
use Rattle.luau_lex.specs.Bytes.{backslash, bracket, dot, double_quote, single_quote, backquote, brace, closing_brace, is_blank, is_name_start, is_name_byte}
use Rattle.luau_lex.specs.Computed.Pieces.{name_kind, name_piece, numeral_piece, unless_malformed, quoted_piece, part_piece, long_len, long_of, long_piece, bracket_or_sign, part_open, closing_piece, other_piece, piece}
use Rattle.luau_lex.specs.Numerals.{begins_numeral}
use Rattle.luau_lex.specs.Computed.Numerals.{numeral_len, is_numeral}
use Rattle.luau_lex.specs.Computed.Brackets.{level, closing_place}
use Rattle.luau_lex.specs.Computed.Strings.{ends_inside, inside_len, malformed_at}
use Rattle.luau_lex.specs.Names.{is_name}
use Rattle.luau_lex.specs.Forms.{IsMarked, IsLong}
use Rattle.luau_lex.proofs.SpellingLemmas.{or_at, and_at, run_least}
use Rattle.luau_lex.proofs.LongLemmas.{opens_front, long_again}
use Rattle.luau_lex.proofs.RefuseLemmas.{marked_again}
use Rattle.luau_lex.proofs.WordLemmas.{word_longest, numeral_word}
use Rattle.luau_lex.proofs.FormLemmas.{choose, begins_with}

name_no_blank : (b : ℕ) → is_name_start b ≡ true → is_blank b ≡ false
name_no_blank b h = grind arith

digit_no_blank : (b : ℕ) → is_ascii_digit b ≡ true → is_blank b ≡ false
digit_no_blank b h = grind arith

digit_no_name : (b : ℕ) → is_ascii_digit b ≡ true → is_name_start b ≡ false
digit_no_name b h = grind arith

numeral_first : (p : ℕ → Bool) (text : List ℕ) → ((b : ℕ) → is_ascii_digit b ≡ true → p b ≡ false) → p dot ≡ false → begins_numeral text ≡ true → p (slice_index text 0) ≡ false
numeral_first p text digits dots begins =
    or_at (is_ascii_digit (slice_index text 0)) (eqb (slice_index text 0) dot && is_ascii_digit (slice_index text 1)) begins
    (digits (slice_index text 0))
    (λ h. and_at (eqb (slice_index text 0) dot) (is_ascii_digit (slice_index text 1)) h (λ first _. ap p (eqb-true _ dot first) ∙ dots))

-- what is read where a name, a numeral or a mark stands
pub at_name : (ob : Option Open) (at : ℕ) (text : List ℕ) → is_name_start (slice_index text 0) ≡ true → piece ob at text ≡ name_piece text
unfolding piece
at_name ob at text starts =
    let b = slice_index text 0 in
    let fourth = cond (eqb b double_quote || eqb b single_quote) (quoted_piece at text) (other_piece ob at text) in
    let third = cond (begins_numeral text) (numeral_piece at text) fourth in
    ap (λ t. cond t (Gap (prefix_len is_blank text)) (cond (is_name_start b) (name_piece text) third)) (name_no_blank b starts)
    ∙ ap (λ t. cond t (name_piece text) third) starts

pub at_numeral : (ob : Option Open) (at : ℕ) (text : List ℕ) → begins_numeral text ≡ true → piece ob at text ≡ numeral_piece at text
unfolding piece
at_numeral ob at text begins =
    let b = slice_index text 0 in
    let fourth = cond (eqb b double_quote || eqb b single_quote) (quoted_piece at text) (other_piece ob at text) in
    let third = cond (begins_numeral text) (numeral_piece at text) fourth in
    ap (λ t. cond t (Gap (prefix_len is_blank text)) (cond (is_name_start b) (name_piece text) third)) (numeral_first is_blank text digit_no_blank refl begins)
    ∙ ap (λ t. cond t (name_piece text) third) (numeral_first is_name_start text digit_no_name refl begins)
    ∙ ap (λ t. cond t (numeral_piece at text) fourth) begins

pub at_double : (ob : Option Open) (at : ℕ) (rest : List ℕ) → piece ob at (double_quote ∷ rest) ≡ quoted_piece at (double_quote ∷ rest)
unfolding piece
at_double ob at rest = refl

pub at_single : (ob : Option Open) (at : ℕ) (rest : List ℕ) → piece ob at (single_quote ∷ rest) ≡ quoted_piece at (single_quote ∷ rest)
unfolding piece
at_single ob at rest = refl

pub at_backquote : (ob : Option Open) (at : ℕ) (rest : List ℕ) → piece ob at (backquote ∷ rest) ≡ part_piece Whole Begin at at (backquote ∷ rest)
unfolding piece other_piece
at_backquote ob at rest = refl

pub at_closing : (ob : Option Open) (at : ℕ) (rest : List ℕ) → piece ob at (closing_brace ∷ rest) ≡ closing_piece (part_open ob) at (closing_brace ∷ rest)
unfolding piece other_piece
at_closing ob at rest = refl

pub at_bracket : (ob : Option Open) (at : ℕ) (rest : List ℕ) → piece ob at (bracket ∷ rest) ≡ bracket_or_sign (level (bracket ∷ rest)) at (bracket ∷ rest)
unfolding piece other_piece
at_bracket ob at rest = refl

-- the token that is read there is this long
pub found_len : (k kind : Kind) (n m : ℕ) → Found k n ≡ Found kind m → n ≡ m
found_len k kind n m is = cc

pub first_append : (p : ℕ → Bool) (w more : List ℕ) → p 0 ≡ false → p (slice_index w 0) ≡ true → p (slice_index (w ++ more) 0) ≡ true
first_append p [] more none h = absurd (cc)
first_append p (b ∷ w) more none h = h

pub name_bound : (ob : Option Open) (at : ℕ) (w more : List ℕ) (k : Kind) (n : ℕ) → is_name w ≡ true → piece ob at (w ++ more) ≡ Found k n → length w ≤ n
unfolding name_piece
name_bound ob at w more k n named is =
    let text = w ++ more in
    and_at (is_name_start (slice_index w 0)) (list_all is_name_byte w) named
    (λ starts all.
    let there = at_name ob at text (first_append is_name_start w more refl starts) in
    let len = found_len (name_kind (take (prefix_len is_name_byte text) text)) k (prefix_len is_name_byte text) n (sym there ∙ is) in
    omega (arith, len, run_least is_name_byte w more all))

pub begins_append : (w more : List ℕ) → begins_numeral w ≡ true → begins_numeral (w ++ more) ≡ true
begins_append [] more h = absurd (cc)
begins_append (b ∷ []) more h =
    or_at (is_ascii_digit b) (eqb b dot && is_ascii_digit 0) h
    (λ digit. ap (λ t. t || (eqb b dot && is_ascii_digit (slice_index (b ∷ more) 1))) digit)
    (λ none. and_at (eqb b dot) (is_ascii_digit 0) none (λ _ wrong. absurd (cc)))
begins_append (b ∷ c ∷ w) more h = h

pub numeral_found : (at : ℕ) (text : List ℕ) (k : Kind) (n : ℕ) → numeral_piece at text ≡ Found k n → n ≡ numeral_len text
unfolding numeral_piece
numeral_found at text k n is =
    choose (is_numeral (take (numeral_len text) text)) (Found Numeral (numeral_len text)) (Faulty (BadNumeral at)) (Found k n) is
    (λ _ same. sym (found_len Numeral k (numeral_len text) n same)) (λ _ wrong. absurd (cc))

pub numeral_bound : (ob : Option Open) (at : ℕ) (w more : List ℕ) (k : Kind) (n : ℕ) → begins_numeral w ≡ true → is_numeral w ≡ true → piece ob at (w ++ more) ≡ Found k n → length w ≤ n
numeral_bound ob at w more k n begins numeral is =
    let there = at_numeral ob at (w ++ more) (begins_append w more begins) in
    omega (arith, numeral_found at (w ++ more) k n (sym there ∙ is), word_longest w more (numeral_word w begins numeral))

-- a string whose inside ends at its mark, with no malformed escape
pub quoted_exact : (mark at : ℕ) (rest : List ℕ) → slice_index rest (inside_len mark rest) ≡ mark → malformed_at (take (inside_len mark rest) rest) ≡ None → quoted_piece at (mark ∷ rest) ≡ Found Quoted (inside_len mark rest + 2)
unfolding quoted_piece
quoted_exact mark at rest ends good =
    let n = inside_len mark rest in
    ap (λ b. cond (eqb b mark) (unless_malformed at (malformed_at (take n rest)) (Found Quoted (n + 2))) (Faulty (UnfinishedString at))) ends
    ∙ ap (λ t. cond t (unless_malformed at (malformed_at (take n rest)) (Found Quoted (n + 2))) (Faulty (UnfinishedString at))) (eq-eqb mark mark refl)
    ∙ ap (λ o. unless_malformed at o (Found Quoted (n + 2))) good

pub last_exact : (last further : Kind) (start at first : ℕ) (rest : List ℕ) → slice_index rest (inside_len backquote rest) ≡ backquote → malformed_at (take (inside_len backquote rest) rest) ≡ None → part_piece last further start at (first ∷ rest) ≡ Found last (inside_len backquote rest + 2)
unfolding part_piece
last_exact last further start at first rest ends good =
    let n = inside_len backquote rest in
    let bad = malformed_at (take n rest) in
    let inner = cond (eqb (slice_index rest (n + 1)) brace) (Faulty (DoubleBrace (at + 1 + n))) (Found further (n + 2)) in
    ap (λ b. cond (eqb b backquote) (unless_malformed at bad (Found last (n + 2))) (cond (eqb b brace) (unless_malformed at bad inner) (Faulty (UnfinishedString start)))) ends
    ∙ ap (λ o. unless_malformed at o (Found last (n + 2))) good

pub further_exact : (last further : Kind) (start at first : ℕ) (rest : List ℕ) → slice_index rest (inside_len backquote rest) ≡ brace → malformed_at (take (inside_len backquote rest) rest) ≡ None → part_piece last further start at (first ∷ rest) ≡ cond (eqb (slice_index rest (inside_len backquote rest + 1)) brace) (Faulty (DoubleBrace (at + 1 + inside_len backquote rest))) (Found further (inside_len backquote rest + 2))
unfolding part_piece
further_exact last further start at first rest ends good =
    let n = inside_len backquote rest in
    let bad = malformed_at (take n rest) in
    let inner = cond (eqb (slice_index rest (n + 1)) brace) (Faulty (DoubleBrace (at + 1 + n))) (Found further (n + 2)) in
    ap (λ b. cond (eqb b backquote) (unless_malformed at bad (Found last (n + 2))) (cond (eqb b brace) (unless_malformed at bad inner) (Faulty (UnfinishedString start)))) ends
    ∙ ap (λ o. unless_malformed at o inner) good

further_len : (t : Bool) (e : LexError) (further k : Kind) (n m : ℕ) → cond t (Faulty e) (Found further m) ≡ Found k n → n ≡ m
further_len true e further k n m is = absurd (cc)
further_len false e further k n m is = cc

-- a string is read as long as it is written
pub quoted_bound : (mark : ℕ) (ob : Option Open) (at : ℕ) (w more : List ℕ) (k : Kind) (n : ℕ) → 0 < mark → mark ≢ backslash → ends_inside mark mark ≡ true → ((rest : List ℕ) → piece ob at (mark ∷ rest) ≡ quoted_piece at (mark ∷ rest)) → IsMarked mark mark mark w → piece ob at (w ++ more) ≡ Found k n → length w ≤ n
quoted_bound mark ob at w more k n least other ends there form is =
    let text = w ++ more in
    let h = marked_again mark mark mark w more other ends form in
    let whole : text ≡ mark ∷ drop 1 text = begins_with mark text least h.0 in
    let exact = ap (piece ob at) whole ∙ there (drop 1 text) ∙ quoted_exact mark at (drop 1 text) h.2 h.3 in
    let len = found_len Quoted k (inside_len mark (drop 1 text) + 2) n (sym exact ∙ is) in
    omega (arith, len, h.1)

pub last_bound : (last further : Kind) (first start : ℕ) (ob : Option Open) (at : ℕ) (w more : List ℕ) (k : Kind) (n : ℕ) → 0 < first → ((rest : List ℕ) → piece ob at (first ∷ rest) ≡ part_piece last further start at (first ∷ rest)) → IsMarked backquote first backquote w → piece ob at (w ++ more) ≡ Found k n → length w ≤ n
unfolding ends_inside
last_bound last further first start ob at w more k n least there form is =
    let text = w ++ more in
    let h = marked_again backquote first backquote w more (λ same. omega (arith, same)) refl form in
    let whole : text ≡ first ∷ drop 1 text = begins_with first text least h.0 in
    let exact = ap (piece ob at) whole ∙ there (drop 1 text) ∙ last_exact last further start at first (drop 1 text) h.2 h.3 in
    let len = found_len last k (inside_len backquote (drop 1 text) + 2) n (sym exact ∙ is) in
    omega (arith, len, h.1)

pub further_bound : (last further : Kind) (first start : ℕ) (ob : Option Open) (at : ℕ) (w more : List ℕ) (k : Kind) (n : ℕ) → 0 < first → ((rest : List ℕ) → piece ob at (first ∷ rest) ≡ part_piece last further start at (first ∷ rest)) → IsMarked backquote first brace w → piece ob at (w ++ more) ≡ Found k n → length w ≤ n
unfolding ends_inside
further_bound last further first start ob at w more k n least there form is =
    let text = w ++ more in
    let h = marked_again backquote first brace w more (λ same. omega (arith, same)) refl form in
    let whole : text ≡ first ∷ drop 1 text = begins_with first text least h.0 in
    let exact = ap (piece ob at) whole ∙ there (drop 1 text) ∙ further_exact last further start at first (drop 1 text) h.2 h.3 in
    let len = further_len _ _ further k n (inside_len backquote (drop 1 text) + 2) (sym exact ∙ is) in
    omega (arith, len, h.1)

-- a string in long brackets
pub long_exact : (signs place at : ℕ) (rest : List ℕ) → level (bracket ∷ rest) ≡ Some signs → closing_place signs (drop (signs + 2) (bracket ∷ rest)) ≡ Some place → bracket_or_sign (level (bracket ∷ rest)) at (bracket ∷ rest) ≡ Found Long (long_len signs (signs + 2) place)
unfolding bracket_or_sign long_piece long_of
long_exact signs place at rest opens there =
    ap (λ o. bracket_or_sign o at (bracket ∷ rest)) opens ∙ ap (λ o. long_of at o signs) there

pub front_byte : (text : List ℕ) (n b : ℕ) → slice_index (take n text) 0 ≡ b → 0 < n → slice_index text 0 ≡ b
front_byte [] zero b is some = is
front_byte [] (suc n) b is some = is
front_byte (x ∷ text) zero b is some = absurd (omega arith)
front_byte (x ∷ text) (suc n) b is some = is

pub opens_byte : (text : List ℕ) (signs : ℕ) → level text ≡ Some signs → slice_index text 0 ≡ bracket
opens_byte text signs opens = front_byte text (signs + 2) bracket (ap (λ l. slice_index l 0) (opens_front signs text opens)) (omega arith)

pub long_bound : (ob : Option Open) (at signs : ℕ) (body w more : List ℕ) (k : Kind) (n : ℕ) → IsLong signs body w → piece ob at (w ++ more) ≡ Found k n → length w ≤ n
long_bound ob at signs body w more k n form is =
    let text = w ++ more in
    let h = long_again signs body w more form in
    let whole : text ≡ bracket ∷ drop 1 text = begins_with bracket text (omega arith) (opens_byte text signs h.0) in
    let opens' : level (bracket ∷ drop 1 text) ≡ Some signs = ap level (sym whole) ∙ h.0 in
    let closes' : closing_place signs (drop (signs + 2) (bracket ∷ drop 1 text)) ≡ Some (length body) = ap (λ l. closing_place signs (drop (signs + 2) l)) (sym whole) ∙ h.1 in
    let exact = ap (piece ob at) whole ∙ at_bracket ob at (drop 1 text) ∙ long_exact signs (length body) at (drop 1 text) opens' closes' in
    let len = found_len Long k (long_len signs (signs + 2) (length body)) n (sym exact ∙ is) in
    omega (arith, len, h.2)
