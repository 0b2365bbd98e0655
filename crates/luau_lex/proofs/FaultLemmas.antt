-- What stands where a text has a fault.
use Rattle.std.proofs.Common.{◌≡◌, ◌≢◌, ◌⊎◌, inl, inr, ℕ, ◌+◌, ◌<◌, ◌≤◌, true, false, ◌&&◌, ◌||◌, eqb, cond, List, [], ◌∷◌, ◌++◌, length, take, drop, slice_index, flat_map, Option, Some, None, sym, refl, ap, subst, ◌∙◌, arith, eqb-true, length-take-le}
use Rattle.std.specs.List.{prefix_len}
use Rattle.std.proofs.Math.Seq.{drop-append_seam}
use Rattle.std.proofs.lemmas.Bool.{eqb-false}
use Rattle.std.proofs.lemmas.List.{take-append-drop, drop-drop}
use Rattle.luau_lex.specs.declared.token.Kind.{Kind}
use Rattle.luau_lex.specs.declared.token.Kind.TheVariants.{Numeral, Quoted, Whole, Begin, Mid, End, Sign}
use Rattle.luau_lex.specs.declared.token.LexError.{LexError}
use Rattle.luau_lex.specs.declared.token.LexError.TheVariants.{UnfinishedString, UnfinishedComment, BadEscape, BadNumeral, StrayByte, DoubleBrace}
use Rattle.luau_lex.specs.declared.piece.Piece.{Piece}
use Rattle.luau_lex.specs.declared.piece.Piece.TheVariants.{Gap, Found, Faulty}
use Rattle.luau_lex.specs.declared.piece.Open.{Open}
use Rattle.luau_lex.specs.Bytes.{line_feed, carriage_return, bracket, closing_bracket, double_quote, single_quote, minus, backquote, brace, closing_brace, is_blank, is_name_start}
use Rattle.luau_lex.specs.Numerals.{begins_numeral}
use Rattle.luau_lex.specs.Computed.Numerals.{numeral_len, is_numeral}
use Rattle.luau_lex.specs.Computed.Signs.{sign_len}
use Rattle.luau_lex.specs.Computed.Brackets.{level, closes, closing_place}
use Rattle.luau_lex.specs.Computed.Strings.{ends_inside, inside_len, malformed_at}
use Rattle.luau_lex.specs.Spellings.{written}
use Rattle.luau_lex.specs.Computed.Pieces.{name_piece, numeral_piece, unless_malformed, quoted_piece, part_piece, long_of, long_piece, long_comment_of, comment_of, comment_piece, sign_piece, bracket_or_sign, part_open, innermost, closing_piece, other_piece, piece}
use Rattle.luau_lex.specs.Forms.{bracket_of}
use Rattle.luau_lex.specs.Braces.{string_open}
use Rattle.luau_lex.specs.LongestTokens.{NoLongerWord}
use Rattle.luau_lex.specs.Faults.{BeginsNothing, NeverCloses, BeginsString, HasInside, EndsString, BreaksOff, IsFault}
use Rattle.luau_lex.proofs.BracketLemmas.{closes_never}
use Rattle.luau_lex.proofs.SignLemmas.{sign_missing}
use Rattle.luau_lex.proofs.SpellingLemmas.{or_at, and_at}
use Rattle.luau_lex.proofs.InsideLemmas.{or_false, Inside, inside_spelled, inside_front, inside_end, inside_left}
use Rattle.luau_lex.proofs.MeaningLemmas.{narrow_all, malformed_spelled, none_malformed, first_malformed}
use Rattle.luau_lex.proofs.LongLemmas.{opens_front, closes_bracket}
use Rattle.luau_lex.proofs.WordLemmas.{word_longest, word_there}
use Rattle.luau_lex.proofs.FormLemmas.{choose, begins_with, begins_front, digits_most}
use Rattle.luau_lex.proofs.ExistLemmas.{numeral_len_within, two_minus}
use Rattle.luau_lex.proofs.NumeralLemmas.{numeral_is_read}
use Rattle.luau_lex.proofs.TokenLemmas.{outward, innermost_is}

-- a fault, told of an equal one
fault_at : (opens : List Open) (at : ℕ) (text : List ℕ) (d e : LexError) → Faulty d ≡ Faulty e → IsFault opens at text d → IsFault opens at text e
fault_at opens at text d e is h = let same : d ≡ e = cc in subst (IsFault opens at text) same h

-- numerals
no_longer_there : (text : List ℕ) → NoLongerWord text (numeral_len text)
no_longer_there text m longer fits word =
    omega (arith, word_longest (take m text) (drop m text) word, ap numeral_len (take-append-drop m text), length-take-le m text fits, longer)

numeral_fault : (opens : List Open) (at : ℕ) (text : List ℕ) (e : LexError) → begins_numeral text ≡ true → numeral_piece at text ≡ Faulty e → IsFault opens at text e
unfolding numeral_piece
numeral_fault opens at text e begins is =
    let n = numeral_len text in
    choose (is_numeral (take n text)) (Found Numeral n) (Faulty (BadNumeral at)) (Faulty e) is
    (λ _ wrong. absurd (cc))
    (λ none same. fault_at opens at text (BadNumeral at) e same
    (refl, n, numeral_len_within text, word_there text begins (begins_front text n (digits_most text) begins), no_longer_there text, λ form. let wrong = (numeral_is_read (take n text) form).1 in cc))

-- strings between marks
unless_fault : {C : Type 0} (at : ℕ) (o : Option ℕ) (p : Piece) (e : LexError) → unless_malformed at o p ≡ Faulty e → (o ≡ None → p ≡ Faulty e → C) → ((k : ℕ) → o ≡ Some k → Faulty (BadEscape (at + 1 + k)) ≡ Faulty e → C) → C
unless_fault at None p e is f g = f refl is
unless_fault at (Some k) p e is f g = g k refl is

has_inside : (opens : List Open) (at mark first start : ℕ) (rest : List ℕ) (r : Inside mark rest) → BeginsString opens at mark first start → HasInside opens at (first ∷ rest) mark start r.inside r.behind
has_inside opens at mark first start rest r begins = (first, begins, ap (λ l. first ∷ l) r.whole, r.spells)

ended : (opens : List Open) (at mark first start last : ℕ) (rest : List ℕ) (r : Inside mark rest) → BeginsString opens at mark first start → 0 < last → slice_index rest (inside_len mark rest) ≡ last → HasInside opens at (first ∷ rest) mark start r.inside (last ∷ drop 1 r.behind)
ended opens at mark first start last rest r begins least is =
    let behind : r.behind ≡ last ∷ drop 1 r.behind = begins_with last r.behind least (inside_end mark rest r ∙ is) in
    subst (HasInside opens at (first ∷ rest) mark start r.inside) behind (has_inside opens at mark first start rest r begins)

place_of : (mark : ℕ) (rest : List ℕ) (r : Inside mark rest) → malformed_at (take (inside_len mark rest) rest) ≡ malformed_at (flat_map written r.inside)
place_of mark rest r = ap malformed_at (inside_front mark rest r)

bad_escape : (opens : List Open) (at mark first start last k : ℕ) (rest : List ℕ) → BeginsString opens at mark first start → 0 < last → EndsString mark last → slice_index rest (inside_len mark rest) ≡ last → malformed_at (take (inside_len mark rest) rest) ≡ Some k → IsFault opens at (first ∷ rest) (BadEscape (at + 1 + k))
bad_escape opens at mark first start last k rest begins least ends is bad =
    let r = inside_spelled mark rest in
    let there = sym (malformed_spelled mark r.inside (narrow_all mark r.inside [] r.behind r.spells)) ∙ sym (place_of mark rest r) ∙ bad in
    let f = first_malformed r.inside k there in
    let opened = ended opens at mark first start last rest r begins least is in (
      mark,
      start,
      last,
      f.before,
      f.here,
      f.after,
      drop 1 r.behind,
      subst (λ i. HasInside opens at (first ∷ rest) mark start i (last ∷ drop 1 r.behind)) f.whole opened,
      ends,
      f.good,
      f.bad,
      ap (λ n. at + 1 + n) f.place,
    )

line_or_return : (mark c : ℕ) → ends_inside mark c ≡ true → c ≢ mark → (mark ≡ backquote → c ≢ brace) → (c ≡ line_feed) ⊎ (c ≡ carriage_return)
unfolding ends_inside
line_or_return mark c ends no_mark no_brace =
    or_at (eqb c mark) (eqb c line_feed || (eqb c carriage_return || (eqb mark backquote && eqb c brace))) ends
    (λ h. absurd (no_mark (eqb-true c mark h)))
    (λ h. or_at (eqb c line_feed) (eqb c carriage_return || (eqb mark backquote && eqb c brace)) h
    (λ feed. inl (eqb-true c line_feed feed))
    (λ h'. or_at (eqb c carriage_return) (eqb mark backquote && eqb c brace) h'
    (λ return. inr (eqb-true c carriage_return return))
    (λ h''. and_at (eqb mark backquote) (eqb c brace) h'' (λ is braced. absurd (no_brace (eqb-true mark backquote is) (eqb-true c brace braced))))))

unfinished : (opens : List Open) (at mark first start : ℕ) (rest : List ℕ) → BeginsString opens at mark first start → slice_index rest (inside_len mark rest) ≢ mark → (mark ≡ backquote → slice_index rest (inside_len mark rest) ≢ brace) → IsFault opens at (first ∷ rest) (UnfinishedString start)
unfinished opens at mark first start rest begins no_mark no_brace =
    let r = inside_spelled mark rest in
    let next = inside_end mark rest r in
    let breaks : BreaksOff r.behind = elim r.ends [
      | inl none ↦ inl none
      | inr ends ↦ inr (line_or_return mark (slice_index r.behind 0) ends (λ same. no_mark (sym next ∙ same)) (λ is same. no_brace is (sym next ∙ same)))
    ] in
    inr (mark, r.inside, r.behind, has_inside opens at mark first start rest r begins, breaks)

quoted_fault : (opens : List Open) (at mark : ℕ) (rest : List ℕ) (e : LexError) → (mark ≡ double_quote) ⊎ (mark ≡ single_quote) → quoted_piece at (mark ∷ rest) ≡ Faulty e → IsFault opens at (mark ∷ rest) e
unfolding quoted_piece
quoted_fault opens at mark rest e quote is =
    let m = inside_len mark rest in
    let bad = malformed_at (take m rest) in
    let begins : BeginsString opens at mark mark at = inl (refl, refl, elim quote [ inl double ↦ inl double | inr single ↦ inr (inl single) ]) in
    let some : 0 < mark = elim quote [ inl double ↦ omega arith | inr single ↦ omega arith ] in
    choose (eqb (slice_index rest m) mark) (unless_malformed at bad (Found Quoted (m + 2))) (Faulty (UnfinishedString at)) (Faulty e) is
    (λ ends found. unless_fault at bad (Found Quoted (m + 2)) e found (λ _ wrong. absurd (cc))
    (λ k there same. fault_at opens at (mark ∷ rest) (BadEscape (at + 1 + k)) e same (bad_escape opens at mark mark at mark k rest begins some (inl refl) (eqb-true _ mark ends) there)))
    (λ other same. fault_at opens at (mark ∷ rest) (UnfinishedString at) e same
    (unfinished opens at mark mark at rest begins (eqb-false _ mark other) (λ is. absurd (elim quote [ inl double ↦ omega arith | inr single ↦ omega arith ]))))

second_byte : (text : List ℕ) → slice_index (drop 1 text) 0 ≡ slice_index text 1
second_byte [] = refl
second_byte (x ∷ text) = refl

double_brace : (opens : List Open) (at first start : ℕ) (rest : List ℕ) → BeginsString opens at backquote first start → slice_index rest (inside_len backquote rest) ≡ brace → slice_index rest (inside_len backquote rest + 1) ≡ brace → malformed_at (take (inside_len backquote rest) rest) ≡ None → IsFault opens at (first ∷ rest) (DoubleBrace (at + 1 + inside_len backquote rest))
double_brace opens at first start rest begins one two good =
    let r = inside_spelled backquote rest in
    let opened = ended opens at backquote first start brace rest r begins (omega arith) one in
    let left = drop 1 r.behind in
    let next : slice_index left 0 ≡ brace = second_byte r.behind ∙ inside_left backquote rest r 1 ∙ two in
    let again : left ≡ brace ∷ drop 1 left = begins_with brace left (omega arith) next in
    let none = sym (malformed_spelled backquote r.inside (narrow_all backquote r.inside [] r.behind r.spells)) ∙ sym (place_of backquote rest r) ∙ good in (
      start,
      r.inside,
      drop 1 left,
      subst (λ l. HasInside opens at (first ∷ rest) backquote start r.inside (brace ∷ l)) again opened,
      none_malformed r.inside none,
      ap (λ n. at + 1 + n) r.len,
    )

part_fault : (opens : List Open) (last further : Kind) (at first start : ℕ) (rest : List ℕ) (e : LexError) → BeginsString opens at backquote first start → part_piece last further start at (first ∷ rest) ≡ Faulty e → IsFault opens at (first ∷ rest) e
unfolding part_piece
part_fault opens last further at first start rest e begins is =
    let m = inside_len backquote rest in
    let bad = malformed_at (take m rest) in
    let double = eqb (slice_index rest (m + 1)) brace in
    let inner = cond double (Faulty (DoubleBrace (at + 1 + m))) (Found further (m + 2)) in
    let text = first ∷ rest in
    choose (eqb (slice_index rest m) backquote) (unless_malformed at bad (Found last (m + 2))) (cond (eqb (slice_index rest m) brace) (unless_malformed at bad inner) (Faulty (UnfinishedString start))) (Faulty e) is
    (λ ends found. unless_fault at bad (Found last (m + 2)) e found (λ _ wrong. absurd (cc))
    (λ k there same. fault_at opens at text (BadEscape (at + 1 + k)) e same (bad_escape opens at backquote first start backquote k rest begins (omega arith) (inl refl) (eqb-true _ backquote ends) there)))
    (λ other more. choose (eqb (slice_index rest m) brace) (unless_malformed at bad inner) (Faulty (UnfinishedString start)) (Faulty e) more
    (λ ends found. unless_fault at bad inner e found
    (λ good found'. choose double (Faulty (DoubleBrace (at + 1 + m))) (Found further (m + 2)) (Faulty e) found'
    (λ two same. fault_at opens at text (DoubleBrace (at + 1 + m)) e same (double_brace opens at first start rest begins (eqb-true _ brace ends) (eqb-true _ brace two) good))
    (λ _ wrong. absurd (cc)))
    (λ k there same. fault_at opens at text (BadEscape (at + 1 + k)) e same (bad_escape opens at backquote first start brace k rest begins (omega arith) (inr (refl, refl)) (eqb-true _ brace ends) there)))
    (λ none same. fault_at opens at text (UnfinishedString start) e same (unfinished opens at backquote first start rest begins (eqb-false _ backquote other) (λ _. eqb-false _ brace none))))

-- long brackets
never_closes : (signs : ℕ) (text : List ℕ) → closing_place signs text ≡ None → NeverCloses signs text
never_closes signs text none before behind is =
    let here : closes signs (drop (length before) text) ≡ true =
    ap (λ l. closes signs (drop (length before) l)) is ∙ ap (closes signs) (drop-append_seam before (bracket_of closing_bracket signs ++ behind)) ∙ closes_bracket signs behind in
    let never = closes_never signs (length before) text none in
    cc

pub opened_whole : (signs : ℕ) (text : List ℕ) → level text ≡ Some signs → text ≡ bracket_of bracket signs ++ drop (signs + 2) text
opened_whole signs text opens = sym (take-append-drop (signs + 2) text) ∙ ap (λ l. l ++ drop (signs + 2) text) (opens_front signs text opens)

long_fault : (opens : List Open) (o : Option ℕ) (at signs : ℕ) (text : List ℕ) (e : LexError) → level text ≡ Some signs → closing_place signs (drop (signs + 2) text) ≡ o → long_of at o signs ≡ Faulty e → IsFault opens at text e
unfolding long_of
long_fault opens None at signs text e begins there is =
    fault_at opens at text (UnfinishedString at) e is (inl (refl, signs, drop (signs + 2) text, opened_whole signs text begins, never_closes signs (drop (signs + 2) text) there))
long_fault opens (Some place) at signs text e begins there is = absurd (cc)

two_first : (text : List ℕ) → 2 ≤ length text → slice_index text 0 ≡ minus → slice_index text 1 ≡ minus → text ≡ minus ∷ minus ∷ drop 2 text
two_first [] two a b = absurd (omega arith)
two_first (x ∷ []) two a b = absurd (omega arith)
two_first (x ∷ y ∷ text) two a b = ap (λ k. k ∷ y ∷ text) a ∙ ap (λ k. minus ∷ k ∷ text) b

long_comment_fault : (opens : List Open) (o : Option ℕ) (at signs : ℕ) (text : List ℕ) (e : LexError) → text ≡ minus ∷ minus ∷ drop 2 text → level (drop 2 text) ≡ Some signs → closing_place signs (drop (signs + 4) text) ≡ o → long_comment_of at o signs ≡ Faulty e → IsFault opens at text e
unfolding long_comment_of
long_comment_fault opens None at signs text e whole begins there is =
    let line = drop 2 text in
    let far : 2 + (signs + 2) ≡ signs + 4 = omega arith in
    let same : drop (signs + 2) line ≡ drop (signs + 4) text = drop-drop (signs + 2) 2 text ∙ ap (λ k. drop k text) far in
    fault_at opens at text (UnfinishedComment at) e is
    (refl, signs, drop (signs + 2) line, whole ∙ ap (λ l. minus ∷ minus ∷ l) (opened_whole signs line begins), never_closes signs (drop (signs + 2) line) (ap (closing_place signs) same ∙ there))
long_comment_fault opens (Some place) at signs text e whole begins there is = absurd (cc)

comment_fault : (opens : List Open) (o : Option ℕ) (at : ℕ) (text : List ℕ) (e : LexError) → text ≡ minus ∷ minus ∷ drop 2 text → level (drop 2 text) ≡ o → comment_of o at text ≡ Faulty e → IsFault opens at text e
unfolding comment_of
comment_fault opens None at text e whole begins is = absurd (cc)
comment_fault opens (Some signs) at text e whole begins is = long_comment_fault opens (closing_place signs (drop (signs + 4) text)) at signs text e whole begins refl is

-- signs
sign_fault : (opens : List Open) (at : ℕ) (text : List ℕ) (e : LexError) → sign_piece at text ≡ Faulty e → ((sign_len text ≡ 0) → BeginsNothing text) → IsFault opens at text e
unfolding sign_piece
sign_fault opens at text e is nothing =
    choose (eqb (sign_len text) 0) (Faulty (StrayByte at)) (Found Sign (sign_len text)) (Faulty e) is
    (λ none same. fault_at opens at text (StrayByte at) e same (refl, nothing (eqb-true _ 0 none)))
    (λ _ wrong. absurd (cc))

nothing : (text : List ℕ) → 0 < length text → is_blank (slice_index text 0) ≡ false → is_name_start (slice_index text 0) ≡ false → begins_numeral text ≡ false → (eqb (slice_index text 0) double_quote || eqb (slice_index text 0) single_quote) ≡ false → eqb (slice_index text 0) backquote ≡ false → sign_len text ≡ 0 → BeginsNothing text
nothing text some blank name numeral quote back none =
    let b = slice_index text 0 in
    record {
      some = some;
      no_blank = blank;
      no_name = name;
      no_numeral = numeral;
      no_double_quote = or_false (eqb b double_quote) (eqb b single_quote) quote (λ h _. eqb-false b double_quote h);
      no_single_quote = or_false (eqb b double_quote) (eqb b single_quote) quote (λ _ h. eqb-false b single_quote h);
      no_backquote = eqb-false b backquote back;
      no_sign = λ m least fits. sign_missing text m none least fits;
    }

bracket_fault : (opens : List Open) (o : Option ℕ) (at : ℕ) (text : List ℕ) (e : LexError) → level text ≡ o → bracket_or_sign o at text ≡ Faulty e → (sign_len text ≡ 0 → BeginsNothing text) → IsFault opens at text e
unfolding bracket_or_sign long_piece
bracket_fault opens None at text e begins is none = sign_fault opens at text e is none
bracket_fault opens (Some signs) at text e begins is none = long_fault opens (closing_place signs (drop (signs + 2) text)) at signs text e begins refl is

closing_fault : (braces : List Open) (o : Option ℕ) (at : ℕ) (text : List ℕ) (e : LexError) → string_open braces ≡ o → slice_index text 0 ≡ closing_brace → closing_piece o at text ≡ Faulty e → (sign_len text ≡ 0 → BeginsNothing text) → IsFault braces at text e
unfolding closing_piece
closing_fault braces None at text e within first is none = sign_fault braces at text e is none
closing_fault braces (Some start) at text e within first is none =
    let whole : text ≡ closing_brace ∷ drop 1 text = begins_with closing_brace text (omega arith) first in
    subst (λ l. IsFault braces at l e) (sym whole)
    (part_fault braces End Mid at closing_brace start (drop 1 text) e (inr (refl, refl, within)) (ap (part_piece End Mid start at) (sym whole) ∙ is))

other_fault : (braces : List Open) (ob : Option Open) (at : ℕ) (text : List ℕ) (e : LexError) → string_open braces ≡ part_open ob → 0 < length text → (eqb (slice_index text 0) backquote ≡ false → sign_len text ≡ 0 → BeginsNothing text) → other_piece ob at text ≡ Faulty e → IsFault braces at text e
unfolding other_piece comment_piece
other_fault braces ob at text e within some none is =
    let b = slice_index text 0 in
    let comment = comment_of (level (drop 2 text)) at text in
    let begins = eqb b minus && eqb (slice_index text 1) minus in
    let last = bracket_or_sign (level text) at text in
    let third = cond begins comment last in
    let second = cond (eqb b closing_brace) (closing_piece (part_open ob) at text) third in
    choose (eqb b backquote) (part_piece Whole Begin at at text) second (Faulty e) is
    (λ first found.
    let whole : text ≡ backquote ∷ drop 1 text = begins_with backquote text (omega arith) (eqb-true b backquote first) in
    subst (λ l. IsFault braces at l e) (sym whole)
    (part_fault braces Whole Begin at backquote at (drop 1 text) e (inl (refl, refl, inr (inr refl))) (ap (part_piece Whole Begin at at) (sym whole) ∙ found)))
    (λ back more. choose (eqb b closing_brace) (closing_piece (part_open ob) at text) third (Faulty e) more
    (λ first found. closing_fault braces (part_open ob) at text e within (eqb-true b closing_brace first) found (none back))
    (λ _ more'. choose begins comment last (Faulty e) more'
    (λ opens found. and_at (eqb b minus) (eqb (slice_index text 1) minus) opens
    (λ first second. comment_fault braces (level (drop 2 text)) at text e (two_first text (two_minus text (eqb-true _ minus second)) (eqb-true b minus first) (eqb-true _ minus second)) refl found))
    (λ _ found. bracket_fault braces (level text) at text e refl found (none back))))

name_no_fault : {C : Type 0} (text : List ℕ) (e : LexError) → name_piece text ≡ Faulty e → C
unfolding name_piece
name_no_fault text e is = absurd (cc)

pub front_whole : (text : List ℕ) → 0 < length text → text ≡ slice_index text 0 ∷ drop 1 text
front_whole [] some = absurd (omega arith)
front_whole (x ∷ text) some = refl

-- a fault at the front is what the rules name
pub piece_fault : (braces : List Open) (at : ℕ) (text : List ℕ) (e : LexError) → 0 < length text → piece (innermost (outward braces)) at text ≡ Faulty e → IsFault braces at text e
unfolding piece
piece_fault braces at text e some is =
    let ob = innermost (outward braces) in
    let b = slice_index text 0 in
    let quote = eqb b double_quote || eqb b single_quote in
    let other = other_piece ob at text in
    let fourth = cond quote (quoted_piece at text) other in
    let third = cond (begins_numeral text) (numeral_piece at text) fourth in
    let second = cond (is_name_start b) (name_piece text) third in
    choose (is_blank b) (Gap (prefix_len is_blank text)) second (Faulty e) is
    (λ _ wrong. absurd (cc))
    (λ blank more. choose (is_name_start b) (name_piece text) third (Faulty e) more
    (λ _ found. name_no_fault text e found)
    (λ name more'. choose (begins_numeral text) (numeral_piece at text) fourth (Faulty e) more'
    (λ begins found. numeral_fault braces at text e begins found)
    (λ numeral more''. choose quote (quoted_piece at text) other (Faulty e) more''
    (λ marks found.
    let whole = front_whole text some in
    let which : (b ≡ double_quote) ⊎ (b ≡ single_quote) = or_at (eqb b double_quote) (eqb b single_quote) marks (λ h. inl (eqb-true b double_quote h)) (λ h. inr (eqb-true b single_quote h)) in
    subst (λ l. IsFault braces at l e) (sym whole) (quoted_fault braces at b (drop 1 text) e which (ap (quoted_piece at) (sym whole) ∙ found)))
    (λ mark found. other_fault braces ob at text e (sym (innermost_is braces)) some (nothing text some blank name numeral mark) found))))
