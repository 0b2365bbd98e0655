-- A fault that stands at a place is the one that is read there.
use Rattle.std.proofs.Common.{◌≡◌, ◌≢◌, ◌⊎◌, inl, inr, ℕ, suc, ◌+◌, ◌<◌, ◌≤◌, true, false, ◌&&◌, ◌||◌, eqb, cond, List, [], ◌∷◌, ◌++◌, length, take, drop, slice_index, flat_map, Option, Some, None, option_map, is_some, sym, refl, ap, subst, ◌∙◌, arith, ne_eqb, eq-eqb, length-append, length-take-le}
use Rattle.std.specs.List.{prefix_len}
use Rattle.std.proofs.str.Laws.{order}
use Rattle.std.proofs.Math.Seq.{take-append_seam, drop-append_seam}
use Rattle.std.proofs.lemmas.List.{take-append-drop, get_or-append-add}
use Rattle.luau_lex.specs.declared.token.Kind.{Kind}
use Rattle.luau_lex.specs.declared.token.Kind.TheVariants.{Numeral, Quoted, Whole, Begin, Mid, End, Sign}
use Rattle.luau_lex.specs.declared.token.LexError.{LexError}
use Rattle.luau_lex.specs.declared.token.LexError.TheVariants.{UnfinishedString, UnfinishedComment, BadEscape, BadNumeral, StrayByte, DoubleBrace, NoMemory}
use Rattle.luau_lex.specs.declared.piece.Piece.TheVariants.{Gap, Found, Faulty}
use Rattle.luau_lex.specs.declared.piece.Open.{Open}
use Rattle.luau_lex.specs.Bytes.{line_feed, carriage_return, backslash, double_quote, single_quote, minus, bracket, backquote, brace, closing_brace, is_blank, is_name_start}
use Rattle.luau_lex.specs.Numerals.{begins_numeral, IsNumeral, IsNumeralWord}
use Rattle.luau_lex.specs.Signs.{is_sign}
use Rattle.luau_lex.specs.Spellings.{Spelling, written, stands_for, AreSpellings, are_well_formed}
use Rattle.luau_lex.specs.Forms.{bracket_of}
use Rattle.luau_lex.specs.LongestTokens.{NoLongerWord}
use Rattle.luau_lex.specs.Faults.{BeginsNothing, NeverCloses, BeginsString, EndsString, BreaksOff, IsFault}
use Rattle.luau_lex.specs.Computed.Numerals.{numeral_len, is_numeral}
use Rattle.luau_lex.specs.Computed.Signs.{sign_len}
use Rattle.luau_lex.specs.Computed.Brackets.{closes, closing_place}
use Rattle.luau_lex.specs.Computed.Strings.{ends_inside, inside_len, malformed_at}
use Rattle.luau_lex.specs.Computed.Pieces.{name_piece, numeral_piece, unless_malformed, quoted_piece, part_piece, long_of, long_piece, long_comment_of, comment_of, sign_piece, bracket_or_sign, innermost, other_piece, piece}
use Rattle.luau_lex.proofs.LongestLemmas.{Longest}
use Rattle.luau_lex.proofs.BracketLemmas.{closing_missing}
use Rattle.luau_lex.proofs.SignLemmas.{sign_longest}
use Rattle.luau_lex.proofs.SpellingLemmas.{and_at}
use Rattle.luau_lex.proofs.InsideLemmas.{inside_again}
use Rattle.luau_lex.proofs.MeaningLemmas.{narrow_all, malformed_place, malformed_spelled, well_formed_none}
use Rattle.luau_lex.proofs.LongLemmas.{bracket_len, level_bracket, closes_front}
use Rattle.luau_lex.proofs.WordLemmas.{word_longest, word_there}
use Rattle.luau_lex.proofs.FormLemmas.{or_right, begins_front, digits_most}
use Rattle.luau_lex.proofs.NumeralLemmas.{numeral_form_is}
use Rattle.luau_lex.proofs.ExistLemmas.{numeral_len_within}
use Rattle.luau_lex.proofs.PlaceLemmas.{at_numeral, at_double, at_single, at_backquote, at_bracket, begins_append}
use Rattle.luau_lex.proofs.LongestTokenLemmas.{closing_start}
use Rattle.luau_lex.proofs.TokenLemmas.{outward, innermost_is, at_comment}
use Rattle.luau_lex.proofs.WithinLemmas.{fault_some}
use Rattle.luau_lex.proofs.ExactLemmas.{false_of, no_more, other_is_sign}

-- bytes that begin nothing
no_sign_at : (text : List ℕ) (k : ℕ) → BeginsNothing text → is_sign (k ∷ []) ≡ true → slice_index text 0 ≢ k
no_sign_at [] k h sign first = omega (arith, h.some)
no_sign_at (x ∷ text) k h sign first =
    let none = h.no_sign 1 (omega arith) (omega arith) in
    let there : is_sign (x ∷ []) ≡ true = ap (λ b. is_sign (b ∷ [])) first ∙ sign in
    cc

no_sign_len : (text : List ℕ) → BeginsNothing text → sign_len text ≡ 0
no_sign_len text h =
    elim (order 0 (sign_len text)) [
      | inl some ↦ absurd (let best : Longest is_sign text (sign_len text) = sign_longest text some in
          let none = h.no_sign (sign_len text) some best.within in
          let whole = best.whole in cc)
      | inr zeroth ↦ omega (arith, zeroth)
    ]

sign_none : (at : ℕ) (text : List ℕ) → sign_len text ≡ 0 → sign_piece at text ≡ Faulty (StrayByte at)
unfolding sign_piece
sign_none at text none = ap (λ k. cond (eqb k 0) (Faulty (StrayByte at)) (Found Sign k)) none

stray_there : (ob : Option Open) (at : ℕ) (text : List ℕ) → BeginsNothing text → piece ob at text ≡ Faulty (StrayByte at)
unfolding piece
stray_there ob at text h =
    let a = slice_index text 0 in
    let other = other_piece ob at text in
    let fourth = cond (eqb a double_quote || eqb a single_quote) (quoted_piece at text) other in
    let third = cond (begins_numeral text) (numeral_piece at text) fourth in
    ap (λ t. cond t (Gap (prefix_len is_blank text)) (cond (is_name_start a) (name_piece text) third)) h.no_blank
    ∙ ap (λ t. cond t (name_piece text) third) h.no_name
    ∙ ap (λ t. cond t (numeral_piece at text) fourth) h.no_numeral
    ∙ ap (λ t. cond (t || eqb a single_quote) (quoted_piece at text) other) (ne_eqb a double_quote h.no_double_quote)
    ∙ ap (λ t. cond t (quoted_piece at text) other) (ne_eqb a single_quote h.no_single_quote)
    ∙ other_is_sign ob at text (ne_eqb a backquote h.no_backquote)
    (λ closes. absurd (no_sign_at text closing_brace h refl closes))
    (λ behind is. no_sign_at text minus h refl (ap (λ l. slice_index l 0) is))
    (λ signs behind is. no_sign_at text bracket h refl (ap (λ l. slice_index l 0) is))
    ∙ sign_none at text (no_sign_len text h)

-- a word that looks like a numeral and is none
numeral_bad : (ob : Option Open) (at n : ℕ) (text : List ℕ) → n ≤ length text → IsNumeralWord (take n text) → NoLongerWord text n → (IsNumeral (take n text) → ⊥) → piece ob at text ≡ Faulty (BadNumeral at)
unfolding numeral_piece
numeral_bad ob at n text fits word longer none =
    let whole = take-append-drop n text in
    let m = numeral_len text in
    let begins : begins_numeral text ≡ true = ap begins_numeral (sym whole) ∙ begins_append (take n text) (drop n text) word.4 in
    let least : n ≤ m = omega (arith, word_longest (take n text) (drop n text) word, ap numeral_len whole, length-take-le n text fits) in
    let same : m ≡ n = no_more n m least (λ lt. longer m lt (numeral_len_within text) (word_there text begins (begins_front text m (digits_most text) begins))) in
    let bad : is_numeral (take n text) ≡ false = false_of (is_numeral (take n text)) (λ is. none (numeral_form_is (take n text) word.4 is)) in
    at_numeral ob at text begins
    ∙ ap (λ k. cond (is_numeral (take k text)) (Found Numeral k) (Faulty (BadNumeral at))) same
    ∙ ap (λ t. cond t (Found Numeral n) (Faulty (BadNumeral at))) bad

-- a bracket that is never closed
never_found : (signs : ℕ) (text : List ℕ) → NeverCloses signs text → closing_place signs text ≡ None
never_found signs text never =
    closing_missing signs text
    (λ k short. false_of (closes signs (drop k text))
    (λ there. never (take k text) (drop (signs + 2) (drop k text))
    (sym (take-append-drop k text)
    ∙ ap (λ l. take k text ++ l) (sym (take-append-drop (signs + 2) (drop k text)) ∙ ap (λ l. l ++ drop (signs + 2) (drop k text)) (closes_front signs (drop k text) there)))))

behind_bracket : (signs : ℕ) (behind : List ℕ) → drop (signs + 2) (bracket_of bracket signs ++ behind) ≡ behind
behind_bracket signs behind =
    ap (λ k. drop k (bracket_of bracket signs ++ behind)) (sym (bracket_len bracket signs)) ∙ drop-append_seam (bracket_of bracket signs) behind

long_bad : (ob : Option Open) (at signs : ℕ) (behind : List ℕ) → NeverCloses signs behind → piece ob at (bracket_of bracket signs ++ behind) ≡ Faulty (UnfinishedString at)
unfolding bracket_or_sign long_piece long_of
long_bad ob at signs behind never =
    let text = bracket_of bracket signs ++ behind in
    at_bracket ob at (drop 1 text)
    ∙ ap (λ o. bracket_or_sign o at text) (level_bracket signs behind)
    ∙ ap (λ o. long_of at o signs) (ap (closing_place signs) (behind_bracket signs behind) ∙ never_found signs behind never)

two_more : (n : ℕ) → n + 4 ≡ suc (suc (n + 2))
two_more n = omega arith

behind_two : (n : ℕ) (line : List ℕ) → drop (n + 4) (minus ∷ minus ∷ line) ≡ drop (n + 2) line
behind_two n line = ap (λ k. drop k (minus ∷ minus ∷ line)) (two_more n)

comment_bad : (ob : Option Open) (at signs : ℕ) (behind : List ℕ) → NeverCloses signs behind → piece ob at (minus ∷ minus ∷ (bracket_of bracket signs ++ behind)) ≡ Faulty (UnfinishedComment at)
unfolding comment_of long_comment_of
comment_bad ob at signs behind never =
    let line = bracket_of bracket signs ++ behind in
    let text = minus ∷ minus ∷ line in
    at_comment ob at line
    ∙ ap (λ o. comment_of o at text) (level_bracket signs behind)
    ∙ ap (λ o. long_comment_of at o signs) (ap (closing_place signs) (behind_two signs line ∙ behind_bracket signs behind) ∙ never_found signs behind never)

-- strings between marks
quoted_unfinished : (mark at : ℕ) (rest : List ℕ) → slice_index rest (inside_len mark rest) ≢ mark → quoted_piece at (mark ∷ rest) ≡ Faulty (UnfinishedString at)
unfolding quoted_piece
quoted_unfinished mark at rest other =
    let n = inside_len mark rest in
    ap (λ t. cond t (unless_malformed at (malformed_at (take n rest)) (Found Quoted (n + 2))) (Faulty (UnfinishedString at))) (ne_eqb (slice_index rest n) mark other)

quoted_bad : (mark at k : ℕ) (rest : List ℕ) → slice_index rest (inside_len mark rest) ≡ mark → malformed_at (take (inside_len mark rest) rest) ≡ Some k → quoted_piece at (mark ∷ rest) ≡ Faulty (BadEscape (at + 1 + k))
unfolding quoted_piece
quoted_bad mark at k rest ends bad =
    let n = inside_len mark rest in
    ap (λ t. cond t (unless_malformed at (malformed_at (take n rest)) (Found Quoted (n + 2))) (Faulty (UnfinishedString at))) (eq-eqb (slice_index rest n) mark ends)
    ∙ ap (λ o. unless_malformed at o (Found Quoted (n + 2))) bad

part_unfinished : (last further : Kind) (start at first : ℕ) (rest : List ℕ) → slice_index rest (inside_len backquote rest) ≢ backquote → slice_index rest (inside_len backquote rest) ≢ brace → part_piece last further start at (first ∷ rest) ≡ Faulty (UnfinishedString start)
unfolding part_piece
part_unfinished last further start at first rest no_mark no_brace =
    let n = inside_len backquote rest in
    let c = slice_index rest n in
    let bad = malformed_at (take n rest) in
    let inner = cond (eqb (slice_index rest (n + 1)) brace) (Faulty (DoubleBrace (at + 1 + n))) (Found further (n + 2)) in
    ap (λ t. cond t (unless_malformed at bad (Found last (n + 2))) (cond (eqb c brace) (unless_malformed at bad inner) (Faulty (UnfinishedString start)))) (ne_eqb c backquote no_mark)
    ∙ ap (λ t. cond t (unless_malformed at bad inner) (Faulty (UnfinishedString start))) (ne_eqb c brace no_brace)

part_bad_last : (last further : Kind) (start at first k : ℕ) (rest : List ℕ) → slice_index rest (inside_len backquote rest) ≡ backquote → malformed_at (take (inside_len backquote rest) rest) ≡ Some k → part_piece last further start at (first ∷ rest) ≡ Faulty (BadEscape (at + 1 + k))
unfolding part_piece
part_bad_last last further start at first k rest ends there =
    let n = inside_len backquote rest in
    let bad = malformed_at (take n rest) in
    let inner = cond (eqb (slice_index rest (n + 1)) brace) (Faulty (DoubleBrace (at + 1 + n))) (Found further (n + 2)) in
    ap (λ b. cond (eqb b backquote) (unless_malformed at bad (Found last (n + 2))) (cond (eqb b brace) (unless_malformed at bad inner) (Faulty (UnfinishedString start)))) ends
    ∙ ap (λ o. unless_malformed at o (Found last (n + 2))) there

part_brace : (last further : Kind) (start at first : ℕ) (o : Option ℕ) (rest : List ℕ) → slice_index rest (inside_len backquote rest) ≡ brace → malformed_at (take (inside_len backquote rest) rest) ≡ o → part_piece last further start at (first ∷ rest) ≡ unless_malformed at o (cond (eqb (slice_index rest (inside_len backquote rest + 1)) brace) (Faulty (DoubleBrace (at + 1 + inside_len backquote rest))) (Found further (inside_len backquote rest + 2)))
unfolding part_piece
part_brace last further start at first o rest ends there =
    let n = inside_len backquote rest in
    let bad = malformed_at (take n rest) in
    let inner = cond (eqb (slice_index rest (n + 1)) brace) (Faulty (DoubleBrace (at + 1 + n))) (Found further (n + 2)) in
    ap (λ b. cond (eqb b backquote) (unless_malformed at bad (Found last (n + 2))) (cond (eqb b brace) (unless_malformed at bad inner) (Faulty (UnfinishedString start)))) ends
    ∙ ap (λ o. unless_malformed at o inner) there

-- how a string that begins here is read: between quotes, or as a part of an interpolated one
abbrev pub ReadsQuoted : Option Open → ℕ → ℕ → ℕ → ℕ → Type 0
ReadsQuoted ob at mark first start =
    (first ≡ mark) × (start ≡ at) × ((mark ≡ double_quote) ⊎ (mark ≡ single_quote))
    × ((rest : List ℕ) → piece ob at (first ∷ rest) ≡ quoted_piece at (mark ∷ rest))

abbrev pub ReadsPart : Option Open → ℕ → ℕ → ℕ → ℕ → Type 0
ReadsPart ob at mark first start =
    (mark ≡ backquote) × (last : Kind) × (further : Kind)
    × ((rest : List ℕ) → piece ob at (first ∷ rest) ≡ part_piece last further start at (first ∷ rest))

reads_string : (braces : List Open) (at mark first start : ℕ) → BeginsString braces at mark first start → ReadsQuoted (innermost (outward braces)) at mark first start ⊎ ReadsPart (innermost (outward braces)) at mark first start
reads_string braces at mark first start (inl (same, begin, inl is)) =
    let ob = innermost (outward braces) in
    inl (same, begin, inl is, λ rest. ap (λ k. piece ob at (k ∷ rest)) (same ∙ is) ∙ at_double ob at rest ∙ ap (λ k. quoted_piece at (k ∷ rest)) (sym is))
reads_string braces at mark first start (inl (same, begin, inr (inl is))) =
    let ob = innermost (outward braces) in
    inl (same, begin, inr is, λ rest. ap (λ k. piece ob at (k ∷ rest)) (same ∙ is) ∙ at_single ob at rest ∙ ap (λ k. quoted_piece at (k ∷ rest)) (sym is))
reads_string braces at mark first start (inl (same, begin, inr (inr is))) =
    let ob = innermost (outward braces) in
    inr (
      is,
      Whole,
      Begin,
      λ rest. ap (λ k. piece ob at (k ∷ rest)) (same ∙ is) ∙ at_backquote ob at rest
          ∙ ap (λ k. part_piece Whole Begin k at (backquote ∷ rest)) (sym begin) ∙ ap (λ k. part_piece Whole Begin start at (k ∷ rest)) (sym (same ∙ is)),
    )
reads_string braces at mark first start (inr (same, is, begun)) =
    let ob = innermost (outward braces) in
    inr (
      is,
      End,
      Mid,
      λ rest. ap (λ k. piece ob at (k ∷ rest)) same ∙ closing_start ob start (innermost_is braces ∙ begun) at rest
          ∙ ap (λ k. part_piece End Mid start at (k ∷ rest)) (sym same),
    )

mark_apart : (ob : Option Open) (at mark first start : ℕ) → ReadsQuoted ob at mark first start ⊎ ReadsPart ob at mark first start → mark ≢ backslash
mark_apart ob at mark first start (inl (same, begin, inl is, reads)) wrong = omega (arith, is, wrong)
mark_apart ob at mark first start (inl (same, begin, inr is, reads)) wrong = omega (arith, is, wrong)
mark_apart ob at mark first start (inr h) wrong = omega (arith, h.0, wrong)

-- what is read of an inside that is spelled so
pub record ReadInside (mark : ℕ) (inside : List Spelling) (behind : List ℕ) : Type 0 where
  pub len : inside_len mark (flat_map written inside ++ behind) ≡ length (flat_map written inside)
  pub next : (k : ℕ) → slice_index (flat_map written inside ++ behind) (inside_len mark (flat_map written inside ++ behind) + k) ≡ slice_index behind k
  pub end : slice_index (flat_map written inside ++ behind) (inside_len mark (flat_map written inside ++ behind)) ≡ slice_index behind 0
  pub malformed : malformed_at (take (inside_len mark (flat_map written inside ++ behind)) (flat_map written inside ++ behind)) ≡ malformed_place inside

inside_read : (mark : ℕ) (inside : List Spelling) (behind : List ℕ) → mark ≢ backslash → AreSpellings mark inside behind → (behind ≡ []) ⊎ (ends_inside mark (slice_index behind 0) ≡ true) → ReadInside mark inside behind
inside_read mark inside behind apart are ends =
    let bytes = flat_map written inside in
    let rest = bytes ++ behind in
    let len = inside_again mark inside behind apart are ends in
    let next : (k : ℕ) → slice_index rest (inside_len mark rest + k) ≡ slice_index behind k = λ k. ap (λ n. slice_index rest (n + k)) len ∙ get_or-append-add bytes behind k 0 in
    let zeroth : inside_len mark rest ≡ inside_len mark rest + 0 = omega arith in
    record {
      len = len;
      next = next;
      end = ap (slice_index rest) zeroth ∙ next 0;
      malformed = ap (λ n. malformed_at (take n rest)) len ∙ ap malformed_at (take-append_seam bytes behind)
          ∙ malformed_spelled mark inside (narrow_all mark inside [] behind are);
    }

malformed_there : (before : List Spelling) (bad : Spelling) (after : List Spelling) → are_well_formed before ≡ true → stands_for bad ≡ None → malformed_place (before ++ bad ∷ after) ≡ Some (length (flat_map written before))
malformed_there [] bad after good none =
    ap (λ o. cond (is_some o) (option_map (λ n. length (written bad) + n) (malformed_place after)) (Some 0)) none
malformed_there (s ∷ before) bad after good none =
    and_at (is_some (stands_for s)) (are_well_formed before) good
    (λ here more. ap (λ t. cond t (option_map (λ n. length (written s) + n) (malformed_place (before ++ bad ∷ after))) (Some 0)) here
    ∙ ap (option_map (λ n. length (written s) + n)) (malformed_there before bad after more none)
    ∙ ap Some (sym (length-append (written s) (flat_map written before))))

breaks_end : (mark : ℕ) (behind : List ℕ) → BreaksOff behind → (behind ≡ []) ⊎ (ends_inside mark (slice_index behind 0) ≡ true)
unfolding ends_inside
breaks_end mark behind (inl none) = inl none
breaks_end mark behind (inr (inl feed)) =
    let c = slice_index behind 0 in
    inr (or_right (eqb c mark) (eqb c line_feed || (eqb c carriage_return || (eqb mark backquote && eqb c brace)))
    (ap (λ t. t || (eqb c carriage_return || (eqb mark backquote && eqb c brace))) (eq-eqb c line_feed feed)))
breaks_end mark behind (inr (inr return)) =
    let c = slice_index behind 0 in
    inr (or_right (eqb c mark) (eqb c line_feed || (eqb c carriage_return || (eqb mark backquote && eqb c brace)))
    (or_right (eqb c line_feed) (eqb c carriage_return || (eqb mark backquote && eqb c brace))
    (ap (λ t. t || (eqb mark backquote && eqb c brace)) (eq-eqb c carriage_return return))))

-- no byte at which a string breaks off is a mark or a brace
breaks_small : (behind : List ℕ) → BreaksOff behind → slice_index behind 0 ≤ 13
breaks_small behind (inl none) = omega (arith, ap (λ l. slice_index l 0) none)
breaks_small behind (inr (inl feed)) = omega (arith, feed)
breaks_small behind (inr (inr return)) = omega (arith, return)

last_end : (mark last : ℕ) → EndsString mark last → ends_inside mark last ≡ true
unfolding ends_inside
last_end mark last (inl same) = ap (λ t. t || (eqb last line_feed || (eqb last carriage_return || (eqb mark backquote && eqb last brace)))) (eq-eqb last mark same)
last_end mark last (inr (is, braced)) =
    or_right (eqb last mark) (eqb last line_feed || (eqb last carriage_return || (eqb mark backquote && eqb last brace)))
    (or_right (eqb last line_feed) (eqb last carriage_return || (eqb mark backquote && eqb last brace))
    (or_right (eqb last carriage_return) (eqb mark backquote && eqb last brace)
    (ap (λ t. t && eqb last brace) (eq-eqb mark backquote is) ∙ eq-eqb last brace braced)))

unfinished_there : (ob : Option Open) (at mark first start : ℕ) (inside : List Spelling) (behind : List ℕ) → ReadsQuoted ob at mark first start ⊎ ReadsPart ob at mark first start → ReadInside mark inside behind → slice_index behind 0 ≤ 13 → piece ob at (first ∷ (flat_map written inside ++ behind)) ≡ Faulty (UnfinishedString start)
unfinished_there ob at mark first start inside behind (inl (same, begin, which, reads)) r small =
    let rest = flat_map written inside ++ behind in
    let large : 13 < mark = elim which [ inl is ↦ omega (arith, is) | inr is ↦ omega (arith, is) ] in
    reads rest ∙ quoted_unfinished mark at rest (λ ends. omega (arith, ends, r.end, small, large)) ∙ ap (λ k. Faulty (UnfinishedString k)) (sym begin)
unfinished_there ob at mark first start inside behind (inr (is, last, further, reads)) r small =
    let rest = flat_map written inside ++ behind in
    let end : slice_index rest (inside_len backquote rest) ≡ slice_index behind 0 = subst (λ k. slice_index rest (inside_len k rest) ≡ slice_index behind 0) is r.end in
    reads rest ∙ part_unfinished last further start at first rest (λ ends. omega (arith, ends, end, small)) (λ ends. omega (arith, ends, end, small))

bad_there : (ob : Option Open) (at mark first start last k : ℕ) (inside : List Spelling) (behind : List ℕ) → ReadsQuoted ob at mark first start ⊎ ReadsPart ob at mark first start → ReadInside mark inside (last ∷ behind) → EndsString mark last → malformed_place inside ≡ Some k → piece ob at (first ∷ (flat_map written inside ++ last ∷ behind)) ≡ Faulty (BadEscape (at + 1 + k))
bad_there ob at mark first start last k inside behind (inl (same, begin, which, reads)) r (inl ends) there =
    let rest = flat_map written inside ++ last ∷ behind in
    reads rest ∙ quoted_bad mark at k rest (r.end ∙ ends) (r.malformed ∙ there)
bad_there ob at mark first start last k inside behind (inl (same, begin, which, reads)) r (inr (is, braced)) there =
    absurd (elim which [ inl quote ↦ omega (arith, quote, is) | inr quote ↦ omega (arith, quote, is) ])
bad_there ob at mark first start last k inside behind (inr (is, one, further, reads)) r (inl ends) there =
    let rest = flat_map written inside ++ last ∷ behind in
    let same = subst (λ m. ReadInside m inside (last ∷ behind)) is r in
    reads rest ∙ part_bad_last one further start at first k rest (same.end ∙ ends ∙ is) (same.malformed ∙ there)
bad_there ob at mark first start last k inside behind (inr (is, one, further, reads)) r (inr (is', braced)) there =
    let rest = flat_map written inside ++ last ∷ behind in
    let same = subst (λ m. ReadInside m inside (last ∷ behind)) is r in
    reads rest ∙ part_brace one further start at first (Some k) rest (same.end ∙ braced) (same.malformed ∙ there)

double_there : (ob : Option Open) (at first start : ℕ) (inside : List Spelling) (behind : List ℕ) → ReadsQuoted ob at backquote first start ⊎ ReadsPart ob at backquote first start → ReadInside backquote inside (brace ∷ brace ∷ behind) → malformed_place inside ≡ None → piece ob at (first ∷ (flat_map written inside ++ brace ∷ brace ∷ behind)) ≡ Faulty (DoubleBrace (at + 1 + length (flat_map written inside)))
double_there ob at first start inside behind (inl (same, begin, which, reads)) r none =
    absurd (elim which [ inl quote ↦ omega (arith, quote) | inr quote ↦ omega (arith, quote) ])
double_there ob at first start inside behind (inr (is, one, further, reads)) r none =
    let rest = flat_map written inside ++ brace ∷ brace ∷ behind in
    let n = inside_len backquote rest in
    reads rest
    ∙ part_brace one further start at first None rest r.end (r.malformed ∙ none)
    ∙ ap (λ b. cond (eqb b brace) (Faulty (DoubleBrace (at + 1 + n))) (Found further (n + 2))) (r.next 1)
    ∙ ap (λ k. Faulty (DoubleBrace (at + 1 + k))) r.len

-- a fault that stands here is read here
fault_read_at : (braces : List Open) (at : ℕ) (text : List ℕ) (e : LexError) → IsFault braces at text e → piece (innermost (outward braces)) at text ≡ Faulty e
fault_read_at braces at text (StrayByte place) h =
    stray_there (innermost (outward braces)) at text h.1 ∙ ap (λ k. Faulty (StrayByte k)) (sym h.0)
fault_read_at braces at text (BadNumeral place) h =
    numeral_bad (innermost (outward braces)) at h.1 text h.2 h.3 h.4 h.5 ∙ ap (λ k. Faulty (BadNumeral k)) (sym h.0)
fault_read_at braces at text (UnfinishedComment place) h =
    let ob = innermost (outward braces) in
    ap (piece ob at) h.3 ∙ comment_bad ob at h.1 h.2 h.4 ∙ ap (λ k. Faulty (UnfinishedComment k)) (sym h.0)
fault_read_at braces at text (UnfinishedString place) (inl h) =
    let ob = innermost (outward braces) in
    ap (piece ob at) h.3 ∙ long_bad ob at h.1 h.2 h.4 ∙ ap (λ k. Faulty (UnfinishedString k)) (sym h.0)
fault_read_at braces at text (UnfinishedString place) (inr h) =
    let ob = innermost (outward braces) in
    let s = h.3 in
    let reads = reads_string braces at h.0 s.0 place s.1 in
    let r = inside_read h.0 h.1 h.2 (mark_apart ob at h.0 s.0 place reads) s.3 (breaks_end h.0 h.2 h.4) in
    ap (piece ob at) s.2 ∙ unfinished_there ob at h.0 s.0 place h.1 h.2 reads r (breaks_small h.2 h.4)
fault_read_at braces at text (BadEscape place) h =
    let ob = innermost (outward braces) in
    let inside = h.3 ++ h.4 ∷ h.5 in
    let s = h.7 in
    let reads = reads_string braces at h.0 s.0 h.1 s.1 in
    let r = inside_read h.0 inside (h.2 ∷ h.6) (mark_apart ob at h.0 s.0 h.1 reads) s.3 (inr (last_end h.0 h.2 h.8)) in
    ap (piece ob at) s.2
    ∙ bad_there ob at h.0 s.0 h.1 h.2 (length (flat_map written h.3)) inside h.6 reads r h.8 (malformed_there h.3 h.4 h.5 h.9 h.10)
    ∙ ap (λ k. Faulty (BadEscape k)) (sym h.11)
fault_read_at braces at text (DoubleBrace place) h =
    let ob = innermost (outward braces) in
    let s = h.3 in
    let reads = reads_string braces at backquote s.0 h.0 s.1 in
    let r = inside_read backquote h.1 (brace ∷ brace ∷ h.2) (mark_apart ob at backquote s.0 h.0 reads) s.3 (inr (last_end backquote brace (inr (refl, refl)))) in
    ap (piece ob at) s.2
    ∙ double_there ob at s.0 h.0 h.1 h.2 reads r (well_formed_none h.1 h.4)
    ∙ ap (λ k. Faulty (DoubleBrace k)) (sym h.5)
fault_read_at braces at text NoMemory h = absurd h

pub fault_there : (braces : List Open) (at : ℕ) (text : List ℕ) (e : LexError) → IsFault braces at text e → (0 < length text) × (piece (innermost (outward braces)) at text ≡ Faulty e)
fault_there braces at text e h = (fault_some braces at text e h, fault_read_at braces at text e h)
