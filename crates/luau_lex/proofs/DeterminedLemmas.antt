-- What meets the laws on tokens is the list of tokens of the text: gaps.
use Rattle.std.proofs.Common.{◌≡◌, inl, inr, ℕ, zero, suc, ◌+◌, ◌<◌, ◌≤◌, Bool, true, ◌||◌, nat_lt, eqb, cond, List, [], ◌∷◌, ◌++◌, length, take, drop, get_or, slice_index, replicate, Option, Some, None, sym, refl, ap, subst, ◌∙◌, arith, append_assoc, add-zero, length-append, get_or-take}
use Rattle.std.specs.List.{prefix_len, list_all}
use Rattle.std.proofs.str.Laws.{order}
use Rattle.std.proofs.Math.Seq.{drop-append_seam, drop-append-add}
use Rattle.std.proofs.lemmas.List.{take-append-drop, take-append-le, get_or-append-add}
use Rattle.std.proofs.lemmas.List.Sums.{prefix_len-le-length}
use Rattle.luau_lex.specs.declared.piece.Piece.TheVariants.{Gap}
use Rattle.luau_lex.specs.declared.piece.Open.{Open}
use Rattle.luau_lex.specs.Bytes.{line_feed, bracket, double_quote, single_quote, equals, minus, is_blank, is_name_start, is_no_line_feed}
use Rattle.luau_lex.specs.Numerals.{begins_numeral}
use Rattle.luau_lex.specs.Computed.Brackets.{level, closing_place}
use Rattle.luau_lex.specs.Computed.Pieces.{name_piece, numeral_piece, quoted_piece, other_piece, long_len, long_comment_of, comment_of, innermost, piece}
use Rattle.luau_lex.specs.Forms.{bracket_of, IsLong, NoneOpens, EndsLine, IsGapPart, IsGapOf, IsGap}
use Rattle.luau_lex.proofs.SpellingLemmas.{and_at}
use Rattle.luau_lex.proofs.InsideLemmas.{case_of}
use Rattle.luau_lex.proofs.LongLemmas.{all_replicate, opens_front, opens_fits, bracket_len, long_again}
use Rattle.luau_lex.proofs.WordLemmas.{all_both}
use Rattle.luau_lex.proofs.CutLemmas.{cut, cut_gap}
use Rattle.luau_lex.proofs.TokenLemmas.{at_comment}

-- how far a run goes behind bytes of its class
run_on : (p : ℕ → Bool) (xs behind : List ℕ) → list_all p xs ≡ true → prefix_len p (xs ++ behind) ≡ length xs + prefix_len p behind
run_on p [] behind all = omega arith
run_on p (x ∷ xs) behind all =
    and_at (p x) (list_all p xs) all
    (λ here more. ap (λ t. cond t (1 + prefix_len p (xs ++ behind)) 0) here ∙ omega (arith, run_on p xs behind more))

at_blank : (ob : Option Open) (at : ℕ) (text : List ℕ) → is_blank (slice_index text 0) ≡ true → piece ob at text ≡ Gap (prefix_len is_blank text)
unfolding piece
at_blank ob at text blank = ap (λ t. cond t (Gap (prefix_len is_blank text)) (cond (is_name_start (slice_index text 0)) (name_piece text) (cond (begins_numeral text) (numeral_piece at text) (cond (eqb (slice_index text 0) double_quote || eqb (slice_index text 0) single_quote) (quoted_piece at text) (other_piece ob at text))))) blank

first_blank : (xs : List ℕ) (n : ℕ) → prefix_len is_blank xs ≡ suc n → is_blank (slice_index xs 0) ≡ true
first_blank [] n is = absurd (omega (arith, is))
first_blank (x ∷ xs) n is = case_of (is_blank x) (λ h. h) (λ h. absurd (let none = ap (λ t. cond t (1 + prefix_len is_blank xs) 0) h in omega (arith, is, none)))

blanks_run : (opens : List Open) (at : ℕ) (text : List ℕ) (n : ℕ) → prefix_len is_blank text ≡ n → cut opens at text ≡ cut opens (at + n) (drop n text)
blanks_run opens at text zero is = ap (λ k. cut opens k text) (sym (add-zero at))
blanks_run opens at text (suc n) is =
    cut_gap opens (suc n) at text (omega arith) (omega (arith, is, prefix_len-le-length is_blank text))
    (at_blank (innermost opens) at text (first_blank text n is) ∙ ap Gap is)

-- blanks are passed over, however many
blanks_from : (opens : List Open) (at : ℕ) (text : List ℕ) → cut opens at text ≡ cut opens (at + prefix_len is_blank text) (drop (prefix_len is_blank text) text)
blanks_from opens at text = blanks_run opens at text (prefix_len is_blank text) refl

blanks_skip : (opens : List Open) (at : ℕ) (part behind : List ℕ) → list_all is_blank part ≡ true → cut opens at (part ++ behind) ≡ cut opens (at + length part) behind
blanks_skip opens at part behind all =
    let k = prefix_len is_blank behind in
    let n = run_on is_blank part behind all in
    let far : at + (length part + k) ≡ at + length part + k = omega arith in
    blanks_from opens at (part ++ behind)
    ∙ ap (λ j. cut opens (at + j) (drop j (part ++ behind))) n
    ∙ ap (λ l. cut opens (at + (length part + k)) l) (drop-append-add part behind k)
    ∙ ap (λ j. cut opens j (drop k behind)) far
    ∙ sym (blanks_from opens (at + length part) behind)

-- a piece that is a gap of these bytes is passed over
part_read : (opens : List Open) (at : ℕ) (part behind : List ℕ) → 0 < length part → piece (innermost opens) at (part ++ behind) ≡ Gap (length part) → cut opens at (part ++ behind) ≡ cut opens (at + length part) behind
part_read opens at part behind some is =
    cut_gap opens (length part) at (part ++ behind) some (omega (arith, length-append part behind)) is
    ∙ ap (cut opens (at + length part)) (drop-append_seam part behind)

-- no long bracket reaches over a line feed
all_get : (p : ℕ → Bool) (xs : List ℕ) (k : ℕ) → list_all p xs ≡ true → k < length xs → p (get_or xs k 0) ≡ true
all_get p [] k all short = absurd (omega arith)
all_get p (x ∷ xs) zero all short = and_at (p x) (list_all p xs) all (λ h _. h)
all_get p (x ∷ xs) (suc k) all short = and_at (p x) (list_all p xs) all (λ _ more. all_get p xs k more (omega arith))

no_feed_in : (signs : ℕ) → list_all is_no_line_feed (bracket_of bracket signs) ≡ true
no_feed_in signs = all_both is_no_line_feed (replicate signs equals) (bracket ∷ []) (all_replicate is_no_line_feed equals signs refl) refl

-- the byte behind the words would be one of the bracket
reaches_over : (signs : ℕ) (words behind : List ℕ) → EndsLine behind → take (signs + 2) (words ++ behind) ≡ bracket_of bracket signs → signs + 2 ≤ length (words ++ behind) → length words < signs + 2 → ⊥
reaches_over signs words behind (inl none) front long past =
    omega (arith, long, past, length-append words behind, ap length none)
reaches_over signs words behind (inr feed) front long past =
    let k = length words in
    let text = words ++ behind in
    let there : get_or (bracket_of bracket signs) k 0 ≡ line_feed =
    sym (ap (λ l. get_or l k 0) front) ∙ get_or-take (signs + 2) text k 0 past ∙ ap (λ j. get_or text j 0) (sym (add-zero k)) ∙ get_or-append-add words behind 0 0 ∙ feed in
    let class = all_get is_no_line_feed (bracket_of bracket signs) k (no_feed_in signs) (omega (arith, past, bracket_len bracket signs)) in
    let wrong = ap is_no_line_feed there in
    cc

opens_within : (signs : ℕ) (words behind : List ℕ) → EndsLine behind → level (words ++ behind) ≡ Some signs → words ≡ bracket_of bracket signs ++ drop (signs + 2) words
opens_within signs words behind ends opens =
    let front = opens_front signs (words ++ behind) opens in
    let long = opens_fits signs (words ++ behind) opens in
    elim (order (length words) (signs + 2)) [
      | inr fits ↦ sym (take-append-drop (signs + 2) words) ∙ ap (λ l. l ++ drop (signs + 2) words) (sym (take-append-le (signs + 2) words behind fits) ∙ front)
      | inl past ↦ absurd (reaches_over signs words behind ends front long past)
    ]

level_none : (words behind : List ℕ) → NoneOpens words → EndsLine behind → (o : Option ℕ) → level (words ++ behind) ≡ o → o ≡ None
level_none words behind none ends None is = refl
level_none words behind none ends (Some signs) is = absurd (none signs (drop (signs + 2) words) (opens_within signs words behind ends is))

no_line : (behind : List ℕ) → EndsLine behind → prefix_len is_no_line_feed behind ≡ 0
no_line behind (inl none) = ap (prefix_len is_no_line_feed) none
no_line [] (inr feed) = refl
no_line (b ∷ behind) (inr feed) = ap (λ t. cond t (1 + prefix_len is_no_line_feed behind) 0) (ap is_no_line_feed feed)

line_len : (words behind : List ℕ) → list_all is_no_line_feed words ≡ true → EndsLine behind → prefix_len is_no_line_feed (words ++ behind) ≡ length words
line_len words behind all ends = run_on is_no_line_feed words behind all ∙ omega (arith, no_line behind ends)

line_exact : (ob : Option Open) (at : ℕ) (words behind : List ℕ) → list_all is_no_line_feed words ≡ true → NoneOpens words → EndsLine behind → piece ob at (minus ∷ minus ∷ (words ++ behind)) ≡ Gap (length (minus ∷ minus ∷ words))
unfolding comment_of
line_exact ob at words behind all none ends =
    let rest = words ++ behind in
    let len : 2 + prefix_len is_no_line_feed rest ≡ length (minus ∷ minus ∷ words) = omega (arith, line_len words behind all ends) in
    at_comment ob at rest
    ∙ ap (λ o. comment_of o at (minus ∷ minus ∷ rest)) (level_none words behind none ends (level rest) refl)
    ∙ ap Gap len

four : (n : ℕ) → n + 4 ≡ suc (suc (n + 2))
four n = omega arith

long_comment_exact : (ob : Option Open) (at signs : ℕ) (body long behind : List ℕ) → IsLong signs body long → piece ob at (minus ∷ minus ∷ (long ++ behind)) ≡ Gap (length (minus ∷ minus ∷ long))
unfolding comment_of long_comment_of
long_comment_exact ob at signs body long behind is =
    let rest = long ++ behind in
    let text = minus ∷ minus ∷ rest in
    let h = long_again signs body long behind is in
    let far : drop (signs + 4) text ≡ drop (signs + 2) rest = ap (λ k. drop k text) (four signs) in
    let len : long_len signs (signs + 4) (length body) ≡ length (minus ∷ minus ∷ long) = omega (arith, h.2) in
    at_comment ob at rest
    ∙ ap (λ o. comment_of o at text) h.0
    ∙ ap (λ o. long_comment_of at o signs) (ap (closing_place signs) far ∙ h.1)
    ∙ ap Gap len

part_skip : (opens : List Open) (at : ℕ) (part behind : List ℕ) → IsGapPart part behind → cut opens at (part ++ behind) ≡ cut opens (at + length part) behind
part_skip opens at part behind (inl blanks) =
    and_at (nat_lt 0 (length part)) (list_all is_blank part) blanks (λ _ all. blanks_skip opens at part behind all)
part_skip opens at part behind (inr (inl line)) =
    subst (λ l. cut opens at (l ++ behind) ≡ cut opens (at + length l) behind) (sym line.1)
    (part_read opens at (minus ∷ minus ∷ line.0) behind (omega arith) (line_exact (innermost opens) at line.0 behind line.2 line.3 line.4))
part_skip opens at part behind (inr (inr h)) =
    subst (λ l. cut opens at (l ++ behind) ≡ cut opens (at + length l) behind) (sym h.3)
    (part_read opens at (minus ∷ minus ∷ h.2) behind (omega arith) (long_comment_exact (innermost opens) at h.0 h.1 h.2 behind h.4))

gap_parts : (opens : List Open) (at : ℕ) (parts : List (List ℕ)) (bytes behind : List ℕ) → IsGapOf parts bytes behind → cut opens at (bytes ++ behind) ≡ cut opens (at + length bytes) behind
gap_parts opens at [] bytes behind is =
    subst (λ l. cut opens at (l ++ behind) ≡ cut opens (at + length l) behind) (sym is) (ap (λ k. cut opens k behind) (sym (add-zero at)))
gap_parts opens at (part ∷ parts) bytes behind h =
    let rest = h.0 in
    let far : at + length part + length rest ≡ at + length (part ++ rest) = omega (arith, length-append part rest) in
    subst (λ l. cut opens at (l ++ behind) ≡ cut opens (at + length l) behind) (sym h.2)
    (ap (cut opens at) (append_assoc part rest behind)
    ∙ part_skip opens at part (rest ++ behind) h.1
    ∙ gap_parts opens (at + length part) parts rest behind h.3
    ∙ ap (λ k. cut opens k behind) far)

-- a gap is passed over
pub gap_skip : (opens : List Open) (at : ℕ) (bytes behind : List ℕ) → IsGap bytes behind → cut opens at (bytes ++ behind) ≡ cut opens (at + length bytes) behind
gap_skip opens at bytes behind h = gap_parts opens at h.0 bytes behind h.1
