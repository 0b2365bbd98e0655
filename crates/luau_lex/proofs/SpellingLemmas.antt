-- How the inside of a string is read is how it is spelled.
use Rattle.std.proofs.Common.{◌≡◌, ◌≢◌, ◌⊎◌, inl, inr, ℕ, suc, ◌+◌, ◌*◌, ◌<◌, ◌≤◌, min, Bool, true, false, ◌&&◌, ◌||◌, nat_le, nat_lt, eqb, cond, List, [], ◌∷◌, ◌++◌, length, take, drop, slice_index, Some, None, sym, refl, ap, ap₂, subst, ◌∙◌, arith, append_assoc, ne_eqb, eqb-true, eq-eqb, le-leb, leb-true, lt-ltb, ltb-true, length-take-le, drop-cons, length-append}
use Rattle.std.specs.List.{prefix_len, list_all}
use Rattle.std.proofs.str.Laws.{order}
use Rattle.std.proofs.lemmas.List.{take-append-drop, get_or_past}
use Rattle.std.proofs.lemmas.List.Sums.{prefix_len-le-length}
use Rattle.luau_lex.proofs.LongestLemmas.{run_all}
use Rattle.std.specs.Char.{is_ascii_digit, is_ascii_hexdigit}
use Rattle.std.proofs.Math.Dec.{eqb-suc-zero}
use Rattle.std.proofs.Math.Seq.{get_or-append_seam, take-append_seam}
use Rattle.luau_lex.specs.Bytes.{line_feed, carriage_return, backslash, brace, closing_brace, is_blank}
use Rattle.luau_lex.specs.Computed.Strings.{Element, byte_escape, decimal_escape, code_escape, letter_escape, escape, element}
use Rattle.luau_lex.specs.Numbers.{digit_number, number_in, utf8_scheme}
use Rattle.luau_lex.specs.Spellings.{letter_u, letter_x, letter_z, Spelling, Plain, Skip, Hex, Decimal, CodePoint, LineEnd, Escaped, CutShort, BadHex, BadCodePoint, BadDecimal, written, letters, listed_or_itself, stands_for, AreDecimalDigits, AreHexDigits, IsSpelling}

pub and_at : (a b : Bool) {C : Type 0} → a && b ≡ true → (a ≡ true → b ≡ true → C) → C
and_at true b h f = f refl h
and_at false b h f = absurd (cc)

pub or_at : (a b : Bool) {C : Type 0} → a || b ≡ true → (a ≡ true → C) → (b ≡ true → C) → C
or_at true b h f g = f refl
or_at false b h f g = g h

-- an element of so many bytes that stands for these
abbrev pub good : ℕ → List ℕ → Element
good n value = record { len = n; value = Some value }

-- a run of bytes of a class that goes no further
pub run_exact : (p : ℕ → Bool) (xs behind : List ℕ) → list_all p xs ≡ true → p (slice_index behind 0) ≡ false → prefix_len p (xs ++ behind) ≡ length xs
run_exact p [] [] all stops = refl
run_exact p [] (b ∷ behind) all stops = ap (λ t. cond t (1 + prefix_len p behind) 0) stops
run_exact p (x ∷ xs) behind all stops =
    and_at (p x) (list_all p xs) all
    (λ here more. ap (λ t. cond t (1 + prefix_len p (xs ++ behind)) 0) here ∙ omega (arith, run_exact p xs behind more stops))

-- a run of bytes of a class that may go further
pub run_least : (p : ℕ → Bool) (xs behind : List ℕ) → list_all p xs ≡ true → length xs ≤ prefix_len p (xs ++ behind)
run_least p [] behind all = omega arith
run_least p (x ∷ xs) behind all =
    and_at (p x) (list_all p xs) all
    (λ here more. omega (arith, ap (λ t. cond t (1 + prefix_len p (xs ++ behind)) 0) here, run_least p xs behind more))

-- a malformed escape of so many bytes
abbrev pub bad : ℕ → Element
bad n = record { len = n; value = None }

-- the first of these whose test holds, or the last
abbrev pub pick : (z x u d e : Bool) → (A B C D E F : Element) → Element
pick z x u d e A B C D E F = cond z A (cond x B (cond u C (cond d D (cond e E F))))

picked : (z x u d e z' x' u' d' e' : Bool) (A B C D E F : Element) → z ≡ z' → x ≡ x' → u ≡ u' → d ≡ d' → e ≡ e' → pick z x u d e A B C D E F ≡ pick z' x' u' d' e' A B C D E F
picked z x u d e z' x' u' d' e' A B C D E F hz hx hu hd he =
    ap (λ t. pick t x u d e A B C D E F) hz ∙ ap (λ t. pick z' t u d e A B C D E F) hx
    ∙ ap (λ t. pick z' x' t d e A B C D E F) hu ∙ ap (λ t. pick z' x' u' t e A B C D E F) hd
    ∙ ap (λ t. pick z' x' u' d' t A B C D E F) he

-- a backslash, a byte and what follows it
pub element_picked : (c : ℕ) (text : List ℕ) → element (backslash ∷ c ∷ text) ≡ pick (eqb c letter_z) (eqb c letter_x) (eqb c letter_u) (is_ascii_digit c) (eqb c carriage_return && eqb (slice_index text 0) line_feed) (good (2 + prefix_len is_blank text) []) (byte_escape text) (code_escape text) (decimal_escape (c ∷ text)) (good 3 (line_feed ∷ [])) (good 2 (letter_escape c ∷ []))
unfolding element escape
element_picked c text = ap (λ t. cond t (bad 1) (pick (eqb c letter_z) (eqb c letter_x) (eqb c letter_u) (is_ascii_digit c) (eqb c carriage_return && eqb (slice_index text 0) line_feed) (good (2 + prefix_len is_blank text) []) (byte_escape text) (code_escape text) (decimal_escape (c ∷ text)) (good 3 (line_feed ∷ [])) (good 2 (letter_escape c ∷ [])))) (eqb-suc-zero (length text))

pub plain_read : (b : ℕ) (behind : List ℕ) → b ≢ backslash → element (b ∷ behind) ≡ good 1 (b ∷ [])
unfolding element
plain_read b behind other = ap (λ t. cond t (escape behind) (good 1 (b ∷ []))) (ne_eqb b backslash other)

skip_read : (blanks behind : List ℕ) → list_all is_blank blanks ≡ true → is_blank (slice_index behind 0) ≡ false → element (backslash ∷ letter_z ∷ (blanks ++ behind)) ≡ good (suc (suc (length blanks))) []
skip_read blanks behind all stops =
    let n : 2 + prefix_len is_blank (blanks ++ behind) ≡ suc (suc (length blanks)) = omega (arith, run_exact is_blank blanks behind all stops) in
    element_picked letter_z (blanks ++ behind) ∙ ap (λ n. good n []) n

hex_read : (a b : ℕ) (behind : List ℕ) → is_ascii_hexdigit a ≡ true → is_ascii_hexdigit b ≡ true → element (backslash ∷ letter_x ∷ a ∷ b ∷ behind) ≡ good 4 (number_in 16 (a ∷ b ∷ []) ∷ [])
unfolding byte_escape
hex_read a b behind first second =
    let number : 16 * digit_number a + digit_number b ≡ number_in 16 (a ∷ b ∷ []) = omega arith in
    element_picked letter_x (a ∷ b ∷ behind)
    ∙ ap (λ t. cond (t && is_ascii_hexdigit b) (good 4 ((16 * digit_number a + digit_number b) ∷ [])) (bad 2)) first
    ∙ ap (λ t. cond t (good 4 ((16 * digit_number a + digit_number b) ∷ [])) (bad 2)) second
    ∙ ap (λ n. good 4 (n ∷ [])) number

-- no digit is one of these
digit_other : (d k : ℕ) → is_ascii_digit d ≡ true → is_ascii_digit k ≡ false → eqb d k ≡ false
digit_other d k digit none = ne_eqb d k (λ same. let wrong = ap is_ascii_digit same in cc)

digits_len : (digits behind : List ℕ) → list_all is_ascii_digit digits ≡ true → length digits ≤ 3 → (length digits < 3 → is_ascii_digit (slice_index behind 0) ≡ false) → (length digits < 3) ⊎ (3 ≤ length digits) → min 3 (prefix_len is_ascii_digit (digits ++ behind)) ≡ length digits
digits_len digits behind all most stops (inl fewer) = omega (arith, run_exact is_ascii_digit digits behind all (stops fewer))
digits_len digits behind all most stops (inr three) = omega (arith, run_least is_ascii_digit digits behind all)

not_small : (n : ℕ) → 255 < n → nat_le n 255 ≡ false
not_small n large = grind arith

decimal_len : (digits behind : List ℕ) → AreDecimalDigits digits behind → min 3 (prefix_len is_ascii_digit (digits ++ behind)) ≡ length digits
decimal_len digits behind are = digits_len digits behind are.0 are.2 are.3 (order (length digits) 3)

-- digits of this number
decimal_read : (digits behind : List ℕ) (t : Bool) → nat_le (number_in 10 digits) 255 ≡ t → AreDecimalDigits digits behind → element (backslash ∷ (digits ++ behind)) ≡ record { len = suc (length digits); value = cond t (Some (number_in 10 digits ∷ [])) None }
unfolding decimal_escape
decimal_read [] behind t small are = absurd (omega (arith, are.1))
decimal_read (d ∷ digits) behind t small are =
    let text = d ∷ (digits ++ behind) in
    let pair = eqb d carriage_return && eqb (slice_index (digits ++ behind) 0) line_feed in
    let digit : is_ascii_digit d ≡ true = and_at (is_ascii_digit d) (list_all is_ascii_digit digits) are.0 (λ h _. h) in
    let n : min 3 (prefix_len is_ascii_digit text) ≡ length (d ∷ digits) = decimal_len (d ∷ digits) behind are in
    let front : take (min 3 (prefix_len is_ascii_digit text)) text ≡ d ∷ digits = ap (λ k. take k text) n ∙ take-append_seam (d ∷ digits) behind in
    let next : 1 + min 3 (prefix_len is_ascii_digit text) ≡ suc (length (d ∷ digits)) = omega (arith, n) in
    element_picked d (digits ++ behind)
    ∙ picked (eqb d letter_z) (eqb d letter_x) (eqb d letter_u) (is_ascii_digit d) pair false false false true pair _ _ _ _ _ _
    (digit_other d letter_z digit refl) (digit_other d letter_x digit refl) (digit_other d letter_u digit refl) digit refl
    ∙ ap₂ (λ k v. record { len = k; value = v }) next
    (ap (λ w. cond (nat_le (number_in 10 w) 255) (Some (number_in 10 w ∷ [])) None) front ∙ ap (λ t. cond t (Some (number_in 10 (d ∷ digits) ∷ [])) None) small)

code_read : (mark : ℕ) (digits behind : List ℕ) → IsSpelling mark (CodePoint digits) behind → element (backslash ∷ letter_u ∷ brace ∷ (digits ++ closing_brace ∷ behind)) ≡ good (4 + length digits) (utf8_scheme (number_in 16 digits))
unfolding code_escape
code_read mark digits behind is =
    let inside = digits ++ closing_brace ∷ behind in
    let value = λ (w : List ℕ). utf8_scheme (number_in 16 w) in
    let n : prefix_len is_ascii_hexdigit inside ≡ length digits = run_exact is_ascii_hexdigit digits (closing_brace ∷ behind) is.0.0 refl in
    let at = λ (k : ℕ). cond (nat_lt 0 k && (eqb (slice_index inside k) closing_brace && nat_le (number_in 16 (take k inside)) 0x10FFFF)) (good (4 + k) (value (take k inside))) (bad 2) in
    let front : take (length digits) inside ≡ digits = take-append_seam digits (closing_brace ∷ behind) in
    let closed : slice_index inside (length digits) ≡ closing_brace = get_or-append_seam digits closing_brace behind 0 in
    element_picked letter_u (brace ∷ inside)
    ∙ ap at n
    ∙ ap (λ w. cond (nat_lt 0 (length digits) && (eqb (slice_index inside (length digits)) closing_brace && nat_le (number_in 16 w) 0x10FFFF)) (good (4 + length digits) (value w)) (bad 2)) front
    ∙ ap (λ t. cond (t && (eqb (slice_index inside (length digits)) closing_brace && nat_le (number_in 16 digits) 0x10FFFF)) (good (4 + length digits) (value digits)) (bad 2)) (lt-ltb _ _ is.0.1)
    ∙ ap (λ b. cond (eqb b closing_brace && nat_le (number_in 16 digits) 0x10FFFF) (good (4 + length digits) (value digits)) (bad 2)) closed
    ∙ ap (λ t. cond t (good (4 + length digits) (value digits)) (bad 2)) (le-leb _ _ is.1)

-- the table of letters is what is read
letters_read : (b : ℕ) → letter_escape b ≡ listed_or_itself letters b
unfolding letter_escape
letters_read b = refl

not_pair : (b c : ℕ) → (b ≡ carriage_return → c ≢ line_feed) → (t : Bool) → eqb b carriage_return ≡ t → (eqb b carriage_return && eqb c line_feed) ≡ false
not_pair b c other true is = ap (λ t. t && eqb c line_feed) is ∙ ne_eqb c line_feed (other (eqb-true b carriage_return is))
not_pair b c other false is = ap (λ t. t && eqb c line_feed) is

escaped_read : (mark b : ℕ) (behind : List ℕ) → IsSpelling mark (Escaped b) behind → element (backslash ∷ b ∷ behind) ≡ good 2 (listed_or_itself letters b ∷ [])
escaped_read mark b behind is =
    element_picked b behind
    ∙ picked (eqb b letter_z) (eqb b letter_x) (eqb b letter_u) (is_ascii_digit b) (eqb b carriage_return && eqb (slice_index behind 0) line_feed) false false false false false _ _ _ _ _ _
    (ne_eqb b letter_z is.3) (ne_eqb b letter_x is.2) (ne_eqb b letter_u is.1) is.0 (not_pair b (slice_index behind 0) is.4 (eqb b carriage_return) refl)
    ∙ ap (λ n. good 2 (n ∷ [])) (letters_read b)

bad_hex_read : (behind : List ℕ) → is_ascii_hexdigit (slice_index behind 0) && is_ascii_hexdigit (slice_index behind 1) ≡ false → element (backslash ∷ letter_x ∷ behind) ≡ bad 2
unfolding byte_escape
bad_hex_read behind none =
    element_picked letter_x behind
    ∙ ap (λ t. cond t (good 4 ((16 * digit_number (slice_index behind 0) + digit_number (slice_index behind 1)) ∷ [])) (bad 2)) none

-- a code point in braces stands at the front
abbrev pub code_there : List ℕ → Bool
code_there text =
    let inside = drop 1 text in
    let digits = prefix_len is_ascii_hexdigit inside in
    eqb (slice_index text 0) brace && (nat_lt 0 digits && (eqb (slice_index inside digits) closing_brace && nat_le (number_in 16 (take digits inside)) 0x10FFFF))

bad_code_read : (behind : List ℕ) → code_there behind ≡ false → element (backslash ∷ letter_u ∷ behind) ≡ bad 2
unfolding code_escape
bad_code_read behind none =
    let inside = drop 1 behind in
    let digits = prefix_len is_ascii_hexdigit inside in
    element_picked letter_u behind ∙ ap (λ t. cond t (good (4 + digits) (utf8_scheme (number_in 16 (take digits inside)))) (bad 2)) none

cut_read : element (backslash ∷ []) ≡ bad 1
unfolding element escape
cut_read = refl

pub both_at : (a b : Bool) → a ≡ true → b ≡ true → a && b ≡ true
both_at a b h g = ap (λ t. t && b) h ∙ g

-- where the front of a text is a code point, the bytes tell its digits
pub code_found : (text : List ℕ) → code_there text ≡ true → (digits : List ℕ) × (more : List ℕ) × (text ≡ brace ∷ (digits ++ closing_brace ∷ more)) × AreHexDigits digits × (number_in 16 digits ≤ 0x10FFFF)
code_found [] h = absurd (cc)
code_found (b ∷ inside) h =
    let n = prefix_len is_ascii_hexdigit inside in
    and_at (eqb b brace) (nat_lt 0 n && (eqb (slice_index inside n) closing_brace && nat_le (number_in 16 (take n inside)) 0x10FFFF)) h
    (λ first h'. and_at (nat_lt 0 n) (eqb (slice_index inside n) closing_brace && nat_le (number_in 16 (take n inside)) 0x10FFFF) h'
    (λ some h''. and_at (eqb (slice_index inside n) closing_brace) (nat_le (number_in 16 (take n inside)) 0x10FFFF) h''
    (λ last small.
    let is_last : slice_index inside n ≡ closing_brace = eqb-true _ _ last in
    let fits : n ≤ length inside = prefix_len-le-length is_ascii_hexdigit inside in
    let within : n < length inside = elim (order n (length inside)) [ inl lt ↦ lt | inr past ↦ absurd (omega (arith, get_or_past inside n 0 past, is_last)) ] in
    let width : length (take n inside) ≡ n = length-take-le n inside fits in
    let some' : 0 < n = ltb-true 0 n some in (
      take n inside,
      drop (suc n) inside,
      ap (λ k. k ∷ inside) (eqb-true b brace first)
          ∙ ap (λ l. brace ∷ l) (sym (take-append-drop n inside) ∙ ap (λ l. take n inside ++ l) (drop-cons inside n 0 within ∙ ap (λ k. k ∷ drop (suc n) inside) is_last)),
      (run_all is_ascii_hexdigit inside, omega (arith, width, some')),
      leb-true _ _ small,
    ))))

-- where it isn't, no digits in braces are those of a code point
pub code_missing : (text : List ℕ) → code_there text ≡ false → (digits more : List ℕ) → text ≡ brace ∷ (digits ++ closing_brace ∷ more) → AreHexDigits digits → 0x10FFFF < number_in 16 digits
code_missing text none digits more is are = elim (order 0x10FFFF (number_in 16 digits)) [
  | inl lt ↦ lt
  | inr small ↦ absurd (
      let inside = digits ++ closing_brace ∷ more in
      let n : prefix_len is_ascii_hexdigit inside ≡ length digits = run_exact is_ascii_hexdigit digits (closing_brace ∷ more) are.0 refl in
      let front : take (prefix_len is_ascii_hexdigit inside) inside ≡ digits = ap (λ k. take k inside) n ∙ take-append_seam digits (closing_brace ∷ more) in
      let last : slice_index inside (prefix_len is_ascii_hexdigit inside) ≡ closing_brace = ap (slice_index inside) n ∙ get_or-append_seam digits closing_brace more 0 in
      let there : code_there text ≡ true = ap code_there is ∙ both_at _ _ (lt-ltb _ _ (omega (arith, n, are.1))) (both_at _ _ (eq-eqb _ _ last) (le-leb _ _ (subst (λ w. number_in 16 w ≤ 0x10FFFF) (sym front) small))) in
      cc)
]

-- a code point that isn't there is none
code_not_there : (text : List ℕ) (t : Bool) → code_there text ≡ t → ((digits more : List ℕ) → text ≡ brace ∷ (digits ++ closing_brace ∷ more) → AreHexDigits digits → 0x10FFFF < number_in 16 digits) → code_there text ≡ false
code_not_there text true is none = let found = code_found text is in absurd (omega (arith, none found.0 found.1 found.2 found.3, found.4))
code_not_there text false is none = is

-- A spelling is read as one element, which is as long as it is written and stands for the same.
pub spelling_read : (mark : ℕ) (s : Spelling) (behind : List ℕ) → IsSpelling mark s behind → element (written s ++ behind) ≡ record { len = length (written s); value = stands_for s }
spelling_read mark (Plain b) behind is = plain_read b behind is.0
spelling_read mark (Skip blanks) behind is = skip_read blanks behind is.0 is.1
spelling_read mark (Hex a b) behind is = hex_read a b behind is.0 is.1
spelling_read mark (Decimal digits) behind is = decimal_read digits behind true (le-leb _ _ is.1) is.0
spelling_read mark (CodePoint digits) behind is =
    let seam = length-append digits (closing_brace ∷ []) in
    ap (λ l. element (backslash ∷ letter_u ∷ brace ∷ l)) (append_assoc digits (closing_brace ∷ []) behind)
    ∙ code_read mark digits behind is
    ∙ ap (λ n. good n (utf8_scheme (number_in 16 digits))) (omega arith)
spelling_read mark LineEnd behind is = element_picked carriage_return (line_feed ∷ behind)
spelling_read mark (Escaped b) behind is = escaped_read mark b behind is
spelling_read mark CutShort behind is = ap (λ l. element (backslash ∷ l)) is ∙ cut_read
spelling_read mark BadHex behind is = bad_hex_read behind is
spelling_read mark BadCodePoint behind is = bad_code_read behind (code_not_there behind (code_there behind) refl is)
spelling_read mark (BadDecimal digits) behind is = decimal_read digits behind false (not_small _ is.1) is.0
