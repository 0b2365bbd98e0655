-- The inside of a string is cut into its spellings, and each list of spellings is cut so.
use Rattle.std.proofs.Common.{◌≡◌, ◌≢◌, ◌⊎◌, inl, inr, ℕ, zero, suc, ◌+◌, ◌<◌, ◌≤◌, min, Bool, true, false, ◌&&◌, ◌||◌, eqb, cond, List, [], ◌∷◌, ◌++◌, length, take, drop, get_or, slice_index, flat_map, sym, refl, ap, subst, ◌∙◌, arith, append_assoc, add-zero, ne_eqb, eq-eqb, eqb-true, length-append, length-take-le}
use Rattle.std.specs.List.{prefix_len, list_all}
use Rattle.std.specs.Char.{is_ascii_digit, is_ascii_hexdigit}
use Rattle.std.proofs.str.Laws.{order}
use Rattle.std.proofs.Math.Seq.{take-append_seam, drop-append_seam}
use Rattle.std.proofs.lemmas.Bool.{eqb-false}
use Rattle.std.proofs.lemmas.List.{take-append-drop, get_or-append-add}
use Rattle.std.proofs.lemmas.List.Sums.{prefix_len-le-length}
use Rattle.luau_lex.specs.Bytes.{line_feed, carriage_return, backslash, backquote, brace, closing_brace, is_blank}
use Rattle.luau_lex.specs.Computed.Strings.{Element, ends_inside, inside_len}
use Rattle.luau_lex.specs.Numbers.{number_in}
use Rattle.luau_lex.specs.Spellings.{letter_u, letter_x, letter_z, Spelling, Plain, Skip, Hex, Decimal, CodePoint, LineEnd, Escaped, CutShort, BadHex, BadCodePoint, BadDecimal, written, AreDecimalDigits, IsSpelling, AreSpellings}
use Rattle.luau_lex.proofs.LongestLemmas.{run_all}
use Rattle.luau_lex.proofs.StringLemmas.{inside_next, inside_ends}
use Rattle.luau_lex.proofs.SpellingLemmas.{and_at, both_at, code_there, code_found, code_missing, spelling_read}

-- by which way a test goes
pub case_of : {C : Type 0} (t : Bool) → (t ≡ true → C) → (t ≡ false → C) → C
case_of true f g = f refl
case_of false f g = g refl

pub or_false : {C : Type 0} (a b : Bool) → a || b ≡ false → (a ≡ false → b ≡ false → C) → C
or_false true b h f = absurd (cc)
or_false false b h f = f refl h

-- a byte that doesn't end the inside of a string
abbrev pub GoesOn : ℕ → ℕ → Type 0
GoesOn mark b = (b ≢ mark) × (b ≢ line_feed) × (b ≢ carriage_return) × (mark ≡ backquote → b ≢ brace)

goes_on : (mark b : ℕ) → ends_inside mark b ≡ false → GoesOn mark b
unfolding ends_inside
goes_on mark b h =
    or_false (eqb b mark) (eqb b line_feed || (eqb b carriage_return || (eqb mark backquote && eqb b brace))) h
    (λ h0 h1. or_false (eqb b line_feed) (eqb b carriage_return || (eqb mark backquote && eqb b brace)) h1
    (λ h2 h3. or_false (eqb b carriage_return) (eqb mark backquote && eqb b brace) h3
    (λ h4 h5. (
      eqb-false b mark h0,
      eqb-false b line_feed h2,
      eqb-false b carriage_return h4,
      λ is same. let both = both_at (eqb mark backquote) (eqb b brace) (eq-eqb mark backquote is) (eq-eqb b brace same) in cc,
    ))))

no_brace : (mark b : ℕ) → (mark ≡ backquote → b ≢ brace) → (t : Bool) → eqb mark backquote ≡ t → (eqb mark backquote && eqb b brace) ≡ false
no_brace mark b none true is = ap (λ t. t && eqb b brace) is ∙ ne_eqb b brace (none (eqb-true mark backquote is))
no_brace mark b none false is = ap (λ t. t && eqb b brace) is

goes_so : (mark b : ℕ) → GoesOn mark b → ends_inside mark b ≡ false
unfolding ends_inside
goes_so mark b h =
    ap (λ t. t || (eqb b line_feed || (eqb b carriage_return || (eqb mark backquote && eqb b brace)))) (ne_eqb b mark h.0)
    ∙ ap (λ t. t || (eqb b carriage_return || (eqb mark backquote && eqb b brace))) (ne_eqb b line_feed h.1)
    ∙ ap (λ t. t || (eqb mark backquote && eqb b brace)) (ne_eqb b carriage_return h.2)
    ∙ no_brace mark b h.3 (eqb mark backquote) refl

-- the front of a text is a spelling, before what is left of it
abbrev pub Spelled : ℕ → List ℕ → Type 0
Spelled mark text = (s : Spelling) × (behind : List ℕ) × (text ≡ written s ++ behind) × IsSpelling mark s behind

stops_at : (p : ℕ → Bool) (x : ℕ) (xs : List ℕ) (b : Bool) → p x ≡ b → p (slice_index (drop (prefix_len p xs) xs) 0) ≡ false → p (slice_index (drop (cond b (1 + prefix_len p xs) 0) (x ∷ xs)) 0) ≡ false
stops_at p x xs true h more =
    let next : 1 + prefix_len p xs ≡ suc (prefix_len p xs) = omega arith in
    ap (λ n. p (slice_index (drop n (x ∷ xs)) 0)) next ∙ more
stops_at p x xs false h more = h

-- a run stops before what isn't of the class
run_stops : (p : ℕ → Bool) (xs : List ℕ) → p 0 ≡ false → p (slice_index (drop (prefix_len p xs) xs) 0) ≡ false
run_stops p [] none = none
run_stops p (x ∷ xs) none = stops_at p x xs (p x) refl (run_stops p xs none)

less_at : (p : ℕ → Bool) (x : ℕ) (xs : List ℕ) (n : ℕ) (b : Bool) → p x ≡ b → (n ≤ prefix_len p xs → list_all p (take n xs) ≡ true) → suc n ≤ cond b (1 + prefix_len p xs) 0 → list_all p (x ∷ take n xs) ≡ true
less_at p x xs n true h more most = ap (λ t. t && list_all p (take n xs)) h ∙ more (omega (arith, most))
less_at p x xs n false h more most = absurd (omega (arith, most))

-- each byte of a part of a run is of the class
run_less : (p : ℕ → Bool) (xs : List ℕ) (n : ℕ) → n ≤ prefix_len p xs → list_all p (take n xs) ≡ true
run_less p xs zero most = refl
run_less p [] (suc n) most = refl
run_less p (x ∷ xs) (suc n) most = less_at p x xs n (p x) refl (run_less p xs n) most

skip_spelled : (mark c : ℕ) (more : List ℕ) → c ≡ letter_z → Spelled mark (backslash ∷ c ∷ more)
skip_spelled mark c more is =
    let n = prefix_len is_blank more in (
      Skip (take n more),
      drop n more,
      ap (λ k. backslash ∷ k ∷ more) is ∙ ap (λ l. backslash ∷ letter_z ∷ l) (sym (take-append-drop n more)),
      (run_all is_blank more, run_stops is_blank more refl),
    )

hex_pair : (mark : ℕ) (more : List ℕ) → is_ascii_hexdigit (slice_index more 0) && is_ascii_hexdigit (slice_index more 1) ≡ true → Spelled mark (backslash ∷ letter_x ∷ more)
hex_pair mark [] h = absurd (cc)
hex_pair mark (a ∷ []) h = and_at (is_ascii_hexdigit a) (is_ascii_hexdigit 0) h (λ _ none. absurd (cc))
hex_pair mark (a ∷ b ∷ more) h = and_at (is_ascii_hexdigit a) (is_ascii_hexdigit b) h (λ first second. (Hex a b, more, refl, (first, second)))

hex_spelled : (mark : ℕ) (more : List ℕ) → Spelled mark (backslash ∷ letter_x ∷ more)
hex_spelled mark more = case_of (is_ascii_hexdigit (slice_index more 0) && is_ascii_hexdigit (slice_index more 1)) (hex_pair mark more) (λ none. (BadHex, more, refl, none))

code_spelled : (mark : ℕ) (more : List ℕ) → Spelled mark (backslash ∷ letter_u ∷ more)
code_spelled mark more =
    case_of (code_there more)
    (λ h. let found = code_found more h in (
      CodePoint found.0,
      found.1,
      ap (λ l. backslash ∷ letter_u ∷ l) (found.2 ∙ ap (λ l. brace ∷ l) (sym (append_assoc found.0 (closing_brace ∷ []) found.1))),
      (found.3, found.4),
    ))
    (λ h. (BadCodePoint, more, refl, code_missing more h))

digit_run : (c : ℕ) (more : List ℕ) → is_ascii_digit c ≡ true → 0 < prefix_len is_ascii_digit (c ∷ more)
digit_run c more digit = omega (arith, ap (λ t. cond t (1 + prefix_len is_ascii_digit more) 0) digit)

digits_front : (text : List ℕ) (n : ℕ) → 0 < prefix_len is_ascii_digit text → n ≡ min 3 (prefix_len is_ascii_digit text) → AreDecimalDigits (take n text) (drop n text)
digits_front text n some is =
    let fits = prefix_len-le-length is_ascii_digit text in
    let width = length-take-le n text (omega (arith, is, fits)) in (
      run_less is_ascii_digit text n (omega (arith, is)),
      omega (arith, width, is, some),
      omega (arith, width, is),
      λ few. let all : n ≡ prefix_len is_ascii_digit text = omega (arith, width, is, few) in
          ap (λ k. is_ascii_digit (slice_index (drop k text) 0)) all ∙ run_stops is_ascii_digit text refl,
    )

decimal_spelled : (mark c : ℕ) (more : List ℕ) → is_ascii_digit c ≡ true → Spelled mark (backslash ∷ c ∷ more)
decimal_spelled mark c more digit =
    let text = c ∷ more in
    let n = min 3 (prefix_len is_ascii_digit text) in
    let are = digits_front text n (digit_run c more digit) refl in
    let whole : backslash ∷ text ≡ backslash ∷ (take n text ++ drop n text) = ap (λ l. backslash ∷ l) (sym (take-append-drop n text)) in
    elim (order 255 (number_in 10 (take n text))) [
      | inl large ↦ (BadDecimal (take n text), drop n text, whole, (are, large))
      | inr small ↦ (Decimal (take n text), drop n text, whole, (are, small))
    ]

pair_spelled : (mark c : ℕ) (more : List ℕ) → c ≡ carriage_return → slice_index more 0 ≡ line_feed → Spelled mark (backslash ∷ c ∷ more)
pair_spelled mark c [] is next = absurd (omega (arith, next))
pair_spelled mark c (d ∷ more) is next = (LineEnd, more, ap (λ k. backslash ∷ k ∷ d ∷ more) is ∙ ap (λ k. backslash ∷ carriage_return ∷ k ∷ more) next, tt)

escape_spelled : (mark c : ℕ) (more : List ℕ) → Spelled mark (backslash ∷ c ∷ more)
escape_spelled mark c more =
    case_of (eqb c letter_z) (λ z. skip_spelled mark c more (eqb-true c letter_z z))
    (λ no_z. case_of (eqb c letter_x) (λ x. subst (λ k. Spelled mark (backslash ∷ k ∷ more)) (sym (eqb-true c letter_x x)) (hex_spelled mark more))
    (λ no_x. case_of (eqb c letter_u) (λ u. subst (λ k. Spelled mark (backslash ∷ k ∷ more)) (sym (eqb-true c letter_u u)) (code_spelled mark more))
    (λ no_u. case_of (is_ascii_digit c) (decimal_spelled mark c more)
    (λ no_digit. case_of (eqb c carriage_return && eqb (slice_index more 0) line_feed)
    (λ pair. and_at (eqb c carriage_return) (eqb (slice_index more 0) line_feed) pair
    (λ first second. pair_spelled mark c more (eqb-true c carriage_return first) (eqb-true _ line_feed second)))
    (λ no_pair. (
      Escaped c,
      more,
      refl,
      (
        no_digit,
        eqb-false c letter_u no_u,
        eqb-false c letter_x no_x,
        eqb-false c letter_z no_z,
        λ is next. let both = both_at (eqb c carriage_return) (eqb (slice_index more 0) line_feed) (eq-eqb c carriage_return is) (eq-eqb _ line_feed next) in cc,
      ),
    ))))))

behind_backslash : (mark : ℕ) (text : List ℕ) → Spelled mark (backslash ∷ text)
behind_backslash mark [] = (CutShort, [], refl, refl)
behind_backslash mark (c ∷ more) = escape_spelled mark c more

-- where the inside goes on, it goes on with a spelling
pub spelled : (mark b : ℕ) (text : List ℕ) → ends_inside mark b ≡ false → Spelled mark (b ∷ text)
spelled mark b text goes =
    case_of (eqb b backslash)
    (λ is. subst (λ k. Spelled mark (k ∷ text)) (sym (eqb-true b backslash is)) (behind_backslash mark text))
    (λ other. let on = goes_on mark b goes in (Plain b, text, refl, (eqb-false b backslash other, on.0, on.1, on.2, on.3)))

-- The inside of a string at the front of a text, spelling by spelling, and what is left behind it.
pub record Inside (mark : ℕ) (text : List ℕ) : Type 0 where
  pub inside : List Spelling
  pub behind : List ℕ
  pub whole : text ≡ flat_map written inside ++ behind
  pub spells : AreSpellings mark inside behind
  pub len : inside_len mark text ≡ length (flat_map written inside)
  pub ends : (behind ≡ []) ⊎ (ends_inside mark (slice_index behind 0) ≡ true)

pub written_some : (s : Spelling) → 0 < length (written s)
written_some (Plain b) = omega arith
written_some (Skip blanks) = omega arith
written_some (Hex a b) = omega arith
written_some (Decimal digits) = omega arith
written_some (CodePoint digits) = omega arith
written_some LineEnd = omega arith
written_some (Escaped b) = omega arith
written_some CutShort = omega arith
written_some BadHex = omega arith
written_some BadCodePoint = omega arith
written_some (BadDecimal digits) = omega arith

-- behind a spelling the inside goes on
pub inside_behind : (mark : ℕ) (s : Spelling) (rest : List ℕ) → ends_inside mark (slice_index (written s ++ rest) 0) ≡ false → IsSpelling mark s rest → inside_len mark (written s ++ rest) ≡ length (written s) + inside_len mark rest
inside_behind mark s rest goes is =
    let text = written s ++ rest in
    let e = length (written s) in
    let width = length-append (written s) rest in
    let some = written_some s in
    inside_next mark e text (omega (arith, width, some)) goes (ap (λ (x : Element). x.len) (spelling_read mark s rest is)) some (omega (arith, width))
    ∙ ap (λ l. e + inside_len mark l) (drop-append_seam (written s) rest)

inside_step : (mark : ℕ) (text : List ℕ) → ends_inside mark (slice_index text 0) ≡ false → (h : Spelled mark text) → Inside mark h.1 → Inside mark text
inside_step mark text goes h r =
    let s = h.0 in
    let regroup = append_assoc (written s) (flat_map written r.inside) r.behind in
    record {
      inside = s ∷ r.inside;
      behind = r.behind;
      whole = h.2 ∙ ap (λ l. written s ++ l) r.whole ∙ sym regroup;
      spells = (subst (IsSpelling mark s) r.whole h.3, r.spells);
      len = ap (inside_len mark) h.2
          ∙ inside_behind mark s h.1 (ap (λ l. ends_inside mark (slice_index l 0)) (sym h.2) ∙ goes) h.3
          ∙ ap (λ n. length (written s) + n) r.len ∙ sym (length-append (written s) (flat_map written r.inside));
      ends = r.ends;
    }

inside_within : (fuel mark : ℕ) (text : List ℕ) → length text ≤ fuel → Inside mark text
inside_within fuel mark [] most = record { inside = []; behind = []; whole = refl; spells = tt; len = refl; ends = inl refl }
inside_within zero mark (b ∷ text) most = absurd (omega arith)
inside_within (suc fuel) mark (b ∷ text) most =
    case_of (ends_inside mark b)
    (λ ends. record { inside = []; behind = b ∷ text; whole = refl; spells = tt; len = inside_ends mark (b ∷ text) ends; ends = inr ends })
    (λ goes.
    let h = spelled mark b text goes in
    let less : length h.1 ≤ fuel = omega (arith, ap length h.2, length-append (written h.0) h.1, written_some h.0, most) in
    inside_step mark (b ∷ text) goes h (inside_within fuel mark h.1 less))

-- the inside of a string is cut into spellings
pub inside_spelled : (mark : ℕ) (text : List ℕ) → Inside mark text
inside_spelled mark text = inside_within (length text) mark text (omega arith)

-- the bytes of the inside
pub inside_front : (mark : ℕ) (text : List ℕ) (r : Inside mark text) → take (inside_len mark text) text ≡ flat_map written r.inside
inside_front mark text r =
    let inside = flat_map written r.inside in
    ap (λ k. take k text) r.len ∙ ap (take (length inside)) r.whole ∙ take-append_seam inside r.behind

-- the bytes behind it
pub inside_left : (mark : ℕ) (text : List ℕ) (r : Inside mark text) (n : ℕ) → slice_index r.behind n ≡ slice_index text (inside_len mark text + n)
inside_left mark text r n =
    let inside = flat_map written r.inside in
    sym (get_or-append-add inside r.behind n 0)
    ∙ ap (λ k. get_or (inside ++ r.behind) (k + n) 0) (sym r.len)
    ∙ ap (λ l. get_or l (inside_len mark text + n) 0) (sym r.whole)

pub inside_end : (mark : ℕ) (text : List ℕ) (r : Inside mark text) → slice_index r.behind 0 ≡ slice_index text (inside_len mark text)
inside_end mark text r = inside_left mark text r 0 ∙ ap (slice_index text) (add-zero (inside_len mark text))

backslash_goes : (mark : ℕ) → mark ≢ backslash → ends_inside mark backslash ≡ false
backslash_goes mark other = goes_so mark backslash (λ same. other (sym same), (λ same. omega (arith, same)), (λ same. omega (arith, same)), λ _ same. omega (arith, same))

-- the other way: where a spelling stands the inside goes on
spelling_goes : (mark : ℕ) (s : Spelling) (rest : List ℕ) → mark ≢ backslash → IsSpelling mark s rest → ends_inside mark (slice_index (written s ++ rest) 0) ≡ false
spelling_goes mark (Plain b) rest apart is = goes_so mark b (is.1, is.2, is.3, is.4)
spelling_goes mark (Skip blanks) rest apart is = backslash_goes mark apart
spelling_goes mark (Hex a b) rest apart is = backslash_goes mark apart
spelling_goes mark (Decimal digits) rest apart is = backslash_goes mark apart
spelling_goes mark (CodePoint digits) rest apart is = backslash_goes mark apart
spelling_goes mark LineEnd rest apart is = backslash_goes mark apart
spelling_goes mark (Escaped b) rest apart is = backslash_goes mark apart
spelling_goes mark CutShort rest apart is = backslash_goes mark apart
spelling_goes mark BadHex rest apart is = backslash_goes mark apart
spelling_goes mark BadCodePoint rest apart is = backslash_goes mark apart
spelling_goes mark (BadDecimal digits) rest apart is = backslash_goes mark apart

inside_none : (mark : ℕ) (behind : List ℕ) → (behind ≡ []) ⊎ (ends_inside mark (slice_index behind 0) ≡ true) → inside_len mark behind ≡ 0
inside_none mark behind (inl none) = ap (inside_len mark) none
inside_none mark behind (inr ends) = inside_ends mark behind ends

-- what is spelled so is read so
pub inside_again : (mark : ℕ) (inside : List Spelling) (behind : List ℕ) → mark ≢ backslash → AreSpellings mark inside behind → (behind ≡ []) ⊎ (ends_inside mark (slice_index behind 0) ≡ true) → inside_len mark (flat_map written inside ++ behind) ≡ length (flat_map written inside)
inside_again mark [] behind apart are ends = inside_none mark behind ends
inside_again mark (s ∷ inside) behind apart are ends =
    let rest = flat_map written inside ++ behind in
    ap (inside_len mark) (append_assoc (written s) (flat_map written inside) behind)
    ∙ inside_behind mark s rest (spelling_goes mark s rest apart are.0) are.0
    ∙ ap (λ n. length (written s) + n) (inside_again mark inside behind apart are.1 ends)
    ∙ sym (length-append (written s) (flat_map written inside))
