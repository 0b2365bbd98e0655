-- What the inside of a string stands for, and its first malformed escape, by its spellings.
use Rattle.std.proofs.Common.{◌≡◌, ◌≢◌, ℕ, ◌+◌, Bool, true, false, ◌&&◌, cond, List, [], ◌∷◌, ◌++◌, length, drop, slice_index, flat_map, Option, Some, None, option_map, unwrap_or, is_some, sym, refl, ap, subst, ◌∙◌, arith, append_assoc, append-nil, length-append}
use Rattle.std.specs.Char.{is_ascii_digit, is_ascii_hexdigit}
use Rattle.std.proofs.Math.Seq.{drop-append_seam}
use Rattle.luau_lex.specs.Bytes.{line_feed, brace, closing_brace, is_blank}
use Rattle.luau_lex.specs.Computed.Strings.{Element, element, malformed_at, value_of_inside}
use Rattle.luau_lex.specs.Spellings.{Spelling, Plain, Skip, Hex, Decimal, CodePoint, LineEnd, Escaped, CutShort, BadHex, BadCodePoint, BadDecimal, written, stands_for, IsSpelling, AreSpellings, are_well_formed, stand_for}
use Rattle.luau_lex.proofs.StringLemmas.{malformed_next, malformed_here, value_next}
use Rattle.luau_lex.proofs.SpellingLemmas.{and_at, both_at, spelling_read}
use Rattle.luau_lex.proofs.InsideLemmas.{written_some}

front_narrow : (p : ℕ → Bool) (x y : List ℕ) → p 0 ≡ false → p (slice_index (x ++ y) 0) ≡ false → p (slice_index x 0) ≡ false
front_narrow p [] y none h = none
front_narrow p (c ∷ x) y none h = h

and_none : (b : Bool) → b && false ≡ false
and_none true = refl
and_none false = refl

pair_narrow : (p : ℕ → Bool) (x y : List ℕ) → p 0 ≡ false → p (slice_index (x ++ y) 0) && p (slice_index (x ++ y) 1) ≡ false → p (slice_index x 0) && p (slice_index x 1) ≡ false
pair_narrow p [] y none h = ap (λ t. t && p 0) none
pair_narrow p (c ∷ []) y none h = ap (λ t. p c && t) none ∙ and_none (p c)
pair_narrow p (c ∷ d ∷ x) y none h = h

none_narrow : (x y : List ℕ) → x ++ y ≡ [] → x ≡ []
none_narrow [] y h = refl
none_narrow (c ∷ x) y h = absurd (cc)

next_narrow : (x y : List ℕ) → slice_index (x ++ y) 0 ≢ line_feed → slice_index x 0 ≢ line_feed
next_narrow [] y h = λ same. omega (arith, same)
next_narrow (c ∷ x) y h = h

-- a spelling before some bytes is one before a front of them
pub narrow : (mark : ℕ) (s : Spelling) (x y : List ℕ) → IsSpelling mark s (x ++ y) → IsSpelling mark s x
narrow mark (Plain b) x y is = is
narrow mark (Skip blanks) x y is = (is.0, front_narrow is_blank x y refl is.1)
narrow mark (Hex a b) x y is = is
narrow mark (Decimal digits) x y is = ((is.0.0, is.0.1, is.0.2, λ few. front_narrow is_ascii_digit x y refl (is.0.3 few)), is.1)
narrow mark (CodePoint digits) x y is = is
narrow mark LineEnd x y is = tt
narrow mark (Escaped b) x y is = (is.0, is.1, is.2, is.3, λ same. next_narrow x y (is.4 same))
narrow mark CutShort x y is = none_narrow x y is
narrow mark BadHex x y is = pair_narrow is_ascii_hexdigit x y refl is
narrow mark BadCodePoint x y is =
    λ digits more same are. is digits (more ++ y) (ap (λ l. l ++ y) same ∙ ap (λ l. brace ∷ l) (append_assoc digits (closing_brace ∷ more) y)) are
narrow mark (BadDecimal digits) x y is = ((is.0.0, is.0.1, is.0.2, λ few. front_narrow is_ascii_digit x y refl (is.0.3 few)), is.1)

pub narrow_all : (mark : ℕ) (inside : List Spelling) (x y : List ℕ) → AreSpellings mark inside (x ++ y) → AreSpellings mark inside x
narrow_all mark [] x y are = tt
narrow_all mark (s ∷ inside) x y are =
    (narrow mark s (flat_map written inside ++ x) y (subst (IsSpelling mark s) (sym (append_assoc (flat_map written inside) x y)) are.0), narrow_all mark inside x y are.1)

-- a spelling at the end of a list of bytes
last_spelling : (mark : ℕ) (s : Spelling) (inside : List Spelling) → IsSpelling mark s (flat_map written inside ++ []) → IsSpelling mark s (flat_map written inside)
last_spelling mark s inside is = subst (IsSpelling mark s) (append-nil (flat_map written inside)) is

read_len : (mark : ℕ) (s : Spelling) (rest : List ℕ) → IsSpelling mark s rest → (element (written s ++ rest)).len ≡ length (written s)
read_len mark s rest is = ap (λ (x : Element). x.len) (spelling_read mark s rest is)

read_value : (mark : ℕ) (s : Spelling) (rest : List ℕ) → IsSpelling mark s rest → (element (written s ++ rest)).value ≡ stands_for s
read_value mark s rest is = ap (λ (x : Element). x.value) (spelling_read mark s rest is)

-- the inside of a string stands for what its spellings stand for
pub value_spelled : (mark : ℕ) (inside : List Spelling) → AreSpellings mark inside [] → value_of_inside (flat_map written inside) ≡ stand_for inside
value_spelled mark [] are = refl
value_spelled mark (s ∷ inside) are =
    let rest = flat_map written inside in
    let is = last_spelling mark s inside are.0 in
    let some = written_some s in
    let width = length-append (written s) rest in
    value_next (length (written s)) (written s ++ rest) (omega (arith, width, some)) (read_len mark s rest is) some
    ∙ ap (λ o. unwrap_or o [] ++ value_of_inside (drop (length (written s)) (written s ++ rest))) (read_value mark s rest is)
    ∙ ap (λ l. unwrap_or (stands_for s) [] ++ value_of_inside l) (drop-append_seam (written s) rest)
    ∙ ap (λ l. unwrap_or (stands_for s) [] ++ l) (value_spelled mark inside are.1)

-- where the first malformed one stands
abbrev pub malformed_place : List Spelling → Option ℕ
malformed_place [] = None
malformed_place (s ∷ inside) = cond (is_some (stands_for s)) (option_map (λ n. length (written s) + n) (malformed_place inside)) (Some 0)

malformed_front : (mark : ℕ) (s : Spelling) (inside : List Spelling) (t : Bool) → is_some (stands_for s) ≡ t → IsSpelling mark s (flat_map written inside) → malformed_at (flat_map written inside) ≡ malformed_place inside → malformed_at (written s ++ flat_map written inside) ≡ cond t (option_map (λ n. length (written s) + n) (malformed_place inside)) (Some 0)
malformed_front mark s inside true good is more =
    let rest = flat_map written inside in
    let some = written_some s in
    let width = length-append (written s) rest in
    malformed_next (length (written s)) (written s ++ rest) (omega (arith, width, some)) (ap is_some (read_value mark s rest is) ∙ good) (read_len mark s rest is) some (omega (arith, width))
    ∙ ap (λ l. option_map (λ n. length (written s) + n) (malformed_at l)) (drop-append_seam (written s) rest)
    ∙ ap (option_map (λ n. length (written s) + n)) more
malformed_front mark s inside false good is more =
    let rest = flat_map written inside in
    let some = written_some s in
    let width = length-append (written s) rest in
    malformed_here (written s ++ rest) (omega (arith, width, some)) (ap is_some (read_value mark s rest is) ∙ good)

pub malformed_spelled : (mark : ℕ) (inside : List Spelling) → AreSpellings mark inside [] → malformed_at (flat_map written inside) ≡ malformed_place inside
malformed_spelled mark [] are = refl
malformed_spelled mark (s ∷ inside) are =
    malformed_front mark s inside (is_some (stands_for s)) refl (last_spelling mark s inside are.0) (malformed_spelled mark inside are.1)

none_malformed_at : (s : Spelling) (inside : List Spelling) (t : Bool) → is_some (stands_for s) ≡ t → (malformed_place inside ≡ None → are_well_formed inside ≡ true) → (o : Option ℕ) → malformed_place inside ≡ o → cond t (option_map (λ n. length (written s) + n) o) (Some 0) ≡ None → is_some (stands_for s) && are_well_formed inside ≡ true
none_malformed_at s inside true good more None is h = both_at _ _ good (more is)
none_malformed_at s inside true good more (Some k) is h = absurd (cc)
none_malformed_at s inside false good more o is h = absurd (cc)

-- none is malformed where there is no first one
pub none_malformed : (inside : List Spelling) → malformed_place inside ≡ None → are_well_formed inside ≡ true
none_malformed [] h = refl
none_malformed (s ∷ inside) h = none_malformed_at s inside (is_some (stands_for s)) refl (none_malformed inside) (malformed_place inside) refl h

-- there is no first one where none is
pub well_formed_none : (inside : List Spelling) → are_well_formed inside ≡ true → malformed_place inside ≡ None
well_formed_none [] h = refl
well_formed_none (s ∷ inside) h =
    and_at (is_some (stands_for s)) (are_well_formed inside) h
    (λ good more. ap (λ t. cond t (option_map (λ n. length (written s) + n) (malformed_place inside)) (Some 0)) good
    ∙ ap (option_map (λ n. length (written s) + n)) (well_formed_none inside more))

-- the malformed one at this place, and what stands before and behind it
pub record FirstMalformed (inside : List Spelling) (k : ℕ) : Type 0 where
  pub before : List Spelling
  pub here : Spelling
  pub after : List Spelling
  pub whole : inside ≡ before ++ here ∷ after
  pub good : are_well_formed before ≡ true
  pub bad : stands_for here ≡ None
  pub place : k ≡ length (flat_map written before)

is_none_of : (o : Option (List ℕ)) → is_some o ≡ false → o ≡ None
is_none_of None h = refl
is_none_of (Some x) h = absurd (cc)

first_malformed_at : (s : Spelling) (inside : List Spelling) (k : ℕ) (t : Bool) → is_some (stands_for s) ≡ t → ((j : ℕ) → malformed_place inside ≡ Some j → FirstMalformed inside j) → (o : Option ℕ) → malformed_place inside ≡ o → cond t (option_map (λ n. length (written s) + n) o) (Some 0) ≡ Some k → FirstMalformed (s ∷ inside) k
first_malformed_at s inside k true good more None is h = absurd (cc)
first_malformed_at s inside k true good more (Some j) is h =
    let found = more j is in
    let same : length (written s) + j ≡ k = cc in
    record {
      before = s ∷ found.before;
      here = found.here;
      after = found.after;
      whole = ap (λ l. s ∷ l) found.whole;
      good = both_at _ _ good found.good;
      bad = found.bad;
      place = omega (arith, same, found.place, length-append (written s) (flat_map written found.before));
    }
first_malformed_at s inside k false good more o is h =
    let same : 0 ≡ k = cc in
    record { before = []; here = s; after = inside; whole = refl; good = refl; bad = is_none_of (stands_for s) good; place = sym same }

pub first_malformed : (inside : List Spelling) (k : ℕ) → malformed_place inside ≡ Some k → FirstMalformed inside k
first_malformed [] k h = absurd (cc)
first_malformed (s ∷ inside) k h = first_malformed_at s inside k (is_some (stands_for s)) refl (first_malformed inside) (malformed_place inside) refl h

same_first : (x : List ℕ) (last : ℕ) (more : List ℕ) → slice_index (x ++ last ∷ []) 0 ≡ slice_index (x ++ last ∷ more) 0
same_first [] last more = refl
same_first (c ∷ x) last more = refl

-- a spelling that isn't malformed looks at no more than the next byte
widen : (mark : ℕ) (s : Spelling) (x : List ℕ) (last : ℕ) (more : List ℕ) → is_some (stands_for s) ≡ true → IsSpelling mark s (x ++ last ∷ []) → IsSpelling mark s (x ++ last ∷ more)
widen mark (Plain b) x last more good is = is
widen mark (Skip blanks) x last more good is = (is.0, ap is_blank (sym (same_first x last more)) ∙ is.1)
widen mark (Hex a b) x last more good is = is
widen mark (Decimal digits) x last more good is =
    ((is.0.0, is.0.1, is.0.2, λ few. ap is_ascii_digit (sym (same_first x last more)) ∙ is.0.3 few), is.1)
widen mark (CodePoint digits) x last more good is = is
widen mark LineEnd x last more good is = tt
widen mark (Escaped b) x last more good is = (is.0, is.1, is.2, is.3, λ same next. is.4 same (same_first x last more ∙ next))
widen mark CutShort x last more good is = absurd (cc)
widen mark BadHex x last more good is = absurd (cc)
widen mark BadCodePoint x last more good is = absurd (cc)
widen mark (BadDecimal digits) x last more good is = absurd (cc)

pub widen_all : (mark : ℕ) (inside : List Spelling) (last : ℕ) (more : List ℕ) → are_well_formed inside ≡ true → AreSpellings mark inside (last ∷ []) → AreSpellings mark inside (last ∷ more)
widen_all mark [] last more good are = tt
widen_all mark (s ∷ inside) last more good are =
    and_at (is_some (stands_for s)) (are_well_formed inside) good
    (λ here rest. (widen mark s (flat_map written inside) last more here are.0, widen_all mark inside last more rest are.1))
