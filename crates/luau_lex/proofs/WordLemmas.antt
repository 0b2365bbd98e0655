-- The word of a numeral is the longest that looks like one.
use Rattle.std.proofs.Common.{◌≡◌, inl, inr, ℕ, zero, suc, ◌+◌, ◌-◌, ◌<◌, ◌≤◌, Bool, true, false, ◌&&◌, ◌||◌, eqb, cond, List, [], ◌∷◌, ◌++◌, length, take, drop, get_or, slice_index, sym, refl, ap, subst, ◌∙◌, arith, append_assoc, add-zero, le_of_lt, length-append, length-drop, eqb-true}
use Rattle.std.specs.List.{prefix_len, list_all}
use Rattle.std.specs.Char.{is_ascii_digit}
use Rattle.std.proofs.str.Laws.{order}
use Rattle.std.proofs.Math.Seq.{drop-append_seam, drop-append-add, take-add, take-length}
use Rattle.std.proofs.lemmas.List.{take-append-drop, drop-drop, drop-append-le, get_or-append-add}
use Rattle.std.proofs.lemmas.List.Sums.{prefix_len_passes}
use Rattle.luau_lex.specs.Bytes.{dot, is_name_byte, is_numeral_byte, is_digit_or_underscore, is_hex_or_underscore, is_binary_or_underscore, is_exponent_letter, is_exponent_sign}
use Rattle.luau_lex.specs.Numerals.{begins_numeral, IsExponentMark, IsNumeralWord}
use Rattle.luau_lex.specs.Computed.Numerals.{exponent_len, numeral_len, is_digits, is_exponent_or_none, after_fraction, is_decimal, is_hex_part, is_binary_part, is_numeral}
use Rattle.luau_lex.proofs.LongestLemmas.{run_all}
use Rattle.luau_lex.proofs.SpellingLemmas.{and_at, both_at, run_least}

letter_goes_on : (b : ℕ) → is_exponent_letter b ≡ true → is_name_byte b ≡ true
letter_goes_on b h = grind arith

letter_no_digit : (b : ℕ) → is_exponent_letter b ≡ true → is_numeral_byte b ≡ false
letter_no_digit b h = grind arith

sign_no_name : (b : ℕ) → is_exponent_sign b ≡ true → is_name_byte b ≡ false
sign_no_name b h = grind arith

-- how far a word goes behind its digits
abbrev pub tail_len : List ℕ → ℕ
tail_len text = exponent_len text + prefix_len is_name_byte (drop (exponent_len text) text)

tail_at : (a : ℕ) (r more : List ℕ) → list_all is_name_byte r ≡ true → is_name_byte a ≡ true → (t s : Bool) → is_exponent_letter a ≡ t → is_exponent_sign (slice_index (r ++ more) 0) ≡ s → suc (length r) ≤ tail_len (a ∷ (r ++ more))
unfolding exponent_len
tail_at a r more all here false s letter sign =
    let none : exponent_len (a ∷ (r ++ more)) ≡ 0 = ap (λ t. cond t (cond (is_exponent_sign (slice_index (r ++ more) 0)) 2 1) 0) letter in
    let least = run_least is_name_byte (a ∷ r) more (both_at _ _ here all) in
    subst (λ k. suc (length r) ≤ k + prefix_len is_name_byte (drop k (a ∷ (r ++ more)))) (sym none) (omega (arith, least))
tail_at a r more all here true false letter sign =
    let one : exponent_len (a ∷ (r ++ more)) ≡ 1 = ap (λ t. cond t (cond (is_exponent_sign (slice_index (r ++ more) 0)) 2 1) 0) letter ∙ ap (λ t. cond t 2 1) sign in
    let least = run_least is_name_byte r more all in
    subst (λ k. suc (length r) ≤ k + prefix_len is_name_byte (drop k (a ∷ (r ++ more)))) (sym one) (omega (arith, least))
tail_at a [] more all here true true letter sign =
    let two : exponent_len (a ∷ more) ≡ 2 = ap (λ t. cond t (cond (is_exponent_sign (slice_index more 0)) 2 1) 0) letter ∙ ap (λ t. cond t 2 1) sign in
    subst (λ k. 1 ≤ k + prefix_len is_name_byte (drop k (a ∷ more))) (sym two) (omega arith)
tail_at a (b ∷ r) more all here true true letter sign =
    and_at (is_name_byte b) (list_all is_name_byte r) all (λ name _. let wrong = sign_no_name b sign in absurd (cc))

-- it goes over all that a name goes on with
tail_names : (r more : List ℕ) → list_all is_name_byte r ≡ true → length r ≤ tail_len (r ++ more)
tail_names [] more all = omega arith
tail_names (a ∷ r) more all =
    and_at (is_name_byte a) (list_all is_name_byte r) all
    (λ here rest. tail_at a r more rest here (is_exponent_letter a) (is_exponent_sign (slice_index (r ++ more) 0)) refl refl)

-- and over a letter and a sign and what follows them
tail_signed : (letter sign : ℕ) (r more : List ℕ) → is_exponent_letter letter ≡ true → is_exponent_sign sign ≡ true → list_all is_name_byte r ≡ true → suc (suc (length r)) ≤ tail_len (letter ∷ sign ∷ (r ++ more))
unfolding exponent_len
tail_signed letter sign r more is_letter is_sign all =
    let two : exponent_len (letter ∷ sign ∷ (r ++ more)) ≡ 2 = ap (λ t. cond t (cond (is_exponent_sign sign) 2 1) 0) is_letter ∙ ap (λ t. cond t 2 1) is_sign in
    let least = run_least is_name_byte r more all in
    subst (λ k. suc (suc (length r)) ≤ k + prefix_len is_name_byte (drop k (letter ∷ sign ∷ (r ++ more)))) (sym two) (omega (arith, least))

tail_mark : (mark rest more : List ℕ) → IsExponentMark mark → list_all is_name_byte rest ≡ true → length (mark ++ rest) ≤ tail_len ((mark ++ rest) ++ more)
tail_mark mark rest more (inl none) all =
    subst (λ k. length (k ++ rest) ≤ tail_len ((k ++ rest) ++ more)) (sym none) (tail_names rest more all)
tail_mark mark rest more (inr h) all =
    elim h.2 [
      | inl one ↦ subst (λ k. length (k ++ rest) ≤ tail_len ((k ++ rest) ++ more)) (sym one) (tail_names (h.0 ∷ rest) more (both_at _ _ (letter_goes_on h.0 h.1) all))
      | inr two ↦ subst (λ k. length (k ++ rest) ≤ tail_len ((k ++ rest) ++ more)) (sym two.2) (tail_signed h.0 two.0 rest more h.1 two.1 all)
    ]

numeral_len_is : (text : List ℕ) → numeral_len text ≡ prefix_len is_numeral_byte text + tail_len (drop (prefix_len is_numeral_byte text) text)
unfolding numeral_len
numeral_len_is text =
    let d = prefix_len is_numeral_byte text in
    let e = exponent_len (drop d text) in
    let same : drop (d + e) text ≡ drop e (drop d text) = sym (drop-drop e d text) in
    ap (λ l. d + e + prefix_len is_name_byte l) same ∙ omega arith

all_drop : (p : ℕ → Bool) (n : ℕ) (xs : List ℕ) → list_all p xs ≡ true → list_all p (drop n xs) ≡ true
all_drop p zero xs all = all
all_drop p (suc n) [] all = refl
all_drop p (suc n) (x ∷ xs) all = and_at (p x) (list_all p xs) all (λ _ more. all_drop p n xs more)

-- a mark of an exponent isn't reached by the digits
mark_first : (mark rest : List ℕ) → IsExponentMark mark → is_numeral_byte (slice_index (mark ++ rest) 0) ≡ true → mark ≡ []
mark_first mark rest (inl none) digit = none
mark_first mark rest (inr h) digit =
    let no_digit = letter_no_digit h.0 h.1 in
    elim h.2 [
      | inl one ↦ absurd (let same = ap (λ k. is_numeral_byte (slice_index (k ++ rest) 0)) one in cc)
      | inr two ↦ absurd (let same = ap (λ k. is_numeral_byte (slice_index (k ++ rest) 0)) two.2 in cc)
    ]

bound_exact : (digits mark rest more : List ℕ) → IsExponentMark mark → list_all is_name_byte rest ≡ true → prefix_len is_numeral_byte ((digits ++ (mark ++ rest)) ++ more) ≡ length digits → length (digits ++ (mark ++ rest)) ≤ numeral_len ((digits ++ (mark ++ rest)) ++ more)
bound_exact digits mark rest more is_mark names same =
    let text = (digits ++ (mark ++ rest)) ++ more in
    let tail = (mark ++ rest) ++ more in
    let left : drop (prefix_len is_numeral_byte text) text ≡ tail =
    ap (λ k. drop k text) same ∙ ap (drop (length digits)) (append_assoc digits (mark ++ rest) more) ∙ drop-append_seam digits tail in
    omega (arith, numeral_len_is text, ap tail_len left, tail_mark mark rest more is_mark names, length-append digits (mark ++ rest), same)

bound_names : (digits rest more : List ℕ) → list_all is_name_byte rest ≡ true → length digits ≤ prefix_len is_numeral_byte ((digits ++ rest) ++ more) → prefix_len is_numeral_byte ((digits ++ rest) ++ more) < length (digits ++ rest) → length (digits ++ rest) ≤ numeral_len ((digits ++ rest) ++ more)
bound_names digits rest more names least short =
    let word = digits ++ rest in
    let text = word ++ more in
    let d = prefix_len is_numeral_byte text in
    let k = d - length digits in
    let far : d ≡ length digits + k = omega arith in
    let left : drop d text ≡ drop k rest ++ more =
    drop-append-le d word more (omega arith) ∙ ap (λ l. l ++ more) (ap (λ j. drop j word) far ∙ drop-append-add digits rest k) in
    omega (arith, numeral_len_is text, ap tail_len left, tail_names (drop k rest) more (all_drop is_name_byte k rest names), length-append digits rest, length-drop k rest)

bound_further : (digits mark rest more : List ℕ) → IsExponentMark mark → list_all is_name_byte rest ≡ true → length digits < prefix_len is_numeral_byte ((digits ++ (mark ++ rest)) ++ more) → length (digits ++ (mark ++ rest)) ≤ numeral_len ((digits ++ (mark ++ rest)) ++ more)
bound_further digits mark rest more is_mark names further =
    let text = (digits ++ (mark ++ rest)) ++ more in
    let tail = (mark ++ rest) ++ more in
    let next : is_numeral_byte (get_or text (length digits) 0) ≡ true = prefix_len_passes is_numeral_byte text (length digits) 0 further in
    let there : get_or text (length digits) 0 ≡ slice_index (mark ++ (rest ++ more)) 0 =
    ap (λ l. get_or l (length digits) 0) (append_assoc digits (mark ++ rest) more)
    ∙ ap (λ n. get_or (digits ++ tail) n 0) (sym (add-zero (length digits)))
    ∙ get_or-append-add digits tail 0 0 ∙ ap (λ l. slice_index l 0) (append_assoc mark rest more) in
    let none : mark ≡ [] = mark_first mark (rest ++ more) is_mark (ap is_numeral_byte (sym there) ∙ next) in
    let further' = subst (λ k. length digits < prefix_len is_numeral_byte ((digits ++ (k ++ rest)) ++ more)) none further in
    subst (λ k. length (digits ++ (k ++ rest)) ≤ numeral_len ((digits ++ (k ++ rest)) ++ more)) (sym none)
    (elim (order (prefix_len is_numeral_byte ((digits ++ rest) ++ more)) (length (digits ++ rest))) [
      | inl short ↦ bound_names digits rest more names (le_of_lt further') short
      | inr long ↦ omega (arith, numeral_len_is ((digits ++ rest) ++ more), long)
    ])

-- what looks like a numeral at the front is no longer than the word
word_bound : (digits mark rest more : List ℕ) → list_all is_numeral_byte digits ≡ true → IsExponentMark mark → list_all is_name_byte rest ≡ true → length (digits ++ (mark ++ rest)) ≤ numeral_len ((digits ++ (mark ++ rest)) ++ more)
word_bound digits mark rest more all is_mark names =
    let text = (digits ++ (mark ++ rest)) ++ more in
    let least = subst (λ l. length digits ≤ prefix_len is_numeral_byte l) (sym (append_assoc digits (mark ++ rest) more)) (run_least is_numeral_byte digits ((mark ++ rest) ++ more) all) in
    elim (order (length digits) (prefix_len is_numeral_byte text)) [
      | inl further ↦ bound_further digits mark rest more is_mark names further
      | inr exact ↦ bound_exact digits mark rest more is_mark names (omega (arith, least, exact))
    ]

pub word_longest : (bytes more : List ℕ) → IsNumeralWord bytes → length bytes ≤ numeral_len (bytes ++ more)
word_longest bytes more is =
    subst (λ l. length l ≤ numeral_len (l ++ more)) (sym is.3) (word_bound is.0 is.1 is.2 more is.5 is.6 is.7)

-- the word that is read looks like a numeral
pub all_of_len : (p : ℕ → Bool) (xs : List ℕ) → prefix_len p xs ≡ length xs → list_all p xs ≡ true
all_of_len p xs whole = ap (list_all p) (sym (ap (λ n. take n xs) whole ∙ take-length xs)) ∙ run_all p xs

read_mark_at : (a b : ℕ) (t s : Bool) → is_exponent_letter a ≡ t → is_exponent_sign b ≡ s → (text : List ℕ) → text ≡ a ∷ b ∷ drop 2 text → IsExponentMark (take (cond t (cond s 2 1) 0) text)
read_mark_at a b false s letter sign text is = inl refl
read_mark_at a b true false letter sign text is = inr (a, letter, inl (ap (take 1) is))
read_mark_at a b true true letter sign text is = inr (a, letter, inr (b, sign, ap (take 2) is))

take_nothing : (n : ℕ) → ◌≡◌ {A = List ℕ} (take n []) []
take_nothing zero = refl
take_nothing (suc n) = refl

one_mark : (a : ℕ) (t : Bool) → is_exponent_letter a ≡ t → IsExponentMark (take (cond t (cond (is_exponent_sign 0) 2 1) 0) (a ∷ []))
one_mark a false letter = inl refl
one_mark a true letter = inr (a, letter, inl refl)

read_mark : (text : List ℕ) → IsExponentMark (take (exponent_len text) text)
unfolding exponent_len
read_mark [] = inl (take_nothing (exponent_len []))
read_mark (a ∷ []) = one_mark a (is_exponent_letter a) refl
read_mark (a ∷ b ∷ text) = read_mark_at a b (is_exponent_letter a) (is_exponent_sign b) refl refl (a ∷ b ∷ text) refl

pub word_there : (text : List ℕ) → begins_numeral text ≡ true → begins_numeral (take (numeral_len text) text) ≡ true → IsNumeralWord (take (numeral_len text) text)
unfolding numeral_len
word_there text begins front =
    let d = prefix_len is_numeral_byte text in
    let e = exponent_len (drop d text) in
    let r = prefix_len is_name_byte (drop (d + e) text) in
    let far : d + e + r ≡ d + (e + r) = omega arith in
    let whole : take (d + e + r) text ≡ take d text ++ (take e (drop d text) ++ take r (drop (d + e) text)) =
    ap (λ k. take k text) far ∙ take-add d (e + r) text
    ∙ ap (λ l. take d text ++ l) (take-add e r (drop d text) ∙ ap (λ l. take e (drop d text) ++ take r l) (drop-drop e d text)) in
    (take d text, take e (drop d text), take r (drop (d + e) text), whole, front, run_all is_numeral_byte text, read_mark (drop d text), run_all is_name_byte (drop (d + e) text))

-- a numeral looks like one
all_further : (p q : ℕ → Bool) (xs : List ℕ) → ((b : ℕ) → p b ≡ true → q b ≡ true) → list_all p xs ≡ true → list_all q xs ≡ true
all_further p q [] h all = refl
all_further p q (x ∷ xs) h all = and_at (p x) (list_all p xs) all (λ here more. both_at _ _ (h x here) (all_further p q xs h more))

pub all_both : (p : ℕ → Bool) (xs ys : List ℕ) → list_all p xs ≡ true → list_all p ys ≡ true → list_all p (xs ++ ys) ≡ true
all_both p [] ys all more = more
all_both p (x ∷ xs) ys all more = and_at (p x) (list_all p xs) all (λ here rest. both_at _ _ here (all_both p xs ys rest more))

hex_goes_on : (b : ℕ) → is_hex_or_underscore b ≡ true → is_name_byte b ≡ true
hex_goes_on b h = grind arith

binary_goes_on : (b : ℕ) → is_binary_or_underscore b ≡ true → is_name_byte b ≡ true
binary_goes_on b h = grind arith

digit_goes_on : (b : ℕ) → is_digit_or_underscore b ≡ true → is_name_byte b ≡ true
digit_goes_on b h = grind arith

digit_in_numeral : (b : ℕ) → is_digit_or_underscore b ≡ true → is_numeral_byte b ≡ true
digit_in_numeral b h = ap (λ t. t || eqb b dot) h

base_goes_on : (b : ℕ) → (eqb b 120 || eqb b 88) ≡ true → is_name_byte b ≡ true
base_goes_on b h = grind arith

bits_goes_on : (b : ℕ) → (eqb b 98 || eqb b 66) ≡ true → is_name_byte b ≡ true
bits_goes_on b h = grind arith

-- a zero, a letter and what goes on as a name does
based : (word : List ℕ) → begins_numeral word ≡ true → slice_index word 0 ≡ 48 → is_name_byte (slice_index word 1) ≡ true → list_all is_name_byte (drop 2 word) ≡ true → IsNumeralWord word
based [] begins zeroth letter all = absurd (omega (arith, zeroth))
based (a ∷ []) begins zeroth letter all = absurd (cc)
based (a ∷ b ∷ word) begins zeroth letter all =
    (a ∷ [], [], b ∷ word, refl, begins, ap (λ k. is_numeral_byte k && true) zeroth, inl refl, both_at _ _ letter all)

hex_word : (word : List ℕ) → begins_numeral word ≡ true → slice_index word 0 ≡ 48 → (eqb (slice_index word 1) 120 || eqb (slice_index word 1) 88) ≡ true → is_hex_part (drop 2 word) ≡ true → IsNumeralWord word
unfolding is_hex_part
hex_word word begins zeroth base part =
    and_at (eqb (prefix_len is_hex_or_underscore (drop 2 word)) (length (drop 2 word))) _ part
    (λ whole _. based word begins zeroth (base_goes_on (slice_index word 1) base)
    (all_further is_hex_or_underscore is_name_byte (drop 2 word) hex_goes_on (all_of_len is_hex_or_underscore (drop 2 word) (eqb-true _ _ whole))))

binary_word : (word : List ℕ) → begins_numeral word ≡ true → slice_index word 0 ≡ 48 → (eqb (slice_index word 1) 98 || eqb (slice_index word 1) 66) ≡ true → is_binary_part (drop 2 word) ≡ true → IsNumeralWord word
unfolding is_binary_part
binary_word word begins zeroth base part =
    and_at (eqb (prefix_len is_binary_or_underscore (drop 2 word)) (length (drop 2 word))) _ part
    (λ whole _. based word begins zeroth (bits_goes_on (slice_index word 1) base)
    (all_further is_binary_or_underscore is_name_byte (drop 2 word) binary_goes_on (all_of_len is_binary_or_underscore (drop 2 word) (eqb-true _ _ whole))))

-- a dot and digits, or nothing, stand before what is left after a fraction
fraction_at : (text : List ℕ) (t : Bool) → eqb (slice_index text 0) dot ≡ t → (front : List ℕ) × (text ≡ front ++ cond t (drop (prefix_len is_digit_or_underscore (drop 1 text)) (drop 1 text)) text) × (list_all is_numeral_byte front ≡ true)
fraction_at text false is = ([], refl, refl)
fraction_at [] true is = absurd (cc)
fraction_at (b ∷ text) true is =
    let n = prefix_len is_digit_or_underscore text in (
      b ∷ take n text,
      ap (λ l. b ∷ l) (sym (take-append-drop n text)),
      both_at _ _ (ap is_numeral_byte (eqb-true b dot is)) (all_further is_digit_or_underscore is_numeral_byte (take n text) digit_in_numeral (run_all is_digit_or_underscore text)),
    )

fraction : (text : List ℕ) → (front : List ℕ) × (text ≡ front ++ after_fraction text) × (list_all is_numeral_byte front ≡ true)
unfolding after_fraction
fraction text = fraction_at text (eqb (slice_index text 0) dot) refl

-- an exponent, or nothing, is its mark and what goes on as a name does
exponent_at : (text : List ℕ) (t : Bool) → eqb (length text) 0 ≡ t → cond t true (is_exponent_letter (slice_index text 0) && is_digits (drop (exponent_len text) text)) ≡ true → (mark : List ℕ) × (rest : List ℕ) × (text ≡ mark ++ rest) × IsExponentMark mark × (list_all is_name_byte rest ≡ true)
unfolding is_digits
exponent_at [] true is h = ([], [], refl, inl refl, refl)
exponent_at (b ∷ text) true is h = absurd (let wrong : suc (length text) ≡ 0 = eqb-true _ _ is in omega arith)
exponent_at text false is h =
    let e = exponent_len text in
    and_at (is_exponent_letter (slice_index text 0)) _ h
    (λ _ digits. and_at (is_ascii_digit (slice_index (drop e text) 0)) _ digits
    (λ _ whole. (
      take e text,
      drop e text,
      sym (take-append-drop e text),
      read_mark text,
      all_further is_digit_or_underscore is_name_byte (drop e text) digit_goes_on (all_of_len is_digit_or_underscore (drop e text) (eqb-true _ _ whole)),
    )))

decimal_word : (word : List ℕ) → begins_numeral word ≡ true → is_decimal word ≡ true → IsNumeralWord word
unfolding is_decimal is_exponent_or_none
decimal_word word begins is =
    let p = prefix_len is_digit_or_underscore word in
    let f = fraction (drop p word) in
    let text = after_fraction (drop p word) in
    let x = exponent_at text (eqb (length text) 0) refl is in
    let digits = take p word ++ f.0 in
    let whole : word ≡ digits ++ (x.0 ++ x.1) =
    sym (take-append-drop p word) ∙ ap (λ l. take p word ++ l) (f.1 ∙ ap (λ l. f.0 ++ l) x.2) ∙ sym (append_assoc (take p word) f.0 (x.0 ++ x.1)) in
    let all = all_both is_numeral_byte (take p word) f.0 (all_further is_digit_or_underscore is_numeral_byte (take p word) digit_in_numeral (run_all is_digit_or_underscore word)) f.2 in
    (digits, x.0, x.1, whole, begins, all, x.3, x.4)

pub choose_is : {C : Type 0} (t : Bool) (x y : Bool) → cond t x y ≡ true → (t ≡ true → x ≡ true → C) → (t ≡ false → y ≡ true → C) → C
choose_is true x y h f g = f refl h
choose_is false x y h f g = g refl h

-- a numeral looks like one
pub numeral_word : (word : List ℕ) → begins_numeral word ≡ true → is_numeral word ≡ true → IsNumeralWord word
unfolding is_numeral
numeral_word word begins is =
    let second = slice_index word 1 in
    let hex = eqb (slice_index word 0) 48 && (eqb second 120 || eqb second 88) in
    let binary = eqb (slice_index word 0) 48 && (eqb second 98 || eqb second 66) in
    choose_is hex (is_hex_part (drop 2 word)) (cond binary (is_binary_part (drop 2 word)) (is_decimal word)) is
    (λ h part. and_at (eqb (slice_index word 0) 48) (eqb second 120 || eqb second 88) h (λ zeroth base. hex_word word begins (eqb-true _ _ zeroth) base part))
    (λ _ more. choose_is binary (is_binary_part (drop 2 word)) (is_decimal word) more
    (λ h part. and_at (eqb (slice_index word 0) 48) (eqb second 98 || eqb second 66) h (λ zeroth base. binary_word word begins (eqb-true _ _ zeroth) base part))
    (λ _ decimal. decimal_word word begins decimal))
