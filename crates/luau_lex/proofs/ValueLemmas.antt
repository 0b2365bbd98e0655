-- What strings stand for, in the words of their laws.
use Rattle.std.proofs.Common.{◌≡◌, ◌≢◌, inl, inr, ℕ, ◌+◌, ◌-◌, ◌*◌, ◌≤◌, Bool, true, false, ◌&&◌, nat_lt, eqb, cond, List, [], ◌∷◌, ◌++◌, length, take, drop, slice_index, replicate, map, flat_map, codes, encode_utf8, sym, refl, ap, ◌∙◌, arith, append_assoc, length-append, eqb-true, ne_eqb}
use Rattle.std.proofs.Math.Seq.{take-append_seam, drop-append_seam}
use Rattle.std.proofs.Math.Utf8.{encode}
use Rattle.luau_lex.specs.declared.token.Kind.{Kind}
use Rattle.luau_lex.specs.declared.token.Kind.TheVariants.{Name, Word, Numeral, Quoted, Long, Whole, Begin, Mid, End, Sign}
use Rattle.luau_lex.specs.Bytes.{line_feed, carriage_return, double_quote, single_quote, equals, bracket, closing_bracket, backquote, brace, closing_brace}
use Rattle.luau_lex.specs.Computed.Brackets.{equals_len}
use Rattle.luau_lex.specs.Numbers.{digit_number, number_behind, number_in, utf8_scheme}
use Rattle.luau_lex.specs.Computed.Strings.{value_of_inside}
use Rattle.luau_lex.specs.Spellings.{Spelling, written, AreSpellings, stand_for}
use Rattle.luau_lex.specs.Computed.Values.{between_marks, long_value, marked_value, string_value}
use Rattle.luau_lex.specs.LineEnds.{is_line_end_pair, without_first_line_end, with_line_feeds}
use Rattle.luau_lex.specs.Forms.{IsMarked, bracket_of, in_brackets, HasForm}
use Rattle.luau_lex.specs.Values.{is_string, MarkedStandsFor, StandsFor}
use Rattle.luau_lex.proofs.MeaningLemmas.{narrow_all, value_spelled}
use Rattle.luau_lex.proofs.LongLemmas.{signs_in, bracket_len}

-- what stands between an opening and a closing of one length
between : (mark : ℕ) (a body b : List ℕ) → length a ≡ mark → length b ≡ mark → between_marks mark (a ++ (body ++ b)) ≡ body
unfolding between_marks
between mark a body b first last =
    let width : length (a ++ (body ++ b)) - 2 * mark ≡ length body = omega (arith, length-append a (body ++ b), length-append body b, first, last) in
    let rest : drop mark (a ++ (body ++ b)) ≡ body ++ b = ap (λ k. drop k (a ++ (body ++ b))) (sym first) ∙ drop-append_seam a (body ++ b) in
    ap (λ k. take k (drop mark (a ++ (body ++ b)))) width ∙ ap (take (length body)) rest ∙ take-append_seam body b

marked_stands : (mark first last : ℕ) (inside : List Spelling) → AreSpellings mark inside (last ∷ []) → marked_value (first ∷ (flat_map written inside ++ last ∷ [])) ≡ stand_for inside
unfolding marked_value
marked_stands mark first last inside are =
    ap value_of_inside (between 1 (first ∷ []) (flat_map written inside) (last ∷ []) refl refl)
    ∙ value_spelled mark inside (narrow_all mark inside [] (last ∷ []) are)

-- a string in long brackets stands for its body, line by line
long_stands : (signs : ℕ) (body : List ℕ) → string_value Long (in_brackets signs body) ≡ with_line_feeds (without_first_line_end body)
unfolding long_value
long_stands signs body =
    let a = bracket_of bracket signs in
    let b = bracket_of closing_bracket signs in
    let bytes = a ++ (body ++ b) in
    let level : equals_len (drop 1 bytes) ≡ signs = ap equals_len (append_assoc (replicate signs equals) (bracket ∷ []) (body ++ b)) ∙ signs_in bracket signs (body ++ b) refl in
    ap (λ k. with_line_feeds (without_first_line_end (between_marks (k + 2) bytes))) level
    ∙ ap (λ l. with_line_feeds (without_first_line_end l)) (between (signs + 2) a body b (bracket_len bracket signs) (bracket_len closing_bracket signs))

-- what is computed is what a string stands for
pub stands_so : (kind : Kind) (bytes : List ℕ) → StandsFor kind bytes (string_value kind bytes)
stands_so Name bytes = λ mark first last inside is are. ap marked_value is ∙ marked_stands mark first last inside are
stands_so Word bytes = λ mark first last inside is are. ap marked_value is ∙ marked_stands mark first last inside are
stands_so Numeral bytes = λ mark first last inside is are. ap marked_value is ∙ marked_stands mark first last inside are
stands_so Quoted bytes = λ mark first last inside is are. ap marked_value is ∙ marked_stands mark first last inside are
stands_so Long bytes = λ signs body is. ap (string_value Long) is ∙ long_stands signs body
stands_so Whole bytes = λ mark first last inside is are. ap marked_value is ∙ marked_stands mark first last inside are
stands_so Begin bytes = λ mark first last inside is are. ap marked_value is ∙ marked_stands mark first last inside are
stands_so Mid bytes = λ mark first last inside is are. ap marked_value is ∙ marked_stands mark first last inside are
stands_so End bytes = λ mark first last inside is are. ap marked_value is ∙ marked_stands mark first last inside are
stands_so Sign bytes = λ mark first last inside is are. ap marked_value is ∙ marked_stands mark first last inside are

one_marked : (mark first last : ℕ) (bytes v w : List ℕ) → IsMarked mark first last bytes → MarkedStandsFor bytes v → MarkedStandsFor bytes w → v ≡ w
one_marked mark first last bytes v w is f g = f mark first last is.0 is.1 is.2 ∙ sym (g mark first last is.0 is.1 is.2)

-- and it stands for nothing else
pub one_value : (kind : Kind) (bytes v w : List ℕ) → is_string kind ≡ true → HasForm kind bytes → StandsFor kind bytes v → StandsFor kind bytes w → v ≡ w
one_value Quoted bytes v w string (inl is) f g = one_marked double_quote double_quote double_quote bytes v w is f g
one_value Quoted bytes v w string (inr is) f g = one_marked single_quote single_quote single_quote bytes v w is f g
one_value Long bytes v w string is f g = f is.0 is.1 is.2.0 ∙ sym (g is.0 is.1 is.2.0)
one_value Whole bytes v w string is f g = one_marked backquote backquote backquote bytes v w is f g
one_value Begin bytes v w string is f g = one_marked backquote backquote brace bytes v w is f g
one_value Mid bytes v w string is f g = one_marked backquote closing_brace brace bytes v w is f g
one_value End bytes v w string is f g = one_marked backquote closing_brace backquote bytes v w is f g
one_value Name bytes v w string is f g = absurd (cc)
one_value Word bytes v w string is f g = absurd (cc)
one_value Numeral bytes v w string is f g = absurd (cc)
one_value Sign bytes v w string is f g = absurd (cc)

pub feed_dropped : (body : List ℕ) → without_first_line_end (line_feed ∷ body) ≡ body
unfolding without_first_line_end
feed_dropped body = refl

pub pair_dropped : (body : List ℕ) → without_first_line_end (carriage_return ∷ line_feed ∷ body) ≡ body
unfolding without_first_line_end
pair_dropped body = refl

no_feed : (body : List ℕ) → ((behind : List ℕ) → body ≢ line_feed ∷ behind) → eqb (slice_index body 0) line_feed ≡ false
no_feed [] other = refl
no_feed (b ∷ body) other = ne_eqb b line_feed (λ same. other body (ap (λ k. k ∷ body) same))

not_both : (a b : Bool) → (a ≡ true → b ≡ true → ⊥) → a && b ≡ false
not_both true true h = absurd (h refl refl)
not_both true false h = refl
not_both false b h = refl

no_pair_first : (body : List ℕ) → ((behind : List ℕ) → body ≢ carriage_return ∷ line_feed ∷ behind) → is_line_end_pair body ≡ false
no_pair_first [] other = refl
no_pair_first (b ∷ []) other = not_both (eqb b carriage_return) (eqb 0 line_feed) (λ _ h. cc)
no_pair_first (b ∷ c ∷ body) other =
    not_both (eqb b carriage_return) (eqb c line_feed)
    (λ first second. other body (ap (λ k. k ∷ c ∷ body) (eqb-true b carriage_return first) ∙ ap (λ k. carriage_return ∷ k ∷ body) (eqb-true c line_feed second)))

pub none_dropped : (body : List ℕ) → ((behind : List ℕ) → body ≢ line_feed ∷ behind) → ((behind : List ℕ) → body ≢ carriage_return ∷ line_feed ∷ behind) → without_first_line_end body ≡ body
unfolding without_first_line_end
none_dropped body no_line no_pair =
    ap (λ t. cond t (drop 1 body) (cond (is_line_end_pair body) (drop 2 body) body)) (no_feed body no_line)
    ∙ ap (λ t. cond t (drop 2 body) body) (no_pair_first body no_pair)

-- a pair behind a byte isn't of that byte
feed_behind : (before behind : List ℕ) → eqb (slice_index (before ++ carriage_return ∷ line_feed ∷ behind) 0) line_feed ≡ eqb (slice_index before 0) line_feed
feed_behind [] behind = refl
feed_behind (c ∷ before) behind = refl

chosen_behind : (t : Bool) (b : ℕ) (x y : List ℕ) → cond t (x ++ y) (b ∷ (x ++ y)) ≡ cond t x (b ∷ x) ++ y
chosen_behind true b x y = refl
chosen_behind false b x y = refl

pub line_pairs : (before behind : List ℕ) → with_line_feeds (before ++ carriage_return ∷ line_feed ∷ behind) ≡ with_line_feeds before ++ line_feed ∷ with_line_feeds behind
line_pairs [] behind = refl
line_pairs (b ∷ before) behind =
    let l = before ++ carriage_return ∷ line_feed ∷ behind in
    ap (λ t. cond (eqb b carriage_return && t) (with_line_feeds l) (b ∷ with_line_feeds l)) (feed_behind before behind)
    ∙ ap (λ w. cond (eqb b carriage_return && eqb (slice_index before 0) line_feed) w (b ∷ w)) (line_pairs before behind)
    ∙ chosen_behind (eqb b carriage_return && eqb (slice_index before 0) line_feed) b (with_line_feeds before) (line_feed ∷ with_line_feeds behind)

pub lines_kept : (text : List ℕ) → ((before behind : List ℕ) → text ≢ before ++ carriage_return ∷ line_feed ∷ behind) → with_line_feeds text ≡ text
lines_kept [] none = refl
lines_kept (b ∷ text) none =
    ap (λ t. cond t (with_line_feeds text) (b ∷ with_line_feeds text)) (no_pair_first (b ∷ text) (λ behind. none [] behind))
    ∙ ap (λ l. b ∷ l) (lines_kept text (λ before behind same. none (b ∷ before) behind (ap (λ l. b ∷ l) same)))

number_further : (base n d : ℕ) (digits : List ℕ) → number_behind base n (digits ++ d ∷ []) ≡ base * number_behind base n digits + digit_number d
number_further base n d [] = refl
number_further base n d (e ∷ digits) = number_further base (base * n + digit_number e) d digits

pub digits_further : (base d : ℕ) (digits : List ℕ) → number_in base (digits ++ d ∷ []) ≡ base * number_in base digits + digit_number d
digits_further base d digits = number_further base 0 d digits

pub decimal_digits : map digit_number (codes "0123456789") ≡ 0 ∷ 1 ∷ 2 ∷ 3 ∷ 4 ∷ 5 ∷ 6 ∷ 7 ∷ 8 ∷ 9 ∷ []
unfolding digit_number
decimal_digits = refl

pub small_digits : map digit_number (codes "abcdef") ≡ 10 ∷ 11 ∷ 12 ∷ 13 ∷ 14 ∷ 15 ∷ []
unfolding digit_number
small_digits = refl

pub large_digits : map digit_number (codes "ABCDEF") ≡ 10 ∷ 11 ∷ 12 ∷ 13 ∷ 14 ∷ 15 ∷ []
unfolding digit_number
large_digits = refl

pub scheme_is : (n : ℕ) → utf8_scheme n ≡ encode_utf8 n
unfolding utf8_scheme encode
scheme_is n = refl

pub surrogates_three : (n : ℕ) → 0xD800 ≤ n → n ≤ 0xDFFF → length (utf8_scheme n) ≡ 3
unfolding utf8_scheme
surrogates_three n least most =
    let e0 : nat_lt n 0x80 ≡ false = grind arith in
    let e1 : nat_lt n 0x800 ≡ false = grind arith in
    let e2 : nat_lt n 0x10000 ≡ true = grind arith in
    simp (e0, e1, e2)
