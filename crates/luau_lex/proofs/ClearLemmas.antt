-- No sign stands where a long bracket opens, and no brace behind the one that leaves a string.
use Rattle.std.proofs.Common.{◌≡◌, ◌≢◌, ℕ, suc, ◌+◌, ◌-◌, ◌≤◌, true, eqb, cond, List, [], ◌∷◌, take, drop, slice_index, Option, Some, None, sym, refl, ap, subst, ◌∙◌, arith, add-zero, get_or-drop}
use Rattle.std.proofs.lemmas.Bool.{eqb-false}
use Rattle.luau_lex.specs.declared.token.Kind.{Kind}
use Rattle.luau_lex.specs.declared.token.Kind.TheVariants.{Name, Word, Numeral, Quoted, Long, Whole, Begin, Mid, End, Sign}
use Rattle.luau_lex.specs.declared.token.LexError.TheVariants.{UnfinishedString, DoubleBrace}
use Rattle.luau_lex.specs.declared.piece.Piece.TheVariants.{Found, Faulty}
use Rattle.luau_lex.specs.declared.piece.Open.{Open}
use Rattle.luau_lex.specs.Bytes.{bracket, backquote, brace, closing_brace}
use Rattle.luau_lex.specs.Computed.Brackets.{level, closing_place}
use Rattle.luau_lex.specs.Computed.Strings.{inside_len, malformed_at}
use Rattle.luau_lex.specs.Computed.Pieces.{unless_malformed, part_piece, long_of, long_piece, bracket_or_sign, part_open, innermost, closing_piece, piece}
use Rattle.luau_lex.specs.Token.{Tok}
use Rattle.luau_lex.specs.Computed.Tokens.{token_at}
use Rattle.luau_lex.specs.Places.{StandInOrder}
use Rattle.luau_lex.specs.Computed.Reads.{StandsHere}
use Rattle.luau_lex.specs.Forms.{HasForm, NoneOpens}
use Rattle.luau_lex.specs.LongestTokens.{leaves_string, StandClear}
use Rattle.luau_lex.proofs.LongLemmas.{level_bracket}
use Rattle.luau_lex.proofs.FormLemmas.{choose, unless_found, begins_with, piece_form}
use Rattle.luau_lex.proofs.OrderLemmas.{left_behind}
use Rattle.luau_lex.proofs.PlaceLemmas.{front_byte, at_backquote, at_closing, at_bracket, opens_byte}
use Rattle.luau_lex.proofs.TokenLemmas.{sign_kind}

long_no_sign : {C : Type 0} (o : Option ℕ) (at signs : ℕ) (kind : Kind) (n : ℕ) → long_of at o signs ≡ Found kind n → kind ≡ Sign → C
unfolding long_of
long_no_sign None at signs kind n is sign = absurd (cc)
long_no_sign (Some place) at signs kind n is sign = absurd (cc)

level_no_sign : {C : Type 0} (signs at : ℕ) (text : List ℕ) (kind : Kind) (n : ℕ) → bracket_or_sign (Some signs) at text ≡ Found kind n → kind ≡ Sign → C
unfolding bracket_or_sign long_piece
level_no_sign signs at text kind n is sign = long_no_sign (closing_place signs (drop (signs + 2) text)) at signs kind n is sign

sign_clear : (ob : Option Open) (at : ℕ) (text : List ℕ) (kind : Kind) (n : ℕ) → piece ob at text ≡ Found kind n → kind ≡ Sign → NoneOpens text
sign_clear ob at text kind n is sign signs behind begins =
    let opens : level text ≡ Some signs = ap level begins ∙ level_bracket signs behind in
    let whole : text ≡ bracket ∷ drop 1 text = begins_with bracket text (omega arith) (opens_byte text signs opens) in
    let found = ap (λ o. bracket_or_sign o at (bracket ∷ drop 1 text)) (sym (ap level (sym whole) ∙ opens)) ∙ sym (at_bracket ob at (drop 1 text)) ∙ ap (piece ob at) (sym whole) ∙ is in
    level_no_sign signs at (bracket ∷ drop 1 text) kind n found sign

-- the byte behind a front
byte_behind : (first : ℕ) (rest : List ℕ) (n k : ℕ) → n ≡ suc k → slice_index (drop n (first ∷ rest)) 0 ≡ slice_index rest k
byte_behind first rest n k far = ap (λ j. slice_index (drop j (first ∷ rest)) 0) far ∙ get_or-drop k rest 0 0 ∙ ap (slice_index rest) (add-zero k)

part_clear : (last further : Kind) (start at first : ℕ) (rest : List ℕ) (kind : Kind) (n : ℕ) → part_piece last further start at (first ∷ rest) ≡ Found kind n → (kind ≡ last → ⊥) → slice_index (drop n (first ∷ rest)) 0 ≢ brace
unfolding part_piece
part_clear last further start at first rest kind n is other =
    let m = inside_len backquote rest in
    let bad = malformed_at (take m rest) in
    let double = eqb (slice_index rest (m + 1)) brace in
    let inner = cond double (Faulty (DoubleBrace (at + 1 + m))) (Found further (m + 2)) in
    choose (eqb (slice_index rest m) backquote) (unless_malformed at bad (Found last (m + 2))) (cond (eqb (slice_index rest m) brace) (unless_malformed at bad inner) (Faulty (UnfinishedString start))) (Found kind n) is
    (λ _ found. unless_found at bad (Found last (m + 2)) kind n found (λ _ same. absurd (other (cc))))
    (λ _ more. choose (eqb (slice_index rest m) brace) (unless_malformed at bad inner) (Faulty (UnfinishedString start)) (Found kind n) more
    (λ _ found. unless_found at bad inner kind n found
    (λ _ same. choose double (Faulty (DoubleBrace (at + 1 + m))) (Found further (m + 2)) (Found kind n) same
    (λ _ wrong. absurd (cc))
    (λ single same'.
    let width : m + 2 ≡ n = cc in
    let next : slice_index (drop n (first ∷ rest)) 0 ≡ slice_index rest (m + 1) = byte_behind first rest n (m + 1) (omega (arith, width)) in
    λ braced. eqb-false _ brace single (sym next ∙ braced))))
    (λ _ wrong. absurd (cc)))

goes_clear : (o : Option ℕ) (at : ℕ) (rest : List ℕ) (kind : Kind) (n : ℕ) → closing_piece o at (closing_brace ∷ rest) ≡ Found kind n → kind ≡ Mid → slice_index (drop n (closing_brace ∷ rest)) 0 ≢ brace
unfolding closing_piece
goes_clear None at rest kind n is mid = absurd (let sign = sign_kind at (closing_brace ∷ rest) kind n is in cc)
goes_clear (Some start) at rest kind n is mid = part_clear End Mid start at closing_brace rest kind n is (λ ends. absurd (cc))

kind_clear : (kind : Kind) (ob : Option Open) (at : ℕ) (text : List ℕ) (n : ℕ) → 1 ≤ n → HasForm kind (take n text) → piece ob at text ≡ Found kind n → leaves_string kind ≡ true → slice_index (drop n text) 0 ≢ brace
kind_clear Begin ob at text n least form is leaves =
    let whole : text ≡ backquote ∷ drop 1 text = begins_with backquote text (omega arith) (front_byte text n backquote (ap (λ l. slice_index l 0) form.1) least) in
    subst (λ l. slice_index (drop n l) 0 ≢ brace) (sym whole)
    (part_clear Whole Begin at at backquote (drop 1 text) Begin n (sym (at_backquote ob at (drop 1 text)) ∙ ap (piece ob at) (sym whole) ∙ is) (λ same. absurd (cc)))
kind_clear Mid ob at text n least form is leaves =
    let whole : text ≡ closing_brace ∷ drop 1 text = begins_with closing_brace text (omega arith) (front_byte text n closing_brace (ap (λ l. slice_index l 0) form.1) least) in
    subst (λ l. slice_index (drop n l) 0 ≢ brace) (sym whole)
    (goes_clear (part_open ob) at (drop 1 text) Mid n (sym (at_closing ob at (drop 1 text)) ∙ ap (piece ob at) (sym whole) ∙ is) refl)
kind_clear Name ob at text n least form is leaves = absurd (cc)
kind_clear Word ob at text n least form is leaves = absurd (cc)
kind_clear Numeral ob at text n least form is leaves = absurd (cc)
kind_clear Quoted ob at text n least form is leaves = absurd (cc)
kind_clear Long ob at text n least form is leaves = absurd (cc)
kind_clear Whole ob at text n least form is leaves = absurd (cc)
kind_clear End ob at text n least form is leaves = absurd (cc)
kind_clear Sign ob at text n least form is leaves = absurd (cc)

pub clear_behind : (at n : ℕ) (text : List ℕ) (ts : List Tok) → StandInOrder (at + n) (drop n text) ts → StandClear (at + n) (drop n text) ts → StandClear at text ts
clear_behind at n text [] order h = tt
clear_behind at n text (t ∷ ts) order h =
    let ends = left_behind at n t.span.end text (omega (arith, order.0, order.1)) in (
      (λ sign. subst NoneOpens (left_behind at n t.span.start text order.0) (h.0 sign)),
      (λ leaves. subst (λ l. slice_index l 0 ≢ brace) ends (h.1 leaves)),
      subst (λ l. StandClear t.span.end l ts) ends h.2,
    )

pub clear_token : (opens : List Open) (kind : Kind) (at n : ℕ) (text : List ℕ) (ts : List Tok) → StandsHere opens at text (Found kind n) → StandClear (at + n) (drop n text) ts → StandClear at text (token_at kind n at text ∷ ts)
clear_token opens kind at n text ts stands h =
    let width : at + n - at ≡ n = omega arith in
    let none : at - at ≡ 0 = omega arith in
    let ob = innermost opens in (
      (λ sign. subst (λ k. NoneOpens (drop k text)) (sym none) (sign_clear ob at text kind n stands.here sign)),
      (λ leaves. subst (λ k. slice_index (drop k text) 0 ≢ brace) (sym width) (kind_clear kind ob at text n stands.within.0 (piece_form ob at text kind n stands.some stands.here) stands.here leaves)),
      subst (λ k. StandClear (at + n) (drop k text) ts) (sym width) h,
    )
