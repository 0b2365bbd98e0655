-- The tokens of a text stand in order.
use Rattle.std.proofs.Common.{◌≡◌, ℕ, ◌+◌, ◌-◌, ◌≤◌, Bool, true, false, cond, List, [], ◌∷◌, length, take, drop, sym, ap, subst, ◌∙◌, arith, length-drop}
use Rattle.std.proofs.lemmas.List.{drop-drop}
use Rattle.std.proofs.lemmas.List.Sums.{prefix_len-le-length}
use Rattle.luau_lex.specs.Bytes.{is_no_line_feed}
use Rattle.luau_lex.specs.declared.token.Kind.{Kind}
use Rattle.luau_lex.specs.Token.{Tok}
use Rattle.luau_lex.specs.Computed.Tokens.{token_at}
use Rattle.luau_lex.specs.Places.{first_line_len, StandInOrder}

-- what is left behind n bytes, from a place behind them
pub left_behind : (at n place : ℕ) (text : List ℕ) → at + n ≤ place → drop (place - (at + n)) (drop n text) ≡ drop (place - at) text
left_behind at n place text h =
    let same : n + (place - (at + n)) ≡ place - at = omega arith in
    drop-drop (place - (at + n)) n text ∙ ap (λ k. drop k text) same

-- tokens that stand in order behind n bytes stand in order
pub order_behind : (at n : ℕ) (text : List ℕ) (ts : List Tok) → n ≤ length text → StandInOrder (at + n) (drop n text) ts → StandInOrder at text ts
order_behind at n text [] fits h = tt
order_behind at n text (t ∷ ts) fits h = (
  omega (arith, h.0),
  h.1,
  omega (arith, h.2, length-drop n text),
  h.3 ∙ ap (take (t.span.end - t.span.start)) (left_behind at n t.span.start text h.0),
  subst (λ l. StandInOrder t.span.end l ts) (left_behind at n t.span.end text (omega (arith, h.0, h.1))) h.4,
)

-- a token at the front, and tokens in order behind it
pub order_token : (kind : Kind) (at n : ℕ) (text : List ℕ) (ts : List Tok) → 1 ≤ n → n ≤ length text → StandInOrder (at + n) (drop n text) ts → StandInOrder at text (token_at kind n at text ∷ ts)
order_token kind at n text ts least fits h =
    let width : at + n - at ≡ n = omega arith in
    let none : at - at ≡ 0 = omega arith in (
      omega arith,
      omega arith,
      omega arith,
      ap (λ k. take n (drop k text)) (sym none) ∙ ap (λ k. take k (drop (at - at) text)) (sym width),
      subst (λ k. StandInOrder (at + n) (drop k text) ts) (sym width) h,
    )

chosen_within : (b : Bool) (n most : ℕ) → n ≤ most → cond b n 0 ≤ most
chosen_within true n most h = h
chosen_within false n most h = omega arith

-- a first line that is a comment lies within the text
pub first_line_within : (text : List ℕ) → first_line_len text ≤ length text
unfolding first_line_len
first_line_within text = chosen_within _ _ _ (prefix_len-le-length is_no_line_feed text)
