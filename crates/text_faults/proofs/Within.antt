-- The fault of a text stands within it.
use Rattle.std.proofs.Common.{◌≡◌, ℕ, ◌+◌, ◌-◌, ◌<◌, ◌≤◌, List, [], ◌∷◌, ◌++◌, length, drop, sym, subst, inl, inr, None, arith, length-drop}
use Rattle.luau_lex.specs.Tokens.{Tok}
use Rattle.luau_lex.specs.declared.token.LexError.{LexError}
use Rattle.luau_lex.specs.Places.{first_line_len, StandInOrder, fault_offset}
use Rattle.luau_lex.specs.Lexed.{Lexed}
use Rattle.luau_lex.proofs.OrderLemmas.{first_line_within}
use Rattle.luau_lex.proofs.WithinLemmas.{text_fault}
use Rattle.luau_grammar.specs.declared.error.ParseError.TheVariants.{Lex, Unexpected, UnexpectedEnd, AmbiguousCall, Nesting}
use Rattle.fault_places.specs.Faults.{BeginBefore, IsFirstFault}
use Rattle.text_faults.specs.TextFaults.{IsFaultOf}

before_more : (at more : ℕ) (ts : List Tok) → at ≤ more → BeginBefore at ts → BeginBefore more ts
before_more at more [] less h = tt
before_more at more (t ∷ ts) less h = (omega (arith, h.0, less), before_more at more ts less h.1)

-- tokens that stand in order begin before the end of what they stand in
begin_within : (at : ℕ) (text : List ℕ) (ts : List Tok) → StandInOrder at text ts → BeginBefore (at + length text) ts
begin_within at text [] h = tt
begin_within at text (t ∷ ts) h =
    let left = length-drop (t.span.end - at) text in (
      omega (arith, h.1, h.2),
      before_more (t.span.end + length (drop (t.span.end - at) text)) (at + length text) ts (omega (arith, h.0, h.1, h.2, left))
          (begin_within t.span.end (drop (t.span.end - at) text) ts h.4),
    )

tokens_begin : (text : List ℕ) (ts : List Tok) → Lexed text ts None → BeginBefore (length text) ts
tokens_begin text ts h =
    let n = first_line_len text in
    before_more (n + length (drop n text)) (length text) ts (omega (arith, length-drop n text, first_line_within text))
    (begin_within n (drop n text) ts h.in_order)

same_end : (n m : ℕ) → UnexpectedEnd n ≡ UnexpectedEnd m → n ≡ m
same_end n m e = cc

-- a fault at a token is no unexpected end, and stands before the end of the text
at_end : (text : List ℕ) (at : ℕ) (front ts : List Tok) → IsFirstFault text front ts (UnexpectedEnd at) → at ≡ length text
at_end text at front [] h = same_end at (length text) h.0
at_end text at front (t ∷ ts) (inl h) = absurd h
at_end text at front (t ∷ ts) (inr h) = at_end text at (front ++ t ∷ []) ts h.1

at_unexpected : (text : List ℕ) (at : ℕ) (front ts : List Tok) → BeginBefore (length text) ts → IsFirstFault text front ts (Unexpected at) → at < length text
at_unexpected text at front [] before h = absurd (cc)
at_unexpected text at front (t ∷ ts) before (inl h) = omega (arith, h.0, before.0)
at_unexpected text at front (t ∷ ts) before (inr h) = at_unexpected text at (front ++ t ∷ []) ts before.1 h.1

at_ambiguous : (text : List ℕ) (at : ℕ) (front ts : List Tok) → BeginBefore (length text) ts → IsFirstFault text front ts (AmbiguousCall at) → at < length text
at_ambiguous text at front [] before h = absurd (cc)
at_ambiguous text at front (t ∷ ts) before (inl h) = omega (arith, h.0, before.0)
at_ambiguous text at front (t ∷ ts) before (inr h) = at_ambiguous text at (front ++ t ∷ []) ts before.1 h.1

at_nesting : (text : List ℕ) (at : ℕ) (front ts : List Tok) → BeginBefore (length text) ts → IsFirstFault text front ts (Nesting at) → at < length text
at_nesting text at front [] before h = absurd (cc)
at_nesting text at front (t ∷ ts) before (inl h) = omega (arith, h.0, before.0)
at_nesting text at front (t ∷ ts) before (inr h) = at_nesting text at (front ++ t ∷ []) ts before.1 h.1

same_fault : (f g : LexError) → Lex f ≡ Lex g → f ≡ g
same_fault f g e = cc

-- the grammar tells no fault of tokens
no_lex : (text : List ℕ) (fault : LexError) (front ts : List Tok) → IsFirstFault text front ts (Lex fault) → ⊥
no_lex text fault front [] h = absurd (cc)
no_lex text fault front (t ∷ ts) (inl h) = absurd h
no_lex text fault front (t ∷ ts) (inr h) = no_lex text fault (front ++ t ∷ []) ts h.1

pub tokens_within : (text : List ℕ) (fault : LexError) → IsFaultOf text (Lex fault) → fault_offset fault < length text
tokens_within text fault (inl h) = subst (λ z. fault_offset z < length text) (sym (same_fault fault h.0 h.3)) (text_fault text h.1 h.0 h.2)
tokens_within text fault (inr h) = absurd (no_lex text fault [] h.0 h.2)

pub unexpected_within : (text : List ℕ) (at : ℕ) → IsFaultOf text (Unexpected at) → at < length text
unexpected_within text at (inl h) = absurd (cc)
unexpected_within text at (inr h) = at_unexpected text at [] h.0 (tokens_begin text h.0 h.1) h.2

pub ambiguous_within : (text : List ℕ) (at : ℕ) → IsFaultOf text (AmbiguousCall at) → at < length text
ambiguous_within text at (inl h) = absurd (cc)
ambiguous_within text at (inr h) = at_ambiguous text at [] h.0 (tokens_begin text h.0 h.1) h.2

pub nesting_within : (text : List ℕ) (at : ℕ) → IsFaultOf text (Nesting at) → at < length text
nesting_within text at (inl h) = absurd (cc)
nesting_within text at (inr h) = at_nesting text at [] h.0 (tokens_begin text h.0 h.1) h.2

pub end_within : (text : List ℕ) (at : ℕ) → IsFaultOf text (UnexpectedEnd at) → at ≡ length text
end_within text at (inl h) = absurd (cc)
end_within text at (inr h) = at_end text at [] h.0 h.2
