-- What meets the laws on tokens is the list of tokens of the text.
use Rattle.std.proofs.Common.{◌≡◌, ℕ, ◌+◌, ◌-◌, ◌<◌, ◌≤◌, List, [], ◌∷◌, ◌++◌, length, take, drop, slice_index, Result, Ok, Err, Option, None, Some, sym, refl, ap, subst, ◌∙◌, arith, length-drop, length-take-le, zero-add}
use Rattle.std.proofs.lemmas.List.{take-append-drop, drop-drop}
use Rattle.luau_lex.specs.declared.token.LexError.{LexError}
use Rattle.luau_lex.specs.declared.piece.Piece.TheVariants.{Found}
use Rattle.luau_lex.specs.declared.piece.Open.{Open}
use Rattle.luau_lex.specs.Bytes.{brace}
use Rattle.luau_lex.specs.Token.{Tok}
use Rattle.luau_lex.specs.Forms.{HasForm, NoneOpens}
use Rattle.luau_lex.specs.Places.{first_line_len}
use Rattle.luau_lex.specs.Braces.{braces_behind}
use Rattle.luau_lex.specs.LongestTokens.{NoLongerToken, NoLongerWord, NoComment}
use Rattle.luau_lex.specs.Lexed.{EndsWith, StandApart, Lawful, Lexed}
use Rattle.luau_lex.specs.Computed.Pieces.{innermost, piece, opens_behind}
use Rattle.luau_lex.specs.Computed.Tokens.{token_at, tokens_of}
use Rattle.luau_lex.specs.Computed.Reads.{HasTokens}
use Rattle.luau_lex.proofs.CutLemmas.{Cut, cut_at, with_first, cut_from, answer_of, answer, cut_answers, cut, cut_skip, cut_token, cut_fault}
use Rattle.luau_lex.proofs.ExistLemmas.{tokens_there}
use Rattle.luau_lex.proofs.TokenLemmas.{outward, behind_is, first_of}
use Rattle.luau_lex.proofs.ExactLemmas.{token_there}
use Rattle.luau_lex.proofs.DeterminedLemmas.{gap_skip}
use Rattle.luau_lex.proofs.LawfulLemmas.{tokens_lawful, fault_lawful}
use Rattle.luau_lex.proofs.FaultReadLemmas.{fault_there}

-- what is left behind the first token is lawful
lawful_rest : (fault : Option LexError) (braces : List Open) (at : ℕ) (text : List ℕ) (t : Tok) (ts : List Tok) → Lawful fault braces at text (t ∷ ts) → Lawful fault (braces_behind t braces) t.span.end (drop (t.span.end - at) text) ts
lawful_rest fault braces at text t ts h = record {
  in_order = h.in_order.4;
  forms = h.forms.1;
  apart = h.apart.1;
  braces = h.braces.2;
  longest = h.longest.3;
  clear = h.clear.2;
}

-- the first token is read at its place
lawful_first : (fault : Option LexError) (braces : List Open) (at : ℕ) (text : List ℕ) (t : Tok) (ts : List Tok) → Lawful fault braces at text (t ∷ ts) → piece (innermost (outward braces)) t.span.start (drop (t.span.start - at) text) ≡ Found t.kind (t.span.end - t.span.start)
lawful_first fault braces at text t ts h =
    let here = drop (t.span.start - at) text in
    let n = t.span.end - t.span.start in
    let w = take n here in
    let more = drop n here in
    let ob = innermost (outward braces) in
    let whole : w ++ more ≡ here = take-append-drop n here in
    let fits : n ≤ length here = omega (arith, length-drop (t.span.start - at) text, h.in_order.0, h.in_order.1, h.in_order.2) in
    let width : length w ≡ n = length-take-le n here fits in
    let far : (t.span.start - at) + n ≡ t.span.end - at = omega (arith, h.in_order.0, h.in_order.1) in
    let behind : more ≡ drop (t.span.end - at) text = drop-drop n (t.span.start - at) text ∙ ap (λ k. drop k text) far in
    let read = token_there t.kind braces t.span.start w more (omega (arith, width, h.in_order.1))
    (subst (HasForm t.kind) h.in_order.3 h.forms.0)
    h.braces.0
    (λ sign closes. h.braces.1 sign (ap (λ l. slice_index l 0) h.in_order.3 ∙ closes))
    (subst (λ l. NoLongerToken braces l (length w)) (sym whole) (subst (NoLongerToken braces here) (sym width) h.longest.0))
    (λ numeral. subst (λ l. NoLongerWord l (length w)) (sym whole) (subst (NoLongerWord here) (sym width) (h.longest.1 numeral)))
    (subst NoComment (sym whole) h.longest.2)
    (λ sign. subst NoneOpens (sym whole) (h.clear.0 sign))
    (λ leaves. subst (λ l. slice_index l 0 ≡ brace → ⊥) (sym behind) (h.clear.1 leaves)) in
    ap (piece ob t.span.start) (sym whole) ∙ read ∙ ap (Found t.kind) width

token_is : (t : Tok) (n : ℕ) (here : List ℕ) → t.span.start + n ≡ t.span.end → t.bytes ≡ take n here → token_at t.kind n t.span.start here ≡ t
token_is t n here ends bytes =
    ap (λ e. record { kind = t.kind; span = record { start = t.span.start; end = e }; bytes = take n here }) ends
    ∙ ap (λ l. record { kind = t.kind; span = record { start = t.span.start; end = t.span.end }; bytes = l }) (sym bytes)

lawful_skip : (fault : Option LexError) (braces : List Open) (at : ℕ) (text : List ℕ) (t : Tok) (ts : List Tok) → Lawful fault braces at text (t ∷ ts) → cut (outward braces) at text ≡ cut (outward braces) t.span.start (drop (t.span.start - at) text)
lawful_skip fault braces at text t ts h =
    let k = t.span.start - at in
    let opens = outward braces in
    let width = length-take-le k text (omega (arith, h.in_order.0, h.in_order.1, h.in_order.2)) in
    let far : at + length (take k text) ≡ t.span.start = omega (arith, width, h.in_order.0) in
    ap (cut opens at) (sym (take-append-drop k text))
    ∙ gap_skip opens at (take k text) (drop k text) h.apart.0
    ∙ ap (λ j. cut opens j (drop k text)) far

ends_so : (fault : Option LexError) (braces : List Open) (at : ℕ) (text : List ℕ) → EndsWith fault braces at text → cut (outward braces) at text ≡ cut_at [] fault
ends_so None braces at text h = ap (cut (outward braces) at) h
ends_so (Some e) braces at text h =
    let there = fault_there braces at text e h in cut_fault (outward braces) e at text there.0 there.1

lawful_none : (fault : Option LexError) (braces : List Open) (at : ℕ) (text : List ℕ) → StandApart fault braces at text [] → cut (outward braces) at text ≡ cut_at [] fault
lawful_none fault braces at text h =
    let n = h.0 in
    let opens = outward braces in
    let far : at + length (take n text) ≡ at + n = omega (arith, length-take-le n text h.1) in
    ap (cut opens at) (sym (take-append-drop n text))
    ∙ gap_skip opens at (take n text) (drop n text) h.2
    ∙ ap (λ k. cut opens k (drop n text)) far
    ∙ ends_so fault braces (at + n) (drop n text) h.3

lawful_tokens : (fault : Option LexError) (braces : List Open) (at : ℕ) (text : List ℕ) (ts : List Tok) → Lawful fault braces at text ts → cut (outward braces) at text ≡ cut_at ts fault
lawful_tokens fault braces at text [] h = lawful_none fault braces at text h.apart
lawful_tokens fault braces at text (t ∷ ts) h =
    let k = t.span.start - at in
    let n = t.span.end - t.span.start in
    let here = drop k text in
    let opens = outward braces in
    let least : 1 ≤ n = omega (arith, h.in_order.1) in
    let some : 0 < length here = omega (arith, length-drop k text, h.in_order.0, h.in_order.1, h.in_order.2) in
    let ends : t.span.start + n ≡ t.span.end = omega (arith, h.in_order.1) in
    let far : k + n ≡ t.span.end - at = omega (arith, h.in_order.0, h.in_order.1) in
    let behind : drop n here ≡ drop (t.span.end - at) text = drop-drop n k text ∙ ap (λ j. drop j text) far in
    let first : slice_index here 0 ≡ slice_index t.bytes 0 = sym (first_of n here least) ∙ ap (λ l. slice_index l 0) (sym h.in_order.3) in
    let opens' : opens_behind opens t.span.start t.kind (slice_index here 0) ≡ outward (braces_behind t braces) =
    ap (opens_behind opens t.span.start t.kind) first ∙ behind_is t.kind t.span.start (slice_index t.bytes 0) braces in
    lawful_skip fault braces at text t ts h
    ∙ cut_token opens t.kind n t.span.start here least some (lawful_first fault braces at text t ts h)
    ∙ ap (λ x. with_first x (cut (opens_behind opens t.span.start t.kind (slice_index here 0)) (t.span.start + n) (drop n here))) (token_is t n here ends h.in_order.3)
    ∙ ap (λ o. with_first t (cut o (t.span.start + n) (drop n here))) opens'
    ∙ ap (λ j. with_first t (cut (outward (braces_behind t braces)) j (drop n here))) ends
    ∙ ap (λ l. with_first t (cut (outward (braces_behind t braces)) t.span.end l)) behind
    ∙ ap (with_first t) (lawful_tokens fault (braces_behind t braces) t.span.end (drop (t.span.end - at) text) ts (lawful_rest fault braces at text t ts h))

-- what meets the laws is what is computed
laws_cut : (text : List ℕ) (ts : List Tok) (fault : Option LexError) → Lexed text ts fault → cut_from [] (first_line_len text) 0 text ≡ cut_at ts fault
laws_cut text ts fault h =
    let n = first_line_len text in
    cut_skip [] n 0 text ∙ ap (λ k. cut [] k (drop n text)) (zero-add n) ∙ lawful_tokens fault [] n (drop n text) ts h

pub laws_determine : (text : List ℕ) (ts : List Tok) (fault : Option LexError) → Lexed text ts fault → tokens_of text ≡ answer_of fault ts
unfolding tokens_of
laws_determine text ts fault h = cut_answers [] (first_line_len text) 0 text ∙ ap answer (laws_cut text ts fault h)

-- a text has tokens in one way
pub one_way : (text : List ℕ) (ts us : List Tok) (d e : Option LexError) → Lexed text ts d → Lexed text us e → (ts ≡ us) × (d ≡ e)
one_way text ts us d e h g =
    let same : cut_at ts d ≡ cut_at us e = sym (laws_cut text ts d h) ∙ laws_cut text us e g in
    (ap (λ c. c.tokens) same, ap (λ c. c.fault) same)

-- and what is computed meets the laws
pub tokens_are_lexed : (text : List ℕ) (ts : List Tok) → tokens_of text ≡ Ok ts → Lexed text ts None
tokens_are_lexed text ts is = tokens_lawful text ts (subst (HasTokens text) is (tokens_there text))

pub fault_is_lexed : (text : List ℕ) (e : LexError) → tokens_of text ≡ Err e → (ts : List Tok) × Lexed text ts (Some e)
fault_is_lexed text e is = fault_lawful text e (subst (HasTokens text) is (tokens_there text))

some_lexed : (text : List ℕ) (r : Result (List Tok) LexError) → tokens_of text ≡ r → (ts : List Tok) × (fault : Option LexError) × Lexed text ts fault
some_lexed text (Ok ts) is = (ts, None, tokens_are_lexed text ts is)
some_lexed text (Err e) is = let h = fault_is_lexed text e is in (h.0, Some e, h.1)

pub each_lexed : (text : List ℕ) → (ts : List Tok) × (fault : Option LexError) × Lexed text ts fault
each_lexed text = some_lexed text (tokens_of text) refl
