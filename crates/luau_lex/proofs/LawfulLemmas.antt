-- What a text is cut into meets the laws.
use Rattle.std.proofs.Common.{◌≡◌, ℕ, ◌+◌, ◌-◌, ◌≤◌, List, [], ◌∷◌, length, take, drop, slice_index, Result, Ok, Err, Option, None, Some, sym, refl, ap, subst, ◌∙◌, arith, add-zero, length-drop}
use Rattle.std.proofs.lemmas.List.{drop-drop}
use Rattle.luau_lex.specs.declared.token.Kind.{Kind}
use Rattle.luau_lex.specs.declared.token.LexError.{LexError}
use Rattle.luau_lex.specs.declared.piece.Piece.{Piece}
use Rattle.luau_lex.specs.declared.piece.Piece.TheVariants.{Gap, Found, Faulty}
use Rattle.luau_lex.specs.declared.piece.Open.{Open}
use Rattle.luau_lex.specs.Token.{Tok}
use Rattle.luau_lex.specs.Forms.{IsGapPart}
use Rattle.luau_lex.specs.Places.{first_line_len, StandInOrder}
use Rattle.luau_lex.specs.Braces.{braces_by, braces_behind}
use Rattle.luau_lex.specs.Lexed.{EndsWith, StandApart, Lawful, Lexed}
use Rattle.luau_lex.specs.Computed.Pieces.{innermost, opens_behind}
use Rattle.luau_lex.specs.Computed.Tokens.{token_at, with_token}
use Rattle.luau_lex.specs.Computed.Reads.{StandsHere, Reads, HasTokens}
use Rattle.luau_lex.proofs.OrderLemmas.{left_behind, order_behind, order_token}
use Rattle.luau_lex.proofs.FormLemmas.{piece_form}
use Rattle.luau_lex.proofs.GapLemmas.{piece_gap, gap_behind, gap_before}
use Rattle.luau_lex.proofs.ClearLemmas.{clear_behind, clear_token}
use Rattle.luau_lex.proofs.TokenLemmas.{outward, behind_is, may_stand, sign_stands, first_of, longest_behind, longest_token}
use Rattle.luau_lex.proofs.FaultLemmas.{piece_fault}

ends_moved : (fault : Option LexError) (braces : List Open) (at at' : ℕ) (text text' : List ℕ) → at ≡ at' → text ≡ text' → EndsWith fault braces at text → EndsWith fault braces at' text'
ends_moved fault braces at at' text text' far left h =
    subst (λ k. EndsWith fault braces k text') far (subst (λ l. EndsWith fault braces at l) left h)

apart_behind : (fault : Option LexError) (braces : List Open) (at n : ℕ) (text : List ℕ) (ts : List Tok) → n ≤ length text → IsGapPart (take n text) (drop n text) → StandInOrder (at + n) (drop n text) ts → StandApart fault braces (at + n) (drop n text) ts → StandApart fault braces at text ts
apart_behind fault braces at n text [] fits form order h = (
  n + h.0,
  omega (arith, h.1, length-drop n text),
  gap_behind n h.0 text form h.2,
  ends_moved fault braces (at + n + h.0) (at + (n + h.0)) (drop h.0 (drop n text)) (drop (n + h.0) text) (omega arith) (drop-drop h.0 n text) h.3,
)
apart_behind fault braces at n text (t ∷ ts) fits form order h = (
  gap_before at n t.span.start text order.0 form h.0,
  subst (λ l. StandApart fault (braces_behind t braces) t.span.end l ts) (left_behind at n t.span.end text (omega (arith, order.0, order.1))) h.1,
)

-- lawful tokens behind blanks or a comment
lawful_gap : (fault : Option LexError) (braces : List Open) (at n : ℕ) (text : List ℕ) (ts : List Tok) → StandsHere (outward braces) at text (Gap n) → Lawful fault braces (at + n) (drop n text) ts → Lawful fault braces at text ts
lawful_gap fault braces at n text ts stands h = record {
  in_order = order_behind at n text ts stands.within.1 h.in_order;
  forms = h.forms;
  apart = apart_behind fault braces at n text ts stands.within.1 (piece_gap (innermost (outward braces)) at text n stands.here) h.in_order h.apart;
  braces = h.braces;
  longest = longest_behind braces at n text ts h.in_order h.longest;
  clear = clear_behind at n text ts h.in_order h.clear;
}

-- lawful tokens behind a token
lawful_token : (fault : Option LexError) (braces : List Open) (kind : Kind) (at n : ℕ) (text : List ℕ) (ts : List Tok) → StandsHere (outward braces) at text (Found kind n) → Lawful fault (braces_by kind at (slice_index (take n text) 0) braces) (at + n) (drop n text) ts → Lawful fault braces at text (token_at kind n at text ∷ ts)
lawful_token fault braces kind at n text ts stands h =
    let width : at + n - at ≡ n = omega arith in
    let none : at - at ≡ 0 = omega arith in
    record {
      in_order = order_token kind at n text ts stands.within.0 stands.within.1 h.in_order;
      forms = (piece_form (innermost (outward braces)) at text kind n stands.some stands.here, h.forms);
      apart = (
        ([], ap (λ k. take k text) none),
        subst (λ k. StandApart fault (braces_by kind at (slice_index (take n text) 0) braces) (at + n) (drop k text) ts) (sym width) h.apart,
      );
      braces = (may_stand braces at text kind n stands.some stands.within.0 stands.here, sign_stands braces at text kind n stands.within.0 stands.here, h.braces);
      longest = longest_token braces kind at n text ts stands h.longest;
      clear = clear_token (outward braces) kind at n text ts stands h.clear;
    }

-- no token, where the text ends or the fault stands
lawful_none : (fault : Option LexError) (braces : List Open) (at : ℕ) (text : List ℕ) → EndsWith fault braces at text → Lawful fault braces at text []
lawful_none fault braces at text h = record {
  in_order = tt;
  forms = tt;
  apart = (0, omega arith, ([], refl), subst (λ k. EndsWith fault braces k text) (sym (add-zero at)) h);
  braces = tt;
  longest = tt;
  clear = tt;
}

-- the fault of an answer
abbrev pub fault_of : Result (List Tok) LexError → Option LexError
fault_of (Ok ts) = None
fault_of (Err e) = Some e

-- the tokens are those of the answer, if it has some
abbrev pub AreThose : Result (List Tok) LexError → List Tok → Type 0
AreThose (Ok us) ts = us ≡ ts
AreThose (Err e) ts = Unit {0}

abbrev pub HasLawful : List Open → ℕ → List ℕ → Result (List Tok) LexError → Type 0
HasLawful braces at text r = (ts : List Tok) × Lawful (fault_of r) braces at text ts × AreThose r ts

found_lawful : (braces : List Open) (kind : Kind) (at n : ℕ) (text : List ℕ) (rest : Result (List Tok) LexError) → StandsHere (outward braces) at text (Found kind n) → HasLawful (braces_by kind at (slice_index (take n text) 0) braces) (at + n) (drop n text) rest → HasLawful braces at text (with_token (token_at kind n at text) rest)
found_lawful braces kind at n text (Ok us) stands h =
    (token_at kind n at text ∷ h.0, lawful_token None braces kind at n text h.0 stands h.1, ap (λ l. token_at kind n at text ∷ l) h.2)
found_lawful braces kind at n text (Err e) stands h =
    (token_at kind n at text ∷ h.0, lawful_token (Some e) braces kind at n text h.0 stands h.1, tt)

reads_lawful : (braces opens : List Open) (at : ℕ) (text : List ℕ) (ps : List Piece) (r : Result (List Tok) LexError) → opens ≡ outward braces → Reads opens at text ps r → HasLawful braces at text r
reads_lawful braces opens at text [] r same h =
    subst (HasLawful braces at text) (sym h.1) ([], lawful_none None braces at text h.0, refl)
reads_lawful braces opens at text (Gap n ∷ ps) r same h =
    let more = reads_lawful braces opens (at + n) (drop n text) ps r same h.1 in
    (more.0, lawful_gap (fault_of r) braces at n text more.0 (subst (λ o. StandsHere o at text (Gap n)) same h.0) more.1, more.2)
reads_lawful braces opens at text (Found kind n ∷ ps) r same h =
    let first = slice_index (take n text) 0 in
    let behind : opens_behind opens at kind (slice_index text 0) ≡ outward (braces_by kind at first braces) =
    ap (λ o. opens_behind o at kind (slice_index text 0)) same ∙ ap (opens_behind (outward braces) at kind) (sym (first_of n text h.1.within.0)) ∙ behind_is kind at first braces in
    let more = reads_lawful (braces_by kind at first braces) (opens_behind opens at kind (slice_index text 0)) (at + n) (drop n text) ps h.0 behind h.2 in
    subst (HasLawful braces at text) (sym h.3) (found_lawful braces kind at n text h.0 (subst (λ o. StandsHere o at text (Found kind n)) same h.1) more)
reads_lawful braces opens at text (Faulty e ∷ ps) r same h =
    let stands = subst (λ o. StandsHere o at text (Faulty e)) same h.0 in
    subst (HasLawful braces at text) (sym h.2) ([], lawful_none (Some e) braces at text (piece_fault braces at text e stands.some stands.here), tt)

-- the tokens that a text is cut into
pub tokens_lawful : (text : List ℕ) (ts : List Tok) → HasTokens text (Ok ts) → Lexed text ts None
tokens_lawful text ts h =
    let n = first_line_len text in
    let there = reads_lawful [] [] n (drop n text) h.0 (Ok ts) refl h.1 in
    subst (λ us. Lexed text us None) (sym there.2) there.1

-- the tokens before a fault, and the fault
pub fault_lawful : (text : List ℕ) (e : LexError) → HasTokens text (Err e) → (ts : List Tok) × Lexed text ts (Some e)
fault_lawful text e h =
    let n = first_line_len text in
    let there = reads_lawful [] [] n (drop n text) h.0 (Err e) refl h.1 in
    (there.0, there.1)
