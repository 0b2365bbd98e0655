-- Tokens and faults stand within their text.
use Rattle.std.proofs.Common.{◌≡◌, inl, inr, ℕ, zero, suc, ◌+◌, ◌-◌, ◌<◌, ◌≤◌, Bool, true, false, eqb, cond, List, [], ◌∷◌, ◌++◌, length, take, drop, slice_index, flat_map, map, Some, None, ap, arith, length-append, length-drop, length-take-le}
use Rattle.std.specs.Prelude.{slice_index_or, All, AllPairs}
use Rattle.luau_lex.specs.declared.token.Kind.{Kind}
use Rattle.luau_lex.specs.declared.token.Kind.TheVariants.{Name, Word, Numeral, Quoted, Long, Whole, Begin, Mid, End, Sign}
use Rattle.luau_lex.specs.declared.token.Token.{Token}
use Rattle.luau_lex.specs.declared.token.LexError.{LexError}
use Rattle.luau_lex.specs.declared.token.LexError.TheVariants.{UnfinishedString, UnfinishedComment, BadEscape, BadNumeral, StrayByte, DoubleBrace, NoMemory}
use Rattle.luau_lex.specs.declared.piece.Open.{Open}
use Rattle.luau_lex.specs.declared.piece.Open.TheVariants.{Brace, Part}
use Rattle.luau_lex.specs.Bytes.{brace, closing_brace}
use Rattle.luau_lex.specs.Token.{Tok, seen_token}
use Rattle.luau_lex.specs.Numerals.{begins_numeral}
use Rattle.luau_lex.specs.Places.{first_line_len, StandInOrder, IsWithinText, fault_offset}
use Rattle.luau_lex.specs.Faults.{BeginsString, IsFault}
use Rattle.luau_lex.specs.Lexed.{StandApart, Lexed}
use Rattle.luau_lex.proofs.OrderLemmas.{first_line_within}
use Rattle.luau_lex.specs.Spellings.{Spelling, written}
use Rattle.luau_lex.specs.Braces.{braces_by, braces_behind, string_open}

-- each token begins at this offset or behind it, and is of a byte at least, within the text
spans_within : (at : ℕ) (text : List ℕ) (vs : List Token) → StandInOrder at text (map seen_token vs) → (k : ℕ) (d : Token) → k < length vs → (at ≤ (slice_index_or vs k d).span.start) × IsWithinText (at + length text) (slice_index_or vs k d).span
spans_within at text [] h k d short = absurd (omega arith)
spans_within at text (v ∷ vs) h zero d short = (h.0, (h.1, h.2))
spans_within at text (v ∷ vs) h (suc k) d short =
    let more = spans_within v.span.end (drop (v.span.end - at) text) vs h.4 k d (omega arith) in
    let left = length-drop (v.span.end - at) text in
    (omega (arith, h.0, h.1, more.0), (more.1.0, omega (arith, h.0, h.1, h.2, left, more.1.1)))

-- each token ends before the next ones begin
spans_apart : (at : ℕ) (text : List ℕ) (vs : List Token) → StandInOrder at text (map seen_token vs) → (i j : ℕ) (d : Token) → i < j → j < length vs → (slice_index_or vs i d).span.end ≤ (slice_index_or vs j d).span.start
spans_apart at text [] h i j d less short = absurd (omega arith)
spans_apart at text (v ∷ vs) h i zero d less short = absurd (omega arith)
spans_apart at text (v ∷ vs) h zero (suc j) d less short =
    (spans_within v.span.end (drop (v.span.end - at) text) vs h.4 j d (omega arith)).0
spans_apart at text (v ∷ vs) h (suc i) (suc j) d less short =
    spans_apart v.span.end (drop (v.span.end - at) text) vs h.4 i j d (omega arith) (omega arith)

-- each interpolated string whose brace is open begins before this offset
abbrev pub BeginBefore : ℕ → List Open → Type 0
BeginBefore at [] = Unit {0}
BeginBefore at (Brace ∷ braces) = BeginBefore at braces
BeginBefore at (Part start ∷ braces) = (start < at) × BeginBefore at braces

before_more : (at at' : ℕ) (braces : List Open) → at ≤ at' → BeginBefore at braces → BeginBefore at' braces
before_more at at' [] less h = tt
before_more at at' (Brace ∷ braces) less h = before_more at at' braces less h
before_more at at' (Part start ∷ braces) less h = (omega (arith, h.0, less), before_more at at' braces less h.1)

before_outer : (at : ℕ) (braces : List Open) → BeginBefore at braces → BeginBefore at (drop 1 braces)
before_outer at [] h = tt
before_outer at (Brace ∷ braces) h = h
before_outer at (Part start ∷ braces) h = h.1

before_sign : (at : ℕ) (t s : Bool) (braces : List Open) → BeginBefore at braces → BeginBefore at (cond t (Brace ∷ braces) (cond s (drop 1 braces) braces))
before_sign at true s braces h = h
before_sign at false true braces h = before_outer at braces h
before_sign at false false braces h = h

before_by : (kind : Kind) (start first end : ℕ) (braces : List Open) → start < end → BeginBefore end braces → BeginBefore end (braces_by kind start first braces)
before_by Begin start first end braces less h = (less, h)
before_by End start first end braces less h = before_outer end braces h
before_by Sign start first end braces less h = before_sign end (eqb first brace) (eqb first closing_brace) braces h
before_by Name start first end braces less h = h
before_by Word start first end braces less h = h
before_by Numeral start first end braces less h = h
before_by Quoted start first end braces less h = h
before_by Long start first end braces less h = h
before_by Whole start first end braces less h = h
before_by Mid start first end braces less h = h

string_before : (at start : ℕ) (braces : List Open) → BeginBefore at braces → string_open braces ≡ Some start → start < at
string_before at start [] h is = absurd (cc)
string_before at start (Brace ∷ braces) h is = absurd (cc)
string_before at start (Part begin ∷ braces) h is = let same : begin ≡ start = cc in omega (arith, same, h.0)

begins_before : (braces : List Open) (at mark first start : ℕ) → BeginBefore at braces → BeginsString braces at mark first start → start ≤ at
begins_before braces at mark first start before (inl h) = omega (arith, h.1)
begins_before braces at mark first start before (inr h) = omega (arith, string_before at start braces before h.2)

numeral_some : (text : List ℕ) → begins_numeral text ≡ true → 0 < length text
numeral_some [] h = absurd (cc)
numeral_some (x ∷ text) h = omega arith

written_append : (xs ys : List Spelling) → length (flat_map written (xs ++ ys)) ≡ length (flat_map written xs) + length (flat_map written ys)
written_append [] ys = omega arith
written_append (s ∷ xs) ys =
    let one = length-append (written s) (flat_map written (xs ++ ys)) in
    let two = length-append (written s) (flat_map written xs) in
    omega (arith, one, two, written_append xs ys)

-- the fault that stands here lies within the text
fault_here : (braces : List Open) (at : ℕ) (text : List ℕ) (e : LexError) → BeginBefore at braces → IsFault braces at text e → fault_offset e < at + length text
fault_here braces at text (StrayByte place) before h = omega (arith, h.0, h.1.some)
fault_here braces at text (BadNumeral place) before h =
    omega (arith, h.0, numeral_some (take h.1 text) h.3.4, length-take-le h.1 text h.2, h.2)
fault_here braces at text (UnfinishedComment place) before h = omega (arith, h.0, ap length h.3)
fault_here braces at text (UnfinishedString place) before (inl h) = omega (arith, h.0, ap length h.3)
fault_here braces at text (UnfinishedString place) before (inr h) =
    omega (arith, begins_before braces at h.0 h.3.0 place before h.3.1, ap length h.3.2)
fault_here braces at text (BadEscape place) before h =
    let inside = flat_map written (h.3 ++ h.4 ∷ h.5) in
    omega (arith, h.11, ap length h.7.2, length-append inside (h.2 ∷ h.6), written_append h.3 (h.4 ∷ h.5))
fault_here braces at text (DoubleBrace place) before h =
    omega (arith, h.5, ap length h.3.2, length-append (flat_map written h.1) (brace ∷ brace ∷ h.2))
fault_here braces at text NoMemory before h = absurd h

-- a fault stands at a byte
pub fault_some : (braces : List Open) (at : ℕ) (text : List ℕ) (e : LexError) → IsFault braces at text e → 0 < length text
fault_some braces at text (StrayByte place) h = h.1.some
fault_some braces at text (BadNumeral place) h =
    omega (arith, numeral_some (take h.1 text) h.3.4, length-take-le h.1 text h.2, h.2)
fault_some braces at text (UnfinishedComment place) h = omega (arith, ap length h.3)
fault_some braces at text (UnfinishedString place) (inl h) = omega (arith, ap length h.3)
fault_some braces at text (UnfinishedString place) (inr h) = omega (arith, ap length h.3.2)
fault_some braces at text (BadEscape place) h = omega (arith, ap length h.7.2)
fault_some braces at text (DoubleBrace place) h = omega (arith, ap length h.3.2)
fault_some braces at text NoMemory h = absurd h

-- the fault behind these tokens lies within the text
fault_within : (braces : List Open) (at : ℕ) (text : List ℕ) (ts : List Tok) (e : LexError) → BeginBefore at braces → StandInOrder at text ts → StandApart (Some e) braces at text ts → fault_offset e < at + length text
fault_within braces at text [] e before order h =
    omega (arith, fault_here braces (at + h.0) (drop h.0 text) e (before_more at (at + h.0) braces (omega arith) before) h.3, length-drop h.0 text, h.1)
fault_within braces at text (t ∷ ts) e before order h =
    let more = before_by t.kind t.span.start (slice_index t.bytes 0) t.span.end braces order.1 (before_more at t.span.end braces (omega (arith, order.0, order.1)) before) in
    let left = length-drop (t.span.end - at) text in
    omega (arith, fault_within (braces_behind t braces) t.span.end (drop (t.span.end - at) text) ts e more order.4 h.1, left, order.0, order.1, order.2)

pub text_spans : (text : List ℕ) (vs : List Token) → Lexed text (map seen_token vs) None → All (λ t. IsWithinText (length text) t.span) vs
text_spans text vs h k d short =
    let n = first_line_len text in
    let there = spans_within n (drop n text) vs h.in_order k d short in
    (there.1.0, omega (arith, there.1.1, length-drop n text, first_line_within text))

pub text_apart : (text : List ℕ) (vs : List Token) → Lexed text (map seen_token vs) None → AllPairs (λ s t. s.span.end ≤ t.span.start) vs
text_apart text vs h = spans_apart (first_line_len text) (drop (first_line_len text) text) vs h.in_order

pub text_fault : (text : List ℕ) (ts : List Tok) (e : LexError) → Lexed text ts (Some e) → fault_offset e < length text
text_fault text ts e h =
    let n = first_line_len text in
    omega (arith, fault_within [] n (drop n text) ts e tt h.in_order h.apart, length-drop n text, first_line_within text)
