-- What a text line shows of bytes and numbers.
use Rattle.std.proofs.Common.{◌≡◌, ℕ, ◌+◌, ◌%◌, ◌^◌, ◌<◌, ◌≤◌, List, [], ◌∷◌, ◌++◌, All, codes, decimal, get_or, refl, arith}
use Rattle.std.proofs.lemmas.Bool.Decides.{nat_tests}
use Rattle.std.proofs.lemmas.Fmt.{decimal_by_steps}
use Rattle.std.proofs.lemmas.List.Elements.{All-cons, All-nil, All-head, All-tail, All-append, All-map}
use Rattle.diag_text.specs.declared.line.Line.{Line}
use Rattle.diag_text.specs.Line.{printable_byte, printable, IsPrintable, text_of}

-- no byte is shown as a control character
shown_byte : (b : ℕ) → IsPrintable (printable_byte b)
shown_byte b = (grind (arith, nat_tests), λ e. grind (arith, nat_tests))

-- a byte that is no control character is shown as it is
kept_byte : (b : ℕ) → IsPrintable b → printable_byte b ≡ b
kept_byte b h = grind (arith, nat_tests)

pub printable_kept : (bytes : List ℕ) → All IsPrintable bytes → printable bytes ≡ bytes
printable_kept [] a = refl
printable_kept (b ∷ bytes) a = λ i. kept_byte b (All-head IsPrintable b bytes a) i ∷ printable_kept bytes (All-tail IsPrintable b bytes a) i

shown_bytes : (bytes : List ℕ) → All IsPrintable (printable bytes)
shown_bytes bytes = All-map IsPrintable printable_byte bytes (λ k d within. shown_byte (get_or bytes k d))

one_byte : (b : ℕ) → 32 ≤ b → b < 127 → All IsPrintable (b ∷ [])
one_byte b low high = All-cons IsPrintable b [] (low, λ e. absurd (omega arith)) (All-nil IsPrintable)

shown_number : (n : ℕ) → n < 2 ^ 64 → All IsPrintable (decimal n)
shown_number = decimal_by_steps (λ n ds. All IsPrintable ds) (λ n small. one_byte (48 + n) (omega arith) (omega arith)) (λ n ds large shown. All-append IsPrintable ds ((48 + n % 10) ∷ []) shown (one_byte (48 + n % 10) (omega arith) (omega arith)))

-- the text of a line is one line
pub one_line : (line : Line) → line.at.line < 2 ^ 64 → line.at.column < 2 ^ 64 → (shown : List ℕ) × (text_of line ≡ shown ++ codes "\n") × All IsPrintable shown
one_line line l c =
    let P : List ℕ → Type 0 = λ bytes. All IsPrintable bytes in
    let colon : P (codes ":") = one_byte 58 (omega arith) (omega arith) in
    let blank : P (codes ": ") = All-append IsPrintable (58 ∷ []) (32 ∷ []) colon (one_byte 32 (omega arith) (omega arith)) in
    let path : P (printable line.path) = shown_bytes line.path in
    let row = All-append IsPrintable (printable line.path ++ codes ":") (decimal line.at.line) (All-append IsPrintable (printable line.path) (codes ":") path colon) (shown_number line.at.line l) in
    let place = All-append IsPrintable _ (decimal line.at.column) (All-append IsPrintable _ (codes ":") row colon) (shown_number line.at.column c) in
    let all = All-append IsPrintable _ (printable line.message) (All-append IsPrintable _ (codes ": ") place blank) (shown_bytes line.message) in
    (_, refl, all)
