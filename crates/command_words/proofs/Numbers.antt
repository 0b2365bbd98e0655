-- Numbers in decimal digits without a leading zero, as `parse` reads them.
use Rattle.std.proofs.Common.{◌≡◌, ◌==◌, ◌&&◌, ℕ, ◌<◌, ◌≤◌, ◌^◌, Bool, true, false, List, [], ◌∷◌, None, Some, length, refl, arith, Ok, Err}
use Rattle.std.specs.Prelude.{Result, not, nat_le, option_and_then, if◌then◌else◌}
use Rattle.std.specs.Char.{is_ascii_digit, digit_value}
use Rattle.std.proofs.lemmas.Bool.{false≢true, and_parts}
use Rattle.std.specs.Result.{result_ok}
use Rattle.std.specs.Str.{all_ascii_digits}
use Rattle.std.specs.Str.Parse.{ParsesUnsigned, digits_value}
use Rattle.std.proofs.lemmas.Bool.Decides.{nat_tests}
use Rattle.std.proofs.lemmas.Str.Parse.{IsNumeralModel, numerals_by_value, tells_all_ascii_digits, parse_digits, digits_value-take-le}
use Rattle.command_words.specs.Command.{is_number, number_up_to}
use Rattle.command_words.specs.Limits.{IsUpTo}

model : IsNumeralModel (λ ds. all_ascii_digits ds ≡ true) (digits_value 10)
model = numerals_by_value _ tells_all_ascii_digits

digits_parts : (digit other rest : Bool) → ((digit && other) && rest) ≡ true → (digit && rest) ≡ true
digits_parts true true rest e = e
digits_parts true false rest e = absurd (false≢true e)
digits_parts false other rest e = e

pub number_is_digits : (text : List ℕ) → is_number text ≡ true → (all_ascii_digits text ≡ true) × (0 < length text)
number_is_digits [] e = absurd (false≢true e)
number_is_digits (first ∷ rest) e = (digits_parts (is_ascii_digit first) (not (first == 48)) (all_ascii_digits rest) e, omega arith)

too_great : (most value : ℕ) → most < 2 ^ 32 → (value < 2 ^ 32 → ⊥) → (if nat_le value most then Some value else None) ≡ None
too_great most value lt past = let le : nat_le value most ≡ false = grind (arith, nat_tests) in rw le refl

module _ {E : Type 0} where
  pub read_up_to : (most : ℕ) (text : List ℕ) (r : Result ℕ E) → most < 2 ^ 32 → is_number text ≡ true → ParsesUnsigned 32 10 text r
      → number_up_to most text ≡ option_and_then (λ number. if nat_le number most then Some number else None) (result_ok r)
  read_up_to most text (Ok number) lt e h = let p = parse_digits model {E = E} 32 text (Ok number) h (number_is_digits text e).0 in rw (e, p.1) refl
  read_up_to most text (Err x) lt e h =
      let p = parse_digits model {E = E} 32 text (Err x) h (number_is_digits text e).0 in
      rw e (too_great most (digits_value 10 text) lt (λ v. p ((number_is_digits text e).1, v)))

digit_counts : (first : ℕ) (digit rest : Bool) → is_ascii_digit first ≡ digit → ((digit && not (first == 48)) && rest) ≡ true → 1 ≤ digit_value first
digit_counts first true rest e h = let parts = and_parts (not (first == 48)) rest h in grind (arith, nat_tests)
digit_counts first false rest e h = absurd (false≢true h)

-- a number without a leading zero is at least 1
pub number_is_positive : (text : List ℕ) → is_number text ≡ true → 1 ≤ digits_value 10 text
number_is_positive [] e = absurd (false≢true e)
number_is_positive (first ∷ rest) e =
    let one : 1 ≤ digit_value first = digit_counts first (is_ascii_digit first) (all_ascii_digits rest) refl e in
    let all : digits_value 10 (first ∷ []) ≤ digits_value 10 (first ∷ rest) = digits_value-take-le 10 (first ∷ rest) 1 (omega arith) in
    omega (arith, one, all)

-- the number of a text is within its limit
pub number_is_up_to : (most : ℕ) (text : List ℕ) (number : ℕ) → Some number ≡ number_up_to most text → IsUpTo most number
number_is_up_to most text number e = go (is_number text) (nat_le (digits_value 10 text) most) refl refl e
  where
    go : (ok within : Bool) → is_number text ≡ ok → nat_le (digits_value 10 text) most ≡ within → Some number ≡ (if ok && within then Some (digits_value 10 text) else None) → IsUpTo most number
    go true true ok within e = let is : number ≡ digits_value 10 text = grind arith in rw is (number_is_positive text ok, grind (arith, nat_tests))
    go true false ok within e = absurd (grind arith)
    go false within ok le e = absurd (grind arith)
