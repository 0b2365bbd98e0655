-- Outputs of numbered tasks.
use Rattle.std.specs.Prelude.{◌≡◌, ℕ, ◌==◌, true, List, map, length, find, Some, slice_get, All, IsPermutation}
use Rattle.std.specs.List.{filter_map}
use Rattle.std.specs.List.Sorted.{IsNonDecreasingBy}
use Rattle.std.specs.Option.{option_map}
use Rattle.std.specs.Prelude.{Option}
use Rattle.level_workers.specs.Numbers.{numbers_below}
use Rattle.level_workers.specs.Seats.{Board, Held, drawn, DrewAllIfWhole}

-- one output for each number below n, in order from 0, each in the relation to its number
pub record IsPlainList {A : Type 0} (gives : ℕ → A → Type 0) (n : ℕ) (xs : List A) : Type 0 where
  pub len : length xs ≡ n
  pub each : (k : ℕ) (x : A) → slice_get xs k ≡ Some x → gives k x

-- the numbers of outputs that stand beside their numbers
abbrev pub numbers_of : {A : Type 0} → List (ℕ × A) → List ℕ
numbers_of outputs = map (λ output. output.0) outputs

-- each output is in the relation to its number
abbrev pub AllGiven : {A : Type 0} → (ℕ → A → Type 0) → List (ℕ × A) → Type 0
AllGiven gives outputs = All (λ output. gives output.0 output.1) outputs

-- the output of a number
abbrev pub output_of : {A : Type 0} → List (ℕ × A) → ℕ → Option A
output_of outputs k = option_map (λ output. output.1) (find (λ output. output.0 == k) outputs)

-- the outputs of the numbers below n, in order
abbrev pub placed : {A : Type 0} → ℕ → List (ℕ × A) → List A
placed n outputs = filter_map (output_of outputs) (numbers_below n)

-- the outputs in the order of their numbers
pub record InOrder {A : Type 0} (outputs : List (ℕ × A)) (xs : List A) : Type 0 where
  pub sorted : List (ℕ × A)
  pub moved : IsPermutation outputs sorted
  pub rising : IsNonDecreasingBy (λ output. output.0) sorted
  pub outputs_are : xs ≡ map (λ output. output.1) sorted

-- A seat of the board, with these parts, has drawn until it met the limit. The outputs beside it are those of the numbers that it drew.
pub record IsDone {A : Type 0} (gives : ℕ → A → Type 0) (board : Board) (parts : ℕ) (outputs : List (ℕ × A)) (seat : Held) : Type 0 where
  pub board_is : seat.board ≡ board
  pub parts_are : seat.parts ≡ parts
  pub met : seat.met ≡ true
  pub numbers : numbers_of outputs ≡ drawn seat
  pub given : AllGiven gives outputs
  pub all : DrewAllIfWhole seat
