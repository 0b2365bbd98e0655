-- The ticket machine. Seats draw numbers from it, one draw after another, and each draw finds the next number.
use Rattle.std.specs.Prelude.{ℕ, ◌+◌, ◌<◌, ◌≤◌, List, [], ◌∷◌, ◌++◌, ◌==◌, if◌then◌else◌, fold, flat_map, All, Any}
use Rattle.level_workers.specs.Numbers.{numbers_below}

-- a state: the next number, and the numbers that each seat has found, in order
pub record Machine : Type 0 where
  pub next : ℕ
  pub found : ℕ → List ℕ

-- nothing was drawn
abbrev pub opening : Machine
opening = record { next = 0; found = λ seat. [] }

-- the event of a draw: the seat finds the next number
abbrev pub draw : Machine → ℕ → Machine
draw m seat = record {
  next = m.next + 1;
  found = λ other. if other == seat then m.found other ++ m.next ∷ [] else m.found other;
}

-- the state after a list of draws, each told by the seat that draws
abbrev pub after : List ℕ → Machine
after draws = fold draw opening draws

-- what the first n seats found, seat by seat
abbrev pub all_found : ℕ → Machine → List ℕ
all_found n m = flat_map m.found (numbers_below n)

-- a seat has met the limit where it found a number that is not below it
abbrev pub HasMet : ℕ → List ℕ → Type 0
HasMet limit found = Any (λ k. limit ≤ k) found

-- each draw is one of the first n seats', and each of these has met the limit
pub record AllHaveMet (n limit : ℕ) (draws : List ℕ) : Type 0 where
  pub seats : All (λ seat. seat < n) draws
  pub met : (seat : ℕ) → seat < n → HasMet limit ((after draws).found seat)
