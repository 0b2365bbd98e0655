-- Boards and seats, as callers see them.
use Rattle.std.specs.Prelude.{◌≡◌, ℕ, ◌+◌, ◌-◌, ◌<◌, Bool, true, false, ◌||◌, List, [], ◌∷◌, ◌++◌, nat_lt, nat_le, if◌then◌else◌, All, sum_by, Option, Some, None}
use Rattle.atomic_table.specs.Seated.{TableId}
use Rattle.level_workers.specs.declared.view.View.{View}
use Rattle.level_workers.specs.Numbers.{EachBelow, below}

-- which board it is, how many numbers are drawn from it, and how many parts its seats share
pub record Board : Type 0 where
  pub id : TableId
  pub limit : ℕ
  pub seats : ℕ

-- a seat: its board, its parts, the numbers that it found, in order, and whether it has met the limit
pub record Held : Type 0 where
  pub board : Board
  pub parts : ℕ
  pub finds : List ℕ
  pub met : Bool

-- a seat of the board that has these parts, drew nothing and has not met the limit
abbrev pub fresh : Board → ℕ → Held
fresh board parts = record { board = board; parts = parts; finds = []; met = false }

-- what a seat drew: its finds below the limit
abbrev pub drawn : Held → List ℕ
drawn h = below h.board.limit h.finds

-- the seat found n
abbrev pub with_find : Held → ℕ → Held
with_find h n = record { board = h.board; parts = h.parts; finds = h.finds ++ n ∷ []; met = nat_le h.board.limit n }

-- A draw finds a number, greater than each that the seat found before. The answer is this number where it is below the limit, and else none.
abbrev pub Finds : Held → Option ℕ → Held → Type 0
Finds before answer after =
    (n : ℕ) × (answer ≡ (if nat_lt n before.board.limit then Some n else None)) × (after ≡ with_find before n) × All (λ k. k < n) before.finds

-- a part of the seat, and what is left of the seat
abbrev pub one_part : Held → Held
one_part h = record { board = h.board; parts = 1; finds = []; met = h.met }

abbrev pub without_part : Held → Held
without_part h = record { board = h.board; parts = h.parts - 1; finds = h.finds; met = h.met }

-- a seat with another joined to it
abbrev pub with_seat : Held → Held → Held
with_seat h other = record { board = h.board; parts = h.parts + other.parts; finds = h.finds ++ other.finds; met = h.met || other.met }

-- with all parts of its board and past the limit, the seat drew each number below the limit once, and no other
abbrev pub DrewAllIfWhole : Held → Type 0
DrewAllIfWhole h = h.parts ≡ h.board.seats → h.met ≡ true → EachBelow h.board.limit (drawn h)

-- a seat, by its table and by what it knows
abbrev pub held : TableId → View → Held
held id v = record { board = record { id = id; limit = v.limit; seats = v.seats }; parts = v.parts; finds = v.finds; met = v.met }

-- a seat of the board that drew nothing and has not met the limit
pub record IsFresh (board : Board) (h : Held) : Type 0 where
  pub board_is : h.board ≡ board
  pub no_finds : h.finds ≡ []
  pub not_met : h.met ≡ false

-- the parts of all these seats
abbrev pub parts_of : List Held → ℕ
parts_of seats = sum_by (λ (h : Held). h.parts) seats
