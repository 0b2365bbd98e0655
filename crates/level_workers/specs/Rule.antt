-- The rule over a board's word, which is the next number, and the views of its seats, as they are between any two steps.
use Rattle.std.specs.Prelude.{◌≡◌, ℕ, ◌+◌, ◌<◌, ◌≤◌, true, ◌⊎◌, List, [], ◌∷◌, length, sum_by, All}
use mathlib.Core.Option.{some}
use lib.ListN.{get_elem?}
use Rattle.atomic_table.specs.Table.{State}
use Rattle.level_workers.specs.declared.view.View.{View}
use Rattle.level_workers.specs.Numbers.{SameNumbers, EachBelow, NoneTwice, below, past}
use Rattle.level_workers.specs.Machine.{after}
use Rattle.level_workers.specs.Views.{finding, spent, all_finds, open_parts}

-- The word and the views are the ticket machine's state after these draws. The draws of a seat that was joined to another count for that one.
pub record IsState (draws : List ℕ) (word : ℕ) (views : List View) : Type 0 where
  pub next : (after draws).next ≡ word
  pub found : (seat : ℕ) (v : View) → get_elem? views seat ≡ some v → SameNumbers v.finds ((after draws).found seat)
  pub others : (seat : ℕ) → length views ≤ seat → (after draws).found seat ≡ []

-- a seat of the board that was not joined to another
pub record Sits (limit seats word : ℕ) (v : View) : Type 0 where
  pub limit_is : v.limit ≡ limit
  pub seats_is : v.seats ≡ seats
  pub some_part : 0 < v.parts
  pub met_late : v.met ≡ true → limit ≤ word

-- The rule. The finds of all views are the numbers below the word, each once; the parts add up to the board's seats; and the finds at or past the limit are no more than the parts that have met it.
pub record Stands (limit seats word : ℕ) (views : List View) : Type 0 where
  pub draws : List ℕ
  pub state : IsState draws word views
  pub each_once : EachBelow word (all_finds views)
  pub parts : sum_by (λ v. v.parts) views ≡ seats
  pub all_sit : (seat : ℕ) (v : View) → get_elem? views seat ≡ some v → (v ≡ spent) ⊎ Sits limit seats word v
  pub few_late : length (past limit (all_finds views)) + sum_by open_parts views ≤ seats

-- the table of a board has one word, and keeps the rule
abbrev pub Keeps : ℕ → ℕ → State (Unit {0}) View → Type 0
Keeps limit seats s = (word : ℕ) × (s.words ≡ word ∷ []) × Stands limit seats word s.views

-- What a step tells of its seat: it has no more parts than the board, it found no number twice, and with all parts and past the limit it drew each number below the limit once, and no other.
pub record Tells (v : View) : Type 0 where
  pub few : v.parts ≤ v.seats
  pub once : NoneTwice v.finds
  pub all : v.parts ≡ v.seats → v.met ≡ true → EachBelow v.limit (below v.limit v.finds)

-- a draw finds a number that is greater than each that its seat found before
pub record Drew (v : View) (n : ℕ) (w : View) : Type 0 where
  pub view : w ≡ finding n v
  pub greater : All (λ k. k < n) v.finds
  pub tells : Tells w

-- a look changes nothing
pub record Looked (v w : View) : Type 0 where
  pub view : w ≡ v
  pub tells : Tells w
