-- What a seat knows of its board.
use Rattle.std.specs.Prelude.{ℕ, ◌+◌, ◌-◌, false, ◌||◌, List, [], ◌∷◌, ◌++◌, nat_le, if◌then◌else◌, flat_map}
use Rattle.level_workers.specs.declared.view.View.{View}

-- a seat that has all parts and has drawn nothing
abbrev pub first_view : ℕ → ℕ → View
first_view limit seats = record { limit = limit; seats = seats; parts = seats; finds = []; met = false }

-- the seat finds n: it is the last of its finds, and meets the limit where it is not below it
abbrev pub finding : ℕ → View → View
finding n v = record { limit = v.limit; seats = v.seats; parts = v.parts; finds = v.finds ++ n ∷ []; met = nat_le v.limit n }

-- one part less
abbrev pub less_a_part : View → View
less_a_part v = record { limit = v.limit; seats = v.seats; parts = v.parts - 1; finds = v.finds; met = v.met }

-- a seat of that part: it has drawn nothing, and has met the limit where the other has
abbrev pub of_one_part : View → View
of_one_part v = record { limit = v.limit; seats = v.seats; parts = 1; finds = []; met = v.met }

-- what both have, and what both found
abbrev pub joined : View → View → View
joined v w = record { limit = v.limit; seats = v.seats; parts = v.parts + w.parts; finds = v.finds ++ w.finds; met = v.met || w.met }

-- a seat that was joined to another
abbrev pub spent : View
spent = record { limit = 0; seats = 0; parts = 0; finds = []; met = false }

-- what all seats found, seat by seat
abbrev pub all_finds : List View → List ℕ
all_finds views = flat_map (λ v. v.finds) views

-- the parts of a seat that has not met the limit
abbrev pub open_parts : View → ℕ
open_parts v = if v.met then 0 else v.parts
