-- What the forms in memory that can fail do at each call.
use Rattle.std.specs.Prelude.{◌+◌, ◌-◌, ◌^◌, ◌==◌, ℕ, Bool, true, false, List, min, nat_le, if◌then◌else◌}
use Rattle.std.specs.List.{list_any}
use Rattle.outside.specs.declared.plan.Turn.{Turn}
use Rattle.outside.specs.declared.plan.Turn.TheVariants.{Fails, Idles, Takes}

-- a count after one more, which stops at the end of its range
abbrev pub count_after : ℕ → ℕ
count_after n = min (n + 1) (2 ^ 64 - 1)

-- whether a number is listed
abbrev pub is_listed : List ℕ → ℕ → Bool
is_listed numbers n = list_any (λ m. m == n) numbers

-- A call that is listed as failing fails, else one that is listed as idle takes nothing. Any other
-- takes its bytes, or fails where they go past the room that is left.
abbrev pub turn_of : (failing idle : Bool) → (taken left : ℕ) → Turn
turn_of true idle taken left = Fails
turn_of false true taken left = Idles
turn_of false false taken left = if nat_le taken left then Takes taken else Fails

-- whether a call of this kind is a fault
abbrev pub is_fault : Turn → Bool
is_fault Fails = true
is_fault Idles = true
is_fault (Takes _) = false
