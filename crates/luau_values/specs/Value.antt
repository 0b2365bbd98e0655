-- The values that a run of Luau code handles. A text is the list of its bytes.
use Rattle.std.specs.Prelude.{ℕ, Bool, true, false, List}

-- a value: nil; true or false; a number, by a text that stands for it; a string; the table at an
-- address of the heap; a closure, by the home of its module, the number of its function body there,
-- and the cell of each local that it captured; a builtin, by its path; or something else, by a
-- number that has no meaning
pub data Value : Type 0 where
  Nil : Value
  Truth : (truth : Bool) → Value
  Num : (text : List ℕ) → Value
  Str : (bytes : List ℕ) → Value
  Tab : (address : ℕ) → Value
  Lit : (home function : ℕ) (cells : List (ℕ × ℕ)) → Value
  Builtin : (path : List ℕ) → Value
  Other : (number : ℕ) → Value

-- whether a value is nil
abbrev pub is_nil : Value → Bool
is_nil Nil = true
is_nil _ = false
