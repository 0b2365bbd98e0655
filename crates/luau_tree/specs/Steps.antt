-- What the code keeps on its way to the place of an offset. No clause of a result cites these, so no reader needs to
-- believe them.
use Rattle.std.specs.Prelude.{◌≡◌, ◌≤◌, ℕ, ◌+◌, ◌==◌, if◌then◌else◌, List, length}
use Rattle.luau_tree.specs.declared.position.Pos.{Pos}
use Rattle.luau_tree.specs.declared.position.TheConstants.{MAX_TEXT}
use Rattle.luau_tree.specs.Position.{pos_at}

-- the place after a byte: a line feed ends its line
abbrev pub place_after : Pos → ℕ → Pos
place_after pos byte = if byte == 10 then record { line = pos.line + 1; column = 1 } else record { line = pos.line; column = pos.column + 1 }

-- a place belongs to an offset within a text of at most 1,048,576 bytes
pub record PosStands (text : List ℕ) (offset : ℕ) (pos : Pos) : Type 0 where
  pub within : offset ≤ length text
  pub short : length text ≤ MAX_TEXT
  pub place : pos ≡ pos_at text offset
