-- Lines and columns of a text.
use Rattle.std.specs.Prelude.{ℕ, ◌+◌, ◌==◌, List, take, count_by, not}
use Rattle.std.specs.List.{suffix_len}
use Rattle.luau_tree.specs.declared.position.Pos.{Pos}

-- the line of an offset: one more than the number of line feeds before it
abbrev pub line_of : List ℕ → ℕ → ℕ
line_of text offset = count_by (λ b. b == 10) (take offset text) + 1

-- the column of an offset: one more than the number of bytes since the last line feed before it, or since the start
abbrev pub column_of : List ℕ → ℕ → ℕ
column_of text offset = suffix_len (λ b. not (b == 10)) (take offset text) + 1

-- the place of an offset in a text
abbrev pub pos_at : List ℕ → ℕ → Pos
pos_at text offset = record { line = line_of text offset; column = column_of text offset }
