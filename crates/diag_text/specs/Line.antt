-- Lines of output: their text, and their order.
use Rattle.std.specs.Prelude.{ℕ, ◌≤◌, ◌≢◌, ◌==◌, ◌||◌, nat_lt, if◌then◌else◌, List, ◌++◌, map, codes, decimal}
use Rattle.std.specs.declared.cmp.Ordering.{Ordering}
use Rattle.std.specs.Ordering.{nat_cmp, on, then_cmp}
use Rattle.diag_text.specs.declared.line.Line.{Line}
use Rattle.diag_text.specs.declared.line.LineKind.{LineKind}
use Rattle.diag_text.specs.declared.line.LineKind.TheVariants.{Refused, Skipped, Argument, Missing, Operand, Value, Parameter}
use Rattle.luau_tree.specs.Sorted.{bytes_cmp, sorted_by}

-- a byte as a text line shows it: a control character, which is below 32 or 127, as `?`
abbrev pub printable_byte : ℕ → ℕ
printable_byte byte = if nat_lt byte 32 || byte == 127 then 63 else byte

-- some bytes as a text line shows them
abbrev pub printable : List ℕ → List ℕ
printable bytes = map printable_byte bytes

-- a byte that is no control character
abbrev pub IsPrintable : ℕ → Type 0
IsPrintable byte = (32 ≤ byte) × (byte ≢ 127)

-- a line as text: PATH:LINE:COLUMN: MESSAGE and a line feed
abbrev pub text_of : Line → List ℕ
text_of line = printable line.path ++ codes ":" ++ decimal line.at.line ++ codes ":" ++ decimal line.at.column ++ codes ": " ++ printable line.message ++ codes "\n"

-- where a kind stands among the kinds
abbrev pub kind_rank : LineKind → ℕ
kind_rank Refused = 0
kind_rank Skipped = 1
kind_rank Argument = 2
kind_rank Missing = 3
kind_rank Operand = 4
kind_rank Value = 5
kind_rank Parameter = 6

-- lines are compared by their paths, then their lines, their columns, their kinds and their messages
abbrev pub line_cmp : Line → Line → Ordering
line_cmp = then_cmp (on (λ l. l.path) bytes_cmp) (then_cmp (on (λ l. l.at.line) nat_cmp) (then_cmp (on (λ l. l.at.column) nat_cmp) (then_cmp (on (λ l. kind_rank l.kind) nat_cmp) (on (λ l. l.message) bytes_cmp))))

-- the lines in order, each once
abbrev pub sorted_lines : List Line → List Line
sorted_lines = sorted_by line_cmp
