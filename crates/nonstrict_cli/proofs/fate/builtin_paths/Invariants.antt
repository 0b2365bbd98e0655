use Rattle.std.proofs.Common.{◌≡◌, List, ℕ, take, map, Bor}
use Rattle.builtin_table.specs.declared.table.Line.{Line}
use Rattle.nonstrict_cli.proofs.fate.builtin_paths.Given as goal

-- the paths so far
abbrev pub invariant-loop-entry : goal.invariant-loop-entry
invariant-loop-entry l = l.names.items ≡ map (λ (e : Bor (List ℕ) × Line). e.0.now) (take l.entry-index l.entries)
