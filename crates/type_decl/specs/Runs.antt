-- Declared builtins as runs have them: types as sets of values.
use Rattle.std.specs.Prelude.{ℕ, List, map, option_map}
use Rattle.type_arena.specs.Term.{Term}
use Rattle.type_normal.specs.Holds.{holds}
use Rattle.luau_run.specs.ValueSet.{ValueSet}
use Rattle.luau_run.specs.Signature as run
use Rattle.luau_run.specs.Program.{Program}
use Rattle.luau_run.specs.ReadModule.{ReadModule}
use Rattle.type_decl.specs.Signatures.{Signature}

-- the values of a type
abbrev pub values_of : Term → ValueSet
values_of type heap value = holds heap value type

-- the signature that a declaration gives a run
abbrev pub run_signature : Signature → run.Signature
run_signature s = record {
  params = map values_of s.params;
  rest = option_map values_of s.rest;
  results = map values_of s.results;
  more = option_map values_of s.more;
  checked = s.checked;
  quiet = s.quiet;
}

-- the builtins of a table
abbrev pub builtins_of : List (List ℕ × Signature) → List run.Declared
builtins_of table = map (λ entry. record { path = entry.0; signature = run_signature entry.1 }) table

-- modules over the builtins of a table
abbrev pub program_over : List (List ℕ × Signature) → List ReadModule → Program
program_over table modules = record { modules = modules; builtins = builtins_of table }
