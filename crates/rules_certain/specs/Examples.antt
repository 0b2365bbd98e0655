-- Modules of the built form without regard to where they stand in a text.
use Rattle.std.specs.Prelude.{ℕ, ◌*◌, List, [], ◌∷◌, map}
use Rattle.luau_tree.specs.declared.names.Place.{Place}
use Rattle.luau_run.specs.ReadModule.{ReadModule}
use Rattle.luau_run.specs.Program.{Program}
use Rattle.luau_run.specs.Machine.{Event, Answer}
use Rattle.luau_run.specs.Run.{run, end_of}
use Rattle.luau_run.specs.runs.Builders.{abs, somewhere}
use Rattle.luau_run.specs.runs.Outcome.{Outcome, outcome}
use Rattle.rules_certain.specs.Literal.{Literal}
use Rattle.rules_certain.specs.Calls.{Written, program_of}
use Rattle.rules_certain.specs.Reports.{argument_of, reports_of}

-- a call with a literal, wherever it stands
abbrev pub written : Literal → Written
written literal =
    record {
      literal = literal;
      statement = somewhere;
      call = somewhere;
      callee = somewhere;
      library = somewhere;
      argument = somewhere;
    }

-- the module of some literals' calls, as the only one of a program
abbrev pub modules_for : List Literal → List (List Written)
modules_for literals = map written literals ∷ []

-- the program of that module, where `math.abs` is the only builtin
abbrev pub program_for : List Literal → Program
program_for literals = program_of (abs ∷ []) (modules_for literals)

-- the reports of that program
abbrev pub reports_for : List Literal → List (ℕ × Place)
reports_for literals = reports_of (modules_for literals)

-- how the run of that program ends, and what it logs
abbrev pub outcome_and_trace : List Literal → (steps : ℕ) → List Answer → Outcome × List Event
outcome_and_trace literals steps tape =
    (outcome (run (program_for literals) 0 steps tape), (end_of (run (program_for literals) 0 steps tape)).trace)

-- the program of some modules, however they were read, where `math.abs` is the only builtin
abbrev pub over_abs : List ReadModule → Program
over_abs readings = record { modules = readings; builtins = abs ∷ [] }

-- a report at the literal of one of a module's calls, counted from 0
abbrev pub report_at : (module_at position : ℕ) → List (ℕ × Place)
report_at module_at position = (module_at, argument_of (position * 4)) ∷ []
