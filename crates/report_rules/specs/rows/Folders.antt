-- Worked rows on programs of several modules.
use Rattle.std.specs.Prelude.{ℕ, ◌==◌, List, [], ◌∷◌, Some, None, if◌then◌else◌, codes}
use Rattle.luau_tree.specs.declared.names.Place.{Place}
use Rattle.luau_tree.specs.Tree.{Expr, ExprKind, Index, Field, CallStat, LocalFunction, no_binds}
use Rattle.luau_run.specs.ReadModule.{UseLocal, UseBuiltin, UseGlobal}
use Rattle.luau_run.specs.runs.Builders.{e, str, name, table, call_of, body_of, declared, alone, locals, returning}
use Rattle.report_rules.specs.Rules.{Rules}
use Rattle.report_rules.specs.Reports.{places_of_program}
use Rattle.report_rules.specs.Program.{linked}
use Rattle.report_rules.specs.rows.Builders.{rules_of}

-- `{name = "s"}`, and `table.freeze({name = "s"})`
abbrev pub named : ExprKind
named = table (Field (codes "name") (e 2 str) ∷ [])

abbrev pub frozen : ExprKind
frozen = call_of (name 1) (e 3 named ∷ [])

-- `return VALUE`
abbrev pub library : ExprKind → Rules
library value = rules_of (returning (e 0 value ∷ []) ∷ []) ((1, UseBuiltin (codes "table.freeze")) ∷ [])

-- a module whose call with the number 10 is a static require of the module at a position
abbrev pub requiring : (other : ℕ) → Rules → Rules
requiring other rules = record rules { reading = record (rules.reading) { required = λ id. if id == 10 then Some other else None } }

-- `local M = require("./lib")`, `BUILTIN(M.name)`, where lib is the module at a position
abbrev pub using : (other : ℕ) → (path : List ℕ) → Rules
using other path =
    requiring other
    (rules_of
    (locals (alone 0) (e 10 (call_of (name 11) (e 12 str ∷ [])) ∷ []) ∷ CallStat (e 20 (call_of (name 21) (e 22 (Index (name 23) (codes "name")) ∷ []))) ∷ [])
    ((11, UseGlobal) ∷ (21, UseBuiltin path) ∷ (23, UseLocal 0) ∷ []))

-- the reported places of modules that are linked one after the other
abbrev pub places_in : List Rules → List (ℕ × Place)
places_in modules = places_of_program (linked modules)

-- a module of the sample folder behind its first line, which is `local p = VALUE`:
-- `local function check() return BUILTIN(p.name) end`, `return table.freeze({name = "s", check = check})`
abbrev pub sample_of : Expr → (path : List ℕ) → Rules
sample_of value path =
    rules_of
    (locals (alone 0) (value ∷ [])
    ∷ LocalFunction (declared 1) (body_of 0 no_binds (returning (e 20 (call_of (name 21) (e 22 (Index (name 23) (codes "name")) ∷ [])) ∷ []) ∷ []))
    ∷ returning (e 30 (call_of (name 31) (e 32 (table (Field (codes "name") (e 33 str) ∷ Field (codes "check") (name 34) ∷ [])) ∷ [])) ∷ []) ∷ [])
    ((1, UseBuiltin (codes "table.freeze")) ∷ (11, UseGlobal) ∷ (21, UseBuiltin path) ∷ (23, UseLocal 0) ∷ (31, UseBuiltin (codes "table.freeze")) ∷ (34, UseLocal 1) ∷ [])

-- its first module, and the others, whose first line is `local p = require("./m")`
abbrev pub sample_root : (path : List ℕ) → Rules
sample_root path = sample_of (e 10 frozen) path

abbrev pub sample_after : (other : ℕ) → (path : List ℕ) → Rules
sample_after other path = requiring other (sample_of (e 10 (call_of (name 11) (e 12 str ∷ []))) path)
