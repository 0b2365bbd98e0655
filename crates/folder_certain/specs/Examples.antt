-- Folders of one module.
use Rattle.std.specs.Prelude.{ℕ, List, [], ◌∷◌, None, codes}
use Rattle.luau_tree.specs.declared.names.Place.{Place}
use Rattle.luau_tree.specs.Tree.{StatKind, CallStat, Expr, StrExpr, NameExpr, Index}
use Rattle.luau_run.specs.runs.Builders.{e, num, library, call_of, block_of, assign}
use Rattle.luau_run.specs.runs.CallOfAbs.{call_of_abs}
use Rattle.report_rules.specs.rows.Builders.{parameter, function_of_x}
use Rattle.reading_fits.specs.FolderAnalysis.{TreeModule}

-- `math.abs("hi")`
abbrev pub wrong_argument : List TreeModule
wrong_argument = record { home = 1; block = call_of_abs (StrExpr (codes "hi")); leads = λ way. None } ∷ []

-- `x`, with a number
abbrev pub x_at : ℕ → Expr
x_at id = e id (NameExpr (codes "x"))

-- `math.abs(x)`
abbrev pub abs_of_x : StatKind
abs_of_x = CallStat (e 0 (call_of (e 1 (Index (library 2 (codes "math")) (codes "abs"))) (x_at 3 ∷ [])))

-- `x.q = 1`
abbrev pub q_of_x_written : StatKind
q_of_x_written = assign (e 4 (Index (x_at 5) (codes "q"))) (e 6 num)

-- `local function f(x) math.abs(x) x.q = 1 end`
abbrev pub failing_parameter : List TreeModule
failing_parameter = record { home = 1; block = block_of (function_of_x (abs_of_x ∷ q_of_x_written ∷ []) ∷ []); leads = λ way. None } ∷ []

-- a report at the parameter
abbrev pub at_parameter : List (ℕ × Place)
at_parameter = (0, parameter 0 0) ∷ []
