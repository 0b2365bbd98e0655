-- What worked rows are built of: a few declared builtins, modules over them, and what is told of a module.
use Rattle.std.specs.Prelude.{ℕ, true, false, List, [], ◌∷◌, Option, Some, None, codes, map}
use Rattle.luau_tree.specs.declared.names.Place.{Place}
use Rattle.luau_tree.specs.declared.names.Place.TheVariants.{Expr as ExprPlace, Param as ParamPlace}
use Rattle.luau_tree.specs.Tree.{StatKind, Expr, NameExpr, the_bind, no_binds, more_binds, Bind, Binds, no_type, LocalFunction}
use Rattle.luau_run.specs.ReadModule.{Use}
use Rattle.luau_run.specs.ReadFolder.{is_among}
use Rattle.luau_run.specs.runs.Builders.{e, call_of, body_of, module_of}
use Rattle.type_arena.specs.Term.{Term}
use Rattle.type_normal.specs.Kinds.{unknown, number_type, string_type, table_type}
use Rattle.report_rules.specs.Rules.{TypedBuiltin, Rules}
use Rattle.report_rules.specs.Checks.{ReportKind}
use Rattle.report_rules.specs.Reports.{reports}

-- a checked and quiet function of these parameters with one result
abbrev pub checked_function : List ℕ → List Term → Option Term → Term → TypedBuiltin
checked_function path params rest result =
    record { path = path; params = params; rest = rest; results = result ∷ []; more = None; checked = true; quiet = true }

abbrev pub abs : TypedBuiltin
abs = checked_function (codes "math.abs") (number_type ∷ []) None number_type

abbrev pub clamp : TypedBuiltin
clamp = checked_function (codes "math.clamp") (number_type ∷ number_type ∷ number_type ∷ []) None number_type

abbrev pub lower : TypedBuiltin
lower = checked_function (codes "string.lower") (string_type ∷ []) None string_type

abbrev pub char : TypedBuiltin
char = checked_function (codes "string.char") [] (Some number_type) string_type

abbrev pub freeze : TypedBuiltin
freeze = checked_function (codes "table.freeze") (table_type ∷ []) None table_type

abbrev pub type : TypedBuiltin
type = record { path = codes "type"; params = unknown ∷ []; rest = None; results = string_type ∷ []; more = None; checked = false; quiet = true }

abbrev pub print : TypedBuiltin
print = record { path = codes "print"; params = []; rest = Some unknown; results = []; more = None; checked = false; quiet = true }

abbrev pub builtins : List TypedBuiltin
builtins = abs ∷ clamp ∷ lower ∷ char ∷ freeze ∷ type ∷ print ∷ []

-- a module with statements and names, whose loose locals are these, and with the types of its functions' parameters
abbrev pub rules_with : List StatKind → List (ℕ × Use) → (loose : List ℕ) → (annotation : ℕ → Term) → Rules
rules_with kinds uses loose annotation = record {
  reading = module_of 1 kinds uses [];
  assigned = λ local. is_among local loose;
  caught = λ local. is_among local loose;
  fixed = λ local. None;
  table = builtins;
  annotation = λ function index. annotation index;
  import = λ id. unknown;
  known = λ start function. None;
}

abbrev pub rules_of : List StatKind → List (ℕ × Use) → Rules
rules_of kinds uses = rules_with kinds uses [] (λ index. unknown)

-- what is told of a module: the places of its reports, with what they say
abbrev pub told : Rules → List (Place × ReportKind)
told rules = map (λ report. (report.place, report.kind)) (reports rules)

abbrev pub at : ℕ → Place
at id = ExprPlace (record { 0 = id })

abbrev pub parameter : (function index : ℕ) → Place
parameter function index = ParamPlace (record { 0 = function }) index

-- a name whose bytes are those of a builtin or a library play no part: what it stands for does
abbrev pub builtin_at : ℕ → Expr
builtin_at id = e id (NameExpr [])

-- the call with a number of a name with another
abbrev pub call_at : (call callee : ℕ) → List Expr → Expr
call_at call callee args = e call (call_of (builtin_at callee) args)

-- the local with a number, whose name is x
abbrev pub x_bind : ℕ → Bind
x_bind local = the_bind (codes "x") (record { start = local; end = local }) no_type

abbrev pub x_binds : ℕ → Binds
x_binds local = more_binds (x_bind local) no_binds

-- `local function f(x) STATEMENTS end`: f is the local 0 and x is 1
abbrev pub function_of_x : List StatKind → StatKind
function_of_x kinds = LocalFunction (the_bind (codes "f") (record { start = 0; end = 0 }) no_type) (body_of 0 (x_binds 1) kinds)
