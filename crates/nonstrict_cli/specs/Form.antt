-- The built form: modules whose statements are calls of `math.abs`, each with one literal.
use Rattle.std.specs.Prelude.{◌&&◌, ◌++◌, ℕ, Bool, true, false, not, List, [], ◌∷◌, Option, None, Some, if◌then◌else◌, codes, option_map}
use Rattle.std.specs.Option.{option_and_then}
use Rattle.std.specs.Str.{bytes_eq}
use Rattle.luau_tree.specs.declared.position.Span.{Span}
use Rattle.luau_tree.specs.Tree.{Block, Stat, StatKind, Expr, ExprKind, Exprs}
use Rattle.luau_tree.specs.Tree as tree
use Rattle.luau_tree.specs.Nodes.{expr_span}
use Rattle.rules_certain.specs.Literal.{Literal, NilLiteral, TruthLiteral, NumberLiteral, StrLiteral, is_number}
use Rattle.rules_certain.specs.Calls.{Written}

-- the literal that an expression is, if it is one
abbrev literal_by : ExprKind → Option Literal
literal_by tree.NilExpr = Some NilLiteral
literal_by tree.TrueExpr = Some (TruthLiteral true)
literal_by tree.FalseExpr = Some (TruthLiteral false)
literal_by (tree.NumberExpr text) = Some (NumberLiteral text)
literal_by (tree.StrExpr bytes) = Some (StrLiteral bytes)
literal_by _ = None

abbrev pub literal_in : Expr → Option Literal
literal_in (tree.the_expr id span kind) = literal_by kind

-- whether an expression is this name
abbrev is_name_by : List ℕ → ExprKind → Bool
is_name_by name (tree.NameExpr given) = bytes_eq given name
is_name_by name _ = false

abbrev pub is_name : List ℕ → Expr → Bool
is_name name (tree.the_expr id span kind) = is_name_by name kind

-- where the library stands in `math.abs`, if an expression is that
abbrev library_by : ExprKind → Option Span
library_by (tree.Index base name) =
    if is_name (codes "math") base && bytes_eq name (codes "abs") then Some (expr_span base) else None
library_by _ = None

abbrev pub library_in : Expr → Option Span
library_in (tree.the_expr id span kind) = library_by kind

-- the one argument of a call
abbrev pub sole : Exprs → Option Expr
sole (tree.more_exprs e tree.no_exprs) = Some e
sole _ = None

-- a call with a literal, by where its parts stand
abbrev pub written_at : (statement call callee library argument : Span) → Literal → Written
written_at statement call callee library argument literal =
    record {
      literal = literal;
      statement = statement;
      call = call;
      callee = callee;
      library = library;
      argument = argument;
    }

-- the call of `math.abs` with one literal that a call with this callee and these arguments is, if it is one
abbrev pub called : (statement call : Span) → Expr → Exprs → Option Written
called statement call callee args =
    option_and_then (λ library. option_and_then (λ e.
    option_map (written_at statement call (expr_span callee) library (expr_span e)) (literal_in e))
    (sole args)) (library_in callee)

-- the call of `math.abs` with one literal that an expression is, if it is one
abbrev call_by : (statement call : Span) → ExprKind → Option Written
call_by statement call (tree.Call callee args) = called statement call callee args
call_by statement call _ = None

abbrev pub call_at : (statement : Span) → Expr → Option Written
call_at statement (tree.the_expr id span kind) = call_by statement span kind

-- the call of `math.abs` with one literal that a statement is, if it is one
abbrev call_in_kind : (statement : Span) → StatKind → Option Written
call_in_kind statement (tree.CallStat call) = call_at statement call
call_in_kind statement _ = None

abbrev pub call_in : Stat → Option Written
call_in (tree.the_stat span kind) = call_in_kind span kind

-- the calls of `math.abs` with one literal each that a module is, if it is that
abbrev pub calls_in : Block → Option (List Written)
calls_in tree.no_stats = Some []
calls_in (tree.more_stats s rest) =
    option_and_then (λ call. option_map (λ later. call ∷ later) (calls_in rest)) (call_in s)

-- where a literal at this offset is reported, if it is
abbrev pub offsets_at : ℕ → Bool → List ℕ
offsets_at offset true = offset ∷ []
offsets_at offset false = []

-- where a call is reported: at its literal, unless that is a number
abbrev pub offset_of : Written → List ℕ
offset_of call = offsets_at call.argument.start (not (is_number call.literal))

-- where some calls are reported
abbrev pub offsets_of : List Written → List ℕ
offsets_of [] = []
offsets_of (call ∷ calls) = offset_of call ++ offsets_of calls

-- where the calls of a module are reported, if it is calls of `math.abs` with one literal each
abbrev pub faults_in : Block → Option (List ℕ)
faults_in block = option_map offsets_of (calls_in block)
