-- What lists of parts weigh.
use Rattle.std.proofs.Common.{◌≡◌, ◌≤◌, ◌+◌, ℕ, refl, ap, arith}
use Rattle.luau_tree.specs.declared.position.Span.{Span}
use Rattle.luau_tree.specs.Tree.{Block, no_stats, more_stats, Expr, the_expr, Stat, the_stat, Item, Keyed, Exprs, no_exprs, more_exprs, ExprKind, FunctionExpr, Index, At, Call, Method, Paren, Unary, Binary, IfElse, TableExpr, Interp, Assert}
use Rattle.report_rules.specs.Checks.{count}
use Rattle.report_plan.specs.declared.task.CheckTask.TheVariants.{Before, Found, Passed}
use Rattle.report_plan.specs.Weights.{twice, part, expr_weight, form_weight, kind_weight, stat_weight, stat_form_weight, exprs_weight, item_weight, targets_weight, checked_loads, block_weight, stats_weight}

pub before_loads : (es : Exprs) → checked_loads Before es ≤ exprs_weight es
before_loads no_exprs = omega arith
before_loads (more_exprs e rest) = omega (arith, before_loads rest)

pub found_loads : (es : Exprs) → checked_loads Found es ≤ exprs_weight es
found_loads no_exprs = omega arith
found_loads (more_exprs e rest) = omega (arith, found_loads rest)

pub passed_loads : (es : Exprs) → checked_loads Passed es ≤ twice (exprs_weight es)
passed_loads no_exprs = omega arith
passed_loads (more_exprs e rest) = omega (arith, passed_loads rest)

pub keyed_load : (item : Item) (key e : Expr) → item ≡ Keyed key e → item_weight item ≡ 7 + (part (expr_weight key) + expr_weight e)
keyed_load item key e is = ap item_weight is

pub targets_loads : (es : Exprs) → targets_weight es + (count es + count es) ≤ twice (exprs_weight es)
targets_loads no_exprs = omega arith
targets_loads (more_exprs e rest) = omega (arith, targets_loads rest)

-- an expression weighs more than its form
pub form_load : (e : Expr) → expr_weight e ≡ 3 + form_weight e
form_load (the_expr id span kind) = refl

pub stat_load : (s : Stat) → stat_weight s ≡ 1 + stat_form_weight s
stat_load (the_stat span kind) = refl

-- an expression, of which the form is known
pub form_of : (e : Expr) (id : ℕ) (span : Span) (kind : ExprKind) → e ≡ the_expr id span kind → form_weight e ≡ kind_weight kind
form_of e id span kind is = ap form_weight is

-- each form weighs something
kind_some : (kind : ExprKind) → 1 ≤ kind_weight kind
kind_some (FunctionExpr body) = omega arith
kind_some (Index base name) = omega arith
kind_some (At base key) = omega arith
kind_some (Call callee args) = omega arith
kind_some (Method base name span args) = omega arith
kind_some (Paren e) = omega arith
kind_some (Unary op e) = omega arith
kind_some (Binary op left right) = omega arith
kind_some (IfElse arms last) = omega arith
kind_some (TableExpr items) = omega arith
kind_some (Interp texts parts) = omega arith
kind_some (Assert e syntax) = omega arith
kind_some _ = omega arith

pub form_some : (e : Expr) → 1 ≤ form_weight e
form_some (the_expr id span kind) = kind_some kind

-- a block weighs more than its statements
pub block_load : (block : Block) → block_weight block ≡ 1 + stats_weight block
block_load no_stats = refl
block_load (more_stats s rest) = omega (arith, block_load rest)
