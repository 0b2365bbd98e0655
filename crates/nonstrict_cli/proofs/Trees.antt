-- What the plain trees of read parts are.
use Rattle.std.proofs.Common.{◌≡◌, ◌≤◌, List, [], ◌∷◌, Option, None, length, refl, sym, ap, ◌∙◌, arith}
use Rattle.luau_tree.proofs.Views.{block_seen, call_expr_seen, call_stat_seen, expr_seen, stat_seen}
use Rattle.luau_tree.specs.declared.tree as code
use Rattle.luau_tree.specs.declared.tree.ExprKind.TheVariants as an_expr
use Rattle.luau_tree.specs.declared.tree.ExprKind.TheViews as part
use Rattle.luau_tree.specs.declared.tree.StatKind.TheVariants as a_stat
use Rattle.luau_tree.specs.Tree as plain
use Rattle.luau_tree.specs.View.{view_block, view_expr, view_expr_kind, view_exprs, view_stat, view_stat_kind, view_stats}
use Rattle.nonstrict_cli.specs.Form.{sole}

-- a block is its statements
pub block_layer : (x : code.Block.Block) → view_block x ≡ view_stats (code.Block.out-Block x).stats
block_layer x = ap view_block (sym (part.roll-out-Block x)) ∙ block_seen _

-- an expression that is a call
pub call_layer : (x : code.Expr.Expr) (callee : code.Expr.Expr) (args : List code.Expr.Expr)
    → (code.Expr.out-Expr x).kind ≡ an_expr.Call callee args
    → view_expr x ≡ plain.the_expr (code.Expr.out-Expr x).id.0 (code.Expr.out-Expr x).span (plain.Call (view_expr callee) (view_exprs args))
call_layer x callee args is =
    ap view_expr (sym (part.roll-out-Expr x)) ∙ expr_seen _ _ _
    ∙ ap (plain.the_expr (code.Expr.out-Expr x).id.0 (code.Expr.out-Expr x).span) (ap view_expr_kind is ∙ call_expr_seen callee args)

-- a statement that is a call
pub call_stat_layer : (x : code.Stat.Stat) (call : code.Expr.Expr) → (code.Stat.out-Stat x).kind ≡ a_stat.CallStat call
    → view_stat x ≡ plain.the_stat (code.Stat.out-Stat x).span (plain.CallStat (view_expr call))
call_stat_layer x call is =
    ap view_stat (sym (part.roll-out-Stat x)) ∙ stat_seen _ _
    ∙ ap (plain.the_stat (code.Stat.out-Stat x).span) (ap view_stat_kind is ∙ call_stat_seen call)

-- two arguments or more are not one
pub sole_of_more : (xs : List code.Expr.Expr) → 2 ≤ length xs → None ≡ sole (view_exprs xs)
sole_of_more [] h = absurd (omega (arith, h))
sole_of_more (x ∷ []) h = absurd (omega (arith, h))
sole_of_more (x ∷ y ∷ ys) h = refl
