use Rattle.std.proofs.Common.{◌≡◌, ◌∙◌, ap, sym, option_map}
use Rattle.luau_tree.specs.declared.tree.Expr.{out-Expr}
use Rattle.luau_tree.specs.View.{view_expr, view_exprs}
use Rattle.nonstrict_cli.specs.Form.{call_at, called, offset_of}
use Rattle.nonstrict_cli.proofs.Trees.{call_layer}
use Rattle.nonstrict_cli.proofs.form.argument_of.Goals as goal

pub returns-in-Call : goal.returns-in-Call
returns-in-Call c statement =
    c.argument_among.ensures statement ((out-Expr c.args.e.now).span)
    ∙ ap (λ args. option_map offset_of (called statement ((out-Expr c.args.e.now).span) (view_expr c.get.result.now) (view_exprs args))) c.as_slice.ensures
    ∙ ap (λ callee. option_map offset_of (called statement ((out-Expr c.args.e.now).span) (view_expr callee) (view_exprs c.in-Call.args))) c.get.ensures
    ∙ ap (λ e. option_map offset_of (call_at statement e)) (sym (call_layer c.args.e.now c.in-Call.callee c.in-Call.args c.in-Call.is))
