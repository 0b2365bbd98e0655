use Rattle.std.proofs.Common.{sym, ap, ◌∙◌, arith}
use Rattle.luau_tree.specs.Tree as plain
use Rattle.std.proofs.lemmas.Result.{on_ok_weaker}
use Rattle.luau_tree.specs.View.{view_expr}
use Rattle.infer_plan.specs.Run.{run}
use Rattle.infer_plan.specs.Steps.{with_kind}
use Rattle.infer_plan.proofs.ExprForms.{binary_form}
use Rattle.luau_tree.specs.declared.names.BinOp.{BinOp}
use Rattle.infer_plan.proofs.exprs.binary.Goals as goal

pub returns-in-And-clause-work : goal.returns-in-And-clause-work
returns-in-And-clause-work c = on_ok_weaker c.and.result (λ made rules id work. made rules id work ∙ ap (λ (op : BinOp). run rules c.args.tasks.now.items (with_kind rules id (plain.Binary op (view_expr c.args.left.now) (view_expr c.args.right.now)) work)) (sym c.in-And.is)) c.and.ensures.work

pub returns-in-Or-clause-work : goal.returns-in-Or-clause-work
returns-in-Or-clause-work c = on_ok_weaker c.or.result (λ made rules id work. made rules id work ∙ ap (λ (op : BinOp). run rules c.args.tasks.now.items (with_kind rules id (plain.Binary op (view_expr c.args.left.now) (view_expr c.args.right.now)) work)) (sym c.in-Or.is)) c.or.ensures.work

pub returns-in_default-clause-work : goal.returns-in_default-clause-work
returns-in_default-clause-work c = on_ok_weaker c.plan.result (λ made rules id work. made rules work ∙ ap (run rules c.args.tasks.now.items) (binary_form rules id c.args.op (view_expr c.args.left.now) (view_expr c.args.right.now) work c.in_default.not-And c.in_default.not-Or)) c.plan.ensures.work

pub returns-in_default-clause-light : goal.returns-in_default-clause-light
returns-in_default-clause-light c = on_ok_weaker c.plan.result (λ light. omega (arith, light)) c.plan.ensures.light
