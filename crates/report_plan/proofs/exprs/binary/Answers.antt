use Rattle.std.proofs.Common.{sym, subst, arith}
use Rattle.std.proofs.lemmas.Result.{on_ok_weaker}
use Rattle.luau_tree.specs.declared.names.BinOp.{BinOp}
use Rattle.luau_tree.specs.Tree.{Binary}
use Rattle.luau_tree.specs.View.{view_expr}
use Rattle.report_work.specs.Expressions.{with_ev_kind}
use Rattle.report_plan.specs.Puts.{Puts}
use Rattle.report_plan.specs.Weights.{kind_weight}
use Rattle.report_plan.proofs.EvForms.{binary_form}
use Rattle.report_plan.proofs.Plans.{put_as}
use Rattle.report_plan.proofs.exprs.binary.Goals as goal

pub returns-in-And : goal.returns-in-And
returns-in-And c =
    let left = view_expr c.args.left.now in
    let right = view_expr c.args.right.now in
    on_ok_weaker c.and.result
    (λ p id. subst (λ (op : BinOp). Puts c.args.tasks.now.items c.and.new.tasks.items (λ rules seen. with_ev_kind rules seen id (Binary op left right)) (kind_weight (Binary op left right))) (sym c.in-And.is) (p id))
    c.and.ensures

pub returns-in-Or : goal.returns-in-Or
returns-in-Or c =
    let left = view_expr c.args.left.now in
    let right = view_expr c.args.right.now in
    on_ok_weaker c.or.result
    (λ p id. subst (λ (op : BinOp). Puts c.args.tasks.now.items c.or.new.tasks.items (λ rules seen. with_ev_kind rules seen id (Binary op left right)) (kind_weight (Binary op left right))) (sym c.in-Or.is) (p id))
    c.or.ensures

pub returns-in_default : goal.returns-in_default
returns-in_default c =
    on_ok_weaker c.plan.result (λ p id. put_as _ _ _ _ _ _ (λ rules seen work. binary_form rules seen id c.args.op (view_expr c.args.left.now) (view_expr c.args.right.now) work c.in_default.not-And c.in_default.not-Or) (omega arith) p) c.plan.ensures
