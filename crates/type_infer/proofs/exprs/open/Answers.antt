use Rattle.std.proofs.Common.{sym, ap, ◌∙◌}
use Rattle.luau_tree.specs.Tree as plain
use Rattle.std.proofs.lemmas.Result.{on_ok_weaker}
use Rattle.luau_scope.proofs.Layers.{expr_layer}
use Rattle.rule_state.specs.Work.{work_of}
use Rattle.infer_plan.specs.Steps.{opened_at}
use Rattle.type_infer.proofs.exprs.open.Goals as goal

pub returns : goal.returns
returns c = on_ok_weaker c.open.result (λ made. made ∙ ap (λ (x : plain.Expr). opened_at x (work_of c.args.state.now)) (sym (expr_layer c.args.e.now))) c.open.ensures
