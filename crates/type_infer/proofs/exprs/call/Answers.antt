use Rattle.std.proofs.Common.{◌∙◌}
use Rattle.std.proofs.lemmas.Result.{on_ok_weaker}
use Rattle.luau_tree.specs.View.{view_expr}
use Rattle.luau_scope.proofs.Layers.{expr_layer}
use Rattle.rule_state.specs.Work.{work_of}
use Rattle.type_infer.proofs.Calling.{called_is}
use Rattle.type_infer.proofs.exprs.call.Goals as goal

pub returns : goal.returns
returns c = on_ok_weaker c.call.result (λ made rules under. made ∙ called_is c.args.facts.now rules (work_of c.args.state.now) under (view_expr c.args.e.now) _ _ _ (expr_layer c.args.e.now)) c.call.ensures
