use Rattle.std.proofs.Common.{sym, ap, ◌∙◌}
use Rattle.luau_tree.specs.Tree as plain
use Rattle.std.proofs.lemmas.Result.{on_ok_weaker}
use Rattle.luau_scope.proofs.Layers.{body_layer}
use Rattle.rule_state.specs.Work.{work_of}
use Rattle.infer_plan.specs.Steps.{body_seen}
use Rattle.type_infer.proofs.bodies.see.Goals as goal

pub returns : goal.returns
returns c = on_ok_weaker c.see_body.result (λ made. made ∙ ap (λ (b : plain.Body). body_seen b (work_of c.args.state.now)) (sym (body_layer c.args.body.now))) c.see_body.ensures
