use Rattle.std.proofs.Common.{◌∙◌}
use Rattle.std.proofs.lemmas.Result.{on_ok_weaker}
use Rattle.luau_tree.specs.View.{view_body}
use Rattle.luau_scope.proofs.Layers.{body_layer}
use Rattle.rule_state.specs.Work.{work_of}
use Rattle.type_infer.proofs.Reading.{literal_is}
use Rattle.type_infer.proofs.bodies.literal.Goals as goal

pub returns : goal.returns
returns c = on_ok_weaker c.literal.result (λ made rules home. made ∙ literal_is rules (view_body c.args.body.now) _ _ _ _ _ _ _ _ _ (work_of c.args.state.now) (body_layer c.args.body.now) home) c.literal.ensures
