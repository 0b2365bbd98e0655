use Rattle.std.proofs.Common.{List, ap, ◌∙◌}
use Rattle.luau_tree.specs.declared.tree as code
use Rattle.std.proofs.lemmas.Result.{on_ok_weaker}
use Rattle.luau_tree.specs.View.{view_binds, view_body}
use Rattle.luau_scope.proofs.Layers.{body_layer}
use Rattle.rule_state.specs.Work.{work_of}
use Rattle.type_infer.proofs.Reading.{entered_is}
use Rattle.local_types.specs.Locals.{numbers}
use Rattle.report_rules.specs.Effects.{locals_of_binds}
use Rattle.module_facts.specs.Facts.{rules_of_facts}
use Rattle.type_infer.proofs.bodies.enter.Goals as goal

pub returns : goal.returns
returns c = on_ok_weaker c.enter.result (λ made rules read. made ∙ entered_is c.args.facts.now rules read (view_body c.args.body.now) _ _ _ _ _ _ _ _ _ (work_of c.args.state.now) (body_layer c.args.body.now) (ap numbers c.as_slice-2.ensures.value ∙ c.in_ok-params.ensures ∙ ap (λ (bs : List code.Bind.Bind). locals_of_binds (rules_of_facts c.args.facts.now) (view_binds bs)) c.as_slice.ensures)) c.enter.ensures
