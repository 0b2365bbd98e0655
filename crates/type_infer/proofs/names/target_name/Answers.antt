use Rattle.std.proofs.Common.{◌∙◌}
use Rattle.std.proofs.lemmas.Result.{on_ok_weaker}
use Rattle.luau_tree.specs.View.{view_expr}
use Rattle.rule_state.specs.Work.{work_of}
use Rattle.type_infer.proofs.Reading.{local_is, target_local_is, target_other_is}
use Rattle.type_infer.proofs.names.target_name.Goals as goal

pub returns-in-Some : goal.returns-in-Some
returns-in-Some c = on_ok_weaker c.local.result (λ made rules read. made ∙ local_is c.args.facts.now rules read c.in-Some.local.0 c.loose.result (work_of c.args.state.now) c.loose.ensures ∙ target_local_is c.args.facts.now rules read (view_expr c.args.e.now) c.in-Some.local.0 (work_of c.args.state.now) c.in-Some.ensures) c.local.ensures

pub returns-in-None : goal.returns-in-None
returns-in-None c = on_ok_weaker c.plain.result (λ made rules read. made ∙ target_other_is c.args.facts.now rules read (view_expr c.args.e.now) (work_of c.args.state.now) c.in-None.ensures) c.plain.ensures
