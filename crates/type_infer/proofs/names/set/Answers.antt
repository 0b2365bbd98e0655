use Rattle.std.proofs.Common.{◌∙◌}
use Rattle.std.proofs.lemmas.Result.{on_ok_weaker}
use Rattle.luau_tree.specs.View.{view_bind}
use Rattle.rule_state.specs.Work.{work_of}
use Rattle.type_infer.proofs.Reading.{set_is, bind_is}
use Rattle.type_infer.proofs.names.set.Goals as goal

pub returns : goal.returns
returns c = on_ok_weaker c.set.result (λ made rules read. made ∙ set_is c.args.facts.now rules read c.local_of_bind-local.result.0 c.loose.result (work_of c.args.state.now) c.loose.ensures ∙ bind_is c.args.facts.now rules read (view_bind c.args.bind.now) c.local_of_bind-local.result.0 (work_of c.args.state.now) c.local_of_bind-local.ensures) c.set.ensures
