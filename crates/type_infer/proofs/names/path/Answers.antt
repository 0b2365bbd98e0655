use Rattle.std.proofs.Common.{◌∙◌}
use Rattle.std.proofs.lemmas.Result.{on_ok_weaker}
use Rattle.luau_tree.specs.View.{view_expr}
use Rattle.rule_state.specs.Work.{work_of}
use Rattle.type_infer.proofs.Reading.{path_is}
use Rattle.type_infer.proofs.names.path.Goals as goal

pub returns : goal.returns
returns c = on_ok_weaker c.builtin_or.result (λ made rules read. made ∙ path_is c.args.facts.now rules read (view_expr c.args.e.now) _ (work_of c.args.state.now) c.use_of.ensures) c.builtin_or.ensures
