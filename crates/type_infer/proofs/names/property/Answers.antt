use Rattle.std.proofs.Common.{ℕ, List, ap, ◌∙◌}
use Rattle.report_rules.specs.Forward as forward
use Rattle.std.proofs.lemmas.Result.{on_ok_weaker}
use Rattle.rule_work.specs.Moves.{valued}
use Rattle.rule_state.specs.Work.{work_of}
use Rattle.type_infer.proofs.names.property.Goals as goal

pub returns : goal.returns
returns c = on_ok_weaker c.property.result (λ made. made ∙ ap (λ (name : List ℕ). valued (forward.property name (work_of c.args.state.now).value) (work_of c.args.state.now)) c.in_ok-label.ensures) c.property.ensures
