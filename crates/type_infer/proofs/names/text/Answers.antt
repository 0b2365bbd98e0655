use Rattle.std.proofs.Common.{ℕ, List, ap, ◌∙◌}
use Rattle.std.proofs.lemmas.Result.{on_ok_weaker}
use Rattle.rule_work.specs.Moves.{valued}
use Rattle.rule_state.specs.Work.{work_of}
use Rattle.type_normal.specs.Kinds.{text_type}
use Rattle.type_infer.proofs.names.text.Goals as goal

pub returns : goal.returns
returns c = on_ok_weaker c.text.result (λ made. made ∙ ap (λ (bytes : List ℕ). valued (text_type bytes) (work_of c.args.state.now)) c.in_ok-label.ensures) c.text.ensures
