use Rattle.std.proofs.Common.{ℕ, List, ap, ◌∙◌}
use Rattle.std.proofs.lemmas.Result.{on_ok_weaker}
use Rattle.rule_work.specs.Tables.{rowed}
use Rattle.rule_state.specs.Work.{work_of}
use Rattle.type_infer.proofs.exprs.row.Goals as goal

pub returns : goal.returns
returns c = on_ok_weaker c.row.result (λ made. made ∙ ap (λ (names : List (List ℕ)). rowed names (work_of c.args.state.now)) c.in_ok-names.ensures) c.row.ensures
