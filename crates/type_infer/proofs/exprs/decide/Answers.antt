use Rattle.std.proofs.lemmas.Result.{on_ok_weaker}
use Rattle.type_infer.proofs.Reading.{reads_by}
use Rattle.type_infer.proofs.exprs.decide.Goals as goal

pub returns : goal.returns
returns c = on_ok_weaker c.refine.result (λ made rules read. made rules (reads_by c.args.facts.now rules read)) c.refine.ensures
