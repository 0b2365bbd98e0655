use Rattle.std.proofs.Common.{◌∙◌}
use Rattle.type_infer.proofs.Numbered.{one_found}
use Rattle.type_infer.proofs.imports.by_number.Goals as goal

pub loop-i-preserved : goal.loop-i-preserved
loop-i-preserved c = λ id. c.in_ok-insert.ensures.updates.0 id ∙ one_found c.args.imports.now _ c.loop-i.i id _ (c.loop-i.invariant id) c.loop-i-test.true c.loop-i.auto.i
