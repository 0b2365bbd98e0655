use Rattle.std.proofs.Common.{◌≡◌, []}
use Rattle.type_ops.proofs.ListFacts.{copied}
use Rattle.type_ops.proofs.copying.copy_fields.Goals as goal

pub loop-field-preserved : goal.loop-field-preserved
loop-field-preserved c =
    copied [] c.loop-field.copy.items c.push.new.self.items c.args.fields.now c.loop-field.field-index c.field-item.result (c.in_ok-clone.field-0, c.field-item.result.1)
    c.loop-field-test.true c.field-item.is
    (let same : c.in_ok-clone.field-0 ≡ c.field-item.result.0 = c.in_ok-clone.ensures.cases in λ i. (same i, c.field-item.result.1))
    c.loop-field.invariant c.in_ok-push.ensures.items
