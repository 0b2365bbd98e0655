use Rattle.std.proofs.Common.{◌≡◌, true}
use Rattle.type_arena.proofs.CloneLemmas.{same_row}
use Rattle.type_fields.specs.Setting.{freeze}
use Rattle.type_fields.proofs.UnionFacts.{mapped_more}
use Rattle.type_fields.proofs.setting.frozen.Goals as goal

pub loop-row-preserved : goal.loop-row-preserved
loop-row-preserved c =
    let same : c.in_ok-copy.copy ≡ c.row-item.result = same_row c.row-item.result c.in_ok-copy.copy c.in_ok-copy.ensures.cases in
    mapped_more freeze c.args.rows.now c.loop-row.row-index c.row-item.result (record { frozen = true; fields = c.in_ok-copy.copy.fields }) c.loop-row.all.items c.push.new.self.items
    c.loop-row-test.true c.row-item.is (λ i. record { frozen = true; fields = (same i).fields }) c.loop-row.invariant c.in_ok-push.ensures.items
