use Rattle.std.proofs.Common.{◌≡◌}
use Rattle.type_arena.proofs.CloneLemmas.{same_row}
use Rattle.type_ops.proofs.ListFacts.{copied}
use Rattle.type_ops.proofs.joining.copy_rows.Goals as goal

pub loop-row-preserved : goal.loop-row-preserved
loop-row-preserved c =
    copied c.args.to.now.items c.loop-row.to.items c.push.new.self.items c.args.from.now c.loop-row.row-index c.row-item.result c.in_ok-clone.field-0
    c.loop-row-test.true c.row-item.is (same_row c.row-item.result c.in_ok-clone.field-0 c.in_ok-clone.ensures.cases) c.loop-row.invariant c.in_ok-push.ensures.items
