use Rattle.std.specs.Prelude.{IsTrue}
use Rattle.type_arena.specs.Arena.{store_of}
use Rattle.type_arena.specs.Store.{has}
use Rattle.type_normal.proofs.ShapeFacts.{row_item_hold}
use Rattle.type_ops.proofs.sorting.place_of.Goals as goal

pub compare_rows-requires-clause-second : goal.compare_rows-requires-clause-second
compare_rows-requires-clause-second c =
    row_item_hold (λ at. IsTrue (has (store_of c.args.arena.now) at)) c.args.rows.now c.loop-i.i c.index-rows-i.result c.loop-i-test.true c.index-rows-i.is c.requires.there
