use Rattle.std.proofs.Common.{◌≡◌, ◌++◌, ◌∙◌, ap}
use Rattle.std.specs.Prelude.{IsTrue}
use Rattle.type_arena.specs.Arena.{store_of}
use Rattle.type_arena.specs.Meaning.{term_of}
use Rattle.type_arena.specs.Store.{has}
use Rattle.type_normal.specs.Members.{in_order}
use Rattle.type_ops.specs.Comparing.{row_order}
use Rattle.type_ops.specs.Joined.{either_node}
use Rattle.type_ops.proofs.ListFacts.{gathered, all_both}
use Rattle.type_ops.proofs.joining.joined.Goals as goal

pub rows_in_order-requires : goal.rows_in_order-requires
rows_in_order-requires c =
    all_both (λ at. IsTrue (has (store_of c.args.arena.now) at)) c.args.a.now.rows c.args.b.now.rows _
    (gathered _ _ _ _ _ c.args.a.now.rows c.args.b.now.rows c.new-rows.ensures.items c.in_ok-copy_rows.ensures c.in_ok-copy_rows-2.ensures c.as_slice.ensures c.as_slice-2.ensures)
    c.requires.first c.requires.second

pub returns : goal.returns
returns c =
    c.in_ok-node.ensures
    ∙ ap (either_node c.args.a.now c.args.b.now)
    (c.in_ok-rows.ensures
    ∙ ap (in_order (row_order (term_of (store_of c.args.arena.now))))
    (gathered _ _ _ _ _ c.args.a.now.rows c.args.b.now.rows c.new-rows.ensures.items c.in_ok-copy_rows.ensures c.in_ok-copy_rows-2.ensures c.as_slice.ensures c.as_slice-2.ensures))
