use Rattle.std.proofs.Common.{◌≡◌, [], vec_len}
use Rattle.std.specs.Prelude.{IsTrue, All}
use Rattle.type_arena.specs.Arena.{store_of}
use Rattle.type_arena.specs.Meaning.{term_of}
use Rattle.type_arena.specs.Store.{has, row_types}
use Rattle.type_ops.specs.Comparing.{AreCompared, row_order}
use Rattle.type_ops.specs.Sets.{put_all}
use Rattle.type_ops.proofs.sorting.rows_in_order.Given as goal

abbrev pub invariant-loop-row : goal.invariant-loop-row
invariant-loop-row l = record {
  right : AreCompared (store_of l.arena) l.known;
  left : All (λ child. IsTrue (has (store_of l.arena) child)) (row_types l.rows.items);
  there : All (λ child. IsTrue (has (store_of l.arena) child)) (row_types l.all.items);
  so_far : put_all (row_order (term_of (store_of l.arena))) l.rows.items l.all.items ≡ put_all (row_order (term_of (store_of l.arena))) l.initial.rows.items [];
}

abbrev pub decreases-loop-row : goal.decreases-loop-row
decreases-loop-row l = vec_len l.rows
