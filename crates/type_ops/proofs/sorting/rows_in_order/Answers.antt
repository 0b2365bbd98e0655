use Rattle.std.proofs.Common.{◌≡◌, [], length, ap, sym, ◌∙◌, arith}
use Rattle.std.specs.Prelude.{IsTrue}
use Rattle.type_arena.specs.Arena.{store_of}
use Rattle.type_arena.specs.Meaning.{term_of}
use Rattle.type_arena.specs.Store.{has}
use Rattle.type_arena.specs.declared.node.TypeRef.{TypeRef}
use Rattle.type_ops.specs.Comparing.{row_order}
use Rattle.type_ops.specs.Sets.{put_all}
use Rattle.type_ops.proofs.ListFacts.{last_row, rows_before, all_put, no_items}
use Rattle.type_ops.proofs.PlaceFacts.{put_all_last, put_all_nothing}
use Rattle.type_ops.proofs.sorting.rows_in_order.Goals as goal

pub put_row-requires-clause-own : goal.put_row-requires-clause-own
put_row-requires-clause-own c =
    last_row (λ at. IsTrue (has (store_of c.args.arena.now) at)) c.loop-row.rows.items c.pop.new.self.items c.in-Some.row c.in-Some.ensures.items c.loop-row.invariant.left

pub loop-row-preserved : goal.loop-row-preserved
loop-row-preserved c =
    let P : TypeRef → Type 0 = λ at. IsTrue (has (store_of c.args.arena.now) at) in
    record {
      right = c.in_ok-put_row.ensures.right;
      left = rows_before P c.loop-row.rows.items c.pop.new.self.items c.in-Some.row c.in-Some.ensures.items c.loop-row.invariant.left;
      there =
          all_put P (row_order (term_of (store_of c.args.arena.now))) c.in-Some.row c.loop-row.all.items _ c.in_ok-put_row.ensures.rows
          (last_row P c.loop-row.rows.items c.pop.new.self.items c.in-Some.row c.in-Some.ensures.items c.loop-row.invariant.left) c.loop-row.invariant.there;
      so_far =
          ap (put_all (row_order (term_of (store_of c.args.arena.now))) c.pop.new.self.items) c.in_ok-put_row.ensures.rows
          ∙ sym (put_all_last (row_order (term_of (store_of c.args.arena.now))) c.pop.new.self.items c.in-Some.row c.loop-row.all.items)
          ∙ sym (ap (λ xs. put_all (row_order (term_of (store_of c.args.arena.now))) xs c.loop-row.all.items) c.in-Some.ensures.items)
          ∙ c.loop-row.invariant.so_far;
    }

pub returns : goal.returns
returns c =
    let none : c.loop-row.rows.items ≡ [] = no_items c.loop-row.rows.items (omega (arith, c.in_default.ensures.cases.0, c.loop-row.rows.ok.0)) in
    c.of.ensures
    ∙ sym (ap (λ xs. put_all (row_order (term_of (store_of c.args.arena.now))) xs c.loop-row.all.items) none)
    ∙ c.loop-row.invariant.so_far
    ∙ put_all_nothing (row_order (term_of (store_of c.args.arena.now))) c.args.rows.items
