use Rattle.std.proofs.Common.{◌≡◌, ◌<◌, ◌≤◌, ℕ, List, sym, ◌∙◌, subst, arith}
use Rattle.std.specs.Prelude.{IsTrue, All, Option, IfSome}
use Rattle.type_arena.specs.Store.{has, field_types, row_types}
use Rattle.type_arena.specs.Meaning.{rank}
use Rattle.type_arena.specs.declared.node.Row.{Row}
use Rattle.type_arena.specs.declared.node.TypeRef.{TypeRef}
use Rattle.type_normal.specs.Shape.{ranks}
use Rattle.type_normal.proofs.ShapeFacts.{field_item_holds, field_item_rank, row_item_hold, row_item_rank, node_rank_at}
use Rattle.subtype_check.proofs.CheckingFacts.{listed_there, past_and, ends_and, same_below, one_field, one_row, by_free, by_rows, all_by_free, all_by_rows}
use Rattle.subtype_memory.proofs.PairFacts.{right_same, right_more}
use Rattle.subtype_memory.proofs.remembering.+walk.Goals as goal

pub fields_below-types_below-requires : goal.fields_below-types_below-requires
fields_below-types_below-requires g t c κs within =
    let r : rank (g.N.Nodes.arenas c.args.nodes.now) c.upper-item.result.1 < ranks (g.N.Nodes.arenas c.args.nodes.now) (field_types c.args.uppers.now) =
    field_item_rank (g.N.Nodes.arenas c.args.nodes.now) c.args.uppers.now c.loop-upper.upper-index c.upper-item.result c.loop-upper-test.true c.upper-item.is in
    let upper = field_item_holds (λ at. IsTrue (has (g.N.Nodes.arenas c.args.nodes.now) at)) c.args.uppers.now c.loop-upper.upper-index c.upper-item.result c.loop-upper-test.true c.upper-item.is c.requires.upper in
    let lower =
    subst (λ (at : Option TypeRef). IfSome at (λ at. IsTrue (has (g.N.Nodes.arenas c.args.nodes.now) at))) (sym c.listed.ensures)
    (listed_there (λ at. IsTrue (has (g.N.Nodes.arenas c.args.nodes.now) at)) c.upper-item.result.0 c.args.fields.now c.requires.lower) in
    (omega (arith, r, c.decreases), (within, (lower, (upper, c.loop-upper.invariant.right))))

pub fields_below-returns-then-not-fits-clause-answer : goal.fields_below-returns-then-not-fits-clause-answer
fields_below-returns-then-not-fits-clause-answer g t c normal =
    sym (ends_and c.in_ok-fits.fits _ _ _ (one_field (g.N.Nodes.arenas c.args.nodes.now) c.args.fields.now c.args.uppers.now c.loop-upper.upper-index c.upper-item.result c.listed.result c.in_ok-fits.fits c.loop-upper-test.true c.upper-item.is c.listed.ensures c.in_ok-fits.ensures.answer normal)
    c.if-not-fits.true (c.loop-upper.invariant.so_far normal))

pub fields_below-loop-upper-preserved : goal.fields_below-loop-upper-preserved
fields_below-loop-upper-preserved g t c = record {
  right = c.types_below.ensures.right;
  so_far = λ normal.
      past_and c.in_ok-fits.fits _ _ _ (one_field (g.N.Nodes.arenas c.args.nodes.now) c.args.fields.now c.args.uppers.now c.loop-upper.upper-index c.upper-item.result c.listed.result c.in_ok-fits.fits c.loop-upper-test.true c.upper-item.is c.listed.ensures c.in_ok-fits.ensures.answer normal)
      c.if-not-fits.false (c.loop-upper.invariant.so_far normal);
}

pub row_below-fields_below-requires : goal.row_below-fields_below-requires
row_below-fields_below-requires g t c κs within =
    let e : c.as_slice.result.now ≡ c.upper-item.result.fields = c.as_slice.ensures in
    let r : ranks (g.N.Nodes.arenas c.args.nodes.now) (field_types c.as_slice.result.now) ≤ ranks (g.N.Nodes.arenas c.args.nodes.now) (row_types c.args.uppers.now) =
    subst (λ (xs : List (List ℕ × TypeRef)). ranks (g.N.Nodes.arenas c.args.nodes.now) (field_types xs) ≤ ranks (g.N.Nodes.arenas c.args.nodes.now) (row_types c.args.uppers.now)) (sym e)
    (row_item_rank (g.N.Nodes.arenas c.args.nodes.now) c.args.uppers.now c.loop-upper.upper-index c.upper-item.result c.loop-upper-test.true c.upper-item.is) in
    let upper =
    subst (λ (xs : List (List ℕ × TypeRef)). All (λ at. IsTrue (has (g.N.Nodes.arenas c.args.nodes.now) at)) (field_types xs)) (sym e)
    (row_item_hold (λ at. IsTrue (has (g.N.Nodes.arenas c.args.nodes.now) at)) c.args.uppers.now c.loop-upper.upper-index c.upper-item.result c.loop-upper-test.true c.upper-item.is c.requires.upper) in
    (omega (arith, r, c.decreases), (within, (c.requires.lower, (upper, c.loop-upper.invariant.right))))

pub rows_below-row_below-requires : goal.rows_below-row_below-requires
rows_below-row_below-requires g t c κs within =
    let lower =
    subst (λ (xs : List (List ℕ × TypeRef)). All (λ at. IsTrue (has (g.N.Nodes.arenas c.args.nodes.now) at)) (field_types xs)) (sym c.as_slice.ensures)
    (row_item_hold (λ at. IsTrue (has (g.N.Nodes.arenas c.args.nodes.now) at)) c.args.rows.now c.loop-row.row-index c.row-item.result c.loop-row-test.true c.row-item.is c.requires.lower) in
    (omega (arith, c.decreases), (within, (lower, (c.requires.upper, c.loop-row.invariant.right))))

pub rows_below-returns-then-not-found-clause-answer : goal.rows_below-returns-then-not-found-clause-answer
rows_below-returns-then-not-found-clause-answer g t c normal =
    sym (ends_and c.in_ok-found.found _ _ _ (one_row (g.N.Nodes.arenas c.args.nodes.now) c.args.rows.now c.args.uppers.now c.loop-row.row-index c.row-item.result c.as_slice.result.now c.in_ok-found.found c.loop-row-test.true c.row-item.is c.as_slice.ensures c.in_ok-found.ensures.answer normal)
    c.if-not-found.true (c.loop-row.invariant.so_far normal))

pub rows_below-loop-row-preserved : goal.rows_below-loop-row-preserved
rows_below-loop-row-preserved g t c = record {
  right = c.row_below.ensures.right;
  so_far = λ normal.
      past_and c.in_ok-found.found _ _ _ (one_row (g.N.Nodes.arenas c.args.nodes.now) c.args.rows.now c.args.uppers.now c.loop-row.row-index c.row-item.result c.as_slice.result.now c.in_ok-found.found c.loop-row-test.true c.row-item.is c.as_slice.ensures c.in_ok-found.ensures.answer normal)
      c.if-not-found.false (c.loop-row.invariant.so_far normal);
}

pub nodes_below-rows_below-requires : goal.nodes_below-rows_below-requires
nodes_below-rows_below-requires g t c κs within =
    let r : ranks (g.N.Nodes.arenas c.args.nodes.now) (row_types c.as_slice-uppers.result.now) ≤ rank (g.N.Nodes.arenas c.args.nodes.now) c.args.pair.upper =
    subst (λ (xs : List Row). ranks (g.N.Nodes.arenas c.args.nodes.now) (row_types xs) ≤ rank (g.N.Nodes.arenas c.args.nodes.now) c.args.pair.upper) (sym c.as_slice-uppers.ensures)
    (node_rank_at (g.N.Nodes.arenas c.args.nodes.now) (g.met.N.Nodes.sound c.args.nodes.now) c.args.pair.upper c.node-upper.result.now c.node-upper.ensures) in
    let lower =
    subst (λ (xs : List Row). All (λ at. IsTrue (has (g.N.Nodes.arenas c.args.nodes.now) at)) (row_types xs)) (sym c.as_slice.ensures)
    ((g.met.N.Nodes.sound c.args.nodes.now).there c.in-Some.at c.node-lower.result.now c.node-lower.ensures) in
    let upper =
    subst (λ (xs : List Row). All (λ at. IsTrue (has (g.N.Nodes.arenas c.args.nodes.now) at)) (row_types xs)) (sym c.as_slice-uppers.ensures)
    ((g.met.N.Nodes.sound c.args.nodes.now).there c.args.pair.upper c.node-upper.result.now c.node-upper.ensures) in
    (omega (arith, r, c.decreases), (within, (lower, (upper, c.requires.right))))

pub nodes_below-row_below-requires : goal.nodes_below-row_below-requires
nodes_below-row_below-requires g t c κs within =
    let r : ranks (g.N.Nodes.arenas c.args.nodes.now) (row_types c.as_slice-uppers.result.now) ≤ rank (g.N.Nodes.arenas c.args.nodes.now) c.args.pair.upper =
    subst (λ (xs : List Row). ranks (g.N.Nodes.arenas c.args.nodes.now) (row_types xs) ≤ rank (g.N.Nodes.arenas c.args.nodes.now) c.args.pair.upper) (sym c.as_slice-uppers.ensures)
    (node_rank_at (g.N.Nodes.arenas c.args.nodes.now) (g.met.N.Nodes.sound c.args.nodes.now) c.args.pair.upper c.node-upper.result.now c.node-upper.ensures) in
    let upper =
    subst (λ (xs : List Row). All (λ at. IsTrue (has (g.N.Nodes.arenas c.args.nodes.now) at)) (row_types xs)) (sym c.as_slice-uppers.ensures)
    ((g.met.N.Nodes.sound c.args.nodes.now).there c.args.pair.upper c.node-upper.result.now c.node-upper.ensures) in
    (omega (arith, r, c.decreases), (within, ((λ k d l. absurd (omega (arith, l))), (upper, c.requires.right))))

pub nodes_below-returns-then-not-is_free_below-clause-answer : goal.nodes_below-returns-then-not-is_free_below-clause-answer
nodes_below-returns-then-not-is_free_below-clause-answer g t c normal =
    by_free (g.N.Nodes.arenas c.args.nodes.now) (g.met.N.Nodes.sound c.args.nodes.now) c.args.pair.lower c.args.pair.upper c.in-Some.at c.node-lower.result.now c.node-upper.result.now c.is_free_below.result
    c.in-Some.is c.node-lower.ensures c.node-upper.ensures c.is_free_below.ensures c.if-not-is_free_below.true

pub nodes_below-returns-in_ok-each-in-Some-clause-answer : goal.nodes_below-returns-in_ok-each-in-Some-clause-answer
nodes_below-returns-in_ok-each-in-Some-clause-answer g t c =
    by_rows (g.N.Nodes.arenas c.args.nodes.now) (g.met.N.Nodes.sound c.args.nodes.now) c.args.pair.lower c.args.pair.upper c.in-Some.at c.node-lower.result.now c.node-upper.result.now c.is_free_below.result
    c.in_ok-each-in-Some.each c.as_slice.result.now c.as_slice-uppers.result.now
    c.in-Some.is c.node-lower.ensures c.node-upper.ensures c.is_free_below.ensures c.if-not-is_free_below.false c.as_slice.ensures c.as_slice-uppers.ensures c.in_ok-each-in-Some.ensures.answer

pub nodes_below-returns-then-not-has_all_values-clause-answer : goal.nodes_below-returns-then-not-has_all_values-clause-answer
nodes_below-returns-then-not-has_all_values-clause-answer g t c normal =
    all_by_free (g.N.Nodes.arenas c.args.nodes.now) (g.met.N.Nodes.sound c.args.nodes.now) c.args.pair.lower c.args.pair.upper c.node-upper.result.now c.has_all_values.result
    c.in-None.is c.node-upper.ensures c.has_all_values.ensures c.if-not-has_all_values.true

pub nodes_below-returns-in_ok-tables-in-None-clause-answer : goal.nodes_below-returns-in_ok-tables-in-None-clause-answer
nodes_below-returns-in_ok-tables-in-None-clause-answer g t c normal =
    all_by_rows (g.N.Nodes.arenas c.args.nodes.now) (g.met.N.Nodes.sound c.args.nodes.now) c.args.pair.lower c.args.pair.upper c.node-upper.result.now c.has_all_values.result c.in_ok-tables-in-None.tables c.as_slice-uppers.result.now
    c.in-None.is c.node-upper.ensures c.has_all_values.ensures c.if-not-has_all_values.false c.as_slice-uppers.ensures c.in_ok-tables-in-None.ensures.answer

pub types_below-returns-then-eq-clause-answer : goal.types_below-returns-then-eq-clause-answer
types_below-returns-then-eq-clause-answer g t c = same_below (g.N.Nodes.arenas c.args.nodes.now) c.args.pair (sym c.eq.ensures ∙ c.if-eq.true)

pub types_below-returns-in-Some-clause-answer : goal.types_below-returns-in-Some-clause-answer
types_below-returns-in-Some-clause-answer g t c = (c.requires.right c.args.pair c.in-Some.answer.now (sym c.in-Some.ensures.value)).answers

pub types_below-returns-in_err-insert-clause-right : goal.types_below-returns-in_err-insert-clause-right
types_below-returns-in_err-insert-clause-right g t c = right_same (g.N.Nodes.arenas c.args.nodes.now) c.nodes_below.new.known c.insert.new.self c.nodes_below.ensures.right c.in_err-insert.ensures.err

pub types_below-returns-clause-right : goal.types_below-returns-clause-right
types_below-returns-clause-right g t c =
    right_more (g.N.Nodes.arenas c.args.nodes.now) c.nodes_below.new.known c.insert.new.self c.args.pair c.in_ok-answer.answer c.nodes_below.ensures.right
    (record { lower = c.requires.lower; upper = c.requires.upper; answers = c.in_ok-answer.ensures.answer }) c.in_ok-insert.ensures.updates.0
