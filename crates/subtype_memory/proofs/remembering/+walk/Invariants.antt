use Rattle.std.proofs.Common.{◌≡◌, ◌+◌, ◌*◌, true, drop}
use Rattle.type_arena.specs.Meaning.{term_of, rank, rows_by, fields_by}
use Rattle.type_arena.specs.Store.{row_types, field_types}
use Rattle.type_normal.specs.Rows.{are_normal_rows, are_normal_fields}
use Rattle.type_normal.specs.Shape.{ranks}
use Rattle.subtype_check.specs.Below.{each_row, rows_above, fields_above}
use Rattle.subtype_memory.specs.Remembering.{AreRight}
use Rattle.subtype_memory.proofs.remembering.+walk.Given as goal

abbrev pub decreases-fields_below : goal.decreases-fields_below
decreases-fields_below g l = 5 * ranks (g.N.Nodes.arenas l.nodes.now) (field_types l.uppers.now)

abbrev pub decreases-row_below : goal.decreases-row_below
decreases-row_below g l = 5 * ranks (g.N.Nodes.arenas l.nodes.now) (row_types l.uppers.now) + 1

abbrev pub decreases-rows_below : goal.decreases-rows_below
decreases-rows_below g l = 5 * ranks (g.N.Nodes.arenas l.nodes.now) (row_types l.uppers.now) + 2

abbrev pub decreases-nodes_below : goal.decreases-nodes_below
decreases-nodes_below g l = 5 * rank (g.N.Nodes.arenas l.nodes.now) l.pair.upper + 3

abbrev pub decreases-types_below : goal.decreases-types_below
decreases-types_below g l = 5 * rank (g.N.Nodes.arenas l.nodes.now) l.pair.upper + 4

abbrev pub invariant-rows_below-loop-row : goal.invariant-rows_below-loop-row
invariant-rows_below-loop-row g l = record {
  right : AreRight (g.N.Nodes.arenas l.nodes) l.known;
  so_far : are_normal_rows (rows_by (term_of (g.N.Nodes.arenas l.nodes)) l.rows) ≡ true →
      each_row (λ frozen fields. rows_above (rows_by (term_of (g.N.Nodes.arenas l.nodes)) l.uppers) frozen fields) (rows_by (term_of (g.N.Nodes.arenas l.nodes)) l.rows)
      ≡ each_row (λ frozen fields. rows_above (rows_by (term_of (g.N.Nodes.arenas l.nodes)) l.uppers) frozen fields) (rows_by (term_of (g.N.Nodes.arenas l.nodes)) (drop l.row-index l.rows));
}

abbrev pub invariant-row_below-loop-upper : goal.invariant-row_below-loop-upper
invariant-row_below-loop-upper g l = record {
  right : AreRight (g.N.Nodes.arenas l.nodes) l.known;
  so_far : are_normal_fields (fields_by (term_of (g.N.Nodes.arenas l.nodes)) l.fields) ≡ true →
      rows_above (rows_by (term_of (g.N.Nodes.arenas l.nodes)) l.uppers) l.frozen (fields_by (term_of (g.N.Nodes.arenas l.nodes)) l.fields)
      ≡ rows_above (rows_by (term_of (g.N.Nodes.arenas l.nodes)) (drop l.upper-index l.uppers)) l.frozen (fields_by (term_of (g.N.Nodes.arenas l.nodes)) l.fields);
}

abbrev pub invariant-fields_below-loop-upper : goal.invariant-fields_below-loop-upper
invariant-fields_below-loop-upper g l = record {
  right : AreRight (g.N.Nodes.arenas l.nodes) l.known;
  so_far : are_normal_fields (fields_by (term_of (g.N.Nodes.arenas l.nodes)) l.fields) ≡ true →
      fields_above (fields_by (term_of (g.N.Nodes.arenas l.nodes)) l.uppers) (fields_by (term_of (g.N.Nodes.arenas l.nodes)) l.fields)
      ≡ fields_above (fields_by (term_of (g.N.Nodes.arenas l.nodes)) (drop l.upper-index l.uppers)) (fields_by (term_of (g.N.Nodes.arenas l.nodes)) l.fields);
}
