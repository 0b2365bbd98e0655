-- The nodes of unions.
use Rattle.std.specs.Prelude.{◌||◌, List, ◌++◌}
use Rattle.std.specs.declared.cmp.Ordering.{Ordering}
use Rattle.type_arena.specs.Term.{Term}
use Rattle.type_arena.specs.declared.node.FnName.{FnName}
use Rattle.type_arena.specs.declared.node.Node.{Node}
use Rattle.type_arena.specs.declared.node.Row.{Row}
use Rattle.type_arena.specs.declared.node.TypeRef.{TypeRef}
use Rattle.type_arena.specs.contracts.node.FnNameOrd.TheImpl as FnNameOrd
use Rattle.type_normal.specs.Members.{in_order}
use Rattle.type_normal.specs.Free.{name_cmp}
use Rattle.type_ops.specs.Sets.{either_among}
use Rattle.type_ops.specs.Comparing.{row_order}

-- how names of functions compare
abbrev pub fn_cmp : FnName → FnName → Ordering
fn_cmp = FnNameOrd.ghosts.cmp

-- the node of what one of two nodes has, with these rows
abbrev pub either_node : Node → Node → List Row → Node
either_node a b rows = record {
  nil = a.nil || b.nil;
  truth = a.truth || b.truth;
  falsity = a.falsity || b.falsity;
  number = a.number || b.number;
  other = a.other || b.other;
  strings = either_among name_cmp a.strings b.strings;
  functions = either_among fn_cmp a.functions b.functions;
  rows = rows;
}

-- the node of a union, once it is known what references mean
abbrev pub union_node : (TypeRef → Term) → Node → Node → Node
union_node means a b = either_node a b (in_order (row_order means) (a.rows ++ b.rows))
