use Rattle.std.proofs.Common.{◌≡◌}
use Rattle.std.proofs.lemmas.List.Elements.{same_from_all_zip}
use Rattle.type_arena.specs.contracts.node.NodeClone.TheImpl as NodeClone
use Rattle.type_arena.specs.contracts.node.RowClone.TheImpl as RowClone
use Rattle.type_arena.specs.declared.node.Node.{Node}
use Rattle.type_arena.proofs.CloneLemmas.{same_strings, same_functions, same_row}
use Rattle.type_ops.proofs.copying.copy_node.Goals as goal

-- a clone of a node is equal to it
same_node : (x y : Node) → NodeClone.ghosts.is_clone x y → y ≡ x
same_node x y h = λ i. record {
  nil = h.0 i;
  truth = h.1.0 i;
  falsity = h.1.1.0 i;
  number = h.1.1.1.0 i;
  other = h.1.1.1.1.0 i;
  strings = same_strings x.strings y.strings h.1.1.1.1.1.0 i;
  functions = same_functions x.functions y.functions h.1.1.1.1.1.1.0 i;
  rows = same_from_all_zip RowClone.ghosts.is_clone x.rows y.rows h.1.1.1.1.1.1.1 same_row i;
}

pub returns : goal.returns
returns c = same_node c.args.node.now c.in_ok-copy.copy c.in_ok-copy.ensures.cases
