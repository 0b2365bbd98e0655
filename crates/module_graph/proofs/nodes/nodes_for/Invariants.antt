use Rattle.std.proofs.Common.{◌≡◌, take}
use Rattle.std.specs.Prelude.{map}
use Rattle.module_graph.specs.Requires.{node_of}
use Rattle.module_graph.proofs.nodes.nodes_for.Given as goal

abbrev pub invariant-loop-file : goal.invariant-loop-file
invariant-loop-file l = l.nodes.items ≡ map (node_of l.files) (take l.file-index l.files)
