use Rattle.std.proofs.Common.{◌≡◌, take}
use Rattle.std.specs.Prelude.{map}
use Rattle.module_graph.specs.Requires.{call_of}
use Rattle.module_graph.proofs.nodes.calls_in.Given as goal

abbrev pub invariant-loop-need : goal.invariant-loop-need
invariant-loop-need l = l.calls.items ≡ map (call_of l.files l.fn.file.path) (take l.need-index l.need-items)
