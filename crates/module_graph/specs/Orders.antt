-- Folders whose modules list the same requires, maybe in other orders.
use Rattle.std.specs.Prelude.{◌≡◌, ℕ, List, Contains}
use Rattle.module_graph.specs.declared.node.Call.{Call}
use Rattle.module_graph.specs.declared.node.Node.{Node}
use Rattle.module_graph.specs.Requires.{refused_at, calls_at}

-- the modules at one position were both refused already or neither, and have the same requires
pub record HasSameNeeds (nodes other : List Node) : Type 0 where
  pub refused : (file : ℕ) → refused_at nodes file ≡ refused_at other file
  pub there : (file : ℕ) (call : Call) → Contains (calls_at nodes file) call → Contains (calls_at other file) call
  pub back : (file : ℕ) (call : Call) → Contains (calls_at other file) call → Contains (calls_at nodes file) call
