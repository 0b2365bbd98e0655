-- A tree in memory whose calls fail as planned.
use Rattle.std.specs.Prelude.{ℕ, List}
use Rattle.outside.specs.declared.memory_tree.MemoryTree.{MemoryTree}
use Rattle.outside.specs.Contents.{Contents}
use Rattle.outside.specs.Roots.{files_of}

-- what the tree holds
abbrev pub contents_of : MemoryTree → Contents
contents_of tree = files_of tree.roots

-- how many calls were made
abbrev pub calls_of : MemoryTree → ℕ
calls_of tree = tree.plan.calls

-- the numbers of the calls that fail
abbrev pub failing_of : MemoryTree → List ℕ
failing_of tree = tree.plan.failing.items

-- how many calls failed
abbrev pub faults_of : MemoryTree → ℕ
faults_of tree = tree.plan.faults
