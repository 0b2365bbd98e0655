use Rattle.std.proofs.Common.{◌≡◌, drop}
use Rattle.outside.specs.Roots.{files_of}
use Rattle.outside.proofs.roots.root_of.Given as goal

-- the name isn't among the roots so far
abbrev pub invariant-loop-root : goal.invariant-loop-root
invariant-loop-root l = files_of l.roots l.name ≡ files_of (drop l.root-index l.roots) l.name
