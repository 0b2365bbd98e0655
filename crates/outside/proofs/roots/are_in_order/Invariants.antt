use Rattle.std.proofs.Common.{◌≡◌, ◌-◌, drop}
use Rattle.outside.specs.Contents.{in_order, paths_of}
use Rattle.outside.proofs.roots.are_in_order.Given as goal

-- all rests on the files from the last one that was passed
abbrev pub invariant-loop-i : goal.invariant-loop-i
invariant-loop-i l = in_order (paths_of l.files) ≡ in_order (paths_of (drop (l.i - 1) l.files))
