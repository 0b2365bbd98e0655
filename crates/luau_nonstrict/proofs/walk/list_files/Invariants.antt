use Rattle.luau_nonstrict.specs.Visible.{StaysVisible}
use Rattle.luau_nonstrict.proofs.walk.list_files.Given as goal

abbrev pub invariant-loop-folder : goal.invariant-loop-folder
invariant-loop-folder g l = StaysVisible l.walk

abbrev pub decreases-loop-folder : goal.decreases-loop-folder
decreases-loop-folder g l = l.walk.turns
