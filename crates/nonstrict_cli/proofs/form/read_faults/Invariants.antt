use Rattle.std.proofs.Common.{◌≡◌, ◌++◌, drop, option_map}
use Rattle.luau_tree.specs.View.{view_block, view_stats}
use Rattle.nonstrict_cli.specs.Form.{faults_in}
use Rattle.nonstrict_cli.proofs.form.read_faults.Given as goal

-- what was found so far and what is found in the rest are all
abbrev pub invariant-loop-stat : goal.invariant-loop-stat
invariant-loop-stat l = faults_in (view_block l.block) ≡ option_map (λ later. l.found.items ++ later) (faults_in (view_stats (drop l.stat-index l.stat-items)))
