use Rattle.std.proofs.Common.{◌≡◌, drop}
use Rattle.luau_tree.specs.View.{view_block, view_stats}
use Rattle.report_rules.specs.Effects.{branches_block}
use Rattle.module_facts.proofs.leaving.+branches.Given as goal

-- it stands in the rest where it stands in the whole
abbrev pub invariant-block_branches-loop-s : goal.invariant-block_branches-loop-s
invariant-block_branches-loop-s l = branches_block (view_block l.block) ≡ branches_block (view_stats (drop l.s-index l.s-items))
