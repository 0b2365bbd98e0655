use Rattle.std.proofs.Common.{◌≡◌, drop}
use Rattle.luau_tree.specs.View.{view_arms, view_block, view_stats}
use Rattle.report_rules.specs.Effects.{breaks_arms, breaks_block}
use Rattle.module_facts.proofs.leaving.+breaks.Given as goal

-- it stands in the rest where it stands in the whole
abbrev pub invariant-block_breaks-loop-s : goal.invariant-block_breaks-loop-s
invariant-block_breaks-loop-s l = breaks_block (view_block l.block) ≡ breaks_block (view_stats (drop l.s-index l.s-items))

abbrev pub invariant-arms_break-loop-arm : goal.invariant-arms_break-loop-arm
invariant-arms_break-loop-arm l = breaks_arms (view_arms l.arms) ≡ breaks_arms (view_arms (drop l.arm-index l.arms))
