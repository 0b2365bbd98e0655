use Rattle.std.proofs.Common.{◌≡◌, drop}
use Rattle.luau_tree.specs.View.{view_arms, view_block, view_stats}
use Rattle.report_rules.specs.Effects.{returns_arms, returns_block}
use Rattle.module_facts.proofs.leaving.+returns.Given as goal

-- it stands in the rest where it stands in the whole
abbrev pub invariant-block_returns-loop-s : goal.invariant-block_returns-loop-s
invariant-block_returns-loop-s l = returns_block (view_block l.block) ≡ returns_block (view_stats (drop l.s-index l.s-items))

abbrev pub invariant-arms_return-loop-arm : goal.invariant-arms_return-loop-arm
invariant-arms_return-loop-arm l = returns_arms (view_arms l.arms) ≡ returns_arms (view_arms (drop l.arm-index l.arms))
