use Rattle.std.proofs.Common.{◌≡◌, drop}
use Rattle.luau_tree.specs.View.{view_arms, view_block, view_stats}
use Rattle.report_rules.specs.Effects.{stirs_arms, stirs_block}
use Rattle.module_facts.specs.Facts.{rules_of_facts}
use Rattle.module_facts.proofs.facts.Facts.+stirs.Given as goal

-- the rest of a block or of the arms stirs where the whole does
abbrev pub invariant-block_stirs-loop-s : goal.invariant-block_stirs-loop-s
invariant-block_stirs-loop-s l = stirs_block (rules_of_facts l.self) (view_block l.block) ≡ stirs_block (rules_of_facts l.self) (view_stats (drop l.s-index l.s-items))

abbrev pub invariant-arms_stir-loop-arm : goal.invariant-arms_stir-loop-arm
invariant-arms_stir-loop-arm l = stirs_arms (rules_of_facts l.self) (view_arms l.arms) ≡ stirs_arms (rules_of_facts l.self) (view_arms (drop l.arm-index l.arms))
