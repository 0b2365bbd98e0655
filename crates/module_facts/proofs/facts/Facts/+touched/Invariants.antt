use Rattle.luau_tree.specs.View.{view_arms, view_stats}
use Rattle.module_facts.specs.Facts.{rules_of_facts}
use Rattle.module_facts.specs.Touched.{touches_arms, touches_block}
use Rattle.module_facts.proofs.Touching.{Rest}
use Rattle.module_facts.proofs.facts.Facts.+touched.Given as goal

abbrev pub invariant-add_block-loop-s : goal.invariant-add_block-loop-s
invariant-add_block-loop-s l = Rest (λ stats local. touches_block (rules_of_facts l.self) local (view_stats stats)) l.s-items l.s-index l.initial.to.items l.to.items

abbrev pub invariant-add_arms-loop-arm : goal.invariant-add_arms-loop-arm
invariant-add_arms-loop-arm l = Rest (λ arms local. touches_arms (rules_of_facts l.self) local (view_arms arms)) l.arms l.arm-index l.initial.to.items l.to.items
