use Rattle.std.proofs.Common.{◌≡◌, ◌∙◌, ◌<◌, ◌≤◌, List, false, refl, sym, ap, length, arith}
use Rattle.luau_tree.specs.declared.tree as code
use Rattle.luau_tree.specs.View.{view_block, view_stat, view_stats}
use Rattle.luau_scope.proofs.Layers.{block_layer}
use Rattle.report_rules.specs.Effects as syntax
use Rattle.module_facts.proofs.Forms.{do_stat}
use Rattle.module_facts.proofs.Loops.{found, none_left, passed}
use Rattle.module_facts.proofs.leaving.+branches.Goals as goal

pub block_branches-loop-s-init : goal.block_branches-loop-s-init
block_branches-loop-s-init t c = ap syntax.branches_block (block_layer c.args.block.now ∙ ap view_stats (sym c.as_slice-s-items.ensures))

pub block_branches-returns-then-stat_branches : goal.block_branches-returns-then-stat_branches
block_branches-returns-then-stat_branches t c =
    found (λ (stats : List code.Stat.Stat). syntax.branches_block (view_stats stats)) (λ (s : code.Stat.Stat). syntax.branches (view_stat s)) (λ x xs. refl)
    c.as_slice-s-items.result.now c.loop-s.s-index c.s-item.result c.stat_branches.result _ (omega arith) c.s-item.is c.loop-s.invariant c.stat_branches.ensures c.if-stat_branches.true

pub block_branches-loop-s-preserved : goal.block_branches-loop-s-preserved
block_branches-loop-s-preserved t c =
    passed (λ (stats : List code.Stat.Stat). syntax.branches_block (view_stats stats)) (λ (s : code.Stat.Stat). syntax.branches (view_stat s)) (λ x xs. refl)
    c.as_slice-s-items.result.now c.loop-s.s-index c.s-item.result c.stat_branches.result _ (omega arith) c.s-item.is c.loop-s.invariant c.stat_branches.ensures c.if-stat_branches.false

pub block_branches-returns : goal.block_branches-returns
block_branches-returns t c =
    none_left (λ (stats : List code.Stat.Stat). syntax.branches_block (view_stats stats)) c.as_slice-s-items.result.now c.loop-s.s-index _ false (omega arith) c.loop-s.invariant refl

pub stat_branches-returns-in-Do : goal.stat_branches-returns-in-Do
stat_branches-returns-in-Do t c = c.block_branches.ensures ∙ sym (ap syntax.branches (do_stat c.args.s.now c.in-Do.body c.in-Do.is))
