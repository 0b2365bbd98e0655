use Rattle.std.proofs.Common.{◌≡◌, ◌∙◌, ◌<◌, ◌≤◌, Bool, List, false, refl, sym, ap, length, arith}
use Rattle.luau_tree.specs.declared.tree as code
use Rattle.luau_tree.specs.Tree as plain
use Rattle.luau_tree.specs.View.{view_arm, view_arms, view_block, view_maybe_block, view_stat, view_stats}
use Rattle.luau_scope.proofs.Layers.{arm_layer, block_layer}
use Rattle.report_rules.specs.Effects as syntax
use Rattle.module_facts.proofs.Forms.{do_stat, if_stat}
use Rattle.module_facts.proofs.Loops.{found, none_left, or_first, or_second, passed}
use Rattle.module_facts.proofs.leaving.+breaks.Goals as goal

pub stat_breaks-returns-then-arms_break : goal.stat_breaks-returns-then-arms_break
stat_breaks-returns-then-arms_break t c =
    or_first (syntax.breaks_arms (view_arms c.in-If.arms)) (syntax.breaks_maybe (view_maybe_block c.in-If.last)) c.arms_break.result
    (c.arms_break.ensures ∙ ap (λ (arms : List code.Arm.Arm). syntax.breaks_arms (view_arms arms)) c.as_slice.ensures)
    c.if-arms_break.true
    ∙ sym (ap syntax.breaks (if_stat c.args.s.now c.in-If.arms c.in-If.last c.in-If.is))

pub stat_breaks-returns-else-arms_break : goal.stat_breaks-returns-else-arms_break
stat_breaks-returns-else-arms_break t c =
    or_second (syntax.breaks_arms (view_arms c.in-If.arms)) (syntax.breaks_maybe (view_maybe_block c.in-If.last)) c.arms_break.result c.last_breaks.result
    (c.arms_break.ensures ∙ ap (λ (arms : List code.Arm.Arm). syntax.breaks_arms (view_arms arms)) c.as_slice.ensures)
    c.if-arms_break.false c.last_breaks.ensures
    ∙ sym (ap syntax.breaks (if_stat c.args.s.now c.in-If.arms c.in-If.last c.in-If.is))

pub block_breaks-loop-s-init : goal.block_breaks-loop-s-init
block_breaks-loop-s-init t c = ap syntax.breaks_block (block_layer c.args.block.now ∙ ap view_stats (sym c.as_slice-s-items.ensures))

pub block_breaks-returns-then-stat_breaks : goal.block_breaks-returns-then-stat_breaks
block_breaks-returns-then-stat_breaks t c =
    found (λ (stats : List code.Stat.Stat). syntax.breaks_block (view_stats stats)) (λ (s : code.Stat.Stat). syntax.breaks (view_stat s)) (λ x xs. refl)
    c.as_slice-s-items.result.now c.loop-s.s-index c.s-item.result c.stat_breaks.result _ (omega arith) c.s-item.is c.loop-s.invariant c.stat_breaks.ensures c.if-stat_breaks.true

pub block_breaks-loop-s-preserved : goal.block_breaks-loop-s-preserved
block_breaks-loop-s-preserved t c =
    passed (λ (stats : List code.Stat.Stat). syntax.breaks_block (view_stats stats)) (λ (s : code.Stat.Stat). syntax.breaks (view_stat s)) (λ x xs. refl)
    c.as_slice-s-items.result.now c.loop-s.s-index c.s-item.result c.stat_breaks.result _ (omega arith) c.s-item.is c.loop-s.invariant c.stat_breaks.ensures c.if-stat_breaks.false

pub block_breaks-returns : goal.block_breaks-returns
block_breaks-returns t c =
    none_left (λ (stats : List code.Stat.Stat). syntax.breaks_block (view_stats stats)) c.as_slice-s-items.result.now c.loop-s.s-index _ false (omega arith) c.loop-s.invariant refl

pub arms_break-returns-then-block_breaks : goal.arms_break-returns-then-block_breaks
arms_break-returns-then-block_breaks t c =
    found (λ (arms : List code.Arm.Arm). syntax.breaks_arms (view_arms arms)) (λ (arm : code.Arm.Arm). syntax.breaks_block (view_arm arm).1) (λ x xs. refl)
    c.args.arms.now c.loop-arm.arm-index c.arm-item.result c.block_breaks.result _ (omega arith) c.arm-item.is c.loop-arm.invariant
    (c.block_breaks.ensures ∙ ap (λ (p : plain.Expr × plain.Block). syntax.breaks_block p.1) (sym (arm_layer c.arm-item.result))) c.if-block_breaks.true

pub arms_break-loop-arm-preserved : goal.arms_break-loop-arm-preserved
arms_break-loop-arm-preserved t c =
    passed (λ (arms : List code.Arm.Arm). syntax.breaks_arms (view_arms arms)) (λ (arm : code.Arm.Arm). syntax.breaks_block (view_arm arm).1) (λ x xs. refl)
    c.args.arms.now c.loop-arm.arm-index c.arm-item.result c.block_breaks.result _ (omega arith) c.arm-item.is c.loop-arm.invariant
    (c.block_breaks.ensures ∙ ap (λ (p : plain.Expr × plain.Block). syntax.breaks_block p.1) (sym (arm_layer c.arm-item.result))) c.if-block_breaks.false

pub arms_break-returns : goal.arms_break-returns
arms_break-returns t c =
    none_left (λ (arms : List code.Arm.Arm). syntax.breaks_arms (view_arms arms)) c.args.arms.now c.loop-arm.arm-index _ false (omega arith) c.loop-arm.invariant refl

pub stat_breaks-returns-in-Do : goal.stat_breaks-returns-in-Do
stat_breaks-returns-in-Do t c = c.block_breaks.ensures ∙ sym (ap syntax.breaks (do_stat c.args.s.now c.in-Do.body c.in-Do.is))
