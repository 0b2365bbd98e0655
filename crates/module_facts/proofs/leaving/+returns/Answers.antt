use Rattle.std.proofs.Common.{◌≡◌, ◌∙◌, ◌<◌, ◌≤◌, Bool, List, false, refl, sym, ap, length, arith}
use Rattle.luau_tree.specs.declared.tree as code
use Rattle.luau_tree.specs.Tree as plain
use Rattle.luau_tree.specs.View.{view_arm, view_arms, view_block, view_maybe_block, view_stat, view_stats}
use Rattle.luau_scope.proofs.Layers.{arm_layer, block_layer}
use Rattle.report_rules.specs.Effects as syntax
use Rattle.module_facts.proofs.Forms.{do_stat, gen_for_stat, if_stat, num_for_stat, repeat_stat, while_stat}
use Rattle.module_facts.proofs.Loops.{found, none_left, or_first, or_second, passed}
use Rattle.module_facts.proofs.leaving.+returns.Goals as goal

pub stat_returns-returns-then-arms_return : goal.stat_returns-returns-then-arms_return
stat_returns-returns-then-arms_return t c =
    or_first (syntax.returns_arms (view_arms c.in-If.arms)) (syntax.returns_maybe (view_maybe_block c.in-If.last)) c.arms_return.result
    (c.arms_return.ensures ∙ ap (λ (arms : List code.Arm.Arm). syntax.returns_arms (view_arms arms)) c.as_slice.ensures)
    c.if-arms_return.true
    ∙ sym (ap syntax.returns (if_stat c.args.s.now c.in-If.arms c.in-If.last c.in-If.is))

pub stat_returns-returns-else-arms_return : goal.stat_returns-returns-else-arms_return
stat_returns-returns-else-arms_return t c =
    or_second (syntax.returns_arms (view_arms c.in-If.arms)) (syntax.returns_maybe (view_maybe_block c.in-If.last)) c.arms_return.result c.last_returns.result
    (c.arms_return.ensures ∙ ap (λ (arms : List code.Arm.Arm). syntax.returns_arms (view_arms arms)) c.as_slice.ensures)
    c.if-arms_return.false c.last_returns.ensures
    ∙ sym (ap syntax.returns (if_stat c.args.s.now c.in-If.arms c.in-If.last c.in-If.is))

pub block_returns-loop-s-init : goal.block_returns-loop-s-init
block_returns-loop-s-init t c = ap syntax.returns_block (block_layer c.args.block.now ∙ ap view_stats (sym c.as_slice-s-items.ensures))

pub block_returns-returns-then-stat_returns : goal.block_returns-returns-then-stat_returns
block_returns-returns-then-stat_returns t c =
    found (λ (stats : List code.Stat.Stat). syntax.returns_block (view_stats stats)) (λ (s : code.Stat.Stat). syntax.returns (view_stat s)) (λ x xs. refl)
    c.as_slice-s-items.result.now c.loop-s.s-index c.s-item.result c.stat_returns.result _ (omega arith) c.s-item.is c.loop-s.invariant c.stat_returns.ensures c.if-stat_returns.true

pub block_returns-loop-s-preserved : goal.block_returns-loop-s-preserved
block_returns-loop-s-preserved t c =
    passed (λ (stats : List code.Stat.Stat). syntax.returns_block (view_stats stats)) (λ (s : code.Stat.Stat). syntax.returns (view_stat s)) (λ x xs. refl)
    c.as_slice-s-items.result.now c.loop-s.s-index c.s-item.result c.stat_returns.result _ (omega arith) c.s-item.is c.loop-s.invariant c.stat_returns.ensures c.if-stat_returns.false

pub block_returns-returns : goal.block_returns-returns
block_returns-returns t c =
    none_left (λ (stats : List code.Stat.Stat). syntax.returns_block (view_stats stats)) c.as_slice-s-items.result.now c.loop-s.s-index _ false (omega arith) c.loop-s.invariant refl

pub arms_return-returns-then-block_returns : goal.arms_return-returns-then-block_returns
arms_return-returns-then-block_returns t c =
    found (λ (arms : List code.Arm.Arm). syntax.returns_arms (view_arms arms)) (λ (arm : code.Arm.Arm). syntax.returns_block (view_arm arm).1) (λ x xs. refl)
    c.args.arms.now c.loop-arm.arm-index c.arm-item.result c.block_returns.result _ (omega arith) c.arm-item.is c.loop-arm.invariant
    (c.block_returns.ensures ∙ ap (λ (p : plain.Expr × plain.Block). syntax.returns_block p.1) (sym (arm_layer c.arm-item.result))) c.if-block_returns.true

pub arms_return-loop-arm-preserved : goal.arms_return-loop-arm-preserved
arms_return-loop-arm-preserved t c =
    passed (λ (arms : List code.Arm.Arm). syntax.returns_arms (view_arms arms)) (λ (arm : code.Arm.Arm). syntax.returns_block (view_arm arm).1) (λ x xs. refl)
    c.args.arms.now c.loop-arm.arm-index c.arm-item.result c.block_returns.result _ (omega arith) c.arm-item.is c.loop-arm.invariant
    (c.block_returns.ensures ∙ ap (λ (p : plain.Expr × plain.Block). syntax.returns_block p.1) (sym (arm_layer c.arm-item.result))) c.if-block_returns.false

pub arms_return-returns : goal.arms_return-returns
arms_return-returns t c =
    none_left (λ (arms : List code.Arm.Arm). syntax.returns_arms (view_arms arms)) c.args.arms.now c.loop-arm.arm-index _ false (omega arith) c.loop-arm.invariant refl

pub stat_returns-returns-in-Do : goal.stat_returns-returns-in-Do
stat_returns-returns-in-Do t c = c.block_returns.ensures ∙ sym (ap syntax.returns (do_stat c.args.s.now c.in-Do.body c.in-Do.is))

pub stat_returns-returns-in-While : goal.stat_returns-returns-in-While
stat_returns-returns-in-While t c = c.block_returns-in-While.ensures ∙ sym (ap syntax.returns (while_stat c.args.s.now c.in-While.cond c.in-While.body c.in-While.is))

pub stat_returns-returns-in-Repeat : goal.stat_returns-returns-in-Repeat
stat_returns-returns-in-Repeat t c = c.block_returns-in-Repeat.ensures ∙ sym (ap syntax.returns (repeat_stat c.args.s.now c.in-Repeat.body c.in-Repeat.cond c.in-Repeat.is))

pub stat_returns-returns-in-NumFor : goal.stat_returns-returns-in-NumFor
stat_returns-returns-in-NumFor t c = c.block_returns-in-NumFor.ensures ∙ sym (ap syntax.returns (num_for_stat c.args.s.now c.in-NumFor.bind c.in-NumFor.from c.in-NumFor.to c.in-NumFor.step c.in-NumFor.body c.in-NumFor.is))

pub stat_returns-returns-in-GenFor : goal.stat_returns-returns-in-GenFor
stat_returns-returns-in-GenFor t c = c.block_returns-in-GenFor.ensures ∙ sym (ap syntax.returns (gen_for_stat c.args.s.now c.in-GenFor.binds c.in-GenFor.values c.in-GenFor.body c.in-GenFor.is))
