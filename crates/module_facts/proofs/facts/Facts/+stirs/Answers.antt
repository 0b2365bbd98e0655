use Rattle.std.proofs.Common.{◌≡◌, ◌∙◌, ◌<◌, ◌≤◌, ◌||◌, Bool, List, false, refl, sym, ap, length, arith}
use Rattle.luau_tree.specs.declared.tree as code
use Rattle.luau_tree.specs.Tree as plain
use Rattle.luau_tree.specs.View.{view_arm, view_arms, view_block, view_expr, view_exprs, view_maybe_block, view_maybe_expr, view_stat, view_stats}
use Rattle.luau_scope.proofs.Layers.{arm_layer, block_layer}
use Rattle.report_rules.specs.Effects as syntax
use Rattle.module_facts.specs.Facts.{rules_of_facts}
use Rattle.module_facts.proofs.Forms.{assign_stat, call_stat, compound_stat, do_stat, function_stat, if_stat, local_stat, num_for_stat, repeat_stat, return_stat, while_stat}
use Rattle.module_facts.proofs.Loops.{found, none_left, or_assoc, or_first, or_second, passed}
use Rattle.module_facts.proofs.facts.Facts.+stirs.Goals as goal

pub block_stirs-loop-s-init : goal.block_stirs-loop-s-init
block_stirs-loop-s-init t c = ap (syntax.stirs_block (rules_of_facts c.args.self.now)) (block_layer c.args.block.now ∙ ap view_stats (sym c.as_slice-s-items.ensures))

pub block_stirs-returns-then-stirs : goal.block_stirs-returns-then-stirs
block_stirs-returns-then-stirs t c =
    let rules = rules_of_facts c.args.self.now in
    found (λ (stats : List code.Stat.Stat). syntax.stirs_block rules (view_stats stats)) (λ (s : code.Stat.Stat). syntax.stirs rules (view_stat s)) (λ x xs. refl)
    c.as_slice-s-items.result.now c.loop-s.s-index c.s-item.result c.stirs.result _ (omega arith) c.s-item.is c.loop-s.invariant c.stirs.ensures c.if-stirs.true

pub block_stirs-loop-s-preserved : goal.block_stirs-loop-s-preserved
block_stirs-loop-s-preserved t c =
    let rules = rules_of_facts c.args.self.now in
    passed (λ (stats : List code.Stat.Stat). syntax.stirs_block rules (view_stats stats)) (λ (s : code.Stat.Stat). syntax.stirs rules (view_stat s)) (λ x xs. refl)
    c.as_slice-s-items.result.now c.loop-s.s-index c.s-item.result c.stirs.result _ (omega arith) c.s-item.is c.loop-s.invariant c.stirs.ensures c.if-stirs.false

pub block_stirs-returns : goal.block_stirs-returns
block_stirs-returns t c =
    let rules = rules_of_facts c.args.self.now in
    none_left (λ (stats : List code.Stat.Stat). syntax.stirs_block rules (view_stats stats)) c.as_slice-s-items.result.now c.loop-s.s-index _ false (omega arith) c.loop-s.invariant refl

pub arms_stir-returns-then-arm_stirs : goal.arms_stir-returns-then-arm_stirs
arms_stir-returns-then-arm_stirs t c =
    let rules = rules_of_facts c.args.self.now in
    found (λ (arms : List code.Arm.Arm). syntax.stirs_arms rules (view_arms arms)) (λ (arm : code.Arm.Arm). syntax.effects rules (view_arm arm).0 || syntax.stirs_block rules (view_arm arm).1)
    (λ x xs. sym (or_assoc (syntax.effects rules (view_arm x).0) (syntax.stirs_block rules (view_arm x).1) (syntax.stirs_arms rules (view_arms xs))))
    c.args.arms.now c.loop-arm.arm-index c.arm-item.result c.arm_stirs.result _ (omega arith) c.arm-item.is c.loop-arm.invariant c.arm_stirs.ensures c.if-arm_stirs.true

pub arms_stir-loop-arm-preserved : goal.arms_stir-loop-arm-preserved
arms_stir-loop-arm-preserved t c =
    let rules = rules_of_facts c.args.self.now in
    passed (λ (arms : List code.Arm.Arm). syntax.stirs_arms rules (view_arms arms)) (λ (arm : code.Arm.Arm). syntax.effects rules (view_arm arm).0 || syntax.stirs_block rules (view_arm arm).1)
    (λ x xs. sym (or_assoc (syntax.effects rules (view_arm x).0) (syntax.stirs_block rules (view_arm x).1) (syntax.stirs_arms rules (view_arms xs))))
    c.args.arms.now c.loop-arm.arm-index c.arm-item.result c.arm_stirs.result _ (omega arith) c.arm-item.is c.loop-arm.invariant c.arm_stirs.ensures c.if-arm_stirs.false

pub arms_stir-returns : goal.arms_stir-returns
arms_stir-returns t c =
    let rules = rules_of_facts c.args.self.now in
    none_left (λ (arms : List code.Arm.Arm). syntax.stirs_arms rules (view_arms arms)) c.args.arms.now c.loop-arm.arm-index _ false (omega arith) c.loop-arm.invariant refl

pub arm_stirs-returns-then-effects : goal.arm_stirs-returns-then-effects
arm_stirs-returns-then-effects t c =
    let rules = rules_of_facts c.args.self.now in
    or_first (syntax.effects rules (view_arm c.args.arm.now).0) (syntax.stirs_block rules (view_arm c.args.arm.now).1) c.effects.result
    (c.effects.ensures ∙ ap (λ (p : plain.Expr × plain.Block). syntax.effects rules p.0) (sym (arm_layer c.args.arm.now))) c.if-effects.true

pub arm_stirs-returns-else-effects : goal.arm_stirs-returns-else-effects
arm_stirs-returns-else-effects t c =
    let rules = rules_of_facts c.args.self.now in
    or_second (syntax.effects rules (view_arm c.args.arm.now).0) (syntax.stirs_block rules (view_arm c.args.arm.now).1) c.effects.result c.block_stirs.result
    (c.effects.ensures ∙ ap (λ (p : plain.Expr × plain.Block). syntax.effects rules p.0) (sym (arm_layer c.args.arm.now))) c.if-effects.false
    (c.block_stirs.ensures ∙ ap (λ (p : plain.Expr × plain.Block). syntax.stirs_block rules p.1) (sym (arm_layer c.args.arm.now)))

pub stirs-returns-in-Assign : goal.stirs-returns-in-Assign
stirs-returns-in-Assign t c =
    let rules = rules_of_facts c.args.self.now in
    c.assignment_stirs.ensures
    ∙ ap (λ (es : List code.Expr.Expr). syntax.any_in_table (syntax.targets_of rules (view_exprs es)) || (syntax.any_effects rules (view_exprs es) || syntax.any_effects rules (view_exprs c.as_slice-in-Assign.result.now))) c.as_slice.ensures
    ∙ ap (λ (es : List code.Expr.Expr). syntax.any_in_table (syntax.targets_of rules (view_exprs c.in-Assign.targets)) || (syntax.any_effects rules (view_exprs c.in-Assign.targets) || syntax.any_effects rules (view_exprs es))) c.as_slice-in-Assign.ensures
    ∙ sym (ap (syntax.stirs rules) (assign_stat c.args.s.now c.in-Assign.targets c.in-Assign.values c.in-Assign.is))

pub stirs-returns-in-CallStat : goal.stirs-returns-in-CallStat
stirs-returns-in-CallStat t c =
    let rules = rules_of_facts c.args.self.now in
    c.effects-in-CallStat.ensures ∙ sym (ap (syntax.stirs rules) (call_stat c.args.s.now c.in-CallStat.call c.in-CallStat.is))

pub stirs-returns-in-Do : goal.stirs-returns-in-Do
stirs-returns-in-Do t c =
    let rules = rules_of_facts c.args.self.now in
    c.block_stirs.ensures ∙ sym (ap (syntax.stirs rules) (do_stat c.args.s.now c.in-Do.body c.in-Do.is))

pub stirs-returns-then-arms_stir : goal.stirs-returns-then-arms_stir
stirs-returns-then-arms_stir t c =
    let rules = rules_of_facts c.args.self.now in
    or_first (syntax.stirs_arms rules (view_arms c.in-If.arms)) (syntax.stirs_maybe rules (view_maybe_block c.in-If.last)) c.arms_stir.result
    (c.arms_stir.ensures ∙ ap (λ (arms : List code.Arm.Arm). syntax.stirs_arms rules (view_arms arms)) c.as_slice-in-If.ensures)
    c.if-arms_stir.true
    ∙ sym (ap (syntax.stirs rules) (if_stat c.args.s.now c.in-If.arms c.in-If.last c.in-If.is))

pub stirs-returns-else-arms_stir : goal.stirs-returns-else-arms_stir
stirs-returns-else-arms_stir t c =
    let rules = rules_of_facts c.args.self.now in
    or_second (syntax.stirs_arms rules (view_arms c.in-If.arms)) (syntax.stirs_maybe rules (view_maybe_block c.in-If.last)) c.arms_stir.result c.last_stirs.result
    (c.arms_stir.ensures ∙ ap (λ (arms : List code.Arm.Arm). syntax.stirs_arms rules (view_arms arms)) c.as_slice-in-If.ensures)
    c.if-arms_stir.false c.last_stirs.ensures
    ∙ sym (ap (syntax.stirs rules) (if_stat c.args.s.now c.in-If.arms c.in-If.last c.in-If.is))

pub stirs-returns-in-NumFor : goal.stirs-returns-in-NumFor
stirs-returns-in-NumFor t c =
    let rules = rules_of_facts c.args.self.now in
    c.num_for_stirs.ensures
    ∙ sym (ap (syntax.stirs rules) (num_for_stat c.args.s.now c.in-NumFor.bind c.in-NumFor.from c.in-NumFor.to c.in-NumFor.step c.in-NumFor.body c.in-NumFor.is))

pub stirs-returns-in-Local : goal.stirs-returns-in-Local
stirs-returns-in-Local t c =
    let rules = rules_of_facts c.args.self.now in
    c.any_effects.ensures
    ∙ ap (λ (es : List code.Expr.Expr). syntax.any_effects rules (view_exprs es)) c.as_slice-in-Local.ensures
    ∙ sym (ap (syntax.stirs rules) (local_stat c.args.s.now c.in-Local.binds c.in-Local.values c.in-Local.is))

pub stirs-returns-in-Return : goal.stirs-returns-in-Return
stirs-returns-in-Return t c =
    let rules = rules_of_facts c.args.self.now in
    c.any_effects-in-Return.ensures
    ∙ ap (λ (es : List code.Expr.Expr). syntax.any_effects rules (view_exprs es)) c.as_slice-in-Return.ensures
    ∙ sym (ap (syntax.stirs rules) (return_stat c.args.s.now c.in-Return.values c.in-Return.is))

pub stirs-returns-then-is_in_table : goal.stirs-returns-then-is_in_table
stirs-returns-then-is_in_table t c =
    let rules = rules_of_facts c.args.self.now in
    let target = view_expr c.in-Compound.target in
    or_first (syntax.is_in_table (syntax.target_of rules target)) (syntax.effects rules target || syntax.effects rules (view_expr c.in-Compound.value)) c.is_in_table.result
    (c.is_in_table.ensures ∙ ap syntax.is_in_table c.target_of.ensures) c.if-is_in_table.true
    ∙ sym (ap (syntax.stirs rules) (compound_stat c.args.s.now c.in-Compound.target c.in-Compound.op c.in-Compound.value c.in-Compound.is))

pub stirs-returns-then-effects : goal.stirs-returns-then-effects
stirs-returns-then-effects t c =
    let rules = rules_of_facts c.args.self.now in
    let target = view_expr c.in-Compound.target in
    or_second (syntax.is_in_table (syntax.target_of rules target)) (syntax.effects rules target || syntax.effects rules (view_expr c.in-Compound.value)) c.is_in_table.result c.effects.result
    (c.is_in_table.ensures ∙ ap syntax.is_in_table c.target_of.ensures) c.if-is_in_table.false
    (or_first (syntax.effects rules target) (syntax.effects rules (view_expr c.in-Compound.value)) c.effects.result c.effects.ensures c.if-effects.true)
    ∙ sym (ap (syntax.stirs rules) (compound_stat c.args.s.now c.in-Compound.target c.in-Compound.op c.in-Compound.value c.in-Compound.is))

pub stirs-returns-else-effects : goal.stirs-returns-else-effects
stirs-returns-else-effects t c =
    let rules = rules_of_facts c.args.self.now in
    let target = view_expr c.in-Compound.target in
    or_second (syntax.is_in_table (syntax.target_of rules target)) (syntax.effects rules target || syntax.effects rules (view_expr c.in-Compound.value)) c.is_in_table.result c.effects-else-effects.result
    (c.is_in_table.ensures ∙ ap syntax.is_in_table c.target_of.ensures) c.if-is_in_table.false
    (or_second (syntax.effects rules target) (syntax.effects rules (view_expr c.in-Compound.value)) c.effects.result c.effects-else-effects.result c.effects.ensures c.if-effects.false c.effects-else-effects.ensures)
    ∙ sym (ap (syntax.stirs rules) (compound_stat c.args.s.now c.in-Compound.target c.in-Compound.op c.in-Compound.value c.in-Compound.is))

pub stirs-returns-then-effects-2 : goal.stirs-returns-then-effects-2
stirs-returns-then-effects-2 t c =
    let rules = rules_of_facts c.args.self.now in
    or_first (syntax.effects rules (view_expr c.in-While.cond)) (syntax.stirs_block rules (view_block c.in-While.body)) c.effects-in-While.result c.effects-in-While.ensures c.if-effects-2.true
    ∙ sym (ap (syntax.stirs rules) (while_stat c.args.s.now c.in-While.cond c.in-While.body c.in-While.is))

pub stirs-returns-else-effects-2 : goal.stirs-returns-else-effects-2
stirs-returns-else-effects-2 t c =
    let rules = rules_of_facts c.args.self.now in
    or_second (syntax.effects rules (view_expr c.in-While.cond)) (syntax.stirs_block rules (view_block c.in-While.body)) c.effects-in-While.result c.block_stirs-else-effects-2.result c.effects-in-While.ensures c.if-effects-2.false c.block_stirs-else-effects-2.ensures
    ∙ sym (ap (syntax.stirs rules) (while_stat c.args.s.now c.in-While.cond c.in-While.body c.in-While.is))

pub stirs-returns-then-block_stirs : goal.stirs-returns-then-block_stirs
stirs-returns-then-block_stirs t c =
    let rules = rules_of_facts c.args.self.now in
    or_first (syntax.stirs_block rules (view_block c.in-Repeat.body)) (syntax.effects rules (view_expr c.in-Repeat.cond)) c.block_stirs-in-Repeat.result c.block_stirs-in-Repeat.ensures c.if-block_stirs.true
    ∙ sym (ap (syntax.stirs rules) (repeat_stat c.args.s.now c.in-Repeat.body c.in-Repeat.cond c.in-Repeat.is))

pub stirs-returns-else-block_stirs : goal.stirs-returns-else-block_stirs
stirs-returns-else-block_stirs t c =
    let rules = rules_of_facts c.args.self.now in
    or_second (syntax.stirs_block rules (view_block c.in-Repeat.body)) (syntax.effects rules (view_expr c.in-Repeat.cond)) c.block_stirs-in-Repeat.result c.effects-else-block_stirs.result c.block_stirs-in-Repeat.ensures c.if-block_stirs.false c.effects-else-block_stirs.ensures
    ∙ sym (ap (syntax.stirs rules) (repeat_stat c.args.s.now c.in-Repeat.body c.in-Repeat.cond c.in-Repeat.is))

pub stirs-returns-then-is_in_table-2 : goal.stirs-returns-then-is_in_table-2
stirs-returns-then-is_in_table-2 t c =
    let rules = rules_of_facts c.args.self.now in
    or_first (syntax.is_in_table (syntax.function_target rules (view_expr c.in-Function.path) c.in-Function.method)) (syntax.effects rules (view_expr c.in-Function.path)) c.is_in_table-in-Function.result
    (c.is_in_table-in-Function.ensures ∙ ap syntax.is_in_table c.function_target.ensures) c.if-is_in_table-2.true
    ∙ sym (ap (syntax.stirs rules) (function_stat c.args.s.now c.in-Function.path c.in-Function.method c.in-Function.body c.in-Function.is))

pub stirs-returns-else-is_in_table-2 : goal.stirs-returns-else-is_in_table-2
stirs-returns-else-is_in_table-2 t c =
    let rules = rules_of_facts c.args.self.now in
    or_second (syntax.is_in_table (syntax.function_target rules (view_expr c.in-Function.path) c.in-Function.method)) (syntax.effects rules (view_expr c.in-Function.path)) c.is_in_table-in-Function.result c.effects-else-is_in_table-2.result
    (c.is_in_table-in-Function.ensures ∙ ap syntax.is_in_table c.function_target.ensures) c.if-is_in_table-2.false c.effects-else-is_in_table-2.ensures
    ∙ sym (ap (syntax.stirs rules) (function_stat c.args.s.now c.in-Function.path c.in-Function.method c.in-Function.body c.in-Function.is))
