use Rattle.std.proofs.Common.{◌≡◌, ◌∙◌, ◌<◌, ◌≤◌, ◌==◌, ◌||◌, ℕ, Bool, List, false, refl, sym, ap, length, arith}
use Rattle.std.proofs.lemmas.Result.{on_ok_weaker}
use Rattle.luau_tree.specs.declared.tree as code
use Rattle.luau_tree.specs.Tree as plain
use Rattle.luau_tree.specs.View.{view_arm, view_arms, view_bind, view_binds, view_block, view_expr, view_exprs, view_maybe_block, view_stat, view_stats}
use Rattle.luau_run.specs.ReadFolder.{is_among}
use Rattle.luau_scope.proofs.Layers.{arm_layer, block_layer}
use Rattle.report_rules.specs.Effects as syntax
use Rattle.module_facts.specs.Facts.{rules_of_facts}
use Rattle.module_facts.specs.Targets.{target_meant}
use Rattle.module_facts.specs.Touched.{touches_arms, touches_block, touches_maybe}
use Rattle.module_facts.proofs.Forms.{assign_stat, break_stat, call_stat, compound_stat, continue_stat, do_stat, function_stat, gen_for_stat, if_stat, local_function_stat, local_stat, num_for_stat, repeat_stat, return_stat, type_alias_stat, type_function_stat, while_stat}
use Rattle.module_facts.proofs.Touching.{adds_both, adds_none, adds_same, or_false, or_rotate, or_swap, rest_done, rest_first, rest_more}
use Rattle.module_facts.proofs.facts.Facts.+touched.Goals as goal

pub add_touched-returns-in-Assign : goal.add_touched-returns-in-Assign
add_touched-returns-in-Assign t c =
    let rules = rules_of_facts c.args.self.now in
    let s = c.args.s.now in
    on_ok_weaker c.add_targets.result (λ a. adds_same _ (λ n. syntax.touches rules n (view_stat s)) _ _
    (λ n. ap (λ (es : List code.Expr.Expr). syntax.any_writes_local n (syntax.targets_of rules (view_exprs es))) c.as_slice.ensures
    ∙ sym (or_false (syntax.any_writes_local n (syntax.targets_of rules (view_exprs c.in-Assign.targets))))
    ∙ sym (ap (syntax.touches rules n) (assign_stat s c.in-Assign.targets c.in-Assign.values c.in-Assign.is))) a) c.add_targets.ensures

pub add_touched-returns-in-Compound : goal.add_touched-returns-in-Compound
add_touched-returns-in-Compound t c =
    let rules = rules_of_facts c.args.self.now in
    let s = c.args.s.now in
    on_ok_weaker c.add_target.result (λ a. adds_same _ (λ n. syntax.touches rules n (view_stat s)) _ _
    (λ n. ap (syntax.writes_local n) c.target_of.ensures
    ∙ sym (or_false (syntax.writes_local n (syntax.target_of rules (view_expr c.in-Compound.target))))
    ∙ sym (ap (syntax.touches rules n) (compound_stat s c.in-Compound.target c.in-Compound.op c.in-Compound.value c.in-Compound.is))) a) c.add_target.ensures

pub add_touched-returns-in-Function : goal.add_touched-returns-in-Function
add_touched-returns-in-Function t c =
    let rules = rules_of_facts c.args.self.now in
    let s = c.args.s.now in
    on_ok_weaker c.add_target-in-Function.result (λ a. adds_same _ (λ n. syntax.touches rules n (view_stat s)) _ _
    (λ n. ap (syntax.writes_local n) c.function_target.ensures
    ∙ sym (or_false (syntax.writes_local n (syntax.function_target rules (view_expr c.in-Function.path) c.in-Function.method)))
    ∙ sym (ap (syntax.touches rules n) (function_stat s c.in-Function.path c.in-Function.method c.in-Function.body c.in-Function.is))) a) c.add_target-in-Function.ensures

pub add_touched-returns-in-Do : goal.add_touched-returns-in-Do
add_touched-returns-in-Do t c =
    let rules = rules_of_facts c.args.self.now in
    let s = c.args.s.now in
    on_ok_weaker c.add_block.result (λ a. adds_same _ (λ n. syntax.touches rules n (view_stat s)) _ _
    (λ n. sym (ap (syntax.touches rules n) (do_stat s c.in-Do.body c.in-Do.is))) a) c.add_block.ensures

pub add_touched-returns-in-While : goal.add_touched-returns-in-While
add_touched-returns-in-While t c =
    let rules = rules_of_facts c.args.self.now in
    let s = c.args.s.now in
    on_ok_weaker c.add_block-in-While.result (λ a. adds_same _ (λ n. syntax.touches rules n (view_stat s)) _ _
    (λ n. sym (ap (syntax.touches rules n) (while_stat s c.in-While.cond c.in-While.body c.in-While.is))) a) c.add_block-in-While.ensures

pub add_touched-returns-in-Repeat : goal.add_touched-returns-in-Repeat
add_touched-returns-in-Repeat t c =
    let rules = rules_of_facts c.args.self.now in
    let s = c.args.s.now in
    on_ok_weaker c.add_block-in-Repeat.result (λ a. adds_same _ (λ n. syntax.touches rules n (view_stat s)) _ _
    (λ n. sym (ap (syntax.touches rules n) (repeat_stat s c.in-Repeat.body c.in-Repeat.cond c.in-Repeat.is))) a) c.add_block-in-Repeat.ensures

pub add_touched-returns-in-LocalFunction : goal.add_touched-returns-in-LocalFunction
add_touched-returns-in-LocalFunction t c =
    let rules = rules_of_facts c.args.self.now in
    let s = c.args.s.now in
    on_ok_weaker c.add_bind-in-LocalFunction.result (λ a. adds_same _ (λ n. syntax.touches rules n (view_stat s)) _ _
    (λ n. sym (ap (syntax.touches rules n) (local_function_stat s c.in-LocalFunction.name c.in-LocalFunction.body c.in-LocalFunction.is))) a) c.add_bind-in-LocalFunction.ensures

pub add_touched-returns-in-Local : goal.add_touched-returns-in-Local
add_touched-returns-in-Local t c =
    let rules = rules_of_facts c.args.self.now in
    let s = c.args.s.now in
    on_ok_weaker c.add_binds-in-Local.result (λ a. adds_same _ (λ n. syntax.touches rules n (view_stat s)) _ _
    (λ n. ap (λ (bs : List code.Bind.Bind). is_among n (syntax.locals_of_binds rules (view_binds bs))) c.as_slice-in-Local.ensures
    ∙ sym (ap (syntax.touches rules n) (local_stat s c.in-Local.binds c.in-Local.values c.in-Local.is))) a) c.add_binds-in-Local.ensures

pub add_touched-returns-in-CallStat : goal.add_touched-returns-in-CallStat
add_touched-returns-in-CallStat t c =
    adds_same _ (λ n. syntax.touches (rules_of_facts c.args.self.now) n (view_stat c.args.s.now)) _ _
    (λ n. sym (ap (syntax.touches (rules_of_facts c.args.self.now) n) (call_stat c.args.s.now c.in-CallStat.field-0 c.in-CallStat.is))) (adds_none c.args.to.now.items)

pub add_touched-returns-in-TypeAlias : goal.add_touched-returns-in-TypeAlias
add_touched-returns-in-TypeAlias t c =
    adds_same _ (λ n. syntax.touches (rules_of_facts c.args.self.now) n (view_stat c.args.s.now)) _ _
    (λ n. sym (ap (syntax.touches (rules_of_facts c.args.self.now) n) (type_alias_stat c.args.s.now c.in-TypeAlias.exported c.in-TypeAlias.name c.in-TypeAlias.generics c.in-TypeAlias.typ c.in-TypeAlias.is))) (adds_none c.args.to.now.items)

pub add_touched-returns-in-TypeFunction : goal.add_touched-returns-in-TypeFunction
add_touched-returns-in-TypeFunction t c =
    adds_same _ (λ n. syntax.touches (rules_of_facts c.args.self.now) n (view_stat c.args.s.now)) _ _
    (λ n. sym (ap (syntax.touches (rules_of_facts c.args.self.now) n) (type_function_stat c.args.s.now c.in-TypeFunction.exported c.in-TypeFunction.name c.in-TypeFunction.body c.in-TypeFunction.is))) (adds_none c.args.to.now.items)

pub add_touched-returns-in-Return : goal.add_touched-returns-in-Return
add_touched-returns-in-Return t c =
    adds_same _ (λ n. syntax.touches (rules_of_facts c.args.self.now) n (view_stat c.args.s.now)) _ _
    (λ n. sym (ap (syntax.touches (rules_of_facts c.args.self.now) n) (return_stat c.args.s.now c.in-Return.field-0 c.in-Return.is))) (adds_none c.args.to.now.items)

pub add_touched-returns-in-Break : goal.add_touched-returns-in-Break
add_touched-returns-in-Break t c =
    adds_same _ (λ n. syntax.touches (rules_of_facts c.args.self.now) n (view_stat c.args.s.now)) _ _
    (λ n. sym (ap (syntax.touches (rules_of_facts c.args.self.now) n) (break_stat c.args.s.now c.in-Break.is))) (adds_none c.args.to.now.items)

pub add_touched-returns-in-Continue : goal.add_touched-returns-in-Continue
add_touched-returns-in-Continue t c =
    adds_same _ (λ n. syntax.touches (rules_of_facts c.args.self.now) n (view_stat c.args.s.now)) _ _
    (λ n. sym (ap (syntax.touches (rules_of_facts c.args.self.now) n) (continue_stat c.args.s.now c.in-Continue.is))) (adds_none c.args.to.now.items)

pub add_touched-returns-in_ok-add_bind-in-NumFor : goal.add_touched-returns-in_ok-add_bind-in-NumFor
add_touched-returns-in_ok-add_bind-in-NumFor t c =
    let rules = rules_of_facts c.args.self.now in
    let s = c.args.s.now in
    let body = view_block c.in-NumFor.body in
    on_ok_weaker c.add_block-in-NumFor.result (λ b. adds_same (λ n. (syntax.local_of_bind rules (view_bind c.in-NumFor.bind) == n) || touches_block rules n body) (λ n. syntax.touches rules n (view_stat s)) _ _
    (λ n. or_rotate (syntax.local_of_bind rules (view_bind c.in-NumFor.bind) == n) (syntax.assigns_block rules n body) (syntax.declares_block rules n body)
    ∙ sym (ap (syntax.touches rules n) (num_for_stat s c.in-NumFor.bind c.in-NumFor.from c.in-NumFor.to c.in-NumFor.step c.in-NumFor.body c.in-NumFor.is)))
    (adds_both (λ n. syntax.local_of_bind rules (view_bind c.in-NumFor.bind) == n) (λ n. touches_block rules n body) _ _ _ c.in_ok-add_bind-in-NumFor.ensures b)) c.add_block-in-NumFor.ensures

pub add_touched-returns-in_ok-add_binds-in-GenFor : goal.add_touched-returns-in_ok-add_binds-in-GenFor
add_touched-returns-in_ok-add_binds-in-GenFor t c =
    let rules = rules_of_facts c.args.self.now in
    let s = c.args.s.now in
    let body = view_block c.in-GenFor.body in
    let found = c.as_slice-in-GenFor.result.now in
    on_ok_weaker c.add_block-in-GenFor.result (λ b. adds_same (λ n. is_among n (syntax.locals_of_binds rules (view_binds found)) || touches_block rules n body) (λ n. syntax.touches rules n (view_stat s)) _ _
    (λ n. ap (λ (bs : List code.Bind.Bind). is_among n (syntax.locals_of_binds rules (view_binds bs)) || touches_block rules n body) c.as_slice-in-GenFor.ensures
    ∙ or_rotate (is_among n (syntax.locals_of_binds rules (view_binds c.in-GenFor.binds))) (syntax.assigns_block rules n body) (syntax.declares_block rules n body)
    ∙ sym (ap (syntax.touches rules n) (gen_for_stat s c.in-GenFor.binds c.in-GenFor.values c.in-GenFor.body c.in-GenFor.is)))
    (adds_both (λ n. is_among n (syntax.locals_of_binds rules (view_binds found))) (λ n. touches_block rules n body) _ _ _ c.in_ok-add_binds-in-GenFor.ensures b)) c.add_block-in-GenFor.ensures

pub add_touched-returns-in_ok-add_arms-in-If : goal.add_touched-returns-in_ok-add_arms-in-If
add_touched-returns-in_ok-add_arms-in-If t c =
    let rules = rules_of_facts c.args.self.now in
    let s = c.args.s.now in
    let last = view_maybe_block c.in-If.last in
    let found = c.as_slice-in-If.result.now in
    on_ok_weaker c.add_last.result (λ b. adds_same (λ n. touches_arms rules n (view_arms found) || touches_maybe rules n last) (λ n. syntax.touches rules n (view_stat s)) _ _
    (λ n. ap (λ (arms : List code.Arm.Arm). touches_arms rules n (view_arms arms) || touches_maybe rules n last) c.as_slice-in-If.ensures
    ∙ or_swap (syntax.assigns_arms rules n (view_arms c.in-If.arms)) (syntax.declares_arms rules n (view_arms c.in-If.arms)) (syntax.assigns_maybe rules n last) (syntax.declares_maybe rules n last)
    ∙ sym (ap (syntax.touches rules n) (if_stat s c.in-If.arms c.in-If.last c.in-If.is)))
    (adds_both (λ n. touches_arms rules n (view_arms found)) (λ n. touches_maybe rules n last) _ _ _ c.in_ok-add_arms-in-If.ensures b)) c.add_last.ensures

pub add_arms-loop-arm-preserved : goal.add_arms-loop-arm-preserved
add_arms-loop-arm-preserved t c =
    let rules = rules_of_facts c.args.self.now in
    rest_more (λ (arms : List code.Arm.Arm) (n : ℕ). touches_arms rules n (view_arms arms)) (λ (arm : code.Arm.Arm) (n : ℕ). touches_block rules n (view_arm arm).1)
    (λ x xs n. or_swap (syntax.assigns_block rules n (view_arm x).1) (syntax.assigns_arms rules n (view_arms xs)) (syntax.declares_block rules n (view_arm x).1) (syntax.declares_arms rules n (view_arms xs)))
    c.args.arms.now c.loop-arm.arm-index c.arm-item.result c.args.to.now.items c.loop-arm.to.items c.add_block.new.to.items (omega arith) c.arm-item.is c.loop-arm.invariant
    (adds_same _ (λ n. touches_block rules n (view_arm c.arm-item.result).1) _ _ (λ n. ap (λ (p : plain.Expr × plain.Block). touches_block rules n p.1) (sym (arm_layer c.arm-item.result))) c.in_ok-add_block.ensures)

pub add_arms-returns : goal.add_arms-returns
add_arms-returns t c =
    let rules = rules_of_facts c.args.self.now in
    rest_done (λ (arms : List code.Arm.Arm) (n : ℕ). touches_arms rules n (view_arms arms)) (λ n. refl) c.args.arms.now c.loop-arm.arm-index c.args.to.now.items c.loop-arm.to.items (omega arith) c.loop-arm.invariant

pub add_block-loop-s-preserved : goal.add_block-loop-s-preserved
add_block-loop-s-preserved t c =
    let rules = rules_of_facts c.args.self.now in
    rest_more (λ (stats : List code.Stat.Stat) (n : ℕ). touches_block rules n (view_stats stats)) (λ (s : code.Stat.Stat) (n : ℕ). syntax.touches rules n (view_stat s))
    (λ x xs n. or_swap (syntax.assigns rules n (view_stat x)) (syntax.assigns_block rules n (view_stats xs)) (syntax.declares rules n (view_stat x)) (syntax.declares_block rules n (view_stats xs)))
    c.as_slice-s-items.result.now c.loop-s.s-index c.s-item.result c.args.to.now.items c.loop-s.to.items c.add_touched.new.to.items (omega arith) c.s-item.is c.loop-s.invariant c.in_ok-add_touched.ensures

pub add_block-returns : goal.add_block-returns
add_block-returns t c =
    let rules = rules_of_facts c.args.self.now in
    let found = c.as_slice-s-items.result.now in
    adds_same (λ n. touches_block rules n (view_stats found)) (λ n. touches_block rules n (view_block c.args.block.now)) _ _
    (λ n. sym (ap (λ (b : plain.Block). touches_block rules n b) (block_layer c.args.block.now ∙ ap view_stats (sym c.as_slice-s-items.ensures))))
    (rest_done (λ (stats : List code.Stat.Stat) (n : ℕ). touches_block rules n (view_stats stats)) (λ n. refl) found c.loop-s.s-index c.args.to.now.items c.loop-s.to.items (omega arith) c.loop-s.invariant)
