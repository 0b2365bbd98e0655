use Rattle.std.proofs.Common.{◌≡◌, ◌∙◌, ◌<◌, ◌≤◌, ◌||◌, not, Bool, List, false, refl, sym, ap, length, arith}
use Rattle.luau_tree.specs.declared.tree as code
use Rattle.luau_tree.specs.View.{view_choice, view_choices, view_expr, view_exprs, view_item, view_items}
use Rattle.report_rules.specs.Rules.{is_quiet_call}
use Rattle.report_rules.specs.Effects as syntax
use Rattle.module_facts.specs.Facts.{rules_of_facts}
use Rattle.module_facts.proofs.Forms.{call_expr, if_else_expr, interp_expr, table_expr}
use Rattle.module_facts.proofs.Loops.{found, none_left, or_assoc, or_first, or_second, passed}
use Rattle.module_facts.proofs.facts.Facts.+effects.Goals as goal

pub effects-returns-else-effects-2 : goal.effects-returns-else-effects-2
effects-returns-else-effects-2 t c =
    let rules = rules_of_facts c.args.self.now in
    let callee = c.in-Call.callee in
    let args = c.in-Call.args in
    or_second (not (is_quiet_call rules (view_expr callee))) (syntax.effects rules (view_expr callee) || syntax.any_effects rules (view_exprs args)) (not c.is_quiet_call.result) c.any_effects.result
    (ap not (c.is_quiet_call.ensures ∙ ap (λ (e : code.Expr.Expr). is_quiet_call rules (view_expr e)) c.get-in-Call.ensures))
    (ap not c.if-not-is_quiet_call.false)
    (or_second (syntax.effects rules (view_expr callee)) (syntax.any_effects rules (view_exprs args)) c.effects-else-not-is_quiet_call.result c.any_effects.result
    (c.effects-else-not-is_quiet_call.ensures ∙ ap (λ (e : code.Expr.Expr). syntax.effects rules (view_expr e)) c.get-else-not-is_quiet_call.ensures)
    c.if-effects-2.false
    (c.any_effects.ensures ∙ ap (λ (es : List code.Expr.Expr). syntax.any_effects rules (view_exprs es)) c.as_slice.ensures))
    ∙ sym (ap (syntax.effects rules) (call_expr c.args.e.now callee args c.in-Call.is))

pub effects-returns-then-choices_have_effects : goal.effects-returns-then-choices_have_effects
effects-returns-then-choices_have_effects t c =
    let rules = rules_of_facts c.args.self.now in
    or_first (syntax.effects_of_choices rules (view_choices c.in-IfElse.arms)) (syntax.effects rules (view_expr c.in-IfElse.last)) c.choices_have_effects.result
    (c.choices_have_effects.ensures ∙ ap (λ (arms : List code.Choice.Choice). syntax.effects_of_choices rules (view_choices arms)) c.as_slice-in-IfElse.ensures)
    c.if-choices_have_effects.true
    ∙ sym (ap (syntax.effects rules) (if_else_expr c.args.e.now c.in-IfElse.arms c.in-IfElse.last c.in-IfElse.is))

pub effects-returns-else-choices_have_effects : goal.effects-returns-else-choices_have_effects
effects-returns-else-choices_have_effects t c =
    let rules = rules_of_facts c.args.self.now in
    or_second (syntax.effects_of_choices rules (view_choices c.in-IfElse.arms)) (syntax.effects rules (view_expr c.in-IfElse.last)) c.choices_have_effects.result c.effects-else-choices_have_effects.result
    (c.choices_have_effects.ensures ∙ ap (λ (arms : List code.Choice.Choice). syntax.effects_of_choices rules (view_choices arms)) c.as_slice-in-IfElse.ensures)
    c.if-choices_have_effects.false
    (c.effects-else-choices_have_effects.ensures ∙ ap (λ (last : code.Expr.Expr). syntax.effects rules (view_expr last)) c.get-else-choices_have_effects.ensures)
    ∙ sym (ap (syntax.effects rules) (if_else_expr c.args.e.now c.in-IfElse.arms c.in-IfElse.last c.in-IfElse.is))

pub effects-returns-in-Table : goal.effects-returns-in-Table
effects-returns-in-Table t c =
    let rules = rules_of_facts c.args.self.now in
    c.items_have_effects.ensures
    ∙ ap (λ (items : List code.Item.Item). syntax.effects_of_items rules (view_items items)) c.as_slice-in-Table.ensures
    ∙ sym (ap (syntax.effects rules) (table_expr c.args.e.now c.in-Table.items c.in-Table.is))

pub effects-returns-in-Interp : goal.effects-returns-in-Interp
effects-returns-in-Interp t c =
    let rules = rules_of_facts c.args.self.now in
    c.any_effects-in-Interp.ensures
    ∙ ap (λ (parts : List code.Expr.Expr). syntax.any_effects rules (view_exprs parts)) c.as_slice-in-Interp.ensures
    ∙ sym (ap (syntax.effects rules) (interp_expr c.args.e.now c.in-Interp.texts c.in-Interp.parts c.in-Interp.is))

pub any_effects-returns-then-effects : goal.any_effects-returns-then-effects
any_effects-returns-then-effects t c =
    let rules = rules_of_facts c.args.self.now in
    found (λ (es : List code.Expr.Expr). syntax.any_effects rules (view_exprs es)) (λ (e : code.Expr.Expr). syntax.effects rules (view_expr e)) (λ x xs. refl)
    c.args.es.now c.loop-e.e-index c.e-item.result c.effects.result _ (omega arith) c.e-item.is c.loop-e.invariant c.effects.ensures c.if-effects.true

pub any_effects-loop-e-preserved : goal.any_effects-loop-e-preserved
any_effects-loop-e-preserved t c =
    let rules = rules_of_facts c.args.self.now in
    passed (λ (es : List code.Expr.Expr). syntax.any_effects rules (view_exprs es)) (λ (e : code.Expr.Expr). syntax.effects rules (view_expr e)) (λ x xs. refl)
    c.args.es.now c.loop-e.e-index c.e-item.result c.effects.result _ (omega arith) c.e-item.is c.loop-e.invariant c.effects.ensures c.if-effects.false

pub any_effects-returns : goal.any_effects-returns
any_effects-returns t c =
    let rules = rules_of_facts c.args.self.now in
    none_left (λ (es : List code.Expr.Expr). syntax.any_effects rules (view_exprs es)) c.args.es.now c.loop-e.e-index _ false (omega arith) c.loop-e.invariant refl

pub choices_have_effects-returns-then-choice_has_effects : goal.choices_have_effects-returns-then-choice_has_effects
choices_have_effects-returns-then-choice_has_effects t c =
    let rules = rules_of_facts c.args.self.now in
    found (λ (arms : List code.Choice.Choice). syntax.effects_of_choices rules (view_choices arms))
    (λ (arm : code.Choice.Choice). syntax.effects rules (view_choice arm).0 || syntax.effects rules (view_choice arm).1)
    (λ x xs. sym (or_assoc (syntax.effects rules (view_choice x).0) (syntax.effects rules (view_choice x).1) (syntax.effects_of_choices rules (view_choices xs))))
    c.args.arms.now c.loop-arm.arm-index c.arm-item.result c.choice_has_effects.result _ (omega arith) c.arm-item.is c.loop-arm.invariant c.choice_has_effects.ensures c.if-choice_has_effects.true

pub choices_have_effects-loop-arm-preserved : goal.choices_have_effects-loop-arm-preserved
choices_have_effects-loop-arm-preserved t c =
    let rules = rules_of_facts c.args.self.now in
    passed (λ (arms : List code.Choice.Choice). syntax.effects_of_choices rules (view_choices arms))
    (λ (arm : code.Choice.Choice). syntax.effects rules (view_choice arm).0 || syntax.effects rules (view_choice arm).1)
    (λ x xs. sym (or_assoc (syntax.effects rules (view_choice x).0) (syntax.effects rules (view_choice x).1) (syntax.effects_of_choices rules (view_choices xs))))
    c.args.arms.now c.loop-arm.arm-index c.arm-item.result c.choice_has_effects.result _ (omega arith) c.arm-item.is c.loop-arm.invariant c.choice_has_effects.ensures c.if-choice_has_effects.false

pub choices_have_effects-returns : goal.choices_have_effects-returns
choices_have_effects-returns t c =
    let rules = rules_of_facts c.args.self.now in
    none_left (λ (arms : List code.Choice.Choice). syntax.effects_of_choices rules (view_choices arms)) c.args.arms.now c.loop-arm.arm-index _ false (omega arith) c.loop-arm.invariant refl

pub items_have_effects-returns-then-item_has_effects : goal.items_have_effects-returns-then-item_has_effects
items_have_effects-returns-then-item_has_effects t c =
    let rules = rules_of_facts c.args.self.now in
    found (λ (items : List code.Item.Item). syntax.effects_of_items rules (view_items items)) (λ (item : code.Item.Item). syntax.effects_of_item rules (view_item item)) (λ x xs. refl)
    c.args.items.now c.loop-item.item-index c.item-item.result c.item_has_effects.result _ (omega arith) c.item-item.is c.loop-item.invariant c.item_has_effects.ensures c.if-item_has_effects.true

pub items_have_effects-loop-item-preserved : goal.items_have_effects-loop-item-preserved
items_have_effects-loop-item-preserved t c =
    let rules = rules_of_facts c.args.self.now in
    passed (λ (items : List code.Item.Item). syntax.effects_of_items rules (view_items items)) (λ (item : code.Item.Item). syntax.effects_of_item rules (view_item item)) (λ x xs. refl)
    c.args.items.now c.loop-item.item-index c.item-item.result c.item_has_effects.result _ (omega arith) c.item-item.is c.loop-item.invariant c.item_has_effects.ensures c.if-item_has_effects.false

pub items_have_effects-returns : goal.items_have_effects-returns
items_have_effects-returns t c =
    let rules = rules_of_facts c.args.self.now in
    none_left (λ (items : List code.Item.Item). syntax.effects_of_items rules (view_items items)) c.args.items.now c.loop-item.item-index _ false (omega arith) c.loop-item.invariant refl
