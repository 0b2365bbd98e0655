use Rattle.std.proofs.Common.{◌≡◌, ◌∙◌, ◌<◌, ◌≤◌, List, false, refl, ap, length, arith}
use Rattle.luau_tree.specs.declared.tree as code
use Rattle.luau_tree.specs.View.{view_expr, view_exprs}
use Rattle.report_rules.specs.Effects as syntax
use Rattle.module_facts.specs.Facts.{rules_of_facts}
use Rattle.module_facts.proofs.Loops.{found, none_left, passed}
use Rattle.module_facts.proofs.facts.Facts.any_in_table.Goals as goal

pub returns-then-is_in_table : goal.returns-then-is_in_table
returns-then-is_in_table c =
    let rules = rules_of_facts c.args.self.now in
    found (λ (es : List code.Expr.Expr). syntax.any_in_table (syntax.targets_of rules (view_exprs es))) (λ (e : code.Expr.Expr). syntax.is_in_table (syntax.target_of rules (view_expr e))) (λ x xs. refl)
    c.args.targets.now c.loop-target.target-index c.target-item.result c.is_in_table.result _ (omega arith) c.target-item.is c.loop-target.invariant
    (c.is_in_table.ensures ∙ ap syntax.is_in_table c.target_of.ensures) c.if-is_in_table.true

pub loop-target-preserved : goal.loop-target-preserved
loop-target-preserved c =
    let rules = rules_of_facts c.args.self.now in
    passed (λ (es : List code.Expr.Expr). syntax.any_in_table (syntax.targets_of rules (view_exprs es))) (λ (e : code.Expr.Expr). syntax.is_in_table (syntax.target_of rules (view_expr e))) (λ x xs. refl)
    c.args.targets.now c.loop-target.target-index c.target-item.result c.is_in_table.result _ (omega arith) c.target-item.is c.loop-target.invariant
    (c.is_in_table.ensures ∙ ap syntax.is_in_table c.target_of.ensures) c.if-is_in_table.false

pub returns : goal.returns
returns c =
    let rules = rules_of_facts c.args.self.now in
    none_left (λ (es : List code.Expr.Expr). syntax.any_in_table (syntax.targets_of rules (view_exprs es))) c.args.targets.now c.loop-target.target-index _ false (omega arith) c.loop-target.invariant refl
