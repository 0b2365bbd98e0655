use Rattle.std.proofs.Common.{◌≡◌, ◌<◌, ◌≤◌, ◌∙◌, ◌++◌, ◌∷◌, Bool, List, [], refl, ap, length, arith, rules}
use Rattle.std.specs.Prelude.{nat_lt}
use Rattle.luau_tree.specs.declared.tree as code
use Rattle.luau_tree.specs.View.{view_expr, view_exprs}
use Rattle.report_rules.specs.Effects as syntax
use Rattle.module_facts.specs.Facts.{rules_of_facts}
use Rattle.module_facts.specs.Later as spec
use Rattle.module_facts.proofs.Counting.{any_counted, counted_all, counted_step}
use Rattle.module_facts.proofs.facts.Facts.later_effects.Goals as goal

pub loop-e-preserved : goal.loop-e-preserved
loop-e-preserved c =
    let rules = rules_of_facts c.args.self.now in
    counted_step (λ (e : code.Expr.Expr). syntax.effects rules (view_expr e)) (λ (es : List code.Expr.Expr). spec.later_effects rules (view_exprs es))
    (λ x xs. ap (λ (b : Bool). b ∷ spec.later_effects rules (view_exprs xs)) (any_counted (λ (es : List code.Expr.Expr). syntax.any_effects rules (view_exprs es)) (λ (e : code.Expr.Expr). syntax.effects rules (view_expr e)) refl (λ y ys. refl) xs))
    c.args.es.now c.loop-e.e-index c.loop-e.left c.left_behind-behind.result c.loop-e.later.items c.push.new.self.items c.e-item.result _ (omega arith) c.e-item.is c.loop-e.invariant
    c.left_behind-behind.ensures refl c.in_ok-push.ensures.items
