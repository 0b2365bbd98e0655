use Rattle.std.proofs.Common.{◌≡◌, ◌∙◌, sym, ap}
use Rattle.luau_tree.specs.declared.tree as code
use Rattle.luau_tree.specs.Tree as plain
use Rattle.luau_tree.specs.View.{view_expr}
use Rattle.report_rules.specs.Effects as syntax
use Rattle.module_facts.specs.Facts.{rules_of_facts}
use Rattle.module_facts.proofs.Forms.{at_expr}
use Rattle.module_facts.proofs.facts.Facts.target_of.Goals as goal

pub returns-in-At : goal.returns-in-At
returns-in-At c =
    let rules = rules_of_facts c.args.self.now in
    c.element.ensures c.args.e.now.id.0 c.args.e.now.span
    ∙ ap (λ (base : code.Expr.Expr). syntax.target_of rules (plain.the_expr c.args.e.now.id.0 c.args.e.now.span (plain.At (view_expr base) (view_expr c.get-in-At-2.result.now)))) c.get-in-At.ensures
    ∙ ap (λ (key : code.Expr.Expr). syntax.target_of rules (plain.the_expr c.args.e.now.id.0 c.args.e.now.span (plain.At (view_expr c.in-At.base) (view_expr key)))) c.get-in-At-2.ensures
    ∙ sym (ap (syntax.target_of rules) (at_expr c.args.e.now c.in-At.base c.in-At.key c.in-At.is))
