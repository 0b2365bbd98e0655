use Rattle.std.proofs.Common.{◌≡◌, List, ap, sym, ◌∙◌}
use Rattle.std.specs.Prelude.{Option}
use Rattle.luau_tree.specs.declared.tree as code
use Rattle.luau_tree.specs.View.{view_expr}
use Rattle.report_work.specs.Checks.{Named, ValueFor, named_of_target}
use Rattle.report_work.specs.Statements.{passed}
use Rattle.report_plan.proofs.ListFacts.{no_named_target, named_target}
use Rattle.report_plan.proofs.writes.assigned_check.Goals as goal

pub returns-then-i-targets : goal.returns-then-i-targets
returns-then-i-targets c = λ rules seen e work.
    ap (λ (named : Option Named). passed rules seen (ValueFor named) e work)
    (sym (named_target rules c.args.targets.now c.args.i c.index-targets-i.result c.if-i-targets.true ∙ ap (λ (x : code.Expr.Expr). named_of_target rules (view_expr x)) (sym c.index-targets-i.is)))

pub returns-else-i-targets : goal.returns-else-i-targets
returns-else-i-targets c = λ rules seen e work.
    ap (λ (named : Option Named). passed rules seen (ValueFor named) e work) (sym (no_named_target rules c.args.targets.now c.args.i c.if-i-targets.false))
