use Rattle.std.proofs.Common.{◌≡◌, List, ap, sym, ◌∙◌}
use Rattle.std.specs.Prelude.{Option, Some}
use Rattle.luau_tree.specs.declared.tree as code
use Rattle.luau_tree.specs.View.{view_bind}
use Rattle.report_work.specs.Checks.{Named, ValueFor}
use Rattle.report_work.specs.Statements.{named_of_bind, passed}
use Rattle.report_plan.proofs.ListFacts.{no_named_bind, named_bind}
use Rattle.report_plan.proofs.writes.declared_check.Goals as goal

pub returns-then-i-binds : goal.returns-then-i-binds
returns-then-i-binds c = λ rules seen e work.
    ap (λ (named : Option Named). passed rules seen (ValueFor named) e work)
    (sym (named_bind rules c.args.binds.now c.args.i c.index-binds-i.result c.if-i-binds.true ∙ ap (λ (x : code.Bind.Bind). Some (named_of_bind rules (view_bind x))) (sym c.index-binds-i.is)))

pub returns-else-i-binds : goal.returns-else-i-binds
returns-else-i-binds c = λ rules seen e work.
    ap (λ (named : Option Named). passed rules seen (ValueFor named) e work) (sym (no_named_bind rules c.args.binds.now c.args.i c.if-i-binds.false))
