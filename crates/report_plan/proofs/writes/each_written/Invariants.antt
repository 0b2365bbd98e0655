use Rattle.std.proofs.Common.{drop}
use Rattle.luau_tree.specs.View.{view_exprs}
use Rattle.report_rules.specs.Checks.{count}
use Rattle.report_rules.specs.Effects.{targets_of}
use Rattle.report_work.specs.Statements as stated
use Rattle.report_plan.specs.Puts.{Puts}
use Rattle.report_plan.proofs.writes.each_written.Given as goal

-- those from here on are put before the tasks that were there
abbrev pub invariant-loop-i : goal.invariant-loop-i
invariant-loop-i l =
    Puts l.fn.tasks.items l.tasks.items (λ rules seen. stated.each_written (targets_of rules (view_exprs (drop l.i l.targets)))) (count (view_exprs (drop l.i l.targets)))
