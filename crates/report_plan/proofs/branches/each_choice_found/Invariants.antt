use Rattle.std.proofs.Common.{drop}
use Rattle.luau_tree.specs.View.{view_choices}
use Rattle.report_work.specs.Expressions as listed
use Rattle.report_work.specs.Found.{found_choice}
use Rattle.report_plan.specs.Weights.{choices_weight}
use Rattle.report_plan.proofs.Plans.{Awaits}
use Rattle.report_plan.proofs.branches.each_choice_found.Given as goal

-- those from here on are still to come
abbrev pub invariant-loop-one : goal.invariant-loop-one
invariant-loop-one l =
    Awaits l.fn.tasks.items l.tasks.items
    (λ rules seen. listed.each_choice (found_choice rules seen) (view_choices (drop l.one-index l.choices)))
    (λ rules seen. listed.each_choice (found_choice rules seen) (view_choices l.choices))
    (choices_weight (view_choices (drop l.one-index l.choices))) (choices_weight (view_choices l.choices))
