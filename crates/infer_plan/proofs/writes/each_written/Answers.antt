use Rattle.std.proofs.Common.{ap, ◌∙◌, arith}
use Rattle.std.proofs.lemmas.Result.{on_ok_weaker}
use Rattle.luau_tree.specs.View.{view_expr, view_exprs}
use Rattle.report_rules.specs.Effects.{targets_of, Target}
use Rattle.infer_plan.specs.Run.{run}
use Rattle.infer_plan.specs.Steps.{each_stored, written_one}
use Rattle.infer_plan.proofs.WriteForms.{written_alone, written_others, alone_weight}
use Rattle.infer_plan.proofs.SameRules.{target_by}
use Rattle.infer_plan.proofs.writes.each_written.Goals as goal

pub returns-then-targets-eq1-clause-work : goal.returns-then-targets-eq1-clause-work
returns-then-targets-eq1-clause-work c =
    let xs = c.args.targets.now in
    let x = c.index-targets-0.result in
    on_ok_weaker c.written.result (λ made rules work read.
    made rules work
    ∙ ap (λ (t : Target). run rules c.args.tasks.now.items (written_one rules c.args.expanding t work)) (c.target_of.ensures ∙ target_by c.args.facts.now rules read (view_expr x))
    ∙ ap (run rules c.args.tasks.now.items) (written_alone rules c.args.expanding xs x _ work c.if-targets-eq1.true c.index-targets-0.is)) c.written.ensures.work

pub returns-then-targets-eq1-clause-light : goal.returns-then-targets-eq1-clause-light
returns-then-targets-eq1-clause-light c = on_ok_weaker c.written.result (λ light. omega (arith, light, alone_weight c.args.targets.now c.if-targets-eq1.true)) c.written.ensures.light

pub returns-clause-work : goal.returns-clause-work
returns-clause-work c =
    let ts = view_exprs c.args.targets.now in
    on_ok_weaker c.each_stored.result (λ made rules work read.
    made rules work read
    ∙ c.in_ok-each_disturbed.ensures.work rules (each_stored rules c.args.expanding (targets_of rules ts) work) read
    ∙ ap (run rules c.args.tasks.now.items) (written_others rules c.args.expanding c.args.targets.now work c.if-targets-eq1.false)) c.each_stored.ensures.work

pub returns-clause-light : goal.returns-clause-light
returns-clause-light c = on_ok_weaker c.each_stored.result (λ light. omega (arith, light, c.in_ok-each_disturbed.ensures.light)) c.each_stored.ensures.light
