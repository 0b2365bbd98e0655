use Rattle.std.proofs.Common.{sym, ap, arith}
use Rattle.infer_plan.specs.declared.task.Task.TheVariants as a_task
use Rattle.std.proofs.lemmas.Result.{on_ok_weaker}
use Rattle.rule_state.specs.Work.{work_of}
use Rattle.infer_plan.specs.Weights.{weight}
use Rattle.type_infer.proofs.Kept.{by_step, by_parts, always}
use Rattle.infer_plan.specs.declared.task.Task.{Task}
use Rattle.std.proofs.Common.{subst}
use Rattle.type_infer.specs.Under.{Went}
use Rattle.type_infer.proofs.go.go.Goals as goal

pub returns-in-Step-clause-work : goal.returns-in-Step-clause-work
returns-in-Step-clause-work c = on_ok_weaker c.step.result (λ made rules under. subst (λ (t : Task). Went rules t c.args.tasks.now.items c.args.tasks.now.items (work_of c.args.state.now) (work_of c.step.new.state)) (sym c.in-Step.is) (by_step rules (a_task.Step c.in-Step.kind) c.args.tasks.now.items (work_of c.args.state.now) (work_of c.step.new.state) (made))) c.step.ensures

pub returns-in-Step-clause-light : goal.returns-in-Step-clause-light
returns-in-Step-clause-light c = always c.step.result (omega (arith, ap weight c.in-Step.is))

pub returns-in-Expr-clause-work : goal.returns-in-Expr-clause-work
returns-in-Expr-clause-work c = on_ok_weaker c.go_expr.result (λ went rules under. subst (λ (t : Task). Went rules t c.args.tasks.now.items c.go_expr.new.tasks.items (work_of c.args.state.now) (work_of c.go_expr.new.state)) (sym c.in-Expr.is) (went rules under)) c.go_expr.ensures.work

pub returns-in-Expr-clause-light : goal.returns-in-Expr-clause-light
returns-in-Expr-clause-light c = on_ok_weaker c.go_expr.result (λ light. omega (arith, light, ap weight c.in-Expr.is)) c.go_expr.ensures.light

pub returns-in-Exprs-clause-work : goal.returns-in-Exprs-clause-work
returns-in-Exprs-clause-work c = on_ok_weaker c.go_list.result (λ went rules under. subst (λ (t : Task). Went rules t c.args.tasks.now.items c.go_list.new.tasks.items (work_of c.args.state.now) (work_of c.go_list.new.state)) (sym c.in-Exprs.is) (went rules under)) c.go_list.ensures.work

pub returns-in-Exprs-clause-light : goal.returns-in-Exprs-clause-light
returns-in-Exprs-clause-light c = on_ok_weaker c.go_list.result (λ light. omega (arith, light, ap weight c.in-Exprs.is)) c.go_list.ensures.light

pub returns-in-Row-clause-work : goal.returns-in-Row-clause-work
returns-in-Row-clause-work c = on_ok_weaker c.row.result (λ made rules under. subst (λ (t : Task). Went rules t c.args.tasks.now.items c.args.tasks.now.items (work_of c.args.state.now) (work_of c.row.new.state)) (sym c.in-Row.is) (by_step rules (a_task.Row c.in-Row.items) c.args.tasks.now.items (work_of c.args.state.now) (work_of c.row.new.state) (made))) c.row.ensures

pub returns-in-Row-clause-light : goal.returns-in-Row-clause-light
returns-in-Row-clause-light c = always c.row.result (omega (arith, ap weight c.in-Row.is))

pub returns-in-Body-clause-work : goal.returns-in-Body-clause-work
returns-in-Body-clause-work c = on_ok_weaker c.go_body.result (λ went rules under. subst (λ (t : Task). Went rules t c.args.tasks.now.items c.go_body.new.tasks.items (work_of c.args.state.now) (work_of c.go_body.new.state)) (sym c.in-Body.is) (went rules under)) c.go_body.ensures.work

pub returns-in-Body-clause-light : goal.returns-in-Body-clause-light
returns-in-Body-clause-light c = on_ok_weaker c.go_body.result (λ light. omega (arith, light, ap weight c.in-Body.is)) c.go_body.ensures.light

pub returns-in-Stat-clause-work : goal.returns-in-Stat-clause-work
returns-in-Stat-clause-work c = on_ok_weaker c.go_stat.result (λ went rules under. subst (λ (t : Task). Went rules t c.args.tasks.now.items c.go_stat.new.tasks.items (work_of c.args.state.now) (work_of c.go_stat.new.state)) (sym c.in-Stat.is) (went rules under)) c.go_stat.ensures.work

pub returns-in-Stat-clause-light : goal.returns-in-Stat-clause-light
returns-in-Stat-clause-light c = on_ok_weaker c.go_stat.result (λ light. omega (arith, light, ap weight c.in-Stat.is)) c.go_stat.ensures.light

pub returns-in-Block-clause-work : goal.returns-in-Block-clause-work
returns-in-Block-clause-work c = on_ok_weaker c.block.result (λ made rules under. subst (λ (t : Task). Went rules t c.args.tasks.now.items c.block.new.tasks.items (work_of c.args.state.now) (work_of c.args.state.now)) (sym c.in-Block.is) (by_parts rules (a_task.Block c.in-Block.b) c.args.tasks.now.items c.block.new.tasks.items (work_of c.args.state.now) (made rules (work_of c.args.state.now)))) c.block.ensures.work

pub returns-in-Block-clause-light : goal.returns-in-Block-clause-light
returns-in-Block-clause-light c = on_ok_weaker c.block.result (λ light. omega (arith, light, ap weight c.in-Block.is)) c.block.ensures.light

pub returns-in-Set-clause-work : goal.returns-in-Set-clause-work
returns-in-Set-clause-work c = on_ok_weaker c.set.result (λ made rules under. subst (λ (t : Task). Went rules t c.args.tasks.now.items c.args.tasks.now.items (work_of c.args.state.now) (work_of c.set.new.state)) (sym c.in-Set.is) (by_step rules (a_task.Set c.in-Set.bind) c.args.tasks.now.items (work_of c.args.state.now) (work_of c.set.new.state) (made rules under.read))) c.set.ensures

pub returns-in-Set-clause-light : goal.returns-in-Set-clause-light
returns-in-Set-clause-light c = always c.set.result (omega (arith, ap weight c.in-Set.is))

pub returns-in-Name-clause-work : goal.returns-in-Name-clause-work
returns-in-Name-clause-work c = on_ok_weaker c.go_name.result (λ went rules under. subst (λ (t : Task). Went rules t c.args.tasks.now.items c.go_name.new.tasks.items (work_of c.args.state.now) (work_of c.go_name.new.state)) (sym c.in-Name.is) (went rules under)) c.go_name.ensures.work

pub returns-in-Name-clause-light : goal.returns-in-Name-clause-light
returns-in-Name-clause-light c = on_ok_weaker c.go_name.result (λ light. omega (arith, light, ap weight c.in-Name.is)) c.go_name.ensures.light

pub returns-in-Write-clause-work : goal.returns-in-Write-clause-work
returns-in-Write-clause-work c = on_ok_weaker c.go_write.result (λ went rules under. subst (λ (t : Task). Went rules t c.args.tasks.now.items c.go_write.new.tasks.items (work_of c.args.state.now) (work_of c.go_write.new.state)) (sym c.in-Write.is) (went rules under)) c.go_write.ensures.work

pub returns-in-Write-clause-light : goal.returns-in-Write-clause-light
returns-in-Write-clause-light c = on_ok_weaker c.go_write.result (λ light. omega (arith, light, ap weight c.in-Write.is)) c.go_write.ensures.light
