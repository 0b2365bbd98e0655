use Rattle.std.proofs.Common.{sym, ap, arith}
use Rattle.infer_plan.specs.declared.task.Task.TheVariants as a_task
use Rattle.infer_plan.specs.declared.task.ExprTask.TheVariants as an_expr
use Rattle.std.proofs.lemmas.Result.{on_ok_weaker}
use Rattle.rule_state.specs.Work.{work_of}
use Rattle.infer_plan.specs.Weights.{weight}
use Rattle.type_infer.proofs.Kept.{by_step, by_parts, always}
use Rattle.infer_plan.specs.declared.task.ExprTask.{ExprTask}
use Rattle.std.proofs.Common.{subst}
use Rattle.type_infer.specs.Under.{Went}
use Rattle.type_infer.proofs.go.go_expr.Goals as goal

pub returns-in-Whole-clause-work : goal.returns-in-Whole-clause-work
returns-in-Whole-clause-work c = on_ok_weaker c.expr.result (λ made rules under. subst (λ (k : ExprTask). Went rules (a_task.Expr k c.args.e) c.args.tasks.now.items c.expr.new.tasks.items (work_of c.args.state.now) (work_of c.args.state.now)) (sym c.in-Whole.is) (by_parts rules (a_task.Expr an_expr.Whole c.args.e) c.args.tasks.now.items c.expr.new.tasks.items (work_of c.args.state.now) (made rules (work_of c.args.state.now) under.read))) c.expr.ensures.work

pub returns-in-Whole-clause-light : goal.returns-in-Whole-clause-light
returns-in-Whole-clause-light c = on_ok_weaker c.expr.result (λ light. omega (arith, light, ap (λ (k : ExprTask). weight (a_task.Expr k c.args.e)) c.in-Whole.is)) c.expr.ensures.light

pub returns-in-Form-clause-work : goal.returns-in-Form-clause-work
returns-in-Form-clause-work c = on_ok_weaker c.form.result (λ made rules under. subst (λ (k : ExprTask). Went rules (a_task.Expr k c.args.e) c.args.tasks.now.items c.form.new.tasks.items (work_of c.args.state.now) (work_of c.args.state.now)) (sym c.in-Form.is) (by_parts rules (a_task.Expr an_expr.Form c.args.e) c.args.tasks.now.items c.form.new.tasks.items (work_of c.args.state.now) (made rules (work_of c.args.state.now) under.read))) c.form.ensures.work

pub returns-in-Form-clause-light : goal.returns-in-Form-clause-light
returns-in-Form-clause-light c = on_ok_weaker c.form.result (λ light. omega (arith, light, ap (λ (k : ExprTask). weight (a_task.Expr k c.args.e)) c.in-Form.is)) c.form.ensures.light

pub returns-in-Target-clause-work : goal.returns-in-Target-clause-work
returns-in-Target-clause-work c = on_ok_weaker c.target.result (λ made rules under. subst (λ (k : ExprTask). Went rules (a_task.Expr k c.args.e) c.args.tasks.now.items c.target.new.tasks.items (work_of c.args.state.now) (work_of c.args.state.now)) (sym c.in-Target.is) (by_parts rules (a_task.Expr an_expr.Target c.args.e) c.args.tasks.now.items c.target.new.tasks.items (work_of c.args.state.now) (made rules (work_of c.args.state.now) under.read))) c.target.ensures.work

pub returns-in-Target-clause-light : goal.returns-in-Target-clause-light
returns-in-Target-clause-light c = on_ok_weaker c.target.result (λ light. omega (arith, light, ap (λ (k : ExprTask). weight (a_task.Expr k c.args.e)) c.in-Target.is)) c.target.ensures.light

pub returns-in-Open-clause-work : goal.returns-in-Open-clause-work
returns-in-Open-clause-work c = on_ok_weaker c.open.result (λ made rules under. subst (λ (k : ExprTask). Went rules (a_task.Expr k c.args.e) c.args.tasks.now.items c.args.tasks.now.items (work_of c.args.state.now) (work_of c.open.new.state)) (sym c.in-Open.is) (by_step rules (a_task.Expr an_expr.Open c.args.e) c.args.tasks.now.items (work_of c.args.state.now) (work_of c.open.new.state) (made))) c.open.ensures

pub returns-in-Open-clause-light : goal.returns-in-Open-clause-light
returns-in-Open-clause-light c = always c.open.result (omega (arith, ap (λ (k : ExprTask). weight (a_task.Expr k c.args.e)) c.in-Open.is))

pub returns-in-Name-clause-work : goal.returns-in-Name-clause-work
returns-in-Name-clause-work c = on_ok_weaker c.name.result (λ made rules under. subst (λ (k : ExprTask). Went rules (a_task.Expr k c.args.e) c.args.tasks.now.items c.args.tasks.now.items (work_of c.args.state.now) (work_of c.name.new.state)) (sym c.in-Name.is) (by_step rules (a_task.Expr an_expr.Name c.args.e) c.args.tasks.now.items (work_of c.args.state.now) (work_of c.name.new.state) (made rules under.read))) c.name.ensures

pub returns-in-Name-clause-light : goal.returns-in-Name-clause-light
returns-in-Name-clause-light c = always c.name.result (omega (arith, ap (λ (k : ExprTask). weight (a_task.Expr k c.args.e)) c.in-Name.is))

pub returns-in-TargetName-clause-work : goal.returns-in-TargetName-clause-work
returns-in-TargetName-clause-work c = on_ok_weaker c.target_name.result (λ made rules under. subst (λ (k : ExprTask). Went rules (a_task.Expr k c.args.e) c.args.tasks.now.items c.args.tasks.now.items (work_of c.args.state.now) (work_of c.target_name.new.state)) (sym c.in-TargetName.is) (by_step rules (a_task.Expr an_expr.TargetName c.args.e) c.args.tasks.now.items (work_of c.args.state.now) (work_of c.target_name.new.state) (made rules under.read))) c.target_name.ensures

pub returns-in-TargetName-clause-light : goal.returns-in-TargetName-clause-light
returns-in-TargetName-clause-light c = always c.target_name.result (omega (arith, ap (λ (k : ExprTask). weight (a_task.Expr k c.args.e)) c.in-TargetName.is))

pub returns-in-Path-clause-work : goal.returns-in-Path-clause-work
returns-in-Path-clause-work c = on_ok_weaker c.path.result (λ made rules under. subst (λ (k : ExprTask). Went rules (a_task.Expr k c.args.e) c.args.tasks.now.items c.args.tasks.now.items (work_of c.args.state.now) (work_of c.path.new.state)) (sym c.in-Path.is) (by_step rules (a_task.Expr an_expr.Path c.args.e) c.args.tasks.now.items (work_of c.args.state.now) (work_of c.path.new.state) (made rules under.read))) c.path.ensures

pub returns-in-Path-clause-light : goal.returns-in-Path-clause-light
returns-in-Path-clause-light c = always c.path.result (omega (arith, ap (λ (k : ExprTask). weight (a_task.Expr k c.args.e)) c.in-Path.is))

pub returns-in-Call-clause-work : goal.returns-in-Call-clause-work
returns-in-Call-clause-work c = on_ok_weaker c.call.result (λ made rules under. subst (λ (k : ExprTask). Went rules (a_task.Expr k c.args.e) c.args.tasks.now.items c.args.tasks.now.items (work_of c.args.state.now) (work_of c.call.new.state)) (sym c.in-Call.is) (by_step rules (a_task.Expr an_expr.Call c.args.e) c.args.tasks.now.items (work_of c.args.state.now) (work_of c.call.new.state) (made rules under))) c.call.ensures

pub returns-in-Call-clause-light : goal.returns-in-Call-clause-light
returns-in-Call-clause-light c = always c.call.result (omega (arith, ap (λ (k : ExprTask). weight (a_task.Expr k c.args.e)) c.in-Call.is))

pub returns-in-WhenTrue-clause-work : goal.returns-in-WhenTrue-clause-work
returns-in-WhenTrue-clause-work c = on_ok_weaker c.decide.result (λ made rules under. subst (λ (k : ExprTask). Went rules (a_task.Expr k c.args.e) c.args.tasks.now.items c.args.tasks.now.items (work_of c.args.state.now) (work_of c.decide.new.state)) (sym c.in-WhenTrue.is) (by_step rules (a_task.Expr an_expr.WhenTrue c.args.e) c.args.tasks.now.items (work_of c.args.state.now) (work_of c.decide.new.state) (made rules under.read))) c.decide.ensures

pub returns-in-WhenTrue-clause-light : goal.returns-in-WhenTrue-clause-light
returns-in-WhenTrue-clause-light c = always c.decide.result (omega (arith, ap (λ (k : ExprTask). weight (a_task.Expr k c.args.e)) c.in-WhenTrue.is))

pub returns-in-WhenFalse-clause-work : goal.returns-in-WhenFalse-clause-work
returns-in-WhenFalse-clause-work c = on_ok_weaker c.decide-in-WhenFalse.result (λ made rules under. subst (λ (k : ExprTask). Went rules (a_task.Expr k c.args.e) c.args.tasks.now.items c.args.tasks.now.items (work_of c.args.state.now) (work_of c.decide-in-WhenFalse.new.state)) (sym c.in-WhenFalse.is) (by_step rules (a_task.Expr an_expr.WhenFalse c.args.e) c.args.tasks.now.items (work_of c.args.state.now) (work_of c.decide-in-WhenFalse.new.state) (made rules under.read))) c.decide-in-WhenFalse.ensures

pub returns-in-WhenFalse-clause-light : goal.returns-in-WhenFalse-clause-light
returns-in-WhenFalse-clause-light c = always c.decide-in-WhenFalse.result (omega (arith, ap (λ (k : ExprTask). weight (a_task.Expr k c.args.e)) c.in-WhenFalse.is))
