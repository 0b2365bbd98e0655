use Rattle.std.proofs.Common.{sym, ap, arith}
use Rattle.infer_plan.specs.declared.task.Task.TheVariants as a_task
use Rattle.infer_plan.specs.declared.task.BodyTask.TheVariants as a_body
use Rattle.std.proofs.lemmas.Result.{on_ok_weaker}
use Rattle.rule_state.specs.Work.{work_of}
use Rattle.infer_plan.specs.Weights.{weight}
use Rattle.type_infer.proofs.Kept.{by_step, by_parts, always}
use Rattle.infer_plan.specs.declared.task.BodyTask.{BodyTask}
use Rattle.std.proofs.Common.{subst}
use Rattle.type_infer.specs.Under.{Went}
use Rattle.type_infer.proofs.go.go_body.Goals as goal

pub returns-in-Whole-clause-work : goal.returns-in-Whole-clause-work
returns-in-Whole-clause-work c = on_ok_weaker c.body.result (λ made rules under. subst (λ (k : BodyTask). Went rules (a_task.Body k c.args.b) c.args.tasks.now.items c.body.new.tasks.items (work_of c.args.state.now) (work_of c.args.state.now)) (sym c.in-Whole.is) (by_parts rules (a_task.Body a_body.Whole c.args.b) c.args.tasks.now.items c.body.new.tasks.items (work_of c.args.state.now) (made rules (work_of c.args.state.now)))) c.body.ensures.work

pub returns-in-Whole-clause-light : goal.returns-in-Whole-clause-light
returns-in-Whole-clause-light c = on_ok_weaker c.body.result (λ light. omega (arith, light, ap (λ (k : BodyTask). weight (a_task.Body k c.args.b)) c.in-Whole.is)) c.body.ensures.light

pub returns-in-See-clause-work : goal.returns-in-See-clause-work
returns-in-See-clause-work c = on_ok_weaker c.see.result (λ made rules under. subst (λ (k : BodyTask). Went rules (a_task.Body k c.args.b) c.args.tasks.now.items c.args.tasks.now.items (work_of c.args.state.now) (work_of c.see.new.state)) (sym c.in-See.is) (by_step rules (a_task.Body a_body.See c.args.b) c.args.tasks.now.items (work_of c.args.state.now) (work_of c.see.new.state) (made))) c.see.ensures

pub returns-in-See-clause-light : goal.returns-in-See-clause-light
returns-in-See-clause-light c = always c.see.result (omega (arith, ap (λ (k : BodyTask). weight (a_task.Body k c.args.b)) c.in-See.is))

pub returns-in-Enter-clause-work : goal.returns-in-Enter-clause-work
returns-in-Enter-clause-work c = on_ok_weaker c.enter.result (λ made rules under. subst (λ (k : BodyTask). Went rules (a_task.Body k c.args.b) c.args.tasks.now.items c.args.tasks.now.items (work_of c.args.state.now) (work_of c.enter.new.state)) (sym c.in-Enter.is) (by_step rules (a_task.Body a_body.Enter c.args.b) c.args.tasks.now.items (work_of c.args.state.now) (work_of c.enter.new.state) (made rules under.read))) c.enter.ensures

pub returns-in-Enter-clause-light : goal.returns-in-Enter-clause-light
returns-in-Enter-clause-light c = always c.enter.result (omega (arith, ap (λ (k : BodyTask). weight (a_task.Body k c.args.b)) c.in-Enter.is))

pub returns-in-Literal-clause-work : goal.returns-in-Literal-clause-work
returns-in-Literal-clause-work c = on_ok_weaker c.literal.result (λ made rules under. subst (λ (k : BodyTask). Went rules (a_task.Body k c.args.b) c.args.tasks.now.items c.args.tasks.now.items (work_of c.args.state.now) (work_of c.literal.new.state)) (sym c.in-Literal.is) (by_step rules (a_task.Body a_body.Literal c.args.b) c.args.tasks.now.items (work_of c.args.state.now) (work_of c.literal.new.state) (made rules under.home))) c.literal.ensures

pub returns-in-Literal-clause-light : goal.returns-in-Literal-clause-light
returns-in-Literal-clause-light c = always c.literal.result (omega (arith, ap (λ (k : BodyTask). weight (a_task.Body k c.args.b)) c.in-Literal.is))
