use Rattle.std.proofs.Common.{sym, ap, arith}
use Rattle.infer_plan.specs.declared.task.Task.TheVariants as a_task
use Rattle.infer_plan.specs.declared.task.NameTask.TheVariants as a_name
use Rattle.std.proofs.lemmas.Result.{on_ok_weaker}
use Rattle.rule_state.specs.Work.{work_of}
use Rattle.infer_plan.specs.Weights.{weight}
use Rattle.type_infer.proofs.Kept.{by_step, always}
use Rattle.infer_plan.specs.declared.task.NameTask.{NameTask}
use Rattle.std.proofs.Common.{subst}
use Rattle.type_infer.specs.Under.{Went}
use Rattle.type_infer.proofs.go.go_name.Goals as goal

pub returns-in-Text-clause-work : goal.returns-in-Text-clause-work
returns-in-Text-clause-work c = on_ok_weaker c.text.result (λ made rules under. subst (λ (k : NameTask). Went rules (a_task.Name k c.args.bytes) c.args.tasks.now.items c.args.tasks.now.items (work_of c.args.state.now) (work_of c.text.new.state)) (sym c.in-Text.is) (by_step rules (a_task.Name a_name.Text c.args.bytes) c.args.tasks.now.items (work_of c.args.state.now) (work_of c.text.new.state) (made))) c.text.ensures

pub returns-in-Text-clause-light : goal.returns-in-Text-clause-light
returns-in-Text-clause-light c = always c.text.result (omega (arith, ap (λ (k : NameTask). weight (a_task.Name k c.args.bytes)) c.in-Text.is))

pub returns-in-Property-clause-work : goal.returns-in-Property-clause-work
returns-in-Property-clause-work c = on_ok_weaker c.property.result (λ made rules under. subst (λ (k : NameTask). Went rules (a_task.Name k c.args.bytes) c.args.tasks.now.items c.args.tasks.now.items (work_of c.args.state.now) (work_of c.property.new.state)) (sym c.in-Property.is) (by_step rules (a_task.Name a_name.Property c.args.bytes) c.args.tasks.now.items (work_of c.args.state.now) (work_of c.property.new.state) (made))) c.property.ensures

pub returns-in-Property-clause-light : goal.returns-in-Property-clause-light
returns-in-Property-clause-light c = always c.property.result (omega (arith, ap (λ (k : NameTask). weight (a_task.Name k c.args.bytes)) c.in-Property.is))
