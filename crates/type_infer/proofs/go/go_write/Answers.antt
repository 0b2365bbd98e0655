use Rattle.std.proofs.Common.{sym, ap, arith}
use Rattle.infer_plan.specs.declared.task.Task.TheVariants as a_task
use Rattle.infer_plan.specs.declared.task.WriteTask.TheVariants as a_write
use Rattle.std.proofs.lemmas.Result.{on_ok_weaker}
use Rattle.rule_state.specs.Work.{work_of}
use Rattle.infer_plan.specs.Weights.{weight}
use Rattle.type_infer.proofs.Kept.{by_step, always}
use Rattle.infer_plan.specs.declared.task.WriteTask.{WriteTask}
use Rattle.std.proofs.Common.{subst}
use Rattle.type_infer.specs.Under.{Went}
use Rattle.type_infer.proofs.go.go_write.Goals as goal

pub returns-in-Write-clause-work : goal.returns-in-Write-clause-work
returns-in-Write-clause-work c = on_ok_weaker c.write.result (λ made rules under. subst (λ (k : WriteTask). Went rules (a_task.Write k c.args.written) c.args.tasks.now.items c.args.tasks.now.items (work_of c.args.state.now) (work_of c.write.new.state)) (sym c.in-Write.is) (by_step rules (a_task.Write a_write.Write c.args.written) c.args.tasks.now.items (work_of c.args.state.now) (work_of c.write.new.state) (made rules under.read))) c.write.ensures

pub returns-in-Write-clause-light : goal.returns-in-Write-clause-light
returns-in-Write-clause-light c = always c.write.result (omega (arith, ap (λ (k : WriteTask). weight (a_task.Write k c.args.written)) c.in-Write.is))

pub returns-in-Store-clause-work : goal.returns-in-Store-clause-work
returns-in-Store-clause-work c = on_ok_weaker c.store.result (λ made rules under. subst (λ (k : WriteTask). Went rules (a_task.Write k c.args.written) c.args.tasks.now.items c.args.tasks.now.items (work_of c.args.state.now) (work_of c.store.new.state)) (sym c.in-Store.is) (by_step rules (a_task.Write a_write.Store c.args.written) c.args.tasks.now.items (work_of c.args.state.now) (work_of c.store.new.state) (made rules under.read))) c.store.ensures

pub returns-in-Store-clause-light : goal.returns-in-Store-clause-light
returns-in-Store-clause-light c = always c.store.result (omega (arith, ap (λ (k : WriteTask). weight (a_task.Write k c.args.written)) c.in-Store.is))

pub returns-in-Disturb-clause-work : goal.returns-in-Disturb-clause-work
returns-in-Disturb-clause-work c = on_ok_weaker c.disturb.result (λ made rules under. subst (λ (k : WriteTask). Went rules (a_task.Write k c.args.written) c.args.tasks.now.items c.args.tasks.now.items (work_of c.args.state.now) (work_of c.disturb.new.state)) (sym c.in-Disturb.is) (by_step rules (a_task.Write a_write.Disturb c.args.written) c.args.tasks.now.items (work_of c.args.state.now) (work_of c.disturb.new.state) (made))) c.disturb.ensures

pub returns-in-Disturb-clause-light : goal.returns-in-Disturb-clause-light
returns-in-Disturb-clause-light c = always c.disturb.result (omega (arith, ap (λ (k : WriteTask). weight (a_task.Write k c.args.written)) c.in-Disturb.is))
