use Rattle.std.proofs.Common.{sym, ap, arith}
use Rattle.infer_plan.specs.declared.task.Task.TheVariants as a_task
use Rattle.infer_plan.specs.declared.task.ListTask.TheVariants as a_list
use Rattle.std.proofs.lemmas.Result.{on_ok_weaker}
use Rattle.rule_state.specs.Work.{work_of}
use Rattle.infer_plan.specs.Weights.{weight}
use Rattle.type_infer.proofs.Kept.{by_parts}
use Rattle.infer_plan.specs.declared.task.ListTask.{ListTask}
use Rattle.std.proofs.Common.{subst}
use Rattle.type_infer.specs.Under.{Went}
use Rattle.type_infer.proofs.go.go_list.Goals as goal

pub returns-in-Values-clause-work : goal.returns-in-Values-clause-work
returns-in-Values-clause-work c = on_ok_weaker c.values.result (λ made rules under. subst (λ (k : ListTask). Went rules (a_task.Exprs k c.args.es) c.args.tasks.now.items c.values.new.tasks.items (work_of c.args.state.now) (work_of c.args.state.now)) (sym c.in-Values.is) (by_parts rules (a_task.Exprs a_list.Values c.args.es) c.args.tasks.now.items c.values.new.tasks.items (work_of c.args.state.now) (made rules (work_of c.args.state.now) under.read))) c.values.ensures.work

pub returns-in-Values-clause-light : goal.returns-in-Values-clause-light
returns-in-Values-clause-light c = on_ok_weaker c.values.result (λ light. omega (arith, light, ap (λ (k : ListTask). weight (a_task.Exprs k c.args.es)) c.in-Values.is)) c.values.ensures.light

pub returns-in-Targets-clause-work : goal.returns-in-Targets-clause-work
returns-in-Targets-clause-work c = on_ok_weaker c.targets.result (λ made rules under. subst (λ (k : ListTask). Went rules (a_task.Exprs k c.args.es) c.args.tasks.now.items c.targets.new.tasks.items (work_of c.args.state.now) (work_of c.args.state.now)) (sym c.in-Targets.is) (by_parts rules (a_task.Exprs a_list.Targets c.args.es) c.args.tasks.now.items c.targets.new.tasks.items (work_of c.args.state.now) (made rules (work_of c.args.state.now) under.read))) c.targets.ensures.work

pub returns-in-Targets-clause-light : goal.returns-in-Targets-clause-light
returns-in-Targets-clause-light c = on_ok_weaker c.targets.result (λ light. omega (arith, light, ap (λ (k : ListTask). weight (a_task.Exprs k c.args.es)) c.in-Targets.is)) c.targets.ensures.light
