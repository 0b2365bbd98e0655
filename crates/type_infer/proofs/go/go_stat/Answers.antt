use Rattle.std.proofs.Common.{sym, ap, arith}
use Rattle.infer_plan.specs.declared.task.Task.TheVariants as a_task
use Rattle.infer_plan.specs.declared.task.StatTask.TheVariants as a_stat
use Rattle.std.proofs.lemmas.Result.{on_ok_weaker}
use Rattle.rule_state.specs.Work.{work_of}
use Rattle.infer_plan.specs.Weights.{weight}
use Rattle.type_infer.proofs.Kept.{by_step, by_parts, always}
use Rattle.infer_plan.specs.declared.task.StatTask.{StatTask}
use Rattle.std.proofs.Common.{subst}
use Rattle.type_infer.specs.Under.{Went}
use Rattle.type_infer.proofs.go.go_stat.Goals as goal

pub returns-in-Whole-clause-work : goal.returns-in-Whole-clause-work
returns-in-Whole-clause-work c = on_ok_weaker c.stat.result (λ made rules under. subst (λ (k : StatTask). Went rules (a_task.Stat k c.args.s) c.args.tasks.now.items c.stat.new.tasks.items (work_of c.args.state.now) (work_of c.args.state.now)) (sym c.in-Whole.is) (by_parts rules (a_task.Stat a_stat.Whole c.args.s) c.args.tasks.now.items c.stat.new.tasks.items (work_of c.args.state.now) (made rules (work_of c.args.state.now) under.read))) c.stat.ensures.work

pub returns-in-Whole-clause-light : goal.returns-in-Whole-clause-light
returns-in-Whole-clause-light c = on_ok_weaker c.stat.result (λ light. omega (arith, light, ap (λ (k : StatTask). weight (a_task.Stat k c.args.s)) c.in-Whole.is)) c.stat.ensures.light

pub returns-in-Head-clause-work : goal.returns-in-Head-clause-work
returns-in-Head-clause-work c = on_ok_weaker c.head.result (λ made rules under. subst (λ (k : StatTask). Went rules (a_task.Stat k c.args.s) c.args.tasks.now.items c.args.tasks.now.items (work_of c.args.state.now) (work_of c.head.new.state)) (sym c.in-Head.is) (by_step rules (a_task.Stat a_stat.Head c.args.s) c.args.tasks.now.items (work_of c.args.state.now) (work_of c.head.new.state) (made rules under.read))) c.head.ensures

pub returns-in-Head-clause-light : goal.returns-in-Head-clause-light
returns-in-Head-clause-light c = always c.head.result (omega (arith, ap (λ (k : StatTask). weight (a_task.Stat k c.args.s)) c.in-Head.is))
