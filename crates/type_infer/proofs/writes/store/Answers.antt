use Rattle.std.proofs.Common.{sym, ap, ◌∙◌}
use Rattle.std.proofs.lemmas.Result.{on_ok_weaker}
use Rattle.rule_state.specs.Work.{work_of}
use Rattle.infer_plan.specs.Steps.{store}
use Rattle.type_infer.proofs.Reading.{set_is}
use Rattle.module_facts.specs.declared.targets.Target.{Target}
use Rattle.module_facts.specs.Targets.{target_meant}
use Rattle.type_infer.proofs.writes.store.Goals as goal

pub returns-in-Local : goal.returns-in-Local
returns-in-Local c = on_ok_weaker c.set.result (λ made rules read. made ∙ set_is c.args.facts.now rules read c.in-Local.local.0 c.loose.result (work_of c.args.state.now) c.loose.ensures ∙ ap (λ (t : Target). store rules (target_meant t) (work_of c.args.state.now)) (sym c.in-Local.is)) c.set.ensures

pub returns-in-Global : goal.returns-in-Global
returns-in-Global c = λ rules read. ap (λ (t : Target). store rules (target_meant t) (work_of c.args.state.now)) (sym c.in-Global.is)

pub returns-in-Field : goal.returns-in-Field
returns-in-Field c = λ rules read. ap (λ (t : Target). store rules (target_meant t) (work_of c.args.state.now)) (sym c.in-Field.is)

pub returns-in-Element : goal.returns-in-Element
returns-in-Element c = λ rules read. ap (λ (t : Target). store rules (target_meant t) (work_of c.args.state.now)) (sym c.in-Element.is)
