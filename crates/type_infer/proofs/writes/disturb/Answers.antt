use Rattle.std.proofs.Common.{ℕ, List, sym, ap, ◌∙◌}
use Rattle.std.proofs.lemmas.Result.{on_ok_weaker}
use Rattle.rule_work.specs.Moves.{mapped}
use Rattle.rule_state.specs.Work.{work_of}
use Rattle.module_facts.specs.declared.targets.Target.{Target}
use Rattle.module_facts.specs.Targets.{target_meant}
use Rattle.report_rules.specs.TypeMap.{disturbed, widened_at}
use Rattle.type_infer.proofs.writes.disturb.Goals as goal

pub returns-in-Local : goal.returns-in-Local
returns-in-Local c = ap (λ (t : Target). mapped (disturbed (target_meant t)) (work_of c.args.state.now)) (sym c.in-Local.is)

pub returns-in-Global : goal.returns-in-Global
returns-in-Global c = ap (λ (t : Target). mapped (disturbed (target_meant t)) (work_of c.args.state.now)) (sym c.in-Global.is)

pub returns-in_ok-label-in-Field : goal.returns-in_ok-label-in-Field
returns-in_ok-label-in-Field c = on_ok_weaker c.disturb.result (λ made. made ∙ ap (λ (name : List ℕ). mapped (widened_at name) (work_of c.args.state.now)) c.in_ok-label-in-Field.ensures ∙ ap (λ (t : Target). mapped (disturbed (target_meant t)) (work_of c.args.state.now)) (sym c.in-Field.is)) c.disturb.ensures

pub returns-in-Element : goal.returns-in-Element
returns-in-Element c = on_ok_weaker c.after.result (λ made. made ∙ ap (λ (t : Target). mapped (disturbed (target_meant t)) (work_of c.args.state.now)) (sym c.in-Element.is)) c.after.ensures
