use Rattle.std.proofs.Common.{sym, ap, ◌∙◌}
use Rattle.module_facts.specs.declared.targets.Target.TheVariants as a_target
use Rattle.std.proofs.lemmas.Result.{on_ok_weaker}
use Rattle.std.specs.Prelude.{Option}
use Rattle.rule_work.specs.Moves.{mapped}
use Rattle.rule_state.specs.Work.{work_of}
use Rattle.luau_tree.specs.declared.names.LocalId.{LocalId}
use Rattle.module_facts.specs.declared.targets.Target.{Target}
use Rattle.module_facts.specs.Targets.{target_meant}
use Rattle.report_rules.specs.TypeMap.{with_field}
use Rattle.type_infer.proofs.writes.field.Goals as goal

pub returns-in-Local : goal.returns-in-Local
returns-in-Local c = λ rules read. ap (λ (t : Target). mapped (with_field rules (target_meant t) (work_of c.args.state.now).value) (work_of c.args.state.now)) (sym c.in-Local.is)

pub returns-in-Global : goal.returns-in-Global
returns-in-Global c = λ rules read. ap (λ (t : Target). mapped (with_field rules (target_meant t) (work_of c.args.state.now).value) (work_of c.args.state.now)) (sym c.in-Global.is)

pub returns-in-None : goal.returns-in-None
returns-in-None c =
    let is = c.in-Field.is ∙ ap (λ (b : Option LocalId). a_target.Field b c.in-Field.name) c.in-None.is in λ rules read. ap (λ (t : Target). mapped (with_field rules (target_meant t) (work_of c.args.state.now).value) (work_of c.args.state.now)) (sym is)

pub returns-in-Some : goal.returns-in-Some
returns-in-Some c =
    let is = c.in-Field.is ∙ ap (λ (b : Option LocalId). a_target.Field b c.in-Field.name) c.in-Some.is in
    on_ok_weaker c.with_field.result (λ made rules read. made rules read ∙ ap (λ (t : Target). mapped (with_field rules (target_meant t) (work_of c.args.state.now).value) (work_of c.args.state.now)) (sym is)) c.with_field.ensures

pub returns-in-Element : goal.returns-in-Element
returns-in-Element c = λ rules read. ap (λ (t : Target). mapped (with_field rules (target_meant t) (work_of c.args.state.now).value) (work_of c.args.state.now)) (sym c.in-Element.is)
