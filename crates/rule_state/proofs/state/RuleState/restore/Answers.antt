use Rattle.std.proofs.Common.{List, ap, sym, ◌∙◌}
use Rattle.report_rules.specs.TypeMap.{TypeMap}
use Rattle.rule_work.specs.Moves.{restored_from}
use Rattle.rule_state.specs.Work.{map_of, work_of}
use Rattle.rule_state.proofs.StackFacts.{popped_last, popped_nothing}
use Rattle.rule_state.proofs.state.RuleState.restore.Goals as goal

pub returns-in-Some : goal.returns-in-Some
unfolding work_of
returns-in-Some c =
    ap (λ (saved : List TypeMap). restored_from saved (work_of c.args.self.now))
    (sym (popped_last (map_of c.args.self.now.types) c.args.self.now.saved.items c.pop.new.self.items c.pop.result c.in-Some.point c.pop.ensures.items c.in-Some.is))

pub returns-in_default : goal.returns-in_default
unfolding work_of
returns-in_default c =
    let none = popped_nothing (map_of c.args.self.now.types) _ c.args.self.now.saved.items c.pop.new.self.items c.pop.result _ _ c.pop.ensures.items c.pop.ensures.cases c.args.self.now.saved.ok.0 c.in_default.is in
    ap (λ (saved : List TypeMap). record (work_of c.args.self.now) { saved = saved }) none.1
    ∙ sym (ap (λ (saved : List TypeMap). restored_from saved (record (work_of c.args.self.now) { saved = saved })) none.0)
