use Rattle.std.proofs.Common.{List, ap, sym, ◌∙◌}
use Rattle.type_arena.specs.Term.{Term}
use Rattle.local_types.specs.Entries.{type_of}
use Rattle.rule_work.specs.Moves.{taken_from}
use Rattle.rule_state.specs.Work.{work_of}
use Rattle.rule_state.proofs.StackFacts.{popped_last, popped_nothing}
use Rattle.rule_state.proofs.state.RuleState.take.Goals as goal

pub returns-in-Some : goal.returns-in-Some
unfolding work_of
returns-in-Some c =
    ap (λ (held : List Term). taken_from held (work_of c.args.self.now))
    (sym (popped_last (type_of c.args.self.now.types) c.args.self.now.held.items c.pop.new.self.items c.pop.result c.in-Some.at c.pop.ensures.items c.in-Some.is))

pub returns-in_default : goal.returns-in_default
unfolding work_of
returns-in_default c =
    let none = popped_nothing (type_of c.args.self.now.types) _ c.args.self.now.held.items c.pop.new.self.items c.pop.result _ _ c.pop.ensures.items c.pop.ensures.cases c.args.self.now.held.ok.0 c.in_default.is in
    ap (λ (held : List Term). record (work_of c.args.self.now) { held = held }) none.1
    ∙ sym (ap (λ (held : List Term). taken_from held (record (work_of c.args.self.now) { held = held })) none.0)
