use Rattle.std.proofs.Common.{◌∙◌}
use Rattle.rule_state.specs.Work.{work_of}
use Rattle.type_infer.proofs.Reading.{field_is, loose_field_is, field_steps}
use Rattle.type_infer.proofs.writes.with_field.Goals as goal

pub returns-then-loose : goal.returns-then-loose
returns-then-loose c = λ rules read. loose_field_is c.args.facts.now rules read c.args.local.0 c.args.name.now (work_of c.args.state.now) c.loose.result c.loose.ensures c.if-loose.true

pub returns : goal.returns
returns c = λ rules read.
    field_steps (work_of c.args.state.now) (work_of c.hold.new.self) (work_of c.with_field.new.self) (work_of c.set.new.self) (work_of c.take.new.self) c.args.local.0 c.in_ok-label.label c.args.name.now
    c.in_ok-label.ensures c.in_ok-hold.ensures c.in_ok-with_field.ensures c.in_ok-set.ensures c.take.ensures
    ∙ field_is c.args.facts.now rules read c.args.local.0 c.args.name.now (work_of c.args.state.now) c.loose.result c.loose.ensures c.if-loose.false
