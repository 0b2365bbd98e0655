use Rattle.std.proofs.lemmas.Result.{on_ok_weaker}
use Rattle.rule_state.specs.Work.{work_of}
use Rattle.type_infer.proofs.Reading.{write_steps}
use Rattle.module_facts.specs.Targets.{target_meant}
use Rattle.type_infer.proofs.writes.write.Goals as goal

pub returns : goal.returns
returns c = on_ok_weaker c.field.result (λ made rules read. write_steps rules (target_meant c.args.target) (work_of c.args.state.now) (work_of c.store.new.state) (work_of c.disturb.new.state) (work_of c.field.new.state) (c.in_ok-store.ensures rules read) c.in_ok-disturb.ensures (made rules read)) c.field.ensures
