use Rattle.std.proofs.lemmas.Result.{on_ok_weaker}
use Rattle.rule_state.specs.Work.{work_of}
use Rattle.type_infer.proofs.Summing.{summary_steps}
use Rattle.type_infer.proofs.walk.summarize.Goals as goal

pub returns : goal.returns
returns c = on_ok_weaker c.cut_up.result (λ made. summary_steps (work_of c.args.state.now) (work_of c.hold.new.self) (work_of c.plain.new.self) (work_of c.live_only.new.self) (work_of c.union_held.new.self) (work_of c.widen.new.self) (work_of c.cut_up.new.self) c.in_ok-hold.ensures c.in_ok-plain.ensures c.in_ok-live_only.ensures c.in_ok-union_held.ensures c.in_ok-widen.ensures made) c.cut_up.ensures
