use Rattle.std.proofs.Common.{◌≡◌, Bool, ap, sym, subst, OnOk}
use Rattle.std.specs.Prelude.{if◌then◌else◌}
use Rattle.type_arena.specs.Term.{Term, never}
use Rattle.local_types.specs.Entries.{type_of}
use Rattle.rule_work.specs.Moves.{valued}
use Rattle.rule_state.specs.Work.{work_of}
use Rattle.rule_state.proofs.state.RuleState.live_only.Goals as goal

pub returns-then-self : goal.returns-then-self
unfolding work_of
returns-then-self c =
    subst (λ (type : Term). OnOk c.plain.result (work_of c.plain.new.self ≡ valued type (work_of c.args.self.now)))
    (sym (ap (λ (dead : Bool). if dead then never else type_of c.args.self.now.types c.args.self.now.value) c.if-self.true)) c.plain.ensures

pub returns : goal.returns
unfolding work_of
returns c = ap (λ (dead : Bool). valued (if dead then never else type_of c.args.self.now.types c.args.self.now.value) (work_of c.args.self.now)) (sym c.if-self.false)
