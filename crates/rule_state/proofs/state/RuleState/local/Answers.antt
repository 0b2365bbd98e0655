use Rattle.std.proofs.Common.{ap, sym, ◌∙◌}
use Rattle.std.specs.Prelude.{Bool}
use Rattle.type_arena.specs.Term.{Term}
use Rattle.rule_work.specs.Moves.{valued, known_of}
use Rattle.rule_state.specs.Work.{map_of, work_of}
use Rattle.rule_state.proofs.state.RuleState.local.Goals as goal

pub returns-else-is_loose : goal.returns-else-is_loose
unfolding work_of
returns-else-is_loose c =
    ap (λ (type : Term). valued type (work_of c.args.self.now)) c.get-self.ensures.entry
    ∙ ap (λ (b : Bool). valued (known_of b c.args.local.0 (map_of c.args.self.now.types c.args.self.now.point)) (work_of c.args.self.now)) (sym c.if-is_loose.false)
