use Rattle.context_types.proofs.DecideFacts.{choice_made}
use Rattle.context_types.proofs.types.ContextTypes.decide_choice.Goals as goal

pub returns-clause-context : goal.returns-clause-context
returns-clause-context c rules cond says =
    choice_made c.args.self.now c.branch-self.new.self c.pass.new.self c.join.new.self rules cond c.args.has_effects c.args.cond_fails c.args.value c.args.rest c.in_ok-decided.decided c.in_ok-passed.passed c.in_ok-made.made
    c.branch-self.ensures.grows c.pass.ensures.grows c.requires.first (c.in_ok-decided.ensures.context rules cond says) c.in_ok-passed.ensures.context c.in_ok-made.ensures.context
