use Rattle.context_types.proofs.DecideFacts.{or_made}
use Rattle.context_types.proofs.types.ContextTypes.decide_or.Goals as goal

pub returns-clause-context : goal.returns-clause-context
returns-clause-context c rules cond says =
    or_made c.args.self.now c.pass.new.self c.branch-self.new.self c.join.new.self rules cond c.args.has_effects c.args.guard.now c.args.never_left c.args.right c.args.left c.in_ok-passed.passed c.in_ok-decided.decided c.in_ok-made.made
    c.pass.ensures.grows c.branch-self.ensures.grows c.requires.guard c.requires.first c.requires.left says c.in_ok-passed.ensures.context c.in_ok-decided.ensures.context c.in_ok-made.ensures.context
