use Rattle.std.proofs.Common.{◌∙◌}
use Rattle.luau_tree.specs.View.{view_expr}
use Rattle.report_rules.specs.Context.{branch}
use Rattle.context_types.proofs.GrowFacts.{context_on, context_stays}
use Rattle.context_types.proofs.types.ContextTypes.decided.Goals as goal

pub branch-self-requires-clause-left : goal.branch-self-requires-clause-left
branch-self-requires-clause-left c = context_on {s = c.args.self.now} {t = c.guard.new.self} {context = c.args.when_true} c.guard.ensures.grows c.requires.left

pub branch-self-requires-clause-right : goal.branch-self-requires-clause-right
branch-self-requires-clause-right c = context_on {s = c.args.self.now} {t = c.guard.new.self} {context = c.args.when_false} c.guard.ensures.grows c.requires.right

pub returns-clause-context : goal.returns-clause-context
returns-clause-context c rules reads =
    let a = context_stays {s = c.args.self.now} {t = c.guard.new.self} {context = c.args.when_true} c.guard.ensures.grows c.requires.left in
    let b = context_stays {s = c.args.self.now} {t = c.guard.new.self} {context = c.args.when_false} c.guard.ensures.grows c.requires.right in
    c.in_ok-made.ensures.context rules (view_expr c.args.cond.now) (c.in_ok-guard.ensures.says rules reads) ∙ (λ i. branch rules (view_expr c.args.cond.now) (a i) (b i))
