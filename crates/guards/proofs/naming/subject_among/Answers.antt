use Rattle.luau_tree.specs.View.{view_expr}
use Rattle.guards.proofs.TreeFacts.{subject_of_more}
use Rattle.guards.proofs.naming.subject_among.Goals as goal

pub returns-in_default-2 : goal.returns-in_default-2
returns-in_default-2 c rules reads = subject_of_more rules (view_expr c.args.callee.now) c.args.args.now c.in_default.len_at_least
