use Rattle.std.proofs.Common.{sym, ap, ◌∙◌}
use Rattle.luau_tree.specs.View.{view_expr, view_exprs}
use Rattle.guards.specs.Says.{subject_in}
use Rattle.guards.proofs.TreeFacts.{subject_of_call, subject_of_other}
use Rattle.guards.proofs.naming.kind_subject.Goals as goal

pub returns-in-Call : goal.returns-in-Call
returns-in-Call c rules reads =
    c.subject_among.ensures rules reads
    ∙ ap (λ args. subject_in rules (view_expr c.get.result.now) (view_exprs args)) c.as_slice.ensures
    ∙ ap (λ callee. subject_in rules (view_expr callee) (view_exprs c.in-Call.args)) c.get.ensures
    ∙ sym (subject_of_call c.args.e.now c.in-Call.callee c.in-Call.args c.in-Call.is rules)

pub returns-in_default : goal.returns-in_default
returns-in_default c rules reads = sym (subject_of_other c.args.e.now c.in_default.not-Call rules)
