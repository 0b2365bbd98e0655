use Rattle.std.proofs.Common.{ℕ, sym, ap, ◌∙◌}
use Rattle.std.specs.Prelude.{Option}
use Rattle.luau_tree.specs.View.{view_expr, view_expr_kind}
use Rattle.report_rules.specs.Guard.{Says, kind_subject, local_says, kind_says, or_else}
use Rattle.guards.proofs.TreeFacts.{side_layer}
use Rattle.guards.proofs.tests_of_locals.side_says.Goals as goal

pub returns-in-Some : goal.returns-in-Some
returns-in-Some c rules reads =
    let subject = view_expr c.args.subject.now in
    let kind = view_expr_kind c.args.e.now.kind in
    ap (λ (o : Option Says). or_else o (kind_says (kind_subject rules subject) kind)) (c.in-Some.ensures ∙ ap (λ (n : Option ℕ). local_says n kind) (c.firm_local.ensures rules reads))
    ∙ sym (side_layer rules subject c.args.e.now)

pub returns-in-None : goal.returns-in-None
returns-in-None c rules reads =
    let subject = view_expr c.args.subject.now in
    let kind = view_expr_kind c.args.e.now.kind in
    c.kind_says.ensures
    ∙ ap (λ (n : Option ℕ). kind_says n kind) (c.kind_subject.ensures rules reads)
    ∙ ap (λ (o : Option Says). or_else o (kind_says (kind_subject rules subject) kind)) (c.in-None.ensures ∙ ap (λ (n : Option ℕ). local_says n kind) (c.firm_local.ensures rules reads))
    ∙ sym (side_layer rules subject c.args.e.now)
