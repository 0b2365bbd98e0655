use Rattle.std.proofs.Common.{[], ap, ◌∙◌}
use Rattle.luau_tree.specs.declared.names.UnOp.{UnOp}
use Rattle.luau_tree.specs.declared.tree.ExprKind.TheVariants as an_expr
use Rattle.type_normal.specs.Growing.{given_refs}
use Rattle.type_ops.proofs.GrowFacts.{adds_nothing}
use Rattle.guards.proofs.FormFacts.{name_means, paren_means, not_means, unary_means, together_means, compared_means, other_means}
use Rattle.guards.proofs.MeansFacts.{if_ok, nothing_own, unknown_later, guard_own_later, means_later}
use Rattle.guards.proofs.OwnFacts.{adds_then}
use Rattle.guards.proofs.guarding.+by_form.Goals as goal

pub returns-in_err-second-in-Some-clause-adds : goal.returns-in_err-second-in-Some-clause-adds
returns-in_err-second-in-Some-clause-adds t c =
    adds_then c.args.arena.now c.by_form-in-Some.new.arena c.by_form-in-Some-2.new.arena [] [] c.by_form-in-Some.ensures.adds c.by_form-in-Some-2.ensures.adds

pub together-requires-clause-first : goal.together-requires-clause-first
together-requires-clause-first t c =
    guard_own_later c.by_form-in-Some.new.arena c.by_form-in-Some-2.new.arena c.in_ok-first-in-Some.first c.by_form-in-Some-2.ensures.adds c.in_ok-first-in-Some.ensures.own

pub returns-in-Name-clause-means : goal.returns-in-Name-clause-means
returns-in-Name-clause-means t c =
    if_ok _ _ c.by_name.result
    (λ g m reading reads. name_means c.by_name.new.arena g c.args.cond.now c.in-Name.field-0 c.in-Name.is reading _ (c.firm_named-named.ensures reading reads) m)
    c.by_name.ensures.means

pub returns-in-Name-clause-nothing : goal.returns-in-Name-clause-nothing
returns-in-Name-clause-nothing t c = unknown_later c.args.arena.now c.by_name.new.arena c.args.unknown c.by_name.ensures.adds c.requires.nothing

pub returns-in-Paren-clause-means : goal.returns-in-Paren-clause-means
returns-in-Paren-clause-means t c =
    if_ok _ _ c.by_form.result
    (λ g m reading reads. paren_means c.by_form.new.arena g c.args.cond.now c.in-Paren.inner c.get.result.now c.in-Paren.is c.get.ensures reading (m reading reads))
    c.by_form.ensures.means

pub returns-in_ok-guard-in-Not-clause-means : goal.returns-in_ok-guard-in-Not-clause-means
returns-in_ok-guard-in-Not-clause-means t c reading reads =
    not_means c.by_form-in-Not.new.arena c.in_ok-guard-in-Not.guard c.turned.result c.args.cond.now c.in-Unary.e c.get-in-Not.result.now
    (c.in-Unary.is ∙ ap (λ (op : UnOp). an_expr.Unary op c.in-Unary.e) c.in-Not.is) c.get-in-Not.ensures reading c.turned.ensures.when_true c.turned.ensures.when_false
    (c.in_ok-guard-in-Not.ensures.means reading reads)

pub returns-in_default-op : goal.returns-in_default-op
returns-in_default-op t c = record {
  means = λ reading reads. unary_means c.args.arena.now c.nothing.result c.args.cond.now c.in-Unary.e c.in-Unary.op c.in-Unary.is c.in_default-op.not-Not c.nothing.ensures.when_true c.nothing.ensures.when_false reading;
  own = nothing_own c.args.arena.now c.nothing.result c.nothing.ensures.when_true c.nothing.ensures.when_false;
  nothing = c.requires.nothing;
  adds = adds_nothing c.args.arena.now (given_refs []);
}

pub returns-in_ok-second-in-Some-clause-means : goal.returns-in_ok-second-in-Some-clause-means
returns-in_ok-second-in-Some-clause-means t c =
    if_ok _ _ c.together.result
    (λ g m reading reads.
    together_means c.by_form-in-Some-2.new.arena c.together.new.arena c.in_ok-first-in-Some.first c.in_ok-second-in-Some.second g c.args.cond.now c.in-Binary.left c.in-Binary.right
    c.get-in-Some.result.now c.get-in-Some-2.result.now c.in-Binary.op c.in-Some.joins c.in-Binary.is c.get-in-Some.ensures c.get-in-Some-2.ensures c.in-Some.ensures reading
    (means_later c.by_form-in-Some.new.arena c.by_form-in-Some-2.new.arena c.in_ok-first-in-Some.first _ _ c.by_form-in-Some-2.ensures.adds c.in_ok-first-in-Some.ensures.own
    (c.in_ok-first-in-Some.ensures.means reading reads))
    (c.in_ok-second-in-Some.ensures.means reading reads) m)
    c.together.ensures.means

pub returns-in_ok-second-in-Some-clause-nothing : goal.returns-in_ok-second-in-Some-clause-nothing
returns-in_ok-second-in-Some-clause-nothing t c =
    unknown_later c.by_form-in-Some-2.new.arena c.together.new.arena c.args.unknown c.together.ensures.adds c.by_form-in-Some-2.ensures.nothing

pub returns-in_ok-second-in-Some-clause-adds : goal.returns-in_ok-second-in-Some-clause-adds
returns-in_ok-second-in-Some-clause-adds t c =
    adds_then c.args.arena.now c.by_form-in-Some.new.arena c.together.new.arena [] [] c.by_form-in-Some.ensures.adds
    (adds_then c.by_form-in-Some.new.arena c.by_form-in-Some-2.new.arena c.together.new.arena [] [] c.by_form-in-Some-2.ensures.adds c.together.ensures.adds)

pub returns-in-None-clause-means : goal.returns-in-None-clause-means
returns-in-None-clause-means t c =
    if_ok _ _ c.by_comparison.result
    (λ g m reading reads.
    compared_means c.by_comparison.new.arena g c.args.cond.now c.in-Binary.left c.in-Binary.right c.get-in-None.result.now c.get-in-None-2.result.now c.in-Binary.op c.in-Binary.is c.get-in-None.ensures
    c.get-in-None-2.ensures c.in-None.ensures reading (m reading reads))
    c.by_comparison.ensures.means

pub returns-in-None-clause-nothing : goal.returns-in-None-clause-nothing
returns-in-None-clause-nothing t c = unknown_later c.args.arena.now c.by_comparison.new.arena c.args.unknown c.by_comparison.ensures.adds c.requires.nothing

pub returns-in_default : goal.returns-in_default
returns-in_default t c = record {
  means = λ reading reads.
      other_means c.args.arena.now c.nothing-in_default.result c.args.cond.now c.in_default.not-Name c.in_default.not-Paren c.in_default.not-Unary c.in_default.not-Binary c.nothing-in_default.ensures.when_true
      c.nothing-in_default.ensures.when_false reading;
  own = nothing_own c.args.arena.now c.nothing-in_default.result c.nothing-in_default.ensures.when_true c.nothing-in_default.ensures.when_false;
  nothing = c.requires.nothing;
  adds = adds_nothing c.args.arena.now (given_refs []);
}
