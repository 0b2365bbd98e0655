use Rattle.std.proofs.Common.{[], true, false}
use Rattle.luau_tree.specs.View.{view_expr}
use Rattle.type_arena.specs.Arena.{store_of}
use Rattle.type_arena.specs.Meaning.{term_of}
use Rattle.guards.proofs.GuardFacts.{guard_says, guard_has, guard_firm, guard_ascends, guard_own, own_there, own_all_clean}
use Rattle.guards.proofs.MeansFacts.{on_err}
use Rattle.guards.proofs.OwnFacts.{adds_then, answers_own}
use Rattle.guards.proofs.guarding.guard_of.Goals as goal

pub by_form-requires-clause-nothing : goal.by_form-requires-clause-nothing
by_form-requires-clause-nothing c = record { own = c.in_ok-unknown.ensures.own; means = c.in_ok-unknown.ensures.term }

pub returns-in_err-guard-clause-err : goal.returns-in_err-guard-clause-err
returns-in_err-guard-clause-err c =
    on_err c.from_residual-in_err-guard.result
    (adds_then c.args.arena.now c.plain.new.arena c.by_form.new.arena [] [] c.plain.ensures.adds c.by_form.ensures.adds)

pub returns-clause-when_true : goal.returns-clause-when_true
returns-clause-when_true c rules reads =
    guard_says (term_of (store_of c.by_form.new.arena)) c.in_ok-guard.guard.when_true rules (view_expr c.args.cond.now) true (c.in_ok-guard.ensures.means rules reads).when_true

pub returns-clause-when_false : goal.returns-clause-when_false
returns-clause-when_false c rules reads =
    guard_says (term_of (store_of c.by_form.new.arena)) c.in_ok-guard.guard.when_false rules (view_expr c.args.cond.now) false (c.in_ok-guard.ensures.means rules reads).when_false

pub returns-clause-true_locals : goal.returns-clause-true_locals
returns-clause-true_locals c rules reads =
    guard_has (term_of (store_of c.by_form.new.arena)) c.in_ok-guard.guard.when_true rules (view_expr c.args.cond.now) true (c.in_ok-guard.ensures.means rules reads).when_true

pub returns-clause-false_locals : goal.returns-clause-false_locals
returns-clause-false_locals c rules reads =
    guard_has (term_of (store_of c.by_form.new.arena)) c.in_ok-guard.guard.when_false rules (view_expr c.args.cond.now) false (c.in_ok-guard.ensures.means rules reads).when_false

pub returns-clause-firm : goal.returns-clause-firm
returns-clause-firm c rules reads =
    guard_firm (term_of (store_of c.by_form.new.arena)) c.in_ok-guard.guard.when_true rules (view_expr c.args.cond.now) true (c.in_ok-guard.ensures.means rules reads).when_true

pub returns-clause-true_ascends : goal.returns-clause-true_ascends
returns-clause-true_ascends c =
    guard_ascends c.args.scoped.now.uses c.args.scoped.now.locals (term_of (store_of c.by_form.new.arena)) c.in_ok-guard.guard.when_true (view_expr c.args.cond.now) true
    (λ rules reads. (c.in_ok-guard.ensures.means rules reads).when_true)

pub returns-clause-false_ascends : goal.returns-clause-false_ascends
returns-clause-false_ascends c =
    guard_ascends c.args.scoped.now.uses c.args.scoped.now.locals (term_of (store_of c.by_form.new.arena)) c.in_ok-guard.guard.when_false (view_expr c.args.cond.now) false
    (λ rules reads. (c.in_ok-guard.ensures.means rules reads).when_false)

pub returns-clause-there : goal.returns-clause-there
returns-clause-there c = own_there c.by_form.new.arena _ (guard_own c.by_form.new.arena c.in_ok-guard.guard c.in_ok-guard.ensures.own)

pub returns-clause-adds : goal.returns-clause-adds
returns-clause-adds c =
    answers_own c.args.arena.now c.by_form.new.arena _ (adds_then c.args.arena.now c.plain.new.arena c.by_form.new.arena [] [] c.plain.ensures.adds c.by_form.ensures.adds)
    (guard_own c.by_form.new.arena c.in_ok-guard.guard c.in_ok-guard.ensures.own)

pub returns-clause-clean : goal.returns-clause-clean
returns-clause-clean c =
    own_all_clean c.args.arena.now c.by_form.new.arena _ (adds_then c.args.arena.now c.plain.new.arena c.by_form.new.arena [] [] c.plain.ensures.adds c.by_form.ensures.adds).home
    (guard_own c.by_form.new.arena c.in_ok-guard.guard c.in_ok-guard.ensures.own)
