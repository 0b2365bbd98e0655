use Rattle.std.proofs.Common.{[], refl, true, false}
use Rattle.luau_tree.specs.View.{view_expr}
use Rattle.type_arena.specs.Arena.{store_of}
use Rattle.type_arena.specs.Meaning.{term_of}
use Rattle.type_normal.specs.Growing.{given_refs}
use Rattle.guards.specs.Guards.{guard_refs}
use Rattle.local_types.proofs.GrowFacts.{there_on, arena_grows}
use Rattle.rule_state.proofs.GuardedFacts.{refined_is, guard_keeps, all_own_made}
use Rattle.rule_state.proofs.guarding.guard_in.Goals as goal

pub invariant_of-types-clause-there : goal.invariant_of-types-clause-there
invariant_of-types-clause-there c =
    there_on _ _ c.args.types.now.nodes.items (guard_keeps c.args.types.now.arena c.guard_of.new.arena (given_refs []) c.guard_of.result c.guard_of.ensures.adds c.guard_of.ensures.err) c.args.types.now.there

pub returns-in_err-guard-clause-grows : goal.returns-in_err-guard-clause-grows
returns-in_err-guard-clause-grows c = arena_grows c.args.types.now _ [] [] refl c.in_err-guard.ensures.err

pub returns-clause-when_true : goal.returns-clause-when_true
returns-clause-when_true c rules reads known =
    refined_is (term_of (store_of c.guard_of.new.arena)) c.in_ok-guard.guard.when_true rules (view_expr c.args.cond.now) true (c.in_ok-guard.ensures.when_true rules reads) (c.in_ok-guard.ensures.true_locals rules reads) c.in_ok-guard.ensures.true_ascends known

pub returns-clause-when_false : goal.returns-clause-when_false
returns-clause-when_false c rules reads known =
    refined_is (term_of (store_of c.guard_of.new.arena)) c.in_ok-guard.guard.when_false rules (view_expr c.args.cond.now) false (c.in_ok-guard.ensures.when_false rules reads) (c.in_ok-guard.ensures.false_locals rules reads) c.in_ok-guard.ensures.false_ascends known

pub returns-clause-true_made : goal.returns-clause-true_made
returns-clause-true_made c = all_own_made c.args.types.now c.guard_of.new.arena c.in_ok-guard.guard.when_true c.in_ok-guard.ensures.adds.home c.in_ok-guard.ensures.own.when_true

pub returns-clause-false_made : goal.returns-clause-false_made
returns-clause-false_made c = all_own_made c.args.types.now c.guard_of.new.arena c.in_ok-guard.guard.when_false c.in_ok-guard.ensures.adds.home c.in_ok-guard.ensures.own.when_false

pub returns-clause-grows : goal.returns-clause-grows
returns-clause-grows c = arena_grows c.args.types.now _ [] (guard_refs c.in_ok-guard.guard) refl c.in_ok-guard.ensures.adds
