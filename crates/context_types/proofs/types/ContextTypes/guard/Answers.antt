use Rattle.std.proofs.Common.{[], ◌∙◌, true, false}
use Rattle.luau_tree.specs.View.{view_expr}
use Rattle.type_arena.specs.Arena.{store_of}
use Rattle.type_arena.specs.Meaning.{term_of}
use Rattle.type_normal.specs.Growing.{given_refs}
use Rattle.error_context.specs.Entries.{refs_in}
use Rattle.guards.specs.Guards.{guard_refs}
use Rattle.context_types.specs.Types.{outside_of}
use Rattle.context_types.proofs.MadeFacts.{call_adds, none_stand, kept_after}
use Rattle.context_types.proofs.ContextFacts.{same_said, is_guard, own_there, own_made}
use Rattle.context_types.proofs.types.ContextTypes.guard.Goals as goal

pub invariant_of-self : goal.invariant_of-self
invariant_of-self c =
    let kept = kept_after c.args.self.now c.guard_of.new.arena [] [] (none_stand c.args.self.now) (call_adds c.args.self.now.arena c.guard_of.new.arena (given_refs []) guard_refs c.guard_of.result c.guard_of.ensures.adds c.guard_of.ensures.err) in
    record { confined = kept.0; right = kept.1 }

pub returns-clause-says : goal.returns-clause-says
returns-clause-says c rules reads = record {
  truth = λ local. same_said (term_of (store_of c.guard_of.new.arena)) c.in_ok-guard.guard.when_true local ∙ c.in_ok-guard.ensures.when_true rules reads local;
  falsity = λ local. same_said (term_of (store_of c.guard_of.new.arena)) c.in_ok-guard.guard.when_false local ∙ c.in_ok-guard.ensures.when_false rules reads local;
}

pub returns-clause-stands : goal.returns-clause-stands
returns-clause-stands c = record {
  truth = is_guard c.guard_of.new.arena c.in_ok-guard.guard.when_true c.args.scoped.now.uses c.args.scoped.now.locals (view_expr c.args.cond.now) true c.in_ok-guard.ensures.true_ascends
      (own_there c.guard_of.new.arena (refs_in c.in_ok-guard.guard.when_true) c.in_ok-guard.ensures.own.when_true) c.in_ok-guard.ensures.when_true;
  falsity = is_guard c.guard_of.new.arena c.in_ok-guard.guard.when_false c.args.scoped.now.uses c.args.scoped.now.locals (view_expr c.args.cond.now) false c.in_ok-guard.ensures.false_ascends
      (own_there c.guard_of.new.arena (refs_in c.in_ok-guard.guard.when_false) c.in_ok-guard.ensures.own.when_false) c.in_ok-guard.ensures.when_false;
  true_made = own_made c.guard_of.new.arena (outside_of c.args.self.now) (refs_in c.in_ok-guard.guard.when_true) c.in_ok-guard.ensures.own.when_true;
  false_made = own_made c.guard_of.new.arena (outside_of c.args.self.now) (refs_in c.in_ok-guard.guard.when_false) c.in_ok-guard.ensures.own.when_false;
}
