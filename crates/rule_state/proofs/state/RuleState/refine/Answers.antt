use Rattle.std.proofs.Common.{[], List, sym, ◌∙◌, subst, true, false}
use Rattle.std.specs.Prelude.{All}
use Rattle.luau_tree.specs.View.{view_expr}
use Rattle.luau_tree.specs.declared.names.LocalId.{LocalId}
use Rattle.type_arena.specs.declared.node.TypeRef.{TypeRef}
use Rattle.local_types.specs.Locals.{refs_said}
use Rattle.rule_state.specs.Sound.{Stands}
use Rattle.rule_state.specs.Work.{work_of}
use Rattle.rule_state.proofs.RefinedFacts.{on_ok, all_made, refined_then}
use Rattle.rule_state.proofs.SoundFacts.{none_given, same_at_hand}
use Rattle.rule_state.proofs.TableFacts.{known_then}
use Rattle.rule_state.proofs.WorkFacts.{work_same}
use Rattle.rule_state.proofs.state.RuleState.refine.Goals as goal

pub invariant_of-self : goal.invariant_of-self
invariant_of-self c = record { at_home = c.args.self.now.at_home ∙ sym c.guard_in.ensures.grows.home; known = known_then c.args.self.now c.guard_in.new.types _ c.guard_in.ensures.grows; sound = same_at_hand c.args.self.now c.guard_in.new.types [] (none_given _ _) c.guard_in.ensures.grows }

pub refine_by-requires : goal.refine_by-requires
refine_by-requires c =
    let state = c.args.self.now in
    subst (λ (said : List (LocalId × TypeRef)). All (Stands c.guard_in.new.types state.outside.items) (refs_said said)) (sym c.as_slice.ensures)
    (all_made state.types c.guard_in.new.types state.outside.items (refs_said c.in_ok-guard.guard.when_true) c.guard_in.ensures.grows c.in_ok-guard.ensures.true_there c.in_ok-guard.ensures.true_made)

pub returns-then-truth : goal.returns-then-truth
unfolding work_of
returns-then-truth c =
    let state = c.args.self.now in
    on_ok c.refine_by.result
    (λ work rules reads. refined_then c.guard_in.new.types (work_of state) _ (work_of c.refine_by.new.self) c.in_ok-guard.guard.when_true c.as_slice.result.now rules (view_expr c.args.cond.now) c.args.truth true c.as_slice.ensures
    (work_same state c.guard_in.new.types [] c.guard_in.ensures.grows) (c.in_ok-guard.ensures.when_true rules reads) c.if-truth.true work)
    c.refine_by.ensures

pub refine_by-requires-else-truth : goal.refine_by-requires-else-truth
refine_by-requires-else-truth c =
    let state = c.args.self.now in
    subst (λ (said : List (LocalId × TypeRef)). All (Stands c.guard_in.new.types state.outside.items) (refs_said said)) (sym c.as_slice-else-truth.ensures)
    (all_made state.types c.guard_in.new.types state.outside.items (refs_said c.in_ok-guard.guard.when_false) c.guard_in.ensures.grows c.in_ok-guard.ensures.false_there c.in_ok-guard.ensures.false_made)

pub returns : goal.returns
unfolding work_of
returns c =
    let state = c.args.self.now in
    on_ok c.refine_by-else-truth.result
    (λ work rules reads. refined_then c.guard_in.new.types (work_of state) _ (work_of c.refine_by-else-truth.new.self) c.in_ok-guard.guard.when_false c.as_slice-else-truth.result.now rules (view_expr c.args.cond.now) c.args.truth false c.as_slice-else-truth.ensures
    (work_same state c.guard_in.new.types [] c.guard_in.ensures.grows) (c.in_ok-guard.ensures.when_false rules reads) c.if-truth.false work)
    c.refine_by-else-truth.ensures
