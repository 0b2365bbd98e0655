use Rattle.std.proofs.Common.{[], List, ap, sym, ◌∙◌}
use Rattle.type_arena.specs.Term.{Term}
use Rattle.local_types.specs.Entries.{type_of}
use Rattle.rule_work.specs.Moves.{made_from}
use Rattle.rule_state.specs.Work.{work_of}
use Rattle.type_arena.specs.Arena.{store_of}
use Rattle.type_arena.specs.Meaning.{term_of}
use Rattle.type_arena.specs.declared.arena.Arena.{Arena}
use Rattle.std.specs.Prelude.{◌&&◌}
use Rattle.subtype_check.specs.Below.{below}
use Rattle.report_rules.specs.Forward.{not_other, binary_type}
use Rattle.rule_work.specs.Results.{result_term}
use Rattle.rule_state.proofs.OtherFacts.{binary_is}
use Rattle.rule_state.proofs.SoundFacts.{none_given}
use Rattle.rule_state.proofs.SoundFacts.{popped_same, popped_other}
use Rattle.rule_state.proofs.StackFacts.{popped_nothing}
use Rattle.rule_state.proofs.WorkFacts.{work_made}
use Rattle.rule_state.proofs.TableFacts.{known_then}
use Rattle.rule_state.proofs.state.RuleState.binary.Goals as goal

pub invariant_of-self : goal.invariant_of-self
invariant_of-self c = record {
  at_home = c.args.self.now.at_home ∙ sym c.plain.ensures.grows.home;
  known = known_then c.args.self.now c.plain.new.self _ c.plain.ensures.grows;
  sound = popped_same c.args.self.now c.plain.new.self [] c.pop.new.self.items c.pop.result c.in-Some.left c.pop.ensures.items c.in-Some.is
      (none_given _ _) c.plain.ensures.grows;
}

pub invariant_of-self-in-Some : goal.invariant_of-self-in-Some
invariant_of-self-in-Some c = record {
  at_home = c.args.self.now.at_home ∙ sym c.plain.ensures.grows.home;
  known = known_then c.args.self.now c.plain.new.self _ c.plain.ensures.grows;
  sound = popped_other c.args.self.now c.plain.new.self [] c.pop.new.self.items c.pop.result c.in-Some.left c.in_ok-at.at c.pop.ensures.items c.in-Some.is
      (none_given _ _) c.plain.ensures.grows c.in_ok-at.ensures.there c.in_ok-at.ensures.made;
}

pub returns-in_ok-at : goal.returns-in_ok-at
unfolding work_of
returns-in_ok-at c =
    let state = c.args.self.now in
    let first = c.is_known.ensures ∙ ap (λ (arena : Arena). below (term_of (store_of arena) c.in-Some.left) not_other) c.arena-arena.ensures in
    let second = c.is_known-in-Some.ensures ∙ ap (λ (arena : Arena). below (term_of (store_of arena) state.value) not_other) c.arena-arena.ensures in
    let both = ap (λ b. b && c.is_known-in-Some.result) first ∙ ap (λ b. below (type_of state.types c.in-Some.left) not_other && b) second in
    work_made c.args.self.now c.plain.new.self [] c.pop.new.self.items c.pop.result c.in-Some.left c.in_ok-at.at (binary_type c.args.op) c.pop.ensures.items c.in-Some.is c.plain.ensures.grows
    (c.in_ok-at.ensures.term ∙ (c.result_of.ensures ∙ (ap (result_term c.args.op) both ∙ binary_is c.args.op (type_of c.args.self.now.types c.in-Some.left) (type_of c.args.self.now.types c.args.self.now.value))))

pub returns-in_default : goal.returns-in_default
unfolding work_of
returns-in_default c =
    let none = popped_nothing (type_of c.args.self.now.types) _ c.args.self.now.held.items c.pop.new.self.items c.pop.result _ _ c.pop.ensures.items c.pop.ensures.cases c.args.self.now.held.ok.0 c.in_default.is in
    ap (λ (held : List Term). record (work_of c.args.self.now) { held = held }) none.1
    ∙ sym (ap (λ (held : List Term). made_from (binary_type c.args.op) held (record (work_of c.args.self.now) { held = held })) none.0)
