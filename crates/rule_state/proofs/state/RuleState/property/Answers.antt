use Rattle.std.proofs.Common.{◌≡◌, [], ◌∷◌, ap, sym, ◌∙◌, subst}
use Rattle.std.specs.Prelude.{Bool, true, false, OnOk, if◌then◌else◌}
use Rattle.type_arena.specs.Term.{Term}
use Rattle.local_types.specs.Entries.{type_of}
use Rattle.type_arena.specs.Arena.{store_of}
use Rattle.type_arena.specs.Meaning.{term_of}
use Rattle.type_arena.specs.declared.arena.Arena.{Arena}
use Rattle.type_normal.specs.Field.{field_type}
use Rattle.type_normal.specs.Kinds.{unknown}
use Rattle.report_rules.specs.Forward.{has_strings_or_other, property}
use Rattle.rule_work.specs.Moves.{valued}
use Rattle.rule_state.specs.Work.{work_of}
use Rattle.rule_state.proofs.SoundFacts.{one_given, same_at_hand, other_at_hand}
use Rattle.rule_state.proofs.WorkFacts.{work_valued}
use Rattle.rule_state.proofs.TableFacts.{known_then}
use Rattle.rule_state.proofs.state.RuleState.property.Goals as goal

pub returns-then-has_strings_or_other : goal.returns-then-has_strings_or_other
unfolding work_of
returns-then-has_strings_or_other c =
    let state = c.args.self.now in
    let some : has_strings_or_other (type_of state.types state.value) ≡ true
    = sym (ap (λ (arena : Arena). has_strings_or_other (term_of (store_of arena) state.value)) c.arena.ensures) ∙ (sym c.has_strings_or_other.ensures ∙ c.if-has_strings_or_other.true) in
    subst (λ (type : Term). OnOk c.plain.result (work_of c.plain.new.self ≡ valued type (work_of state)))
    (sym (ap (λ (b : Bool). if b then unknown else field_type c.args.name.now (type_of state.types state.value)) some)) c.plain.ensures

pub invariant_of-self : goal.invariant_of-self
invariant_of-self c = record { at_home = c.args.self.now.at_home ∙ sym c.field.ensures.grows.home; known = known_then c.args.self.now c.field.new.self _ c.field.ensures.grows; sound = same_at_hand c.args.self.now c.field.new.self (c.args.self.now.value ∷ []) (one_given _ _ c.args.self.now.value c.args.self.now.sound.value_stands) c.field.ensures.grows }

pub invariant_of-self-2 : goal.invariant_of-self-2
invariant_of-self-2 c = record { at_home = c.args.self.now.at_home ∙ sym c.field.ensures.grows.home; known = known_then c.args.self.now c.field.new.self _ c.field.ensures.grows; sound = other_at_hand c.args.self.now c.field.new.self (c.args.self.now.value ∷ []) c.in_ok-at.at (one_given _ _ c.args.self.now.value c.args.self.now.sound.value_stands) c.field.ensures.grows c.in_ok-at.ensures.there c.in_ok-at.ensures.made }

pub returns : goal.returns
unfolding work_of
returns c =
    let state = c.args.self.now in
    let none : has_strings_or_other (type_of state.types state.value) ≡ false
    = sym (ap (λ (arena : Arena). has_strings_or_other (term_of (store_of arena) state.value)) c.arena.ensures) ∙ (sym c.has_strings_or_other.ensures ∙ c.if-has_strings_or_other.false) in
    work_valued state c.field.new.self (state.value ∷ []) c.in_ok-at.at (property c.args.name.now (type_of state.types state.value)) c.field.ensures.grows
    (c.in_ok-at.ensures.term ∙ sym (ap (λ (b : Bool). if b then unknown else field_type c.args.name.now (type_of state.types state.value)) none))
