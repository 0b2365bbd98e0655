use Rattle.std.proofs.Common.{[], ◌∷◌, ap, sym, ◌∙◌}
use Rattle.type_arena.specs.Term.{Term}
use Rattle.type_normal.specs.Field.{with_row_field}
use Rattle.type_normal.specs.HeapFree.{widen_at}
use Rattle.local_types.specs.Entries.{type_of}
use Rattle.rule_state.specs.Work.{work_of}
use Rattle.local_types.proofs.GrowFacts.{map_stands, entry_stays}
use Rattle.rule_state.proofs.SoundFacts.{one_given, two_given, got_stands, same_at_hand, stands_made, then_same, then_other, grown_twice}
use Rattle.rule_state.proofs.WorkFacts.{work_valued}
use Rattle.rule_state.proofs.TableFacts.{known_then, known_twice}
use Rattle.rule_state.proofs.state.RuleState.with_field.Goals as goal

pub invariant_of-self : goal.invariant_of-self
invariant_of-self c = record { at_home = c.args.self.now.at_home ∙ sym c.widen_at.ensures.grows.home; known = known_then c.args.self.now c.widen_at.new.self _ c.widen_at.ensures.grows; sound = same_at_hand c.args.self.now c.widen_at.new.self (c.args.self.now.value ∷ []) (one_given _ _ c.args.self.now.value c.args.self.now.sound.value_stands) c.widen_at.ensures.grows }

pub get-tables-requires : goal.get-tables-requires
get-tables-requires c = map_stands c.args.self.now.types c.widen_at.new.self (c.args.self.now.value ∷ []) c.widen_at.ensures.grows c.args.self.now.point.map c.args.self.now.sound.point_stands

pub invariant_of-self-in-Break-branch-2 : goal.invariant_of-self-in-Break-branch-2
invariant_of-self-in-Break-branch-2 c =
    let state = c.args.self.now in
    let given = one_given state.types state.outside.items state.value state.sound.value_stands in
    let value = stands_made state.types c.widen_at.new.self state.outside.items (state.value ∷ []) c.in_ok-value.value given c.widen_at.ensures.grows c.in_ok-value.ensures.there c.in_ok-value.ensures.made in
    let tables = got_stands c.widen_at.new.self state.outside.items c.get-tables.result c.get-tables.ensures.there c.get-tables.ensures.made in
    let both = two_given c.widen_at.new.self state.outside.items c.in_ok-value.value c.get-tables.result value tables in
    record {
      at_home = state.at_home ∙ (sym c.widen_at.ensures.grows.home ∙ sym c.with_row_field.ensures.grows.home);
      known = known_twice state c.widen_at.new.self c.with_row_field.new.self _ _ c.widen_at.ensures.grows c.with_row_field.ensures.grows;
      sound = then_same state c.widen_at.new.self c.with_row_field.new.self (state.value ∷ []) (c.in_ok-value.value ∷ c.get-tables.result ∷ []) given c.widen_at.ensures.grows both c.with_row_field.ensures.grows;
    }

pub invariant_of-self-2 : goal.invariant_of-self-2
invariant_of-self-2 c =
    let state = c.args.self.now in
    let given = one_given state.types state.outside.items state.value state.sound.value_stands in
    let value = stands_made state.types c.widen_at.new.self state.outside.items (state.value ∷ []) c.in_ok-value.value given c.widen_at.ensures.grows c.in_ok-value.ensures.there c.in_ok-value.ensures.made in
    let tables = got_stands c.widen_at.new.self state.outside.items c.get-tables.result c.get-tables.ensures.there c.get-tables.ensures.made in
    let both = two_given c.widen_at.new.self state.outside.items c.in_ok-value.value c.get-tables.result value tables in
    record {
      at_home = state.at_home ∙ (sym c.widen_at.ensures.grows.home ∙ sym c.with_row_field.ensures.grows.home);
      known = known_twice state c.widen_at.new.self c.with_row_field.new.self _ _ c.widen_at.ensures.grows c.with_row_field.ensures.grows;
      sound = then_other state c.widen_at.new.self c.with_row_field.new.self (state.value ∷ []) (c.in_ok-value.value ∷ c.get-tables.result ∷ []) c.in_ok-at.at given c.widen_at.ensures.grows both c.with_row_field.ensures.grows c.in_ok-at.ensures.there c.in_ok-at.ensures.made;
    }

pub returns : goal.returns
unfolding work_of
returns c =
    let state = c.args.self.now in
    let given = one_given state.types state.outside.items state.value state.sound.value_stands in
    let value = stands_made state.types c.widen_at.new.self state.outside.items (state.value ∷ []) c.in_ok-value.value given c.widen_at.ensures.grows c.in_ok-value.ensures.there c.in_ok-value.ensures.made in
    let tables = got_stands c.widen_at.new.self state.outside.items c.get-tables.result c.get-tables.ensures.there c.get-tables.ensures.made in
    let both = two_given c.widen_at.new.self state.outside.items c.in_ok-value.value c.get-tables.result value tables in
    work_valued state c.with_row_field.new.self state.outside.items c.in_ok-at.at _
    (grown_twice state.types c.widen_at.new.self c.with_row_field.new.self state.outside.items (state.value ∷ []) (c.in_ok-value.value ∷ c.get-tables.result ∷ []) given c.widen_at.ensures.grows both c.with_row_field.ensures.grows)
    (c.in_ok-at.ensures.term
    ∙ (ap (λ (type : Term). with_row_field c.args.name.now type (type_of c.widen_at.new.self c.get-tables.result)) c.in_ok-value.ensures.term
    ∙ ap (with_row_field c.args.name.now (widen_at c.args.name.now (type_of state.types state.value)))
    (c.get-tables.ensures.entry ∙ entry_stays state.types c.widen_at.new.self (state.value ∷ []) c.widen_at.ensures.grows state.point.map state.sound.point_stands c.args.local.0)))
