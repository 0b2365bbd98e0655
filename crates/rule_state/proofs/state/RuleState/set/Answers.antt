use Rattle.std.proofs.Common.{◌≡◌, [], ◌∷◌, ℕ, ap, sym, ◌∙◌}
use Rattle.std.specs.Prelude.{Bool, not, ◌==◌, ◌||◌, ◌&&◌, if◌then◌else◌}
use Rattle.type_arena.specs.Arena.{store_of}
use Rattle.type_arena.specs.Meaning.{term_of}
use Rattle.type_arena.specs.declared.arena.Arena.{Arena}
use Rattle.type_arena.specs.Term.{Term}
use Rattle.type_normal.specs.Cut.{cut_up}
use Rattle.type_normal.specs.Rows.{is_empty}
use Rattle.local_types.specs.Entries.{type_of, entry_of}
use Rattle.rule_work.specs.Moves.{set_as}
use Rattle.rule_state.specs.Work.{work_of}
use Rattle.local_types.proofs.GrowFacts.{map_stands, entry_stays}
use Rattle.rule_state.proofs.SoundFacts.{lists_in, ends_in, one_given, same_at_hand, stands_made, then_same, grown_twice, with_point}
use Rattle.rule_state.proofs.WorkFacts.{work_mapped}
use Rattle.rule_state.proofs.TableFacts.{known_then, known_twice}
use Rattle.rule_state.proofs.state.RuleState.set.Goals as goal

pub invariant_of-self : goal.invariant_of-self
invariant_of-self c = record { at_home = c.args.self.now.at_home ∙ sym c.cut_up.ensures.grows.home; known = known_then c.args.self.now c.cut_up.new.self _ c.cut_up.ensures.grows; sound = same_at_hand c.args.self.now c.cut_up.new.self (c.args.self.now.value ∷ []) (one_given _ _ c.args.self.now.value c.args.self.now.sound.value_stands) c.cut_up.ensures.grows }

pub put-requires-clause-map : goal.put-requires-clause-map
put-requires-clause-map c = map_stands c.args.self.now.types c.cut_up.new.self (c.args.self.now.value ∷ []) c.cut_up.ensures.grows c.args.self.now.point.map c.args.self.now.sound.point_stands

pub invariant_of-self-in-Break-branch-2 : goal.invariant_of-self-in-Break-branch-2
invariant_of-self-in-Break-branch-2 c =
    let state = c.args.self.now in
    let given = one_given state.types state.outside.items state.value state.sound.value_stands in
    let cut = one_given c.cut_up.new.self state.outside.items c.in_ok-at.at (stands_made state.types c.cut_up.new.self state.outside.items (state.value ∷ []) c.in_ok-at.at given c.cut_up.ensures.grows c.in_ok-at.ensures.there c.in_ok-at.ensures.made) in
    record { at_home = c.args.self.now.at_home ∙ (sym c.cut_up.ensures.grows.home ∙ sym c.put.ensures.grows.home); known = known_twice c.args.self.now c.cut_up.new.self c.put.new.self _ _ c.cut_up.ensures.grows c.put.ensures.grows; sound = then_same state c.cut_up.new.self c.put.new.self (state.value ∷ []) (c.in_ok-at.at ∷ []) given c.cut_up.ensures.grows cut c.put.ensures.grows }

pub invariant_of-self-2 : goal.invariant_of-self-2
invariant_of-self-2 c =
    let state = c.args.self.now in
    let given = one_given state.types state.outside.items state.value state.sound.value_stands in
    let cut = one_given c.cut_up.new.self state.outside.items c.in_ok-at.at (stands_made state.types c.cut_up.new.self state.outside.items (state.value ∷ []) c.in_ok-at.at given c.cut_up.ensures.grows c.in_ok-at.ensures.there c.in_ok-at.ensures.made) in
    record {
      at_home = c.args.self.now.at_home ∙ (sym c.cut_up.ensures.grows.home ∙ sym c.put.ensures.grows.home);
      known = known_twice c.args.self.now c.cut_up.new.self c.put.new.self _ _ c.cut_up.ensures.grows c.put.ensures.grows;
      sound = with_point c.put.new.self state.outside.items state.value state.held.items (lists_in state) state.point state.saved.items (ends_in state) state.seen.items _
          (then_same state c.cut_up.new.self c.put.new.self (state.value ∷ []) (c.in_ok-at.at ∷ []) given c.cut_up.ensures.grows cut c.put.ensures.grows) c.in_ok-map.ensures.map;
    }

pub returns : goal.returns
unfolding work_of
returns c =
    let state = c.args.self.now in
    let given = one_given state.types state.outside.items state.value state.sound.value_stands in
    let cut = one_given c.cut_up.new.self state.outside.items c.in_ok-at.at (stands_made state.types c.cut_up.new.self state.outside.items (state.value ∷ []) c.in_ok-at.at given c.cut_up.ensures.grows c.in_ok-at.ensures.there c.in_ok-at.ensures.made) in
    let empty : c.is_empty-empty.result ≡ is_empty (type_of state.types state.value) = c.is_empty-empty.ensures ∙ ap (λ (arena : Arena). is_empty (term_of (store_of arena) state.value)) c.arena.ensures in
    let entries : (n : ℕ) → entry_of c.put.new.self c.in_ok-map.map n ≡ (if n == c.args.local.0 then cut_up (type_of state.types state.value) else entry_of state.types state.point.map n)
    = λ n. c.in_ok-map.ensures.entries n
    ∙ (ap (λ (type : Term). if n == c.args.local.0 then type else entry_of c.cut_up.new.self state.point.map n) c.in_ok-at.ensures.term
    ∙ ap (λ (type : Term). if n == c.args.local.0 then cut_up (type_of state.types state.value) else type) (entry_stays state.types c.cut_up.new.self (state.value ∷ []) c.cut_up.ensures.grows state.point.map state.sound.point_stands n)) in
    work_mapped state c.put.new.self state.outside.items _ (set_as c.args.is_loose c.args.local.0 (type_of state.types state.value))
    (grown_twice state.types c.cut_up.new.self c.put.new.self state.outside.items (state.value ∷ []) (c.in_ok-at.at ∷ []) given c.cut_up.ensures.grows cut c.put.ensures.grows)
    (ap (λ (entry : ℕ → Term). record { dead = state.point.dead || (not c.args.is_loose && c.is_empty-empty.result); entry = entry }) (λ i. λ n. entries n i)
    ∙ ap (λ (b : Bool). record { dead = state.point.dead || (not c.args.is_loose && b); entry = λ n. if n == c.args.local.0 then cut_up (type_of state.types state.value) else entry_of state.types state.point.map n }) empty)
