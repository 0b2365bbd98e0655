-- The ends of branches, put together.
use Rattle.std.proofs.Common.{◌≡◌, ℕ, List, [], ◌∷◌, ◌++◌, refl, sym, ap, ◌∙◌, Vec, Global}
use Rattle.std.specs.Prelude.{Bool, true, false, not, ◌&&◌, All, map, reverse, filter, Option, Some, option_to_list, if◌then◌else◌}
use Rattle.type_arena.specs.Term.{Term}
use Rattle.type_normal.specs.Cut.{cut_up}
use Rattle.type_normal.specs.Operations.{union}
use Rattle.local_types.specs.Ends.{all_dead, union_live, joining}
use Rattle.local_types.specs.Entries.{entry_of, IsMap}
use Rattle.local_types.specs.Growing.{Grows}
use Rattle.local_types.specs.declared.node.Point.{Point}
use Rattle.local_types.specs.declared.types.LocalTypes.{LocalTypes}
use Rattle.report_rules.specs.TypeMap.{TypeMap, no_maps, union_of, joined}
use Rattle.rule_work.specs.Branches.{joined_from, ends_joined}
use Rattle.rule_state.specs.Sound.{IsSound}
use Rattle.rule_work.specs.Work.{Work}
use Rattle.rule_state.specs.Work.{map_of, work_of}
use Rattle.rule_state.specs.declared.state.RuleState.{RuleState}
use Rattle.rule_state.proofs.SoundFacts.{lists_in, ends_in, with_ends, with_point, sound_on, none_given}
use Rattle.rule_state.proofs.StackFacts.{popped_list, all_popped, all_rest}
use Rattle.rule_state.proofs.WorkFacts.{around_on, around_stays, work_parts, parts_stay}

abbrev live : List TypeMap → List TypeMap
live maps = filter (λ map. not map.dead) maps

-- the live ones give the same union, and there is none where all are dead
live_union : (types : LocalTypes) (ends : List Point) (local : ℕ) → union_of (live (map (map_of types) ends)) local ≡ union_live types ends local
live_union types [] local = refl
live_union types (end ∷ ends) local = by_dead end.dead (live_union types ends local)
  where
    by_dead : (dead : Bool) → union_of (live (map (map_of types) ends)) local ≡ union_live types ends local
        → union_of (if not dead then map_of types end ∷ live (map (map_of types) ends) else live (map (map_of types) ends)) local
        ≡ (if dead then union_live types ends local else union (entry_of types end.map local) (union_live types ends local))
    by_dead true rest = rest
    by_dead false rest = ap (union (entry_of types end.map local)) rest

no_live : (types : LocalTypes) (ends : List Point) → no_maps (live (map (map_of types) ends)) ≡ all_dead ends
no_live types [] = refl
no_live types (end ∷ ends) = by_dead end.dead (no_live types ends)
  where
    by_dead : (dead : Bool) → no_maps (live (map (map_of types) ends)) ≡ all_dead ends
        → no_maps (if not dead then map_of types end ∷ live (map (map_of types) ends) else live (map (map_of types) ends)) ≡ (dead && all_dead ends)
    by_dead true rest = rest
    by_dead false rest = refl

pub joined_maps : (types : LocalTypes) (ends : List Point) → record { dead = all_dead ends; entry = joining types ends } ≡ joined (map (map_of types) ends)
joined_maps types ends =
    let a : all_dead ends ≡ no_maps (live (map (map_of types) ends)) = sym (no_live types ends) in
    let b : joining types ends ≡ (λ (local : ℕ). cut_up (union_of (live (map (map_of types) ends)) local)) = λ i. λ n. ap cut_up (sym (live_union types ends n)) i in
    ap (λ (dead : Bool). record { dead = dead; entry = joining types ends }) a
    ∙ ap (λ (entry : ℕ → Term). record { dead = no_maps (live (map (map_of types) ends)); entry = entry }) b

-- the innermost ends are no more there
pub sound_without_ends : (old : RuleState) (rest : List (Vec Point Global)) (r : Option (Vec Point Global)) → old.ends.items ≡ rest ++ option_to_list r
    → IsSound old.types old.outside.items old.value old.held.items (lists_in old) old.point old.saved.items (map (λ list. list.items) rest) old.seen.items
sound_without_ends old rest r items =
    with_ends old.types old.outside.items old.value old.held.items (lists_in old) old.point old.saved.items (ends_in old) old.seen.items (map (λ list. list.items) rest) old.sound
    (all_rest (All (λ (p : Point). IsMap old.types p.map)) (λ list. list.items) old.ends.items rest r items old.sound.ends_stand)

pub ends_are_maps : (old : RuleState) (rest : List (Vec Point Global)) (r : Option (Vec Point Global)) (x : Vec Point Global) → old.ends.items ≡ rest ++ option_to_list r → r ≡ Some x → All (λ (p : Point). IsMap old.types p.map) x.items
ends_are_maps old rest r x items is = (all_popped (All (λ (p : Point). IsMap old.types p.map)) (λ list. list.items) old.ends.items rest r x items is old.sound.ends_stand).1

pub without_ends_same : (old : RuleState) (t : LocalTypes) (rest : List (Vec Point Global)) (r : Option (Vec Point Global)) → old.ends.items ≡ rest ++ option_to_list r → Grows old.types t []
    → IsSound t old.outside.items old.value old.held.items (lists_in old) old.point old.saved.items (map (λ list. list.items) rest) old.seen.items
without_ends_same old t rest r items grows =
    sound_on old.types t old.outside.items [] old.value old.held.items (lists_in old) old.point old.saved.items (map (λ list. list.items) rest) old.seen.items (none_given old.types old.outside.items) grows (sound_without_ends old rest r items)

pub without_ends_other : (old : RuleState) (t : LocalTypes) (point : Point) (rest : List (Vec Point Global)) (r : Option (Vec Point Global)) → old.ends.items ≡ rest ++ option_to_list r → Grows old.types t [] → IsMap t point.map
    → IsSound t old.outside.items old.value old.held.items (lists_in old) point old.saved.items (map (λ list. list.items) rest) old.seen.items
without_ends_other old t point rest r items grows there =
    with_point t old.outside.items old.value old.held.items (lists_in old) old.point old.saved.items (map (λ list. list.items) rest) old.seen.items point (without_ends_same old t rest r items grows) there

-- what a state stands for after that
pub work_joined : (old : RuleState) (t : LocalTypes) (point : Point) (rest : List (Vec Point Global)) (r : Option (Vec Point Global)) (x : Vec Point Global) → old.ends.items ≡ rest ++ option_to_list r → r ≡ Some x → Grows old.types t []
    → map_of t point ≡ joined (map (map_of old.types) x.items)
    → work_parts t old.value old.held.items (lists_in old) point old.saved.items (map (λ list. list.items) rest) old.seen.items old.pending.items (around_on t old) ≡ ends_joined (work_of old)
unfolding work_of
work_joined old t point rest r x items is grows same =
    ap (λ (work : Work). record work { map = map_of t point }) (parts_stay old.types t old.outside.items [] old.value old.held.items (lists_in old) old.point old.saved.items (map (λ list. list.items) rest) old.seen.items old.pending.items (around_on old.types old) (around_on t old) (around_stays old t [] grows) grows (sound_without_ends old rest r items))
    ∙ (ap (λ (known : TypeMap). record (work_of old) { map = known; ends = reverse (map (map (map_of old.types)) (map (λ list. list.items) rest)) }) same
    ∙ ap (λ (ends : List (List TypeMap)). joined_from ends (work_of old)) (sym (popped_list (map_of old.types) (λ list. list.items) old.ends.items rest r x items is)))
