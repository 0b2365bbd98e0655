-- What stands in the arena of a state stands there after calls.
use Rattle.std.proofs.Common.{◌≡◌, ℕ, List, [], ◌∷◌, ◌++◌, ap, ◌∙◌, subst, sym}
use Rattle.std.specs.Prelude.{Bool, All, IsTrue, map, Option, Some, option_to_list}
use Rattle.std.proofs.lemmas.List.Elements.{All-nil, All-cons, All-weaker, All-pop}
use Rattle.type_arena.specs.Store.{has}
use Rattle.type_arena.specs.declared.arena.Arena.{Arena}
use Rattle.type_arena.specs.declared.node.TypeRef.{TypeRef}
use Rattle.local_types.specs.Entries.{arena_of, arenas_of, IsMap}
use Rattle.local_types.specs.Growing.{HaveHomes, StaysWithin, AreWithin, IsMadeOf, Grows}
use Rattle.local_types.specs.declared.types.LocalTypes.{LocalTypes}
use Rattle.local_types.proofs.GrowFacts.{type_stands, map_stands, grows_less, grows_then}
use Rattle.rule_state.specs.Answers.{StayWithin}
use Rattle.rule_state.specs.Sound.{Stands, types_in, StandsSeen, StartsWithin, IsConfined, IsSound}
use Rattle.local_types.specs.declared.node.Point.{Point}
use Rattle.rule_state.specs.declared.point.Seen.{Seen}
use Rattle.rule_state.specs.declared.state.RuleState.{RuleState}

-- what stays within some homes after a call did so before
pub within_before : (s t : LocalTypes) (given : List TypeRef) (test : ℕ → Bool) → Grows s t given → AreWithin test t → AreWithin test s
within_before s t given test grows within = record {
  arena = record {
    own = subst (λ (home : ℕ). IsTrue (test home)) grows.home within.arena.own;
    refs = λ at node e passes. within.arena.refs at node (grows.keeps at node e) passes;
    literals = λ at node e passes. within.arena.literals at node (grows.keeps at node e) passes;
  };
  maps = λ place node e. within.maps place node (grows.maps place node e);
}

-- types that stand have homes to which what is there, or what came from elsewhere, leads
pub homes_of : (s : LocalTypes) (outside given : List TypeRef) → All (Stands s outside) given → (test : ℕ → Bool) → AreWithin test s → HaveHomes test outside → HaveHomes test given
homes_of s outside given stand test within homes = All-weaker (Stands s outside) (λ (at : TypeRef). IsTrue (test at.home)) (λ at stands. stands.made test within homes) given stand

pub grown : (s t : LocalTypes) (outside given : List TypeRef) → All (Stands s outside) given → Grows s t given → Grows s t outside
grown s t outside given stand grows = grows_less s t outside given grows (homes_of s outside given stand)

pub stands_on : (s t : LocalTypes) (outside given : List TypeRef) (at : TypeRef) → Grows s t given → Stands s outside at → Stands t outside at
stands_on s t outside given at grows stands = record {
  there = type_stands s t given grows at stands.there;
  made = λ test within homes. stands.made test (within_before s t given test grows within) homes;
}

pub stands_seen_on : (s t : LocalTypes) (outside given : List TypeRef) (seen : Seen) → Grows s t given → StandsSeen s outside seen → StandsSeen t outside seen
stands_seen_on s t outside given seen grows stands = All-weaker (Stands s outside) (Stands t outside) (λ at. stands_on s t outside given at grows) (types_in seen) stands

-- what was made of types that stand stands
pub stands_made : (s t : LocalTypes) (outside given : List TypeRef) (at : TypeRef) → All (Stands s outside) given → Grows s t given → IsTrue (has (arenas_of t) at) → IsMadeOf s given at → Stands t outside at
stands_made s t outside given at stand grows there made = record {
  there = there;
  made = λ test within homes.
      let before : AreWithin test s = within_before s t given test grows within in
      made test before (homes_of s outside given stand test before homes);
}

pub confined_on : (s t : LocalTypes) (outside : List TypeRef) → Grows s t outside → IsConfined s outside → IsConfined t outside
confined_on s t outside grows confined test starts homes = grows.homes test (confined test before homes) homes
  where
    before : StartsWithin test (arena_of s)
    before = record {
      own = subst (λ (home : ℕ). IsTrue (test home)) grows.home starts.own;
      refs = λ at node e other passes. starts.refs at node (grows.keeps at node e) (λ same. other (same ∙ grows.home)) passes;
      literals = λ at node e other passes. starts.literals at node (grows.keeps at node e) (λ same. other (same ∙ grows.home)) passes;
    }

-- what is at hand stands after calls
pub sound_on : (s t : LocalTypes) (outside given : List TypeRef) (value : TypeRef) (held : List TypeRef) (lists : List (List TypeRef)) (point : Point) (saved : List Point) (ends : List (List Point)) (seen : List Seen) → All (Stands s outside) given → Grows s t given
    → IsSound s outside value held lists point saved ends seen → IsSound t outside value held lists point saved ends seen
sound_on s t outside given value held lists point saved ends seen stand grows sound = record {
  confined = confined_on s t outside (grown s t outside given stand grows) sound.confined;
  value_stands = stands_on s t outside given value grows sound.value_stands;
  held_stand = All-weaker (Stands s outside) (Stands t outside) (λ at. stands_on s t outside given at grows) held sound.held_stand;
  lists_stand = All-weaker (All (Stands s outside)) (All (Stands t outside)) (λ list. All-weaker (Stands s outside) (Stands t outside) (λ at. stands_on s t outside given at grows) list) lists sound.lists_stand;
  point_stands = map_stands s t given grows point.map sound.point_stands;
  saved_stand = All-weaker (λ (p : Point). IsMap s p.map) (λ (p : Point). IsMap t p.map) (λ p. map_stands s t given grows p.map) saved sound.saved_stand;
  ends_stand = All-weaker (All (λ (p : Point). IsMap s p.map)) (All (λ (p : Point). IsMap t p.map)) (λ list. All-weaker (λ (p : Point). IsMap s p.map) (λ (p : Point). IsMap t p.map) (λ p. map_stands s t given grows p.map) list) ends sound.ends_stand;
  seen_stand = All-weaker (StandsSeen s outside) (StandsSeen t outside) (λ x. stands_seen_on s t outside given x grows) seen sound.seen_stand;
}

-- another type is at hand, which was made of types that stand
pub sound_valued : (s t : LocalTypes) (outside given : List TypeRef) (value at : TypeRef) (held : List TypeRef) (lists : List (List TypeRef)) (point : Point) (saved : List Point) (ends : List (List Point)) (seen : List Seen) → All (Stands s outside) given → Grows s t given
    → IsTrue (has (arenas_of t) at) → IsMadeOf s given at → IsSound s outside value held lists point saved ends seen → IsSound t outside at held lists point saved ends seen
sound_valued s t outside given value at held lists point saved ends seen stand grows there made sound =
    let on : IsSound t outside value held lists point saved ends seen = sound_on s t outside given value held lists point saved ends seen stand grows sound in
    record {
      confined = on.confined;
      value_stands = stands_made s t outside given at stand grows there made;
      held_stand = on.held_stand;
      lists_stand = on.lists_stand;
      point_stands = on.point_stands;
      saved_stand = on.saved_stand;
      ends_stand = on.ends_stand;
      seen_stand = on.seen_stand;
    }

pub none_given : (s : LocalTypes) (outside : List TypeRef) → All (Stands s outside) []
none_given s outside = All-nil (Stands s outside)

pub one_given : (s : LocalTypes) (outside : List TypeRef) (at : TypeRef) → Stands s outside at → All (Stands s outside) (at ∷ [])
one_given s outside at stands = All-cons (Stands s outside) at [] stands (All-nil (Stands s outside))

pub two_given : (s : LocalTypes) (outside : List TypeRef) (at other : TypeRef) → Stands s outside at → Stands s outside other → All (Stands s outside) (at ∷ other ∷ [])
two_given s outside at other stands more = All-cons (Stands s outside) at (other ∷ []) stands (one_given s outside other more)

-- one part of what is at hand is another
pub with_value : (types : LocalTypes) (outside : List TypeRef) (value : TypeRef) (held : List TypeRef) (lists : List (List TypeRef)) (point : Point) (saved : List Point) (ends : List (List Point)) (seen : List Seen) (other : TypeRef)
    → IsSound types outside value held lists point saved ends seen → Stands types outside other → IsSound types outside other held lists point saved ends seen
with_value types outside value held lists point saved ends seen other sound stands = record {
  confined = sound.confined;
  value_stands = stands;
  held_stand = sound.held_stand;
  lists_stand = sound.lists_stand;
  point_stands = sound.point_stands;
  saved_stand = sound.saved_stand;
  ends_stand = sound.ends_stand;
  seen_stand = sound.seen_stand;
}

pub with_held : (types : LocalTypes) (outside : List TypeRef) (value : TypeRef) (held : List TypeRef) (lists : List (List TypeRef)) (point : Point) (saved : List Point) (ends : List (List Point)) (seen : List Seen) (other : List TypeRef)
    → IsSound types outside value held lists point saved ends seen → All (Stands types outside) other → IsSound types outside value other lists point saved ends seen
with_held types outside value held lists point saved ends seen other sound stands = record {
  confined = sound.confined;
  value_stands = sound.value_stands;
  held_stand = stands;
  lists_stand = sound.lists_stand;
  point_stands = sound.point_stands;
  saved_stand = sound.saved_stand;
  ends_stand = sound.ends_stand;
  seen_stand = sound.seen_stand;
}

pub with_lists : (types : LocalTypes) (outside : List TypeRef) (value : TypeRef) (held : List TypeRef) (lists : List (List TypeRef)) (point : Point) (saved : List Point) (ends : List (List Point)) (seen : List Seen) (other : List (List TypeRef))
    → IsSound types outside value held lists point saved ends seen → All (All (Stands types outside)) other → IsSound types outside value held other point saved ends seen
with_lists types outside value held lists point saved ends seen other sound stands = record {
  confined = sound.confined;
  value_stands = sound.value_stands;
  held_stand = sound.held_stand;
  lists_stand = stands;
  point_stands = sound.point_stands;
  saved_stand = sound.saved_stand;
  ends_stand = sound.ends_stand;
  seen_stand = sound.seen_stand;
}

pub with_point : (types : LocalTypes) (outside : List TypeRef) (value : TypeRef) (held : List TypeRef) (lists : List (List TypeRef)) (point : Point) (saved : List Point) (ends : List (List Point)) (seen : List Seen) (other : Point)
    → IsSound types outside value held lists point saved ends seen → IsMap types other.map → IsSound types outside value held lists other saved ends seen
with_point types outside value held lists point saved ends seen other sound stands = record {
  confined = sound.confined;
  value_stands = sound.value_stands;
  held_stand = sound.held_stand;
  lists_stand = sound.lists_stand;
  point_stands = stands;
  saved_stand = sound.saved_stand;
  ends_stand = sound.ends_stand;
  seen_stand = sound.seen_stand;
}

pub with_saved : (types : LocalTypes) (outside : List TypeRef) (value : TypeRef) (held : List TypeRef) (lists : List (List TypeRef)) (point : Point) (saved : List Point) (ends : List (List Point)) (seen : List Seen) (other : List Point)
    → IsSound types outside value held lists point saved ends seen → All (λ p. IsMap types p.map) other → IsSound types outside value held lists point other ends seen
with_saved types outside value held lists point saved ends seen other sound stands = record {
  confined = sound.confined;
  value_stands = sound.value_stands;
  held_stand = sound.held_stand;
  lists_stand = sound.lists_stand;
  point_stands = sound.point_stands;
  saved_stand = stands;
  ends_stand = sound.ends_stand;
  seen_stand = sound.seen_stand;
}

pub with_ends : (types : LocalTypes) (outside : List TypeRef) (value : TypeRef) (held : List TypeRef) (lists : List (List TypeRef)) (point : Point) (saved : List Point) (ends : List (List Point)) (seen : List Seen) (other : List (List Point))
    → IsSound types outside value held lists point saved ends seen → All (All (λ p. IsMap types p.map)) other → IsSound types outside value held lists point saved other seen
with_ends types outside value held lists point saved ends seen other sound stands = record {
  confined = sound.confined;
  value_stands = sound.value_stands;
  held_stand = sound.held_stand;
  lists_stand = sound.lists_stand;
  point_stands = sound.point_stands;
  saved_stand = sound.saved_stand;
  ends_stand = stands;
  seen_stand = sound.seen_stand;
}

pub with_seen : (types : LocalTypes) (outside : List TypeRef) (value : TypeRef) (held : List TypeRef) (lists : List (List TypeRef)) (point : Point) (saved : List Point) (ends : List (List Point)) (seen : List Seen) (other : List Seen)
    → IsSound types outside value held lists point saved ends seen → All (StandsSeen types outside) other → IsSound types outside value held lists point saved ends other
with_seen types outside value held lists point saved ends seen other sound stands = record {
  confined = sound.confined;
  value_stands = sound.value_stands;
  held_stand = sound.held_stand;
  lists_stand = sound.lists_stand;
  point_stands = sound.point_stands;
  saved_stand = sound.saved_stand;
  ends_stand = sound.ends_stand;
  seen_stand = stands;
}

-- the same of a state
abbrev pub lists_in : RuleState → List (List TypeRef)
lists_in state = map (λ list. list.items) state.lists.items

abbrev pub ends_in : RuleState → List (List Point)
ends_in state = map (λ list. list.items) state.ends.items

pub same_at_hand : (state : RuleState) (t : LocalTypes) (given : List TypeRef) → All (Stands state.types state.outside.items) given → Grows state.types t given
    → IsSound t state.outside.items state.value state.held.items (lists_in state) state.point state.saved.items (ends_in state) state.seen.items
same_at_hand state t given stand grows =
    sound_on state.types t state.outside.items given state.value state.held.items (lists_in state) state.point state.saved.items (ends_in state) state.seen.items stand grows state.sound

pub other_at_hand : (state : RuleState) (t : LocalTypes) (given : List TypeRef) (at : TypeRef) → All (Stands state.types state.outside.items) given → Grows state.types t given → IsTrue (has (arenas_of t) at) → IsMadeOf state.types given at
    → IsSound t state.outside.items at state.held.items (lists_in state) state.point state.saved.items (ends_in state) state.seen.items
other_at_hand state t given at stand grows there made =
    sound_valued state.types t state.outside.items given state.value at state.held.items (lists_in state) state.point state.saved.items (ends_in state) state.seen.items stand grows there made state.sound

-- the same where the last that was put aside is no more there
pub held_popped : (state : RuleState) (rest : List TypeRef) (r : Option TypeRef) (x : TypeRef) → state.held.items ≡ rest ++ option_to_list r → r ≡ Some x → All (Stands state.types state.outside.items) rest × Stands state.types state.outside.items x
held_popped state rest r x items is =
    let both = All-pop (Stands state.types state.outside.items) state.held.items rest (Some x) (items ∙ ap (λ found. rest ++ option_to_list found) is) state.sound.held_stand in (both.0, both.1)

pub sound_popped : (state : RuleState) (rest : List TypeRef) (r : Option TypeRef) (x : TypeRef) → state.held.items ≡ rest ++ option_to_list r → r ≡ Some x
    → IsSound state.types state.outside.items state.value rest (lists_in state) state.point state.saved.items (ends_in state) state.seen.items
sound_popped state rest r x items is =
    with_held state.types state.outside.items state.value state.held.items (lists_in state) state.point state.saved.items (ends_in state) state.seen.items rest state.sound (held_popped state rest r x items is).0

pub popped_same : (state : RuleState) (t : LocalTypes) (given rest : List TypeRef) (r : Option TypeRef) (x : TypeRef) → state.held.items ≡ rest ++ option_to_list r → r ≡ Some x → All (Stands state.types state.outside.items) given → Grows state.types t given
    → IsSound t state.outside.items state.value rest (lists_in state) state.point state.saved.items (ends_in state) state.seen.items
popped_same state t given rest r x items is stand grows =
    sound_on state.types t state.outside.items given state.value rest (lists_in state) state.point state.saved.items (ends_in state) state.seen.items stand grows (sound_popped state rest r x items is)

pub popped_other : (state : RuleState) (t : LocalTypes) (given rest : List TypeRef) (r : Option TypeRef) (x at : TypeRef) → state.held.items ≡ rest ++ option_to_list r → r ≡ Some x → All (Stands state.types state.outside.items) given → Grows state.types t given
    → IsTrue (has (arenas_of t) at) → IsMadeOf state.types given at → IsSound t state.outside.items at rest (lists_in state) state.point state.saved.items (ends_in state) state.seen.items
popped_other state t given rest r x at items is stand grows there made =
    sound_valued state.types t state.outside.items given state.value at rest (lists_in state) state.point state.saved.items (ends_in state) state.seen.items stand grows there made (sound_popped state rest r x items is)

-- the last that was put aside and the type at hand stand
pub both_given : (state : RuleState) (rest : List TypeRef) (r : Option TypeRef) (x : TypeRef) → state.held.items ≡ rest ++ option_to_list r → r ≡ Some x → All (Stands state.types state.outside.items) (x ∷ state.value ∷ [])
both_given state rest r x items is = two_given state.types state.outside.items x state.value (held_popped state rest r x items is).1 state.sound.value_stands

-- another map is at hand
pub point_at_hand : (state : RuleState) (t : LocalTypes) (given : List TypeRef) (point : Point) → All (Stands state.types state.outside.items) given → Grows state.types t given → IsMap t point.map
    → IsSound t state.outside.items state.value state.held.items (lists_in state) point state.saved.items (ends_in state) state.seen.items
point_at_hand state t given point stand grows there =
    with_point t state.outside.items state.value state.held.items (lists_in state) state.point state.saved.items (ends_in state) state.seen.items point (same_at_hand state t given stand grows) there

-- after two calls
pub then_same : (state : RuleState) (t u : LocalTypes) (given more : List TypeRef) → All (Stands state.types state.outside.items) given → Grows state.types t given → All (Stands t state.outside.items) more → Grows t u more
    → IsSound u state.outside.items state.value state.held.items (lists_in state) state.point state.saved.items (ends_in state) state.seen.items
then_same state t u given more stand grows stand_more grows_more =
    sound_on t u state.outside.items more state.value state.held.items (lists_in state) state.point state.saved.items (ends_in state) state.seen.items stand_more grows_more (same_at_hand state t given stand grows)

pub grown_twice : (s t u : LocalTypes) (outside given more : List TypeRef) → All (Stands s outside) given → Grows s t given → All (Stands t outside) more → Grows t u more → Grows s u outside
grown_twice s t u outside given more stand grows stand_more grows_more =
    grows_then s t u outside outside (grown s t outside given stand grows) (grown t u outside more stand_more grows_more) (λ test within homes. homes)

pub then_other : (state : RuleState) (t u : LocalTypes) (given more : List TypeRef) (at : TypeRef) → All (Stands state.types state.outside.items) given → Grows state.types t given → All (Stands t state.outside.items) more → Grows t u more
    → IsTrue (has (arenas_of u) at) → IsMadeOf t more at → IsSound u state.outside.items at state.held.items (lists_in state) state.point state.saved.items (ends_in state) state.seen.items
then_other state t u given more at stand grows stand_more grows_more there made =
    sound_valued t u state.outside.items more state.value at state.held.items (lists_in state) state.point state.saved.items (ends_in state) state.seen.items stand_more grows_more there made (same_at_hand state t given stand grows)

-- what a map has stands
pub got_stands : (s : LocalTypes) (outside : List TypeRef) (at : TypeRef) → IsTrue (has (arenas_of s) at) → IsMadeOf s [] at → Stands s outside at
got_stands s outside at there made = record { there = there; made = λ test within homes. made test within (All-nil (λ (r : TypeRef). IsTrue (test r.home))) }

-- what is handed over of a state stays within homes within which it started
pub handed_within : (state : RuleState) (arena : Arena) (test : ℕ → Bool) → arena ≡ arena_of state.types → StartsWithin test arena → HaveHomes test state.outside.items → StayWithin test arena state.value state.seen.items
handed_within state arena test is starts homes =
    let within : AreWithin test state.types = state.sound.confined test (subst (StartsWithin test) is starts) homes in
    record {
      stays = subst (StaysWithin test) (sym is) within.arena;
      value = state.sound.value_stands.made test within homes;
      seen = All-weaker (StandsSeen state.types state.outside.items) (λ one. HaveHomes test (types_in one))
          (λ one stand. All-weaker (Stands state.types state.outside.items) (λ (at : TypeRef). IsTrue (test at.home)) (λ at stands. stands.made test within homes) (types_in one) stand) state.seen.items state.sound.seen_stand;
    }
