-- What a state stands for, after calls on its types.
use Rattle.std.proofs.Common.{◌≡◌, ℕ, List, [], ◌∷◌, ◌++◌, refl, sym, ap, ◌∙◌}
use Rattle.std.specs.BTreeMap.{BTreeMap, get}
use Rattle.std.specs.Ordering.{nat_cmp}
use Rattle.std.specs.Prelude.{false, All, map, reverse, Option, Some, None, option_map, option_to_list}
use Rattle.std.proofs.lemmas.List.Elements.{All-weaker, All-head, All-tail}
use Rattle.type_arena.specs.Arena.{below_of}
use Rattle.type_arena.specs.Store.{Store}
use Rattle.type_arena.specs.Term.{Term}
use Rattle.type_arena.specs.declared.node.TypeRef.{TypeRef}
use Rattle.type_normal.specs.Kinds.{unknown}
use Rattle.local_types.specs.Entries.{arena_of, type_of, entry_of, IsMap}
use Rattle.local_types.specs.Growing.{Grows}
use Rattle.local_types.specs.declared.node.LocalMap.{LocalMap}
use Rattle.local_types.specs.declared.types.LocalTypes.{LocalTypes}
use Rattle.local_types.proofs.GrowFacts.{type_stays, map_stays}
use Rattle.type_decl.specs.declared.table.SigTable.{SigTable}
use Rattle.report_rules.specs.Seen.{SeenExpr}
use Rattle.report_rules.specs.TypeMap.{TypeMap, no_map}
use Rattle.rule_state.proofs.SoundFacts.{lists_in, ends_in, sound_popped}
use Rattle.rule_state.proofs.StackFacts.{popped_last}
use Rattle.rule_work.specs.Moves.{valued, made_from, made, mapped}
use Rattle.rule_state.specs.Sound.{Stands, StandsSeen, KnowsImports, IsSound}
use Rattle.rule_work.specs.Around.{Around}
use Rattle.rule_work.specs.Work.{Work, begun}
use Rattle.rule_state.specs.Work.{imports_in, around_in, map_of, seen_of, work_of}
use Rattle.local_types.specs.declared.node.Point.{Point}
use Rattle.rule_state.specs.declared.point.Seen.{Seen}
use Rattle.rule_state.specs.declared.point.Seen.TheVariants.{Expr, Body}
use Rattle.rule_state.specs.declared.state.RuleState.{RuleState}

-- functions that agree on a list make the same of it
pub map_where : {X Y : Type 0} (f g : X → Y) (xs : List X) → All (λ x. f x ≡ g x) xs → map f xs ≡ map g xs
map_where f g [] same = refl
map_where f g (x ∷ xs) same =
    let head : f x ≡ g x = All-head (λ y. f y ≡ g y) x xs same in
    let rest : map f xs ≡ map g xs = map_where f g xs (All-tail (λ y. f y ≡ g y) x xs same) in
    cc

-- a type keeps its meaning, and a map and what was seen keep theirs
pub seen_stays : (s t : LocalTypes) (outside given : List TypeRef) (seen : Seen) → Grows s t given → StandsSeen s outside seen → seen_of t seen ≡ seen_of s seen
seen_stays s t outside given (Expr id at live) grows stands = ap (λ (type : Term). SeenExpr id.0 type live) (type_stays s t given grows at (All-head (Stands s outside) at [] stands).there)
seen_stays s t outside given (Body id live) grows stands = refl

pub map_of_stays : (s t : LocalTypes) (given : List TypeRef) (point : Point) → Grows s t given → IsMap s point.map → map_of t point ≡ map_of s point
map_of_stays s t given point grows there = ap (λ (entry : ℕ → Term). record { dead = point.dead; entry = entry }) (map_stays s t given grows point.map there)

pub types_stay : (s t : LocalTypes) (outside given : List TypeRef) (held : List TypeRef) → Grows s t given → All (Stands s outside) held → map (type_of t) held ≡ map (type_of s) held
types_stay s t outside given held grows stand = map_where (type_of t) (type_of s) held (All-weaker (Stands s outside) (λ at. type_of t at ≡ type_of s at) (λ at stands. type_stays s t given grows at stands.there) held stand)

pub maps_stay : (s t : LocalTypes) (given : List TypeRef) (saved : List Point) → Grows s t given → All (λ p. IsMap s p.map) saved → map (map_of t) saved ≡ map (map_of s) saved
maps_stay s t given saved grows there = map_where (map_of t) (map_of s) saved (All-weaker (λ (p : Point). IsMap s p.map) (λ p. map_of t p ≡ map_of s p) (λ p. map_of_stays s t given p grows) saved there)

pub all_seen_stay : (s t : LocalTypes) (outside given : List TypeRef) (seen : List Seen) → Grows s t given → All (StandsSeen s outside) seen → map (seen_of t) seen ≡ map (seen_of s) seen
all_seen_stay s t outside given seen grows stand = map_where (seen_of t) (seen_of s) seen (All-weaker (StandsSeen s outside) (λ x. seen_of t x ≡ seen_of s x) (λ x stands. seen_stays s t outside given x grows stands) seen stand)

-- lists keep what they have
pub lists_stay : (s t : LocalTypes) (outside given : List TypeRef) (lists : List (List TypeRef)) → Grows s t given → All (All (Stands s outside)) lists → map (map (type_of t)) lists ≡ map (map (type_of s)) lists
lists_stay s t outside given lists grows stand =
    map_where (map (type_of t)) (map (type_of s)) lists (All-weaker (All (Stands s outside)) (λ list. map (type_of t) list ≡ map (type_of s) list) (λ list all. types_stay s t outside given list grows all) lists stand)

pub ends_stay : (s t : LocalTypes) (given : List TypeRef) (ends : List (List Point)) → Grows s t given → All (All (λ p. IsMap s p.map)) ends → map (map (map_of t)) ends ≡ map (map (map_of s)) ends
ends_stay s t given ends grows there =
    map_where (map (map_of t)) (map (map_of s)) ends (All-weaker (All (λ (p : Point). IsMap s p.map)) (λ list. map (map_of t) list ≡ map (map_of s) list) (λ list all. maps_stay s t given list grows all) ends there)

-- what stays of a state with other types
abbrev pub around_on : LocalTypes → RuleState → Around
around_on types state = around_in types state.home state.outside.items state.table.now state.imports

import_stays : (s t : LocalTypes) (outside given : List TypeRef) (found : Option TypeRef) → Grows s t given → ((at : TypeRef) → found ≡ Some at → Stands s outside at) → option_map (type_of t) found ≡ option_map (type_of s) found
import_stays s t outside given None grows stands = refl
import_stays s t outside given (Some at) grows stands = ap (λ (type : Term). Some type) (type_stays s t given grows at (stands at refl).there)

pub around_in_stays : (s t : LocalTypes) (given : List TypeRef) (home : ℕ) (outside : List TypeRef) (table : SigTable) (imports : BTreeMap ℕ TypeRef) → Grows s t given → KnowsImports s outside imports → around_in t home outside table imports ≡ around_in s home outside table imports
around_in_stays s t given home outside table imports grows known =
    let below : below_of (arena_of t) ≡ below_of (arena_of s) = grows.below in
    let given_there : imports_in t imports ≡ imports_in s imports = λ i. λ id. import_stays s t outside given (get nat_cmp imports id) grows (known id) i in
    ap (λ (store : Store). record (around_in t home outside table imports) { below = store }) below
    ∙ ap (λ (found : ℕ → Option Term). record (around_in s home outside table imports) { imports = found }) given_there

pub around_stays : (old : RuleState) (t : LocalTypes) (given : List TypeRef) → Grows old.types t given → around_on t old ≡ around_on old.types old
around_stays old t given grows = around_in_stays old.types t given old.home old.outside.items old.table.now old.imports grows old.known.imported

-- the work of these parts
abbrev pub work_parts : LocalTypes → TypeRef → List TypeRef → List (List TypeRef) → Point → List Point → List (List Point) → List Seen → List ℕ → Around → Work
work_parts types value held lists point saved ends seen pending around = record {
  value = type_of types value;
  held = reverse (map (type_of types) held);
  lists = reverse (map (map (type_of types)) lists);
  map = map_of types point;
  saved = reverse (map (map_of types) saved);
  ends = reverse (map (map (map_of types)) ends);
  seen = map (seen_of types) seen;
  pending = reverse pending;
  around = around;
}

pub work_is : (state : RuleState) → work_of state ≡ work_parts state.types state.value state.held.items (map (λ list. list.items) state.lists.items) state.point state.saved.items (map (λ list. list.items) state.ends.items) state.seen.items state.pending.items (around_on state.types state)
unfolding work_of
work_is state = refl

-- calls on the types change nothing of what is at hand
pub parts_stay : (s t : LocalTypes) (outside given : List TypeRef) (value : TypeRef) (held : List TypeRef) (lists : List (List TypeRef)) (point : Point) (saved : List Point) (ends : List (List Point)) (seen : List Seen) (pending : List ℕ) (before after : Around) → after ≡ before → Grows s t given
    → IsSound s outside value held lists point saved ends seen → work_parts t value held lists point saved ends seen pending after ≡ work_parts s value held lists point saved ends seen pending before
parts_stay s t outside given value held lists point saved ends seen pending before after same grows sound =
    let a : type_of t value ≡ type_of s value = type_stays s t given grows value sound.value_stands.there in
    let b : map (type_of t) held ≡ map (type_of s) held = types_stay s t outside given held grows sound.held_stand in
    let l : map (map (type_of t)) lists ≡ map (map (type_of s)) lists = lists_stay s t outside given lists grows sound.lists_stand in
    let c : map_of t point ≡ map_of s point = map_of_stays s t given point grows sound.point_stands in
    let d : map (map_of t) saved ≡ map (map_of s) saved = maps_stay s t given saved grows sound.saved_stand in
    let f : map (map (map_of t)) ends ≡ map (map (map_of s)) ends = ends_stay s t given ends grows sound.ends_stand in
    let e : map (seen_of t) seen ≡ map (seen_of s) seen = all_seen_stay s t outside given seen grows sound.seen_stand in
    cc

-- the same of a state: nothing else changes, or another type is at hand
pub work_same : (old : RuleState) (t : LocalTypes) (given : List TypeRef) → Grows old.types t given
    → work_parts t old.value old.held.items (lists_in old) old.point old.saved.items (ends_in old) old.seen.items old.pending.items (around_on t old) ≡ work_of old
unfolding work_of
work_same old t given grows =
    parts_stay old.types t old.outside.items given old.value old.held.items (lists_in old) old.point old.saved.items (ends_in old) old.seen.items old.pending.items (around_on old.types old) (around_on t old) (around_stays old t given grows) grows old.sound

pub work_valued : (old : RuleState) (t : LocalTypes) (given : List TypeRef) (at : TypeRef) (type : Term) → Grows old.types t given → type_of t at ≡ type
    → work_parts t at old.held.items (lists_in old) old.point old.saved.items (ends_in old) old.seen.items old.pending.items (around_on t old) ≡ valued type (work_of old)
work_valued old t given at type grows is = ap (valued (type_of t at)) (work_same old t given grows) ∙ ap (λ (x : Term). valued x (work_of old)) is

-- the last that was put aside and the type at hand made one
pub work_made : (old : RuleState) (t : LocalTypes) (given rest : List TypeRef) (r : Option TypeRef) (x at : TypeRef) (f : Term → Term → Term) → old.held.items ≡ rest ++ option_to_list r → r ≡ Some x → Grows old.types t given
    → type_of t at ≡ f (type_of old.types x) (type_of old.types old.value) → work_parts t at rest (lists_in old) old.point old.saved.items (ends_in old) old.seen.items old.pending.items (around_on t old) ≡ made f (work_of old)
unfolding work_of
work_made old t given rest r x at f items is grows made_is =
    let stay = parts_stay old.types t old.outside.items given old.value rest (lists_in old) old.point old.saved.items (ends_in old) old.seen.items old.pending.items (around_on old.types old) (around_on t old) (around_stays old t given grows) grows (sound_popped old rest r x items is) in
    ap (valued (type_of t at)) stay
    ∙ (ap (λ (type : Term). valued type (work_parts old.types old.value rest (lists_in old) old.point old.saved.items (ends_in old) old.seen.items old.pending.items (around_on old.types old))) made_is
    ∙ ap (λ (held : List Term). made_from f held (work_of old)) (sym (popped_last (type_of old.types) old.held.items rest r x items is)))

-- another map is at hand
pub work_mapped : (old : RuleState) (t : LocalTypes) (given : List TypeRef) (point : Point) (change : TypeMap → TypeMap) → Grows old.types t given → map_of t point ≡ change (map_of old.types old.point)
    → work_parts t old.value old.held.items (lists_in old) point old.saved.items (ends_in old) old.seen.items old.pending.items (around_on t old) ≡ mapped change (work_of old)
unfolding work_of
work_mapped old t given point change grows is = ap (λ (work : Work). record work { map = map_of t point }) (work_same old t given grows) ∙ ap (λ (m : TypeMap). record (work_of old) { map = m }) is

-- at the begin
pub work_begun : (types : LocalTypes) (value : TypeRef) (held : List TypeRef) (lists : List (List TypeRef)) (at : LocalMap) (saved : List Point) (ends : List (List Point)) (seen : List Seen) (pending : List ℕ) (around before : Around)
    → type_of types value ≡ unknown → ((n : ℕ) → entry_of types at n ≡ unknown) → around ≡ before → held ≡ [] → lists ≡ [] → saved ≡ [] → ends ≡ [] → seen ≡ [] → pending ≡ []
    → work_parts types value held lists (record { map = at; dead = false }) saved ends seen pending around ≡ begun before
work_begun types value held lists at saved ends seen pending around before is entries same no_held no_lists no_saved no_ends no_seen no_pending =
    let b : reverse (map (type_of types) held) ≡ [] = ap (λ xs. reverse (map (type_of types) xs)) no_held in
    let l : reverse (map (map (type_of types)) lists) ≡ [] = ap (λ xs. reverse (map (map (type_of types)) xs)) no_lists in
    let c : map_of types (record { map = at; dead = false }) ≡ no_map = ap (λ (entry : ℕ → Term). record { dead = false; entry = entry }) (λ i. λ n. entries n i) in
    let d : reverse (map (map_of types) saved) ≡ [] = ap (λ xs. reverse (map (map_of types) xs)) no_saved in
    let f : reverse (map (map (map_of types)) ends) ≡ [] = ap (λ xs. reverse (map (map (map_of types)) xs)) no_ends in
    let e : map (seen_of types) seen ≡ [] = ap (map (seen_of types)) no_seen in
    let g : reverse pending ≡ [] = ap reverse no_pending in
    cc
