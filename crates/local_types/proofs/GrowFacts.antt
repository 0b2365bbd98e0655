-- What calls on maps, one after another, add to them, and what stays.
use Rattle.std.proofs.Common.{◌≡◌, ℕ, ◌<◌, List, [], ◌∷◌, ◌++◌, length, get_or, refl, sym, ap, ◌∙◌, subst, arith}
use Rattle.std.specs.Prelude.{Result, Ok, Err, IfOk, OnErr, Option, Some, None, Bool, slice_get, All, IsTrue}
use Rattle.std.proofs.lemmas.Option.{slice_get_within, slice_get-get_or}
use Rattle.std.proofs.lemmas.List.Elements.{All-nil, All-cons, All-contains}
use Rattle.type_arena.specs.Arena.{home_of, below_of, store_of}
use Rattle.type_arena.specs.Homes.{Given, Reaches, itself, through, by_ref, by_literal, MayUse, own_home, given_literal, reached, literal_homes}
use Rattle.type_arena.specs.Meaning.{term_of}
use Rattle.type_arena.specs.Store.{Store, has, node_at, refs_of, Keeps}
use Rattle.type_arena.specs.Term.{Term}
use Rattle.type_arena.specs.declared.arena.Arena.{Arena}
use Rattle.type_arena.specs.declared.node.Node.{Node}
use Rattle.type_arena.specs.declared.node.TypeRef.{TypeRef}
use Rattle.type_normal.specs.Adds.{Adds}
use Rattle.type_normal.proofs.AddsFacts.{there_kept}
use Rattle.type_normal.specs.Growing.{given_refs}
use Rattle.local_types.specs.Entries.{arena_of, arenas_of, type_of, entry_of, entries_of_node, IsMap}
use Rattle.local_types.specs.Growing.{HaveHomes, StaysWithin, AreWithin, IsMadeOf, Grows}
use Rattle.local_types.specs.Maps.{by_number, ref_by, ref_of, types_in, places_in, TypesAreThere, PartsComeBefore}
use Rattle.local_types.specs.declared.node.LocalMap.{LocalMap}
use Rattle.local_types.specs.declared.node.MapNode.{MapNode}
use Rattle.local_types.specs.declared.node.MapNode.TheVariants.{All as Everywhere, Split}
use Rattle.local_types.specs.declared.node.Parts.{Parts}
use Rattle.local_types.specs.declared.types.LocalTypes.{LocalTypes}
use Rattle.local_types.proofs.MapFacts.{by_number-same, by_number-map, ref_of-node, ref_holds, ref_kept, last_node, more_nodes, each_more}

-- what was made of the one was made of the other
abbrev pub AreMadeOf : LocalTypes → List TypeRef → List TypeRef → Type 0
AreMadeOf types given refs = (test : ℕ → Bool) → AreWithin test types → HaveHomes test given → HaveHomes test refs

-- no call at all adds nothing
pub grows_nothing : (types : LocalTypes) (given : List TypeRef) → Grows types types given
grows_nothing types given = record {
  below = refl;
  home = refl;
  keeps = λ at node e. e;
  kept = λ at there. refl;
  maps = λ place node e. e;
  homes = λ test within given. within;
}

-- one call after another, where what the second is given was made of what the first was
pub grows_then : (a b c : LocalTypes) (given more : List TypeRef) → Grows a b given → Grows b c more → AreMadeOf a given more → Grows a c given
grows_then a b c given more first second made = record {
  below = second.below ∙ first.below;
  home = second.home ∙ first.home;
  keeps = λ at node e. second.keeps at node (first.keeps at node e);
  kept = λ at there. second.kept at (there_kept (arenas_of a) (arenas_of b) at first.keeps there) ∙ first.kept at there;
  maps = λ place node e. second.maps place node (first.maps place node e);
  homes = λ test within homes. second.homes test (first.homes test within homes) (made test within homes);
}

-- a type that is there stays there, and means what it meant
pub type_stands : (a b : LocalTypes) (given : List TypeRef) → Grows a b given → (at : TypeRef) → IsTrue (has (arenas_of a) at) → IsTrue (has (arenas_of b) at)
type_stands a b given grows at there = there_kept (arenas_of a) (arenas_of b) at grows.keeps there

pub type_stays : (a b : LocalTypes) (given : List TypeRef) → Grows a b given → (at : TypeRef) → IsTrue (has (arenas_of a) at) → type_of b at ≡ type_of a at
type_stays a b given grows at there = grows.kept at there

-- a map that stands there stays there
pub map_stands : (a b : LocalTypes) (given : List TypeRef) → Grows a b given → (map : LocalMap) → IsMap a map → IsMap b map
unfolding IsMap
map_stands a b given grows map is =
    slice_get_within b.nodes.items map.at (get_or a.nodes.items map.at (Everywhere (record { home = 0; id = 0 })))
    (grows.maps map.at _ (slice_get-get_or a.nodes.items map.at (Everywhere (record { home = 0; id = 0 })) is))

-- what a map has is there
pub entry_there : (types : LocalTypes) (map : LocalMap) → IsMap types map → (n : ℕ) → IsTrue (has (arenas_of types) (ref_of types.nodes.items map.at n))
unfolding IsMap
entry_there types map is n = ref_holds (λ at. IsTrue (has (arenas_of types) at)) types.nodes.items types.before types.there map.at is n

-- and it keeps its entries
pub entry_stays : (a b : LocalTypes) (given : List TypeRef) → Grows a b given → (map : LocalMap) → IsMap a map → (n : ℕ) → entry_of b map n ≡ entry_of a map n
unfolding entry_of IsMap
entry_stays a b given grows map is n =
    ap (type_of b) (ref_kept a.nodes.items b.nodes.items a.before grows.maps map.at is n)
    ∙ grows.kept (ref_of a.nodes.items map.at n) (entry_there a map is n)

pub map_stays : (a b : LocalTypes) (given : List TypeRef) → Grows a b given → (map : LocalMap) → IsMap a map → entry_of b map ≡ entry_of a map
map_stays a b given grows map is = λ i. λ n. entry_stays a b given grows map is n i

-- what a map has is by its node
pub entries_by_node : (types : LocalTypes) (map : LocalMap) (node : MapNode) → slice_get types.nodes.items map.at ≡ Some node → (n : ℕ) → entry_of types map n ≡ entries_of_node types node n
unfolding entry_of
entries_by_node types map node e n = ap (type_of types) (ref_of-node types.nodes.items map.at n ∙ ap (λ (o : Option MapNode). ref_by (ref_of types.nodes.items) o n) e) ∙ means node
  where
    means : (node : MapNode) → type_of types (ref_by (ref_of types.nodes.items) (Some node) n) ≡ entries_of_node types node n
    means (Everywhere at) = refl
    means (Split parts) = by_number-map (type_of types) parts.here (ref_of types.nodes.items parts.odd.at) (ref_of types.nodes.items parts.even.at) n

-- what may be used of references with homes that pass a test, in an arena that stays within them, passes it too
reaches_within : (arena : Arena) (test : ℕ → Bool) → StaysWithin test arena → {at far : TypeRef} → Reaches (store_of arena) at far → IsTrue (test at.home) → IsTrue (test far.home)
reaches_within arena test within itself passes = passes
reaches_within arena test within (through {at = at} {child = child} node e inside rest) passes =
    reaches_within arena test within rest (All-contains (λ r. IsTrue (test r.home)) (refs_of node) child (within.refs at node e passes) inside)

may_within : (arena : Arena) (test : ℕ → Bool) (refs : List TypeRef) → StaysWithin test arena → HaveHomes test refs → (home : ℕ) → MayUse (store_of arena) (home_of arena) (given_refs refs) home → IsTrue (test home)
may_within arena test refs within homes home own_home = within.own
may_within arena test refs within homes home (given_literal h inside) = let l : inside.0 < 0 = inside.1 in absurd (omega arith)
may_within arena test refs within homes home (reached at h inside (by_ref far way)) = reaches_within arena test within way (All-contains (λ r. IsTrue (test r.home)) refs at homes inside)
may_within arena test refs within homes home (reached at h inside (by_literal far node lit way e named)) =
    All-contains (λ x. IsTrue (test x)) (literal_homes node.functions) lit
    (within.literals far node e (reaches_within arena test within way (All-contains (λ r. IsTrue (test r.home)) refs at homes inside))) named

-- an arena that stays within some homes does so after a call that is given references with such homes
adds_within : (old new : Arena) (test : ℕ → Bool) (refs answers : List TypeRef) → Adds old new (given_refs refs) answers → StaysWithin test old → HaveHomes test refs → StaysWithin test new
adds_within old new test refs answers adds within homes = record {
  own = subst (λ (home : ℕ). IsTrue (test home)) (sym adds.home) within.own;
  refs = λ at node e passes. refs_by at node e passes (node_at (store_of old) at) refl;
  literals = λ at node e passes. literals_by at node e passes (node_at (store_of old) at) refl;
}
  where
    one : (at : TypeRef) (node there : Node) → node_at (store_of new) at ≡ Some node → node_at (store_of old) at ≡ Some there → there ≡ node
    one at node there e f = let k : node_at (store_of new) at ≡ Some there = adds.keeps at there f in cc

    refs_by : (at : TypeRef) (node : Node) → node_at (store_of new) at ≡ Some node → IsTrue (test at.home) → (found : Option Node) → node_at (store_of old) at ≡ found → HaveHomes test (refs_of node)
    refs_by at node e passes None f = λ k d l. may_within old test refs within homes _ (adds.homes.refs at node e f k d l)
    refs_by at node e passes (Some there) f = subst (λ (n : Node). HaveHomes test (refs_of n)) (one at node there e f) (within.refs at there f passes)

    literals_by : (at : TypeRef) (node : Node) → node_at (store_of new) at ≡ Some node → IsTrue (test at.home) → (found : Option Node) → node_at (store_of old) at ≡ found → All (λ home. IsTrue (test home)) (literal_homes node.functions)
    literals_by at node e passes None f = λ k d l. may_within old test refs within homes _ (adds.homes.literals at node e f k d l)
    literals_by at node e passes (Some there) f = subst (λ (n : Node). All (λ home. IsTrue (test home)) (literal_homes n.functions)) (one at node there e f) (within.literals at there f passes)

-- a call on the arena alone
pub arena_grows : (a b : LocalTypes) (given answers : List TypeRef) → b.nodes.items ≡ a.nodes.items → Adds (arena_of a) (arena_of b) (given_refs given) answers → Grows a b given
arena_grows a b given answers same adds = record {
  below = adds.below;
  home = adds.home;
  keeps = adds.keeps;
  kept = adds.kept;
  maps = λ place node e. ap (λ (nodes : List MapNode). slice_get nodes place) same ∙ e;
  homes = λ test within homes. record {
    arena = adds_within (arena_of a) (arena_of b) test given answers adds within.arena homes;
    maps = λ place node e. within.maps place node (sym (ap (λ (nodes : List MapNode). slice_get nodes place) same) ∙ e);
  };
}

-- and its answer
pub answer_made : (a : LocalTypes) (new : Arena) (given : List TypeRef) (at : TypeRef) → Adds (arena_of a) new (given_refs given) (at ∷ []) → IsMadeOf a given at
answer_made a new given at adds test within homes = may_within (arena_of a) test given within.arena homes at.home (adds.homes.answered 0 at (omega arith))

-- types that are there stay there while the arena grows
pub there_on : (old new : Store) (nodes : List MapNode) → Keeps old new → TypesAreThere old nodes → TypesAreThere new nodes
there_on old new nodes keeps there place node e k d l = there_kept old new _ keeps (there place node e k d l)

-- what a node of a map names is made of what is there
pub node_made : (types : LocalTypes) (place : ℕ) (node : MapNode) → slice_get types.nodes.items place ≡ Some node → All (IsMadeOf types []) (types_in node)
node_made types place node e k d l test within homes = within.maps place node e k d l

-- a place before the end is that of a map
pub part_is : (types : LocalTypes) (map : LocalMap) → map.at < length types.nodes.items → IsMap types map
unfolding IsMap
part_is types map inside = inside

-- what is made of nothing is made of anything
pub one_made : (types : LocalTypes) (given : List TypeRef) (at : TypeRef) → IsMadeOf types [] at → AreMadeOf types given (at ∷ [])
one_made types given at made test within homes =
    All-cons (λ (r : TypeRef). IsTrue (test r.home)) at [] (made test within (All-nil (λ (r : TypeRef). IsTrue (test r.home)))) (All-nil (λ (r : TypeRef). IsTrue (test r.home)))

-- one more map, of types that are there and of maps that stand there
pub pushed_there : (a : LocalTypes) (node : MapNode) → All (λ at. IsTrue (has (arenas_of a) at)) (types_in node) → TypesAreThere (arenas_of a) (a.nodes.items ++ node ∷ [])
pushed_there a node there = each_more (λ place n. All (λ at. IsTrue (has (arenas_of a) at)) (types_in n)) a.nodes.items node a.there there

pub pushed_before : (a : LocalTypes) (node : MapNode) → All (λ part. part < length a.nodes.items) (places_in node) → PartsComeBefore (a.nodes.items ++ node ∷ [])
pushed_before a node parts = each_more (λ place n. All (λ part. part < place) (places_in n)) a.nodes.items node a.before parts

pub pushed_grows : (a b : LocalTypes) (node : MapNode) → arena_of b ≡ arena_of a → b.nodes.items ≡ a.nodes.items ++ node ∷ [] → Grows a b (types_in node)
pushed_grows a b node same nodes = record {
  below = ap below_of same;
  home = ap home_of same;
  keeps = λ at other e. ap (λ (arena : Arena). node_at (store_of arena) at) same ∙ e;
  kept = λ at there. ap (λ (arena : Arena). term_of (store_of arena) at) same;
  maps = λ place other e. ap (λ (xs : List MapNode). slice_get xs place) nodes ∙ more_nodes a.nodes.items node place other e;
  homes = λ test within homes. record {
    arena = subst (StaysWithin test) (sym same) within.arena;
    maps = λ place other e. each_more (λ k n. HaveHomes test (types_in n)) a.nodes.items node within.maps homes place other (sym (ap (λ (xs : List MapNode). slice_get xs place) nodes) ∙ e);
  };
}

pub pushed_map : (a b : LocalTypes) (node : MapNode) (map : LocalMap) → b.nodes.items ≡ a.nodes.items ++ node ∷ [] → map.at ≡ length a.nodes.items → slice_get b.nodes.items map.at ≡ Some node
pushed_map a b node map nodes place = ap (λ (xs : List MapNode). slice_get xs map.at) nodes ∙ ap (λ (k : ℕ). slice_get (a.nodes.items ++ node ∷ []) k) place ∙ last_node a.nodes.items node

pub pushed_is : (a b : LocalTypes) (node : MapNode) (map : LocalMap) → b.nodes.items ≡ a.nodes.items ++ node ∷ [] → map.at ≡ length a.nodes.items → IsMap b map
unfolding IsMap
pushed_is a b node map nodes place = slice_get_within b.nodes.items map.at node (pushed_map a b node map nodes place)

-- its entries, by what was there before
pub pushed_entries : (a b : LocalTypes) (node : MapNode) (map : LocalMap) → arena_of b ≡ arena_of a → b.nodes.items ≡ a.nodes.items ++ node ∷ [] → map.at ≡ length a.nodes.items
    → All (λ at. IsTrue (has (arenas_of a) at)) (types_in node) → All (λ part. part < length a.nodes.items) (places_in node) → (n : ℕ) → entry_of b map n ≡ entries_of_node a node n
pushed_entries a b node map same nodes place there parts n = entries_by_node b map node (pushed_map a b node map nodes place) n ∙ node_stays a b node (pushed_grows a b node same nodes) there parts n
  where
    node_stays : (a b : LocalTypes) (node : MapNode) → Grows a b (types_in node) → All (λ at. IsTrue (has (arenas_of a) at)) (types_in node) → All (λ part. part < length a.nodes.items) (places_in node)
        → (n : ℕ) → entries_of_node b node n ≡ entries_of_node a node n
    node_stays a b (Everywhere at) grows there parts n = grows.kept at (there 0 at (omega arith))
    node_stays a b (Split p) grows there parts n =
        by_number-same (type_of b p.here) (type_of a p.here) (entry_of b p.odd) (entry_of b p.even) (entry_of a p.odd) (entry_of a p.even) n
        (grows.kept p.here (there 0 p.here (omega arith)))
        (λ m l. entry_stays a b _ grows p.odd (part_is a p.odd (parts 0 0 (omega arith))) m)
        (λ m l. entry_stays a b _ grows p.even (part_is a p.even (parts 1 0 (omega arith))) m)

-- what is made of some is made of what these are made of
pub made_then : (a b : LocalTypes) (given more : List TypeRef) (at : TypeRef) → Grows a b given → AreMadeOf a given more → IsMadeOf b more at → IsMadeOf a given at
made_then a b given more at grows made last test within homes = last test (grows.homes test within homes) (made test within homes)

pub made_one : (a : LocalTypes) (given : List TypeRef) (at : TypeRef) → IsMadeOf a given at → AreMadeOf a given (at ∷ [])
made_one a given at made test within homes = All-cons (λ (r : TypeRef). IsTrue (test r.home)) at [] (made test within homes) (All-nil (λ (r : TypeRef). IsTrue (test r.home)))

pub made_two : (a : LocalTypes) (given : List TypeRef) (at other : TypeRef) → IsMadeOf a given at → IsMadeOf a given other → AreMadeOf a given (at ∷ other ∷ [])
made_two a given at other made also test within homes = All-cons (λ (r : TypeRef). IsTrue (test r.home)) at (other ∷ []) (made test within homes) (made_one a given other also test within homes)

-- a call that is given what was made of less
pub grows_less : (a b : LocalTypes) (given more : List TypeRef) → Grows a b more → AreMadeOf a given more → Grows a b given
grows_less a b given more grows made = grows_then a a b given more (grows_nothing a given) grows made

-- an arena keeps its nodes, whether a call gave a value or not
pub call_keeps : {E : Type 0} (a b : Arena) (given : Given) (r : Result TypeRef E) → IfOk r (λ at. Adds a b given (at ∷ [])) → OnErr r (Adds a b given []) → Keeps (store_of a) (store_of b)
call_keeps a b given (Ok at) ok err = ok.keeps
call_keeps a b given (Err e) ok err = err.keeps

-- the parts of a map stand there
pub odd_stands : (types : LocalTypes) (map : LocalMap) (parts : Parts) → IsMap types map → All (λ part. part < map.at) (places_in (Split parts)) → IsMap types parts.odd
unfolding IsMap
odd_stands types map parts is below = let low : parts.odd.at < map.at = below 0 0 (omega arith) in omega (arith, is)

pub even_stands : (types : LocalTypes) (map : LocalMap) (parts : Parts) → IsMap types map → All (λ part. part < map.at) (places_in (Split parts)) → IsMap types parts.even
unfolding IsMap
even_stands types map parts is below = let low : parts.even.at < map.at = below 1 0 (omega arith) in omega (arith, is)

-- a map that is built of parts, one after another
pub built : (b c d e : LocalTypes) (given more : List TypeRef) (parts : Parts) (new : LocalMap) (x : Term) (f g : ℕ → Term) → Grows b c given → Grows c d more → IsTrue (has (arenas_of b) parts.here) → IsMap c parts.odd
    → type_of b parts.here ≡ x → ((n : ℕ) → entry_of c parts.odd n ≡ f n) → ((n : ℕ) → entry_of d parts.even n ≡ g n)
    → ((n : ℕ) → entry_of e new n ≡ by_number (type_of d parts.here) (entry_of d parts.odd) (entry_of d parts.even) n) → (n : ℕ) → entry_of e new n ≡ by_number x f g n
built b c d e given more parts new x f g first second there is here odd even entries n =
    entries n
    ∙ by_number-same (type_of d parts.here) x (entry_of d parts.odd) (entry_of d parts.even) f g n
    (second.kept parts.here (type_stands b c given first parts.here there) ∙ first.kept parts.here there ∙ here)
    (λ m l. entry_stays c d more second parts.odd is m ∙ odd m)
    (λ m l. even m)

-- one call after another, each of which is given nothing
pub grows_on : (a b c : LocalTypes) → Grows a b [] → Grows b c [] → Grows a c []
grows_on a b c first second = grows_then a b c [] [] first second (λ test within homes. homes)

-- what is made of what is there
pub made_from : (a : LocalTypes) (at other : TypeRef) → IsMadeOf a (at ∷ []) other → IsMadeOf a [] at → AreMadeOf a [] (other ∷ [])
made_from a at other made there = made_one a [] other (λ test within homes. made test within (made_one a [] at there test within homes))

pub made_from_two : (a : LocalTypes) (x y other : TypeRef) → IsMadeOf a (x ∷ y ∷ []) other → IsMadeOf a [] x → IsMadeOf a [] y → AreMadeOf a [] (other ∷ [])
made_from_two a x y other made first second = made_one a [] other (λ test within homes. made test within (made_two a [] x y first second test within homes))

-- what may be used where only a literal of the own home is given may be used where nothing is
may_own : (arena : Arena) (own : ℕ) → own ≡ home_of arena → (home : ℕ) → MayUse (store_of arena) (home_of arena) (record { refs = []; literals = own ∷ [] }) home → MayUse (store_of arena) (home_of arena) (given_refs []) home
may_own arena own e home own_home = own_home
may_own arena own e home (given_literal h inside) =
    let alone : All (λ x. x ≡ home_of arena) (own ∷ []) = All-cons (λ x. x ≡ home_of arena) own [] e (All-nil (λ x. x ≡ home_of arena)) in
    subst (λ (x : ℕ). MayUse (store_of arena) (home_of arena) (given_refs []) x) (sym (All-contains (λ x. x ≡ home_of arena) (own ∷ []) home alone inside)) own_home
may_own arena own e home (reached at h inside way) = let l : inside.0 < 0 = inside.1 in absurd (omega arith)

-- a call that is given one literal of the own home is given nothing else
pub own_literal : (old new : Arena) (own : ℕ) (answers : List TypeRef) → own ≡ home_of old → Adds old new (record { refs = []; literals = own ∷ [] }) answers → Adds old new (given_refs []) answers
own_literal old new own answers e adds = record {
  below = adds.below;
  home = adds.home;
  keeps = adds.keeps;
  kept = adds.kept;
  homes = record {
    answered = λ k at is. may_own old own e _ (adds.homes.answered k at is);
    refs = λ at node is none k child inside. may_own old own e _ (adds.homes.refs at node is none k child inside);
    literals = λ at node is none k home inside. may_own old own e _ (adds.homes.literals at node is none k home inside);
  };
}
