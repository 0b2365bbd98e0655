-- The parts of maps, side by side, and what is built of them.
use Rattle.std.proofs.Common.{◌≡◌, ℕ, zero, suc, ◌+◌, ◌/◌, ◌<◌, max, [], refl, sym, ap, ◌∙◌, subst, arith}
use Rattle.std.specs.Prelude.{List, Some, None, Bool, true, false, All, IsTrue, if◌then◌else◌}
use Rattle.std.proofs.lemmas.Option.{same_Some}
use Rattle.type_arena.specs.Store.{has}
use Rattle.type_arena.specs.Term.{Term}
use Rattle.type_arena.specs.declared.node.TypeRef.{TypeRef}
use Rattle.local_types.specs.Both.{both_all, parts_of, entries_of_parts, ArePartsThere}
use Rattle.local_types.specs.Entries.{arenas_of, type_of, entry_of, entries_of_node, IsMap}
use Rattle.local_types.specs.Growing.{IsMadeOf, Grows}
use Rattle.local_types.specs.Maps.{is_even, by_number, types_in, places_in}
use Rattle.local_types.specs.declared.node.LocalMap.{LocalMap}
use Rattle.local_types.specs.declared.node.MapNode.{MapNode}
use Rattle.local_types.specs.declared.node.MapNode.TheVariants.{All as Everywhere, Split}
use Rattle.local_types.specs.declared.node.Parts.{Parts}
use Rattle.local_types.specs.declared.types.LocalTypes.{LocalTypes}
use Rattle.local_types.proofs.MapFacts.{by_number-map}
use Rattle.local_types.proofs.GrowFacts.{odd_stands, even_stands, map_stands, entry_stays, grows_on, built}

-- one value everywhere is it by numbers too
by_number-one : {X : Type 0} (x : X) (f : ℕ → X) → ((n : ℕ) → f n ≡ x) → (n : ℕ) → x ≡ by_number x f f n
by_number-one x f same zero = refl
by_number-one {X} x f same (suc m) = go (is_even m)
  where
    go : (b : Bool) → ◌≡◌ {A = X} x (if b then f (m / 2) else f (m / 2))
    go true = sym (same (m / 2))
    go false = sym (same (m / 2))

-- a function of the entries of two maps goes to the parts
by_number-two : {X : Type 0} (f : X → X → X) (x y : X) (odd even other_odd other_even : ℕ → X) (n : ℕ)
    → f (by_number x odd even n) (by_number y other_odd other_even n) ≡ by_number (f x y) (λ k. f (odd k) (other_odd k)) (λ k. f (even k) (other_even k)) n
by_number-two f x y odd even other_odd other_even zero = refl
by_number-two {X} f x y odd even other_odd other_even (suc m) = go (is_even m)
  where
    go : (b : Bool) → ◌≡◌ {A = X} (f (if b then odd (m / 2) else even (m / 2)) (if b then other_odd (m / 2) else other_even (m / 2))) (if b then f (odd (m / 2)) (other_odd (m / 2)) else f (even (m / 2)) (other_even (m / 2)))
    go true = refl
    go false = refl

pub parts_there : (types : LocalTypes) (map : LocalMap) (node : MapNode) → IsMap types map → All (λ at. IsTrue (has (arenas_of types) at)) (types_in node) → All (IsMadeOf types []) (types_in node)
    → All (λ part. part < map.at) (places_in node) → ArePartsThere types (parts_of map node)
parts_there types map (Everywhere at) is there made below = record { here = there 0 at (omega arith); made = made 0 at (omega arith); odd = is; even = is }
parts_there types map (Split parts) is there made below =
    record { here = there 0 parts.here (omega arith); made = made 0 parts.here (omega arith); odd = odd_stands types map parts is below; even = even_stands types map parts is below }

pub parts_entries : (types : LocalTypes) (map : LocalMap) (node : MapNode) → ((n : ℕ) → entry_of types map n ≡ entries_of_node types node n) → (n : ℕ) → entry_of types map n ≡ entries_of_parts types (parts_of map node) n
parts_entries types map (Everywhere at) entries n = entries n ∙ by_number-one (type_of types at) (entry_of types map) entries n
parts_entries types map (Split parts) entries n = entries n

-- how far down the parts of two maps stand
abbrev pub depth_of_parts : Parts → Parts → ℕ
depth_of_parts a b = max (a.odd.at + b.odd.at) (a.even.at + b.even.at)

pub parts_lower : (a b : LocalMap) (first second : MapNode) → None ≡ both_all first second → All (λ part. part < a.at) (places_in first) → All (λ part. part < b.at) (places_in second)
    → depth_of_parts (parts_of a first) (parts_of b second) < a.at + b.at
parts_lower a b (Everywhere x) (Everywhere y) e low high = absurd (cc)
parts_lower a b (Everywhere x) (Split q) e low high =
    let odd : q.odd.at < b.at = high 0 0 (omega arith) in let even : q.even.at < b.at = high 1 0 (omega arith) in omega arith
parts_lower a b (Split p) (Everywhere y) e low high =
    let odd : p.odd.at < a.at = low 0 0 (omega arith) in let even : p.even.at < a.at = low 1 0 (omega arith) in omega arith
parts_lower a b (Split p) (Split q) e low high =
    let odd : p.odd.at < a.at = low 0 0 (omega arith) in let even : p.even.at < a.at = low 1 0 (omega arith) in
    let other_odd : q.odd.at < b.at = high 0 0 (omega arith) in let other_even : q.even.at < b.at = high 1 0 (omega arith) in omega arith

-- two maps that have one type each for all numbers
first_all : (first second : MapNode) (pair : TypeRef × TypeRef) → Some pair ≡ both_all first second → first ≡ Everywhere pair.0
first_all (Everywhere at) (Everywhere other) pair e = sym (ap (λ (p : TypeRef × TypeRef). Everywhere p.0) (same_Some pair (at, other) e))
first_all (Everywhere at) (Split q) pair e = absurd (cc)
first_all (Split p) second pair e = absurd (cc)

second_all : (first second : MapNode) (pair : TypeRef × TypeRef) → Some pair ≡ both_all first second → second ≡ Everywhere pair.1
second_all (Everywhere at) (Everywhere other) pair e = sym (ap (λ (p : TypeRef × TypeRef). Everywhere p.1) (same_Some pair (at, other) e))
second_all (Everywhere at) (Split q) pair e = absurd (cc)
second_all (Split p) second pair e = absurd (cc)

pub of_first : (P : TypeRef → Type 0) (first second : MapNode) (pair : TypeRef × TypeRef) → Some pair ≡ both_all first second → All P (types_in first) → P pair.0
of_first P first second pair e all = let h = subst (λ (node : MapNode). All P (types_in node)) (first_all first second pair e) all in h 0 pair.0 (omega arith)

pub of_second : (P : TypeRef → Type 0) (first second : MapNode) (pair : TypeRef × TypeRef) → Some pair ≡ both_all first second → All P (types_in second) → P pair.1
of_second P first second pair e all = let h = subst (λ (node : MapNode). All P (types_in node)) (second_all first second pair e) all in h 0 pair.1 (omega arith)

-- a map of one type for all numbers, changed
pub all_changed : (f : Term → Term) (a b c : LocalTypes) (given : List TypeRef) (map new : LocalMap) (at other : TypeRef) → ((n : ℕ) → entry_of a map n ≡ type_of a at) → type_of b other ≡ f (type_of a at)
    → ((n : ℕ) → entry_of c new n ≡ type_of b other) → (n : ℕ) → entry_of c new n ≡ f (entry_of a map n)
all_changed f a b c given map new at other old same entries n = entries n ∙ same ∙ ap f (sym (old n))

-- a map of parts, changed
pub parts_changed : (f : Term → Term) (a : LocalTypes) (map : LocalMap) (parts : Parts) (result : ℕ → Term) → ((n : ℕ) → entry_of a map n ≡ entries_of_parts a parts n)
    → ((n : ℕ) → result n ≡ by_number (f (type_of a parts.here)) (λ k. f (entry_of a parts.odd k)) (λ k. f (entry_of a parts.even k)) n) → (n : ℕ) → result n ≡ f (entry_of a map n)
parts_changed f a map parts result old new n =
    new n ∙ sym (by_number-map f (type_of a parts.here) (entry_of a parts.odd) (entry_of a parts.even) n) ∙ ap f (sym (old n))

-- two maps of one type each for all numbers, combined
pub all_combined : (f : Term → Term → Term) (a : LocalTypes) (map other : LocalMap) (first second : MapNode) (pair : TypeRef × TypeRef) → Some pair ≡ both_all first second
    → ((n : ℕ) → entry_of a map n ≡ entries_of_node a first n) → ((n : ℕ) → entry_of a other n ≡ entries_of_node a second n) → (n : ℕ) → f (type_of a pair.0) (type_of a pair.1) ≡ f (entry_of a map n) (entry_of a other n)
all_combined f a map other first second pair e left right n =
    let l : entry_of a map n ≡ type_of a pair.0 = left n ∙ ap (λ (node : MapNode). entries_of_node a node n) (first_all first second pair e) in
    let r : entry_of a other n ≡ type_of a pair.1 = right n ∙ ap (λ (node : MapNode). entries_of_node a node n) (second_all first second pair e) in
    sym (λ i. f (l i) (r i))

-- two maps of parts, combined
pub parts_combined : (f : Term → Term → Term) (a : LocalTypes) (p q : Parts) (result : ℕ → Term)
    → ((n : ℕ) → result n ≡ by_number (f (type_of a p.here) (type_of a q.here)) (λ k. f (entry_of a p.odd k) (entry_of a q.odd k)) (λ k. f (entry_of a p.even k) (entry_of a q.even k)) n)
    → (n : ℕ) → result n ≡ f (entries_of_parts a p n) (entries_of_parts a q n)
parts_combined f a p q result new n =
    new n ∙ sym (by_number-two f (type_of a p.here) (type_of a q.here) (entry_of a p.odd) (entry_of a p.even) (entry_of a q.odd) (entry_of a q.even) n)

-- a map is changed part by part
pub changed_built : (f : Term → Term) (a b c d e : LocalTypes) (map new odd even : LocalMap) (here : TypeRef) (old : Parts)
    → IsMap a old.odd → IsMap a old.even → ((n : ℕ) → entry_of a map n ≡ entries_of_parts a old n)
    → Grows a b [] → Grows b c [] → Grows c d [] → IsTrue (has (arenas_of b) here) → IsMap c odd
    → type_of b here ≡ f (type_of a old.here) → ((n : ℕ) → entry_of c odd n ≡ f (entry_of b old.odd n)) → ((n : ℕ) → entry_of d even n ≡ f (entry_of c old.even n))
    → ((n : ℕ) → entry_of e new n ≡ by_number (type_of d here) (entry_of d odd) (entry_of d even) n) → (n : ℕ) → entry_of e new n ≡ f (entry_of a map n)
changed_built f a b c d e map new odd even here old odd_is even_is entries ab bc cd there stands head left right made =
    parts_changed f a map old (entry_of e new) entries
    (built b c d e [] [] (record { here = here; odd = odd; even = even }) new (f (type_of a old.here)) (λ k. f (entry_of a old.odd k)) (λ k. f (entry_of a old.even k)) bc cd there stands head
    (λ n. left n ∙ ap f (entry_stays a b [] ab old.odd odd_is n))
    (λ n. right n ∙ ap f (entry_stays a c [] (grows_on a b c ab bc) old.even even_is n))
    made)

-- two maps are combined part by part
pub combined_built : (f : Term → Term → Term) (a b c d e : LocalTypes) (new odd even : LocalMap) (here : TypeRef) (p q : Parts)
    → ArePartsThere a p → ArePartsThere a q → Grows a b [] → Grows b c [] → Grows c d [] → IsTrue (has (arenas_of b) here) → IsMap c odd
    → type_of b here ≡ f (type_of a p.here) (type_of a q.here) → ((n : ℕ) → entry_of c odd n ≡ f (entry_of b p.odd n) (entry_of b q.odd n))
    → ((n : ℕ) → entry_of d even n ≡ f (entry_of c p.even n) (entry_of c q.even n))
    → ((n : ℕ) → entry_of e new n ≡ by_number (type_of d here) (entry_of d odd) (entry_of d even) n) → (n : ℕ) → entry_of e new n ≡ f (entries_of_parts a p n) (entries_of_parts a q n)
combined_built f a b c d e new odd even here p q first second ab bc cd there stands head left right made =
    parts_combined f a p q (entry_of e new)
    (built b c d e [] [] (record { here = here; odd = odd; even = even }) new (f (type_of a p.here) (type_of a q.here)) (λ k. f (entry_of a p.odd k) (entry_of a q.odd k)) (λ k. f (entry_of a p.even k) (entry_of a q.even k))
    bc cd there stands head
    (λ n. let l = entry_stays a b [] ab p.odd first.odd n in let r = entry_stays a b [] ab q.odd second.odd n in left n ∙ (λ i. f (l i) (r i)))
    (λ n. let l = entry_stays a c [] (grows_on a b c ab bc) p.even first.even n in let r = entry_stays a c [] (grows_on a b c ab bc) q.even second.even n in right n ∙ (λ i. f (l i) (r i)))
    made)

-- and so they are by their nodes
pub combined_nodes : (f : Term → Term → Term) (s : LocalTypes) (a b : LocalMap) (first second : MapNode) (p q : Parts) (result : ℕ → Term) → p ≡ parts_of a first → q ≡ parts_of b second
    → ((n : ℕ) → entry_of s a n ≡ entries_of_node s first n) → ((n : ℕ) → entry_of s b n ≡ entries_of_node s second n)
    → ((n : ℕ) → result n ≡ f (entries_of_parts s p n) (entries_of_parts s q n)) → (n : ℕ) → result n ≡ f (entry_of s a n) (entry_of s b n)
combined_nodes f s a b first second p q result left right one two made n =
    let l : entries_of_parts s p n ≡ entry_of s a n = ap (λ (x : Parts). entries_of_parts s x n) left ∙ sym (parts_entries s a first one n) in
    let r : entries_of_parts s q n ≡ entry_of s b n = ap (λ (x : Parts). entries_of_parts s x n) right ∙ sym (parts_entries s b second two n) in
    made n ∙ (λ i. f (l i) (r i))

pub nodes_there : (s : LocalTypes) (map : LocalMap) (node : MapNode) (p : Parts) → p ≡ parts_of map node → IsMap s map → All (λ at. IsTrue (has (arenas_of s) at)) (types_in node) → All (IsMadeOf s []) (types_in node)
    → All (λ part. part < map.at) (places_in node) → ArePartsThere s p
nodes_there s map node p e is there made below = subst (ArePartsThere s) (sym e) (parts_there s map node is there made below)

pub nodes_lower : (a b : LocalMap) (first second : MapNode) (p q : Parts) → p ≡ parts_of a first → q ≡ parts_of b second → None ≡ both_all first second
    → All (λ part. part < a.at) (places_in first) → All (λ part. part < b.at) (places_in second) → depth_of_parts p q < a.at + b.at
nodes_lower a b first second p q left right e low high =
    let same : depth_of_parts p q ≡ depth_of_parts (parts_of a first) (parts_of b second) = λ i. depth_of_parts (left i) (right i) in
    let lower : depth_of_parts (parts_of a first) (parts_of b second) < a.at + b.at = parts_lower a b first second e low high in
    subst (λ (k : ℕ). k < a.at + b.at) (sym same) lower

-- parts that stand there stand there after a call
pub odd_on : (a b : LocalTypes) (parts : Parts) → ArePartsThere a parts → Grows a b [] → IsMap b parts.odd
odd_on a b parts there grows = map_stands a b [] grows parts.odd there.odd

pub even_on : (a b : LocalTypes) (parts : Parts) → ArePartsThere a parts → Grows a b [] → IsMap b parts.even
even_on a b parts there grows = map_stands a b [] grows parts.even there.even
