-- Lemmas on arenas of which each stands at the position that is its home.
use Rattle.std.proofs.Common.{◌≡◌, ℕ, zero, suc, ◌+◌, ◌<◌, ◌≤◌, List, [], ◌∷◌, length, refl, ap, sym, subst, ◌∙◌, arith, Bool, true, false}
use Rattle.std.specs.Prelude.{Option, Some, None, is_some, slice_get, slice_index_or, IsTrue, All, nat_lt}
use Rattle.std.specs.Option.{option_map_or, option_map}
use Rattle.std.proofs.lemmas.Option.{slice_get_past, slice_get-map, slice_get-get_or}
use Rattle.std.proofs.lemmas.Bool.Decides.{nat_tests}
use Rattle.std.proofs.lemmas.Bool.{ltb-true}
use Rattle.type_arena.proofs.StoreLemmas.{is_some-slice_get, same_ref}
use Rattle.type_arena.specs.Store.{Holding, Store, nodes_at, node_at, has, refs_of, is_older, IsPlaced, IsClosed, IsSound}
use Rattle.type_arena.specs.Frozen.{holding_of, holdings_of}
use Rattle.type_arena.specs.declared.node.Node.{Node}
use Rattle.type_arena.specs.declared.node.TypeRef.{TypeRef}
use Rattle.type_arena.specs.declared.frozen.Frozen.{Frozen}

-- the nodes of an arena, if there is one
abbrev pub nodes_or_none : Option Holding → List Node
nodes_or_none found = option_map_or (λ arena. arena.nodes) found []

-- where homes count up from a number, the arena of a home is at the home's distance from it
nodes_at-from : (store : Store) (first : ℕ) → ((place : ℕ) (arena : Holding) → slice_get store place ≡ Some arena → arena.home ≡ first + place) → (place : ℕ) → nodes_at store (first + place) ≡ nodes_or_none (slice_get store place)
nodes_at-from [] first placed place = refl
nodes_at-from (arena ∷ arenas) first placed zero =
    let e : arena.home ≡ first + 0 = placed zero arena refl in
    grind (arith, nat_tests)
nodes_at-from (arena ∷ arenas) first placed (suc place) =
    let e : arena.home ≡ first + 0 = placed zero arena refl in
    let rest : nodes_at arenas (suc first + place) ≡ nodes_or_none (slice_get arenas place) = nodes_at-from arenas (suc first) (λ k a h. (placed (suc k) a h) ∙ (omega arith)) place in
    let same : suc first + place ≡ first + suc place = omega arith in
    let rest' : nodes_at arenas (first + suc place) ≡ nodes_or_none (slice_get arenas place) = rw same at rest in
    grind (arith, nat_tests)

-- the nodes of a home are those of the arena at that position
pub nodes_at-placed : (store : Store) → IsPlaced store → (home : ℕ) → nodes_at store home ≡ nodes_or_none (slice_get store home)
nodes_at-placed store placed home =
    let h : nodes_at store (0 + home) ≡ nodes_or_none (slice_get store home) = nodes_at-from store 0 (λ k a e. placed k a e ∙ (omega arith)) home in
    let same : 0 + home ≡ home = omega arith in
    rw same at h

-- so at a position there is the node of the arena there
pub node_at-found : (arenas : List Frozen) → IsPlaced (holdings_of arenas) → (at : TypeRef) (arena : Frozen) → slice_get arenas at.home ≡ Some arena → node_at (holdings_of arenas) at ≡ slice_get arena.nodes.keys at.id
node_at-found arenas placed at arena found =
    let seen : slice_get (holdings_of arenas) at.home ≡ option_map holding_of (slice_get arenas at.home) = slice_get-map holding_of arenas at.home in
    let nodes : nodes_at (holdings_of arenas) at.home ≡ nodes_or_none (slice_get (holdings_of arenas) at.home) = nodes_at-placed (holdings_of arenas) placed at.home in
    let all : nodes_at (holdings_of arenas) at.home ≡ arena.nodes.keys = nodes ∙ ap nodes_or_none (seen ∙ ap (option_map holding_of) found) in
    ap (λ (xs : List Node). slice_get xs at.id) all

pub node_at-within : (arenas : List Frozen) → IsPlaced (holdings_of arenas) → (at : TypeRef) (other : Frozen) → at.home < length arenas → node_at (holdings_of arenas) at ≡ slice_get (slice_index_or arenas at.home other).nodes.keys at.id
node_at-within arenas placed at other within = node_at-found arenas placed at _ (slice_get-get_or arenas at.home other within)

-- and where there is no arena, there is no node
pub node_at-none : (arenas : List Frozen) → IsPlaced (holdings_of arenas) → (at : TypeRef) → slice_get arenas at.home ≡ None → node_at (holdings_of arenas) at ≡ None
node_at-none arenas placed at found =
    let seen : slice_get (holdings_of arenas) at.home ≡ option_map holding_of (slice_get arenas at.home) = slice_get-map holding_of arenas at.home in
    let nodes : nodes_at (holdings_of arenas) at.home ≡ nodes_or_none (slice_get (holdings_of arenas) at.home) = nodes_at-placed (holdings_of arenas) placed at.home in
    let all : nodes_at (holdings_of arenas) at.home ≡ [] = nodes ∙ ap nodes_or_none (seen ∙ ap (option_map holding_of) found) in
    ap (λ (xs : List Node). slice_get xs at.id) all

pub node_at-past : (arenas : List Frozen) → IsPlaced (holdings_of arenas) → (at : TypeRef) → length arenas ≤ at.home → node_at (holdings_of arenas) at ≡ None
node_at-past arenas placed at past = node_at-none arenas placed at (slice_get_past arenas at.home past)

-- an id is there where it is below the number of nodes
pub has-within : (arenas : List Frozen) → IsPlaced (holdings_of arenas) → (at : TypeRef) (other : Frozen) → at.home < length arenas → has (holdings_of arenas) at ≡ nat_lt at.id (length (slice_index_or arenas at.home other).nodes.keys)
has-within arenas placed at other within =
    ap is_some (node_at-within arenas placed at other within) ∙ is_some-slice_get (slice_index_or arenas at.home other).nodes.keys at.id

-- what is there has the position of an arena as its home
pub has-home : (arenas : List Frozen) → IsPlaced (holdings_of arenas) → (at : TypeRef) → IsTrue (has (holdings_of arenas) at) → at.home < length arenas
has-home arenas placed at there = go (nat_lt at.home (length arenas)) refl
  where
    go : (test : Bool) → nat_lt at.home (length arenas) ≡ test → at.home < length arenas
    go true e = ltb-true _ _ e
    go false e =
        let past : length arenas ≤ at.home = grind (arith, nat_tests) in
        let none : has (holdings_of arenas) at ≡ false = ap is_some (node_at-past arenas placed at past) in
        cc

-- and an id below the number of that arena's nodes
pub has-id : (arenas : List Frozen) → IsPlaced (holdings_of arenas) → (at : TypeRef) (other : Frozen) → IsTrue (has (holdings_of arenas) at) → at.id < length (slice_index_or arenas at.home other).nodes.keys
has-id arenas placed at other there =
    ltb-true _ _ (sym (has-within arenas placed at other (has-home arenas placed at there)) ∙ there)

-- a node that is there is one of the arena at that position
pub arena_of-node : (arenas : List Frozen) → IsPlaced (holdings_of arenas) → (at : TypeRef) (node : Node) → node_at (holdings_of arenas) at ≡ Some node → (arena : Frozen) × (slice_get arenas at.home ≡ Some arena) × (arena.home ≡ at.home) × (slice_get arena.nodes.keys at.id ≡ Some node)
arena_of-node arenas placed at node e = go (slice_get arenas at.home) refl
  where
    go : (found : Option Frozen) → slice_get arenas at.home ≡ found → (arena : Frozen) × (slice_get arenas at.home ≡ Some arena) × (arena.home ≡ at.home) × (slice_get arena.nodes.keys at.id ≡ Some node)
    go None f = let none = node_at-none arenas placed at f in cc
    go (Some arena) f =
        let seen : slice_get (holdings_of arenas) at.home ≡ Some (holding_of arena) = slice_get-map holding_of arenas at.home ∙ ap (option_map holding_of) f in
        (arena, f, placed at.home (holding_of arena) seen, sym (node_at-found arenas placed at arena f) ∙ e)

-- arenas that stand at their homes are sound where no reference leads out of them
pub sound_where_placed : (arenas : List Frozen) → IsPlaced (holdings_of arenas) → IsClosed (holdings_of arenas) → IsSound (holdings_of arenas)
sound_where_placed arenas placed closed = record {
  there = closed;
  older = λ at node e. let in_arena = arena_of-node arenas placed at node e in
      let P : ℕ → Type 0 = λ home. All (λ child. IsTrue (is_older child (record { home = home; id = at.id }))) (refs_of node) in
      subst P in_arena.2 (in_arena.0.ordered.older at.id node in_arena.3);
  once = λ at other node e e' same.
      let in_arena = arena_of-node arenas placed at node e in
      let in_other = arena_of-node arenas placed other node e' in
      let home : Some in_other.0 ≡ Some in_arena.0 = sym in_other.1 ∙ (sym (ap (slice_get arenas) same) ∙ in_arena.1) in
      let one : in_other.0 ≡ in_arena.0 = cc in
      let id : at.id ≡ other.id = in_arena.0.ordered.once at.id other.id node in_arena.3 (rw one at in_other.3) in
      same_ref at other same id;
}
