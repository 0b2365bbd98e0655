-- Lemmas on an arena above the arenas of a shelf.
use Rattle.std.proofs.Common.{◌≡◌, ◌≢◌, ℕ, zero, suc, ◌<◌, ◌≤◌, List, [], ◌∷◌, ◌++◌, length, refl, ap, sym, subst, ◌∙◌, arith, Bool, true, false}
use Rattle.std.specs.Prelude.{Some, None, is_some, slice_get, IsTrue, All, ◌==◌, nat_lt, ◌||◌, if◌then◌else◌, ◌⊎◌}
use Rattle.std.proofs.Math.Numerals.{one-add}
use Rattle.std.specs.Bool.{Decides}
use Rattle.std.specs.List.{list_any, position_or_len}
use Rattle.std.proofs.Common.{inl, inr}
use Rattle.std.proofs.lemmas.Bool.{eqb-true, eqb-false, ltb-true}
use Rattle.std.proofs.lemmas.Bool.Decides.{nat_tests}
use Rattle.std.proofs.lemmas.List.Elements.{All-weaker}
use Rattle.std.proofs.lemmas.Option.{slice_get_past, slice_get_within}
use Rattle.indexmap.specs.IndexSet.{insert_key}
use Rattle.type_arena.specs.Store.{Holding, Store, nodes_at, node_at, has, refs_of, is_older, IsOrdered, IsPlaced, IsSound, Keeps, with_own, Interned, found, added}
use Rattle.type_arena.specs.declared.node.Node.{Node}
use Rattle.type_arena.specs.declared.node.TypeRef.{TypeRef}
use Rattle.type_arena.proofs.StoreLemmas.{is_some-slice_get, same_ref, ref_of}
use Rattle.type_arena.proofs.MeaningLemmas.{has-kept}
use Rattle.type_arena.proofs.ShelfLemmas.{nodes_or_none, nodes_at-placed}

-- an item of a list stays where it is when one more goes last
pub slice_get-push : {X : Type 0} (xs : List X) (i : ℕ) (x y : X) → slice_get xs i ≡ Some x → slice_get (xs ++ y ∷ []) i ≡ Some x
slice_get-push [] i x y e = cc
slice_get-push (z ∷ xs) zero x y e = e
slice_get-push (z ∷ xs) (suc i) x y e = slice_get-push xs i x y e

-- the last item has the length as its index
pub slice_get-last : {X : Type 0} (xs : List X) (y : X) → slice_get (xs ++ y ∷ []) (length xs) ≡ Some y
slice_get-last [] y = refl
slice_get-last (z ∷ xs) y = slice_get-last xs y

-- what a list has with one more last is what it had, or the last
pub slice_get-push_cases : {X : Type 0} (xs : List X) (i : ℕ) (x y : X) → slice_get (xs ++ y ∷ []) i ≡ Some x → (slice_get xs i ≡ Some x) ⊎ ((i ≡ length xs) × (x ≡ y))
slice_get-push_cases [] zero x y e = inr (refl, cc)
slice_get-push_cases [] (suc i) x y e = cc
slice_get-push_cases (z ∷ xs) zero x y e = inl e
slice_get-push_cases (z ∷ xs) (suc i) x y e = go (slice_get-push_cases xs i x y e)
  where
    go : (slice_get xs i ≡ Some x) ⊎ ((i ≡ length xs) × (x ≡ y)) → (slice_get xs i ≡ Some x) ⊎ ((suc i ≡ suc (length xs)) × (x ≡ y))
    go (inl h) = inl h
    go (inr h) = inr (ap suc h.0, h.1)

-- the nodes of a lower home are those of the shelf
pub nodes_at-under : (below : Store) (home : ℕ) (nodes : List Node) (lower : ℕ) → home ≢ lower → nodes_at (with_own below home nodes) lower ≡ nodes_at below lower
nodes_at-under [] home nodes lower differ = grind (arith, nat_tests)
nodes_at-under (arena ∷ arenas) home nodes lower differ = let rest = nodes_at-under arenas home nodes lower differ in grind (arith, nat_tests)

-- and those of its own home its own
pub nodes_at-own : (below : Store) (home : ℕ) (nodes : List Node) → ((place : ℕ) (arena : Holding) → slice_get below place ≡ Some arena → arena.home ≢ home) → nodes_at (with_own below home nodes) home ≡ nodes
nodes_at-own [] home nodes apart = grind (arith, nat_tests)
nodes_at-own (arena ∷ arenas) home nodes apart =
    let differ : arena.home ≢ home = apart zero arena refl in
    let rest : nodes_at (with_own arenas home nodes) home ≡ nodes = nodes_at-own arenas home nodes (λ place other e. apart (suc place) other e) in
    grind (arith, nat_tests)

-- what a shelf has has a position of it as its home
pub placed-home : (store : Store) → IsPlaced store → (at : TypeRef) → IsTrue (has store at) → at.home < length store
placed-home store placed at there = go (nat_lt at.home (length store)) refl
  where
    go : (test : Bool) → nat_lt at.home (length store) ≡ test → at.home < length store
    go true e = ltb-true _ _ e
    go false e =
        let past : length store ≤ at.home = grind (arith, nat_tests) in
        let none : nodes_at store at.home ≡ [] = nodes_at-placed store placed at.home ∙ ap nodes_or_none (slice_get_past store at.home past) in
        let absent : has store at ≡ false = ap (λ (xs : List Node). is_some (slice_get xs at.id)) none in
        cc

-- the shelf has no arena with a home at or above its length
pub apart_from-placed : (below : Store) → IsPlaced below → (home : ℕ) → length below ≤ home → (place : ℕ) (arena : Holding) → slice_get below place ≡ Some arena → arena.home ≢ home
apart_from-placed below placed home above place arena e same =
    let within : place < length below = slice_get_within below place arena e in
    let at_home : arena.home ≡ place = placed place arena e in
    omega arith

module _ (below : Store) (placed : IsPlaced below) (home : ℕ) (above : length below ≤ home) where
  -- the node of a reference to the arena itself
  pub node_at-own : (nodes : List Node) (at : TypeRef) → at.home ≡ home → node_at (with_own below home nodes) at ≡ slice_get nodes at.id
  node_at-own nodes at e =
      let all : nodes_at (with_own below home nodes) home ≡ nodes = nodes_at-own below home nodes (apart_from-placed below placed home above) in
      ap (λ (h : ℕ). slice_get (nodes_at (with_own below home nodes) h) at.id) e ∙ ap (λ (xs : List Node). slice_get xs at.id) all

  -- the node of any other reference
  pub node_at-under : (nodes : List Node) (at : TypeRef) → at.home ≢ home → node_at (with_own below home nodes) at ≡ node_at below at
  node_at-under nodes at differ =
      ap (λ (xs : List Node). slice_get xs at.id) (nodes_at-under below home nodes at.home (λ e. differ (sym e)))

  -- either the one or the other
  pub own_or_under : (at : TypeRef) → (at.home ≡ home) ⊎ (at.home ≢ home)
  own_or_under at = go (at.home == home) refl
    where
      go : (test : Bool) → (at.home == home) ≡ test → (at.home ≡ home) ⊎ (at.home ≢ home)
      go true e = inl (eqb-true _ _ e)
      go false e = inr (eqb-false _ _ e)

  -- a reference that is there has the home of the arena itself, and is below its number of nodes, or has a lower home
  pub there-cases : (nodes : List Node) (at : TypeRef) → IsTrue (has (with_own below home nodes) at) → ((at.home ≡ home) × (at.id < length nodes)) ⊎ (at.home < home)
  there-cases nodes at there = go (own_or_under at)
    where
      go : (at.home ≡ home) ⊎ (at.home ≢ home) → ((at.home ≡ home) × (at.id < length nodes)) ⊎ (at.home < home)
      go (inl e) = inl (e, ltb-true _ _ (sym (is_some-slice_get nodes at.id) ∙ (sym (ap is_some (node_at-own nodes at e)) ∙ there)))
      go (inr differ) =
          let under : IsTrue (has below at) = sym (ap is_some (node_at-under nodes at differ)) ∙ there in
          let within : at.home < length below = placed-home below placed at under in
          inr (omega arith)

  -- the own nodes may grow: what was there stays
  pub Keeps-own : (old new : List Node) → ((id : ℕ) (node : Node) → slice_get old id ≡ Some node → slice_get new id ≡ Some node) → Keeps (with_own below home old) (with_own below home new)
  Keeps-own old new grows at node e = go (own_or_under at)
    where
      go : (at.home ≡ home) ⊎ (at.home ≢ home) → node_at (with_own below home new) at ≡ Some node
      go (inl own) = node_at-own new at own ∙ grows at.id node (sym (node_at-own old at own) ∙ e)
      go (inr under) = node_at-under new at under ∙ (sym (node_at-under old at under) ∙ e)

-- interning keeps what was there
pub Interned-grows : (old new : List Node) (node : Node) (id : ℕ) → Interned old new node id → (other : ℕ) (there : Node) → slice_get old other ≡ Some there → slice_get new other ≡ Some there
Interned-grows old new node id (found at_id same) other there e = ap (λ (xs : List Node). slice_get xs other) same ∙ e
Interned-grows old new node id (added absent last more) other there e = ap (λ (xs : List Node). slice_get xs other) more ∙ slice_get-push old other there node e

-- it gives the node's id
pub Interned-at : (old new : List Node) (node : Node) (id : ℕ) → Interned old new node id → slice_get new id ≡ Some node
Interned-at old new node id (found at_id same) = ap (λ (xs : List Node). slice_get xs id) same ∙ at_id
Interned-at old new node id (added absent last more) =
    ap (λ (xs : List Node). slice_get xs id) more ∙ (ap (slice_get (old ++ node ∷ [])) last ∙ slice_get-last old node)

-- and adds no other node
pub Interned-only : (old new : List Node) (node : Node) (id : ℕ) → Interned old new node id → (other : ℕ) (there : Node) → slice_get new other ≡ Some there → (slice_get old other ≡ Some there) ⊎ ((other ≡ length old) × (there ≡ node))
Interned-only old new node id (found at_id same) other there e = inl (sym (ap (λ (xs : List Node). slice_get xs other) same) ∙ e)
Interned-only old new node id (added absent last more) other there e =
    slice_get-push_cases old other there node (sym (ap (λ (xs : List Node). slice_get xs other) more) ∙ e)

-- where each node was there once, each is there once afterwards
pub Interned-once : (old new : List Node) (node : Node) (id : ℕ) → Interned old new node id → ((i j : ℕ) (there : Node) → slice_get old i ≡ Some there → slice_get old j ≡ Some there → i ≡ j) → (i j : ℕ) (there : Node) → slice_get new i ≡ Some there → slice_get new j ≡ Some there → i ≡ j
Interned-once old new node id (found at_id same) once i j there e e' =
    once i j there (sym (ap (λ (xs : List Node). slice_get xs i) same) ∙ e) (sym (ap (λ (xs : List Node). slice_get xs j) same) ∙ e')
Interned-once old new node id (added absent last more) once i j there e e' = go (slice_get-push_cases old i there node (sym (ap (λ (xs : List Node). slice_get xs i) more) ∙ e)) (slice_get-push_cases old j there node (sym (ap (λ (xs : List Node). slice_get xs j) more) ∙ e'))
  where
    go : (slice_get old i ≡ Some there) ⊎ ((i ≡ length old) × (there ≡ node)) → (slice_get old j ≡ Some there) ⊎ ((j ≡ length old) × (there ≡ node)) → i ≡ j
    go (inl a) (inl b) = once i j there a b
    go (inl a) (inr b) = absurd (absent i (a ∙ ap Some b.1))
    go (inr a) (inl b) = absurd (absent j (b ∙ ap Some a.1))
    go (inr a) (inr b) = a.0 ∙ sym b.0

module _ (test : Node → Node → Bool) (decides : (a b : Node) → Decides (test a b) (a ≡ b)) (node : Node) where
  -- where the test finds an equal node, it is at the first index that passes
  position-found : (nodes : List Node) → list_any (test node) nodes ≡ true → slice_get nodes (position_or_len (test node) nodes) ≡ Some node
  position-found [] any = cc
  position-found (first ∷ nodes) any = go (test node first) refl (position-found nodes)
    where
      go : (passes : Bool) → test node first ≡ passes → (list_any (test node) nodes ≡ true → slice_get nodes (position_or_len (test node) nodes) ≡ Some node) → slice_get (first ∷ nodes) (position_or_len (test node) (first ∷ nodes)) ≡ Some node
      go true e rest = rw e (ap Some (sym ((decides node first).0 e)))
      go false e rest =
          let later : list_any (test node) nodes ≡ true = sym (ap (λ c. c || list_any (test node) nodes) e) ∙ any in
          rw (e, one-add) (rest later)

  -- where it finds none, no node is equal, and each fails
  position-none : (nodes : List Node) → list_any (test node) nodes ≡ false → position_or_len (test node) nodes ≡ length nodes
  position-none [] any = refl
  position-none (first ∷ nodes) any = go (test node first) refl (position-none nodes)
    where
      go : (passes : Bool) → test node first ≡ passes → (list_any (test node) nodes ≡ false → position_or_len (test node) nodes ≡ length nodes) → position_or_len (test node) (first ∷ nodes) ≡ length (first ∷ nodes)
      go true e rest = let any' : true ≡ false = sym (ap (λ c. c || list_any (test node) nodes) e) ∙ any in cc
      go false e rest =
          let later : list_any (test node) nodes ≡ false = sym (ap (λ c. c || list_any (test node) nodes) e) ∙ any in
          rw (e, one-add) (ap suc (rest later))

  absent_where_none : (nodes : List Node) → list_any (test node) nodes ≡ false → (id : ℕ) → slice_get nodes id ≡ Some node → ⊥
  absent_where_none [] any id e = cc
  absent_where_none (first ∷ nodes) any zero e =
      let passes : test node first ≡ true = (decides node first).1 (cc) in
      let any' : true ≡ false = sym (ap (λ c. c || list_any (test node) nodes) passes) ∙ any in
      cc
  absent_where_none (first ∷ nodes) any (suc id) e = go (test node first) refl (absent_where_none nodes)
    where
      go : (passes : Bool) → test node first ≡ passes → (list_any (test node) nodes ≡ false → (id : ℕ) → slice_get nodes id ≡ Some node → ⊥) → ⊥
      go true h rest = let any' : true ≡ false = sym (ap (λ c. c || list_any (test node) nodes) h) ∙ any in cc
      go false h rest = rest (sym (ap (λ c. c || list_any (test node) nodes) h) ∙ any) id e

  -- a set that inserts by a test for equality interns
  pub Interned-from_insert : (old new : List Node) (id : ℕ) → new ≡ insert_key test old node → id ≡ position_or_len (test node) old → Interned old new node id
  Interned-from_insert old new id keys index = go (list_any (test node) old) refl
    where
      go : (any : Bool) → list_any (test node) old ≡ any → Interned old new node id
      go true e = found (ap (slice_get old) index ∙ position-found old e) (keys ∙ ap (λ c. if c then old else old ++ node ∷ []) e)
      go false e = added (absent_where_none old e) (index ∙ position-none old e) (keys ∙ ap (λ c. if c then old else old ++ node ∷ []) e)

module _ (below : Store) (placed : IsPlaced below) (home : ℕ) (above : length below ≤ home) where
  -- a node that is there after interning was there, or is the one that was added
  pub interned-origin : (old new : List Node) (node : Node) (id : ℕ) → Interned old new node id → (at : TypeRef) (there : Node) → node_at (with_own below home new) at ≡ Some there → (node_at (with_own below home old) at ≡ Some there) ⊎ ((at ≡ ref_of home (length old)) × (there ≡ node))
  interned-origin old new node id interned at there e = go (own_or_under below placed home above at)
    where
      last : at.home ≡ home → (slice_get old at.id ≡ Some there) ⊎ ((at.id ≡ length old) × (there ≡ node)) → (node_at (with_own below home old) at ≡ Some there) ⊎ ((at ≡ ref_of home (length old)) × (there ≡ node))
      last own (inl h) = inl (node_at-own below placed home above old at own ∙ h)
      last own (inr h) = inr (same_ref at (ref_of home (length old)) own h.0, h.1)

      go : (at.home ≡ home) ⊎ (at.home ≢ home) → (node_at (with_own below home old) at ≡ Some there) ⊎ ((at ≡ ref_of home (length old)) × (there ≡ node))
      go (inl own) = last own (Interned-only old new node id interned at.id there (sym (node_at-own below placed home above new at own) ∙ e))
      go (inr under) = inl (node_at-under below placed home above old at under ∙ (sym (node_at-under below placed home above new at under) ∙ e))

  -- what is there is older than the next own reference
  pub older-than_next : (nodes : List Node) (child : TypeRef) → IsTrue (has (with_own below home nodes) child) → IsTrue (is_older child (ref_of home (length nodes)))
  older-than_next nodes child there = go (there-cases below placed home above nodes child there)
    where
      go : ((child.home ≡ home) × (child.id < length nodes)) ⊎ (child.home < home) → IsTrue (is_older child (ref_of home (length nodes)))
      go (inl (same, lower)) = grind (arith, nat_tests)
      go (inr lower) = grind (arith, nat_tests)

  -- an arena that interns a node whose references are there stays sound
  pub IsSound-interned : (old new : List Node) (node : Node) (id : ℕ) → IsSound (with_own below home old) → All (λ child. IsTrue (has (with_own below home old) child)) (refs_of node) → Interned old new node id → IsSound (with_own below home new)
  IsSound-interned old new node id sound children interned = record {
    there = λ at there e. still_there at there (interned-origin old new node id interned at there e);
    older = λ at there e. still_older at there (interned-origin old new node id interned at there e);
    once = λ at other there e e' same. still_once at other there e e' same (own_or_under below placed home above at);
  }
    where
      kept : (child : TypeRef) → IsTrue (has (with_own below home old) child) → IsTrue (has (with_own below home new) child)
      kept child h = sym (ap is_some (has-kept (with_own below home old) (with_own below home new) (Keeps-own below placed home above old new (Interned-grows old new node id interned)) child h)) ∙ h

      still_there : (at : TypeRef) (there : Node) → (node_at (with_own below home old) at ≡ Some there) ⊎ ((at ≡ ref_of home (length old)) × (there ≡ node)) → All (λ child. IsTrue (has (with_own below home new) child)) (refs_of there)
      still_there at there (inl e) = All-weaker _ _ kept (refs_of there) (sound.there at there e)
      still_there at there (inr (e, same)) = subst (λ (n : Node). All (λ child. IsTrue (has (with_own below home new) child)) (refs_of n)) (sym same) (All-weaker _ _ kept (refs_of node) children)

      still_older : (at : TypeRef) (there : Node) → (node_at (with_own below home old) at ≡ Some there) ⊎ ((at ≡ ref_of home (length old)) × (there ≡ node)) → All (λ child. IsTrue (is_older child at)) (refs_of there)
      still_older at there (inl e) = sound.older at there e
      still_older at there (inr (e, same)) =
          let here : All (λ child. IsTrue (is_older child (ref_of home (length old)))) (refs_of node) = All-weaker (λ child. IsTrue (has (with_own below home old) child)) (λ child. IsTrue (is_older child (ref_of home (length old)))) (older-than_next old) (refs_of node) children in
          let here' : All (λ child. IsTrue (is_older child at)) (refs_of node) = subst (λ (a : TypeRef). All (λ child. IsTrue (is_older child a)) (refs_of node)) (sym e) here in
          subst (λ (n : Node). All (λ child. IsTrue (is_older child at)) (refs_of n)) (sym same) here'

      old_once : (i j : ℕ) (there : Node) → slice_get old i ≡ Some there → slice_get old j ≡ Some there → i ≡ j
      old_once i j there e e' = ap (λ (a : TypeRef). a.id) (sound.once (ref_of home i) (ref_of home j) there (node_at-own below placed home above old (ref_of home i) refl ∙ e) (node_at-own below placed home above old (ref_of home j) refl ∙ e') refl)

      still_once : (at other : TypeRef) (there : Node) → node_at (with_own below home new) at ≡ Some there → node_at (with_own below home new) other ≡ Some there → at.home ≡ other.home → (at.home ≡ home) ⊎ (at.home ≢ home) → at ≡ other
      still_once at other there e e' same (inl own) =
          same_ref at other same (Interned-once old new node id interned old_once at.id other.id there (sym (node_at-own below placed home above new at own) ∙ e) (sym (node_at-own below placed home above new other (sym same ∙ own)) ∙ e'))
      still_once at other there e e' same (inr under) =
          let under' : other.home ≢ home = λ h. under (same ∙ h) in
          sound.once at other there
          (node_at-under below placed home above old at under ∙ (sym (node_at-under below placed home above new at under) ∙ e))
          (node_at-under below placed home above old other under' ∙ (sym (node_at-under below placed home above new other under') ∙ e'))
          same

  -- an arena without nodes has those of its shelf
  pub node_at-empty : (at : TypeRef) → node_at (with_own below home []) at ≡ node_at below at
  node_at-empty at = go (own_or_under below placed home above at)
    where
      none : (id : ℕ) → slice_get {X = Node} [] id ≡ None
      none zero = refl
      none (suc id) = refl

      go : (at.home ≡ home) ⊎ (at.home ≢ home) → node_at (with_own below home []) at ≡ node_at below at
      go (inl own) =
          let past : nodes_at below at.home ≡ [] = nodes_at-placed below placed at.home ∙ ap nodes_or_none (slice_get_past below at.home (omega arith)) in
          node_at-own below placed home above [] at own ∙ sym (ap (λ (xs : List Node). slice_get xs at.id) past)
      go (inr under) = node_at-under below placed home above [] at under

  -- and is as sound as it
  pub IsSound-empty : IsSound below → IsSound (with_own below home [])
  IsSound-empty sound = record {
    there = λ at there e. All-weaker (λ child. IsTrue (has below child)) (λ child. IsTrue (has (with_own below home []) child)) (λ child h. ap is_some (node_at-empty child) ∙ h) (refs_of there) (sound.there at there (sym (node_at-empty at) ∙ e));
    older = λ at there e. sound.older at there (sym (node_at-empty at) ∙ e);
    once = λ at other there e e' same. sound.once at other there (sym (node_at-empty at) ∙ e) (sym (node_at-empty other) ∙ e') same;
  }

  -- the nodes of a sound arena itself are ordered
  pub IsOrdered-own : (nodes : List Node) → IsSound (with_own below home nodes) → IsOrdered home nodes
  IsOrdered-own nodes sound = record {
    older = λ id there e. sound.older (ref_of home id) there (node_at-own below placed home above nodes (ref_of home id) refl ∙ e);
    once = λ id other there e e'. ap (λ (a : TypeRef). a.id) (sound.once (ref_of home id) (ref_of home other) there (node_at-own below placed home above nodes (ref_of home id) refl ∙ e) (node_at-own below placed home above nodes (ref_of home other) refl ∙ e') refl);
  }
