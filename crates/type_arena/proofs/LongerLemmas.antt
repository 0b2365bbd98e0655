-- What stands above a shelf stands above a longer one.
use Rattle.std.proofs.Common.{◌≡◌, ◌≢◌, ℕ, zero, suc, ◌≤◌, List, [], ◌∷◌, ◌++◌, length, refl, ap, sym, ◌∙◌, arith, Bool, true, false, inl, inr, length-append}
use Rattle.std.specs.Prelude.{Some, is_some, slice_get, IsTrue, All, ◌⊎◌, ◌==◌, if◌then◌else◌}
use Rattle.std.proofs.lemmas.List.Elements.{All-weaker}
use Rattle.type_arena.specs.Meaning.{term_of}
use Rattle.type_arena.specs.Store.{Holding, Store, nodes_at, node_at, has, refs_of, is_older, IsPlaced, IsSound, Keeps}
use Rattle.type_arena.specs.declared.node.Node.{Node}
use Rattle.type_arena.specs.declared.node.TypeRef.{TypeRef}
use Rattle.type_arena.proofs.ArenaLemmas.{slice_get-push, slice_get-push_cases, slice_get-last, own_or_under, node_at-own, node_at-under}
use Rattle.type_arena.proofs.MeaningLemmas.{has-kept, term_of-kept}

-- an item stays where it is when more follow
slice_get-append : {X : Type 0} (xs ys : List X) (i : ℕ) (x : X) → slice_get xs i ≡ Some x → slice_get (xs ++ ys) i ≡ Some x
slice_get-append [] ys i x e = cc
slice_get-append (z ∷ xs) ys zero x e = e
slice_get-append (z ∷ xs) ys (suc i) x e = slice_get-append xs ys i x e

-- and so does a node, when more arenas follow
Keeps-append : (first more : Store) → Keeps first (first ++ more)
Keeps-append [] more at node e = cc
Keeps-append (arena ∷ arenas) more at node e = go (arena.home == at.home) refl (Keeps-append arenas more at node)
  where
    go : (test : Bool) → (arena.home == at.home) ≡ test → (node_at arenas at ≡ Some node → node_at (arenas ++ more) at ≡ Some node) → node_at (arena ∷ (arenas ++ more)) at ≡ Some node
    go true same rest =
        let was : slice_get arena.nodes at.id ≡ Some node = sym (ap (λ t. slice_get (if t then arena.nodes else nodes_at arenas at.home) at.id) same) ∙ e in
        ap (λ t. slice_get (if t then arena.nodes else nodes_at (arenas ++ more) at.home) at.id) same ∙ was
    go false other rest =
        let was : node_at arenas at ≡ Some node = sym (ap (λ t. slice_get (if t then arena.nodes else nodes_at arenas at.home) at.id) other) ∙ e in
        ap (λ t. slice_get (if t then arena.nodes else nodes_at (arenas ++ more) at.home) at.id) other ∙ rest was

-- arenas stand at their homes where one with the next home goes last
pub IsPlaced-push : (store : Store) (arena : Holding) → IsPlaced store → arena.home ≡ length store → IsPlaced (store ++ arena ∷ [])
IsPlaced-push store arena placed last home other e = go (slice_get-push_cases store home other arena e)
  where
    go : (slice_get store home ≡ Some other) ⊎ ((home ≡ length store) × (other ≡ arena)) → other.home ≡ home
    go (inl h) = placed home other h
    go (inr (h, same)) = ap (λ (a : Holding). a.home) same ∙ (last ∙ sym h)

module _ (below more : Store) (arena : Holding) (placed : IsPlaced (below ++ more ++ arena ∷ [])) (sound : IsSound (below ++ more)) (stands : IsSound (below ++ arena ∷ [])) where
  placed-longer : IsPlaced (below ++ more)
  placed-longer home other e = placed home other (slice_get-push (below ++ more) home other arena e)

  placed-below : IsPlaced below
  placed-below home other e = placed-longer home other (slice_get-append below more home other e)

  home-last : arena.home ≡ length (below ++ more)
  home-last = placed (length (below ++ more)) arena (slice_get-last (below ++ more) arena)

  above-longer : length (below ++ more) ≤ arena.home
  above-longer = let e = home-last in omega arith

  above-below : length below ≤ arena.home
  above-below = let e = home-last in omega (arith, length-append below more)

  -- the longer shelf keeps what it had
  keeps-longer : Keeps (below ++ more) (below ++ more ++ arena ∷ [])
  keeps-longer = Keeps-append (below ++ more) (arena ∷ [])

  -- and what stood above the shelf is there
  pub keeps-above : Keeps (below ++ arena ∷ []) (below ++ more ++ arena ∷ [])
  keeps-above at node e = go (own_or_under below placed-below arena.home above-below at)
    where
      go : (at.home ≡ arena.home) ⊎ (at.home ≢ arena.home) → node_at (below ++ more ++ arena ∷ []) at ≡ Some node
      go (inl own) = node_at-own (below ++ more) placed-longer arena.home above-longer arena.nodes at own ∙ (sym (node_at-own below placed-below arena.home above-below arena.nodes at own) ∙ e)
      go (inr under) = keeps-longer at node (Keeps-append below more at node (sym (node_at-under below placed-below arena.home above-below arena.nodes at under) ∙ e))

  -- a node of the longer shelf with the arena is one of the arena, or of the longer shelf
  either : (at : TypeRef) (node : Node) → node_at (below ++ more ++ arena ∷ []) at ≡ Some node → (node_at (below ++ arena ∷ []) at ≡ Some node) ⊎ (node_at (below ++ more) at ≡ Some node)
  either at node e = go (own_or_under below placed-below arena.home above-below at)
    where
      go : (at.home ≡ arena.home) ⊎ (at.home ≢ arena.home) → (node_at (below ++ arena ∷ []) at ≡ Some node) ⊎ (node_at (below ++ more) at ≡ Some node)
      go (inl own) = inl (node_at-own below placed-below arena.home above-below arena.nodes at own ∙ (sym (node_at-own (below ++ more) placed-longer arena.home above-longer arena.nodes at own) ∙ e))
      go (inr under) = inr (sym (node_at-under (below ++ more) placed-longer arena.home above-longer arena.nodes at under) ∙ e)

  kept-in : (first : Store) → Keeps first (below ++ more ++ arena ∷ []) → (child : TypeRef) → IsTrue (has first child) → IsTrue (has (below ++ more ++ arena ∷ []) child)
  kept-in first keeps child there = sym (ap is_some (has-kept first (below ++ more ++ arena ∷ []) keeps child there)) ∙ there

  pub IsSound-longer : IsSound (below ++ more ++ arena ∷ [])
  IsSound-longer = record {
    there = λ at node e. there_by at node (either at node e);
    older = λ at node e. older_by at node (either at node e);
    once = λ at other node e e' same. once_by at other node e e' same (own_or_under below placed-below arena.home above-below at);
  }
    where
      there_by : (at : TypeRef) (node : Node) → (node_at (below ++ arena ∷ []) at ≡ Some node) ⊎ (node_at (below ++ more) at ≡ Some node) → All (λ child. IsTrue (has (below ++ more ++ arena ∷ []) child)) (refs_of node)
      there_by at node (inl e) = All-weaker (λ child. IsTrue (has (below ++ arena ∷ []) child)) (λ child. IsTrue (has (below ++ more ++ arena ∷ []) child)) (kept-in (below ++ arena ∷ []) keeps-above) (refs_of node) (stands.there at node e)
      there_by at node (inr e) = All-weaker (λ child. IsTrue (has (below ++ more) child)) (λ child. IsTrue (has (below ++ more ++ arena ∷ []) child)) (kept-in (below ++ more) keeps-longer) (refs_of node) (sound.there at node e)

      older_by : (at : TypeRef) (node : Node) → (node_at (below ++ arena ∷ []) at ≡ Some node) ⊎ (node_at (below ++ more) at ≡ Some node) → All (λ child. IsTrue (is_older child at)) (refs_of node)
      older_by at node (inl e) = stands.older at node e
      older_by at node (inr e) = sound.older at node e

      once_by : (at other : TypeRef) (node : Node) → node_at (below ++ more ++ arena ∷ []) at ≡ Some node → node_at (below ++ more ++ arena ∷ []) other ≡ Some node → at.home ≡ other.home → (at.home ≡ arena.home) ⊎ (at.home ≢ arena.home) → at ≡ other
      once_by at other node e e' same (inl own) =
          let own' : other.home ≡ arena.home = sym same ∙ own in
          stands.once at other node
          (node_at-own below placed-below arena.home above-below arena.nodes at own ∙ (sym (node_at-own (below ++ more) placed-longer arena.home above-longer arena.nodes at own) ∙ e))
          (node_at-own below placed-below arena.home above-below arena.nodes other own' ∙ (sym (node_at-own (below ++ more) placed-longer arena.home above-longer arena.nodes other own') ∙ e'))
          same
      once_by at other node e e' same (inr under) =
          let under' : other.home ≢ arena.home = λ h. under (same ∙ h) in
          sound.once at other node
          (sym (node_at-under (below ++ more) placed-longer arena.home above-longer arena.nodes at under) ∙ e)
          (sym (node_at-under (below ++ more) placed-longer arena.home above-longer arena.nodes other under') ∙ e')
          same

  pub means-longer : (at : TypeRef) → IsTrue (has (below ++ arena ∷ []) at) → term_of (below ++ more ++ arena ∷ []) at ≡ term_of (below ++ arena ∷ []) at
  means-longer at there = sym (term_of-kept (below ++ arena ∷ []) (below ++ more ++ arena ∷ []) stands IsSound-longer keeps-above at there)
