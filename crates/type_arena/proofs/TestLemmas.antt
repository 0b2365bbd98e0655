-- Facts on the small shelves of the tests.
use Rattle.std.proofs.Common.{◌≡◌, ℕ, zero, suc, List, [], ◌∷◌, refl, ap, sym, subst, ◌∙◌, Bool, true, false, inl, inr}
use Rattle.std.specs.Prelude.{Some, slice_get, slice_index_or, IsTrue, All, ◌⊎◌, ◌==◌}
use Rattle.std.proofs.lemmas.List.Elements.{All-cons, All-nil}
use Rattle.type_arena.specs.Store.{Holding, Store, node_at, has, refs_of, IsPlaced, IsClosed}
use Rattle.type_arena.specs.Frozen.{holding_of, holdings_of}
use Rattle.type_arena.specs.declared.frozen.Frozen.{Frozen}
use Rattle.type_arena.specs.declared.node.Node.{Node}
use Rattle.type_arena.specs.declared.node.TypeRef.{TypeRef}
use Rattle.type_arena.proofs.LongerLemmas.{IsPlaced-push}
use Rattle.type_arena.proofs.StoreLemmas.{ref_of}

-- some nodes, under a home
abbrev pub held : ℕ → List Node → Holding
held home nodes = record { home = home; nodes = nodes }

-- the arena of home 0, an empty one of home 1, and one of home 2
abbrev pub without_one : Node → Node → Store
without_one first third = held 0 (first ∷ []) ∷ held 1 [] ∷ held 2 (third ∷ []) ∷ []

-- a list of one item has that item alone
of_one : (only : Node) (id : ℕ) (node : Node) → slice_get (only ∷ []) id ≡ Some node → only ≡ node
of_one only zero node e = cc
of_one only (suc zero) node e = cc
of_one only (suc (suc id)) node e = cc

of_none : (id : ℕ) (node : Node) → slice_get [] id ≡ Some node → ⊥
of_none zero node e = cc
of_none (suc id) node e = cc

-- the first of several arenas, as its nodes under its home
pub first_holding : (arenas : List Frozen) (other : Frozen) (first : Holding) (rest : Store) → holdings_of arenas ≡ first ∷ rest → holding_of (slice_index_or arenas 0 other) ≡ first
first_holding [] other first rest e = cc
first_holding (arena ∷ arenas) other first rest e = cc

IsPlaced-nil : IsPlaced []
IsPlaced-nil zero arena e = cc
IsPlaced-nil (suc home) arena e = cc

pub without_one-placed : (first third : Node) → IsPlaced (without_one first third)
without_one-placed first third =
    IsPlaced-push (held 0 (first ∷ []) ∷ held 1 [] ∷ []) (held 2 (third ∷ []))
    (IsPlaced-push (held 0 (first ∷ []) ∷ []) (held 1 []) (IsPlaced-push [] (held 0 (first ∷ [])) IsPlaced-nil refl) refl)
    refl

-- a node that is there is the first one or the third
which : (first third : Node) (at : TypeRef) (node : Node) → node_at (without_one first third) at ≡ Some node → (first ≡ node) ⊎ (third ≡ node)
which first third at node e = go0 (0 == at.home) refl
  where
    go2 : (0 == at.home) ≡ false → (1 == at.home) ≡ false → (test : Bool) → (2 == at.home) ≡ test → (first ≡ node) ⊎ (third ≡ node)
    go2 e0 e1 true e2 = inr (of_one third at.id node (sym (rw (e0, e1, e2) refl) ∙ e))
    go2 e0 e1 false e2 = absurd (of_none at.id node (sym (rw (e0, e1, e2) refl) ∙ e))

    go1 : (0 == at.home) ≡ false → (test : Bool) → (1 == at.home) ≡ test → (first ≡ node) ⊎ (third ≡ node)
    go1 e0 true e1 = absurd (of_none at.id node (sym (rw (e0, e1) refl) ∙ e))
    go1 e0 false e1 = go2 e0 e1 (2 == at.home) refl

    go0 : (test : Bool) → (0 == at.home) ≡ test → (first ≡ node) ⊎ (third ≡ node)
    go0 true e0 = inl (of_one first at.id node (sym (rw e0 refl) ∙ e))
    go0 false e0 = go1 e0 (1 == at.home) refl

-- no reference of the one or the other leads out
pub without_one-closed : (first third : Node) → refs_of first ≡ [] → refs_of third ≡ ref_of 0 0 ∷ ref_of 0 0 ∷ [] → IsClosed (without_one first third)
without_one-closed first third none two at node e = go (which first third at node e)
  where
    go : (first ≡ node) ⊎ (third ≡ node) → All (λ child. IsTrue (has (without_one first third) child)) (refs_of node)
    go (inl same) = subst (λ (refs : List TypeRef). All (λ child. IsTrue (has (without_one first third) child)) refs) (sym none ∙ ap refs_of same) (All-nil (λ child. IsTrue (has (without_one first third) child)))
    go (inr same) = subst (λ (refs : List TypeRef). All (λ child. IsTrue (has (without_one first third) child)) refs) (sym two ∙ ap refs_of same)
        (All-cons (λ child. IsTrue (has (without_one first third) child)) (ref_of 0 0) (ref_of 0 0 ∷ []) refl
        (All-cons (λ child. IsTrue (has (without_one first third) child)) (ref_of 0 0) [] refl (All-nil (λ child. IsTrue (has (without_one first third) child)))))
