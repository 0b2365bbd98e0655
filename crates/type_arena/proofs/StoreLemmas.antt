-- Lemmas on which reference has which node.
use Rattle.std.proofs.Common.{◌≡◌, ℕ, zero, suc, ◌+◌, ◌<◌, ◌≤◌, List, [], ◌∷◌, length, refl, ap, ◌∙◌, arith}
use Rattle.std.specs.Prelude.{Option, Some, None, is_some, slice_get, IsTrue, nat_lt}
use Rattle.std.proofs.lemmas.Option.{slice_get_within}
use Rattle.std.proofs.lemmas.Bool.Decides.{nat_tests}
use Rattle.type_arena.specs.Store.{Store, nodes_at, node_at, has, is_older}
use Rattle.type_arena.specs.Meaning.{nodes_below, rank}
use Rattle.type_arena.specs.declared.node.Node.{Node}
use Rattle.type_arena.specs.declared.node.TypeRef.{TypeRef}

-- an index is there where it is below the length
pub is_some-slice_get : {X : Type 0} (xs : List X) (i : ℕ) → is_some (slice_get xs i) ≡ nat_lt i (length xs)
is_some-slice_get [] zero = grind (arith, nat_tests)
is_some-slice_get [] (suc i) = grind (arith, nat_tests)
is_some-slice_get (x ∷ xs) zero = grind (arith, nat_tests)
is_some-slice_get (x ∷ xs) (suc i) = is_some-slice_get xs i ∙ grind (arith, nat_tests)

-- the reference with this home and this id
abbrev pub ref_of : ℕ → ℕ → TypeRef
ref_of home id = record { home = home; id = id }

-- references with one home and one id are one
pub same_ref : (a b : TypeRef) → a.home ≡ b.home → a.id ≡ b.id → a ≡ b
same_ref a b home id = ap (λ (h : ℕ). ref_of h a.id) home ∙ ap (ref_of b.home) id

-- more nodes have a home below a higher one
pub nodes_below-le : (store : Store) (low high : ℕ) → low ≤ high → nodes_below store low ≤ nodes_below store high
nodes_below-le [] low high h = omega arith
nodes_below-le (arena ∷ arenas) low high h = grind (arith, nat_tests, nodes_below-le arenas low high h)

-- the nodes of a home come after those of lower ones
pub nodes_below-next : (store : Store) (low high : ℕ) → low < high → nodes_below store low + length (nodes_at store low) ≤ nodes_below store high
nodes_below-next [] low high h = omega arith
nodes_below-next (arena ∷ arenas) low high h =
    grind (arith, nat_tests, nodes_below-next arenas low high h, nodes_below-le arenas low high)

-- a reference that is there has an id below the number of nodes of its home
pub has-within : (store : Store) (at : TypeRef) → IsTrue (has store at) → at.id < length (nodes_at store at.home)
has-within store at h = go (node_at store at) refl h
  where
    go : (found : Option Node) → node_at store at ≡ found → IsTrue (is_some found) → at.id < length (nodes_at store at.home)
    go None e there = cc
    go (Some node) e there = slice_get_within (nodes_at store at.home) at.id node e

-- an older reference that is there has fewer nodes before it
pub rank-older : (store : Store) (child at : TypeRef) → IsTrue (has store child) → IsTrue (is_older child at) → rank store child < rank store at
unfolding rank
rank-older store child at there older =
    grind (arith, nat_tests, has-within store child there, nodes_below-next store child.home at.home)
