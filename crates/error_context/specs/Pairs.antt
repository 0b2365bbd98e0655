-- Two lists of entries side by side.
use Rattle.std.specs.Prelude.{◌≡◌, ◌≤◌, ⊤, ℕ, suc, ◌==◌, List, [], ◌∷◌, ◌+◌, length, map, Option, Some, None, All, Contains, if◌then◌else◌}
use Rattle.type_arena.specs.Term.{Term, never}
use Rattle.type_arena.specs.declared.node.TypeRef.{TypeRef}
use Rattle.error_context.specs.Entries.{Entries, refs_in, AscendFrom}
use Rattle.error_context.specs.declared.pairs.Pair.{Pair}

-- the reference of a local's entry, or another one without an entry
abbrev pub ref_or : TypeRef → Entries → ℕ → TypeRef
ref_or absent [] local = absent
ref_or absent (e ∷ entries) local = if e.0.0 == local then e.1 else ref_or absent entries local

-- both references of a local, or two others where it is in no pair
abbrev pub sides_or : TypeRef × TypeRef → List Pair → ℕ → TypeRef × TypeRef
sides_or absent [] local = absent
sides_or absent (p ∷ pairs) local = if p.local.0 == local then (p.left, p.right) else sides_or absent pairs local

abbrev pub pair_locals : List Pair → List ℕ
pair_locals pairs = map (λ p. p.local.0) pairs

-- what a pair comes to, for a local that has one
abbrev pub by_pairs : (TypeRef → TypeRef → Term) → List Pair → ℕ → Term
by_pairs made [] local = never
by_pairs made (p ∷ pairs) local = if p.local.0 == local then made p.left p.right else by_pairs made pairs local

-- pairs that have what two lists of entries have, and nothing else
pub record AreAligned (absent : TypeRef) (a b : Entries) (pairs : List Pair) : Type 0 where
  pub sides : (local : ℕ) → sides_or (absent, absent) pairs local ≡ (ref_or absent a local, ref_or absent b local)
  pub sorted : AscendFrom 0 (pair_locals pairs)
  pub lefts : All (λ p. Contains (absent ∷ refs_in a) p.left) pairs
  pub rights : All (λ p. Contains (absent ∷ refs_in b) p.right) pairs

-- a list without its first entry, if that is of this local
abbrev pub past : ℕ → Entries → Entries
past local [] = []
past local (e ∷ entries) = if e.0.0 == local then entries else e ∷ entries

-- no entry comes before a local
abbrev pub IsNoneBefore : ℕ → Entries → Type 0
IsNoneBefore local [] = ⊤
IsNoneBefore local (e ∷ entries) = local ≤ e.0.0

-- the reference of the first entry, if that is of this local, or another one
abbrev pub first_or : TypeRef → Entries → ℕ → TypeRef
first_or absent [] local = absent
first_or absent (e ∷ entries) local = if e.0.0 == local then e.1 else absent

-- the least local of two lists in order, with what it has; none where both lists are empty
abbrev pub IsNext : TypeRef → Entries → Entries → Option Pair → Type 0
IsNext absent a b None = (a ≡ []) × (b ≡ [])
IsNext absent a b (Some p) =
    IsNoneBefore p.local.0 a × IsNoneBefore p.local.0 b × (p.left ≡ first_or absent a p.local.0) × (p.right ≡ first_or absent b p.local.0)
    × (suc (length (past p.local.0 a) + length (past p.local.0 b)) ≤ length a + length b)

-- the entries of one list, each on both sides
abbrev pub alone : Entries → List Pair
alone [] = []
alone (e ∷ entries) = record { local = e.0; left = e.1; right = e.1 } ∷ alone entries

-- the references on both sides
abbrev pub pair_refs : List Pair → List TypeRef
pair_refs [] = []
pair_refs (p ∷ pairs) = p.left ∷ p.right ∷ pair_refs pairs
