-- Locals with types, in the order of the locals, each once; and what two such lists say together.
use Rattle.std.specs.Prelude.{ℕ, ◌==◌, Bool, List, [], ◌∷◌, map, if◌then◌else◌}
use Rattle.std.specs.List.{list_any}
use Rattle.std.specs.Ordering.{nat_cmp}
use Rattle.luau_tree.specs.declared.names.LocalId.{LocalId}
use Rattle.type_arena.specs.Term.{Term}
use Rattle.type_arena.specs.declared.node.TypeRef.{TypeRef}
use Rattle.type_normal.specs.Kinds.{unknown}
use Rattle.type_normal.specs.Members.{by_order}
use Rattle.type_normal.specs.Operations.{union, meet}
use Rattle.guards.specs.declared.joining.Join.{Join}
use Rattle.guards.specs.declared.joining.Join.TheVariants.{Both, Either}
use Rattle.guards.specs.declared.listing.Named.{Named}
use Rattle.guards.specs.declared.listing.Named.TheVariants.{Once, Twice}

-- an entry with what its reference means
abbrev pub entry_meant : (TypeRef → Term) → LocalId × TypeRef → ℕ × Term
entry_meant means entry = (entry.0.0, means entry.1)

abbrev pub meant : (TypeRef → Term) → List (LocalId × TypeRef) → List (ℕ × Term)
meant means entries = map (entry_meant means) entries

-- the type that a list gives a local: unknown where it is not listed
abbrev pub type_in : List (ℕ × Term) → ℕ → Term
type_in [] local = unknown
type_in (entry ∷ entries) local = if entry.0 == local then entry.1 else type_in entries local

-- whether a list has a local
abbrev pub is_listed : List (ℕ × Term) → ℕ → Bool
is_listed entries local = list_any (λ entry. entry.0 == local) entries

abbrev pub has_local : List (LocalId × TypeRef) → ℕ → Bool
has_local entries local = list_any (λ entry. entry.0.0 == local) entries

-- the type of a local that one list has alone, and of one that both have
abbrev pub alone_type : Join → Term → Term
alone_type Both type = type
alone_type Either type = unknown

abbrev pub alone : Join → ℕ × Term → ℕ × Term
alone how entry = (entry.0, alone_type how entry.1)

abbrev pub together : Join → Term → Term → Term
together Both a b = meet a b
together Either a b = union a b

-- an entry beside a list, where it is known what comes of the entries behind it
abbrev pub beside : Join → ℕ × Term → (List (ℕ × Term) → List (ℕ × Term)) → List (ℕ × Term) → List (ℕ × Term)
beside how x rest [] = alone how x ∷ rest []
beside how x rest (y ∷ ys) =
    by_order (nat_cmp x.0 y.0)
    (alone how x ∷ rest (y ∷ ys))
    ((x.0, together how x.1 y.1) ∷ rest ys)
    (alone how y ∷ beside how x rest ys)

-- what two lists say together
abbrev pub joined : Join → List (ℕ × Term) → List (ℕ × Term) → List (ℕ × Term)
joined how [] ys = map (alone how) ys
joined how (x ∷ xs) ys = beside how x (joined how xs) ys

-- an entry that one list has, or both have, with what comes of it
abbrev pub named_meant : Join → (TypeRef → Term) → Named → ℕ × Term
named_meant how means (Once local at) = alone how (local.0, means at)
named_meant how means (Twice local a b) = (local.0, together how (means a) (means b))

-- the references in it
abbrev pub refs_named : Named → List TypeRef
refs_named (Once local at) = at ∷ []
refs_named (Twice local a b) = a ∷ b ∷ []

abbrev pub refs_listed : List (LocalId × TypeRef) → List TypeRef
refs_listed entries = map (λ entry. entry.1) entries

-- two lists side by side
abbrev pub beside_entry : LocalId × TypeRef → (List (LocalId × TypeRef) → List Named) → List (LocalId × TypeRef) → List Named
beside_entry x rest [] = Once x.0 x.1 ∷ rest []
beside_entry x rest (y ∷ ys) =
    by_order (nat_cmp x.0.0 y.0.0)
    (Once x.0 x.1 ∷ rest (y ∷ ys))
    (Twice x.0 x.1 y.1 ∷ rest ys)
    (Once y.0 y.1 ∷ beside_entry x rest ys)

abbrev pub side_by_side : List (LocalId × TypeRef) → List (LocalId × TypeRef) → List Named
side_by_side [] ys = map (λ y. Once y.0 y.1) ys
side_by_side (x ∷ xs) ys = beside_entry x (side_by_side xs) ys
