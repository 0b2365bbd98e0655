-- Lists of locals: those of which nothing is known any more, and those of which types are said.
use Rattle.std.specs.Prelude.{ℕ, ◌==◌, Bool, List, [], ◌∷◌, map, if◌then◌else◌}
use Rattle.std.specs.List.{list_any}
use Rattle.luau_tree.specs.declared.names.LocalId.{LocalId}
use Rattle.type_arena.specs.Term.{Term}
use Rattle.type_arena.specs.declared.node.TypeRef.{TypeRef}
use Rattle.type_normal.specs.Cut.{cut_up}
use Rattle.type_normal.specs.Kinds.{unknown}
use Rattle.type_normal.specs.Operations.{meet}
use Rattle.type_normal.specs.Rows.{is_empty, is_unknown}

-- the numbers of locals
abbrev pub numbers : List LocalId → List ℕ
numbers locals = map (λ local. local.0) locals

-- entries, where nothing is known of some locals
abbrev pub forgetting : List ℕ → (ℕ → Term) → ℕ → Term
forgetting locals entries other = if list_any (λ local. local == other) locals then unknown else entries other

-- locals with what the references beside them mean
abbrev pub said_meant : (TypeRef → Term) → List (LocalId × TypeRef) → List (ℕ × Term)
said_meant means said = map (λ entry. (entry.0.0, means entry.1)) said

-- the references beside locals
abbrev pub refs_said : List (LocalId × TypeRef) → List TypeRef
refs_said said = map (λ entry. entry.1) said

-- what is said of a local: the first type beside it, or unknown
abbrev pub said_of : List (ℕ × Term) → ℕ → Term
said_of [] local = unknown
said_of (entry ∷ said) local = if entry.0 == local then entry.1 else said_of said local

-- a type by what is said of its value: by unknown it stays as it is
abbrev pub refined_by : Term → Term → Term
refined_by guard type = if is_unknown guard then type else cut_up (meet type guard)

-- entries, each by what is said of its local
abbrev pub refining : List (ℕ × Term) → (ℕ → Term) → ℕ → Term
refining said entries local = refined_by (said_of said local) (entries local)

-- whether one of the locals of which something is said has no value then
abbrev pub some_empty : List (ℕ × Term) → (ℕ → Term) → Bool
some_empty said entries = list_any (λ entry. is_empty (refined_by entry.1 (entries entry.0))) said
