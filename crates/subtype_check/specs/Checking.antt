-- What is found over nodes on which types are below others.
use Rattle.std.specs.Prelude.{◌≡◌, ℕ, Bool, true, false, List, [], ◌∷◌, Option, Some, None, IfSome, if◌then◌else◌}
use Rattle.std.specs.List.{list_all}
use Rattle.std.specs.Str.{bytes_eq}
use Rattle.std.specs.declared.cmp.Ordering.{Ordering}
use Rattle.type_arena.specs.Meaning.{term_of}
use Rattle.type_arena.specs.Store.{Store}
use Rattle.type_arena.specs.Term.{Term}
use Rattle.type_arena.specs.declared.node.Among.{Among}
use Rattle.type_arena.specs.declared.node.Among.TheVariants.{Only, AllBut}
use Rattle.type_arena.specs.declared.node.TypeRef.{TypeRef}
use Rattle.type_normal.specs.Kinds.{unknown}
use Rattle.type_normal.specs.Members.{has_member}
use Rattle.type_normal.specs.Nodes.{is_nil}
use Rattle.type_normal.specs.Rows.{is_normal}
use Rattle.std.specs.Prelude.{not}
use Rattle.subtype_check.specs.Below.{is_above}
use Rattle.subtype_check.specs.declared.known.Known.{Known}
use Rattle.subtype_check.specs.declared.known.Pair.{Pair}

-- whether each member of a set is in another, as nodes have them
abbrev pub is_among : {X : Type 0} → (X → X → Ordering) → Among X → Among X → Bool
is_among cmp (Only xs) (Only ys) = list_all (λ x. has_member cmp x ys) xs
is_among cmp (Only xs) (AllBut ys) = list_all (λ x. not (has_member cmp x ys)) xs
is_among cmp (AllBut xs) (Only ys) = false
is_among cmp (AllBut xs) (AllBut ys) = list_all (λ y. has_member cmp y xs) ys

-- whether a set has all members, by its form
abbrev pub is_everything : {X : Type 0} → Among X → Bool
is_everything (Only members) = false
is_everything (AllBut members) = is_nil members

-- the reference of the type that a row lists for a field
abbrev pub listed_at : List ℕ → List (List ℕ × TypeRef) → Option TypeRef
listed_at name [] = None
listed_at name (field ∷ fields) = if bytes_eq field.0 name then Some field.1 else listed_at name fields

-- the type of a reference, and unknown where there is none
abbrev pub type_at : Store → Option TypeRef → Term
type_at store None = unknown
type_at store (Some at) = term_of store at

-- an answer on two types is that of the definition, where the lower type is in normal form
abbrev pub Answers : Store → Pair → Bool → Type 0
Answers store pair answer = is_normal (type_at store pair.lower) ≡ true → answer ≡ is_above (term_of store pair.upper) (type_at store pair.lower)

-- what is remembered at one place is right
abbrev pub IsRight : Store → Option Known → Type 0
IsRight store entry = IfSome entry (λ known. Answers store known.pair known.below)
