-- Contexts as lists of entries: what each local has, and which lists are contexts of an arena.
use Rattle.std.specs.Prelude.{◌≡◌, ◌≤◌, ⊤, ℕ, suc, ◌==◌, Bool, false, true, not, ◌&&◌, List, [], ◌∷◌, map, filter, Option, Some, None, IsTrue, All, if◌then◌else◌}
use Rattle.std.specs.List.{list_any}
use Rattle.luau_tree.specs.declared.names.LocalId.{LocalId}
use Rattle.type_arena.specs.Arena.{store_of}
use Rattle.type_arena.specs.Meaning.{term_of}
use Rattle.type_arena.specs.Store.{has}
use Rattle.type_arena.specs.Term.{Term, never}
use Rattle.type_arena.specs.declared.arena.Arena.{Arena}
use Rattle.type_arena.specs.declared.node.TypeRef.{TypeRef}
use Rattle.type_normal.specs.Cut.{is_small}
use Rattle.type_normal.specs.Growing.{given_refs, IsClean}
use Rattle.type_normal.specs.Kinds.{unknown}
use Rattle.type_normal.specs.Rows.{is_empty, is_normal}

-- the entries of some locals
abbrev pub Entries : Type 0
Entries = List (LocalId × TypeRef)

-- the reference of a local's entry, if it has one
abbrev pub entry_at : Entries → ℕ → Option TypeRef
entry_at [] local = None
entry_at (e ∷ entries) local = if e.0.0 == local then Some e.1 else entry_at entries local

-- the type of a local's entry, once it is known what references mean, or another type without one
abbrev pub entry_or : Term → (TypeRef → Term) → Entries → ℕ → Term
entry_or absent means [] local = absent
entry_or absent means (e ∷ entries) local = if e.0.0 == local then means e.1 else entry_or absent means entries local

-- what a list of entries has for each local, as a context has it: a local without an entry has never
abbrev pub context_of : Arena → Entries → ℕ → Term
context_of arena entries local = entry_or never (term_of (store_of arena)) entries local

-- a list of entries as what a condition says: of a local without one it says nothing
abbrev pub guard_of : Arena → Entries → ℕ → Term
guard_of arena entries local = entry_or unknown (term_of (store_of arena)) entries local

-- the references of some entries, and their locals
abbrev pub refs_in : Entries → List TypeRef
refs_in entries = map (λ e. e.1) entries

abbrev pub locals_in : Entries → List ℕ
locals_in entries = map (λ e. e.0.0) entries

-- numbers ascend, from a lowest one on
abbrev pub AscendFrom : ℕ → List ℕ → Type 0
AscendFrom lowest [] = ⊤
AscendFrom lowest (n ∷ numbers) = (lowest ≤ n) × AscendFrom (suc n) numbers

-- references are there, and their types pass a test
abbrev pub AreThere : Arena → List TypeRef → Type 0
AreThere arena refs = All (λ at. IsTrue (has (store_of arena) at)) refs

abbrev pub HaveTypes : Arena → (Term → Bool) → List TypeRef → Type 0
HaveTypes arena test refs = All (λ at. test (term_of (store_of arena) at) ≡ true) refs

-- whether a type is as the entries of a context are: in normal form and cut
abbrev pub is_cut : Term → Bool
is_cut type = is_normal type && is_small type

-- each home that is reached from entries, which a call has made of what it was given, may be used
abbrev pub AreClean : Arena → Arena → List TypeRef → Entries → Type 0
AreClean old new refs entries = All (IsClean old new (given_refs refs)) (refs_in entries)

-- the entry of one local, unless its type is empty
abbrev pub entry_of_one : Arena → LocalId → TypeRef → Entries
entry_of_one arena local at = if is_empty (term_of (store_of arena) at) then [] else (local, at) ∷ []

-- entries without those of some locals
abbrev pub entries_without : List LocalId → Entries → Entries
entries_without locals entries = filter (λ e. not (list_any (λ other. other.0 == e.0.0) locals)) entries

-- what a condition says: entries whose types are in normal form, in the order of their locals, each local once
pub record IsGuard (arena : Arena) (entries : Entries) : Type 0 where
  pub sorted : AscendFrom 0 (locals_in entries)
  pub there : AreThere arena (refs_in entries)
  pub normal : HaveTypes arena is_normal (refs_in entries)

-- a context: entries whose types are in normal form, cut and not empty, in the order of their locals, each local once
pub record IsContext (arena : Arena) (entries : Entries) : Type 0 where
  pub sorted : AscendFrom 0 (locals_in entries)
  pub there : AreThere arena (refs_in entries)
  pub cut : HaveTypes arena is_cut (refs_in entries)
  pub full : All (λ at. is_empty (term_of (store_of arena) at) ≡ false) (refs_in entries)
