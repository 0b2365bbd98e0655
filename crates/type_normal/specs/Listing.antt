-- What is remembered of which types list a name.
use Rattle.std.specs.Prelude.{◌≡◌, ℕ, Bool, not, ◌||◌, List, Some, filter}
use Rattle.std.specs.HashMap.{get, HashMap}
use Rattle.std.specs.declared.hash.FoldHasher.{FoldHasher}
use Rattle.std.specs.declared.hash.BuildHasherDefault.{BuildHasherDefault}
use Rattle.type_arena.specs.Term.{Term}
use Rattle.type_arena.specs.Meaning.{term_of, fields_by}
use Rattle.type_arena.specs.Store.{Store}
use Rattle.type_arena.specs.declared.node.Row.{Row}
use Rattle.type_arena.specs.declared.node.TypeRef.{TypeRef}
use Rattle.type_arena.specs.contracts.node.TypeRefPartialEq.TheImpl as TypeRefEq
use Rattle.type_normal.specs.HeapFree.{heap_free_row, lists, fields_list}

-- a memory of which types list a name
abbrev pub Listings : Type 0
Listings = HashMap TypeRef Bool (BuildHasherDefault FoldHasher)

-- what is remembered is right
abbrev pub IsRightAt : List ℕ → Store → Listings → Type 0
IsRightAt name store known = (at : TypeRef) (listed : Bool) → get TypeRefEq.ghosts.eq known at ≡ Some listed → listed ≡ lists name (term_of store at)

-- the rows that are heap-free or list no field of a name
abbrev pub stable_at : List ℕ → (TypeRef → Term) → List Row → List Row
stable_at name means rows = filter (λ row. heap_free_row row.frozen (fields_by means row.fields) || not (fields_list name (fields_by means row.fields))) rows
