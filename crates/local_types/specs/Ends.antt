-- The ends of branches, put together.
use Rattle.std.specs.Prelude.{ℕ, Bool, true, ◌&&◌, List, [], ◌∷◌, if◌then◌else◌}
use Rattle.type_arena.specs.Term.{Term, never}
use Rattle.type_normal.specs.Cut.{cut_up}
use Rattle.type_normal.specs.Operations.{union}
use Rattle.local_types.specs.Entries.{entry_of}
use Rattle.local_types.specs.declared.node.Point.{Point}
use Rattle.local_types.specs.declared.types.LocalTypes.{LocalTypes}

-- whether no run comes to any of some ends
abbrev pub all_dead : List Point → Bool
all_dead [] = true
all_dead (end ∷ ends) = end.dead && all_dead ends

-- the union of what each live end gives a local
abbrev pub union_live : LocalTypes → List Point → ℕ → Term
union_live types [] local = never
union_live types (end ∷ ends) local = if end.dead then union_live types ends local else union (entry_of types end.map local) (union_live types ends local)

-- the entries after some ends
abbrev pub joining : LocalTypes → List Point → ℕ → Term
joining types ends local = cut_up (union_live types ends local)
