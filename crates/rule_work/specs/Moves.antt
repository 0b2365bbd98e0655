-- What calls make of what is at hand.
use Rattle.std.specs.Prelude.{ℕ, zero, suc, Bool, not, ◌==◌, ◌||◌, ◌&&◌, List, [], ◌∷◌, ◌++◌, length, if◌then◌else◌}
use Rattle.type_arena.specs.Term.{Term}
use Rattle.type_normal.specs.Cut.{cut_up}
use Rattle.type_normal.specs.Kinds.{unknown}
use Rattle.type_normal.specs.Rows.{is_empty}
use Rattle.report_rules.specs.Seen.{Seen, SeenExpr, SeenBody}
use Rattle.report_rules.specs.TypeMap.{TypeMap}
use Rattle.rule_work.specs.Work.{Work}

-- another type is at hand
abbrev pub valued : Term → Work → Work
valued type work = record work { value = type }

-- the type at hand is put aside
abbrev pub put_aside : Work → Work
put_aside work = record work { held = work.value ∷ work.held }

-- the type at hand is the last that was put aside
abbrev pub taken_from : List Term → Work → Work
taken_from [] work = work
taken_from (type ∷ held) work = record work { value = type; held = held }

abbrev pub taken : Work → Work
taken work = taken_from work.held work

-- the last that was put aside and the type at hand make one
abbrev pub made_from : (Term → Term → Term) → List Term → Work → Work
made_from both [] work = work
made_from both (type ∷ held) work = record work { value = both type work.value; held = held }

abbrev pub made : (Term → Term → Term) → Work → Work
made both work = made_from both work.held work

-- a list is begun
abbrev pub list_begun : Work → Work
list_begun work = record work { lists = [] ∷ work.lists }

-- the type at hand comes to the end of the innermost list
abbrev pub added_to : List (List Term) → Work → Work
added_to [] work = work
added_to (list ∷ lists) work = record work { lists = (list ++ work.value ∷ []) ∷ lists }

abbrev pub added : Work → Work
added work = added_to work.lists work

-- all but the first of some
abbrev pub rest_of : {X : Type 0} → List X → List X
rest_of [] = []
rest_of (x ∷ xs) = xs

-- the innermost list is let go
abbrev pub unlisted : Work → Work
unlisted work = record work { lists = rest_of work.lists }

-- what is known of a local that may be loose
abbrev pub known_of : (is_loose : Bool) → ℕ → TypeMap → Term
known_of is_loose local map = if is_loose then unknown else map.entry local

-- the map with a new entry for a local that may be loose
abbrev pub set_as : (is_loose : Bool) → ℕ → Term → TypeMap → TypeMap
set_as is_loose local type map = record {
  dead = map.dead || (not is_loose && is_empty type);
  entry = λ other. if other == local then cut_up type else map.entry other;
}

-- another map is at hand
abbrev pub mapped : (TypeMap → TypeMap) → Work → Work
mapped change work = record work { map = change work.map }

-- the map is put aside as well
abbrev pub kept_map : Work → Work
kept_map work = record work { saved = work.map ∷ work.saved }

-- the map is the last that was put aside
abbrev pub restored_from : List TypeMap → Work → Work
restored_from [] work = work
restored_from (map ∷ saved) work = record work { map = map; saved = saved }

abbrev pub restored : Work → Work
restored work = restored_from work.saved work

-- a list of ends is begun, and the map comes to the end of the innermost one
abbrev pub ends_begun : Work → Work
ends_begun work = record work { ends = [] ∷ work.ends }

abbrev pub ended_in : List (List TypeMap) → Work → Work
ended_in [] work = work
ended_in (maps ∷ ends) work = record work { ends = (maps ++ work.map ∷ []) ∷ ends }

abbrev pub end_added : Work → Work
end_added work = ended_in work.ends work

-- one more was seen
abbrev pub with_seen : Seen → Work → Work
with_seen seen work = record work { seen = work.seen ++ seen ∷ [] }

-- an expression was seen whose type is still to come
abbrev pub opened : (id : ℕ) → Work → Work
opened id work = record work { seen = work.seen ++ SeenExpr id work.value (not work.map.dead) ∷ []; pending = length work.seen ∷ work.pending }

-- what was seen, with another type
abbrev pub retyped : Term → Seen → Seen
retyped type (SeenExpr id old live) = SeenExpr id type live
retyped type (SeenBody id live) = SeenBody id live

-- the same at a place of a list
abbrev pub retyped_at : Term → ℕ → List Seen → List Seen
retyped_at type place [] = []
retyped_at type zero (seen ∷ rest) = retyped type seen ∷ rest
retyped_at type (suc place) (seen ∷ rest) = seen ∷ retyped_at type place rest

-- the type at hand is that of the last expression whose type was still to come
abbrev pub closed_from : List ℕ → Work → Work
closed_from [] work = work
closed_from (place ∷ pending) work = record work { seen = retyped_at work.value place work.seen; pending = pending }

abbrev pub closed : Work → Work
closed work = closed_from work.pending work
