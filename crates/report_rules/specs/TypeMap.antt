-- What is known of the locals at a point of a module.
use Rattle.std.specs.Prelude.{ℕ, Bool, true, false, not, ◌==◌, ◌&&◌, ◌||◌, List, [], ◌∷◌, Some, if◌then◌else◌, filter}
use Rattle.std.specs.List.{list_any}
use Rattle.luau_tree.specs.Tree.{Expr, Stat}
use Rattle.type_arena.specs.Term.{Term, never}
use Rattle.type_normal.specs.Rows.{is_empty, is_unknown}
use Rattle.type_normal.specs.Operations.{union, meet}
use Rattle.type_normal.specs.Kinds.{unknown, nil_type}
use Rattle.type_normal.specs.HeapFree.{widen, widen_at}
use Rattle.type_normal.specs.Cut.{cut_up}
use Rattle.type_normal.specs.Field.{with_row_field}
use Rattle.report_rules.specs.Rules.{Rules, loose}
use Rattle.report_rules.specs.Effects.{Target, OfLocal, OfField, OfElement, stirs, touches}
use Rattle.report_rules.specs.Guard.{guard, guarded}

-- a map gives each local a type, unknown where nothing is known. A dead map is that of a place that no run reaches
pub record TypeMap : Type 0 where
  pub dead : Bool
  pub entry : ℕ → Term

-- where nothing is known
abbrev pub no_map : TypeMap
no_map = record { dead = false; entry = λ local. unknown }

-- what a local holds: anything, where it is loose
abbrev pub local_type : Rules → TypeMap → ℕ → Term
local_type rules map local = if loose rules local then unknown else map.entry local

-- the map with a new entry, which is cut up; without values for a local that isn't loose it is dead
abbrev pub set : Rules → ℕ → Term → TypeMap → TypeMap
set rules local type map = record {
  dead = map.dead || (not (loose rules local) && is_empty type);
  entry = λ other. if other == local then cut_up type else map.entry other;
}

-- the map where nothing is known of some locals
abbrev pub forget : List ℕ → TypeMap → TypeMap
forget locals map = record map { entry = λ other. if list_any (λ local. local == other) locals then unknown else map.entry other }

-- the map after what may have changed tables, and after writes to fields of one name
abbrev pub widened : TypeMap → TypeMap
widened map = record map { entry = λ local. widen (map.entry local) }

abbrev pub widened_at : List ℕ → TypeMap → TypeMap
widened_at name map = record map { entry = λ local. widen_at name (map.entry local) }

-- the map where no run goes on
abbrev pub ended : TypeMap → TypeMap
ended map = record map { dead = true }

-- an entry refined by what a guard says: by unknown it stays as it is
abbrev pub refined_by : Term → Term → Term
refined_by guard type = if is_unknown guard then type else cut_up (meet type guard)

-- the map where a condition came out true, or false; it is dead if a local of the condition then has no value
abbrev pub refine : Rules → Expr → Bool → TypeMap → TypeMap
refine rules cond truth map = record {
  dead = map.dead || list_any (λ local. is_empty (refined_by (guard rules cond truth local) (map.entry local))) (guarded rules cond);
  entry = λ local. refined_by (guard rules cond truth local) (map.entry local);
}

-- the union of what each map gives a local
abbrev pub union_of : List TypeMap → ℕ → Term
union_of [] local = never
union_of (map ∷ maps) local = union (map.entry local) (union_of maps local)

abbrev pub no_maps : List TypeMap → Bool
no_maps [] = true
no_maps (map ∷ maps) = false

-- the map after branches: the union of the live ends, cut up; without one it is dead, and each entry never
abbrev pub joined_live : List TypeMap → TypeMap
joined_live live = record { dead = no_maps live; entry = λ local. cut_up (union_of live local) }

abbrev pub joined : List TypeMap → TypeMap
joined ends = joined_live (filter (λ map. not map.dead) ends)

-- the map at each turn of a loop: nothing is known of what the loop assigns or declares, and it is widened if the loop stirs
abbrev pub head : Rules → Stat → TypeMap → TypeMap
head rules loop map = record map {
  entry = λ local. if touches rules local loop then unknown else if stirs rules loop then widen (map.entry local) else map.entry local;
}

-- the map that a function's body starts with: nothing is known of its parameters, and what is known from outside is widened
abbrev pub body_map : List ℕ → TypeMap → TypeMap
body_map params map = forget params (widened map)

-- the type of a name that is given no value: nil, or anything if the last value expands
abbrev pub not_given : (expanding : Bool) → Term
not_given expanding = if expanding then unknown else nil_type

-- the map after locals were declared with values of these types
abbrev pub set_all : Rules → List ℕ → (expanding : Bool) → List Term → TypeMap → TypeMap
set_all rules [] expanding types map = map
set_all rules (local ∷ locals) expanding [] map = set_all rules locals expanding [] (set rules local (not_given expanding) map)
set_all rules (local ∷ locals) expanding (type ∷ types) map = set_all rules locals expanding types (set rules local type map)

-- the map after one write of a value of a type, without what is known of the table
abbrev pub stored : Rules → Target → Term → TypeMap → TypeMap
stored rules (OfLocal local) type map = set rules local type map
stored rules _ type map = map

-- each entry after a write
abbrev pub disturbed : Target → TypeMap → TypeMap
disturbed (OfField base name) map = widened_at name map
disturbed OfElement map = widened map
disturbed _ map = map

-- where a field of a local that isn't loose was written, alone, each row of the local has the field with the value's type
abbrev pub with_field : Rules → Target → Term → TypeMap → TypeMap
with_field rules (OfField (Some local) name) type map =
    if loose rules local then map else set rules local (with_row_field name (widen_at name type) (map.entry local)) map
with_field rules _ type map = map

-- the map after a write that stands alone
abbrev pub written : Rules → Target → Term → TypeMap → TypeMap
written rules target type map = with_field rules target type (disturbed target (stored rules target type map))

-- the map after some writes: all locals get their values, and then every entry suffers each write to a table
abbrev pub stored_all : Rules → List Target → (expanding : Bool) → List Term → TypeMap → TypeMap
stored_all rules [] expanding types map = map
stored_all rules (target ∷ targets) expanding [] map = stored_all rules targets expanding [] (stored rules target (not_given expanding) map)
stored_all rules (target ∷ targets) expanding (type ∷ types) map = stored_all rules targets expanding types (stored rules target type map)

abbrev pub disturbed_all : List Target → TypeMap → TypeMap
disturbed_all [] map = map
disturbed_all (target ∷ targets) map = disturbed_all targets (disturbed target map)

-- the type of the first of some values
abbrev pub first_type : (expanding : Bool) → List Term → Term
first_type expanding [] = not_given expanding
first_type expanding (type ∷ types) = type

-- the map after an assignment's writes
abbrev pub assigned_all : Rules → List Target → (expanding : Bool) → List Term → TypeMap → TypeMap
assigned_all rules (target ∷ []) expanding types map = written rules target (first_type expanding types) map
assigned_all rules targets expanding types map = disturbed_all targets (stored_all rules targets expanding types map)
