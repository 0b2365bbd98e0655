-- Maps whose entries are in normal form.
use Rattle.std.proofs.Common.{ℕ, Bool, true, false, not, List, [], ◌∷◌, refl}
use Rattle.std.specs.Prelude.{◌==◌, Some, filter, if◌then◌else◌}
use Rattle.std.specs.List.{AllByRecursion, list_any}
use Rattle.luau_tree.specs.Tree.{Expr, Stat}
use Rattle.type_arena.specs.Term.{Term}
use Rattle.type_normal.specs.Rows.{is_unknown}
use Rattle.type_normal.specs.Operations.{meet}
use Rattle.type_normal.specs.Kinds.{unknown, nil_type}
use Rattle.type_normal.specs.HeapFree.{widen, widen_at}
use Rattle.type_normal.specs.Cut.{cut_up}
use Rattle.type_normal.specs.Field.{with_row_field}
use Rattle.type_ops.proofs.FieldKeeps.{with_row_field_normal}
use Rattle.type_ops.proofs.KeepFacts.{union_normal, meet_normal, widen_normal, widen_at_normal, cut_up_normal}
use Rattle.report_rules.specs.Effects.{Target, OfLocal, OfField, OfElement, stirs, touches}
use Rattle.report_rules.specs.Guard.{guard}
use Rattle.report_rules.specs.Rules.{Rules, loose}
use Rattle.report_rules.specs.TypeMap.{TypeMap, no_map, local_type, set, forget, widened, widened_at, refined_by, refine, union_of, joined, head, body_map, not_given, set_all, stored, disturbed, with_field, written, stored_all, disturbed_all, first_type, assigned_all}
use Rattle.error_context.proofs.NormalFacts.{guard_normal}
use Rattle.normal_rules.specs.Normal.{IsNormal}

-- each entry is in normal form
abbrev pub IsNormalMap : TypeMap → Type 0
IsNormalMap map = (local : ℕ) → IsNormal (map.entry local)

pub pick : (b : Bool) (t u : Term) → IsNormal t → IsNormal u → IsNormal (if b then t else u)
pick true t u p q = p
pick false t u p q = q

pub no_map_normal : IsNormalMap no_map
no_map_normal local = refl

pub local_normal : (rules : Rules) (map : TypeMap) (local : ℕ) → IsNormalMap map → IsNormal (local_type rules map local)
local_normal rules map local n = pick (loose rules local) unknown (map.entry local) refl (n local)

pub set_normal : (rules : Rules) (local : ℕ) (type : Term) (map : TypeMap) → IsNormal type → IsNormalMap map → IsNormalMap (set rules local type map)
set_normal rules local type map t n = λ other. pick (other == local) (cut_up type) (map.entry other) (cut_up_normal type t) (n other)

pub forget_normal : (locals : List ℕ) (map : TypeMap) → IsNormalMap map → IsNormalMap (forget locals map)
forget_normal locals map n = λ other. pick (list_any (λ local. local == other) locals) unknown (map.entry other) refl (n other)

pub widened_normal : (map : TypeMap) → IsNormalMap map → IsNormalMap (widened map)
widened_normal map n = λ local. widen_normal (map.entry local) (n local)

widened_at_normal : (name : List ℕ) (map : TypeMap) → IsNormalMap map → IsNormalMap (widened_at name map)
widened_at_normal name map n = λ local. widen_at_normal name (map.entry local) (n local)

refined_normal : (says type : Term) → IsNormal says → IsNormal type → IsNormal (refined_by says type)
refined_normal says type s t = pick (is_unknown says) type (cut_up (meet type says)) t (cut_up_normal (meet type says) (meet_normal type says t s))

pub refine_normal : (rules : Rules) (cond : Expr) (truth : Bool) (map : TypeMap) → IsNormalMap map → IsNormalMap (refine rules cond truth map)
refine_normal rules cond truth map n = λ local. refined_normal (guard rules cond truth local) (map.entry local) (guard_normal rules cond truth local) (n local)

union_normal_of : (maps : List TypeMap) → AllByRecursion IsNormalMap maps → (local : ℕ) → IsNormal (union_of maps local)
union_normal_of [] all local = refl
union_normal_of (map ∷ maps) all local = union_normal (map.entry local) (union_of maps local) (all.0 local) (union_normal_of maps all.1 local)

live_by : (map : TypeMap) (maps : List TypeMap) (b : Bool) → IsNormalMap map → AllByRecursion IsNormalMap (filter (λ m. not m.dead) maps)
    → AllByRecursion IsNormalMap (if b then map ∷ filter (λ m. not m.dead) maps else filter (λ m. not m.dead) maps)
live_by map maps true n all = (n, all)
live_by map maps false n all = all

live_normal : (maps : List TypeMap) → AllByRecursion IsNormalMap maps → AllByRecursion IsNormalMap (filter (λ m. not m.dead) maps)
live_normal [] all = tt
live_normal (map ∷ maps) all = live_by map maps (not map.dead) all.0 (live_normal maps all.1)

pub joined_normal : (maps : List TypeMap) → AllByRecursion IsNormalMap maps → IsNormalMap (joined maps)
joined_normal maps all =
    let live = filter (λ (m : TypeMap). not m.dead) maps in
    λ local. cut_up_normal (union_of live local) (union_normal_of live (live_normal maps all) local)

pub head_normal : (rules : Rules) (loop : Stat) (map : TypeMap) → IsNormalMap map → IsNormalMap (head rules loop map)
head_normal rules loop map n = λ local.
    pick (touches rules local loop) unknown (if stirs rules loop then widen (map.entry local) else map.entry local) refl
    (pick (stirs rules loop) (widen (map.entry local)) (map.entry local) (widen_normal (map.entry local) (n local)) (n local))

pub body_map_normal : (params : List ℕ) (map : TypeMap) → IsNormalMap map → IsNormalMap (body_map params map)
body_map_normal params map n = forget_normal params (widened map) (widened_normal map n)

pub not_given_normal : (expanding : Bool) → IsNormal (not_given expanding)
not_given_normal expanding = pick expanding unknown nil_type refl refl

pub set_all_normal : (rules : Rules) (locals : List ℕ) (expanding : Bool) (types : List Term) (map : TypeMap) → AllByRecursion IsNormal types → IsNormalMap map
    → IsNormalMap (set_all rules locals expanding types map)
set_all_normal rules [] expanding types map all n = n
set_all_normal rules (local ∷ locals) expanding [] map all n =
    set_all_normal rules locals expanding [] (set rules local (not_given expanding) map) tt (set_normal rules local (not_given expanding) map (not_given_normal expanding) n)
set_all_normal rules (local ∷ locals) expanding (type ∷ types) map all n =
    set_all_normal rules locals expanding types (set rules local type map) all.1 (set_normal rules local type map all.0 n)

stored_normal : (rules : Rules) (target : Target) (type : Term) (map : TypeMap) → IsNormal type → IsNormalMap map → IsNormalMap (stored rules target type map)
stored_normal rules (OfLocal local) type map t n = set_normal rules local type map t n
stored_normal rules _ type map t n = n

disturbed_normal : (target : Target) (map : TypeMap) → IsNormalMap map → IsNormalMap (disturbed target map)
disturbed_normal (OfField base name) map n = widened_at_normal name map n
disturbed_normal OfElement map n = widened_normal map n
disturbed_normal _ map n = n

field_by : (rules : Rules) (local : ℕ) (name : List ℕ) (type : Term) (map : TypeMap) (b : Bool) → IsNormal type → IsNormalMap map
    → IsNormalMap (if b then map else set rules local (with_row_field name (widen_at name type) (map.entry local)) map)
field_by rules local name type map true t n = n
field_by rules local name type map false t n =
    set_normal rules local (with_row_field name (widen_at name type) (map.entry local)) map
    (with_row_field_normal name (widen_at name type) (map.entry local) (widen_at_normal name type t) (n local)) n

with_field_normal : (rules : Rules) (target : Target) (type : Term) (map : TypeMap) → IsNormal type → IsNormalMap map → IsNormalMap (with_field rules target type map)
with_field_normal rules (OfField (Some local) name) type map t n = field_by rules local name type map (loose rules local) t n
with_field_normal rules _ type map t n = n

pub written_normal : (rules : Rules) (target : Target) (type : Term) (map : TypeMap) → IsNormal type → IsNormalMap map → IsNormalMap (written rules target type map)
written_normal rules target type map t n =
    with_field_normal rules target type (disturbed target (stored rules target type map)) t
    (disturbed_normal target (stored rules target type map) (stored_normal rules target type map t n))

stored_all_normal : (rules : Rules) (targets : List Target) (expanding : Bool) (types : List Term) (map : TypeMap) → AllByRecursion IsNormal types → IsNormalMap map
    → IsNormalMap (stored_all rules targets expanding types map)
stored_all_normal rules [] expanding types map all n = n
stored_all_normal rules (target ∷ targets) expanding [] map all n =
    stored_all_normal rules targets expanding [] (stored rules target (not_given expanding) map) tt
    (stored_normal rules target (not_given expanding) map (not_given_normal expanding) n)
stored_all_normal rules (target ∷ targets) expanding (type ∷ types) map all n =
    stored_all_normal rules targets expanding types (stored rules target type map) all.1 (stored_normal rules target type map all.0 n)

disturbed_all_normal : (targets : List Target) (map : TypeMap) → IsNormalMap map → IsNormalMap (disturbed_all targets map)
disturbed_all_normal [] map n = n
disturbed_all_normal (target ∷ targets) map n = disturbed_all_normal targets (disturbed target map) (disturbed_normal target map n)

pub first_type_normal : (expanding : Bool) (types : List Term) → AllByRecursion IsNormal types → IsNormal (first_type expanding types)
first_type_normal expanding [] all = not_given_normal expanding
first_type_normal expanding (type ∷ types) all = all.0

pub assigned_normal : (rules : Rules) (targets : List Target) (expanding : Bool) (types : List Term) (map : TypeMap) → AllByRecursion IsNormal types → IsNormalMap map
    → IsNormalMap (assigned_all rules targets expanding types map)
assigned_normal rules (target ∷ []) expanding types map all n =
    written_normal rules target (first_type expanding types) map (first_type_normal expanding types all) n
assigned_normal rules [] expanding types map all n = n
assigned_normal rules (target ∷ other ∷ targets) expanding types map all n =
    disturbed_all_normal (target ∷ other ∷ targets) (stored_all rules (target ∷ other ∷ targets) expanding types map)
    (stored_all_normal rules (target ∷ other ∷ targets) expanding types map all n)
