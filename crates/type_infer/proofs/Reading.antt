-- What rules read of names, where they are known by facts.
use Rattle.std.proofs.Common.{◌≡◌, ℕ, Bool, true, false, List, refl, sym, ap, ◌∙◌}
use Rattle.std.specs.Prelude.{Option, Some, None, if◌then◌else◌}
use Rattle.luau_tree.specs.Tree.{Expr, Bind, Body, the_body, Binds, Stat, Gens, Varargs, MaybeType, Block}
use Rattle.luau_tree.specs.declared.position.Span.{Span}
use Rattle.luau_run.specs.ReadModule.{Use, UseLocal, UseBuiltin, UseLibrary, UseGlobal}
use Rattle.luau_run.specs.ReadFolder.{local_of, is_among}
use Rattle.type_arena.specs.Term.{Term, literal}
use Rattle.type_normal.specs.Field.{with_row_field}
use Rattle.type_normal.specs.HeapFree.{widen, widen_at}
use Rattle.type_normal.specs.Kinds.{unknown, named_type}
use Rattle.module_reading.specs.Names.{Reads}
use Rattle.module_facts.specs.Facts.{rules_of_facts}
use Rattle.module_facts.specs.declared.facts.Facts.{Facts}
use Rattle.report_rules.specs.Rules.{Rules, loose, use_of}
use Rattle.report_rules.specs.Effects.{Target, OfField, local_of_bind, locals_of_binds, touches, stirs}
use Rattle.report_rules.specs.Forward.{name_type, target_use, builtin_or, literal_type}
use Rattle.report_rules.specs.TypeMap.{TypeMap, local_type, set, head, body_map, with_field, disturbed}
use Rattle.rule_state.specs.Conditions.{headed}
use Rattle.rule_work.specs.Moves.{valued, mapped, known_of, set_as, put_aside, taken}
use Rattle.rule_work.specs.Work.{Work}
use Rattle.infer_plan.specs.Read.{IsReadBy}
use Rattle.infer_plan.specs.Steps.{with_name, with_target_name, with_path, set_bind, entered, headed_by, store, write}
use Rattle.infer_plan.proofs.SameRules.{use_by, bind_by, binds_by, touches_by, stirs_by}

pub loose_by : (facts : Facts) (rules : Rules) → IsReadBy facts rules → (local : ℕ) → loose (rules_of_facts facts) local ≡ loose rules local
loose_by facts rules read local = sym (ap (λ (r : Rules). loose r local) read.same)

pub reads_by : (facts : Facts) (rules : Rules) → IsReadBy facts rules → Reads facts.scoped.now.uses facts.scoped.now.locals rules
unfolding rules_of_facts
reads_by facts rules read = record {
  meanings = λ id. ap (λ (r : Rules). r.reading.use_of id) read.same;
  declared = λ offset. ap (λ (r : Rules). r.reading.local_at offset) read.same;
  assigned = λ local. ap (λ (r : Rules). r.assigned local) read.same;
  caught = λ local. ap (λ (r : Rules). r.caught local) read.same;
  fixed = λ local. ap (λ (r : Rules). r.fixed local) read.same;
}

-- ## Names

pub name_is : (facts : Facts) (rules : Rules) → IsReadBy facts rules → (e : Expr) (meaning : Option Use) (work : Work) → meaning ≡ use_of (rules_of_facts facts) e
    → valued (name_type rules work.map meaning) work ≡ with_name rules e work
name_is facts rules read e meaning work is = ap (λ (u : Option Use). valued (name_type rules work.map u) work) (is ∙ use_by facts rules read e)

pub local_is : (facts : Facts) (rules : Rules) → IsReadBy facts rules → (local : ℕ) (is_loose : Bool) (work : Work) → is_loose ≡ loose (rules_of_facts facts) local
    → valued (known_of is_loose local work.map) work ≡ valued (local_type rules work.map local) work
local_is facts rules read local is_loose work is = ap (λ (b : Bool). valued (known_of b local work.map) work) (is ∙ loose_by facts rules read local)

target_local : (rules : Rules) (map : TypeMap) (meaning : Option Use) (local : ℕ) → Some local ≡ local_of meaning → local_type rules map local ≡ name_type rules map (target_use meaning)
target_local rules map (Some (UseLocal other)) local is = let same : local ≡ other = cc in ap (local_type rules map) same
target_local rules map (Some (UseBuiltin path)) local is = cc
target_local rules map (Some UseLibrary) local is = cc
target_local rules map (Some UseGlobal) local is = cc
target_local rules map None local is = cc

target_other : (rules : Rules) (map : TypeMap) (meaning : Option Use) → None ≡ local_of meaning → unknown ≡ name_type rules map (target_use meaning)
target_other rules map (Some (UseLocal other)) is = cc
target_other rules map (Some (UseBuiltin path)) is = refl
target_other rules map (Some UseLibrary) is = refl
target_other rules map (Some UseGlobal) is = refl
target_other rules map None is = refl

pub target_local_is : (facts : Facts) (rules : Rules) → IsReadBy facts rules → (e : Expr) (local : ℕ) (work : Work) → Some local ≡ local_of (use_of (rules_of_facts facts) e)
    → valued (local_type rules work.map local) work ≡ with_target_name rules e work
target_local_is facts rules read e local work is =
    ap (λ (type : Term). valued type work) (target_local rules work.map (use_of rules e) local (is ∙ ap local_of (use_by facts rules read e)))

pub target_other_is : (facts : Facts) (rules : Rules) → IsReadBy facts rules → (e : Expr) (work : Work) → None ≡ local_of (use_of (rules_of_facts facts) e)
    → valued unknown work ≡ with_target_name rules e work
target_other_is facts rules read e work is =
    ap (λ (type : Term). valued type work) (target_other rules work.map (use_of rules e) (is ∙ ap local_of (use_by facts rules read e)))

pub path_is : (facts : Facts) (rules : Rules) → IsReadBy facts rules → (e : Expr) (meaning : Option Use) (work : Work) → meaning ≡ use_of (rules_of_facts facts) e
    → valued (builtin_or meaning work.value) work ≡ with_path rules e work
path_is facts rules read e meaning work is = ap (λ (u : Option Use). valued (builtin_or u work.value) work) (is ∙ use_by facts rules read e)

-- ## Entries

pub set_is : (facts : Facts) (rules : Rules) → IsReadBy facts rules → (local : ℕ) (is_loose : Bool) (work : Work) → is_loose ≡ loose (rules_of_facts facts) local
    → mapped (set_as is_loose local work.value) work ≡ mapped (set rules local work.value) work
set_is facts rules read local is_loose work is = ap (λ (b : Bool). mapped (set_as b local work.value) work) (is ∙ loose_by facts rules read local)

pub bind_is : (facts : Facts) (rules : Rules) → IsReadBy facts rules → (bind : Bind) (local : ℕ) (work : Work) → local ≡ local_of_bind (rules_of_facts facts) bind
    → mapped (set rules local work.value) work ≡ set_bind rules bind work
bind_is facts rules read bind local work is = ap (λ (n : ℕ). mapped (set rules n work.value) work) (is ∙ bind_by facts rules read bind)

-- a field that was written of a local that isn't loose
field_by : (rules : Rules) (local : ℕ) (name : List ℕ) (work : Work) (is_loose : Bool) → is_loose ≡ loose rules local → is_loose ≡ false
    → (let type = with_row_field name (widen_at name work.value) (work.map.entry local) in
    taken (mapped (set_as false local type) (valued type (put_aside work))) ≡ mapped (with_field rules (OfField (Some local) name) work.value) work)
field_by rules local name work is_loose is not_loose =
    let type = with_row_field name (widen_at name work.value) (work.map.entry local) in
    let at = λ (b : Bool). record work { map = if b then work.map else set_as b local type work.map } in
    ap at (sym not_loose ∙ is)

pub field_is : (facts : Facts) (rules : Rules) → IsReadBy facts rules → (local : ℕ) (name : List ℕ) (work : Work) (is_loose : Bool) → is_loose ≡ loose (rules_of_facts facts) local → is_loose ≡ false
    → (let type = with_row_field name (widen_at name work.value) (work.map.entry local) in
    taken (mapped (set_as false local type) (valued type (put_aside work))) ≡ mapped (with_field rules (OfField (Some local) name) work.value) work)
field_is facts rules read local name work is_loose is not_loose = field_by rules local name work is_loose (is ∙ loose_by facts rules read local) not_loose

pub loose_field_is : (facts : Facts) (rules : Rules) → IsReadBy facts rules → (local : ℕ) (name : List ℕ) (work : Work) (is_loose : Bool) → is_loose ≡ loose (rules_of_facts facts) local → is_loose ≡ true
    → work ≡ mapped (with_field rules (OfField (Some local) name) work.value) work
loose_field_is facts rules read local name work is_loose is loosely =
    let type = with_row_field name (widen_at name work.value) (work.map.entry local) in
    let at = λ (b : Bool). record work { map = if b then work.map else set_as b local type work.map } in
    ap at (sym loosely ∙ is ∙ loose_by facts rules read local)

-- ## Bodies and loops

pub entered_is : (facts : Facts) (rules : Rules) → IsReadBy facts rules → (body : Body) (id : ℕ) (has_self : Bool) (generics : Gens) (params : Binds) (vararg : Varargs) (result : MaybeType) (block : Block) (span : Span)
    (locals : List ℕ) (work : Work) → body ≡ the_body id has_self generics params vararg result block span → locals ≡ locals_of_binds (rules_of_facts facts) params
    → mapped (body_map locals) work ≡ entered rules body work
entered_is facts rules read body id has_self generics params vararg result block span locals work is params_are =
    ap (λ (ns : List ℕ). mapped (body_map ns) work) (params_are ∙ binds_by facts rules read params)
    ∙ ap (λ (b : Body). entered rules b work) (sym is)

pub literal_is : (rules : Rules) (body : Body) (id home : ℕ) (has_self : Bool) (generics : Gens) (params : Binds) (vararg : Varargs) (result : MaybeType) (block : Block) (span : Span) (work : Work)
    → body ≡ the_body id has_self generics params vararg result block span → rules.reading.home ≡ home
    → valued (named_type (literal home id)) work ≡ valued (literal_type rules body) work
literal_is rules body id home has_self generics params vararg result block span work is at_home =
    ap (λ (h : ℕ). valued (named_type (literal h id)) work) (sym at_home)
    ∙ ap (λ (b : Body). valued (literal_type rules b) work) (sym is)

headed_with : (touched touches stirs stirs' : Bool) (type : Term) → touched ≡ touches → stirs ≡ stirs'
    → (if touched then unknown else if stirs then widen type else type) ≡ (if touches then unknown else if stirs' then widen type else type)
headed_with touched touches stirs stirs' type is same =
    ap (λ (b : Bool). if b then unknown else if stirs then widen type else type) is
    ∙ ap (λ (b : Bool). if touches then unknown else if b then widen type else type) same

pub headed_is : (facts : Facts) (rules : Rules) → IsReadBy facts rules → (s : Stat) (locals : List ℕ) (stirring : Bool) (work : Work)
    → ((local : ℕ) → is_among local locals ≡ touches (rules_of_facts facts) local s) → stirring ≡ stirs (rules_of_facts facts) s
    → mapped (headed locals stirring) work ≡ headed_by rules s work
headed_is facts rules read s locals stirring work among stirs_is =
    let entries : headed locals stirring work.map ≡ head rules s work.map =
    ap (λ (entry : ℕ → Term). record { dead = work.map.dead; entry = entry })
    (λ i. λ local. headed_with (is_among local locals) (touches rules local s) stirring (stirs rules s) (work.map.entry local) (among local ∙ touches_by facts rules read local s) (stirs_is ∙ stirs_by facts rules read s) i) in
    ap (λ (map : TypeMap). record work { map = map }) entries

-- ## Writes

-- the steps for a field that was written, one after the other
pub field_steps : (first held made written last : Work) (local : ℕ) (label name : List ℕ) → label ≡ name → held ≡ put_aside first
    → made ≡ valued (with_row_field label (widen_at label held.value) (held.map.entry local)) held
    → written ≡ mapped (set_as false local made.value) made → last ≡ taken written
    → (let type = with_row_field name (widen_at name first.value) (first.map.entry local) in last ≡ taken (mapped (set_as false local type) (valued type (put_aside first))))
field_steps first held made written last local label name named held_is made_is written_is last_is =
    last_is
    ∙ ap taken (written_is
    ∙ ap (λ (w : Work). mapped (set_as false local w.value) w) (made_is
    ∙ ap (λ (w : Work). valued (with_row_field label (widen_at label w.value) (w.map.entry local)) w) held_is
    ∙ ap (λ (l : List ℕ). valued (with_row_field l (widen_at l first.value) (first.map.entry local)) (put_aside first)) named))

pub write_steps : (rules : Rules) (target : Target) (first kept disturbing last : Work) → kept ≡ store rules target first → disturbing ≡ mapped (disturbed target) kept
    → last ≡ mapped (with_field rules target disturbing.value) disturbing → last ≡ write rules target first
write_steps rules target first kept disturbing last kept_is disturbing_is last_is =
    last_is
    ∙ ap (λ (w : Work). mapped (with_field rules target w.value) w) (disturbing_is ∙ ap (mapped (disturbed target)) kept_is)
