-- What if-expressions and `if`s are made of.
use Rattle.std.proofs.Common.{◌≡◌, ℕ, Bool, true, false, List, [], ◌∷◌, ◌++◌, refl, sym, ap, ◌∙◌, append_assoc, append-nil}
use Rattle.luau_tree.specs.declared.position.Span.{Span}
use Rattle.luau_tree.specs.Tree.{Expr, Choices, no_choices, more_choices, IfElse, Block, Arms, no_arms, more_arms, MaybeBlock, no_block, a_block, the_stat, If}
use Rattle.type_arena.specs.Term.{Term, never}
use Rattle.type_normal.specs.Operations.{union}
use Rattle.type_fields.specs.Unions.{unions_with}
use Rattle.report_rules.specs.Rules.{Rules}
use Rattle.report_rules.specs.TypeMap.{TypeMap, refine, joined}
use Rattle.report_rules.specs.Forward.{typ, after, type_of_choices}
use Rattle.report_rules.specs.After.{after_block, ends_of_arms, end_of_last, returned_block, returned_arms, returned_last}
use Rattle.report_rules.specs.Seen.{Seen, seen_expr, seen_choices, seen_block, seen_arms, seen_last}
use Rattle.rule_work.specs.Work.{Work}
use Rattle.rule_work.specs.Moves.{kept_map, restored, list_begun, ends_begun, end_added}
use Rattle.rule_work.specs.Listed.{used}
use Rattle.rule_work.specs.Branches.{ends_joined}
use Rattle.infer_plan.specs.Steps.{with_expr, with_kind, each_choice, each_arm, at_last, with_block, with_stat}

-- the map behind the conditions that came out false
abbrev map_behind : Rules → TypeMap → Choices → TypeMap
map_behind rules map no_choices = map
map_behind rules map (more_choices cond e rest) = map_behind rules (refine rules cond false (after rules map cond)) rest

-- the types of the values, and what is seen
abbrev types_of : Rules → TypeMap → Choices → List Term
types_of rules map no_choices = []
types_of rules map (more_choices cond e rest) =
    typ rules (refine rules cond true (after rules map cond)) e ∷ types_of rules (refine rules cond false (after rules map cond)) rest

abbrev seen_of : Rules → TypeMap → Choices → List Seen
seen_of rules map no_choices = []
seen_of rules map (more_choices cond e rest) =
    seen_expr rules map cond ++ seen_expr rules (refine rules cond true (after rules map cond)) e ++ seen_of rules (refine rules cond false (after rules map cond)) rest

types_are : (rules : Rules) (map : TypeMap) (arms : Choices) (last : TypeMap → Term)
    → unions_with (types_of rules map arms) (last (map_behind rules map arms)) ≡ type_of_choices rules map arms last
types_are rules map no_choices last = refl
types_are rules map (more_choices cond e rest) last =
    ap (union (typ rules (refine rules cond true (after rules map cond)) e)) (types_are rules (refine rules cond false (after rules map cond)) rest last)

seen_are : (rules : Rules) (map : TypeMap) (arms : Choices) (last : TypeMap → List Seen)
    → seen_of rules map arms ++ last (map_behind rules map arms) ≡ seen_choices rules map arms last
seen_are rules map no_choices last = refl
seen_are rules map (more_choices cond e rest) last =
    append_assoc (seen_expr rules map cond ++ seen_expr rules (refine rules cond true (after rules map cond)) e) (seen_of rules (refine rules cond false (after rules map cond)) rest) (last (map_behind rules (refine rules cond false (after rules map cond)) rest))
    ∙ ap (λ (ss : List Seen). (seen_expr rules map cond ++ seen_expr rules (refine rules cond true (after rules map cond)) e) ++ ss) (seen_are rules (refine rules cond false (after rules map cond)) rest last)

abbrev grown : List Term → List (List Term) → TypeMap → List Seen → Work → Work
grown types lists map seen work = record work { lists = types ∷ lists; map = map; seen = seen }

each_choice_grown : (rules : Rules) (arms : Choices) (types : List Term) (lists : List (List Term)) (map : TypeMap) (seen : List Seen) (work : Work)
    → each_choice rules arms (grown types lists map seen work)
    ≡ grown (types ++ types_of rules map arms) lists (map_behind rules map arms) (seen ++ seen_of rules map arms) work
each_choice_grown rules no_choices types lists map seen work =
    ap (λ (ts : List Term). grown ts lists map seen work) (sym (append-nil types))
    ∙ ap (λ (ss : List Seen). grown (types ++ []) lists map ss work) (sym (append-nil seen))
each_choice_grown rules (more_choices cond e rest) types lists map seen work =
    let one = typ rules (refine rules cond true (after rules map cond)) e in
    let map' = refine rules cond false (after rules map cond) in
    let a = seen_expr rules map cond in
    let b = seen_expr rules (refine rules cond true (after rules map cond)) e in
    each_choice_grown rules rest (types ++ one ∷ []) lists map' ((seen ++ a) ++ b) work
    ∙ ap (λ (ts : List Term). grown ts lists (map_behind rules map' rest) (((seen ++ a) ++ b) ++ seen_of rules map' rest) work) (append_assoc types (one ∷ []) (types_of rules map' rest))
    ∙ ap (λ (ss : List Seen). grown (types ++ (one ∷ types_of rules map' rest)) lists (map_behind rules map' rest) ss work)
    (ap (λ (ss : List Seen). ss ++ seen_of rules map' rest) (append_assoc seen a b) ∙ append_assoc seen (a ++ b) (seen_of rules map' rest))

pub if_else_form : (rules : Rules) (id : ℕ) (arms : Choices) (last : Expr) (work : Work)
    → restored (used unions_with (with_expr rules last (each_choice rules arms (kept_map (list_begun work))))) ≡ with_kind rules id (IfElse arms last) work
if_else_form rules id arms last work =
    let behind = map_behind rules work.map arms in
    ap (λ (w : Work). restored (used unions_with (with_expr rules last w))) (each_choice_grown rules arms [] work.lists work.map work.seen (kept_map work))
    ∙ ap (λ (type : Term). record work { value = type; seen = (work.seen ++ seen_of rules work.map arms) ++ seen_expr rules behind last }) (types_are rules work.map arms (λ at_last. typ rules at_last last))
    ∙ ap (λ (ss : List Seen). record work { value = type_of_choices rules work.map arms (λ at_last. typ rules at_last last); seen = ss })
    (append_assoc work.seen (seen_of rules work.map arms) (seen_expr rules behind last)
    ∙ ap (λ (ss : List Seen). work.seen ++ ss) (seen_are rules work.map arms (λ at_last. seen_expr rules at_last last)))

-- ## Arms

abbrev behind_arms : Rules → TypeMap → Arms → TypeMap
behind_arms rules map no_arms = map
behind_arms rules map (more_arms cond body rest) = behind_arms rules (refine rules cond false (after rules map cond)) rest

abbrev returns_of : Rules → TypeMap → Arms → List Term
returns_of rules map no_arms = []
returns_of rules map (more_arms cond body rest) =
    returned_block rules (refine rules cond true (after rules map cond)) body ∷ returns_of rules (refine rules cond false (after rules map cond)) rest

abbrev ends_of : Rules → TypeMap → Arms → List TypeMap
ends_of rules map no_arms = []
ends_of rules map (more_arms cond body rest) =
    after_block rules (refine rules cond true (after rules map cond)) body ∷ ends_of rules (refine rules cond false (after rules map cond)) rest

abbrev seen_in_arms : Rules → TypeMap → Arms → List Seen
seen_in_arms rules map no_arms = []
seen_in_arms rules map (more_arms cond body rest) =
    seen_expr rules map cond ++ seen_block rules (refine rules cond true (after rules map cond)) body ++ seen_in_arms rules (refine rules cond false (after rules map cond)) rest

returns_are : (rules : Rules) (map : TypeMap) (arms : Arms) (last : TypeMap → Term)
    → unions_with (returns_of rules map arms) (last (behind_arms rules map arms)) ≡ returned_arms rules map arms last
returns_are rules map no_arms last = refl
returns_are rules map (more_arms cond body rest) last =
    ap (union (returned_block rules (refine rules cond true (after rules map cond)) body)) (returns_are rules (refine rules cond false (after rules map cond)) rest last)

ends_are : (rules : Rules) (map : TypeMap) (arms : Arms) (last : TypeMap → TypeMap)
    → ends_of rules map arms ++ last (behind_arms rules map arms) ∷ [] ≡ ends_of_arms rules map arms last
ends_are rules map no_arms last = refl
ends_are rules map (more_arms cond body rest) last =
    ap (λ (ends : List TypeMap). after_block rules (refine rules cond true (after rules map cond)) body ∷ ends) (ends_are rules (refine rules cond false (after rules map cond)) rest last)

seen_arms_are : (rules : Rules) (map : TypeMap) (arms : Arms) (last : TypeMap → List Seen)
    → seen_in_arms rules map arms ++ last (behind_arms rules map arms) ≡ seen_arms rules map arms last
seen_arms_are rules map no_arms last = refl
seen_arms_are rules map (more_arms cond body rest) last =
    append_assoc (seen_expr rules map cond ++ seen_block rules (refine rules cond true (after rules map cond)) body) (seen_in_arms rules (refine rules cond false (after rules map cond)) rest) (last (behind_arms rules (refine rules cond false (after rules map cond)) rest))
    ∙ ap (λ (ss : List Seen). (seen_expr rules map cond ++ seen_block rules (refine rules cond true (after rules map cond)) body) ++ ss) (seen_arms_are rules (refine rules cond false (after rules map cond)) rest last)

-- with more types in the innermost list, more ends, another map and more seen
abbrev branched : List Term → List (List Term) → List TypeMap → List (List TypeMap) → TypeMap → List Seen → Work → Work
branched types lists maps ends map seen work = record work { lists = types ∷ lists; ends = maps ∷ ends; map = map; seen = seen }

each_arm_branched : (rules : Rules) (arms : Arms) (types : List Term) (lists : List (List Term)) (maps : List TypeMap) (ends : List (List TypeMap)) (map : TypeMap) (seen : List Seen) (work : Work)
    → each_arm rules arms (branched types lists maps ends map seen work)
    ≡ branched (types ++ returns_of rules map arms) lists (maps ++ ends_of rules map arms) ends (behind_arms rules map arms) (seen ++ seen_in_arms rules map arms) work
each_arm_branched rules no_arms types lists maps ends map seen work =
    ap (λ (ts : List Term). branched ts lists maps ends map seen work) (sym (append-nil types))
    ∙ ap (λ (ms : List TypeMap). branched (types ++ []) lists ms ends map seen work) (sym (append-nil maps))
    ∙ ap (λ (ss : List Seen). branched (types ++ []) lists (maps ++ []) ends map ss work) (sym (append-nil seen))
each_arm_branched rules (more_arms cond body rest) types lists maps ends map seen work =
    let type = returned_block rules (refine rules cond true (after rules map cond)) body in
    let one = after_block rules (refine rules cond true (after rules map cond)) body in
    let map' = refine rules cond false (after rules map cond) in
    let behind = behind_arms rules map' rest in
    let a = seen_expr rules map cond in
    let b = seen_block rules (refine rules cond true (after rules map cond)) body in
    let c = seen_in_arms rules map' rest in
    each_arm_branched rules rest (types ++ type ∷ []) lists (maps ++ one ∷ []) ends map' ((seen ++ a) ++ b) work
    ∙ ap (λ (ts : List Term). branched ts lists ((maps ++ one ∷ []) ++ ends_of rules map' rest) ends behind (((seen ++ a) ++ b) ++ c) work) (append_assoc types (type ∷ []) (returns_of rules map' rest))
    ∙ ap (λ (ms : List TypeMap). branched (types ++ (type ∷ returns_of rules map' rest)) lists ms ends behind (((seen ++ a) ++ b) ++ c) work) (append_assoc maps (one ∷ []) (ends_of rules map' rest))
    ∙ ap (λ (ss : List Seen). branched (types ++ (type ∷ returns_of rules map' rest)) lists (maps ++ (one ∷ ends_of rules map' rest)) ends behind ss work)
    (ap (λ (ss : List Seen). ss ++ c) (append_assoc seen a b) ∙ append_assoc seen (a ++ b) c)

last_is : (rules : Rules) (last : MaybeBlock) (work : Work)
    → at_last rules last work ≡ record work { value = returned_last rules work.map last; map = end_of_last rules work.map last; seen = work.seen ++ seen_last rules work.map last }
last_is rules no_block work = ap (λ (ss : List Seen). record work { value = never; seen = ss }) (sym (append-nil work.seen))
last_is rules (a_block body) work = refl

pub if_form : (rules : Rules) (span : Span) (arms : Arms) (last : MaybeBlock) (work : Work)
    → ends_joined (end_added (used unions_with (at_last rules last (each_arm rules arms (list_begun (ends_begun work)))))) ≡ with_stat rules (the_stat span (If arms last)) work
if_form rules span arms last work =
    let behind = behind_arms rules work.map arms in
    let end = end_of_last rules behind last in
    let type = returned_arms rules work.map arms (λ m. returned_last rules m last) in
    ap (λ (w : Work). ends_joined (end_added (used unions_with (at_last rules last w)))) (each_arm_branched rules arms [] work.lists [] work.ends work.map work.seen work)
    ∙ ap (λ (w : Work). ends_joined (end_added (used unions_with w)))
    (last_is rules last (branched (returns_of rules work.map arms) work.lists (ends_of rules work.map arms) work.ends behind (work.seen ++ seen_in_arms rules work.map arms) work))
    ∙ ap (λ (t : Term). record work { value = t; map = joined (ends_of rules work.map arms ++ end ∷ []); seen = (work.seen ++ seen_in_arms rules work.map arms) ++ seen_last rules behind last })
    (returns_are rules work.map arms (λ m. returned_last rules m last))
    ∙ ap (λ (ends : List TypeMap). record work { value = type; map = joined ends; seen = (work.seen ++ seen_in_arms rules work.map arms) ++ seen_last rules behind last }) (ends_are rules work.map arms (λ m. end_of_last rules m last))
    ∙ ap (λ (ss : List Seen). record work { value = type; map = joined (ends_of_arms rules work.map arms (λ m. end_of_last rules m last)); seen = ss })
    (append_assoc work.seen (seen_in_arms rules work.map arms) (seen_last rules behind last)
    ∙ ap (λ (ss : List Seen). work.seen ++ ss) (seen_arms_are rules work.map arms (λ m. seen_last rules m last)))
