-- What lists are made of.
use Rattle.std.proofs.Common.{◌≡◌, ℕ, Bool, true, false, List, [], ◌∷◌, ◌++◌, refl, sym, ap, ◌∙◌, append_assoc, append-nil}
use Rattle.luau_tree.specs.Tree.{Expr, Exprs, no_exprs, more_exprs}
use Rattle.type_arena.specs.Term.{Term}
use Rattle.report_rules.specs.Rules.{Rules}
use Rattle.report_rules.specs.TypeMap.{TypeMap}
use Rattle.report_rules.specs.Effects.{any_effects}
use Rattle.report_rules.specs.Forward.{typ, types_of_list, after, held, after_list}
use Rattle.report_rules.specs.Seen.{Seen, seen_expr, seen_list, seen_targets, seen_target}
use Rattle.rule_work.specs.Work.{Work}
use Rattle.rule_work.specs.Moves.{kept_map, restored, list_begun}
use Rattle.infer_plan.specs.Steps.{with_values, each_value, each_target, with_targets, changed}

-- the map behind the values of a list, one after the other
abbrev map_through : Rules → TypeMap → Exprs → TypeMap
map_through rules map no_exprs = map
map_through rules map (more_exprs e rest) = map_through rules (after rules map e) rest

-- with more types in the innermost list, another map and more seen
abbrev grown : List Term → List (List Term) → TypeMap → List Seen → Work → Work
grown types lists map seen work = record work { lists = types ∷ lists; map = map; seen = seen }

each_value_grown : (rules : Rules) (es : Exprs) (types : List Term) (lists : List (List Term)) (map : TypeMap) (seen : List Seen) (work : Work)
    → each_value rules es (grown types lists map seen work)
    ≡ grown (types ++ types_of_list rules map es) lists (map_through rules map es) (seen ++ seen_list rules map es) work
each_value_grown rules no_exprs types lists map seen work =
    ap (λ (ts : List Term). grown ts lists map seen work) (sym (append-nil types))
    ∙ ap (λ (ss : List Seen). grown (types ++ []) lists map ss work) (sym (append-nil seen))
each_value_grown rules (more_exprs e rest) types lists map seen work =
    let one = held (any_effects rules rest) (typ rules map e) in
    let map' = after rules map e in
    each_value_grown rules rest (types ++ one ∷ []) lists map' (seen ++ seen_expr rules map e) work
    ∙ ap (λ (ts : List Term). grown ts lists (map_through rules map' rest) ((seen ++ seen_expr rules map e) ++ seen_list rules map' rest) work) (append_assoc types (one ∷ []) (types_of_list rules map' rest))
    ∙ ap (λ (ss : List Seen). grown (types ++ (one ∷ types_of_list rules map' rest)) lists (map_through rules map' rest) ss work) (append_assoc seen (seen_expr rules map e) (seen_list rules map' rest))

pub values_form : (rules : Rules) (es : Exprs) (work : Work)
    → changed (any_effects rules es) (restored (each_value rules es (kept_map (list_begun work)))) ≡ with_values rules es work
values_form rules es work =
    ap (λ (w : Work). changed (any_effects rules es) (restored w)) (each_value_grown rules es [] work.lists work.map work.seen (kept_map work))

abbrev gone : TypeMap → List Seen → Work → Work
gone map seen work = record work { map = map; seen = seen }

each_target_gone : (rules : Rules) (es : Exprs) (map : TypeMap) (seen : List Seen) (work : Work)
    → each_target rules es (gone map seen work) ≡ gone (map_through rules map es) (seen ++ seen_targets rules map es) work
each_target_gone rules no_exprs map seen work = ap (λ (ss : List Seen). gone map ss work) (sym (append-nil seen))
each_target_gone rules (more_exprs e rest) map seen work =
    each_target_gone rules rest (after rules map e) (seen ++ seen_target rules map e) work
    ∙ ap (λ (ss : List Seen). gone (map_through rules (after rules map e) rest) ss work) (append_assoc seen (seen_target rules map e) (seen_targets rules (after rules map e) rest))

pub targets_form : (rules : Rules) (es : Exprs) (work : Work)
    → changed (any_effects rules es) (restored (each_target rules es (kept_map work))) ≡ with_targets rules es work
targets_form rules es work =
    ap (λ (w : Work). changed (any_effects rules es) (restored w)) (each_target_gone rules es work.map work.seen (kept_map work))
