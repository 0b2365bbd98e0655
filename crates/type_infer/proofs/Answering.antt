-- What is handed over at the end is what the rules say.
use Rattle.std.proofs.Common.{◌≡◌, ℕ, Bool, List, [], ◌∷◌, map, refl, sym, ap, subst, ◌∙◌}
use Rattle.std.specs.Prelude.{Option, Some, None, option_map, IsTrue, All, IfOk, Result, Ok, Err}
use Rattle.std.specs.Option.{option_map_or}
use Rattle.std.proofs.lemmas.List.Elements.{All-cons, All-head, All-nil, All-tail}
use Rattle.luau_tree.specs.View.{view_block}
use Rattle.luau_tree.specs.declared.names.ExprId.{ExprId}
use Rattle.type_arena.specs.Arena.{store_of}
use Rattle.type_arena.specs.Meaning.{term_of}
use Rattle.type_arena.specs.Store.{Store, has}
use Rattle.type_arena.specs.Term.{Term}
use Rattle.type_arena.specs.declared.arena.Arena.{Arena}
use Rattle.type_arena.specs.declared.node.TypeRef.{TypeRef}
use Rattle.type_normal.specs.Kinds.{unknown}
use Rattle.local_types.specs.Growing.{HaveHomes, StaysWithin}
use Rattle.module_facts.specs.Facts.{rules_of_facts}
use Rattle.module_facts.specs.declared.facts.Facts.{Facts}
use Rattle.module_reading.specs.ReadRules.{rules_of_scoped}
use Rattle.report_rules.specs.Rules.{Rules}
use Rattle.report_rules.specs.Seen.{Seen as PlainSeen}
use Rattle.rule_work.specs.Around.{Around}
use Rattle.rule_work.specs.Work.{Work, begun}
use Rattle.rule_state.specs.Answers.{StayWithin, seen_in as met_in}
use Rattle.rule_state.specs.Sound.{StartsWithin, types_in}
use Rattle.rule_state.specs.Work.{builtins_in}
use Rattle.rule_state.specs.declared.answers.Answers.{Answers}
use Rattle.rule_state.specs.declared.point.Seen.{Seen as Met}
use Rattle.rule_state.specs.declared.point.Seen.TheVariants as met
use Rattle.infer_plan.specs.Steps.{with_block}
use Rattle.seen_types.specs.Seen.{one_with, refs_seen, seen_with}
use Rattle.seen_types.specs.Tables.{seen_in}
use Rattle.type_infer.specs.Handing.{one_handed}
use Rattle.type_infer.specs.Homes.{AnswerWithin}
use Rattle.type_infer.specs.Imports.{AreImports, import_at, types_imported}
use Rattle.type_infer.specs.Outside.{around_of, builtins_home}
use Rattle.type_infer.specs.Summary.{summarized}
use Rattle.type_infer.specs.Under.{IsUnder}
use Rattle.type_infer.specs.declared.types.Types.{Types}

-- ## Rules under which a module is gone through

pub under_scoped : (facts : Facts) (shelf : Store) (imports : List (ExprId × TypeRef)) (leads : List ℕ → Option ℕ) (import : ℕ → Term) → AreImports facts.scoped.now shelf imports leads import
    → IsUnder facts (around_of shelf facts.home facts.table.now imports) (rules_of_scoped facts.scoped.now facts.home leads (builtins_in facts.table.now) import)
unfolding rules_of_facts
under_scoped facts shelf imports leads import are = record { read = record { same = refl }; home = refl; builtins = refl; imports = are }

-- rules whose static requires give just what is listed
abbrev listed : Facts → Store → List (ExprId × TypeRef) → Rules
listed facts shelf imports =
    let rules = rules_of_scoped facts.scoped.now facts.home (λ way. None) (builtins_in facts.table.now) (λ id. unknown) in
    record rules {
      reading = record (rules.reading) { required = λ id. option_map (λ at. 0) (import_at imports id) };
      import = λ id. option_map_or (term_of shelf) (import_at imports id) unknown;
    }

given_so : (means : TypeRef → Term) (found : Option TypeRef) → option_map means found ≡ option_map (λ (other : ℕ). option_map_or means found unknown) (option_map (λ (at : TypeRef). 0) found)
given_so means (Some at) = refl
given_so means None = refl

under_listed : (facts : Facts) (shelf : Store) (imports : List (ExprId × TypeRef)) → IsUnder facts (around_of shelf facts.home facts.table.now imports) (listed facts shelf imports)
unfolding rules_of_facts
under_listed facts shelf imports = record { read = record { same = refl }; home = refl; builtins = refl; imports = λ id. given_so (term_of shelf) (import_at imports id) }

-- ## The walk's end

-- what is at hand when a module was gone through and summed up
abbrev pub at_end : Facts → Around → Rules → Work
at_end facts around rules = summarized (with_block rules (view_block facts.scoped.now.module.block) (begun around))

pub ends : (facts : Facts) (around : Around) (first walked last : Work) → first ≡ begun around
    → ((rules : Rules) → IsUnder facts first.around rules → walked ≡ with_block rules (view_block facts.scoped.now.module.block) first)
    → last ≡ summarized walked → (rules : Rules) → IsUnder facts around rules → last ≡ at_end facts around rules
ends facts around first walked last begins walks summed rules under =
    summed
    ∙ ap summarized (walks rules (subst (λ (work : Work). IsUnder facts work.around rules) (sym begins) under)
    ∙ ap (with_block rules (view_block facts.scoped.now.module.block)) begins)

-- what stays has stayed: there are rules under which the module was gone through
pub around_stays : (facts : Facts) (shelf : Store) (imports : List (ExprId × TypeRef)) (last : Work)
    → ((rules : Rules) → IsUnder facts (around_of shelf facts.home facts.table.now imports) rules → last ≡ at_end facts (around_of shelf facts.home facts.table.now imports) rules)
    → last.around ≡ around_of shelf facts.home facts.table.now imports
around_stays facts shelf imports last ended = ap (λ (work : Work). work.around) (ended (listed facts shelf imports) (under_listed facts shelf imports))

-- ## What is handed over

-- one that was seen means the same when it is handed over
one_meant : (store : Store) (one : Met) → one_with (term_of store) (one_handed one) ≡ met_in store one
one_meant store (met.Expr id at live) = refl
one_meant store (met.Body id live) = refl

all_meant : (store : Store) (seen : List Met) → seen_with (term_of store) (map one_handed seen) ≡ map (met_in store) seen
all_meant store [] = refl
all_meant store (one ∷ seen) =
    ap (λ (first : PlainSeen). first ∷ seen_with (term_of store) (map one_handed seen)) (one_meant store one)
    ∙ ap (λ (rest : List PlainSeen). met_in store one ∷ rest) (all_meant store seen)

-- what holds of the types of each that was seen holds of those that are handed over
refs_all : (P : TypeRef → Type 0) (seen : List Met) → All (λ one. All P (types_in one)) seen → All P (refs_seen (map one_handed seen))
refs_all P [] all = All-nil P
refs_all P (met.Expr id at live ∷ seen) all =
    All-cons P at (refs_seen (map one_handed seen)) (All-head P at [] (All-head (λ one. All P (types_in one)) (met.Expr id at live) seen all))
    (refs_all P seen (All-tail (λ one. All P (types_in one)) (met.Expr id at live) seen all))
refs_all P (met.Body id live ∷ seen) all = refs_all P seen (All-tail (λ one. All P (types_in one)) (met.Body id live) seen all)

-- types are what was answered
pub record IsHanded (answers : Answers) (types : Types) : Type 0 where
  pub arena : types.arena ≡ answers.arena
  pub summary : types.summary ≡ answers.value
  pub seen : seen_in types.seen ≡ map one_handed answers.seen.items

pub handed_over : {E : Type 0} (result : Result Types E) (answers : Answers) (P : Types → Type 0) → IfOk result (λ types. types.arena ≡ answers.arena) → IfOk result (λ types. types.summary ≡ answers.value)
    → IfOk result (λ types. seen_in types.seen ≡ map one_handed answers.seen.items) → ((types : Types) → IsHanded answers types → P types) → IfOk result P
handed_over (Ok types) answers P arena summary seen all = all types (record { arena = arena; summary = summary; seen = seen })
handed_over (Err e) answers P arena summary seen all = tt

pub handed_seen : (answers : Answers) (types : Types) (seen : List PlainSeen) → IsHanded answers types → map (met_in (store_of answers.arena)) answers.seen.items ≡ seen
    → seen_with (term_of (store_of types.arena)) (seen_in types.seen) ≡ seen
handed_seen answers types seen handed met_is =
    ap (seen_with (term_of (store_of types.arena))) handed.seen
    ∙ ap (λ (arena : Arena). seen_with (term_of (store_of arena)) (map one_handed answers.seen.items)) handed.arena
    ∙ all_meant (store_of answers.arena) answers.seen.items
    ∙ met_is

pub handed_summary : (answers : Answers) (types : Types) (value : Term) → IsHanded answers types → term_of (store_of answers.arena) answers.value ≡ value
    → term_of (store_of types.arena) types.summary ≡ value
handed_summary answers types value handed value_is =
    ap (term_of (store_of types.arena)) handed.summary
    ∙ ap (λ (arena : Arena). term_of (store_of arena) answers.value) handed.arena
    ∙ value_is

pub summary_there : (answers : Answers) (types : Types) → IsHanded answers types → IsTrue (has (store_of answers.arena) answers.value) → IsTrue (has (store_of types.arena) types.summary)
summary_there answers types handed there =
    subst (λ (arena : Arena). IsTrue (has (store_of arena) types.summary)) (sym handed.arena)
    (subst (λ (at : TypeRef). IsTrue (has (store_of answers.arena) at)) (sym handed.summary) there)

pub seen_there : (answers : Answers) (types : Types) → IsHanded answers types → All (λ one. All (λ at. IsTrue (has (store_of answers.arena) at)) (types_in one)) answers.seen.items
    → All (λ at. IsTrue (has (store_of types.arena) at)) (refs_seen (seen_in types.seen))
seen_there answers types handed there =
    subst (λ (arena : Arena). All (λ at. IsTrue (has (store_of arena) at)) (refs_seen (seen_in types.seen))) (sym handed.arena)
    (subst (λ seen. All (λ at. IsTrue (has (store_of answers.arena) at)) (refs_seen seen)) (sym handed.seen)
    (refs_all (λ at. IsTrue (has (store_of answers.arena) at)) answers.seen.items there))

pub handed_within : (answers : Answers) (types : Types) (around : Around) (imports : List (ExprId × TypeRef)) (test : ℕ → Bool) → IsHanded answers types → around.outside ≡ builtins_home ∷ types_imported imports
    → ((test : ℕ → Bool) → StartsWithin test answers.arena → HaveHomes test around.outside → StayWithin test answers.arena answers.value answers.seen.items)
    → StartsWithin test types.arena → IsTrue (test 0) → HaveHomes test (types_imported imports) → AnswerWithin test types
handed_within answers types around imports test handed outside_is stay starts zero_in imports_in =
    let outside : HaveHomes test around.outside =
    subst (λ (refs : List TypeRef). HaveHomes test refs) (sym outside_is) (All-cons (λ (at : TypeRef). IsTrue (test at.home)) builtins_home (types_imported imports) zero_in imports_in) in
    let within : StayWithin test answers.arena answers.value answers.seen.items = stay test (subst (λ (arena : Arena). StartsWithin test arena) handed.arena starts) outside in
    record {
      arena = subst (λ (arena : Arena). StaysWithin test arena) (sym handed.arena) within.stays;
      summary = subst (λ (at : TypeRef). IsTrue (test at.home)) (sym handed.summary) within.value;
      seen = subst (λ seen. HaveHomes test (refs_seen seen)) (sym handed.seen) (refs_all (λ (at : TypeRef). IsTrue (test at.home)) answers.seen.items within.seen);
    }
