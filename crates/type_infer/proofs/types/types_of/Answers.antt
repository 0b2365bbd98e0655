use Rattle.std.proofs.Common.{◌≡◌, ℕ, Bool, List, ap, ◌∙◌}
use Rattle.std.specs.Prelude.{All, IsTrue, Option}
use Rattle.type_arena.specs.Arena.{below_of, home_of, store_of}
use Rattle.type_arena.specs.Meaning.{term_of}
use Rattle.type_arena.specs.Shelf.{shelf_store}
use Rattle.type_arena.specs.Store.{has}
use Rattle.type_arena.specs.Term.{Term}
use Rattle.local_types.specs.Growing.{HaveHomes}
use Rattle.module_facts.specs.declared.facts.Facts.{Facts}
use Rattle.module_reading.specs.ReadRules.{rules_of_scoped}
use Rattle.report_rules.specs.After.{summary}
use Rattle.report_rules.specs.Seen.{seen_module}
use Rattle.rule_work.specs.Around.{Around}
use Rattle.rule_work.specs.Work.{Work}
use Rattle.rule_state.specs.Sound.{StartsWithin}
use Rattle.rule_state.specs.Work.{builtins_in, work_of}
use Rattle.seen_types.specs.Seen.{refs_seen, seen_with}
use Rattle.seen_types.specs.Tables.{seen_in}
use Rattle.type_infer.specs.Homes.{AnswerWithin}
use Rattle.type_infer.specs.Imports.{AreImports, types_imported}
use Rattle.type_infer.specs.Outside.{around_of}
use Rattle.type_infer.proofs.Answering.{around_stays, ends, handed_over, handed_seen, handed_summary, handed_within, seen_there, summary_there, under_scoped}
use Rattle.type_infer.proofs.types.types_of.Goals as goal

pub returns-clause-seen : goal.returns-clause-seen
returns-clause-seen c =
    let facts : Facts = record { scoped = c.args.scoped; table = c.args.table; home = c.args.home } in
    let shelf = shelf_store c.args.shelf in
    let list = c.args.imports.now.list in
    let ended = ends facts (around_of shelf c.args.home c.args.table.now list) (work_of c.in_ok-state.state) (work_of c.walk.new.state) (work_of c.summarize.new.state) c.in_ok-state.ensures c.in_ok-walk.ensures c.in_ok-summarize.ensures in
    let rules = λ (leads : List ℕ → Option ℕ) (import : ℕ → Term). rules_of_scoped c.args.scoped.now c.args.home leads (builtins_in c.args.table.now) import in
    handed_over c.hand_over.result c.into_answers.result
    (λ types. (leads : List ℕ → Option ℕ) (import : ℕ → Term) → AreImports c.args.scoped.now shelf list leads import → seen_with (term_of (store_of types.arena)) (seen_in types.seen) ≡ seen_module (rules leads import))
    c.hand_over.ensures.arena c.hand_over.ensures.summary c.hand_over.ensures.seen
    (λ types handed leads import are. handed_seen c.into_answers.result types (seen_module (rules leads import)) handed
    (c.into_answers.ensures.seen ∙ ap (λ (work : Work). work.seen) (ended (rules leads import) (under_scoped facts shelf list leads import are))))

pub returns-clause-summary : goal.returns-clause-summary
returns-clause-summary c =
    let facts : Facts = record { scoped = c.args.scoped; table = c.args.table; home = c.args.home } in
    let shelf = shelf_store c.args.shelf in
    let list = c.args.imports.now.list in
    let ended = ends facts (around_of shelf c.args.home c.args.table.now list) (work_of c.in_ok-state.state) (work_of c.walk.new.state) (work_of c.summarize.new.state) c.in_ok-state.ensures c.in_ok-walk.ensures c.in_ok-summarize.ensures in
    let rules = λ (leads : List ℕ → Option ℕ) (import : ℕ → Term). rules_of_scoped c.args.scoped.now c.args.home leads (builtins_in c.args.table.now) import in
    handed_over c.hand_over.result c.into_answers.result
    (λ types. (leads : List ℕ → Option ℕ) (import : ℕ → Term) → AreImports c.args.scoped.now shelf list leads import → term_of (store_of types.arena) types.summary ≡ summary (rules leads import))
    c.hand_over.ensures.arena c.hand_over.ensures.summary c.hand_over.ensures.seen
    (λ types handed leads import are. handed_summary c.into_answers.result types (summary (rules leads import)) handed
    (c.into_answers.ensures.value ∙ ap (λ (work : Work). work.value) (ended (rules leads import) (under_scoped facts shelf list leads import are))))

pub returns-clause-summary_there : goal.returns-clause-summary_there
returns-clause-summary_there c =
    handed_over c.hand_over.result c.into_answers.result (λ types. IsTrue (has (store_of types.arena) types.summary))
    c.hand_over.ensures.arena c.hand_over.ensures.summary c.hand_over.ensures.seen
    (λ types handed. summary_there c.into_answers.result types handed c.into_answers.ensures.value_there)

pub returns-clause-seen_there : goal.returns-clause-seen_there
returns-clause-seen_there c =
    handed_over c.hand_over.result c.into_answers.result (λ types. All (λ at. IsTrue (has (store_of types.arena) at)) (refs_seen (seen_in types.seen)))
    c.hand_over.ensures.arena c.hand_over.ensures.summary c.hand_over.ensures.seen
    (λ types handed. seen_there c.into_answers.result types handed c.into_answers.ensures.seen_there)

pub returns-clause-home : goal.returns-clause-home
returns-clause-home c =
    let facts : Facts = record { scoped = c.args.scoped; table = c.args.table; home = c.args.home } in
    let shelf = shelf_store c.args.shelf in
    let list = c.args.imports.now.list in
    let ended = ends facts (around_of shelf c.args.home c.args.table.now list) (work_of c.in_ok-state.state) (work_of c.walk.new.state) (work_of c.summarize.new.state) c.in_ok-state.ensures c.in_ok-walk.ensures c.in_ok-summarize.ensures in
    handed_over c.hand_over.result c.into_answers.result (λ types. home_of types.arena ≡ c.args.home)
    c.hand_over.ensures.arena c.hand_over.ensures.summary c.hand_over.ensures.seen
    (λ types handed. ap home_of handed.arena ∙ c.into_answers.ensures.home ∙ ap (λ (around : Around). around.home) (around_stays facts shelf list (work_of c.summarize.new.state) ended))

pub returns-clause-below : goal.returns-clause-below
returns-clause-below c =
    let facts : Facts = record { scoped = c.args.scoped; table = c.args.table; home = c.args.home } in
    let shelf = shelf_store c.args.shelf in
    let list = c.args.imports.now.list in
    let ended = ends facts (around_of shelf c.args.home c.args.table.now list) (work_of c.in_ok-state.state) (work_of c.walk.new.state) (work_of c.summarize.new.state) c.in_ok-state.ensures c.in_ok-walk.ensures c.in_ok-summarize.ensures in
    handed_over c.hand_over.result c.into_answers.result (λ types. below_of types.arena ≡ shelf)
    c.hand_over.ensures.arena c.hand_over.ensures.summary c.hand_over.ensures.seen
    (λ types handed. ap below_of handed.arena ∙ c.into_answers.ensures.below ∙ ap (λ (around : Around). around.below) (around_stays facts shelf list (work_of c.summarize.new.state) ended))

pub returns-clause-homes : goal.returns-clause-homes
returns-clause-homes c =
    let facts : Facts = record { scoped = c.args.scoped; table = c.args.table; home = c.args.home } in
    let shelf = shelf_store c.args.shelf in
    let list = c.args.imports.now.list in
    let ended = ends facts (around_of shelf c.args.home c.args.table.now list) (work_of c.in_ok-state.state) (work_of c.walk.new.state) (work_of c.summarize.new.state) c.in_ok-state.ensures c.in_ok-walk.ensures c.in_ok-summarize.ensures in
    handed_over c.hand_over.result c.into_answers.result
    (λ types. (test : ℕ → Bool) → StartsWithin test types.arena → IsTrue (test 0) → HaveHomes test (types_imported list) → AnswerWithin test types)
    c.hand_over.ensures.arena c.hand_over.ensures.summary c.hand_over.ensures.seen
    (λ types handed test. handed_within c.into_answers.result types (work_of c.summarize.new.state).around list test handed
    (ap (λ (around : Around). around.outside) (around_stays facts shelf list (work_of c.summarize.new.state) ended)) c.into_answers.ensures.homes)
