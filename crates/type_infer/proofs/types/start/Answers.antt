use Rattle.std.proofs.Common.{◌≡◌, ◌∷◌, ℕ, List, sym, ap, subst, ◌∙◌}
use Rattle.std.specs.Prelude.{IsTrue}
use Rattle.std.specs.BTreeMap.{get}
use Rattle.std.specs.Ordering.{nat_cmp}
use Rattle.std.proofs.lemmas.Result.{IfOk-weaker}
use Rattle.luau_tree.specs.declared.names.ExprId.{ExprId}
use Rattle.type_arena.specs.Arena.{below_of, home_of, nodes_of, store_of}
use Rattle.type_arena.specs.Meaning.{term_of}
use Rattle.type_arena.specs.Shelf.{shelf_store}
use Rattle.type_arena.specs.Store.{Keeps, has}
use Rattle.type_arena.specs.declared.arena.Arena.{Arena}
use Rattle.type_arena.specs.declared.node.TypeRef.{TypeRef}
use Rattle.rule_work.specs.Work.{begun}
use Rattle.rule_state.specs.Work.{around_in, work_of}
use Rattle.rule_state.specs.declared.state.RuleState.{RuleState}
use Rattle.type_infer.specs.Imports.{import_at, types_imported}
use Rattle.type_infer.specs.Outside.{around_of, builtins_home}
use Rattle.type_infer.proofs.Starting.{around_is, starts_confined, starts_imported, starts_known}
use Rattle.type_infer.proofs.types.start.Goals as goal

pub new-requires-clause-confined : goal.new-requires-clause-confined
new-requires-clause-confined c =
    let same = c.new-types.ensures.arena in
    λ test starts outer. starts_confined c.new-types.result (shelf_store c.args.shelf) c.args.home c.args.shelf.placed c.requires.above
    (ap below_of same ∙ c.in_ok-arena.ensures.below) (ap home_of same ∙ c.in_ok-arena.ensures.home) (ap nodes_of same ∙ c.in_ok-arena.ensures.empty) c.new-types.ensures.empty test starts

pub new-requires-clause-known : goal.new-requires-clause-known
new-requires-clause-known c =
    let keeps = subst (λ (arena : Arena). Keeps (shelf_store c.args.shelf) (store_of arena)) (sym c.new-types.ensures.arena) c.in_ok-arena.ensures.keeps in
    starts_known c.new-types.result c.in_ok-away.away.items _ c.args.table.now (shelf_store c.args.shelf) c.in_ok-away.ensures c.requires.declared keeps

pub new-requires-clause-imports : goal.new-requires-clause-imports
new-requires-clause-imports c =
    let keeps = subst (λ (arena : Arena). Keeps (shelf_store c.args.shelf) (store_of arena)) (sym c.new-types.ensures.arena) c.in_ok-arena.ensures.keeps in
    let list = c.args.imports.now.list in
    let away : c.in_ok-away.away.items ≡ builtins_home ∷ types_imported list = c.in_ok-away.ensures ∙ ap (λ (xs : List (ExprId × TypeRef)). builtins_home ∷ types_imported xs) c.as_slice-2.ensures in
    let found : (id : ℕ) → get nat_cmp c.in_ok-found.found id ≡ import_at list id = λ id. c.in_ok-found.ensures id ∙ ap (λ (xs : List (ExprId × TypeRef)). import_at xs id) c.as_slice.ensures in
    starts_imported c.new-types.result c.in_ok-away.away.items list c.in_ok-found.found (shelf_store c.args.shelf) away found keeps c.requires.imported

pub returns : goal.returns
returns c =
    let shelf = shelf_store c.args.shelf in
    let list = c.args.imports.now.list in
    let same = c.new-types.ensures.arena in
    let away : c.in_ok-away.away.items ≡ builtins_home ∷ types_imported list = c.in_ok-away.ensures ∙ ap (λ (xs : List (ExprId × TypeRef)). builtins_home ∷ types_imported xs) c.as_slice-2.ensures in
    let found : (id : ℕ) → get nat_cmp c.in_ok-found.found id ≡ import_at list id = λ id. c.in_ok-found.ensures id ∙ ap (λ (xs : List (ExprId × TypeRef)). import_at xs id) c.as_slice.ensures in
    let kept = subst (λ (arena : Arena). (at : TypeRef) → IsTrue (has shelf at) → term_of (store_of arena) at ≡ term_of shelf at) (sym same) c.in_ok-arena.ensures.kept in
    let around = around_is c.new-types.result c.args.home c.in_ok-away.away.items c.args.table.now list c.in_ok-found.found shelf (ap below_of same ∙ c.in_ok-arena.ensures.below) away found kept c.requires.imported in
    IfOk-weaker c.new.result (λ (s : RuleState). work_of s ≡ begun (around_in c.new-types.result c.args.home c.in_ok-away.away.items c.args.table.now c.in_ok-found.found))
    (λ (s : RuleState). work_of s ≡ begun (around_of shelf c.args.home c.args.table.now list)) (λ s is. is ∙ ap begun around) c.new.ensures
