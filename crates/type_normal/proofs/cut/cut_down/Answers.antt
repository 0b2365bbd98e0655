use Rattle.std.proofs.Common.{◌≡◌, List, refl, ap, sym, ◌∙◌, subst}
use Rattle.std.specs.Prelude.{if◌then◌else◌, Contains}
use Rattle.type_arena.specs.Arena.{store_of}
use Rattle.type_arena.specs.Meaning.{term_of, rows_by}
use Rattle.type_arena.specs.Store.{row_types}
use Rattle.type_arena.specs.Term.{Rows, no_rows}
use Rattle.type_arena.specs.declared.node.Row.{Row}
use Rattle.type_arena.specs.declared.node.TypeRef.{TypeRef}
use Rattle.type_normal.specs.Cut.{has_any_table, few_values, cut_down}
use Rattle.type_normal.specs.Rows.{any_table}
use Rattle.type_normal.specs.Holds.{holds}
use Rattle.type_normal.specs.Nodes.{few_rows}
use Rattle.type_normal.proofs.HeapFreeFacts.{cut_down_below}
use Rattle.type_normal.proofs.RowsFacts.{adds_itself, rows_add, rows_mean, few_mean, few_refs, large_down, rows_clean}
use Rattle.type_normal.proofs.CleanFacts.{itself_is_clean}
use Rattle.type_normal.proofs.cut.cut_down.Goals.{In_ok-at}
use Rattle.type_normal.proofs.cut.cut_down.Goals as goal

pub returns-then-branch-clause-adds : goal.returns-then-branch-clause-adds
returns-then-branch-clause-adds c = adds_itself c.args.arena.now c.args.a

rows_are : (c : In_ok-at) → c.in_ok-rows.rows ≡ few_rows c.node-found.result.now.rows
rows_are c = c.in_ok-rows.ensures ∙ ap few_rows c.as_slice.ensures

meaning : (c : In_ok-at) → term_of (store_of c.intern.new.self) c.in_ok-at.at ≡ cut_down (term_of (store_of c.args.arena.now) c.args.a)
meaning c =
    c.in_ok-at.ensures.meaning
    ∙ rows_mean (store_of c.args.arena.now) c.args.arena.now.sound c.args.a c.node-found.result.now c.in_ok-node.node c.in_ok-rows.rows c.node-found.ensures c.in_ok-node.ensures
    few_values (λ (r : Rows). if has_any_table r then any_table else no_rows) (λ r. refl)
    (ap (rows_by (term_of (store_of c.args.arena.now))) (rows_are c) ∙ few_mean (term_of (store_of c.args.arena.now)) c.node-found.result.now.rows)
    ∙ sym (large_down (term_of (store_of c.args.arena.now) c.args.a) (sym c.in_ok-is_small_at.ensures ∙ c.if-branch.false))

no_refs : (c : In_ok-at) (child : TypeRef) → Contains (row_types c.in_ok-rows.rows) child → ⊥
no_refs c child inside = few_refs c.node-found.result.now.rows child (subst (λ (rows : List Row). Contains (row_types rows) child) (rows_are c) inside)

pub returns-clause-term : goal.returns-clause-term
returns-clause-term c = meaning c

pub returns-clause-values : goal.returns-clause-values
returns-clause-values c h v k = cut_down_below h v (term_of (store_of c.args.arena.now) c.args.a) (sym (ap (holds h v) (meaning c)) ∙ k)

pub returns-clause-adds : goal.returns-clause-adds
returns-clause-adds c =
    rows_add c.args.arena.now c.intern.new.self c.args.a c.node-found.result.now c.in_ok-node.node c.in_ok-rows.rows c.in_ok-at.at c.node-found.ensures c.in_ok-node.ensures
    (λ child inside. absurd (no_refs c child inside))
    c.in_ok-at.ensures.below c.in_ok-at.ensures.own_home c.in_ok-at.ensures.keeps c.in_ok-at.ensures.kept c.in_ok-at.ensures.homes

pub returns-clause-clean : goal.returns-clause-clean
returns-clause-clean c =
    rows_clean c.args.arena.now c.intern.new.self c.args.a c.node-found.result.now c.in_ok-node.node c.in_ok-rows.rows c.in_ok-at.at c.node-found.ensures c.in_ok-node.ensures
    (λ child inside. absurd (no_refs c child inside))
    c.in_ok-at.ensures.node c.in_ok-at.ensures.home c.in_ok-at.ensures.own_home c.in_ok-at.ensures.keeps

pub returns-then-branch-clause-clean : goal.returns-then-branch-clause-clean
returns-then-branch-clause-clean c = itself_is_clean c.args.arena.now c.args.a
