use Rattle.std.proofs.Common.{◌≡◌, List, refl, ap, sym, ◌∙◌, subst}
use Rattle.std.specs.Prelude.{Contains}
use Rattle.type_arena.specs.Arena.{store_of}
use Rattle.type_arena.specs.Meaning.{term_of, rows_by}
use Rattle.type_arena.specs.Store.{row_types}
use Rattle.type_arena.specs.Term.{Rows}
use Rattle.type_arena.specs.declared.node.Row.{Row}
use Rattle.type_arena.specs.declared.node.TypeRef.{TypeRef}
use Rattle.type_normal.specs.Cut.{many_values, cut_up}
use Rattle.type_normal.specs.Rows.{any_table}
use Rattle.type_normal.specs.Holds.{holds}
use Rattle.type_normal.proofs.HeapFreeFacts.{cut_up_above}
use Rattle.type_normal.proofs.RowsFacts.{adds_itself, rows_add, rows_mean, all_refs, large_up, rows_clean}
use Rattle.type_normal.proofs.CleanFacts.{itself_is_clean}
use Rattle.type_normal.proofs.cut.cut_up.Goals.{In_ok-at}
use Rattle.type_normal.proofs.cut.cut_up.Goals as goal

pub returns-then-branch-clause-adds : goal.returns-then-branch-clause-adds
returns-then-branch-clause-adds c = adds_itself c.args.arena.now c.args.a

meaning : (c : In_ok-at) → term_of (store_of c.intern.new.self) c.in_ok-at.at ≡ cut_up (term_of (store_of c.args.arena.now) c.args.a)
meaning c =
    c.in_ok-at.ensures.meaning
    ∙ rows_mean (store_of c.args.arena.now) c.args.arena.now.sound c.args.a c.node.result.now c.in_ok-node.node c.in_ok-rows.rows c.node.ensures c.in_ok-node.ensures
    many_values (λ (r : Rows). any_table) (λ r. refl)
    (ap (rows_by (term_of (store_of c.args.arena.now))) c.in_ok-rows.ensures)
    ∙ sym (large_up (term_of (store_of c.args.arena.now) c.args.a) (sym c.in_ok-is_small_at.ensures ∙ c.if-branch.false))

no_refs : (c : In_ok-at) (child : TypeRef) → Contains (row_types c.in_ok-rows.rows) child → ⊥
no_refs c child inside = all_refs child (subst (λ (rows : List Row). Contains (row_types rows) child) c.in_ok-rows.ensures inside)

pub returns-clause-term : goal.returns-clause-term
returns-clause-term c = meaning c

pub returns-clause-values : goal.returns-clause-values
returns-clause-values c h v k = ap (holds h v) (meaning c) ∙ cut_up_above h v (term_of (store_of c.args.arena.now) c.args.a) k

pub returns-clause-adds : goal.returns-clause-adds
returns-clause-adds c =
    rows_add c.args.arena.now c.intern.new.self c.args.a c.node.result.now c.in_ok-node.node c.in_ok-rows.rows c.in_ok-at.at c.node.ensures c.in_ok-node.ensures
    (λ child inside. absurd (no_refs c child inside))
    c.in_ok-at.ensures.below c.in_ok-at.ensures.own_home c.in_ok-at.ensures.keeps c.in_ok-at.ensures.kept c.in_ok-at.ensures.homes

pub returns-clause-clean : goal.returns-clause-clean
returns-clause-clean c =
    rows_clean c.args.arena.now c.intern.new.self c.args.a c.node.result.now c.in_ok-node.node c.in_ok-rows.rows c.in_ok-at.at c.node.ensures c.in_ok-node.ensures
    (λ child inside. absurd (no_refs c child inside))
    c.in_ok-at.ensures.node c.in_ok-at.ensures.home c.in_ok-at.ensures.own_home c.in_ok-at.ensures.keeps

pub returns-then-branch-clause-clean : goal.returns-then-branch-clause-clean
returns-then-branch-clause-clean c = itself_is_clean c.args.arena.now c.args.a
