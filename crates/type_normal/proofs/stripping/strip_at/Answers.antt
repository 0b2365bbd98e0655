use Rattle.std.proofs.Common.{◌≡◌, List, refl, ap, sym, ◌∙◌, subst}
use Rattle.std.specs.Prelude.{Contains}
use Rattle.type_arena.specs.Arena.{store_of}
use Rattle.type_arena.specs.Meaning.{term_of, rows_by}
use Rattle.type_arena.specs.Store.{row_types}
use Rattle.type_arena.specs.declared.node.Row.{Row}
use Rattle.type_normal.specs.HeapFree.{strip_at, strip_rows_at, free_of_name}
use Rattle.type_normal.specs.Holds.{holds}
use Rattle.type_normal.specs.Listing.{stable_at}
use Rattle.type_normal.proofs.HeapFreeFacts.{strip_at_below}
use Rattle.type_normal.proofs.FreeOfFacts.{strip_at_of, free_of_written}
use Rattle.type_normal.proofs.ListingFacts.{stable_mean, stable_refs}
use Rattle.type_normal.proofs.RowsFacts.{rows_add, rows_mean, rows_there, rows_clean}
use Rattle.type_normal.proofs.stripping.strip_at.Goals.{In_ok-at}
use Rattle.type_normal.proofs.stripping.strip_at.Goals as goal

-- the rows that are kept, of those of the node
rows_are : (c : In_ok-at) → c.in_ok-rows.rows ≡ stable_at c.args.name.now (term_of (store_of c.args.arena.now)) c.node-found.result.now.rows
rows_are c = c.in_ok-rows.ensures ∙ ap (stable_at c.args.name.now (term_of (store_of c.args.arena.now))) c.as_slice.ensures

meaning : (c : In_ok-at) → term_of (store_of c.intern.new.self) c.in_ok-at.at ≡ strip_at c.args.name.now (term_of (store_of c.args.arena.now) c.args.a)
meaning c =
    c.in_ok-at.ensures.meaning
    ∙ rows_mean (store_of c.args.arena.now) c.args.arena.now.sound c.args.a c.node-found.result.now c.in_ok-node.node c.in_ok-rows.rows c.node-found.ensures c.in_ok-node.ensures
    (strip_at c.args.name.now) (strip_rows_at c.args.name.now) (λ r. refl)
    (ap (rows_by (term_of (store_of c.args.arena.now))) (rows_are c) ∙ stable_mean c.args.name.now (term_of (store_of c.args.arena.now)) c.node-found.result.now.rows)

pub returns-clause-term : goal.returns-clause-term
returns-clause-term c = meaning c

pub returns-clause-values : goal.returns-clause-values
returns-clause-values c h v k = strip_at_below h v c.args.name.now (term_of (store_of c.args.arena.now) c.args.a) (sym (ap (holds h v) (meaning c)) ∙ k)

pub returns-clause-written : goal.returns-clause-written
returns-clause-written c h t u v n k =
    free_of_written h t c.args.name.now u v (term_of (store_of c.intern.new.self) c.in_ok-at.at)
    (ap (free_of_name c.args.name.now) (meaning c) ∙ strip_at_of c.args.name.now (term_of (store_of c.args.arena.now) c.args.a)) n k

pub returns-clause-adds : goal.returns-clause-adds
returns-clause-adds c =
    rows_add c.args.arena.now c.intern.new.self c.args.a c.node-found.result.now c.in_ok-node.node c.in_ok-rows.rows c.in_ok-at.at c.node-found.ensures c.in_ok-node.ensures
    (λ child inside. stable_refs c.args.name.now (term_of (store_of c.args.arena.now)) c.node-found.result.now.rows child (subst (λ (rows : List Row). Contains (row_types rows) child) (rows_are c) inside))
    c.in_ok-at.ensures.below c.in_ok-at.ensures.own_home c.in_ok-at.ensures.keeps c.in_ok-at.ensures.kept c.in_ok-at.ensures.homes

pub intern-requires : goal.intern-requires
intern-requires c =
    rows_there (store_of c.args.arena.now) c.args.arena.now.sound c.args.a c.node-found.result.now c.in_ok-node.node c.in_ok-rows.rows c.node-found.ensures c.in_ok-node.ensures
    (λ child inside. stable_refs c.args.name.now (term_of (store_of c.args.arena.now)) c.node-found.result.now.rows child
    (subst (λ (rows : List Row). Contains (row_types rows) child) (c.in_ok-rows.ensures ∙ ap (stable_at c.args.name.now (term_of (store_of c.args.arena.now))) c.as_slice.ensures) inside))

pub returns-clause-clean : goal.returns-clause-clean
returns-clause-clean c =
    rows_clean c.args.arena.now c.intern.new.self c.args.a c.node-found.result.now c.in_ok-node.node c.in_ok-rows.rows c.in_ok-at.at c.node-found.ensures c.in_ok-node.ensures
    (λ child inside. stable_refs c.args.name.now (term_of (store_of c.args.arena.now)) c.node-found.result.now.rows child (subst (λ (rows : List Row). Contains (row_types rows) child) (rows_are c) inside))
    c.in_ok-at.ensures.node c.in_ok-at.ensures.home c.in_ok-at.ensures.own_home c.in_ok-at.ensures.keeps
