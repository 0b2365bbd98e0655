use Rattle.std.proofs.Common.{◌≡◌, List, refl, ap, sym, ◌∙◌, subst}
use Rattle.std.specs.Prelude.{Contains}
use Rattle.type_arena.specs.Arena.{store_of}
use Rattle.type_arena.specs.Meaning.{term_of, rows_by}
use Rattle.type_arena.specs.Store.{row_types}
use Rattle.type_arena.specs.declared.node.Row.{Row}
use Rattle.type_normal.specs.HeapFree.{heap_free, strip, strip_rows}
use Rattle.type_normal.specs.Holds.{holds}
use Rattle.type_normal.specs.Nodes.{heap_free_ones}
use Rattle.type_normal.proofs.HeapFreeFacts.{strip_below, strip_free, free_later}
use Rattle.type_normal.proofs.RowsFacts.{rows_add, rows_mean, rows_there, stripped_mean, stripped_refs, rows_clean}
use Rattle.type_normal.proofs.stripping.strip.Goals.{In_ok-at}
use Rattle.type_normal.proofs.stripping.strip.Goals as goal

-- the rows that are kept, of those of the node
rows_are : (c : In_ok-at) → c.in_ok-rows.rows ≡ heap_free_ones (term_of (store_of c.args.arena.now)) c.node-found.result.now.rows
rows_are c = c.in_ok-rows.ensures ∙ ap (heap_free_ones (term_of (store_of c.args.arena.now))) c.as_slice.ensures

meaning : (c : In_ok-at) → term_of (store_of c.intern.new.self) c.in_ok-at.at ≡ strip (term_of (store_of c.args.arena.now) c.args.a)
meaning c =
    c.in_ok-at.ensures.meaning
    ∙ rows_mean (store_of c.args.arena.now) c.args.arena.now.sound c.args.a c.node-found.result.now c.in_ok-node.node c.in_ok-rows.rows c.node-found.ensures c.in_ok-node.ensures
    strip strip_rows (λ r. refl)
    (ap (rows_by (term_of (store_of c.args.arena.now))) (rows_are c) ∙ stripped_mean (term_of (store_of c.args.arena.now)) c.node-found.result.now.rows)

pub returns-clause-term : goal.returns-clause-term
returns-clause-term c = meaning c

pub returns-clause-values : goal.returns-clause-values
returns-clause-values c h v k = strip_below h v (term_of (store_of c.args.arena.now) c.args.a) (sym (ap (holds h v) (meaning c)) ∙ k)

pub returns-clause-later : goal.returns-clause-later
returns-clause-later c h g v l k =
    free_later h g v (term_of (store_of c.intern.new.self) c.in_ok-at.at) (ap heap_free (meaning c) ∙ strip_free (term_of (store_of c.args.arena.now) c.args.a)) l k

pub returns-clause-adds : goal.returns-clause-adds
returns-clause-adds c =
    rows_add c.args.arena.now c.intern.new.self c.args.a c.node-found.result.now c.in_ok-node.node c.in_ok-rows.rows c.in_ok-at.at c.node-found.ensures c.in_ok-node.ensures
    (λ child inside. stripped_refs (term_of (store_of c.args.arena.now)) c.node-found.result.now.rows child (subst (λ (rows : List Row). Contains (row_types rows) child) (rows_are c) inside))
    c.in_ok-at.ensures.below c.in_ok-at.ensures.own_home c.in_ok-at.ensures.keeps c.in_ok-at.ensures.kept c.in_ok-at.ensures.homes

pub intern-requires : goal.intern-requires
intern-requires c =
    rows_there (store_of c.args.arena.now) c.args.arena.now.sound c.args.a c.node-found.result.now c.in_ok-node.node c.in_ok-rows.rows c.node-found.ensures c.in_ok-node.ensures
    (λ child inside. stripped_refs (term_of (store_of c.args.arena.now)) c.node-found.result.now.rows child
    (subst (λ (rows : List Row). Contains (row_types rows) child) (c.in_ok-rows.ensures ∙ ap (heap_free_ones (term_of (store_of c.args.arena.now))) c.as_slice.ensures) inside))

pub returns-clause-clean : goal.returns-clause-clean
returns-clause-clean c =
    rows_clean c.args.arena.now c.intern.new.self c.args.a c.node-found.result.now c.in_ok-node.node c.in_ok-rows.rows c.in_ok-at.at c.node-found.ensures c.in_ok-node.ensures
    (λ child inside. stripped_refs (term_of (store_of c.args.arena.now)) c.node-found.result.now.rows child (subst (λ (rows : List Row). Contains (row_types rows) child) (rows_are c) inside))
    c.in_ok-at.ensures.node c.in_ok-at.ensures.home c.in_ok-at.ensures.own_home c.in_ok-at.ensures.keeps
