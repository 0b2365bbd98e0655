use Rattle.std.specs.Prelude.{IsTrue}
use Rattle.type_arena.specs.Arena.{store_of}
use Rattle.type_arena.specs.Meaning.{term_of}
use Rattle.type_arena.specs.Store.{has}
use Rattle.type_ops.proofs.NormalFacts.{known_there, normal_mean, normal_refs}
use Rattle.type_ops.proofs.normalizing.normal_rows.Goals as goal

pub rows_in_order-requires : goal.rows_in_order-requires
rows_in_order-requires c =
    known_there (λ at. IsTrue (has (store_of c.args.arena.now) at)) (term_of (store_of c.args.arena.now)) c.args.rows.now c.in_ok-known.known.items c.in_ok-known.ensures c.requires

pub returns-clause-rows : goal.returns-clause-rows
returns-clause-rows c = normal_mean (term_of (store_of c.args.arena.now)) c.args.rows.now c.in_ok-known.known.items c.in_ok-all.all c.in_ok-known.ensures c.in_ok-all.ensures

pub returns-clause-refs : goal.returns-clause-refs
returns-clause-refs c = normal_refs (term_of (store_of c.args.arena.now)) c.args.rows.now c.in_ok-known.known.items c.in_ok-all.all c.in_ok-known.ensures c.in_ok-all.ensures
