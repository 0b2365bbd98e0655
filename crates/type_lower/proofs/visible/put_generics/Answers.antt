use Rattle.std.proofs.Common.{[], arith}
use Rattle.std.specs.Prelude.{IsTrue}
use Rattle.type_arena.specs.Arena.{store_of}
use Rattle.type_arena.specs.Store.{has, field_types}
use Rattle.type_normal.specs.Growing.{given_refs, IsClean}
use Rattle.type_lower.proofs.MadeFacts.{given_clean, given_there}
use Rattle.type_lower.proofs.PutFacts.{all_more, all_done, all_generics, generics_hold}
use Rattle.type_lower.proofs.visible.put_generics.Goals as goal

pub returns-in_err-at-clause-adds : goal.returns-in_err-at-clause-adds
returns-in_err-at-clause-adds c = c.in_err-at.ensures.err (field_types c.args.aliases.now)

pub loop-generic-preserved : goal.loop-generic-preserved
loop-generic-preserved c =
    all_more c.in_ok-at.at c.args.generics.now c.loop-generic.generic-index c.generic-item.result c.args.aliases.now c.loop-generic.aliases c.put.new.self c.loop-generic-test.true c.generic-item.is c.loop-generic.invariant c.in_ok-put.ensures.ok

pub returns-in_err-put-clause-adds : goal.returns-in_err-put-clause-adds
returns-in_err-put-clause-adds c = (c.in_ok-at.ensures.made (field_types c.args.aliases.now)).adds

pub returns-clause-known : goal.returns-clause-known
returns-clause-known c =
    all_generics c.args.arena.now c.plain_ref.new.arena c.args.aliases.now c.loop-generic.aliases c.in_ok-at.at c.args.generics.now c.requires (c.in_ok-at.ensures.made (field_types c.args.aliases.now))
    (all_done c.in_ok-at.at c.args.generics.now c.loop-generic.generic-index c.args.aliases.now c.loop-generic.aliases (omega arith) c.loop-generic.invariant)

pub returns-clause-there : goal.returns-clause-there
returns-clause-there c =
    generics_hold (λ x. IsTrue (has (store_of c.plain_ref.new.arena) x)) c.args.aliases.now c.loop-generic.aliases c.in_ok-at.at c.args.generics.now
    (all_done c.in_ok-at.at c.args.generics.now c.loop-generic.generic-index c.args.aliases.now c.loop-generic.aliases (omega arith) c.loop-generic.invariant)
    (given_there c.args.arena.now c.plain_ref.new.arena (field_types c.args.aliases.now) (given_refs (field_types c.args.aliases.now)) [] (c.in_ok-at.ensures.made (field_types c.args.aliases.now)).adds c.requires)
    (c.in_ok-at.ensures.made (field_types c.args.aliases.now)).there

pub returns-clause-adds : goal.returns-clause-adds
returns-clause-adds c = (c.in_ok-at.ensures.made (field_types c.args.aliases.now)).adds

pub returns-clause-clean : goal.returns-clause-clean
returns-clause-clean c =
    generics_hold (IsClean c.args.arena.now c.plain_ref.new.arena (given_refs (field_types c.args.aliases.now))) c.args.aliases.now c.loop-generic.aliases c.in_ok-at.at c.args.generics.now
    (all_done c.in_ok-at.at c.args.generics.now c.loop-generic.generic-index c.args.aliases.now c.loop-generic.aliases (omega arith) c.loop-generic.invariant)
    (given_clean c.args.arena.now c.plain_ref.new.arena (field_types c.args.aliases.now) (c.in_ok-at.ensures.made (field_types c.args.aliases.now)).adds c.requires)
    (c.in_ok-at.ensures.made (field_types c.args.aliases.now)).clean
