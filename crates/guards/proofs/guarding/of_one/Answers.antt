use Rattle.std.proofs.Common.{[]}
use Rattle.type_normal.specs.Growing.{given_refs}
use Rattle.guards.proofs.MeansFacts.{one_are_own}
use Rattle.guards.proofs.OwnFacts.{adds_then, own_later}
use Rattle.guards.proofs.guarding.of_one.Goals as goal

pub returns-in_err-second-clause-adds : goal.returns-in_err-second-clause-adds
returns-in_err-second-clause-adds c = adds_then c.args.arena.now c.type_of.new.arena c.type_of-2.new.arena [] [] c.type_of.ensures.adds c.type_of-2.ensures.adds

pub returns-in_err-when_true-clause-adds : goal.returns-in_err-when_true-clause-adds
returns-in_err-when_true-clause-adds c = adds_then c.args.arena.now c.type_of.new.arena c.type_of-2.new.arena [] [] c.type_of.ensures.adds c.type_of-2.ensures.adds

pub returns-in_err-when_false-clause-adds : goal.returns-in_err-when_false-clause-adds
returns-in_err-when_false-clause-adds c = adds_then c.args.arena.now c.type_of.new.arena c.type_of-2.new.arena [] [] c.type_of.ensures.adds c.type_of-2.ensures.adds

pub returns-clause-own : goal.returns-clause-own
returns-clause-own c =
    one_are_own c.type_of-2.new.arena _ c.args.local c.in_ok-first.first c.in_ok-second.second c.in_ok-when_true.ensures c.in_ok-when_false.ensures
    (own_later c.type_of.new.arena c.type_of-2.new.arena (given_refs []) [] c.type_of-2.ensures.adds c.in_ok-first.first c.in_ok-first.ensures.own) c.in_ok-second.ensures.own

pub returns-clause-adds : goal.returns-clause-adds
returns-clause-adds c = adds_then c.args.arena.now c.type_of.new.arena c.type_of-2.new.arena [] [] c.type_of.ensures.adds c.type_of-2.ensures.adds
