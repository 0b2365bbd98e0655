use Rattle.std.proofs.Common.{[], ◌∷◌}
use Rattle.guards.proofs.OwnFacts.{own_adds, answer_own, both_own}
use Rattle.guards.proofs.joining.type_together.Goals as goal

pub returns-in_err-new-in-Both-clause-adds : goal.returns-in_err-new-in-Both-clause-adds
returns-in_err-new-in-Both-clause-adds c =
    own_adds c.args.arena.now c.meet.new.arena (c.args.a ∷ c.args.b ∷ []) [] (both_own c.args.arena.now c.args.a c.args.b c.requires.first c.requires.second) c.in_err-new-in-Both.ensures.err

pub returns-in_err-new-in-Either-clause-adds : goal.returns-in_err-new-in-Either-clause-adds
returns-in_err-new-in-Either-clause-adds c =
    own_adds c.args.arena.now c.union.new.arena (c.args.a ∷ c.args.b ∷ []) [] (both_own c.args.arena.now c.args.a c.args.b c.requires.first c.requires.second) c.in_err-new-in-Either.ensures.err

pub returns-in_ok-new-in-Both-clause-own : goal.returns-in_ok-new-in-Both-clause-own
returns-in_ok-new-in-Both-clause-own c =
    answer_own c.args.arena.now c.meet.new.arena (c.args.a ∷ c.args.b ∷ []) c.in_ok-new-in-Both.new (both_own c.args.arena.now c.args.a c.args.b c.requires.first c.requires.second) c.in_ok-new-in-Both.ensures.adds
    c.in_ok-new-in-Both.ensures.there c.in_ok-new-in-Both.ensures.clean

pub returns-in_ok-new-in-Either-clause-own : goal.returns-in_ok-new-in-Either-clause-own
returns-in_ok-new-in-Either-clause-own c =
    answer_own c.args.arena.now c.union.new.arena (c.args.a ∷ c.args.b ∷ []) c.in_ok-new-in-Either.new (both_own c.args.arena.now c.args.a c.args.b c.requires.first c.requires.second) c.in_ok-new-in-Either.ensures.adds
    c.in_ok-new-in-Either.ensures.there c.in_ok-new-in-Either.ensures.clean

pub returns-in_ok-new-in-Both-clause-adds : goal.returns-in_ok-new-in-Both-clause-adds
returns-in_ok-new-in-Both-clause-adds c =
    own_adds c.args.arena.now c.meet.new.arena (c.args.a ∷ c.args.b ∷ []) (c.in_ok-new-in-Both.new ∷ []) (both_own c.args.arena.now c.args.a c.args.b c.requires.first c.requires.second) c.in_ok-new-in-Both.ensures.adds

pub returns-in_ok-new-in-Either-clause-adds : goal.returns-in_ok-new-in-Either-clause-adds
returns-in_ok-new-in-Either-clause-adds c =
    own_adds c.args.arena.now c.union.new.arena (c.args.a ∷ c.args.b ∷ []) (c.in_ok-new-in-Either.new ∷ []) (both_own c.args.arena.now c.args.a c.args.b c.requires.first c.requires.second) c.in_ok-new-in-Either.ensures.adds
