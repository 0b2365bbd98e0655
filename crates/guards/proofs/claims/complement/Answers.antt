use Rattle.std.proofs.Common.{[], ◌∷◌}
use Rattle.guards.proofs.OwnFacts.{own_adds, answer_own, single_own}
use Rattle.guards.proofs.claims.complement.Goals as goal

pub returns-in_err-others-clause-adds : goal.returns-in_err-others-clause-adds
returns-in_err-others-clause-adds c = own_adds c.args.arena.now c.not_free.new.arena (c.args.at ∷ []) [] (single_own c.args.arena.now c.args.at c.requires) c.in_err-others.ensures.err

pub returns-clause-own : goal.returns-clause-own
returns-clause-own c =
    answer_own c.args.arena.now c.not_free.new.arena (c.args.at ∷ []) c.in_ok-others.others (single_own c.args.arena.now c.args.at c.requires) c.in_ok-others.ensures.adds c.in_ok-others.ensures.there c.in_ok-others.ensures.clean

pub returns-clause-adds : goal.returns-clause-adds
returns-clause-adds c = own_adds c.args.arena.now c.not_free.new.arena (c.args.at ∷ []) (c.in_ok-others.others ∷ []) (single_own c.args.arena.now c.args.at c.requires) c.in_ok-others.ensures.adds
