use Rattle.std.proofs.Common.{[], ◌∷◌}
use Rattle.guards.proofs.OwnFacts.{own_adds, answer_own, none_own}
use Rattle.guards.proofs.claims.text.Goals as goal

pub returns-clause-own : goal.returns-clause-own
returns-clause-own c = answer_own c.args.arena.now c.text_type.new.arena [] c.in_ok-at.at (none_own c.args.arena.now) c.in_ok-at.ensures.adds c.in_ok-at.ensures.there c.in_ok-at.ensures.clean

pub returns-clause-adds : goal.returns-clause-adds
returns-clause-adds c = own_adds c.args.arena.now c.text_type.new.arena [] (c.in_ok-at.at ∷ []) (none_own c.args.arena.now) c.in_ok-at.ensures.adds
