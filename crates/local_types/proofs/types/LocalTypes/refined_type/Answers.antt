use Rattle.std.proofs.Common.{[], ◌∷◌}
use Rattle.local_types.proofs.GrowFacts.{grows_then, made_one, made_then}
use Rattle.local_types.proofs.types.LocalTypes.refined_type.Goals as goal

pub returns-in_err-at-clause-grows : goal.returns-in_err-at-clause-grows
returns-in_err-at-clause-grows c =
    grows_then c.args.self.now c.meet.new.self c.cut_up.new.self (c.args.old ∷ c.args.guard ∷ []) (c.in_ok-both.both ∷ []) c.in_ok-both.ensures.grows c.cut_up.ensures.grows
    (made_one c.args.self.now (c.args.old ∷ c.args.guard ∷ []) c.in_ok-both.both c.in_ok-both.ensures.made)

pub returns-clause-made : goal.returns-clause-made
returns-clause-made c =
    made_then c.args.self.now c.meet.new.self (c.args.old ∷ c.args.guard ∷ []) (c.in_ok-both.both ∷ []) c.in_ok-at.at c.in_ok-both.ensures.grows
    (made_one c.args.self.now (c.args.old ∷ c.args.guard ∷ []) c.in_ok-both.both c.in_ok-both.ensures.made) c.in_ok-at.ensures.made

pub returns-clause-grows : goal.returns-clause-grows
returns-clause-grows c =
    grows_then c.args.self.now c.meet.new.self c.cut_up.new.self (c.args.old ∷ c.args.guard ∷ []) (c.in_ok-both.both ∷ []) c.in_ok-both.ensures.grows c.in_ok-at.ensures.grows
    (made_one c.args.self.now (c.args.old ∷ c.args.guard ∷ []) c.in_ok-both.both c.in_ok-both.ensures.made)
