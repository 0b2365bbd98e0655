use Rattle.std.proofs.Common.{[], ◌∷◌, ap, ◌∙◌}
use Rattle.type_normal.specs.Cut.{cut_down}
use Rattle.local_types.proofs.GrowFacts.{grows_then, made_one, made_then}
use Rattle.local_types.proofs.types.LocalTypes.join.Goals as goal

pub returns-clause-term : goal.returns-clause-term
returns-clause-term c = c.in_ok-at.ensures.term ∙ ap cut_down c.in_ok-whole.ensures.term

pub returns-clause-made : goal.returns-clause-made
returns-clause-made c =
    made_then c.args.self.now c.union.new.self (c.args.a ∷ c.args.b ∷ []) (c.in_ok-whole.whole ∷ []) c.in_ok-at.at c.in_ok-whole.ensures.grows
    (made_one c.args.self.now (c.args.a ∷ c.args.b ∷ []) c.in_ok-whole.whole c.in_ok-whole.ensures.made) c.in_ok-at.ensures.made

pub returns-in_err-at-clause-grows : goal.returns-in_err-at-clause-grows
returns-in_err-at-clause-grows c =
    grows_then c.args.self.now c.union.new.self c.cut_down.new.self (c.args.a ∷ c.args.b ∷ []) (c.in_ok-whole.whole ∷ []) c.in_ok-whole.ensures.grows c.cut_down.ensures.grows
    (made_one c.args.self.now (c.args.a ∷ c.args.b ∷ []) c.in_ok-whole.whole c.in_ok-whole.ensures.made)

pub returns-clause-grows : goal.returns-clause-grows
returns-clause-grows c =
    grows_then c.args.self.now c.union.new.self c.cut_down.new.self (c.args.a ∷ c.args.b ∷ []) (c.in_ok-whole.whole ∷ []) c.in_ok-whole.ensures.grows c.cut_down.ensures.grows
    (made_one c.args.self.now (c.args.a ∷ c.args.b ∷ []) c.in_ok-whole.whole c.in_ok-whole.ensures.made)
