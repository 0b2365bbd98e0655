use Rattle.std.proofs.Common.{[], ◌∷◌, refl}
use Rattle.type_normal.specs.Growing.{given_refs}
use Rattle.local_types.proofs.GrowFacts.{there_on, call_keeps, arena_grows, answer_made}
use Rattle.local_types.proofs.types.LocalTypes.failing.Goals as goal

pub invariant_of-self-clause-there : goal.invariant_of-self-clause-there
invariant_of-self-clause-there c =
    there_on _ _ c.args.self.now.nodes.items (call_keeps c.args.self.now.arena c.failing_type.new.arena (given_refs []) c.failing_type.result c.failing_type.ensures.adds c.failing_type.ensures.err) c.args.self.now.there

pub returns-in_err-at-clause-grows : goal.returns-in_err-at-clause-grows
returns-in_err-at-clause-grows c = arena_grows c.args.self.now _ [] [] refl c.in_err-at.ensures.err

pub returns-clause-made : goal.returns-clause-made
returns-clause-made c = answer_made c.args.self.now c.failing_type.new.arena [] c.in_ok-at.at c.in_ok-at.ensures.adds

pub returns-clause-grows : goal.returns-clause-grows
returns-clause-grows c = arena_grows c.args.self.now _ [] (c.in_ok-at.at ∷ []) refl c.in_ok-at.ensures.adds
