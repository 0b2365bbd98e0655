use Rattle.std.proofs.Common.{[], ◌∷◌, refl}
use Rattle.type_arena.specs.Homes.{homes_in}
use Rattle.type_arena.specs.declared.node.FnName.TheVariants.{Literal}
use Rattle.local_types.proofs.GrowFacts.{there_on, call_keeps, arena_grows, answer_made, own_literal}
use Rattle.local_types.proofs.types.LocalTypes.literal.Goals as goal

pub invariant_of-self-clause-there : goal.invariant_of-self-clause-there
invariant_of-self-clause-there c =
    there_on _ _ c.args.self.now.nodes.items
    (call_keeps c.args.self.now.arena c.named_type.new.arena (record { refs = []; literals = homes_in (Literal c.args.home c.args.number ∷ []) }) c.named_type.result c.named_type.ensures.adds c.named_type.ensures.err) c.args.self.now.there

pub returns-in_err-at-clause-grows : goal.returns-in_err-at-clause-grows
returns-in_err-at-clause-grows c = arena_grows c.args.self.now _ [] [] refl (own_literal _ _ c.args.home [] c.requires c.in_err-at.ensures.err)

pub returns-clause-made : goal.returns-clause-made
returns-clause-made c = answer_made c.args.self.now c.named_type.new.arena [] c.in_ok-at.at (own_literal _ _ c.args.home (c.in_ok-at.at ∷ []) c.requires c.in_ok-at.ensures.adds)

pub returns-clause-grows : goal.returns-clause-grows
returns-clause-grows c = arena_grows c.args.self.now _ [] (c.in_ok-at.at ∷ []) refl (own_literal _ _ c.args.home (c.in_ok-at.at ∷ []) c.requires c.in_ok-at.ensures.adds)
