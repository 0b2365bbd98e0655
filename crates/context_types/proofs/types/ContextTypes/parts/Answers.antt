use Rattle.std.proofs.Common.{◌≡◌, ◌∷◌, ◌++◌, [], List, ap, ◌∙◌}
use Rattle.type_arena.specs.declared.node.TypeRef.{TypeRef}
use Rattle.type_fields.specs.Plain.{plain_term}
use Rattle.context_types.proofs.ListFacts.{parts_made, parts_stand}
use Rattle.context_types.proofs.types.ContextTypes.parts.Goals as goal

pub returns-clause-sets : goal.returns-clause-sets
returns-clause-sets c =
    let listed : c.extend_from_slice.new.self.items ≡ c.in_ok-never.never ∷ c.in_ok-met.met.items
    = c.in_ok-extend_from_slice.ensures.items ∙ (λ i. (c.in_ok-push.ensures.items ∙ ap (λ (xs : List TypeRef). xs ++ c.in_ok-never.never ∷ []) c.new-parts.ensures.items) i ++ c.as_slice.ensures.value i) in
    parts_made c.args.self.now c.plain.new.self c.plain-2.new.self c.each.new.self (plain_term c.args.kind) c.args.sets.now c.past_none-rest.result.now c.in_ok-met.met.items c.extend_from_slice.new.self.items c.in_ok-never.never c.in_ok-values.values
    c.plain.ensures.grows c.plain-2.ensures.grows c.each.ensures.grows c.past_none-rest.ensures.stand c.in_ok-never.ensures.stands c.in_ok-never.ensures.set c.in_ok-values.ensures.set c.past_none-rest.ensures.sets c.in_ok-met.ensures.sets listed

pub returns-clause-stand : goal.returns-clause-stand
returns-clause-stand c =
    let listed : c.extend_from_slice.new.self.items ≡ c.in_ok-never.never ∷ c.in_ok-met.met.items
    = c.in_ok-extend_from_slice.ensures.items ∙ (λ i. (c.in_ok-push.ensures.items ∙ ap (λ (xs : List TypeRef). xs ++ c.in_ok-never.never ∷ []) c.new-parts.ensures.items) i ++ c.as_slice.ensures.value i) in
    parts_stand c.plain.new.self c.plain-2.new.self c.each.new.self c.in_ok-met.met.items c.extend_from_slice.new.self.items c.in_ok-never.never
    c.plain-2.ensures.grows c.each.ensures.grows c.in_ok-never.ensures.stands c.in_ok-met.ensures.stand listed
