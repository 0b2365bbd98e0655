use Rattle.std.proofs.Common.{[], ◌∷◌, refl, ap, ◌∙◌}
use Rattle.type_normal.specs.Growing.{given_refs}
use Rattle.type_normal.specs.Rows.{is_normal}
use Rattle.error_context.proofs.NormalFacts.{field_normal}
use Rattle.context_types.specs.Types.{set_in}
use Rattle.context_types.proofs.MadeFacts.{one_stands, call_adds, kept_after, stands_after}
use Rattle.context_types.proofs.types.ContextTypes.field_is.Goals as goal

pub invariant_of-self : goal.invariant_of-self
invariant_of-self c =
    let kept = kept_after c.args.self.now c.field_is.new.arena (c.args.a ∷ []) [] (one_stands c.args.self.now c.args.a c.requires) (call_adds c.args.self.now.arena c.field_is.new.arena (given_refs (c.args.a ∷ [])) (λ at. at ∷ []) c.field_is.result c.field_is.ensures.adds c.field_is.ensures.err) in
    record { confined = kept.0; right = kept.1 }

pub returns-clause-stands : goal.returns-clause-stands
returns-clause-stands c =
    stands_after c.args.self.now _ (c.args.a ∷ []) (c.in_ok-at.at ∷ []) c.in_ok-at.at refl (one_stands c.args.self.now c.args.a c.requires) c.in_ok-at.ensures.adds c.in_ok-at.ensures.clean c.in_ok-at.ensures.there
    (ap is_normal c.in_ok-at.ensures.term ∙ field_normal c.args.name (set_in c.args.self.now c.args.a) c.requires.normal)
