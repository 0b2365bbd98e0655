use Rattle.std.proofs.Common.{[], ◌∷◌, refl, ap, ◌∙◌}
use Rattle.type_normal.specs.Growing.{given_refs}
use Rattle.type_normal.specs.Rows.{is_normal}
use Rattle.context_types.proofs.NormalFacts.{failing_normal}
use Rattle.context_types.proofs.MadeFacts.{none_stand, call_adds, kept_after, stands_after}
use Rattle.context_types.proofs.types.ContextTypes.failing.Goals as goal

pub invariant_of-self : goal.invariant_of-self
invariant_of-self c =
    let kept = kept_after c.args.self.now c.failing_type.new.arena [] [] (none_stand c.args.self.now) (call_adds c.args.self.now.arena c.failing_type.new.arena (given_refs []) (λ at. at ∷ []) c.failing_type.result c.failing_type.ensures.adds c.failing_type.ensures.err) in
    record { confined = kept.0; right = kept.1 }

pub returns-clause-stands : goal.returns-clause-stands
returns-clause-stands c =
    stands_after c.args.self.now _ [] (c.in_ok-at.at ∷ []) c.in_ok-at.at refl (none_stand c.args.self.now) c.in_ok-at.ensures.adds c.in_ok-at.ensures.clean c.in_ok-at.ensures.there
    (ap is_normal c.in_ok-at.ensures.term ∙ failing_normal c.args.operation)
