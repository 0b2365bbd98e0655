use Rattle.std.proofs.Common.{[], ◌∷◌, refl, ap, ◌∙◌}
use Rattle.type_normal.specs.Growing.{given_refs}
use Rattle.type_normal.specs.Rows.{is_normal}
use Rattle.error_context.proofs.NormalFacts.{fail_normal}
use Rattle.context_types.specs.Types.{set_in}
use Rattle.context_types.proofs.MadeFacts.{one_stands, call_adds, kept_after, stands_after}
use Rattle.context_types.proofs.types.ContextTypes.fail.Goals as goal

pub invariant_of-self : goal.invariant_of-self
invariant_of-self c =
    let kept = kept_after c.args.self.now c.fail.new.arena (c.args.wanted ∷ []) [] (one_stands c.args.self.now c.args.wanted c.requires) (call_adds c.args.self.now.arena c.fail.new.arena (given_refs (c.args.wanted ∷ [])) (λ at. at ∷ []) c.fail.result c.fail.ensures.adds c.fail.ensures.err) in
    record { confined = kept.0; right = kept.1 }

pub returns-clause-stands : goal.returns-clause-stands
returns-clause-stands c =
    stands_after c.args.self.now _ (c.args.wanted ∷ []) (c.in_ok-at.at ∷ []) c.in_ok-at.at refl (one_stands c.args.self.now c.args.wanted c.requires) c.in_ok-at.ensures.adds c.in_ok-at.ensures.clean c.in_ok-at.ensures.there
    (ap is_normal c.in_ok-at.ensures.term ∙ fail_normal (set_in c.args.self.now c.args.wanted) c.requires.normal)
