use Rattle.std.proofs.Common.{[], ◌∷◌, refl, ap, ◌∙◌}
use Rattle.type_normal.specs.Growing.{given_refs}
use Rattle.type_normal.specs.Rows.{is_normal}
use Rattle.type_ops.proofs.KeepFacts.{union_normal}
use Rattle.context_types.specs.Types.{set_in}
use Rattle.context_types.proofs.MadeFacts.{two_stand, call_adds, kept_after, stands_after}
use Rattle.context_types.proofs.types.ContextTypes.union.Goals as goal

pub invariant_of-self : goal.invariant_of-self
invariant_of-self c =
    let kept = kept_after c.args.self.now c.union.new.arena (c.args.a ∷ c.args.b ∷ []) [] (two_stand c.args.self.now c.args.a c.args.b c.requires.first c.requires.second) (call_adds c.args.self.now.arena c.union.new.arena (given_refs (c.args.a ∷ c.args.b ∷ [])) (λ at. at ∷ []) c.union.result c.union.ensures.adds c.union.ensures.err) in
    record { confined = kept.0; right = kept.1 }

pub returns-clause-stands : goal.returns-clause-stands
returns-clause-stands c =
    stands_after c.args.self.now _ (c.args.a ∷ c.args.b ∷ []) (c.in_ok-at.at ∷ []) c.in_ok-at.at refl (two_stand c.args.self.now c.args.a c.args.b c.requires.first c.requires.second) c.in_ok-at.ensures.adds c.in_ok-at.ensures.clean c.in_ok-at.ensures.there
    (ap is_normal c.in_ok-at.ensures.term ∙ union_normal (set_in c.args.self.now c.args.a) (set_in c.args.self.now c.args.b) c.requires.first.normal c.requires.second.normal)
