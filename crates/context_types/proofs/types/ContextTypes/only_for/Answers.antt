use Rattle.std.proofs.Common.{[], ◌∷◌, refl}
use Rattle.context_types.proofs.MadeFacts.{one_stands, all_made, kept_made}
use Rattle.context_types.proofs.ContextFacts.{context_after}
use Rattle.context_types.proofs.types.ContextTypes.only_for.Goals as goal

pub invariant_of-self : goal.invariant_of-self
invariant_of-self c =
    let kept = kept_made c.args.self.now c.only_for.new.arena (c.args.set ∷ []) [] (all_made c.args.self.now (c.args.set ∷ []) (one_stands c.args.self.now c.args.set c.requires)) c.only_for.ensures.adds in
    record { confined = kept.0; right = kept.1 }

pub returns-clause-context : goal.returns-clause-context
returns-clause-context c rules loose = λ i. λ n. c.in_ok-made.ensures.sets rules loose n i

pub returns-clause-stands : goal.returns-clause-stands
returns-clause-stands c =
    context_after c.args.self.now _ (c.args.set ∷ []) [] c.in_ok-made.made refl (all_made c.args.self.now (c.args.set ∷ []) (one_stands c.args.self.now c.args.set c.requires)) c.only_for.ensures.adds c.in_ok-made.ensures.context c.in_ok-made.ensures.clean
