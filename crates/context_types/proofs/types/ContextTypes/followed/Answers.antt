use Rattle.std.proofs.Common.{[], ◌++◌, refl}
use Rattle.error_context.specs.Entries.{refs_in}
use Rattle.context_types.proofs.MadeFacts.{kept_made}
use Rattle.context_types.proofs.ContextFacts.{both_made, context_after}
use Rattle.context_types.proofs.types.ContextTypes.followed.Goals as goal

pub invariant_of-self : goal.invariant_of-self
invariant_of-self c =
    let kept = kept_made c.args.self.now c.followed.new.arena (refs_in c.args.part.entries ++ refs_in c.args.rest.entries) [] (both_made c.args.self.now (refs_in c.args.part.entries) (refs_in c.args.rest.entries) c.requires.part.made c.requires.rest.made) c.followed.ensures.adds in
    record { confined = kept.0; right = kept.1 }

pub returns-clause-context : goal.returns-clause-context
returns-clause-context c = λ i. λ n. c.in_ok-made.ensures.sets n i

pub returns-clause-stands : goal.returns-clause-stands
returns-clause-stands c =
    context_after c.args.self.now _ (refs_in c.args.part.entries ++ refs_in c.args.rest.entries) [] c.in_ok-made.made refl (both_made c.args.self.now (refs_in c.args.part.entries) (refs_in c.args.rest.entries) c.requires.part.made c.requires.rest.made) c.followed.ensures.adds c.in_ok-made.ensures.context c.in_ok-made.ensures.clean
