use Rattle.std.proofs.Common.{[], ◌++◌, refl}
use Rattle.error_context.specs.Entries.{refs_in}
use Rattle.context_types.proofs.MadeFacts.{kept_made}
use Rattle.context_types.proofs.ContextFacts.{both_made, context_after}
use Rattle.context_types.proofs.types.ContextTypes.join.Goals as goal

pub invariant_of-self : goal.invariant_of-self
invariant_of-self c =
    let kept = kept_made c.args.self.now c.join.new.arena (refs_in c.args.a.entries ++ refs_in c.args.b.entries) [] (both_made c.args.self.now (refs_in c.args.a.entries) (refs_in c.args.b.entries) c.requires.left.made c.requires.right.made) c.join.ensures.adds in
    record { confined = kept.0; right = kept.1 }

pub returns-clause-context : goal.returns-clause-context
returns-clause-context c = λ i. λ n. c.in_ok-made.ensures.sets n i

pub returns-clause-stands : goal.returns-clause-stands
returns-clause-stands c =
    context_after c.args.self.now _ (refs_in c.args.a.entries ++ refs_in c.args.b.entries) [] c.in_ok-made.made refl (both_made c.args.self.now (refs_in c.args.a.entries) (refs_in c.args.b.entries) c.requires.left.made c.requires.right.made) c.join.ensures.adds c.in_ok-made.ensures.context c.in_ok-made.ensures.clean
