use Rattle.std.proofs.Common.{[], ◌++◌, refl, sym, ap, ◌∙◌, subst}
use Rattle.error_context.specs.Entries.{Entries, guard_of, refs_in}
use Rattle.context_types.specs.Types.{arena_of}
use Rattle.context_types.proofs.MadeFacts.{kept_made}
use Rattle.context_types.proofs.ContextFacts.{AreMade, both_made, context_after}
use Rattle.context_types.proofs.types.ContextTypes.branch.Goals as goal

pub invariant_of-self : goal.invariant_of-self
invariant_of-self c =
    let types = c.args.self.now in
    let truth = subst (λ (entries : Entries). AreMade types (refs_in entries)) (sym c.as_slice-truth.ensures) c.requires.guard.true_made in
    let falsity = subst (λ (entries : Entries). AreMade types (refs_in entries)) (sym c.as_slice-falsity.ensures) c.requires.guard.false_made in
    let made = both_made types (refs_in c.as_slice-truth.result.now ++ refs_in c.args.when_true.entries) (refs_in c.as_slice-falsity.result.now ++ refs_in c.args.when_false.entries)
    (both_made types (refs_in c.as_slice-truth.result.now) (refs_in c.args.when_true.entries) truth c.requires.left.made)
    (both_made types (refs_in c.as_slice-falsity.result.now) (refs_in c.args.when_false.entries) falsity c.requires.right.made) in
    let kept = kept_made types c.branch-alloc.new.arena _ [] made c.branch-alloc.ensures.adds in
    record { confined = kept.0; right = kept.1 }

pub returns-clause-context : goal.returns-clause-context
returns-clause-context c rules cond says = λ i. λ n.
    c.in_ok-made.ensures.sets rules cond
    (λ local. ap (λ (entries : Entries). guard_of (arena_of c.args.self.now) entries local) c.as_slice-truth.ensures ∙ says.truth local)
    (λ local. ap (λ (entries : Entries). guard_of (arena_of c.args.self.now) entries local) c.as_slice-falsity.ensures ∙ says.falsity local) n i

pub returns-clause-stands : goal.returns-clause-stands
returns-clause-stands c =
    let types = c.args.self.now in
    let truth = subst (λ (entries : Entries). AreMade types (refs_in entries)) (sym c.as_slice-truth.ensures) c.requires.guard.true_made in
    let falsity = subst (λ (entries : Entries). AreMade types (refs_in entries)) (sym c.as_slice-falsity.ensures) c.requires.guard.false_made in
    let made = both_made types (refs_in c.as_slice-truth.result.now ++ refs_in c.args.when_true.entries) (refs_in c.as_slice-falsity.result.now ++ refs_in c.args.when_false.entries)
    (both_made types (refs_in c.as_slice-truth.result.now) (refs_in c.args.when_true.entries) truth c.requires.left.made)
    (both_made types (refs_in c.as_slice-falsity.result.now) (refs_in c.args.when_false.entries) falsity c.requires.right.made) in
    context_after types _ _ [] c.in_ok-made.made refl made c.branch-alloc.ensures.adds c.in_ok-made.ensures.context c.in_ok-made.ensures.clean
