use Rattle.std.proofs.Common.{◌≡◌, true, List, [], sym, ap, ◌∙◌, subst}
use Rattle.std.specs.Prelude.{IsTrue, Contains}
use Rattle.type_arena.specs.Arena.{store_of}
use Rattle.type_arena.specs.Meaning.{term_of}
use Rattle.type_arena.specs.Store.{has}
use Rattle.type_normal.specs.Growing.{given_refs}
use Rattle.type_ops.proofs.GrowFacts.{adds_nothing}
use Rattle.error_context.specs.Entries.{refs_in, AscendFrom, AreThere, HaveTypes}
use Rattle.error_context.specs.Pairs.{by_pairs, pair_locals, pair_refs}
use Rattle.error_context.specs.Steps.{takes, made_of}
use Rattle.error_context.specs.declared.pairs.Pair.{Pair}
use Rattle.error_context.proofs.GrowSteps.{adds_wider}
use Rattle.error_context.proofs.SideFacts.{alone_entries, alone_locals, alone_all_refs, alone_given, all_wider}
use Rattle.error_context.proofs.sides.one.Goals as goal

pub combined-requires-clause-there : goal.combined-requires-clause-there
combined-requires-clause-there c =
    subst (λ (ps : List Pair). AreThere c.args.arena.now (pair_refs ps)) (sym (c.as_slice-sides.ensures.value ∙ c.in_ok-pairs.ensures))
    (alone_all_refs (λ at. IsTrue (has (store_of c.args.arena.now) at)) c.args.a.now c.requires.there)

pub combined-requires-clause-taken : goal.combined-requires-clause-taken
combined-requires-clause-taken c =
    subst (λ (ps : List Pair). HaveTypes c.args.arena.now (takes c.args.step.now) (pair_refs ps)) (sym (c.as_slice-sides.ensures.value ∙ c.in_ok-pairs.ensures))
    (alone_all_refs (λ at. takes c.args.step.now (term_of (store_of c.args.arena.now) at) ≡ true) c.args.a.now c.requires.taken)

pub combined-requires-clause-sorted : goal.combined-requires-clause-sorted
combined-requires-clause-sorted c =
    subst (AscendFrom 0) (sym (ap pair_locals (c.as_slice-sides.ensures.value ∙ c.in_ok-pairs.ensures) ∙ alone_locals c.args.a.now)) c.requires.sorted

pub returns-clause-entries : goal.returns-clause-entries
returns-clause-entries c l =
    c.in_ok-made.ensures.entries l
    ∙ ap (λ (ps : List Pair). by_pairs (made_of c.args.step.now (term_of (store_of c.args.arena.now))) ps l) (c.as_slice-sides.ensures.value ∙ c.in_ok-pairs.ensures)
    ∙ alone_entries (made_of c.args.step.now (term_of (store_of c.args.arena.now))) c.args.a.now l

pub returns-clause-clean : goal.returns-clause-clean
returns-clause-clean c =
    all_wider c.args.arena.now c.combined.new.arena (pair_refs c.as_slice-sides.result.now) (refs_in c.args.a.now) (refs_in c.in_ok-made.made)
    (λ at inside. alone_given c.args.a.now at (subst (λ (ps : List Pair). Contains (pair_refs ps) at) (c.as_slice-sides.ensures.value ∙ c.in_ok-pairs.ensures) inside))
    c.in_ok-made.ensures.clean

pub returns-clause-adds : goal.returns-clause-adds
returns-clause-adds c =
    adds_wider c.args.arena.now c.combined.new.arena (pair_refs c.as_slice-sides.result.now) (refs_in c.args.a.now) []
    (λ at inside. alone_given c.args.a.now at (subst (λ (ps : List Pair). Contains (pair_refs ps) at) (c.as_slice-sides.ensures.value ∙ c.in_ok-pairs.ensures) inside))
    c.combined.ensures.adds

pub returns-in_err-pairs-clause-adds : goal.returns-in_err-pairs-clause-adds
returns-in_err-pairs-clause-adds c = adds_nothing c.args.arena.now (given_refs (refs_in c.args.a.now))

pub returns-in_err-made-clause-adds : goal.returns-in_err-made-clause-adds
returns-in_err-made-clause-adds c =
    adds_wider c.args.arena.now c.combined.new.arena (pair_refs c.as_slice-sides.result.now) (refs_in c.args.a.now) []
    (λ at inside. alone_given c.args.a.now at (subst (λ (ps : List Pair). Contains (pair_refs ps) at) (c.as_slice-sides.ensures.value ∙ c.in_ok-pairs.ensures) inside))
    c.combined.ensures.adds
