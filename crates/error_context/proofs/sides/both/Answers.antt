use Rattle.std.proofs.Common.{[], ◌∷◌, ◌++◌, sym, ◌∙◌, subst}
use Rattle.error_context.specs.Entries.{Entries, refs_in, locals_in, AscendFrom}
use Rattle.error_context.specs.Pairs.{pair_refs}
use Rattle.error_context.proofs.GrowSteps.{adds_wider}
use Rattle.error_context.proofs.SideFacts.{aligned_of, sides_add, sides_clean, sides_there, sides_taken, sides_entries, after_adds, after_clean, no_refs}
use Rattle.error_context.proofs.sides.both.Goals as goal

pub aligned-requires-clause-left : goal.aligned-requires-clause-left
aligned-requires-clause-left c = subst (λ (es : Entries). AscendFrom 0 (locals_in es)) (sym c.as_slice-lefts.ensures) c.requires.left.sorted

pub aligned-requires-clause-right : goal.aligned-requires-clause-right
aligned-requires-clause-right c = subst (λ (es : Entries). AscendFrom 0 (locals_in es)) (sym c.as_slice-rights.ensures) c.requires.right.sorted

pub combined-requires-clause-there : goal.combined-requires-clause-there
combined-requires-clause-there c =
    sides_there c.args.arena.now c.plain_type.new.arena c.in_ok-absent.absent c.args.a.now c.args.b.now c.as_slice-sides.result.now (c.in_ok-absent.absent ∷ [])
    c.in_ok-absent.ensures.adds c.requires.left c.requires.right
    (aligned_of c.in_ok-absent.absent c.args.a.now c.as_slice-lefts.result.now c.args.b.now c.as_slice-rights.result.now c.in_ok-pairs.pairs.items c.as_slice-sides.result.now
    c.as_slice-lefts.ensures c.as_slice-rights.ensures c.as_slice-sides.ensures.value c.in_ok-pairs.ensures) c.in_ok-absent.ensures.there

pub combined-requires-clause-taken : goal.combined-requires-clause-taken
combined-requires-clause-taken c =
    sides_taken c.args.arena.now c.plain_type.new.arena c.in_ok-absent.absent c.args.a.now c.args.b.now c.as_slice-sides.result.now (c.in_ok-absent.absent ∷ [])
    c.in_ok-absent.ensures.adds c.requires.left c.requires.right c.args.step.now
    (aligned_of c.in_ok-absent.absent c.args.a.now c.as_slice-lefts.result.now c.args.b.now c.as_slice-rights.result.now c.in_ok-pairs.pairs.items c.as_slice-sides.result.now
    c.as_slice-lefts.ensures c.as_slice-rights.ensures c.as_slice-sides.ensures.value c.in_ok-pairs.ensures) c.in_ok-absent.ensures.term c.requires.taken

pub combined-requires-clause-sorted : goal.combined-requires-clause-sorted
combined-requires-clause-sorted c =
    (aligned_of c.in_ok-absent.absent c.args.a.now c.as_slice-lefts.result.now c.args.b.now c.as_slice-rights.result.now c.in_ok-pairs.pairs.items c.as_slice-sides.result.now
    c.as_slice-lefts.ensures c.as_slice-rights.ensures c.as_slice-sides.ensures.value c.in_ok-pairs.ensures).sorted

pub returns-clause-entries : goal.returns-clause-entries
returns-clause-entries c l =
    c.in_ok-made.ensures.entries l
    ∙ sides_entries c.args.arena.now c.plain_type.new.arena c.in_ok-absent.absent c.args.a.now c.args.b.now c.as_slice-sides.result.now (c.in_ok-absent.absent ∷ [])
    c.in_ok-absent.ensures.adds c.requires.left c.requires.right c.args.step.now
    (aligned_of c.in_ok-absent.absent c.args.a.now c.as_slice-lefts.result.now c.args.b.now c.as_slice-rights.result.now c.in_ok-pairs.pairs.items c.as_slice-sides.result.now
    c.as_slice-lefts.ensures c.as_slice-rights.ensures c.as_slice-sides.ensures.value c.in_ok-pairs.ensures) c.in_ok-absent.ensures.term c.requires.absent l

pub returns-clause-clean : goal.returns-clause-clean
returns-clause-clean c =
    after_clean c.args.arena.now c.plain_type.new.arena c.combined.new.arena (refs_in c.args.a.now ++ refs_in c.args.b.now) (pair_refs c.as_slice-sides.result.now) (refs_in c.in_ok-made.made) []
    (sides_add c.args.arena.now c.plain_type.new.arena c.in_ok-absent.absent c.args.a.now c.args.b.now c.as_slice-sides.result.now (c.in_ok-absent.absent ∷ [])
    c.in_ok-absent.ensures.adds c.requires.left c.requires.right)
    (sides_clean c.args.arena.now c.plain_type.new.arena c.in_ok-absent.absent c.args.a.now c.args.b.now c.as_slice-sides.result.now (c.in_ok-absent.absent ∷ [])
    c.in_ok-absent.ensures.adds c.requires.left c.requires.right
    (aligned_of c.in_ok-absent.absent c.args.a.now c.as_slice-lefts.result.now c.args.b.now c.as_slice-rights.result.now c.in_ok-pairs.pairs.items c.as_slice-sides.result.now
    c.as_slice-lefts.ensures c.as_slice-rights.ensures c.as_slice-sides.ensures.value c.in_ok-pairs.ensures) c.in_ok-absent.ensures.clean)
    c.in_ok-made.ensures.clean

pub returns-clause-adds : goal.returns-clause-adds
returns-clause-adds c =
    after_adds c.args.arena.now c.plain_type.new.arena c.combined.new.arena (refs_in c.args.a.now ++ refs_in c.args.b.now) (pair_refs c.as_slice-sides.result.now) [] []
    (sides_add c.args.arena.now c.plain_type.new.arena c.in_ok-absent.absent c.args.a.now c.args.b.now c.as_slice-sides.result.now (c.in_ok-absent.absent ∷ [])
    c.in_ok-absent.ensures.adds c.requires.left c.requires.right)
    (sides_clean c.args.arena.now c.plain_type.new.arena c.in_ok-absent.absent c.args.a.now c.args.b.now c.as_slice-sides.result.now (c.in_ok-absent.absent ∷ [])
    c.in_ok-absent.ensures.adds c.requires.left c.requires.right
    (aligned_of c.in_ok-absent.absent c.args.a.now c.as_slice-lefts.result.now c.args.b.now c.as_slice-rights.result.now c.in_ok-pairs.pairs.items c.as_slice-sides.result.now
    c.as_slice-lefts.ensures c.as_slice-rights.ensures c.as_slice-sides.ensures.value c.in_ok-pairs.ensures) c.in_ok-absent.ensures.clean)
    c.combined.ensures.adds

pub returns-in_err-made-clause-adds : goal.returns-in_err-made-clause-adds
returns-in_err-made-clause-adds c =
    after_adds c.args.arena.now c.plain_type.new.arena c.combined.new.arena (refs_in c.args.a.now ++ refs_in c.args.b.now) (pair_refs c.as_slice-sides.result.now) [] []
    (sides_add c.args.arena.now c.plain_type.new.arena c.in_ok-absent.absent c.args.a.now c.args.b.now c.as_slice-sides.result.now (c.in_ok-absent.absent ∷ [])
    c.in_ok-absent.ensures.adds c.requires.left c.requires.right)
    (sides_clean c.args.arena.now c.plain_type.new.arena c.in_ok-absent.absent c.args.a.now c.args.b.now c.as_slice-sides.result.now (c.in_ok-absent.absent ∷ [])
    c.in_ok-absent.ensures.adds c.requires.left c.requires.right
    (aligned_of c.in_ok-absent.absent c.args.a.now c.as_slice-lefts.result.now c.args.b.now c.as_slice-rights.result.now c.in_ok-pairs.pairs.items c.as_slice-sides.result.now
    c.as_slice-lefts.ensures c.as_slice-rights.ensures c.as_slice-sides.ensures.value c.in_ok-pairs.ensures) c.in_ok-absent.ensures.clean)
    c.combined.ensures.adds

pub returns-in_err-pairs-clause-adds : goal.returns-in_err-pairs-clause-adds
returns-in_err-pairs-clause-adds c =
    adds_wider c.args.arena.now c.plain_type.new.arena [] (refs_in c.args.a.now ++ refs_in c.args.b.now) (c.in_ok-absent.absent ∷ []) (λ at inside. no_refs at _ inside) c.in_ok-absent.ensures.adds

pub returns-in_err-absent-clause-adds : goal.returns-in_err-absent-clause-adds
returns-in_err-absent-clause-adds c =
    adds_wider c.args.arena.now c.plain_type.new.arena [] (refs_in c.args.a.now ++ refs_in c.args.b.now) [] (λ at inside. no_refs at _ inside) c.in_err-absent.ensures.err
