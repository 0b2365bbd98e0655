use Rattle.std.proofs.Common.{◌≡◌, ◌+◌, [], ◌∷◌, ◌++◌, get_or, sym, ◌∙◌, subst}
use Rattle.error_context.specs.Entries.{Entries}
use Rattle.error_context.proofs.MadeFacts.{Made, made_starts, made_there, made_taken, made_failed, made_full, made_empty, no_pair, left_in, right_in}
use Rattle.error_context.proofs.combining.combined.Goals.{then-not-empty+in_ok-push, else-not-empty}
use Rattle.error_context.proofs.combining.combined.Goals as goal

pub loop-pair-init : goal.loop-pair-init
loop-pair-init c = record {
  made = subst (λ (es : Entries). Made c.args.step.now c.args.arena.now c.args.arena.now c.args.pairs.now es 0) (sym c.new-made.ensures.items)
      (made_starts c.args.step.now c.args.arena.now c.args.pairs.now);
}

pub stepped-requires-clause-left : goal.stepped-requires-clause-left
stepped-requires-clause-left c =
    made_there c.args.step.now c.args.arena.now c.loop-pair.arena c.args.pairs.now c.loop-pair.made.items c.loop-pair.pair-index no_pair c.loop-pair-test.true c.loop-pair.invariant.made c.requires.there
    (get_or c.args.pairs.now c.loop-pair.pair-index no_pair).left (left_in (get_or c.args.pairs.now c.loop-pair.pair-index no_pair).left (get_or c.args.pairs.now c.loop-pair.pair-index no_pair).right)

pub stepped-requires-clause-left_taken : goal.stepped-requires-clause-left_taken
stepped-requires-clause-left_taken c =
    made_taken c.args.step.now c.args.arena.now c.loop-pair.arena c.args.pairs.now c.loop-pair.made.items c.loop-pair.pair-index no_pair c.loop-pair-test.true c.loop-pair.invariant.made c.requires.there c.requires.taken
    (get_or c.args.pairs.now c.loop-pair.pair-index no_pair).left (left_in (get_or c.args.pairs.now c.loop-pair.pair-index no_pair).left (get_or c.args.pairs.now c.loop-pair.pair-index no_pair).right)

pub stepped-requires-clause-right : goal.stepped-requires-clause-right
stepped-requires-clause-right c =
    made_there c.args.step.now c.args.arena.now c.loop-pair.arena c.args.pairs.now c.loop-pair.made.items c.loop-pair.pair-index no_pair c.loop-pair-test.true c.loop-pair.invariant.made c.requires.there
    (get_or c.args.pairs.now c.loop-pair.pair-index no_pair).right (right_in (get_or c.args.pairs.now c.loop-pair.pair-index no_pair).left (get_or c.args.pairs.now c.loop-pair.pair-index no_pair).right)

pub stepped-requires-clause-right_taken : goal.stepped-requires-clause-right_taken
stepped-requires-clause-right_taken c =
    made_taken c.args.step.now c.args.arena.now c.loop-pair.arena c.args.pairs.now c.loop-pair.made.items c.loop-pair.pair-index no_pair c.loop-pair-test.true c.loop-pair.invariant.made c.requires.there c.requires.taken
    (get_or c.args.pairs.now c.loop-pair.pair-index no_pair).right (right_in (get_or c.args.pairs.now c.loop-pair.pair-index no_pair).left (get_or c.args.pairs.now c.loop-pair.pair-index no_pair).right)

pub returns-in_err-at-clause-adds : goal.returns-in_err-at-clause-adds
returns-in_err-at-clause-adds c =
    made_failed c.args.step.now c.args.arena.now c.loop-pair.arena c.stepped.new.arena c.args.pairs.now c.loop-pair.made.items c.loop-pair.pair-index no_pair c.loop-pair-test.true c.loop-pair.invariant.made c.requires.there c.stepped.ensures.adds

pub returns-in_err-push-clause-adds : goal.returns-in_err-push-clause-adds
returns-in_err-push-clause-adds c =
    made_failed c.args.step.now c.args.arena.now c.loop-pair.arena c.stepped.new.arena c.args.pairs.now c.loop-pair.made.items c.loop-pair.pair-index no_pair c.loop-pair-test.true c.loop-pair.invariant.made c.requires.there c.stepped.ensures.adds

pub loop-pair-preserved : goal.loop-pair-preserved
loop-pair-preserved c =
    elim c.if-not-empty.branch [
      | then-not-empty+in_ok-push w ↦ record {
        made = subst (λ (es : Entries). Made c.args.step.now c.args.arena.now c.stepped.new.arena c.args.pairs.now es (c.loop-pair.pair-index + 1))
            (let pushed = w.in_ok-push.ensures.items in
            let e : c.loop-pair.made.items ++ ((get_or c.args.pairs.now c.loop-pair.pair-index no_pair).local, c.in_ok-at.at) ∷ [] ≡ c.if-not-empty.made.items = cc in e)
            (made_full c.args.step.now c.args.arena.now c.loop-pair.arena c.stepped.new.arena c.args.pairs.now c.loop-pair.made.items c.loop-pair.pair-index no_pair c.in_ok-at.at
            c.loop-pair-test.true c.requires.there c.requires.taken c.requires.sorted c.loop-pair.invariant.made
            (record { means = c.in_ok-at.ensures.term; there = c.in_ok-at.ensures.there; clean = c.in_ok-at.ensures.clean; adds = c.stepped.ensures.adds })
            (sym c.is_empty-empty.ensures ∙ w.if-not-empty.true));
      }
      | else-not-empty w ↦ record {
        made = subst (λ (es : Entries). Made c.args.step.now c.args.arena.now c.stepped.new.arena c.args.pairs.now es (c.loop-pair.pair-index + 1))
            (let e : c.loop-pair.made.items ≡ c.if-not-empty.made.items = cc in e)
            (made_empty c.args.step.now c.args.arena.now c.loop-pair.arena c.stepped.new.arena c.args.pairs.now c.loop-pair.made.items c.loop-pair.pair-index no_pair c.in_ok-at.at
            c.loop-pair-test.true c.requires.there c.requires.taken c.requires.sorted c.loop-pair.invariant.made
            (record { means = c.in_ok-at.ensures.term; there = c.in_ok-at.ensures.there; clean = c.in_ok-at.ensures.clean; adds = c.stepped.ensures.adds })
            (sym c.is_empty-empty.ensures ∙ w.if-not-empty.false));
      }
    ]
