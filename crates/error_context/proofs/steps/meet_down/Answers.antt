use Rattle.std.proofs.Common.{[], ◌∷◌}
use Rattle.error_context.proofs.StepFacts.{then_adds, then_clean}
use Rattle.error_context.proofs.steps.meet_down.Goals as goal

pub returns-in_err-at-clause-adds : goal.returns-in_err-at-clause-adds
returns-in_err-at-clause-adds c =
    then_adds c.args.arena.now c.meet.new.arena c.cut_down.new.arena (c.args.left ∷ c.args.right ∷ []) (c.in_ok-whole.whole ∷ []) [] c.in_ok-whole.whole
    c.in_ok-whole.ensures.adds c.in_ok-whole.ensures.clean c.in_err-at.ensures.err

pub returns-clause-clean : goal.returns-clause-clean
returns-clause-clean c =
    then_clean c.args.arena.now c.meet.new.arena c.cut_down.new.arena (c.args.left ∷ c.args.right ∷ []) (c.in_ok-whole.whole ∷ []) c.in_ok-whole.whole c.in_ok-at.at
    c.in_ok-whole.ensures.adds c.in_ok-whole.ensures.clean c.in_ok-at.ensures.clean

pub returns-clause-adds : goal.returns-clause-adds
returns-clause-adds c =
    then_adds c.args.arena.now c.meet.new.arena c.cut_down.new.arena (c.args.left ∷ c.args.right ∷ []) (c.in_ok-whole.whole ∷ []) (c.in_ok-at.at ∷ []) c.in_ok-whole.whole
    c.in_ok-whole.ensures.adds c.in_ok-whole.ensures.clean c.in_ok-at.ensures.adds
