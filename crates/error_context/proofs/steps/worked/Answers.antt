use Rattle.std.proofs.Common.{[], ◌∷◌}
use Rattle.error_context.proofs.GrowSteps.{adds_wider, clean_wider, first_of}
use Rattle.error_context.proofs.steps.worked.Goals as goal

pub returns-in_err-stripped-in-Strip-clause-adds : goal.returns-in_err-stripped-in-Strip-clause-adds
returns-in_err-stripped-in-Strip-clause-adds c =
    adds_wider c.args.arena.now c.strip.new.arena (c.args.left ∷ []) (c.args.left ∷ c.args.right ∷ []) [] (first_of c.args.left c.args.right) c.in_err-stripped-in-Strip.ensures.err

pub returns-in_ok-stripped-in-Strip-clause-clean : goal.returns-in_ok-stripped-in-Strip-clause-clean
returns-in_ok-stripped-in-Strip-clause-clean c =
    clean_wider c.args.arena.now c.strip.new.arena (c.args.left ∷ []) (c.args.left ∷ c.args.right ∷ []) c.in_ok-stripped-in-Strip.stripped (first_of c.args.left c.args.right) c.in_ok-stripped-in-Strip.ensures.clean

pub returns-in_ok-stripped-in-Strip-clause-adds : goal.returns-in_ok-stripped-in-Strip-clause-adds
returns-in_ok-stripped-in-Strip-clause-adds c =
    adds_wider c.args.arena.now c.strip.new.arena (c.args.left ∷ []) (c.args.left ∷ c.args.right ∷ []) (c.in_ok-stripped-in-Strip.stripped ∷ []) (first_of c.args.left c.args.right) c.in_ok-stripped-in-Strip.ensures.adds

pub returns-in_err-stripped_at-in-StripAt-clause-adds : goal.returns-in_err-stripped_at-in-StripAt-clause-adds
returns-in_err-stripped_at-in-StripAt-clause-adds c =
    adds_wider c.args.arena.now c.strip_at.new.arena (c.args.left ∷ []) (c.args.left ∷ c.args.right ∷ []) [] (first_of c.args.left c.args.right) c.in_err-stripped_at-in-StripAt.ensures.err

pub returns-in_ok-stripped_at-in-StripAt-clause-clean : goal.returns-in_ok-stripped_at-in-StripAt-clause-clean
returns-in_ok-stripped_at-in-StripAt-clause-clean c =
    clean_wider c.args.arena.now c.strip_at.new.arena (c.args.left ∷ []) (c.args.left ∷ c.args.right ∷ []) c.in_ok-stripped_at-in-StripAt.stripped_at (first_of c.args.left c.args.right) c.in_ok-stripped_at-in-StripAt.ensures.clean

pub returns-in_ok-stripped_at-in-StripAt-clause-adds : goal.returns-in_ok-stripped_at-in-StripAt-clause-adds
returns-in_ok-stripped_at-in-StripAt-clause-adds c =
    adds_wider c.args.arena.now c.strip_at.new.arena (c.args.left ∷ []) (c.args.left ∷ c.args.right ∷ []) (c.in_ok-stripped_at-in-StripAt.stripped_at ∷ []) (first_of c.args.left c.args.right) c.in_ok-stripped_at-in-StripAt.ensures.adds

pub returns-in_err-outside-in-Complement-clause-adds : goal.returns-in_err-outside-in-Complement-clause-adds
returns-in_err-outside-in-Complement-clause-adds c =
    adds_wider c.args.arena.now c.not_free.new.arena (c.args.left ∷ []) (c.args.left ∷ c.args.right ∷ []) [] (first_of c.args.left c.args.right) c.in_err-outside-in-Complement.ensures.err

pub returns-in_ok-outside-in-Complement-clause-clean : goal.returns-in_ok-outside-in-Complement-clause-clean
returns-in_ok-outside-in-Complement-clause-clean c =
    clean_wider c.args.arena.now c.not_free.new.arena (c.args.left ∷ []) (c.args.left ∷ c.args.right ∷ []) c.in_ok-outside-in-Complement.outside (first_of c.args.left c.args.right) c.in_ok-outside-in-Complement.ensures.clean

pub returns-in_ok-outside-in-Complement-clause-adds : goal.returns-in_ok-outside-in-Complement-clause-adds
returns-in_ok-outside-in-Complement-clause-adds c =
    adds_wider c.args.arena.now c.not_free.new.arena (c.args.left ∷ []) (c.args.left ∷ c.args.right ∷ []) (c.in_ok-outside-in-Complement.outside ∷ []) (first_of c.args.left c.args.right) c.in_ok-outside-in-Complement.ensures.adds
