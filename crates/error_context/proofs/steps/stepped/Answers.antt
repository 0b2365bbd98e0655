use Rattle.error_context.proofs.StepFacts.{one_clean}
use Rattle.error_context.proofs.steps.stepped.Goals as goal

pub returns-in-Some-clause-clean : goal.returns-in-Some-clause-clean
returns-in-Some-clause-clean c =
    one_clean c.args.arena.now c.args.left c.args.right c.in-Some.at c.requires.left c.requires.right c.in-Some.ensures.among
