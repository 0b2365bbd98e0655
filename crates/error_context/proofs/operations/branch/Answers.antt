use Rattle.std.proofs.Common.{true, false, ◌++◌, [], ◌∙◌}
use Rattle.type_normal.specs.Growing.{given_refs}
use Rattle.error_context.specs.Entries.{refs_in}
use Rattle.report_rules.specs.Guard.{guard}
use Rattle.std.proofs.lemmas.List.Elements.{Contains-append_left}
use Rattle.error_context.proofs.GrowSteps.{adds_wider}
use Rattle.error_context.proofs.SideFacts.{context_stays, guard_stays}
use Rattle.error_context.proofs.OpFacts.{branch_second, branch_adds, branch_clean, branch_sets}
use Rattle.error_context.proofs.operations.branch.Goals as goal

pub unless-requires-2-clause-says : goal.unless-requires-2-clause-says
unless-requires-2-clause-says c = guard_stays c.args.arena.now c.unless.new.arena (given_refs (refs_in c.args.when_true.now ++ refs_in c.args.a.entries)) [] c.args.when_false.now c.unless.ensures.adds c.requires.falsity

pub unless-requires-2-clause-context : goal.unless-requires-2-clause-context
unless-requires-2-clause-context c = context_stays c.args.arena.now c.unless.new.arena (given_refs (refs_in c.args.when_true.now ++ refs_in c.args.a.entries)) [] c.args.b.entries c.unless.ensures.adds c.requires.right

pub meet-requires-clause-left : goal.meet-requires-clause-left
meet-requires-clause-left c = context_stays c.unless.new.arena c.unless-2.new.arena (given_refs (refs_in c.args.when_false.now ++ refs_in c.args.b.entries)) [] c.in_ok-left.left.entries c.unless-2.ensures.adds c.in_ok-left.ensures.context

pub meet-requires-clause-right : goal.meet-requires-clause-right
meet-requires-clause-right c = c.in_ok-right.ensures.context

pub returns-clause-sets : goal.returns-clause-sets
returns-clause-sets c rules cond truth falsity l =
    c.in_ok-made.ensures.sets l
    ∙ branch_sets c.args.arena.now c.unless.new.arena c.unless-2.new.arena c.meet.new.arena c.args.when_true.now c.args.when_false.now c.args.a.entries c.args.b.entries c.in_ok-left.left.entries c.in_ok-right.right.entries c.requires.truth c.requires.falsity c.requires.left c.requires.right
    (record { sets = c.in_ok-left.ensures.sets; context = c.in_ok-left.ensures.context; clean = c.in_ok-left.ensures.clean; adds = c.unless.ensures.adds })
    (record { sets = c.in_ok-right.ensures.sets; context = c.in_ok-right.ensures.context; clean = c.in_ok-right.ensures.clean; adds = c.unless-2.ensures.adds })
    (guard rules cond true) (guard rules cond false) truth falsity l

pub returns-clause-clean : goal.returns-clause-clean
returns-clause-clean c =
    branch_clean c.args.arena.now c.unless.new.arena c.unless-2.new.arena c.meet.new.arena c.args.when_true.now c.args.when_false.now c.args.a.entries c.args.b.entries c.in_ok-left.left.entries c.in_ok-right.right.entries c.requires.truth c.requires.falsity c.requires.left c.requires.right
    (record { sets = c.in_ok-left.ensures.sets; context = c.in_ok-left.ensures.context; clean = c.in_ok-left.ensures.clean; adds = c.unless.ensures.adds })
    (record { sets = c.in_ok-right.ensures.sets; context = c.in_ok-right.ensures.context; clean = c.in_ok-right.ensures.clean; adds = c.unless-2.ensures.adds })
    c.in_ok-made.made.entries c.in_ok-made.ensures.clean

pub returns-clause-adds : goal.returns-clause-adds
returns-clause-adds c =
    branch_adds c.args.arena.now c.unless.new.arena c.unless-2.new.arena c.meet.new.arena c.args.when_true.now c.args.when_false.now c.args.a.entries c.args.b.entries c.in_ok-left.left.entries c.in_ok-right.right.entries c.requires.truth c.requires.falsity c.requires.left c.requires.right
    (record { sets = c.in_ok-left.ensures.sets; context = c.in_ok-left.ensures.context; clean = c.in_ok-left.ensures.clean; adds = c.unless.ensures.adds })
    (record { sets = c.in_ok-right.ensures.sets; context = c.in_ok-right.ensures.context; clean = c.in_ok-right.ensures.clean; adds = c.unless-2.ensures.adds })
    c.meet.ensures.adds

pub returns-in_err-made-clause-adds : goal.returns-in_err-made-clause-adds
returns-in_err-made-clause-adds c =
    branch_adds c.args.arena.now c.unless.new.arena c.unless-2.new.arena c.meet.new.arena c.args.when_true.now c.args.when_false.now c.args.a.entries c.args.b.entries c.in_ok-left.left.entries c.in_ok-right.right.entries c.requires.truth c.requires.falsity c.requires.left c.requires.right
    (record { sets = c.in_ok-left.ensures.sets; context = c.in_ok-left.ensures.context; clean = c.in_ok-left.ensures.clean; adds = c.unless.ensures.adds })
    (record { sets = c.in_ok-right.ensures.sets; context = c.in_ok-right.ensures.context; clean = c.in_ok-right.ensures.clean; adds = c.unless-2.ensures.adds })
    c.meet.ensures.adds

pub returns-in_err-right-clause-adds : goal.returns-in_err-right-clause-adds
returns-in_err-right-clause-adds c =
    branch_second c.args.arena.now c.unless.new.arena c.unless-2.new.arena c.unless-2.new.arena c.args.when_true.now c.args.when_false.now c.args.a.entries c.args.b.entries c.in_ok-left.left.entries c.in_ok-left.left.entries c.requires.truth c.requires.falsity c.requires.left c.requires.right
    (record { sets = c.in_ok-left.ensures.sets; context = c.in_ok-left.ensures.context; clean = c.in_ok-left.ensures.clean; adds = c.unless.ensures.adds })
    c.unless-2.ensures.adds

pub returns-in_err-left-clause-adds : goal.returns-in_err-left-clause-adds
returns-in_err-left-clause-adds c =
    adds_wider c.args.arena.now c.unless.new.arena (refs_in c.args.when_true.now ++ refs_in c.args.a.entries) ((refs_in c.args.when_true.now ++ refs_in c.args.a.entries) ++ (refs_in c.args.when_false.now ++ refs_in c.args.b.entries)) []
    (λ at inside. Contains-append_left (refs_in c.args.when_true.now ++ refs_in c.args.a.entries) (refs_in c.args.when_false.now ++ refs_in c.args.b.entries) at inside) c.unless.ensures.adds
