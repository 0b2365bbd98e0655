use Rattle.std.proofs.Common.{◌++◌, [], ◌∙◌}
use Rattle.std.proofs.lemmas.List.Elements.{Contains-append_right}
use Rattle.type_normal.specs.Growing.{given_refs}
use Rattle.report_rules.specs.Context.{pass}
use Rattle.error_context.specs.Entries.{context_of, refs_in}
use Rattle.error_context.proofs.GrowSteps.{adds_wider}
use Rattle.error_context.proofs.SideFacts.{context_stays}
use Rattle.error_context.proofs.OpFacts.{followed_adds, followed_clean, followed_sets}
use Rattle.error_context.proofs.following.followed.Goals as goal

pub join-requires-clause-left : goal.join-requires-clause-left
join-requires-clause-left c =
    context_stays c.args.arena.now c.pass.new.arena (given_refs (refs_in c.args.rest.entries)) [] c.args.part.entries c.pass.ensures.adds c.requires.part

pub join-requires-clause-right : goal.join-requires-clause-right
join-requires-clause-right c = c.in_ok-passed.ensures.context

pub returns-clause-sets : goal.returns-clause-sets
returns-clause-sets c l =
    c.in_ok-made.ensures.sets l
    ∙ followed_sets c.args.arena.now c.pass.new.arena c.join.new.arena c.args.part.entries c.args.rest.entries c.in_ok-passed.passed.entries
    (pass c.args.has_effects (context_of c.args.arena.now c.args.rest.entries)) c.requires.part
    (record { sets = c.in_ok-passed.ensures.sets; context = c.in_ok-passed.ensures.context; clean = c.in_ok-passed.ensures.clean; adds = c.pass.ensures.adds })
    c.join.ensures.adds l

pub returns-clause-clean : goal.returns-clause-clean
returns-clause-clean c =
    followed_clean c.args.arena.now c.pass.new.arena c.join.new.arena c.args.part.entries c.args.rest.entries c.in_ok-passed.passed.entries
    (pass c.args.has_effects (context_of c.args.arena.now c.args.rest.entries)) c.requires.part
    (record { sets = c.in_ok-passed.ensures.sets; context = c.in_ok-passed.ensures.context; clean = c.in_ok-passed.ensures.clean; adds = c.pass.ensures.adds })
    c.join.ensures.adds c.in_ok-made.made.entries c.in_ok-made.ensures.clean

pub returns-clause-adds : goal.returns-clause-adds
returns-clause-adds c =
    followed_adds c.args.arena.now c.pass.new.arena c.join.new.arena c.args.part.entries c.args.rest.entries c.in_ok-passed.passed.entries
    (pass c.args.has_effects (context_of c.args.arena.now c.args.rest.entries)) c.requires.part
    (record { sets = c.in_ok-passed.ensures.sets; context = c.in_ok-passed.ensures.context; clean = c.in_ok-passed.ensures.clean; adds = c.pass.ensures.adds })
    c.join.ensures.adds

pub returns-in_err-made-clause-adds : goal.returns-in_err-made-clause-adds
returns-in_err-made-clause-adds c =
    followed_adds c.args.arena.now c.pass.new.arena c.join.new.arena c.args.part.entries c.args.rest.entries c.in_ok-passed.passed.entries
    (pass c.args.has_effects (context_of c.args.arena.now c.args.rest.entries)) c.requires.part
    (record { sets = c.in_ok-passed.ensures.sets; context = c.in_ok-passed.ensures.context; clean = c.in_ok-passed.ensures.clean; adds = c.pass.ensures.adds })
    c.join.ensures.adds

pub returns-in_err-passed-clause-adds : goal.returns-in_err-passed-clause-adds
returns-in_err-passed-clause-adds c =
    adds_wider c.args.arena.now c.pass.new.arena (refs_in c.args.rest.entries) (refs_in c.args.part.entries ++ refs_in c.args.rest.entries) []
    (λ at inside. Contains-append_right (refs_in c.args.part.entries) (refs_in c.args.rest.entries) at inside) c.pass.ensures.adds
