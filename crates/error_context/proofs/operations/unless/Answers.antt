use Rattle.std.proofs.Common.{◌++◌, [], ◌∙◌}
use Rattle.type_normal.specs.Growing.{given_refs}
use Rattle.error_context.specs.Entries.{refs_in}
use Rattle.error_context.proofs.GrowSteps.{adds_wider}
use Rattle.error_context.proofs.SideFacts.{context_stays}
use Rattle.std.proofs.lemmas.List.Elements.{Contains-append_left}
use Rattle.error_context.proofs.OpFacts.{unless_adds, unless_clean, unless_sets}
use Rattle.error_context.proofs.operations.unless.Goals as goal

pub one-requires-clause-sorted : goal.one-requires-clause-sorted
one-requires-clause-sorted c = c.requires.says.sorted

pub one-requires-clause-there : goal.one-requires-clause-there
one-requires-clause-there c = c.requires.says.there

pub one-requires-clause-taken : goal.one-requires-clause-taken
one-requires-clause-taken c = c.requires.says.normal

pub join-requires-clause-left : goal.join-requires-clause-left
join-requires-clause-left c =
    context_stays c.args.arena.now c.one.new.arena (given_refs (refs_in c.args.says.now)) [] c.args.a.entries c.one.ensures.adds c.requires.context

pub join-requires-clause-right : goal.join-requires-clause-right
join-requires-clause-right c = c.in_ok-entries.ensures.context

pub returns-clause-sets : goal.returns-clause-sets
returns-clause-sets c l =
    c.in_ok-made.ensures.sets l
    ∙ unless_sets c.args.arena.now c.one.new.arena c.join.new.arena c.args.says.now c.args.a.entries c.in_ok-entries.entries c.requires.says c.requires.context
    (record { sets = c.in_ok-entries.ensures.entries; context = c.in_ok-entries.ensures.context; clean = c.in_ok-entries.ensures.clean; adds = c.one.ensures.adds })
    c.join.ensures.adds l

pub returns-clause-clean : goal.returns-clause-clean
returns-clause-clean c =
    unless_clean c.args.arena.now c.one.new.arena c.join.new.arena c.args.says.now c.args.a.entries c.in_ok-entries.entries c.requires.says c.requires.context
    (record { sets = c.in_ok-entries.ensures.entries; context = c.in_ok-entries.ensures.context; clean = c.in_ok-entries.ensures.clean; adds = c.one.ensures.adds })
    c.join.ensures.adds c.in_ok-made.made.entries c.in_ok-made.ensures.clean

pub returns-clause-adds : goal.returns-clause-adds
returns-clause-adds c =
    unless_adds c.args.arena.now c.one.new.arena c.join.new.arena c.args.says.now c.args.a.entries c.in_ok-entries.entries c.requires.says c.requires.context
    (record { sets = c.in_ok-entries.ensures.entries; context = c.in_ok-entries.ensures.context; clean = c.in_ok-entries.ensures.clean; adds = c.one.ensures.adds })
    c.join.ensures.adds

pub returns-in_err-made-clause-adds : goal.returns-in_err-made-clause-adds
returns-in_err-made-clause-adds c =
    unless_adds c.args.arena.now c.one.new.arena c.join.new.arena c.args.says.now c.args.a.entries c.in_ok-entries.entries c.requires.says c.requires.context
    (record { sets = c.in_ok-entries.ensures.entries; context = c.in_ok-entries.ensures.context; clean = c.in_ok-entries.ensures.clean; adds = c.one.ensures.adds })
    c.join.ensures.adds

pub returns-in_err-entries-clause-adds : goal.returns-in_err-entries-clause-adds
returns-in_err-entries-clause-adds c =
    adds_wider c.args.arena.now c.one.new.arena (refs_in c.args.says.now) (refs_in c.args.says.now ++ refs_in c.args.a.entries) []
    (λ at inside. Contains-append_left (refs_in c.args.says.now) (refs_in c.args.a.entries) at inside) c.one.ensures.adds
