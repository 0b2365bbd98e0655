use Rattle.std.proofs.Common.{◌++◌, refl, sym, ◌∙◌}
use Rattle.type_normal.specs.Growing.{given_refs}
use Rattle.type_ops.proofs.GrowFacts.{adds_nothing}
use Rattle.error_context.specs.Entries.{refs_in}
use Rattle.error_context.proofs.OpFacts.{meet_right_none, meet_left_none, left_clean, right_clean}
use Rattle.error_context.proofs.operations.meet.Goals as goal

pub returns-then-right_none-clause-sets : goal.returns-then-right_none-clause-sets
returns-then-right_none-clause-sets c l =
    meet_right_none c.args.arena.now c.args.a.entries c.args.b.entries (sym c.is_none-right_none.ensures ∙ c.if-right_none.true) l

pub returns-then-right_none-clause-clean : goal.returns-then-right_none-clause-clean
returns-then-right_none-clause-clean c = right_clean c.args.arena.now c.args.a.entries c.args.b.entries c.requires.right

pub returns-then-right_none-clause-adds : goal.returns-then-right_none-clause-adds
returns-then-right_none-clause-adds c = adds_nothing c.args.arena.now (given_refs (refs_in c.args.a.entries ++ refs_in c.args.b.entries))

pub returns-then-left_none-clause-sets : goal.returns-then-left_none-clause-sets
returns-then-left_none-clause-sets c l =
    meet_left_none c.args.arena.now c.args.a.entries c.args.b.entries (sym c.is_none-left_none.ensures ∙ c.if-left_none.true) l

pub returns-then-left_none-clause-clean : goal.returns-then-left_none-clause-clean
returns-then-left_none-clause-clean c = left_clean c.args.arena.now c.args.a.entries c.args.b.entries c.requires.left

pub returns-then-left_none-clause-adds : goal.returns-then-left_none-clause-adds
returns-then-left_none-clause-adds c = adds_nothing c.args.arena.now (given_refs (refs_in c.args.a.entries ++ refs_in c.args.b.entries))

pub both-requires-clause-absent : goal.both-requires-clause-absent
both-requires-clause-absent c = refl

pub both-requires-clause-taken : goal.both-requires-clause-taken
both-requires-clause-taken c t h = h
