use Rattle.std.proofs.Common.{◌∷◌, [], ap, ◌∙◌}
use Rattle.type_arena.specs.Arena.{store_of}
use Rattle.type_arena.specs.Meaning.{term_of}
use Rattle.type_normal.specs.Holds.{holds}
use Rattle.type_normal.proofs.Public.{meet_holds}
use Rattle.type_normal.specs.Growing.{given_refs}
use Rattle.type_ops.proofs.GrowFacts.{adds_clean}
use Rattle.type_ops.proofs.meeting.meet.Goals as goal

pub returns-clause-values : goal.returns-clause-values
returns-clause-values c h v = ap (holds h v) c.in_ok-at.ensures.term ∙ meet_holds h v (term_of (store_of c.args.arena.now) c.args.a) (term_of (store_of c.args.arena.now) c.args.b)

pub returns-clause-adds : goal.returns-clause-adds
returns-clause-adds c = adds_clean c.args.arena.now c.meet_types.new.arena (given_refs (c.args.a ∷ c.args.b ∷ [])) [] c.in_ok-at.at c.in_ok-at.ensures.adds c.in_ok-at.ensures.clean
