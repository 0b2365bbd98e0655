use Rattle.std.proofs.Common.{◌∙◌}
use Rattle.type_arena.specs.Arena.{store_of}
use Rattle.type_arena.specs.Meaning.{term_of}
use Rattle.type_decl.proofs.Means.{mean_one}
use Rattle.type_decl.proofs.building.type_ref.Goals as goal

pub returns-clause-means : goal.returns-clause-means
returns-clause-means c =
    mean_one c.intern.new.self c.in_ok-at.at c.in_ok-node.node _ c.in_ok-at.ensures.node
    (c.in_ok-at.ensures.meaning ∙ c.in_ok-node.ensures.term (term_of (store_of c.args.arena.now)) ∙ c.parts_of.ensures)
