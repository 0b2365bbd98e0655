use Rattle.std.proofs.Common.{◌∙◌}
use Rattle.type_arena.proofs.ShelfLemmas.{has-home, has-id, node_at-within}
use Rattle.type_arena.proofs.shelves.ShelfNodes.node.Goals as goal

pub bounds-self-at : goal.bounds-self-at
bounds-self-at c = has-home c.args.self.now.frozen.now c.args.self.now.placed c.args.at c.requires

pub at-requires : goal.at-requires
at-requires c = has-id c.args.self.now.frozen.now c.args.self.now.placed c.args.at _ c.requires

pub returns : goal.returns
returns c =
    node_at-within c.args.self.now.frozen.now c.args.self.now.placed c.args.at c.index-self-at.result
    (has-home c.args.self.now.frozen.now c.args.self.now.placed c.args.at c.requires) ∙ c.at.ensures
