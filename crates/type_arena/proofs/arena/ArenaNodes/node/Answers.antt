use Rattle.std.proofs.Common.{◌≡◌, sym, ◌∙◌, ap, true}
use Rattle.std.specs.Prelude.{is_some, slice_get}
use Rattle.std.proofs.lemmas.Bool.{ltb-true}
use Rattle.type_arena.specs.Shelf.{shelf_store}
use Rattle.type_arena.proofs.ArenaLemmas.{node_at-own, node_at-under}
use Rattle.type_arena.proofs.StoreLemmas.{is_some-slice_get}
use Rattle.type_arena.proofs.arena.ArenaNodes.node.Goals as goal

pub nth_node-requires : goal.nth_node-requires
nth_node-requires c =
    let here = c.args.self.now in
    let there : is_some (slice_get here.own.keys c.args.at.id) ≡ true = sym (ap is_some (node_at-own (shelf_store here.shelf) here.shelf.placed here.home here.above here.own.keys c.args.at c.if-at-self.true)) ∙ c.requires in
    ltb-true _ _ (sym (is_some-slice_get here.own.keys c.args.at.id) ∙ there)

pub node-requires : goal.node-requires
node-requires c =
    let here = c.args.self.now in
    sym (ap is_some (node_at-under (shelf_store here.shelf) here.shelf.placed here.home here.above here.own.keys c.args.at c.if-at-self.false)) ∙ c.requires

pub returns-then-at-self : goal.returns-then-at-self
returns-then-at-self c =
    let here = c.args.self.now in
    node_at-own (shelf_store here.shelf) here.shelf.placed here.home here.above here.own.keys c.args.at c.if-at-self.true ∙ c.nth_node.ensures

pub returns-else-at-self : goal.returns-else-at-self
returns-else-at-self c =
    let here = c.args.self.now in
    node_at-under (shelf_store here.shelf) here.shelf.placed here.home here.above here.own.keys c.args.at c.if-at-self.false ∙ c.node.ensures
