use Rattle.std.proofs.Common.{sym, ◌∙◌, ap, nat_lt}
use Rattle.std.specs.Prelude.{is_some}
use Rattle.type_arena.specs.Shelf.{shelf_store}
use Rattle.type_arena.proofs.ArenaLemmas.{node_at-own, node_at-under}
use Rattle.type_arena.proofs.StoreLemmas.{is_some-slice_get}
use Rattle.type_arena.proofs.arena.ArenaNodes.has.Goals as goal

pub returns-then-at-self : goal.returns-then-at-self
returns-then-at-self c =
    let here = c.args.self.now in
    ap (nat_lt c.args.at.id) c.len.ensures.len ∙ (sym (is_some-slice_get here.own.keys c.args.at.id)
    ∙ sym (ap is_some (node_at-own (shelf_store here.shelf) here.shelf.placed here.home here.above here.own.keys c.args.at c.if-at-self.true)))

pub returns-else-at-self : goal.returns-else-at-self
returns-else-at-self c =
    let here = c.args.self.now in
    c.has.ensures ∙ sym (ap is_some (node_at-under (shelf_store here.shelf) here.shelf.placed here.home here.above here.own.keys c.args.at c.if-at-self.false))
