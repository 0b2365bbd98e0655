use Rattle.std.proofs.Common.{◌≡◌, sym, ◌∙◌, ap, length, get_or, nat_lt}
use Rattle.std.specs.Prelude.{is_some}
use Rattle.type_arena.proofs.ShelfLemmas.{has-within, node_at-past}
use Rattle.type_arena.specs.declared.frozen.Frozen.{Frozen}
use Rattle.type_arena.proofs.shelves.ShelfNodes.has.Goals as goal

pub returns-in-Some : goal.returns-in-Some
returns-in-Some c =
    let found = c.in-Some.ensures.lookup in
    let arena : Frozen = c.in-Some.arena.now in
    let here : arena ≡ get_or c.args.self.now.frozen.now c.args.at.home arena = found.1 in
    let same = has-within c.args.self.now.frozen.now c.args.self.now.placed c.args.at arena found.3.0 in
    ap (nat_lt c.args.at.id) (c.len.ensures ∙ ap (λ (a : Frozen). length a.nodes.keys) here) ∙ sym same

pub returns-in-None : goal.returns-in-None
returns-in-None c = sym (ap is_some (node_at-past c.args.self.now.frozen.now c.args.self.now.placed c.args.at c.in-None.ensures.lookup.3))
