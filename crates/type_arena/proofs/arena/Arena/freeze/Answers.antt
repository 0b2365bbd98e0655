use Rattle.std.proofs.Common.{sym, ap, List}
use Rattle.std.specs.Prelude.{slice_get}
use Rattle.type_arena.specs.Shelf.{shelf_store}
use Rattle.type_arena.specs.declared.node.Node.{Node}
use Rattle.type_arena.proofs.ArenaLemmas.{IsOrdered-own, nodes_at-own, apart_from-placed}
use Rattle.type_arena.proofs.MeaningLemmas.{term_of-same}
use Rattle.type_arena.proofs.arena.Arena.freeze.Goals as goal

pub invariant_of-result : goal.invariant_of-result
invariant_of-result c =
    record { ordered = IsOrdered-own (shelf_store c.args.self.shelf) c.args.self.shelf.placed c.args.self.home c.args.self.above c.args.self.own.keys c.args.self.sound }

pub returns-clause-meaning : goal.returns-clause-meaning
returns-clause-meaning c store sound at has_reached =
    sym (term_of-same _ store c.args.self.sound sound at (λ far reached. sym (ap (λ (nodes : List Node). slice_get nodes far.id) (has_reached far reached))))

pub returns-clause-own : goal.returns-clause-own
returns-clause-own c =
    nodes_at-own (shelf_store c.args.self.shelf) c.args.self.home c.args.self.own.keys (apart_from-placed (shelf_store c.args.self.shelf) c.args.self.shelf.placed c.args.self.home c.args.self.above)
