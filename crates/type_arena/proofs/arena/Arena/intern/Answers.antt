use Rattle.std.proofs.Common.{ℕ, Bool}
use Rattle.type_arena.specs.Shelf.{shelf_store}
use Rattle.type_arena.specs.Store.{Interned}
use Rattle.type_arena.proofs.EqLemmas.{node_tested}
use Rattle.type_arena.proofs.ArenaLemmas.{Interned-from_insert}
use Rattle.type_arena.proofs.InternLemmas.{interned-keeps, interned-node, interned-kept, interned-meaning, interned-homes, sound_either_way}
use Rattle.type_arena.proofs.arena.Arena.intern.Goals.{In_ok-id}
use Rattle.type_arena.proofs.arena.Arena.intern.Goals as goal

pub invariant_of-self : goal.invariant_of-self
invariant_of-self c =
    let was = c.args.self.now in
    let did = c.insert_full.ensures in
    record {
      above = was.above;
      sound = sound_either_way (shelf_store was.shelf) was.shelf.placed was.home was.above _ node_tested was.own.keys c.insert_full.new.self.keys c.args.node (λ (r : ℕ × Bool). r.0) c.insert_full.result was.sound c.requires did.keys did.index did.err;
    }

-- what the set did is to intern the node
interned : (c : In_ok-id) → Interned c.args.self.now.own.keys c.insert_full.new.self.keys c.args.node c.in_ok-id.id
interned c = Interned-from_insert _ node_tested c.args.node c.args.self.now.own.keys c.insert_full.new.self.keys c.in_ok-id.id c.in_ok-id.ensures.keys c.in_ok-id.ensures.index

pub returns-clause-interned : goal.returns-clause-interned
returns-clause-interned c = interned (goal.at.returns-clause-interned c).In_ok-id

pub returns-clause-node : goal.returns-clause-node
returns-clause-node c =
    let d = (goal.at.returns-clause-node c).In_ok-id in
    interned-node (shelf_store d.args.self.now.shelf) d.args.self.now.shelf.placed d.args.self.now.home d.args.self.now.above d.args.self.now.own.keys d.insert_full.new.self.keys d.args.node d.in_ok-id.id d.args.self.now.sound d.requires (interned d)

pub returns-clause-meaning : goal.returns-clause-meaning
returns-clause-meaning c =
    let d = (goal.at.returns-clause-meaning c).In_ok-id in
    interned-meaning (shelf_store d.args.self.now.shelf) d.args.self.now.shelf.placed d.args.self.now.home d.args.self.now.above d.args.self.now.own.keys d.insert_full.new.self.keys d.args.node d.in_ok-id.id d.args.self.now.sound d.requires (interned d)

pub returns-clause-keeps : goal.returns-clause-keeps
returns-clause-keeps c =
    let d = (goal.at.returns-clause-keeps c).In_ok-id in
    interned-keeps (shelf_store d.args.self.now.shelf) d.args.self.now.shelf.placed d.args.self.now.home d.args.self.now.above d.args.self.now.own.keys d.insert_full.new.self.keys d.args.node d.in_ok-id.id d.args.self.now.sound d.requires (interned d)

pub returns-clause-kept : goal.returns-clause-kept
returns-clause-kept c =
    let d = (goal.at.returns-clause-kept c).In_ok-id in
    interned-kept (shelf_store d.args.self.now.shelf) d.args.self.now.shelf.placed d.args.self.now.home d.args.self.now.above d.args.self.now.own.keys d.insert_full.new.self.keys d.args.node d.in_ok-id.id d.args.self.now.sound d.requires (interned d)

pub returns-clause-homes : goal.returns-clause-homes
returns-clause-homes c =
    let d = (goal.at.returns-clause-homes c).In_ok-id in
    interned-homes (shelf_store d.args.self.now.shelf) d.args.self.now.shelf.placed d.args.self.now.home d.args.self.now.above d.args.self.now.own.keys d.insert_full.new.self.keys d.args.node d.in_ok-id.id d.args.self.now.sound d.requires (interned d)
