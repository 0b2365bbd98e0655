use Rattle.type_arena.specs.Arena.{store_of}
use Rattle.type_terms.specs.Leaves.{leaf_of}
use Rattle.type_terms.specs.View.{view_term}
use Rattle.type_terms.proofs.Steps.{leaf_made, leaf_adds, leaf_there}
use Rattle.type_terms.proofs.folding.leaf.Goals as goal

pub put-requires : goal.put-requires
put-requires c = leaf_there (store_of c.args.arena.now) (leaf_of (view_term c.args.term.now)) c.in_ok-node.node c.in_ok-node.ensures

pub returns-in_err-at-clause-adds : goal.returns-in_err-at-clause-adds
returns-in_err-at-clause-adds c = leaf_adds c.args.arena.now c.put.new.arena (leaf_of (view_term c.args.term.now)) c.in_ok-node.node c.in_ok-node.ensures c.put.ensures.adds

pub returns-clause-made : goal.returns-clause-made
returns-clause-made c = leaf_made c.args.arena.now c.put.new.arena (leaf_of (view_term c.args.term.now)) c.in_ok-node.node c.in_ok-at.at c.in_ok-node.ensures c.in_ok-at.ensures.made

pub returns-clause-adds : goal.returns-clause-adds
returns-clause-adds c = leaf_adds c.args.arena.now c.put.new.arena (leaf_of (view_term c.args.term.now)) c.in_ok-node.node c.in_ok-node.ensures c.put.ensures.adds
