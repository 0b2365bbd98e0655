use Rattle.luau_tree.specs.View.{view_expr}
use Rattle.tree_numbers.specs.Tails.{closed}
use Rattle.tree_numbers.proofs.Spines.{closes}
use Rattle.tree_numbers.proofs.pass.Pass.outwards.Goals as goal

pub loop-last-preserved : goal.loop-last-preserved
loop-last-preserved g c =
    closes (closed c.args.outer (view_expr c.args.e) c.args.numbers.now) c.loop-last.rest c.pop.new.self c.in-Some.last (view_expr c.loop-last.done)
    (view_expr c.in_ok-done.done) c.loop-last.numbers c.with_tail.new.numbers c.loop-last.invariant c.in-Some.ensures c.in_ok-done.ensures
