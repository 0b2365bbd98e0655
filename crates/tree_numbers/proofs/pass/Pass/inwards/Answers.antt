use Rattle.std.proofs.Common.{ap, ◌∙◌}
use Rattle.luau_tree.specs.View.{view_expr}
use Rattle.tree_numbers.specs.Tails.{goes_on}
use Rattle.tree_numbers.proofs.Spines.{stop}
use Rattle.tree_numbers.proofs.pass.Pass.inwards.Goals as goal

pub returns-in-Done : goal.returns-in-Done
returns-in-Done g c =
    stop (view_expr c.args.e) c.args.numbers.now c.loop.numbers _ c.opened.new.numbers c.loop.outer c.loop.inner c.in-Done.innermost c.in_ok-id.id
    c.loop.invariant c.in_ok-id.ensures
    (c.in_ok-innermost.ensures ∙ ap (λ found. goes_on c.in_ok-id.id.0 c.loop.inner.span found c.opened.new.numbers) c.in-Done.is)
