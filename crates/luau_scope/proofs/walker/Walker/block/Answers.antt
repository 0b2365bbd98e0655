use Rattle.std.proofs.Common.{List}
use Rattle.luau_tree.specs.declared.tree as code
use Rattle.luau_tree.specs.View.{view_stats}
use Rattle.std.proofs.Common.{ap, ◌∙◌}
use Rattle.luau_scope.specs.Steps.{after_close, after_stats, run}
use Rattle.luau_scope.proofs.Pushes.{before, pushed}
use Rattle.luau_scope.proofs.VisitBlocks.{block_visit}
use Rattle.luau_scope.proofs.walker.Walker.block.Goals as goal

pub returns : goal.returns
returns c = pushed c.push-2.result _ _ _ _ _ _ c.push-2.ensures.ok (before _ _ _ _ c.in_ok-push.ensures.ok ∙ ap (λ (xs : List code.Stat.Stat). run c.args.tasks.now (after_close c.len.result (after_stats c.args.within (view_stats xs) c.args.self.now))) c.as_slice.ensures ∙ ap (run c.args.tasks.now) (block_visit c.args.within c.args.block.now c.len.result c.args.self.now c.len.ensures))
