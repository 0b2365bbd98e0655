use Rattle.std.proofs.Common.{◌∙◌}
use Rattle.level_workers.proofs.MachineLaws.{all_drawn}
use Rattle.level_workers.proofs.PlainLemmas.{placed_plain}
use Rattle.level_workers.proofs.laws.outputs_by_number_are_the_plain_list.Goals as goal

pub returns : goal.returns
returns g c n limit draws one met outputs same given =
    placed_plain (g.T.Task.gives c.args.task.now) limit outputs (λ x. same x ∙ all_drawn n limit draws one met x) given
