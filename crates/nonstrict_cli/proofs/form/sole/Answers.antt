use Rattle.nonstrict_cli.proofs.Trees.{sole_of_more}
use Rattle.nonstrict_cli.proofs.form.sole.Goals as goal

pub returns-in-len2-up : goal.returns-in-len2-up
returns-in-len2-up c = sole_of_more c.args.args.now c.in-len2-up.len_at_least
