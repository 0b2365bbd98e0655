use Rattle.std.proofs.Common.{◌∙◌}
use Rattle.luau_scope.proofs.Uses.{more_arguments, no_arguments, one_argument}
use Rattle.luau_scope.proofs.walker.only_way.Goals as goal

pub returns-in_default : goal.returns-in_default
returns-in_default c = no_arguments c.args.args.now c.in_default.len_below

pub returns-then-others-gt0 : goal.returns-then-others-gt0
returns-then-others-gt0 c = more_arguments c.args.args.now c.in-len1-up.len_at_least c.if-others-gt0.true

pub returns : goal.returns
returns c = c.way_of.ensures ∙ one_argument c.args.args.now c.arg-item.result c.in-len1-up.len_at_least c.arg-item.is c.if-others-gt0.false
