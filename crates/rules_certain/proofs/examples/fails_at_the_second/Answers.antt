use Rattle.std.proofs.Common.{refl}
use Rattle.luau_run.specs.Machine.{◌>>=◌, give, fail, spend, step, log, look, change, ask, catch, write_field, activate}
use Rattle.luau_run.specs.Operators.{anything}
use Rattle.luau_run.specs.Calls.{acts, call_builtin, call, require}
use Rattle.luau_run.specs.Expressions.{values}
use Rattle.luau_run.specs.Loops.{turns}
use Rattle.luau_run.specs.Statements.{stat}
use Rattle.rules_certain.proofs.examples.fails_at_the_second.Goals as goal

pub returns-clause-fails : goal.returns-clause-fails
unfolding ◌>>=◌ give fail spend step log look change ask catch write_field activate anything acts call_builtin call require values turns stat
returns-clause-fails c = refl

pub returns-clause-unanswered : goal.returns-clause-unanswered
unfolding ◌>>=◌ give fail spend step log look change ask catch write_field activate anything acts call_builtin call require values turns stat
returns-clause-unanswered c = refl
