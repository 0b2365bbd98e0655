use Rattle.std.proofs.Common.{refl}
use Rattle.luau_run.specs.Machine.{◌>>=◌, give, fail, spend, step, log, look, change, ask, catch, write_field, activate}
use Rattle.luau_run.specs.Operators.{anything}
use Rattle.luau_run.specs.Calls.{acts, call_builtin, call, require}
use Rattle.luau_run.specs.Expressions.{values}
use Rattle.luau_run.specs.Loops.{turns}
use Rattle.luau_run.specs.Statements.{stat}
use Rattle.luau_run.proofs.runs.call_of_abs.wrong_argument.Goals as goal

pub returns-clause-five_steps : goal.returns-clause-five_steps
unfolding ◌>>=◌ give fail spend step log look change ask catch write_field activate anything acts call_builtin call require values turns stat
returns-clause-five_steps c = refl

pub returns-clause-four_steps : goal.returns-clause-four_steps
unfolding ◌>>=◌ give fail spend step log look change ask catch write_field activate anything acts call_builtin call require values turns stat
returns-clause-four_steps c = refl

pub returns-clause-three_steps : goal.returns-clause-three_steps
unfolding ◌>>=◌ give fail spend step log look change ask catch write_field activate anything acts call_builtin call require values turns stat
returns-clause-three_steps c = refl
