use Rattle.std.proofs.Common.{refl}
use Rattle.luau_run.specs.Machine.{◌>>=◌, give, fail, spend, step, log, look, change, ask, catch, write_field, activate}
use Rattle.luau_run.specs.Operators.{anything}
use Rattle.luau_run.specs.Calls.{acts, call_builtin, call, require}
use Rattle.luau_run.specs.Expressions.{values}
use Rattle.luau_run.specs.Loops.{turns}
use Rattle.luau_run.specs.Statements.{stat}
use Rattle.luau_run.proofs.runs.acts.acts_that_are_done.Goals as goal

pub returns : goal.returns
unfolding ◌>>=◌ give fail spend step log look change ask catch write_field activate anything acts call_builtin call require values turns stat
returns c = record {
  writes = refl;
  freezes = refl;
  leaves = refl;
  makes = refl;
  fails = refl;
  call_fails = refl;
  call_takes_a_step = refl;
}
