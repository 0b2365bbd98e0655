use Rattle.std.proofs.Common.{refl}
use Rattle.luau_run.specs.Machine.{◌>>=◌, give, fail, spend, step, log, look, change, ask, catch, write_field, activate}
use Rattle.luau_run.specs.Operators.{anything}
use Rattle.luau_run.specs.Calls.{acts, call_builtin, call, require}
use Rattle.luau_run.specs.Expressions.{values}
use Rattle.luau_run.specs.Loops.{turns}
use Rattle.luau_run.specs.Statements.{stat}
use Rattle.luau_run.proofs.runs.calls.calls_that_give.Goals as goal

pub returns : goal.returns
unfolding ◌>>=◌ give fail spend step log look change ask catch write_field activate anything acts call_builtin call require values turns stat
returns c = record {
  method = refl;
  on_field = refl;
  on_method = refl;
  all = refl;
  not_last = refl;
  parentheses = refl;
  asserted = refl;
  loaded_once = refl;
}
