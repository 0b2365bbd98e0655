use Rattle.std.proofs.Common.{refl}
use Rattle.luau_run.specs.Machine.{◌>>=◌, give, fail, spend, step, log, look, change, ask, catch, write_field, activate}
use Rattle.luau_run.specs.Operators.{anything}
use Rattle.luau_run.specs.Calls.{acts, call_builtin, call, require}
use Rattle.luau_run.specs.Expressions.{values}
use Rattle.luau_run.specs.Loops.{turns}
use Rattle.luau_run.specs.Statements.{stat}
use Rattle.luau_run.proofs.runs.loops.loops_that_turn.Goals as goal

pub returns : goal.returns
unfolding ◌>>=◌ give fail spend step log look change ask catch write_field activate anything acts call_builtin call require values turns stat
returns c = record {
  until_sees_body = refl;
  continue_meets_until = refl;
  repeat_goes_on = refl;
  break_ends_repeat = refl;
  while_turns = refl;
  while_ends = refl;
  table = refl;
  function = refl;
  builtin = refl;
  builtin_ends = refl;
  cells = refl;
}
