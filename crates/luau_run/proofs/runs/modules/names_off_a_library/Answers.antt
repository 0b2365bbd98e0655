use Rattle.std.proofs.Common.{refl}
use Rattle.luau_run.specs.Machine.{◌>>=◌, give, fail, spend, step, log, look, change, ask, catch, write_field, activate}
use Rattle.luau_run.specs.Operators.{anything}
use Rattle.luau_run.specs.Calls.{acts, call_builtin, call, require}
use Rattle.luau_run.specs.Expressions.{values}
use Rattle.luau_run.specs.Loops.{turns}
use Rattle.luau_run.specs.Statements.{stat}
use Rattle.luau_run.proofs.runs.modules.names_off_a_library.Goals as goal

pub returns : goal.returns
unfolding ◌>>=◌ give fail spend step log look change ask catch write_field activate anything acts call_builtin call require values turns stat
returns c = record {
  field = refl;
  key = refl;
  computed_key = refl;
  declared = refl;
  method = refl;
  compound = refl;
  compound_writes = refl;
  local = refl;
}
