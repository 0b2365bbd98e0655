-- Words for the laws.
use Rattle.std.specs.Prelude.{map, option_map}
use Rattle.luau_run.specs.Signature as run
use Rattle.report_rules.specs.Rules.{TypedBuiltin}
use Rattle.type_decl.specs.Runs.{values_of}

-- what a run has of a builtin that the rules read
abbrev pub run_builtin : TypedBuiltin → run.Signature
run_builtin b = record {
  params = map values_of b.params;
  rest = option_map values_of b.rest;
  results = map values_of b.results;
  more = option_map values_of b.more;
  checked = b.checked;
  quiet = b.quiet;
}
