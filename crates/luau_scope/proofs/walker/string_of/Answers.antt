use Rattle.luau_scope.proofs.Uses.{quoted, unquoted}
use Rattle.luau_scope.proofs.walker.string_of.Goals as goal

pub returns-in-Str : goal.returns-in-Str
returns-in-Str c = quoted c.args.e.now c.in-Str.text c.in-Str.is

pub returns-in_default : goal.returns-in_default
returns-in_default c = unquoted c.args.e.now c.in_default.not-Str
