-- What was read so far of the parameters of a body, seen as plain data.
use Rattle.std.specs.Prelude.{map}
use Rattle.luau_tree.specs.View.{view_bind, view_varargs}
use Rattle.body_reader.specs.declared.bodies.Parameters as parameters
use Rattle.luau_grammar.specs.ReadExpressions.{Parameters}

abbrev pub seen_parameters : parameters.Parameters → Parameters
seen_parameters given = record { found = map view_bind given.found; rest = view_varargs given.rest }
