-- What was read so far of a block, of a method's name and of the bounds of a loop, seen as plain data.
use Rattle.std.specs.Prelude.{map}
use Rattle.luau_tree.specs.View.{view_expr, view_maybe_expr, view_stat}
use Rattle.stat_reader.specs.declared.statements.Statements as code
use Rattle.stat_reader.specs.declared.declarations.MethodName as name
use Rattle.stat_reader.specs.declared.branches.Range as bounds
use Rattle.luau_grammar.specs.ReadStatements.{Statements, MethodName, Range}

abbrev pub seen_statements : code.Statements → Statements
seen_statements given = record { found = map view_stat given.found; ended = given.ended }

abbrev pub seen_method : name.MethodName → MethodName
seen_method m = record { name = m.name; span = m.span }

abbrev pub seen_range : bounds.Range → Range
seen_range r = record { first = view_expr r.first; to = view_expr r.to; step = view_maybe_expr r.step }
