-- What was read so far of an interpolated string, seen as plain data.
use Rattle.std.specs.Prelude.{map}
use Rattle.luau_tree.specs.View.{view_expr}
use Rattle.expr_reader.specs.declared.interpolated.Interpolated as code
use Rattle.luau_grammar.specs.ReadExpressions.{Interpolated}

abbrev pub seen_interpolated : code.Interpolated → Interpolated
seen_interpolated it = record { texts = it.texts.items; parts = map view_expr it.parts; open_ended = it.open_ended }
