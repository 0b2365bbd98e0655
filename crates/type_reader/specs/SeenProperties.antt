-- What was read so far of the properties of a table type, seen as plain data.
use Rattle.std.specs.Prelude.{map}
use Rattle.luau_tree.specs.Tree.{Prop}
use Rattle.luau_tree.specs.View.{view_prop}
use Rattle.type_reader.specs.declared.properties.Properties as properties
use Rattle.luau_grammar.specs.ReadTypes.{Braced}

abbrev pub seen_properties : properties.Properties → Braced Prop
seen_properties b = record { items = map view_prop b.items; open_ended = b.open_ended }
