-- What was read so far of a table constructor, seen as plain data.
use Rattle.std.specs.Prelude.{map}
use Rattle.luau_tree.specs.Tree.{Item}
use Rattle.luau_tree.specs.View.{view_item}
use Rattle.prefix_reader.specs.declared.suffixes.Fields as fields
use Rattle.luau_grammar.specs.ReadTypes.{Braced}

abbrev pub seen_fields : fields.Fields → Braced Item
seen_fields given = record { items = map view_item given.items; open_ended = given.open_ended }
